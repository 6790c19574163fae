-- What a task or a rule is made of, while its options are evaluated.
use Rattle.std.specs.Prelude.{ℕ, ℤ, pos, negsuc, Bool, true, false, ◌&&◌, List, [], Ok, Err, nat_le, cond}
use Rattle.bds_value.specs.declared.TheConstants.{MAX_CPUS, MAX_RETRY}
use Rattle.bds_value.specs.declared.value.Value.{Value}
use Rattle.bds_value.specs.declared.value.Value.TheVariants as value
use Rattle.bds_value.specs.declared.faults.RunFault.TheVariants.{BadOption}
use Rattle.bds_value.specs.Readers.{is_true, number_in, text_in, texts_in}
use Rattle.bds_tasks.specs.declared.task.TaskNew.{TaskNew}
use Rattle.bds_rules.specs.declared.rule.Rule.{Rule}
use Rattle.bds_schedule.specs.Values.{of_texts}
use Rattle.bds_schedule.specs.Faults.{Outcome, and_then}

-- what an option sets
pub data Setting : Type 0 where
  Outputs : Setting
  Inputs : Setting
  Processors : Setting
  CanFail : Setting
  Retries : Setting
  TaskName : Setting
  -- it sets nothing, but the task is needed only where it is true
  Condition : Setting

-- the values of the options so far, and whether the task is needed
pub record Work : Type 0 where
  pub outs : Value
  pub ins : Value
  pub cpus : Value
  pub can_fail : Value
  pub retry : Value
  pub name : Value
  pub needed : Bool

-- the values of options that aren't there
abbrev pub unset : Work
unset = record { outs = of_texts []; ins = of_texts []; cpus = value.Int (pos 1); can_fail = value.Bool false; retry = value.Int (pos 0); name = value.Text []; needed = true }

-- behind an option with a value
abbrev pub noted : Setting → Value → Work → Work
noted Outputs v w = record { outs = v; ins = w.ins; cpus = w.cpus; can_fail = w.can_fail; retry = w.retry; name = w.name; needed = w.needed }
noted Inputs v w = record { outs = w.outs; ins = v; cpus = w.cpus; can_fail = w.can_fail; retry = w.retry; name = w.name; needed = w.needed }
noted Processors v w = record { outs = w.outs; ins = w.ins; cpus = v; can_fail = w.can_fail; retry = w.retry; name = w.name; needed = w.needed }
noted CanFail v w = record { outs = w.outs; ins = w.ins; cpus = w.cpus; can_fail = v; retry = w.retry; name = w.name; needed = w.needed }
noted Retries v w = record { outs = w.outs; ins = w.ins; cpus = w.cpus; can_fail = w.can_fail; retry = v; name = w.name; needed = w.needed }
noted TaskName v w = record { outs = w.outs; ins = w.ins; cpus = w.cpus; can_fail = w.can_fail; retry = w.retry; name = v; needed = w.needed }
noted Condition v w = record { outs = w.outs; ins = w.ins; cpus = w.cpus; can_fail = w.can_fail; retry = w.retry; name = w.name; needed = is_true v && w.needed }

-- a number in a range, else the fault that names it
abbrev pub ranged : ℕ → ℕ → ℤ → Outcome ℕ
ranged low high (pos n) = cond (nat_le low n && nat_le n high) (Ok n) (Err (BadOption (pos n)))
ranged low high (negsuc n) = Err (BadOption (negsuc n))

-- with its numbers in their ranges; of two that aren't, the processors are named
abbrev pub in_ranges : {X : Type 0} → Work → (ℕ → ℕ → X) → Outcome X
in_ranges w make = and_then (ranged 1 MAX_CPUS (number_in w.cpus)) (λ cpus. and_then (ranged 0 MAX_RETRY (number_in w.retry)) (λ retry. Ok (make cpus retry)))

-- the task of a command, whose maker isn't known here
abbrev pub task_of : Work → List ℕ → ℕ → ℕ → TaskNew
task_of w command cpus retry = record { maker = 0; command = command; name = text_in w.name; outs = texts_in w.outs; ins = texts_in w.ins; cpus = cpus; can_fail = is_true w.can_fail; retry = retry }

abbrev pub rule_of : Work → List ℕ → ℕ → ℕ → Rule
rule_of w command cpus retry = record { outs = texts_in w.outs; ins = texts_in w.ins; cpus = cpus; can_fail = is_true w.can_fail; retry = retry; name = text_in w.name; command = command }
