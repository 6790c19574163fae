-- Tasks and rules made of operands.
use Rattle.std.specs.Prelude.{ℕ, ℤ, pos, negsuc, ◌&&◌, nat_le, List, cond, Bool, Option, Some, Ok, Err}
use Rattle.bds_value.specs.declared.TheConstants.{MAX_CPUS, MAX_RETRY}
use Rattle.bds_value.specs.declared.faults.RunFault.TheVariants.{BadOption}
use Rattle.bds_value.specs.Options.{◌>>=◌}
use Rattle.bds_value.specs.Readers.{as_bool, as_int, as_text, as_texts}
use Rattle.bds_rules.specs.declared.rule.Rule.{Rule}
use Rattle.bds_tasks.specs.declared.task.TaskNew.{TaskNew}
use Rattle.bds_code_frames.specs.Stack.{Stack}
use Rattle.bds_machine_values.specs.Operands.{taken_as}
use Rattle.bds_machine_values.specs.Faults.{Outcome, and_then}

-- a number in a range, else the fault that names it
abbrev pub ranged : ℕ → ℕ → ℤ → Outcome ℕ
ranged low high (pos n) = cond (nat_le low n && nat_le n high) (Some (Ok n)) (Some (Err (BadOption (pos n))))
ranged low high (negsuc n) = Some (Err (BadOption (negsuc n)))

-- the processors that a task may take
abbrev pub processors : ℤ → Outcome ℕ
processors n = ranged 1 MAX_CPUS n

-- how often a task may be tried again
abbrev pub retries : ℤ → Outcome ℕ
retries n = ranged 0 MAX_RETRY n

-- what tasks and rules are made of
pub record Work : Type 0 where
  pub outs : List (List ℕ)
  pub ins : List (List ℕ)
  pub cpus : ℤ
  pub can_fail : Bool
  pub retry : ℤ
  pub name : List ℕ
  pub command : List ℕ

-- the operands of a task, the command last
abbrev pub work_taken : Stack → Option (Work × Stack)
work_taken s =
    taken_as as_text s >>= λ command.
    taken_as as_text command.1 >>= λ name.
    taken_as as_int name.1 >>= λ retry.
    taken_as as_bool retry.1 >>= λ can_fail.
    taken_as as_int can_fail.1 >>= λ cpus.
    taken_as as_texts cpus.1 >>= λ ins.
    taken_as as_texts ins.1 >>= λ outs.
    Some (record { outs = outs.0; ins = ins.0; cpus = cpus.0; can_fail = can_fail.0; retry = retry.0; name = name.0; command = command.0 }, outs.1)

-- with its numbers in their ranges; of two that aren't, the processors are named
abbrev pub in_ranges : {X : Type 0} → Work → (ℕ → ℕ → X) → Outcome X
in_ranges w make = and_then (processors w.cpus) (λ cpus. and_then (retries w.retry) (λ retry. Some (Ok (make cpus retry))))

-- a task whose maker isn't known here
abbrev pub task_of : Work → ℕ → ℕ → TaskNew
task_of w cpus retry = record { maker = 0; command = w.command; name = w.name; outs = w.outs; ins = w.ins; cpus = cpus; can_fail = w.can_fail; retry = retry }

abbrev pub rule_of : Work → ℕ → ℕ → Rule
rule_of w cpus retry = record { outs = w.outs; ins = w.ins; cpus = cpus; can_fail = w.can_fail; retry = retry; name = w.name; command = w.command }
