-- The parts of a state: the unit that runs, its threads, tasks and rules by their numbers, and the path of the script.
use Rattle.std.specs.Prelude.{ℕ, List}
use Rattle.bds_code.specs.declared.unit.Unit.{Unit as CodeUnit}
use Rattle.bds_code_frames.specs.declared.thread.Thread.{Thread}
use Rattle.bds_rules.specs.declared.rule.Rule.{Rule}
use Rattle.bds_tasks.specs.declared.task.Task.{Task}

pub record Parts : Type 0 where
  pub unit : CodeUnit
  pub threads : List Thread
  pub tasks : List Task
  pub rules : List Rule
  pub path : List ℕ

-- the parts with other threads, tasks or rules

abbrev pub with_threads : List Thread → Parts → Parts
with_threads ts s = record { unit = s.unit; threads = ts; tasks = s.tasks; rules = s.rules; path = s.path }

abbrev pub with_tasks : List Task → Parts → Parts
with_tasks ts s = record { unit = s.unit; threads = s.threads; tasks = ts; rules = s.rules; path = s.path }

abbrev pub with_rules : List Rule → Parts → Parts
with_rules rs s = record { unit = s.unit; threads = s.threads; tasks = s.tasks; rules = rs; path = s.path }
