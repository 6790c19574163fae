-- The numbers of a state have the bits of their fields, as those of every state in memory have.
use Rattle.std.specs.List.{All}
use Rattle.bds_code.specs.UnitFields.{IsFieldUnit, UnitFits}
use Rattle.bds_rules.specs.RuleFields.{AreFieldRules}
use Rattle.bds_state.specs.Parts.{Parts}
use Rattle.bds_state_threads.specs.Fields.{IsFieldThread}
use Rattle.bds_state_threads.specs.Numbers.{ThreadFits}
use Rattle.bds_tasks.specs.declared.task.Task.{Task}
use Rattle.bds_tasks.specs.TaskFields.{AreFieldTasks, IsFieldState}
use Rattle.bds_value.specs.declared.TheConstants.{MAX_TEXT, MAX_THREADS}
use Rattle.std.specs.Prelude.{◌≤◌, length}

pub record NumbersFit (s : Parts) : Type 0 where
  pub unit : UnitFits s.unit
  pub threads : All ThreadFits s.threads
  pub tasks : All (λ (t : Task). IsFieldState t.state) s.tasks

-- each part may be in a file
pub record AreFields (s : Parts) : Type 0 where
  pub unit : IsFieldUnit s.unit
  pub count : length s.threads ≤ MAX_THREADS
  pub threads : All IsFieldThread s.threads
  pub tasks : AreFieldTasks s.tasks
  pub rules : AreFieldRules s.rules
  pub path : length s.path ≤ MAX_TEXT
