use Rattle.std.proofs.Common.{take}
use Rattle.std.specs.List.{All}
use Rattle.bds_tasks.specs.declared.task.Task.{Task}
use Rattle.bds_tasks.specs.TaskFields.{IsFieldState}
use Rattle.bds_state.proofs.laws.tasks_fit.Given as goal

abbrev pub invariant-loop-task : goal.invariant-loop-task
invariant-loop-task l = All (λ (t : Task). IsFieldState t.state) (take l.task-index l.tasks)
