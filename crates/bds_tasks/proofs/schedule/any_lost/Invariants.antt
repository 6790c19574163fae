use Rattle.std.proofs.Common.{◌≡◌, drop}
use Rattle.std.specs.List.{list_any}
use Rattle.bds_tasks.specs.Kept.{is_lost_task}
use Rattle.bds_tasks.proofs.schedule.any_lost.Given as goal

abbrev pub invariant-loop-task : goal.invariant-loop-task
invariant-loop-task l = list_any is_lost_task (drop l.task-index l.tasks) ≡ list_any is_lost_task l.tasks
