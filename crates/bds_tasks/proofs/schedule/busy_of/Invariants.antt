use Rattle.std.proofs.Common.{◌≡◌, ◌*◌, ◌≤◌, take}
use Rattle.bds_value.specs.declared.TheConstants.{MAX_COUNT}
use Rattle.bds_tasks.specs.Kept.{busy}
use Rattle.bds_tasks.proofs.schedule.busy_of.Given as goal

abbrev pub invariant-loop-task : goal.invariant-loop-task
invariant-loop-task l = (l.sum ≡ busy (take l.task-index l.tasks)) × (l.sum ≤ MAX_COUNT * l.task-index)
