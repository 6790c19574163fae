use Rattle.std.proofs.Common.{◌≡◌, map, take}
use Rattle.bds_tasks.specs.declared.task.Task.{Task}
use Rattle.bds_tasks.specs.Kept.{unmet_of}
use Rattle.bds_tasks.proofs.schedule.counts_of.Given as goal

abbrev pub invariant-loop-task : goal.invariant-loop-task
invariant-loop-task l = l.unmet ≡ map (λ (t : Task). unmet_of l.tasks t.needs) (take l.task-index l.tasks)
