use Rattle.std.proofs.Common.{◌≡◌, ◌+◌, ◌++◌, drop}
use Rattle.bds_tasks.specs.declared.task.Task.{Task}
use Rattle.bds_tasks.specs.Tasks.{numbers_from, running, runs}
use Rattle.bds_tasks.proofs.schedule.running_of.Given as goal

abbrev pub invariant-loop-i : goal.invariant-loop-i
invariant-loop-i l =
    l.numbers ++ numbers_from (l.i + 1) (λ (t : Task). runs t.state) (drop l.i l.tasks) ≡ running l.tasks
