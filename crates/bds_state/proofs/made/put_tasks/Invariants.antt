use Rattle.std.proofs.Common.{◌≡◌, ◌+◌, ◌++◌, drop, map, nat_eq}
use Rattle.bds_value.specs.declared.ids.Id.TheVariants as id
use Rattle.bds_tasks.specs.declared.task.Task.{Task}
use Rattle.bds_tasks.specs.Tasks.{made_by, numbers_from}
use Rattle.bds_state.proofs.made.put_tasks.Given as goal

abbrev pub invariant-loop-i : goal.invariant-loop-i
invariant-loop-i l = l.ids
    ++ map id.Task (numbers_from (l.i + 1) (λ (t : Task). nat_eq t.made.maker l.thread) (drop l.i l.tasks)) ≡ l.fn.ids
    ++ map id.Task (made_by l.thread l.tasks)
