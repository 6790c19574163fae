use Rattle.std.proofs.Common.{◌≡◌, ◌++◌, drop, filter}
use Rattle.bds_tasks.specs.Tasks.{is_pending, passes}
use Rattle.bds_tasks.proofs.needs.put_pending.Given as goal

abbrev pub invariant-loop-n : goal.invariant-loop-n
invariant-loop-n l = l.out.items ++ filter (passes is_pending l.tasks) (drop l.n-index l.numbers) ≡ l.fn.out.items ++ filter (passes is_pending l.tasks) l.numbers
