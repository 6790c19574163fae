use Rattle.std.proofs.Common.{◌≡◌, ◌+◌, drop}
use Rattle.bds_tasks.specs.Starts.{first, may_start}
use Rattle.bds_tasks.specs.Tasks.{numbers_from, numbers_of}
use Rattle.bds_tasks.proofs.starts.startable_by_search.Given as goal

abbrev pub invariant-loop-i : goal.invariant-loop-i
invariant-loop-i l = first (numbers_from (l.i + 1) (may_start l.cpus l.tasks) (drop l.i l.tasks)) ≡ first
    (numbers_of (may_start l.cpus l.tasks) l.tasks)
