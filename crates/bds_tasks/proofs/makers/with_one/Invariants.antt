use Rattle.std.proofs.Common.{◌≡◌, ◌++◌, drop, filter}
use Rattle.bds_tasks.specs.Tasks.{is_pending, passes}
use Rattle.bds_tasks.proofs.makers.with_one.Given as goal

abbrev pub invariant-loop-m : goal.invariant-loop-m
invariant-loop-m l = l.kept
    ++ filter (passes is_pending l.tasks) (drop l.m-index l.numbers) ≡ filter (passes is_pending l.tasks) l.numbers
