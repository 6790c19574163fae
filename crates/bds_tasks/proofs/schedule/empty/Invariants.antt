use Rattle.std.proofs.Common.{◌≡◌, [], replicate}
use Rattle.bds_tasks.proofs.schedule.empty.Given as goal

abbrev pub invariant-loop : goal.invariant-loop
invariant-loop l = l.lists ≡ replicate l.counter []
