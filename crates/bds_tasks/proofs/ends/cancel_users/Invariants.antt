use Rattle.std.proofs.Common.{◌+◌, None}
use Rattle.bds_tasks.specs.Kept.{Cancelling}
use Rattle.bds_tasks.proofs.BadLaws.{waiting, zeros}
use Rattle.bds_tasks.proofs.ends.cancel_users.Given as goal

abbrev pub invariant-loop-at : goal.invariant-loop-at
invariant-loop-at l = Cancelling l.n l.fn.tasks.items l.tasks.items l.keys None

abbrev pub decreases-loop-at : goal.decreases-loop-at
decreases-loop-at l = waiting l.tasks.items + zeros l.keys
