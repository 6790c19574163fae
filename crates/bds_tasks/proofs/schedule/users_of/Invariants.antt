use Rattle.bds_tasks.specs.Kept.{AreUsersBelow}
use Rattle.bds_tasks.proofs.schedule.users_of.Given as goal

abbrev pub invariant-loop-i : goal.invariant-loop-i
invariant-loop-i l = AreUsersBelow l.tasks l.users l.i
