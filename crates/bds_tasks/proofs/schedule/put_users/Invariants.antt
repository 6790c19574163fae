use Rattle.std.proofs.Common.{◌≡◌, drop}
use Rattle.bds_tasks.specs.Kept.{with_users}
use Rattle.bds_tasks.proofs.schedule.put_users.Given as goal

abbrev pub invariant-loop-m : goal.invariant-loop-m
invariant-loop-m l = with_users l.n (drop l.m-index l.needs) l.users ≡ with_users l.n l.needs l.fn.users
