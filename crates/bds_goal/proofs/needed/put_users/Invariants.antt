use Rattle.std.proofs.Common.{◌≡◌, drop}
use Rattle.bds_goal.specs.Marks.{with_users}
use Rattle.bds_goal.proofs.needed.put_users.Given as goal

abbrev pub invariant-loop-j : goal.invariant-loop-j
invariant-loop-j l = with_users l.i (drop l.j-index l.numbers) l.users ≡ with_users l.i l.numbers l.fn.users
