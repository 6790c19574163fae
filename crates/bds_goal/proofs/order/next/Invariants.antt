use Rattle.std.proofs.Common.{◌≡◌, ℕ, ◌<◌, ◌≤◌, false}
use Rattle.bds_goal.specs.Marks.{may_go}
use Rattle.bds_goal.proofs.order.next.Given as goal

abbrev pub invariant-loop-i : goal.invariant-loop-i
invariant-loop-i l = (m : ℕ) → l.start ≤ m → m < l.i → may_go l.edges l.left m ≡ false
