use Rattle.std.proofs.Common.{◌≡◌, ℕ, ◌<◌, false}
use Rattle.bds_goal.specs.Marks.{is_marked}
use Rattle.bds_goal.proofs.order.first_left.Given as goal

abbrev pub invariant-loop-i : goal.invariant-loop-i
invariant-loop-i l = (m : ℕ) → m < l.i → is_marked l.left m ≡ false
