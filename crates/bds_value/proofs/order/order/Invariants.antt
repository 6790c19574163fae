use Rattle.std.proofs.Common.{◌≡◌, length}
use Rattle.bds_value.specs.Order.{text_cmp}
use Rattle.bds_value.proofs.order.order.Given as goal

abbrev pub invariant-loop-a : goal.invariant-loop-a
invariant-loop-a l = text_cmp l.a l.b ≡ text_cmp l.fn.a l.fn.b

abbrev pub decreases-loop-a : goal.decreases-loop-a
decreases-loop-a l = length l.a
