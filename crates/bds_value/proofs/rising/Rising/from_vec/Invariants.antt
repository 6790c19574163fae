use Rattle.std.proofs.Common.{◌≡◌, ◌++◌, length}
use Rattle.bds_value.proofs.rising.Rising.from_vec.Given as goal

abbrev pub invariant-loop-key : goal.invariant-loop-key
invariant-loop-key g l = l.left.items ++ l.made ≡ l.fn.pairs.items

abbrev pub decreases-loop-key : goal.decreases-loop-key
decreases-loop-key g l = length l.left.items
