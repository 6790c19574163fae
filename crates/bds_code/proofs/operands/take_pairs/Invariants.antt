use Rattle.std.proofs.Common.{◌≡◌, ◌≤◌, length, reverse, take}
use Rattle.bds_code.specs.Operands.{pairs_taken}
use Rattle.bds_code.proofs.operands.take_pairs.Given as goal

abbrev pub invariant-loop-left : goal.invariant-loop-left
invariant-loop-left l = record {
  same : pairs_taken l.left l.ty (reverse (take l.keeps l.shape)) ≡ pairs_taken l.fn.times l.fn.ty (reverse l.fn.shape);
  within : l.keeps ≤ length l.shape;
}

abbrev pub decreases-loop-left : goal.decreases-loop-left
decreases-loop-left l = l.left
