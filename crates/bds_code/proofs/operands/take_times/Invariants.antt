use Rattle.std.proofs.Common.{◌≡◌, ◌≤◌, length, reverse, replicate, take}
use Rattle.bds_code.specs.Operands.{all_taken}
use Rattle.bds_code.proofs.operands.take_times.Given as goal

abbrev pub invariant-loop-left : goal.invariant-loop-left
invariant-loop-left l = record {
  same : all_taken (replicate l.left l.ty) (reverse (take l.keeps l.shape)) ≡ all_taken (replicate l.fn.times l.fn.ty) (reverse l.fn.shape);
  within : l.keeps ≤ length l.shape;
}

abbrev pub decreases-loop-left : goal.decreases-loop-left
decreases-loop-left l = l.left
