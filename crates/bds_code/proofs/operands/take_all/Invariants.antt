use Rattle.std.proofs.Common.{◌≡◌, ◌≤◌, length, reverse, take}
use Rattle.bds_code.specs.Operands.{all_taken}
use Rattle.bds_code.proofs.operands.take_all.Given as goal

abbrev pub invariant-loop-left : goal.invariant-loop-left
invariant-loop-left l = record {
  same : all_taken (reverse l.left) (reverse (take l.keeps l.shape)) ≡ all_taken (reverse l.fn.types) (reverse (take l.fn.count l.shape));
  fewer : length l.left ≤ length l.fn.types;
  within : l.keeps ≤ length l.shape;
}

abbrev pub decreases-loop-left : goal.decreases-loop-left
decreases-loop-left l = length l.left
