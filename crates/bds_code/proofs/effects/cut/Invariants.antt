use Rattle.std.proofs.Common.{◌≡◌, ◌≤◌, length, take}
use Rattle.bds_code.proofs.effects.cut.Given as goal

abbrev pub invariant-loop-shape : goal.invariant-loop-shape
invariant-loop-shape l = record {
  same : take l.keeps l.shape ≡ take l.keeps l.fn.shape;
  enough : l.keeps ≤ length l.shape;
}

abbrev pub decreases-loop-shape : goal.decreases-loop-shape
decreases-loop-shape l = length l.shape
