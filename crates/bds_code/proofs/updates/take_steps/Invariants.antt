use Rattle.std.proofs.Common.{◌≡◌, ◌≤◌, length, map, reverse, take}
use Rattle.bds_code.specs.Operands.{all_taken}
use Rattle.bds_code.specs.UpdateRows.{step_ty}
use Rattle.bds_code.proofs.updates.take_steps.Given as goal

abbrev pub invariant-loop-left : goal.invariant-loop-left
invariant-loop-left l = record {
  same : all_taken (reverse (map step_ty l.left)) (reverse (take l.keeps l.shape)) ≡ all_taken (reverse (map step_ty l.fn.kinds)) (reverse (take l.fn.count l.shape));
  fewer : length l.left ≤ length l.fn.kinds;
  within : l.keeps ≤ length l.shape;
}

abbrev pub decreases-loop-left : goal.decreases-loop-left
decreases-loop-left l = length l.left
