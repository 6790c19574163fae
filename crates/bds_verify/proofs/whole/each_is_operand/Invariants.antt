use Rattle.std.proofs.Common.{◌≡◌, drop}
use Rattle.std.specs.List.{list_all}
use Rattle.bds_verify.specs.Whole.{is_value_ty}
use Rattle.bds_verify.proofs.whole.each_is_operand.Given as goal

abbrev pub invariant-loop-place : goal.invariant-loop-place
invariant-loop-place l = list_all is_value_ty (drop l.place l.shape) ≡ list_all is_value_ty l.shape
