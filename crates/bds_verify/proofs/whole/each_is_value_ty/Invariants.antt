use Rattle.std.proofs.Common.{◌≡◌, drop}
use Rattle.std.specs.List.{list_all}
use Rattle.bds_verify.specs.Whole.{is_value_ty}
use Rattle.bds_verify.proofs.whole.each_is_value_ty.Given as goal

abbrev pub invariant-loop-ty : goal.invariant-loop-ty
invariant-loop-ty l = list_all is_value_ty (drop l.ty-index l.types) ≡ list_all is_value_ty l.types
