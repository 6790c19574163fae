use Rattle.std.proofs.Common.{◌≡◌, ◌++◌, take}
use Rattle.std.specs.List.{flat_map}
use Rattle.bds_value.specs.Spelling.{ty_field}
use Rattle.bds_value.proofs.fields.lists.put_each_ty.Given as goal

abbrev pub invariant-loop-ty : goal.invariant-loop-ty
invariant-loop-ty l = l.out.items ≡ l.fn.out.items ++ flat_map ty_field (take l.ty-index l.types)
