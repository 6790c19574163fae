use Rattle.std.proofs.Common.{◌≡◌, ◌++◌, take}
use Rattle.std.specs.List.{flat_map}
use Rattle.bds_value.specs.Spelling.{ty_field}
use Rattle.bds_code.proofs.fields.writing.put_each_ty.Given as goal

abbrev pub invariant-loop-place : goal.invariant-loop-place
invariant-loop-place l = l.out.items ≡ l.fn.out.items ++ flat_map ty_field (take l.place l.shape)
