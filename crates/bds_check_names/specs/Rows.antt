-- What the methods take and give, by the table of methods.
use Rattle.std.specs.Prelude.{ℕ, Bool, true, false, Option, List, map}
use Rattle.std.specs.Option.{option_map}
use Rattle.bds_value.specs.declared.methods.Method.{Method}
use Rattle.bds_value.specs.declared.methods.Method.TheVariants.{Plain, File, Change}
use Rattle.bds_value.specs.declared.methods.MethodRow.{MethodRow}
use Rattle.bds_value.specs.declared.value.Ty.{Ty}
use Rattle.bds_value.specs.Methods.{part_ty, parts_of, gives_ty, inner_of, row_named}
use Rattle.bds_check_names.specs.declared.rows.Row.{Row}

-- it changes its receiver
abbrev pub is_change : Method → Bool
is_change (Plain n) = false
is_change (File n) = false
is_change (Change n) = true

-- the types of a row of the table, for items or values of a type
abbrev pub row_with : Ty → MethodRow → Row
row_with item r = record { takes = map (part_ty item) (parts_of r.takes); gives = gives_ty item r.gives; changes = is_change r.method }

-- the row of the method of a receiver's type with a name and so many arguments
abbrev pub row_of : Ty → List ℕ → ℕ → Option Row
row_of receiver name count = option_map (row_with (inner_of receiver)) (row_named receiver name count)
