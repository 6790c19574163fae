-- Types: when two are the same, which of them values have, how deep they nest, and what stands inside.
use Rattle.std.specs.Prelude.{ℕ, ◌&&◌, nat_le, Bool, true, false, Option, Some, None}
use Rattle.bds_value.specs.declared.value.Ty.{Ty, fold-Ty, out-Ty}
use Rattle.bds_value.specs.declared.value.Ty.TheOpen.{Ty-F}
use Rattle.bds_value.specs.Fields.{nesting, is_solid}

abbrev pub same_at : Ty-F (Ty → Bool) → Ty-F Ty → Bool
same_at Ty-F.Bool Ty-F.Bool = true
same_at Ty-F.Int Ty-F.Int = true
same_at Ty-F.Text Ty-F.Text = true
same_at (Ty-F.List f) (Ty-F.List t) = f t
same_at (Ty-F.Map f) (Ty-F.Map t) = f t
same_at Ty-F.Void Ty-F.Void = true
same_at _ _ = false

-- whether two types are the same
abbrev pub same_ty : Ty → Ty → Bool
same_ty = fold-Ty (Ty → Bool) (λ y t. same_at y (out-Ty t))

abbrev pub is_void_at : Ty-F Ty → Bool
is_void_at Ty-F.Void = true
is_void_at _ = false

-- no values have the type
abbrev pub is_void : Ty → Bool
is_void t = is_void_at (out-Ty t)

-- a type without Void that nests at most so deep
abbrev pub fits_within : Ty → ℕ → Bool
fits_within t n = nat_le (nesting t) n && is_solid t

abbrev pub is_plain_at : Ty-F Ty → Bool
is_plain_at Ty-F.Bool = true
is_plain_at Ty-F.Int = true
is_plain_at Ty-F.Text = true
is_plain_at _ = false

-- a type whose values may be compared
abbrev pub is_plain : Ty → Bool
is_plain t = is_plain_at (out-Ty t)

abbrev pub is_ordered_at : Ty-F Ty → Bool
is_ordered_at Ty-F.Int = true
is_ordered_at Ty-F.Text = true
is_ordered_at _ = false

-- a type whose values have an order
abbrev pub is_ordered : Ty → Bool
is_ordered t = is_ordered_at (out-Ty t)

abbrev pub list_item_at : Ty-F Ty → Option Ty
list_item_at (Ty-F.List t) = Some t
list_item_at _ = None

-- the type of the items of a list
abbrev pub list_item : Ty → Option Ty
list_item t = list_item_at (out-Ty t)

abbrev pub map_item_at : Ty-F Ty → Option Ty
map_item_at (Ty-F.Map t) = Some t
map_item_at _ = None

-- the type of the values of a map
abbrev pub map_item : Ty → Option Ty
map_item t = map_item_at (out-Ty t)
