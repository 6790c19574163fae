-- A value after a change, by the number of the change.
use Rattle.std.specs.Prelude.{ℕ, ◌+◌, Bool, ℤ, List, [], ◌∷◌, length, insert, remove, nat_lt, cond, ◌==◌, Option, Some, None, Result, Ok, Err, if◌then◌else◌}
use Rattle.std.specs.Str.{bytes_eq}
pub use Rattle.bds_value.specs.Path.{without_first, without_key}
use Rattle.bds_value.specs.declared.change_numbers.TheConstants.{PUSH, INSERT, REMOVE_INDEX, REMOVE_ITEM, REMOVE_KEY}
use Rattle.bds_value.specs.declared.TheConstants.{MAX_ITEMS}
use Rattle.bds_value.specs.declared.value.Value.{Value, out-Value}
use Rattle.bds_value.specs.declared.value.Value.TheVariants as value
use Rattle.bds_value.specs.declared.value.Value.TheOpen.{Value-F}
use Rattle.bds_value.specs.Results.{result_map}
use Rattle.bds_value.specs.TextResult.{held}
use Rattle.bds_lib.specs.declared.faults.LibFault.{LibFault}
use Rattle.bds_lib.specs.declared.faults.LibFault.TheVariants.{NoIndex, TooLong}
use Rattle.bds_lib.specs.Lists.{is_same}
use Rattle.bds_lib.specs.Places.{place_within, place_below}

-- the items with x before the one at a place, where they aren't full
abbrev pub inserted : List Value → ℕ → Value → Result (List Value) LibFault
inserted items at x = if nat_lt (length items) MAX_ITEMS then Ok (insert items at x) else Err (TooLong (held (length items + 1)))

abbrev pub add_at : List Value → ℤ → Value → Option ℕ → Result (List Value) LibFault
add_at items i x None = Err (NoIndex i (length items))
add_at items i x (Some at) = inserted items at x

abbrev pub remove_at : List Value → ℤ → Option ℕ → Result (List Value) LibFault
remove_at items i None = Err (NoIndex i (length items))
remove_at items i (Some at) = Ok (remove items at)

-- the items without the first that is the same as x
abbrev pub without : Value → List Value → List Value
without x items = without_first (λ v. is_same v x) items

abbrev pub remove_index : List Value → Value-F Value → Result (List Value) LibFault
remove_index items (Value-F.Int i) = remove_at items i (place_below (length items) i)
remove_index items _ = Ok items

abbrev pub list_changed : ℕ → List Value → Value → Result (List Value) LibFault
list_changed what items x =
    if what == PUSH then inserted items (length items) x else
    if what == REMOVE_INDEX then remove_index items (out-Value x) else
    if what == REMOVE_ITEM then Ok (without x items) else
    Ok items

abbrev pub list_changed_at : ℕ → List Value → Value-F Value → Value → Result (List Value) LibFault
list_changed_at what items (Value-F.Int i) x = if what == INSERT then add_at items i x (place_within 0 (length items) i) else Ok items
list_changed_at what items _ x = Ok items

abbrev pub list_change : ℕ → List Value → List Value → Result (List Value) LibFault
list_change what items (x ∷ []) = list_changed what items x
list_change what items (i ∷ x ∷ []) = list_changed_at what items (out-Value i) x
list_change what items _ = Ok items

abbrev pub map_changed : ℕ → List (List ℕ × Value) → Value-F Value → List (List ℕ × Value)
map_changed what ps (Value-F.Text k) = if what == REMOVE_KEY then without_key k ps else ps
map_changed what ps _ = ps

abbrev pub map_change : ℕ → List (List ℕ × Value) → List Value → List (List ℕ × Value)
map_change what ps (x ∷ []) = map_changed what ps (out-Value x)
map_change what ps _ = ps

abbrev pub change_at : ℕ → Value-F Value → Value → List Value → Result Value LibFault
change_at what (Value-F.List t items) place args = result_map (value.List t) (list_change what items args)
change_at what (Value-F.Map t ps) place args = Ok (value.Map t (map_change what ps args))
change_at what _ place args = Ok place

-- a value after a change, or its fault; some value where it and the arguments are of no row
abbrev pub change_of : ℕ → Value → List Value → Result Value LibFault
change_of what place args = change_at what (out-Value place) place args
