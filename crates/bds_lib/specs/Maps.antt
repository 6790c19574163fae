-- The methods of a map.
use Rattle.std.specs.Prelude.{ℕ, List, length, map, Bool, ◌==◌, Result, Ok, if◌then◌else◌}
use Rattle.std.specs.List.{list_any}
use Rattle.std.specs.Str.{bytes_eq}
use Rattle.bds_value.specs.declared.method_numbers.TheConstants.{MAP_SIZE, HAS_KEY, KEYS, VALUES}
use Rattle.bds_value.specs.declared.value.Ty.{Ty}
use Rattle.bds_value.specs.declared.value.Ty.TheVariants as ty
use Rattle.bds_value.specs.declared.value.Value.{Value}
use Rattle.bds_value.specs.declared.value.Value.TheVariants as value
use Rattle.bds_value.specs.declared.value.Value.TheOpen.{Value-F}
use Rattle.bds_lib.specs.declared.faults.LibFault.{LibFault}
use Rattle.bds_lib.specs.Results.{counted, no_row}

abbrev pub has_key : List ℕ → List (List ℕ × Value) → Bool
has_key k ps = list_any (λ p. bytes_eq p.0 k) ps

abbrev pub keys : List (List ℕ × Value) → List Value
keys ps = map (λ p. value.Text p.0) ps

abbrev pub values : List (List ℕ × Value) → List Value
values ps = map (λ p. p.1) ps

-- the methods without an argument
abbrev pub map_alone : ℕ → Ty → List (List ℕ × Value) → Result Value LibFault
map_alone m t ps =
    if m == MAP_SIZE then Ok (value.Int (counted (length ps))) else
    if m == KEYS then Ok (value.List ty.Text (keys ps)) else
    if m == VALUES then Ok (value.List t (values ps)) else
    no_row

-- the method with a key
abbrev pub map_with : ℕ → List (List ℕ × Value) → Value-F Value → Result Value LibFault
map_with m ps (Value-F.Text k) = if m == HAS_KEY then Ok (value.Bool (has_key k ps)) else no_row
map_with m ps _ = no_row
