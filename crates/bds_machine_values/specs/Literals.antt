-- The rows that make lists and maps of operands.
use Rattle.std.specs.Prelude.{ℕ, ◌+◌, List, [], ◌∷◌, length, cond, nat_le, is_some, Option, Some, None, Ok, Err}
use Rattle.bds_value.specs.declared.TheConstants.{MAX_ITEMS}
use Rattle.bds_value.specs.declared.value.Ty.{Ty}
use Rattle.bds_value.specs.declared.value.Value.{Value}
use Rattle.bds_value.specs.declared.value.Value.TheVariants as value
use Rattle.bds_value.specs.Path.{at_key, set_key, insert_key}
use Rattle.bds_value.specs.declared.faults.RunFault.TheVariants.{TooLong}
use Rattle.bds_value.specs.Options.{◌>>=◌}
use Rattle.bds_value.specs.Readers.{as_text}
use Rattle.bds_code_frames.specs.Stack.{Stack}
use Rattle.bds_machine_values.specs.Operands.{taken_all}
use Rattle.bds_machine_values.specs.Faults.{Outcome, gives, finishes}

-- a list of so many operands
abbrev pub list_made : Ty → ℕ → Stack → Outcome Stack
list_made t n s = cond (nat_le n MAX_ITEMS) (taken_all n s >>= λ r. gives (value.List t r.0) r.1) (Some (Err (TooLong n)))

abbrev pub Pairs : Type 0
Pairs = List (List ℕ × Value)

-- keys and values by turns, as pairs
abbrev pub paired : List Value → Option Pairs
paired [] = Some []
paired (k ∷ []) = None
paired (k ∷ v ∷ vs) = as_text k >>= λ key. paired vs >>= λ ps. Some ((key, v) ∷ ps)

-- a value at a key, in place of the one that is there
abbrev pub with_pair : Pairs → List ℕ × Value → Pairs
with_pair ps p = cond (is_some (at_key p.0 ps)) (set_key p.0 p.1 ps) (insert_key p.0 p.1 ps)

-- with all of these, of which a later one replaces an earlier one with its key
abbrev pub with_pairs : Pairs → Pairs → Pairs
with_pairs ps [] = ps
with_pairs ps (q ∷ qs) = with_pairs (with_pair ps q) qs

-- a map within the limit, else the pairs that it would need
abbrev pub short_map : Ty → Pairs → Outcome Value
short_map t ps = cond (nat_le (length ps) MAX_ITEMS) (Some (Ok (value.Map t ps))) (Some (Err (TooLong (length ps))))

-- a map of so many keys and values
abbrev pub map_made : Ty → ℕ → Stack → Outcome Stack
map_made t n s = taken_all (n + n) s >>= λ r. paired r.0 >>= λ ps. finishes (short_map t (with_pairs [] ps)) r.1
