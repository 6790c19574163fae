-- Fields with a length of 64 bits.
use Rattle.std.specs.Prelude.{ℕ, zero, suc, List, ◌++◌, length, Ok, Err}
use Rattle.std.specs.List.{flat_map}
use Rattle.bds_value.specs.declared.faults.FieldFault.TheVariants.{BadNumber}
use Rattle.bds_value.specs.Reading.{◌>>=◌, Reader, bytes_at, many, u64_at, within}
use Rattle.bds_value.specs.Spelling.{u64_field}

-- a number up to its limit
abbrev pub long_count_at : ℕ → Reader ℕ
long_count_at limit i = u64_at i >>= λ n. within i.at limit n.0 n.1

-- a text: its length, and that many bytes
abbrev pub long_at : ℕ → Reader (List ℕ)
long_at limit i = long_count_at limit i >>= λ n. bytes_at n.0 n.1

-- a list: a count, and that many fields
abbrev pub long_list_at : {X : Type 0} → ℕ → Reader X → Reader (List X)
long_list_at limit r i = long_count_at limit i >>= λ n. many r n.0 n.1

abbrev pub long_field : List ℕ → List ℕ
long_field text = u64_field (length text) ++ text

abbrev pub long_list_field : {X : Type 0} → (X → List ℕ) → List X → List ℕ
long_list_field f xs = u64_field (length xs) ++ flat_map f xs

-- two fields, one behind the other
abbrev pub both_at : {X Y : Type 0} → Reader X → Reader Y → Reader (X × Y)
both_at r s i = r i >>= λ x. s x.1 >>= λ y. Ok ((x.0, y.0), y.1)

abbrev pub both_field : {X Y : Type 0} → (X → List ℕ) → (Y → List ℕ) → X × Y → List ℕ
both_field f g p = f p.0 ++ g p.1

-- a number from 1 to its limit
abbrev pub from_one : ℕ → ℕ → ℕ → Reader ℕ
from_one at limit zero j = Err (BadNumber at 0)
from_one at limit (suc n) j = within at limit (suc n) j
