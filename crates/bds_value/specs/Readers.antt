-- A value as one of a type: None where it is of another. And the same with any answer there.
use Rattle.std.specs.Prelude.{ℕ, ℤ, pos, Bool, false, List, [], ◌∷◌, Option, Some, None}
use Rattle.std.specs.Option.{unwrap_or}
use Rattle.bds_value.specs.Options.{◌>>=◌}
use Rattle.bds_value.specs.declared.value.Value.{Value, out-Value}
use Rattle.bds_value.specs.declared.value.Value.TheOpen.{Value-F}

abbrev pub bool_at : Value-F Value → Option Bool
bool_at (Value-F.Bool b) = Some b
bool_at _ = None

abbrev pub int_at : Value-F Value → Option ℤ
int_at (Value-F.Int n) = Some n
int_at _ = None

abbrev pub text_at : Value-F Value → Option (List ℕ)
text_at (Value-F.Text t) = Some t
text_at _ = None

abbrev pub items_at : Value-F Value → Option (List Value)
items_at (Value-F.List t items) = Some items
items_at _ = None

-- what a value is, as one of a type

abbrev pub as_bool : Value → Option Bool
as_bool v = bool_at (out-Value v)

abbrev pub as_int : Value → Option ℤ
as_int v = int_at (out-Value v)

abbrev pub as_text : Value → Option (List ℕ)
as_text v = text_at (out-Value v)

abbrev pub as_items : Value → Option (List Value)
as_items v = items_at (out-Value v)

abbrev pub all_texts : List Value → Option (List (List ℕ))
all_texts [] = Some []
all_texts (v ∷ vs) = as_text v >>= λ t. all_texts vs >>= λ ts. Some (t ∷ ts)

abbrev pub as_texts : Value → Option (List (List ℕ))
as_texts v = as_items v >>= all_texts

-- the same for any value

abbrev pub is_true : Value → Bool
is_true v = unwrap_or (as_bool v) false

abbrev pub number_in : Value → ℤ
number_in v = unwrap_or (as_int v) (pos 0)

abbrev pub text_in : Value → List ℕ
text_in v = unwrap_or (as_text v) []

abbrev pub items_in : Value → List Value
items_in v = unwrap_or (as_items v) []

abbrev pub texts_in : Value → List (List ℕ)
texts_in v = unwrap_or (as_texts v) []
