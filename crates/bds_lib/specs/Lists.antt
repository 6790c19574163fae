-- The methods of a list.
use Rattle.std.specs.Prelude.{ℕ, ℤ, pos, List, [], ◌∷◌, length, drop, reverse, Bool, false, ◌==◌, cond, Result, Ok, Err, if◌then◌else◌}
use Rattle.std.specs.List.{join_by, list_any}
use Rattle.std.specs.Ordering.{int_eq, int_cmp, bool_cmp, is_eq, is_lt}
use Rattle.std.specs.Str.{bytes_eq}
use Rattle.bds_value.specs.Order.{text_cmp}
use Rattle.bds_value.specs.declared.method_numbers.TheConstants.{LIST_SIZE, IS_EMPTY, HAS, JOIN, HEAD, TAIL, REVERSE, SORT}
use Rattle.bds_value.specs.declared.value.Ty.{Ty, out-Ty}
use Rattle.bds_value.specs.declared.value.Ty.TheOpen.{Ty-F}
use Rattle.bds_value.specs.declared.value.Value.{Value, out-Value}
use Rattle.bds_value.specs.declared.value.Value.TheVariants as value
use Rattle.bds_value.specs.declared.value.Value.TheOpen.{Value-F}
use Rattle.bds_lib.specs.declared.faults.LibFault.{LibFault}
use Rattle.bds_lib.specs.declared.faults.LibFault.TheVariants.{NoIndex}
use Rattle.bds_lib.specs.Results.{counted, short_text, no_row}

abbrev pub is_same_at : Value-F Value → Value-F Value → Bool
is_same_at (Value-F.Bool a) (Value-F.Bool b) = is_eq (bool_cmp a b)
is_same_at (Value-F.Int a) (Value-F.Int b) = int_eq a b
is_same_at (Value-F.Text a) (Value-F.Text b) = bytes_eq a b
is_same_at _ _ = false

-- whether two values are the same bool, number or text
abbrev pub is_same : Value → Value → Bool
is_same v w = is_same_at (out-Value v) (out-Value w)

abbrev pub text_at : Value-F Value → List ℕ
text_at (Value-F.Text t) = t
text_at _ = []

-- the text that an item of a list of texts is
abbrev pub item_text : Value → List ℕ
item_text v = text_at (out-Value v)

abbrev pub number_at : Value-F Value → ℤ
number_at (Value-F.Int n) = n
number_at _ = pos 0

-- the number that an item of a list of numbers is
abbrev pub item_number : Value → ℤ
item_number v = number_at (out-Value v)

abbrev pub is_less : Value → Value → Bool
is_less v w = is_lt (int_cmp (item_number v) (item_number w))

abbrev pub is_earlier : Value → Value → Bool
is_earlier v w = is_lt (text_cmp (item_text v) (item_text w))

-- items in rising order with one more, behind those that come before it
abbrev pub put_sorted : (Value → Value → Bool) → Value → List Value → List Value
put_sorted before v [] = v ∷ []
put_sorted before v (w ∷ ws) = cond (before w v) (w ∷ put_sorted before v ws) (v ∷ w ∷ ws)

-- the items in rising order
abbrev pub sorted : (Value → Value → Bool) → List Value → List Value
sorted before [] = []
sorted before (v ∷ vs) = put_sorted before v (sorted before vs)

abbrev pub sort_at : Ty-F Ty → Ty → List Value → Result Value LibFault
sort_at Ty-F.Int t items = Ok (value.List t (sorted is_less items))
sort_at Ty-F.Text t items = Ok (value.List t (sorted is_earlier items))
sort_at _ t items = no_row

abbrev pub head : List Value → Result Value LibFault
head [] = Err (NoIndex (pos 0) 0)
head (v ∷ vs) = Ok v

-- the methods without an argument
abbrev pub list_alone : ℕ → Ty → List Value → Result Value LibFault
list_alone m t items =
    if m == LIST_SIZE then Ok (value.Int (counted (length items))) else
    if m == IS_EMPTY then Ok (value.Bool (length items == 0)) else
    if m == HEAD then head items else
    if m == TAIL then Ok (value.List t (drop 1 items)) else
    if m == REVERSE then Ok (value.List t (reverse items)) else
    if m == SORT then sort_at (out-Ty t) t items else
    no_row

abbrev pub join_with : List Value → Value-F Value → Result Value LibFault
join_with items (Value-F.Text t) = short_text (join_by item_text t items)
join_with items _ = no_row

-- the methods with an argument
abbrev pub list_with : ℕ → List Value → Value → Result Value LibFault
list_with m items x =
    if m == HAS then Ok (value.Bool (list_any (λ v. is_same v x) items)) else
    if m == JOIN then join_with items (out-Value x) else
    no_row
