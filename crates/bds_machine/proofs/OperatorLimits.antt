-- What an operator gives of values within the limits is within them, or is a fault of the run.
use Rattle.std.proofs.Common.{◌≡◌, ◌≤◌, ◌-ℤ◌, ◌+ℤ◌, ◌*ℤ◌, ℕ, ℤ, pos, List, [], ◌∷◌, ◌++◌, length, Bool, true, false, Result, Ok, Err, nat_lt, refl, arith}
use Rattle.std.specs.Prelude.{⊤}
use Rattle.std.specs.Bool.{if◌then◌else◌}
use Rattle.std.specs.Int.{int_wrap, w64}
use Rattle.std.specs.Int.RustNames.{int_div, int_rem}
use Rattle.std.specs.Ordering.{int_eq, int_cmp, bool_cmp}
use Rattle.std.proofs.lemmas.Grind.{common_steps}
use Rattle.std.specs.List.{AllByRecursion}
use Rattle.bds_value.specs.declared.TheConstants.{MAX_TEXT, MAX_ITEMS}
use Rattle.bds_value.specs.declared.value.Op.{Op}
use Rattle.bds_value.specs.declared.value.Op.TheVariants.{Add, Sub, Mul, Div, Rem, Equal, NotEqual, Less, LessEqual, Greater, GreaterEqual, Concat, ListAdd, ListCat}
use Rattle.bds_value.specs.declared.faults.OpFault.{OpFault}
use Rattle.bds_value.specs.declared.faults.OpFault.TheVariants.{ZeroDivisor, TooLong, NoMemory}
use Rattle.bds_value.specs.declared.value.Ty.{Ty}
use Rattle.bds_value.specs.declared.value.Value.{Value, out-Value}
use Rattle.bds_value.specs.declared.value.Value.TheVariants as value
use Rattle.bds_value.specs.declared.value.Value.TheOpen.{Value-F}
use Rattle.bds_value.specs.Operators.{binary_of, result_at, number_result, text_result, list_result, joined_result, short_text, short_list, holds}
use Rattle.bds_value.specs.Order.{text_cmp}
use Rattle.bds_value.specs.Spelling.{IsWithinHere, IsWithinLimits}
use Rattle.bds_value.specs.TextResult.{held}
use Rattle.bds_value.proofs.Every.{every-Bool, every-Int, every-Text, every-List}
use Rattle.bds_value.proofs.FormedLaws.{value_cases}
use Rattle.bds_lib.proofs.FormedLaws.{all_append}

-- a result within the limits, or a fault of the run
abbrev pub IsShort : Result Value OpFault → Type 0
IsShort (Ok v) = IsWithinLimits v
IsShort (Err NoMemory) = ⊥
IsShort (Err e) = ⊤

bool_short : (b : Bool) → IsShort (Ok (value.Bool b))
bool_short b = (every-Bool IsWithinHere b).1 tt

int_short : (n : ℤ) → IsShort (Ok (value.Int n))
int_short n = (every-Int IsWithinHere n).1 tt

-- items within the limits, not too many
abbrev Few : List Value → Type 0
Few items = (length items ≤ MAX_ITEMS) × AllByRecursion IsWithinLimits items

text_short : (t : List ℕ) → IsShort (short_text t)
text_short t = elim (nat_lt MAX_TEXT (length t)) as (λ b. nat_lt MAX_TEXT (length t) ≡ b → IsShort (if b then Err (TooLong (held (length t))) else Ok (value.Text t))) [
  | true ↦ (λ e. tt)
  | false ↦ (λ e. (every-Text IsWithinHere t).1 (grind (arith, common_steps)))
] refl

list_short : (t : Ty) (items : List Value) → AllByRecursion IsWithinLimits items → IsShort (short_list t items)
list_short t items h = elim (nat_lt MAX_ITEMS (length items)) as (λ b. nat_lt MAX_ITEMS (length items) ≡ b → IsShort (if b then Err (TooLong (held (length items))) else Ok (value.List t items))) [
  | true ↦ (λ e. tt)
  | false ↦ (λ e. (every-List IsWithinHere t items).1 (grind (arith, common_steps), h))
] refl

divided_short : (b : Bool) (n : ℤ) → IsShort (if b then Err ZeroDivisor else Ok (value.Int n))
divided_short true n = tt
divided_short false n = int_short n

number_short : (op : Op) (a b : ℤ) → IsShort (number_result op a b)
number_short Add a b = int_short (int_wrap w64 (a +ℤ b))
number_short Sub a b = int_short (int_wrap w64 (a -ℤ b))
number_short Mul a b = int_short (int_wrap w64 (a *ℤ b))
number_short Div a b = divided_short (int_eq b (pos 0)) (int_wrap w64 (int_div a b))
number_short Rem a b = divided_short (int_eq b (pos 0)) (int_rem a b)
number_short Equal a b = bool_short (holds Equal (int_cmp a b))
number_short NotEqual a b = bool_short (holds NotEqual (int_cmp a b))
number_short Less a b = bool_short (holds Less (int_cmp a b))
number_short LessEqual a b = bool_short (holds LessEqual (int_cmp a b))
number_short Greater a b = bool_short (holds Greater (int_cmp a b))
number_short GreaterEqual a b = bool_short (holds GreaterEqual (int_cmp a b))
number_short Concat a b = bool_short (holds Concat (int_cmp a b))
number_short ListAdd a b = bool_short (holds ListAdd (int_cmp a b))
number_short ListCat a b = bool_short (holds ListCat (int_cmp a b))

texts_short : (op : Op) (a b : List ℕ) → IsShort (text_result op a b)
texts_short Concat a b = text_short (a ++ b)
texts_short Add a b = bool_short (holds Add (text_cmp a b))
texts_short Sub a b = bool_short (holds Sub (text_cmp a b))
texts_short Mul a b = bool_short (holds Mul (text_cmp a b))
texts_short Div a b = bool_short (holds Div (text_cmp a b))
texts_short Rem a b = bool_short (holds Rem (text_cmp a b))
texts_short Equal a b = bool_short (holds Equal (text_cmp a b))
texts_short NotEqual a b = bool_short (holds NotEqual (text_cmp a b))
texts_short Less a b = bool_short (holds Less (text_cmp a b))
texts_short LessEqual a b = bool_short (holds LessEqual (text_cmp a b))
texts_short Greater a b = bool_short (holds Greater (text_cmp a b))
texts_short GreaterEqual a b = bool_short (holds GreaterEqual (text_cmp a b))
texts_short ListAdd a b = bool_short (holds ListAdd (text_cmp a b))
texts_short ListCat a b = bool_short (holds ListCat (text_cmp a b))

-- the parts of a value are within the limits
abbrev PartsShort : Value-F Value → Type 0
PartsShort (Value-F.List t items) = AllByRecursion IsWithinLimits items
PartsShort _ = ⊤

parts_short : (v : Value) → IsWithinLimits v → PartsShort (out-Value v)
parts_short = value_cases (λ v. IsWithinLimits v → PartsShort (out-Value v))
    (λ b h. rw (value.outs-Bool b) tt)
    (λ n h. rw (value.outs-Int n) tt)
    (λ s h. rw (value.outs-Text s) tt)
    (λ t items h. rw (value.outs-List t items) ((every-List IsWithinHere t items).0 h).1)
    (λ t ps h. rw (value.outs-Map t ps) tt)

joined_short : (t : Ty) (items : List Value) (y : Value-F Value) → AllByRecursion IsWithinLimits items → PartsShort y → IsShort (joined_result t items y)
joined_short t items (Value-F.List u more) h k = list_short t (items ++ more) (all_append IsWithinLimits items more h k)
joined_short t items (Value-F.Bool b) h k = bool_short false
joined_short t items (Value-F.Int n) h k = bool_short false
joined_short t items (Value-F.Text s) h k = bool_short false
joined_short t items (Value-F.Map u ps) h k = bool_short false

lists_short : (op : Op) (t : Ty) (items : List Value) (r : Value) → AllByRecursion IsWithinLimits items → IsWithinLimits r → IsShort (list_result op t items r)
lists_short ListAdd t items r h k = list_short t (items ++ r ∷ []) (all_append IsWithinLimits items (r ∷ []) h (k, tt))
lists_short ListCat t items r h k = joined_short t items (out-Value r) h (parts_short r k)
lists_short Add t items r h k = bool_short false
lists_short Sub t items r h k = bool_short false
lists_short Mul t items r h k = bool_short false
lists_short Div t items r h k = bool_short false
lists_short Rem t items r h k = bool_short false
lists_short Equal t items r h k = bool_short false
lists_short NotEqual t items r h k = bool_short false
lists_short Less t items r h k = bool_short false
lists_short LessEqual t items r h k = bool_short false
lists_short Greater t items r h k = bool_short false
lists_short GreaterEqual t items r h k = bool_short false
lists_short Concat t items r h k = bool_short false

short_at : (op : Op) (x y : Value-F Value) (r : Value) → PartsShort x → IsWithinLimits r → IsShort (result_at op x y r)
short_at op (Value-F.List t items) y r h k = lists_short op t items r h k
short_at op (Value-F.Int a) (Value-F.Int b) r h k = number_short op a b
short_at op (Value-F.Int a) (Value-F.Bool b) r h k = bool_short false
short_at op (Value-F.Int a) (Value-F.Text b) r h k = bool_short false
short_at op (Value-F.Int a) (Value-F.List t b) r h k = bool_short false
short_at op (Value-F.Int a) (Value-F.Map t b) r h k = bool_short false
short_at op (Value-F.Text a) (Value-F.Text b) r h k = texts_short op a b
short_at op (Value-F.Text a) (Value-F.Bool b) r h k = bool_short false
short_at op (Value-F.Text a) (Value-F.Int b) r h k = bool_short false
short_at op (Value-F.Text a) (Value-F.List t b) r h k = bool_short false
short_at op (Value-F.Text a) (Value-F.Map t b) r h k = bool_short false
short_at op (Value-F.Bool a) (Value-F.Bool b) r h k = bool_short (holds op (bool_cmp a b))
short_at op (Value-F.Bool a) (Value-F.Int b) r h k = bool_short false
short_at op (Value-F.Bool a) (Value-F.Text b) r h k = bool_short false
short_at op (Value-F.Bool a) (Value-F.List t b) r h k = bool_short false
short_at op (Value-F.Bool a) (Value-F.Map t b) r h k = bool_short false
short_at op (Value-F.Map t a) y r h k = bool_short false

-- what an operator gives is within the limits where its operands are
pub binary_short : (op : Op) (l r : Value) → IsWithinLimits l → IsWithinLimits r → IsShort (binary_of op l r)
binary_short op l r h k = short_at op (out-Value l) (out-Value r) r (parts_short l h) k
