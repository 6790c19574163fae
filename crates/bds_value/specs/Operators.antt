-- What each operator gives, for any two values.
use Rattle.std.specs.Prelude.{◌≡◌, ℕ, ℤ, pos, ◌+ℤ◌, ◌-ℤ◌, ◌*ℤ◌, List, [], ◌∷◌, ◌++◌, Bool, true, false, if◌then◌else◌, Result, Ok, Err, ◌⊎◌}
use Rattle.std.specs.Ordering.{int_eq, int_cmp, bool_cmp, is_eq, is_ne, is_lt, is_le, is_gt, is_ge}
use Rattle.std.specs.declared.cmp.Ordering.{Ordering}
use Rattle.std.specs.Int.{int_wrap, w64}
use Rattle.std.specs.Int.RustNames.{int_div, int_rem}
use Rattle.bds_value.specs.Results.{OrWant}
use Rattle.bds_value.specs.declared.value.Op.{Op}
use Rattle.bds_value.specs.declared.value.Op.TheVariants.{Add, Sub, Mul, Div, Rem, Equal, NotEqual, Less, LessEqual, Greater, GreaterEqual, Concat, ListAdd, ListCat}
use Rattle.bds_value.specs.declared.faults.OpFault.{OpFault}
use Rattle.bds_value.specs.declared.faults.OpFault.TheVariants.{ZeroDivisor, TooLong, NoMemory}
use Rattle.bds_value.specs.declared.value.Ty.{Ty}
use Rattle.bds_value.specs.declared.value.Ty.TheVariants as ty
use Rattle.bds_value.specs.declared.value.Value.{Value, out-Value}
use Rattle.bds_value.specs.declared.value.Value.TheVariants as value
use Rattle.bds_value.specs.declared.value.Value.TheOpen.{Value-F}
use Rattle.bds_value.specs.Order.{text_cmp}
use Rattle.bds_value.specs.TextResult.{text_within, list_within}

-- what a comparison says of two operands in this order
abbrev pub holds : Op → Ordering → Bool
holds Equal o = is_eq o
holds NotEqual o = is_ne o
holds Less o = is_lt o
holds LessEqual o = is_le o
holds Greater o = is_gt o
holds GreaterEqual o = is_ge o
holds _ o = false

-- the quotient is cut off towards zero, and the remainder has the sign of a
abbrev pub number_result : Op → ℤ → ℤ → Result Value OpFault
number_result Add a b = Ok (value.Int (int_wrap w64 (a +ℤ b)))
number_result Sub a b = Ok (value.Int (int_wrap w64 (a -ℤ b)))
number_result Mul a b = Ok (value.Int (int_wrap w64 (a *ℤ b)))
number_result Div a b = if int_eq b (pos 0) then Err ZeroDivisor else Ok (value.Int (int_wrap w64 (int_div a b)))
number_result Rem a b = if int_eq b (pos 0) then Err ZeroDivisor else Ok (value.Int (int_rem a b))
number_result op a b = Ok (value.Bool (holds op (int_cmp a b)))

-- a text within the limit, else the length that it would need
abbrev pub short_text : List ℕ → Result Value OpFault
short_text = text_within TooLong

abbrev pub text_result : Op → List ℕ → List ℕ → Result Value OpFault
text_result Concat a b = short_text (a ++ b)
text_result op a b = Ok (value.Bool (holds op (text_cmp a b)))

abbrev pub bool_result : Op → Bool → Bool → Result Value OpFault
bool_result op a b = Ok (value.Bool (holds op (bool_cmp a b)))

-- a list within the limit, else the length that it would need
abbrev pub short_list : Ty → List Value → Result Value OpFault
short_list = list_within TooLong

-- what operands have that no operator takes
abbrev pub no_result : Result Value OpFault
no_result = Ok (value.Bool false)

abbrev pub joined_result : Ty → List Value → Value-F Value → Result Value OpFault
joined_result t items (Value-F.List u more) = short_list t (items ++ more)
joined_result t items _ = no_result

abbrev pub list_result : Op → Ty → List Value → Value → Result Value OpFault
list_result ListAdd t items right = short_list t (items ++ right ∷ [])
list_result ListCat t items right = joined_result t items (out-Value right)
list_result _ t items right = no_result

abbrev pub result_at : Op → Value-F Value → Value-F Value → Value → Result Value OpFault
result_at op (Value-F.List t items) _ right = list_result op t items right
result_at op (Value-F.Int a) (Value-F.Int b) right = number_result op a b
result_at op (Value-F.Text a) (Value-F.Text b) right = text_result op a b
result_at op (Value-F.Bool a) (Value-F.Bool b) right = bool_result op a b
result_at op _ _ right = no_result

-- the result of an operator at two values, or its fault
abbrev pub binary_of : Op → Value → Value → Result Value OpFault
binary_of op left right = result_at op (out-Value left) (out-Value right) right

-- which types an operator takes
abbrev pub Takes : Op → Ty → Ty → Type 0
Takes Add a b = (a ≡ ty.Int) × (b ≡ ty.Int)
Takes Sub a b = (a ≡ ty.Int) × (b ≡ ty.Int)
Takes Mul a b = (a ≡ ty.Int) × (b ≡ ty.Int)
Takes Div a b = (a ≡ ty.Int) × (b ≡ ty.Int)
Takes Rem a b = (a ≡ ty.Int) × (b ≡ ty.Int)
Takes Equal a b = ((a ≡ ty.Bool) ⊎ ((a ≡ ty.Int) ⊎ (a ≡ ty.Text))) × (b ≡ a)
Takes NotEqual a b = ((a ≡ ty.Bool) ⊎ ((a ≡ ty.Int) ⊎ (a ≡ ty.Text))) × (b ≡ a)
Takes Concat a b = (a ≡ ty.Text) × (b ≡ ty.Text)
Takes ListAdd a b = a ≡ ty.List b
Takes ListCat a b = ((t : Ty) × (a ≡ ty.List t)) × (b ≡ a)
Takes _ a b = ((a ≡ ty.Int) ⊎ (a ≡ ty.Text)) × (b ≡ a)

-- the type of the result, by the type of the left operand
abbrev pub result_type : Op → Ty → Ty
result_type Add t = ty.Int
result_type Sub t = ty.Int
result_type Mul t = ty.Int
result_type Div t = ty.Int
result_type Rem t = ty.Int
result_type Concat t = ty.Text
result_type ListAdd t = t
result_type ListCat t = t
result_type _ t = ty.Bool

abbrev pub is_want : OpFault → Bool
is_want NoMemory = true
is_want _ = false

-- what a call answers, unless memory runs out
abbrev pub OrNoMemory : Result Value OpFault → Result Value OpFault → Type 0
OrNoMemory = OrWant is_want
