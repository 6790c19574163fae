-- What operators, methods, changes and paths take, as tests on types alone.
use Rattle.std.specs.Prelude.{ℕ, List, Bool, true, false, Option, Some, None, is_some}
use Rattle.bds_value.specs.declared.value.Op.{Op}
use Rattle.bds_value.specs.declared.value.Op.TheVariants.{Add, Sub, Mul, Div, Rem, Equal, NotEqual, Less, LessEqual, Greater, GreaterEqual, Concat, ListAdd, ListCat}
use Rattle.bds_value.specs.declared.value.Place.{Place}
use Rattle.bds_value.specs.declared.value.Ty.{Ty, out-Ty}
use Rattle.bds_value.specs.declared.value.Ty.TheOpen.{Ty-F}
use Rattle.bds_value.specs.Path.{type_at_path}
use Rattle.bds_value.specs.Types.{same_ty}
use Rattle.bds_lib.specs.Rows.{Signature, find, signatures_of, changes_of}
use Rattle.bds_verify.specs.Pass.{same_tys}

abbrev pub are_numbers : Ty-F Ty → Ty-F Ty → Bool
are_numbers Ty-F.Int Ty-F.Int = true
are_numbers _ _ = false

abbrev pub are_texts : Ty-F Ty → Ty-F Ty → Bool
are_texts Ty-F.Text Ty-F.Text = true
are_texts _ _ = false

-- two of one type whose values have an order
abbrev pub are_ordered : Ty-F Ty → Ty-F Ty → Bool
are_ordered Ty-F.Int Ty-F.Int = true
are_ordered Ty-F.Text Ty-F.Text = true
are_ordered _ _ = false

-- two of one type whose values may be compared
abbrev pub are_plain : Ty-F Ty → Ty-F Ty → Bool
are_plain Ty-F.Bool Ty-F.Bool = true
are_plain Ty-F.Int Ty-F.Int = true
are_plain Ty-F.Text Ty-F.Text = true
are_plain _ _ = false

-- a list, and an item of it
abbrev pub is_item : Ty-F Ty → Ty → Bool
is_item (Ty-F.List t) b = same_ty t b
is_item _ b = false

-- two lists of items of one type
abbrev pub are_lists : Ty-F Ty → Ty-F Ty → Bool
are_lists (Ty-F.List t) (Ty-F.List u) = same_ty t u
are_lists _ _ = false

-- whether an operator takes operands of these types
abbrev pub takes : Op → Ty → Ty → Bool
takes Add a b = are_numbers (out-Ty a) (out-Ty b)
takes Sub a b = are_numbers (out-Ty a) (out-Ty b)
takes Mul a b = are_numbers (out-Ty a) (out-Ty b)
takes Div a b = are_numbers (out-Ty a) (out-Ty b)
takes Rem a b = are_numbers (out-Ty a) (out-Ty b)
takes Equal a b = are_plain (out-Ty a) (out-Ty b)
takes NotEqual a b = are_plain (out-Ty a) (out-Ty b)
takes Less a b = are_ordered (out-Ty a) (out-Ty b)
takes LessEqual a b = are_ordered (out-Ty a) (out-Ty b)
takes Greater a b = are_ordered (out-Ty a) (out-Ty b)
takes GreaterEqual a b = are_ordered (out-Ty a) (out-Ty b)
takes Concat a b = are_texts (out-Ty a) (out-Ty b)
takes ListAdd a b = is_item (out-Ty a) b
takes ListCat a b = are_lists (out-Ty a) (out-Ty b)

-- whether a path leads to a part, in a value of this type
abbrev pub leads : List Place → Ty → Bool
leads path t = is_some (type_at_path path t)

abbrev pub is_of : Option Ty → Ty → Bool
is_of None t = false
is_of (Some p) t = same_ty p t

-- whether a path leads to a part of this type, in a value of the first type
abbrev pub suits : List Place → Ty → Ty → Bool
suits path whole part = is_of (type_at_path path whole) part

abbrev pub takes_all : Option (List Ty) → List Ty → Bool
takes_all None types = false
takes_all (Some arguments) types = same_tys arguments types

abbrev pub arguments_of : Option Signature → Option (List Ty)
arguments_of None = None
arguments_of (Some k) = Some k.arguments

-- whether a method takes a receiver and arguments of these types
abbrev pub is_row : ℕ → Ty → List Ty → Bool
is_row m receiver types = takes_all (arguments_of (find m (signatures_of (out-Ty receiver)))) types

-- whether a change takes a part and arguments of these types
abbrev pub is_change_row : ℕ → Ty → List Ty → Bool
is_change_row what part types = takes_all (find what (changes_of (out-Ty part))) types
