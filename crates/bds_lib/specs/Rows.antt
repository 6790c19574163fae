-- The rows of the tables of methods and changes: on which types they stand, which arguments they take, and what a method gives.
use Rattle.std.specs.Prelude.{◌≡◌, ℕ, List, [], ◌∷◌, ◌++◌, ◌==◌, map, Option, Some, None, if◌then◌else◌}
use Rattle.bds_value.specs.declared.methods.Method.{Method}
use Rattle.bds_value.specs.declared.methods.Method.TheVariants.{Plain, Change}
use Rattle.bds_value.specs.declared.methods.Takes.{Takes}
use Rattle.bds_value.specs.declared.value.Ty.{Ty, out-Ty}
use Rattle.bds_value.specs.declared.value.Ty.TheVariants as ty
use Rattle.bds_value.specs.declared.value.Ty.TheOpen.{Ty-F}
use Rattle.bds_value.specs.Methods.{Row, part_ty, parts_of, gives_ty, text_rows, inner_rows, list_rows, item_rows, map_rows}

-- the types of a method's arguments and of its result
pub record Signature : Type 0 where
  pub arguments : List Ty
  pub gives : Ty

abbrev pub signature : List Ty → Ty → Signature
signature arguments gives = record { arguments = arguments; gives = gives }

-- what stands beside a number
abbrev pub find : {X : Type 0} → ℕ → List (ℕ × X) → Option X
find n [] = None
find n (r ∷ rows) = if r.0 == n then Some r.1 else find n rows

abbrev pub types_in : Ty → Takes → List Ty
types_in item takes = map (part_ty item) (parts_of takes)

abbrev pub with_signature : Method → Signature → List (ℕ × Signature) → List (ℕ × Signature)
with_signature (Plain n) k more = (n, k) ∷ more
with_signature _ k more = more

-- the methods among rows by their numbers, where the receiver's items or values have a type
abbrev pub signatures_in : Ty → List Row → List (ℕ × Signature)
signatures_in item [] = []
signatures_in item (r ∷ rows) = with_signature r.method (signature (types_in item r.takes) (gives_ty item r.gives)) (signatures_in item rows)

-- the methods of a text by their numbers
abbrev pub text_signatures : List (ℕ × Signature)
text_signatures = signatures_in ty.Void (text_rows ++ inner_rows)

-- the methods of every list of items of type t
abbrev pub list_signatures : Ty → List (ℕ × Signature)
list_signatures t = signatures_in t list_rows

-- further methods of a list, by the type of its items
abbrev pub item_signatures : Ty → Ty-F Ty → List (ℕ × Signature)
item_signatures t y = signatures_in t (item_rows y)

-- the methods of a map of values of type t
abbrev pub map_signatures : Ty → List (ℕ × Signature)
map_signatures t = signatures_in t map_rows

-- those of a receiver's type; a list or map that can hold nothing has rows here, and none for an instruction
abbrev pub signatures_of : Ty-F Ty → List (ℕ × Signature)
signatures_of Ty-F.Text = text_signatures
signatures_of (Ty-F.List t) = list_signatures t ++ item_signatures t (out-Ty t)
signatures_of (Ty-F.Map t) = map_signatures t
signatures_of _ = []

-- method m takes a receiver and arguments of these types, and gives a value of type t
abbrev pub IsRow : ℕ → Ty → List Ty → Ty → Type 0
IsRow m receiver arguments t = find m (signatures_of (out-Ty receiver)) ≡ Some (signature arguments t)

abbrev pub with_change : Method → List Ty → List (ℕ × List Ty) → List (ℕ × List Ty)
with_change (Change n) arguments more = (n, arguments) ∷ more
with_change _ arguments more = more

-- the changes among rows, with the types of their arguments
abbrev pub changes_in : Ty → List Row → List (ℕ × List Ty)
changes_in item [] = []
changes_in item (r ∷ rows) = with_change r.method (types_in item r.takes) (changes_in item rows)

-- the changes of every list of items of type t
abbrev pub list_changes : Ty → List (ℕ × List Ty)
list_changes t = changes_in t list_rows

-- further changes of a list, by the type of its items
abbrev pub item_changes : Ty → Ty-F Ty → List (ℕ × List Ty)
item_changes t y = changes_in t (item_rows y)

abbrev pub changes_of : Ty-F Ty → List (ℕ × List Ty)
changes_of (Ty-F.List t) = list_changes t ++ item_changes t (out-Ty t)
changes_of (Ty-F.Map t) = changes_in t map_rows
changes_of _ = []

-- a change takes a place and arguments of these types
abbrev pub IsChangeRow : ℕ → Ty → List Ty → Type 0
IsChangeRow what place arguments = find what (changes_of (out-Ty place)) ≡ Some arguments
