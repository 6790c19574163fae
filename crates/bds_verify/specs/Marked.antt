-- For private contracts alone: where a pass over the code of a function may begin.
use Rattle.std.specs.Prelude.{ℕ, List, Option, Some, None, IsSome, slice_get, ◌≡◌, ◌⊎◌}
use Rattle.std.specs.List.{All}
use Rattle.bds_value.specs.declared.value.Ty.{Ty}
use Rattle.bds_code.specs.declared.unit.Function.{Function}
use Rattle.bds_code.specs.declared.unit.Unit.{Unit as CodeUnit}
use Rattle.bds_verify.specs.Verified.{label_at}
use Rattle.bds_verify.specs.Pass.{comes}

-- a mark: a place with the list that comes there
abbrev pub IsMark : CodeUnit → Function → ℕ × List Ty → Type 0
IsMark u f m = Some m.1 ≡ comes u f m.0

abbrev pub AreMarks : CodeUnit → Function → List (ℕ × List Ty) → Type 0
AreMarks u f ms = All (IsMark u f) ms

-- one list of marks for each function
abbrev pub AreAllMarks : CodeUnit → List (List (ℕ × List Ty)) → Type 0
AreAllMarks u all = (n : ℕ) (f : Function) (ms : List (ℕ × List Ty)) → slice_get u.functions n ≡ Some f → slice_get all n ≡ Some ms → AreMarks u f ms

-- a place with the list that comes there, or without one, where a label declares what is there
abbrev pub IsBeginning : CodeUnit → Function → ℕ → Option (List Ty) → Type 0
IsBeginning u f place come = (come ≡ comes u f place) ⊎ ((come ≡ None) × IsSome (label_at f.labels place))
