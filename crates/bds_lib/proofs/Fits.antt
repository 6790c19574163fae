-- Which items a change may add.
use Rattle.std.specs.Prelude.{◌≡◌, ℕ, List, [], ◌∷◌, ⊤}
use Rattle.bds_value.specs.declared.value.Ty.{Ty}
use Rattle.bds_value.specs.declared.value.Value.{Value, out-Value}
use Rattle.bds_value.specs.declared.value.Value.TheOpen.{Value-F}
use Rattle.bds_value.specs.Value.{type_of}

abbrev pub ListTakes : ℕ → Ty → List Value → Type 0
ListTakes what t [] = ⊤
ListTakes what t (x ∷ []) = what ≡ 6 → type_of x ≡ t
ListTakes what t (i ∷ x ∷ []) = what ≡ 7 → type_of x ≡ t
ListTakes what t (i ∷ x ∷ y ∷ rest) = ⊤

abbrev pub TakesAt : ℕ → Value-F Value → List Value → Type 0
TakesAt what (Value-F.List t items) args = ListTakes what t args
TakesAt what _ args = ⊤

-- an item that a change adds to a list has the type of its items
abbrev pub Takes : ℕ → Value → List Value → Type 0
Takes what place args = TakesAt what (out-Value place) args
