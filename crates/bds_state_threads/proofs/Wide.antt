-- What holds of the numbers of parts, part by part.
use Rattle.std.proofs.Common.{◌≡◌, ◌<◌, ◌+◌, ◌^◌, ℕ, List, slice_get, Some, below_more}
use Rattle.bds_value.specs.declared.value.Ty.{Ty}

abbrev pub LabelFits : ℕ × List Ty → Type 0
LabelFits l = l.0 < 2 ^ 32

-- what holds of the things before a place, and at it
pub one-more : {X : Type 0} (P : X → Type 0) (xs : List X) (i : ℕ) → ((k : ℕ) → k < i → (x : X) → slice_get xs k ≡ Some x → P x) → ((x : X) → slice_get xs i ≡ Some x → P x)
    → (k : ℕ) → k < i + 1 → (x : X) → slice_get xs k ≡ Some x → P x
one-more {X = X} P xs i before here k l x e = below_more (λ k. (x : X) → slice_get xs k ≡ Some x → P x) i (λ k l x at. before k l x at) here k l x e
