-- The mark of a number, and the marks of one more function.
use Rattle.std.proofs.Common.{◌≡◌, ◌⊎◌, inl, inr, ℕ, zero, suc, List, [], ◌∷◌, ◌++◌, length, slice_get, Some, refl, ap}
use Rattle.std.proofs.Common.{subst}
use Rattle.std.proofs.lemmas.List.Elements.{All-get_or}
use Rattle.std.proofs.lemmas.Option.{slice_get_within, get_or_from_slice_get}
use Rattle.bds_value.specs.declared.value.Ty.{Ty}
use Rattle.bds_code.specs.declared.unit.Function.{Function}
use Rattle.bds_code.specs.declared.unit.Unit.{Unit as CodeUnit}
use Rattle.bds_verify.specs.Marked.{IsMark, AreMarks, AreAllMarks}

pub mark_at : (u : CodeUnit) (f : Function) (ms : List (ℕ × List Ty)) (i : ℕ) (m : ℕ × List Ty) → AreMarks u f ms
    → slice_get ms i ≡ Some m → IsMark u f m
mark_at u f ms i m all at = subst (IsMark u f) (get_or_from_slice_get ms i m m at)
    (All-get_or (IsMark u f) ms i m (slice_get_within ms i m at) all)

before_or_last : {X : Type 0} (xs : List X) (x y : X) (n : ℕ) → slice_get (xs ++ x ∷ []) n ≡ Some y
    → (slice_get xs n ≡ Some y) ⊎ ((n ≡ length xs) × (x ≡ y))
before_or_last [] x y zero e = let same : x ≡ y = cc in inr (refl, same)
before_or_last [] x y (suc n) e = absurd (cc)
before_or_last (z ∷ zs) x y zero e = inl e
before_or_last (z ∷ zs) x y (suc n) e =
    elim (before_or_last zs x y n e) [ inl there ↦ inl there | inr (at, same) ↦ inr (ap suc at, same) ]

pub all_more : (u : CodeUnit) (all : List (List (ℕ × List Ty))) (ms : List (ℕ × List Ty)) (f : Function)
    → AreAllMarks u all → slice_get u.functions (length all) ≡ Some f → AreMarks u f ms → AreAllMarks u (all ++ ms ∷ [])
all_more u all ms f before is new n g ns at there = elim (before_or_last all ms ns n there) [
  | inl old ↦ before n g ns at old
  | inr (last, same) ↦
      let function : slice_get u.functions (length all) ≡ Some g =
      subst (λ k. slice_get u.functions k ≡ Some g) last at in
      let equal : f ≡ g = cc in
      subst (λ xs. AreMarks u g xs) same (subst (λ h. AreMarks u h ms) equal new)
]

pub no_marks : (u : CodeUnit) (all : List (List (ℕ × List Ty))) → all ≡ [] → AreAllMarks u all
no_marks u all e n f ms at there = let none : slice_get {X = List (ℕ × List Ty)} [] n ≡ Some ms =
    subst (λ (l : List (List (ℕ × List Ty))). slice_get l n ≡ Some ms) e there in absurd (cc)
