-- Tables by number, with a count beside each row.
use Rattle.std.proofs.Common.{◌≡◌, ◌+◌, ℕ, zero, suc, List, [], ◌∷◌, slice_get, Some, refl, subst, arith}
use Rattle.std.specs.Prelude.{⊤}

module _ {X : Type 0} (P : ℕ → ℕ → X → Type 0) where
  -- from a number on, each row is as its number and the count beside it say
  abbrev pub AreRows : ℕ → List X → List ℕ → Type 0
  AreRows m [] [] = ⊤
  AreRows m (x ∷ xs) (n ∷ ns) = P m n x × AreRows (suc m) xs ns
  AreRows m _ _ = ⊥

  nth : (m : ℕ) (xs : List X) (ns : List ℕ) (i : ℕ) (x : X) → AreRows m xs ns → slice_get xs i ≡ Some x → (n : ℕ) × (slice_get ns i ≡ Some n) × P (m + i) n x
  nth m [] ns i x all e = absurd (cc)
  nth m (y ∷ ys) [] i x all e = absurd all
  nth m (y ∷ ys) (n ∷ ns) zero x all e =
      let same : y ≡ x = cc in
      let here : m ≡ m + 0 = omega arith in
      (n, refl, subst (λ k. P k n x) here (subst (P m n) same all.0))
  nth m (y ∷ ys) (n ∷ ns) (suc i) x all e =
      let r = nth (suc m) ys ns i x all.1 e in
      let there : suc m + i ≡ m + suc i = omega arith in
      (r.0, r.1, subst (λ k. P k r.0 x) there r.2)

  pub row_there : (xs : List X) (ns : List ℕ) (i : ℕ) (x : X) → AreRows 0 xs ns → slice_get xs i ≡ Some x → (n : ℕ) × (slice_get ns i ≡ Some n) × P i n x
  row_there xs ns i x all e =
      let r = nth 0 xs ns i x all e in
      let number : 0 + i ≡ i = omega arith in
      (r.0, r.1, subst (λ k. P k r.0 x) number r.2)
