-- A test on each item of a list, one item further.
use Rattle.std.proofs.Common.{◌≡◌, ◌≤◌, ◌+◌, ◌&&◌, ℕ, zero, suc, length, drop, slice_get, arith, add-one, refl, ap}
use Rattle.std.proofs.Common.{Bool, true, List, [], ◌∷◌, Some}
use Rattle.std.specs.List.{list_all}

pub all_step : {X : Type 0} (p : X → Bool) (xs : List X) (n : ℕ) (x : X) → slice_get xs n ≡ Some x
    → list_all p (drop n xs) ≡ (p x && list_all p (drop (n + 1) xs))
all_step {X = X} p xs n x at = rw (add-one n) (steps xs n at)
  where
    steps : (xs : List X) (n : ℕ) → slice_get xs n ≡ Some x
        → list_all p (drop n xs) ≡ (p x && list_all p (drop (suc n) xs))
    steps [] n at = absurd (cc)
    steps (y ∷ ys) zero at = (let same : y ≡ x = cc in ap (λ z. p z && list_all p ys) same)
    steps (y ∷ ys) (suc n) at = steps ys n at

pub all_end : {X : Type 0} (p : X → Bool) (xs : List X) (n : ℕ) → length xs ≤ n → list_all p (drop n xs) ≡ true
all_end p [] zero l = refl
all_end p [] (suc n) l = refl
all_end p (x ∷ xs) zero l = absurd (omega (arith, l))
all_end p (x ∷ xs) (suc n) l = all_end p xs n (omega (arith, l))
