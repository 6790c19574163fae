-- The least of the numbers above a bound, one after the other.
use Rattle.std.proofs.Common.{◌≡◌, ℕ, Bool, append-nil, ap, ◌∙◌, cond, Some, List, [], ◌∷◌, ◌++◌, refl, min, filter}
use Rattle.std.proofs.Common.{nat_lt, true, false}
use Rattle.std.proofs.lemmas.List.Elements.{filter-append}
use Rattle.std.proofs.lemmas.List.Sums.{fold-append}
use Rattle.std.specs.List.{reduce}
use Rattle.bds_around.specs.Turns.{lesser_of, least_above}

-- one more number
least-append : (xs : List ℕ) (x : ℕ) → reduce min (xs ++ x ∷ []) ≡ Some (lesser_of (reduce min xs) x)
least-append [] x = refl
least-append (y ∷ ys) x = ap Some (fold-append min y ys (x ∷ []))

-- one more number, which is above the bound
pub least_above-above : (bound : ℕ) (xs : List ℕ) (x : ℕ) → nat_lt bound x ≡ true
    → least_above bound (xs ++ x ∷ []) ≡ Some (lesser_of (least_above bound xs) x)
least_above-above bound xs x above =
    let test : ℕ → Bool = λ k. nat_lt bound k in
    ap (reduce min) (filter-append test xs (x ∷ []) ∙ ap (λ b. filter test xs ++ cond b (x ∷ []) []) above)
    ∙ least-append (filter test xs) x

-- one more number, which isn't
pub least_above-below : (bound : ℕ) (xs : List ℕ) (x : ℕ) → nat_lt bound x ≡ false
    → least_above bound (xs ++ x ∷ []) ≡ least_above bound xs
least_above-below bound xs x below =
    let test : ℕ → Bool = λ k. nat_lt bound k in
    ap (reduce min)
    (filter-append test xs (x ∷ []) ∙ ap (λ b. filter test xs ++ cond b (x ∷ []) []) below
    ∙ append-nil (filter test xs))

pub ruleset leasts = (least_above-above, least_above-below)
