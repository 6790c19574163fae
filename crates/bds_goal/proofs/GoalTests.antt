-- Tests on lists of numbers.
use Rattle.std.proofs.Common.{◌≡◌, ℕ, Bool, true, false, ◌&&◌, ◌||◌, List, [], ◌∷◌, refl, subst, ◌⊎◌, inl, inr}
use Rattle.std.specs.Prelude.{nat_eq}
use Rattle.std.specs.List.{list_any}
use Rattle.std.proofs.lemmas.Bool.{eqb-true, eq-eqb, or_cases, false≢true}
use Rattle.bds_goal.specs.Chains.{In}

pub either_true : (a b : Bool) → (a ≡ true) ⊎ (b ≡ true) → (a || b) ≡ true
either_true true b h = refl
either_true false b (inl h) = absurd (false≢true h)
either_true false b (inr h) = h

pub both_true : (a b : Bool) → (a && b) ≡ true → (a ≡ true) × (b ≡ true)
both_true true b h = (refl, h)
both_true false b h = absurd (false≢true h)

pub of_both : (a b : Bool) → a ≡ true → b ≡ true → (a && b) ≡ true
of_both true b h h' = h'
of_both false b h h' = absurd (false≢true h)

pub some_in : (test : ℕ → Bool) (ns : List ℕ) → list_any test ns ≡ true → (k : ℕ) × In ns k × (test k ≡ true)
some_in test [] h = absurd (false≢true h)
some_in test (n ∷ ns) h = go (λ there. some_in test ns there) (or_cases (test n) (list_any test ns) h)
  where
    go : (list_any test ns ≡ true → (k : ℕ) × In ns k × (test k ≡ true)) → (test n ≡ true) ⊎ (list_any test ns ≡ true) → (k : ℕ) × In (n ∷ ns) k × (test k ≡ true)
    go more (inl here) = (n, either_true (nat_eq n n) _ (inl (eq-eqb n n refl)), here)
    go more (inr there) = let rest = more there in (rest.0, either_true (nat_eq rest.0 n) _ (inr rest.1), rest.2)

pub any_of : (test : ℕ → Bool) (ns : List ℕ) (k : ℕ) → In ns k → test k ≡ true → list_any test ns ≡ true
any_of test [] k is h = absurd (false≢true is)
any_of test (n ∷ ns) k is h = go (λ there. any_of test ns k there h) (or_cases (nat_eq k n) _ is)
  where
    go : (list_any (nat_eq k) ns ≡ true → list_any test ns ≡ true) → (nat_eq k n ≡ true) ⊎ (list_any (nat_eq k) ns ≡ true) → list_any test (n ∷ ns) ≡ true
    go more (inl same) = either_true (test n) _ (inl (subst (λ m. test m ≡ true) (eqb-true k n same) h))
    go more (inr there) = either_true (test n) _ (inr (more there))
