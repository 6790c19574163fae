-- A set of numbers that spreads along links, as often as there are numbers, holds all that it can reach.
use Rattle.std.proofs.Common.{◌≡◌, ◌∙◌, ℕ, zero, suc, ◌≤◌, ◌<◌, Bool, true, false, not, List, [], ◌∷◌, length, filter, cond, sym, ap, refl, subst, arith, ◌⊎◌, inl, inr}
use Rattle.std.specs.Prelude.{nat_eq}
use Rattle.std.specs.List.{list_any}
use Rattle.std.proofs.lemmas.Bool.{eqb-true, eq-eqb, or_cases, false≢true}
use Rattle.bds_goal.specs.Chains.{is_in, In}
use Rattle.bds_goal.specs.Needs.{repeated}
use Rattle.bds_goal.proofs.GoalTests.{some_in, any_of, either_true}

-- Filters

not_in_none : (r : ℕ) → In [] r → ⊥
not_in_none r h = false≢true h

pub head_in : (x : ℕ) (xs : List ℕ) → In (x ∷ xs) x
head_in x xs = either_true (nat_eq x x) _ (inl (eq-eqb x x refl))

pub tail_in : (x : ℕ) (xs : List ℕ) (r : ℕ) → In xs r → In (x ∷ xs) r
tail_in x xs r h = either_true (nat_eq r x) _ (inr h)

pub filter_gives : (p : ℕ → Bool) (xs : List ℕ) (r : ℕ) → In (filter p xs) r → In xs r × (p r ≡ true)
filter_gives p [] r h = absurd (false≢true h)
filter_gives p (x ∷ xs) r h = go (p x) refl (λ k. filter_gives p xs r k) h
  where
    go : (b : Bool) → p x ≡ b → (In (filter p xs) r → In xs r × (p r ≡ true)) → In (cond b (x ∷ filter p xs) (filter p xs)) r → In (x ∷ xs) r × (p r ≡ true)
    go false is more h = let it = more h in (tail_in x xs r it.0, it.1)
    go true is more h = by (or_cases (nat_eq r x) _ h)
      where
        by : (nat_eq r x ≡ true) ⊎ (list_any (nat_eq r) (filter p xs) ≡ true) → In (x ∷ xs) r × (p r ≡ true)
        by (inl same) = (either_true (nat_eq r x) _ (inl same), subst (λ y. p y ≡ true) (sym (eqb-true r x same)) is)
        by (inr there) = let it = more there in (tail_in x xs r it.0, it.1)

pub filter_takes : (p : ℕ → Bool) (xs : List ℕ) (r : ℕ) → In xs r → p r ≡ true → In (filter p xs) r
filter_takes p [] r h is = absurd (false≢true h)
filter_takes p (x ∷ xs) r h is = go (p x) refl (λ k. filter_takes p xs r k is) (or_cases (nat_eq r x) _ h)
  where
    go : (b : Bool) → p x ≡ b → (In xs r → In (filter p xs) r) → (nat_eq r x ≡ true) ⊎ (list_any (nat_eq r) xs ≡ true) → In (cond b (x ∷ filter p xs) (filter p xs)) r
    go true at more (inl same) = either_true (nat_eq r x) _ (inl same)
    go true at more (inr there) = tail_in x (filter p xs) r (more there)
    go false at more (inl same) = absurd (false≢true (sym at ∙ subst (λ y. p y ≡ true) (eqb-true r x same) is))
    go false at more (inr there) = more there

pub filter_most : (p : ℕ → Bool) (xs : List ℕ) → length (filter p xs) ≤ length xs
filter_most p [] = omega arith
filter_most p (x ∷ xs) = go (p x) (filter_most p xs)
  where
    go : (b : Bool) → length (filter p xs) ≤ length xs → length (cond b (x ∷ filter p xs) (filter p xs)) ≤ length (x ∷ xs)
    go true h = omega arith
    go false h = omega arith

-- the second test passes all that the first does
module _ (p q : ℕ → Bool) (more : (r : ℕ) → p r ≡ true → q r ≡ true) where
  filter_grows : (xs : List ℕ) → length (filter p xs) ≤ length (filter q xs)
  filter_grows [] = omega arith
  filter_grows (x ∷ xs) = go (p x) (q x) refl refl (filter_grows xs)
    where
      go : (b c : Bool) → p x ≡ b → q x ≡ c → length (filter p xs) ≤ length (filter q xs) → length (cond b (x ∷ filter p xs) (filter p xs)) ≤ length (cond c (x ∷ filter q xs) (filter q xs))
      go true true is is' h = omega arith
      go true false is is' h = absurd (false≢true (sym is' ∙ more x is))
      go false true is is' h = omega arith
      go false false is is' h = h

  pub filter_gains : (xs : List ℕ) (r : ℕ) → In xs r → p r ≡ false → q r ≡ true → length (filter p xs) < length (filter q xs)
  filter_gains [] r h none some = absurd (false≢true h)
  filter_gains (x ∷ xs) r h none some = go (p x) (q x) refl refl (λ k. filter_gains xs r k none some) (filter_grows xs) (or_cases (nat_eq r x) _ h)
    where
      go : (b c : Bool) → p x ≡ b → q x ≡ c → (In xs r → length (filter p xs) < length (filter q xs)) → length (filter p xs) ≤ length (filter q xs) → (nat_eq r x ≡ true) ⊎ (list_any (nat_eq r) xs ≡ true)
          → length (cond b (x ∷ filter p xs) (filter p xs)) < length (cond c (x ∷ filter q xs) (filter q xs))
      go true false is is' gain grow place = absurd (false≢true (sym is' ∙ more x is))
      go true true is is' gain grow (inl same) = absurd (false≢true (sym none ∙ subst (λ y. p y ≡ true) (sym (eqb-true r x same)) is))
      go true true is is' gain grow (inr there) = let g = gain there in omega arith
      go false true is is' gain grow place = omega arith
      go false false is is' gain grow (inl same) = absurd (false≢true (sym is' ∙ subst (λ y. q y ≡ true) (eqb-true r x same) some))
      go false false is is' gain grow (inr there) = gain there

-- Spreading

-- the numbers, links, and what a set becomes in a step: those of the numbers that are in it or have a link to one of it
module _ (all : List ℕ) (Link : ℕ → ℕ → Type 0) (next : List ℕ → List ℕ)
    (gives : (some : List ℕ) (r : ℕ) → In (next some) r → In all r × (In some r ⊎ ((s : ℕ) × In some s × Link r s)))
    (takes : (some : List ℕ) (r : ℕ) → In all r → In some r ⊎ ((s : ℕ) × In some s × Link r s) → In (next some) r) where
  abbrev IsStable : List ℕ → Type 0
  IsStable some = (r : ℕ) → In (next some) r → In some r

  abbrev AreAll : List ℕ → Type 0
  AreAll some = (r : ℕ) → In some r → In all r

  abbrev size_in : List ℕ → ℕ
  size_in some = length (filter (is_in some) all)

  next_all : (some : List ℕ) → AreAll (next some)
  next_all some r h = (gives some r h).0

  next_keeps : (some : List ℕ) → AreAll some → (r : ℕ) → In some r → In (next some) r
  next_keeps some within r h = takes some r (within r h) (inl h)

  -- nothing is new, or something is
  stable_or : (some : List ℕ) → IsStable some ⊎ ((r : ℕ) × In (next some) r × (is_in some r ≡ false))
  stable_or some = go (list_any (λ r. not (is_in some r)) (next some)) refl
    where
      not_true : (b : Bool) → not b ≡ true → b ≡ false
      not_true true h = absurd (false≢true h)
      not_true false h = refl

      by : (r : ℕ) → (b : Bool) → is_in some r ≡ b → list_any (λ r. not (is_in some r)) (next some) ≡ false → In (next some) r → In some r
      by r true is none h = is
      by r false is none h = absurd (false≢true (sym none ∙ any_of (λ r. not (is_in some r)) (next some) r h (ap not is)))

      go : (b : Bool) → list_any (λ r. not (is_in some r)) (next some) ≡ b → IsStable some ⊎ ((r : ℕ) × In (next some) r × (is_in some r ≡ false))
      go false is = inl (λ r h. by r (is_in some r) refl is h)
      go true is = let it = some_in (λ r. not (is_in some r)) (next some) is in inr (it.0, it.1, not_true (is_in some it.0) it.2)

  gains : (some : List ℕ) → AreAll some → (r : ℕ) → In (next some) r → is_in some r ≡ false → size_in some < size_in (next some)
  gains some within r new none = filter_gains (is_in some) (is_in (next some)) (next_keeps some within) all r (next_all some r new) none new

  stable_next : (some : List ℕ) → AreAll some → IsStable some → IsStable (next some)
  stable_next some within stable r h = by (gives (next some) r h).0 (gives (next some) r h).1
    where
      by : In all r → In (next some) r ⊎ ((s : ℕ) × In (next some) s × Link r s) → In (next some) r
      by there (inl kept) = kept
      by there (inr new) = takes some r there (inr (new.0, stable new.0 new.1, new.2))

  module _ (start : List ℕ) (within : AreAll start) where
    abbrev spread : ℕ → List ℕ
    spread k = repeated next k start

    spread_all : (k : ℕ) → AreAll (spread k)
    spread_all zero = within
    spread_all (suc k) = next_all (spread k)

    stable_by : (k : ℕ) → IsStable (spread k) ⊎ (k ≤ size_in (spread k))
    stable_by zero = inr (omega arith)
    stable_by (suc k) = go (stable_by k) (stable_or (spread k))
      where
        go : IsStable (spread k) ⊎ (k ≤ size_in (spread k)) → IsStable (spread k) ⊎ ((r : ℕ) × In (next (spread k)) r × (is_in (spread k) r ≡ false)) → IsStable (next (spread k)) ⊎ (suc k ≤ size_in (next (spread k)))
        go (inl stable) either = inl (stable_next (spread k) (spread_all k) stable)
        go (inr many) (inl stable) = inl (stable_next (spread k) (spread_all k) stable)
        go (inr many) (inr new) = let more = gains (spread k) (spread_all k) new.0 new.1 new.2 in inr (omega arith)

    -- after as many steps as there are numbers, nothing is new
    stable_end : IsStable (spread (length all))
    stable_end = go (stable_by (length all)) (stable_or (spread (length all)))
      where
        go : IsStable (spread (length all)) ⊎ (length all ≤ size_in (spread (length all))) → IsStable (spread (length all)) ⊎ ((r : ℕ) × In (next (spread (length all))) r × (is_in (spread (length all)) r ≡ false)) → IsStable (spread (length all))
        go (inl stable) either = stable
        go (inr many) (inl stable) = stable
        go (inr many) (inr new) =
            let more = gains (spread (length all)) (spread_all (length all)) new.0 new.1 new.2 in
            let most = filter_most (is_in (next (spread (length all)))) all in
            absurd (omega arith)

    abbrev pub End : ℕ → Type 0
    End r = In (spread (length all)) r

    kept_by : (k r : ℕ) → In start r → In (spread k) r
    kept_by zero r h = h
    kept_by (suc k) r h = next_keeps (spread k) (spread_all k) r (kept_by k r h)

    pub starts : (r : ℕ) → In start r → End r
    starts r h = kept_by (length all) r h

    pub ends_in_all : (r : ℕ) → End r → In all r
    ends_in_all r h = spread_all (length all) r h

    pub links : (r s : ℕ) → In all r → Link r s → End s → End r
    links r s there link h = stable_end r (takes (spread (length all)) r there (inr (s, h, link)))

    -- what holds of the start and goes back along links holds of each
    pub least : (P : ℕ → Type 0) → ((r : ℕ) → In start r → P r) → ((r s : ℕ) → In all r → Link r s → P s → P r) → (k r : ℕ) → In (spread k) r → P r
    least P begins goes zero r h = begins r h
    least P begins goes (suc k) r h = by (gives (spread k) r h).0 (gives (spread k) r h).1 (λ s. least P begins goes k s)
      where
        by : In all r → In (spread k) r ⊎ ((s : ℕ) × In (spread k) s × Link r s) → ((s : ℕ) → In (spread k) s → P s) → P r
        by there (inl kept) each = each r kept
        by there (inr new) each = goes r new.0 there new.2 (each new.0 new.1)
