-- Which numbers are marked, also behind one more.
use Rattle.std.proofs.Common.{◌≡◌, ℕ, zero, suc, ◌<◌, Bool, true, false, ◌||◌, List, [], ◌∷◌, length, refl, sym, ap, subst, arith, nat_eq}
use Rattle.std.proofs.lemmas.Bool.{eq-eqb, eqb-true, false≢true}
use Rattle.std.specs.List.{list_any, slice_set}
use Rattle.bds_goal.specs.Marks.{Marked, is_marked}
use Rattle.bds_goal.specs.Spreading.{unmarked}

or_left : (a b : Bool) → a ≡ true → a || b ≡ true
or_left a b e = ap (λ x. x || b) e

or_right : (a b : Bool) → b ≡ true → a || b ≡ true
or_right true b e = refl
or_right false b e = e

pub any_at : (marks : List Bool) (ns : List ℕ) → list_any (is_marked marks) ns ≡ true → (j : ℕ) × ((list_any (nat_eq j) ns ≡ true) × Marked marks j)
any_at marks [] e = elim (false≢true e) [ ]
any_at marks (m ∷ ms) e = go (any_at marks ms) (is_marked marks m) refl e
  where
    go : (list_any (is_marked marks) ms ≡ true → (j : ℕ) × ((list_any (nat_eq j) ms ≡ true) × Marked marks j)) → (b : Bool) → is_marked marks m ≡ b → b || list_any (is_marked marks) ms ≡ true → (j : ℕ) × ((list_any (nat_eq j) (m ∷ ms) ≡ true) × Marked marks j)
    go more true d h = (m, (or_left (nat_eq m m) (list_any (nat_eq m) ms) (eq-eqb m m refl), d))
    go more false d h = let f = more h in (f.0, (or_right (nat_eq f.0 m) (list_any (nat_eq f.0) ms) f.1.0, f.1.1))

pub any_from : (marks : List Bool) (s : ℕ) (ns : List ℕ) → list_any (nat_eq s) ns ≡ true → Marked marks s → list_any (is_marked marks) ns ≡ true
any_from marks s [] e m = elim (false≢true e) [ ]
any_from marks s (n ∷ ns) e m = go (any_from marks s ns) (nat_eq s n) refl e
  where
    go : (list_any (nat_eq s) ns ≡ true → Marked marks s → list_any (is_marked marks) ns ≡ true) → (b : Bool) → nat_eq s n ≡ b → b || list_any (nat_eq s) ns ≡ true → is_marked marks n || list_any (is_marked marks) ns ≡ true
    go more true d h = or_left (is_marked marks n) (list_any (is_marked marks) ns) (subst (λ k. Marked marks k) (eqb-true s n d) m)
    go more false d h = or_right (is_marked marks n) (list_any (is_marked marks) ns) (more h m)

pub marked_kept : (marks : List Bool) (i k : ℕ) → Marked marks k → Marked (slice_set marks i true) k
marked_kept [] i k m = m
marked_kept (x ∷ xs) zero zero m = refl
marked_kept (x ∷ xs) zero (suc k) m = m
marked_kept (x ∷ xs) (suc i) zero m = m
marked_kept (x ∷ xs) (suc i) (suc k) m = marked_kept xs i k m

-- what is marked was so, or is the one that was set
pub marked_set : (P : ℕ → Type 0) (marks : List Bool) (i k : ℕ) → (k ≡ i → P k) → (Marked marks k → P k) → Marked (slice_set marks i true) k → P k
marked_set P [] i k f g m = g m
marked_set P (x ∷ xs) zero zero f g m = f refl
marked_set P (x ∷ xs) zero (suc k) f g m = g m
marked_set P (x ∷ xs) (suc i) zero f g m = g m
marked_set P (x ∷ xs) (suc i) (suc k) f g m = marked_set (λ n. P (suc n)) xs i k (λ e. f (ap suc e)) g m

pub set_marked : (marks : List Bool) (i : ℕ) → i < length marks → Marked (slice_set marks i true) i
set_marked [] i l = let never : ⊥ = omega arith in elim never [ ]
set_marked (x ∷ xs) zero l = refl
set_marked (x ∷ xs) (suc i) l = set_marked xs i (omega arith)

pub unmarked_set : (marks : List Bool) (i : ℕ) → is_marked marks i ≡ false → i < length marks → unmarked (slice_set marks i true) < unmarked marks
unmarked_set [] i e l = omega arith
unmarked_set (true ∷ xs) zero e l = elim (false≢true (sym e)) [ ]
unmarked_set (false ∷ xs) zero e l = omega arith
unmarked_set (true ∷ xs) (suc i) e l = unmarked_set xs i e (omega arith)
unmarked_set (false ∷ xs) (suc i) e l = let h = unmarked_set xs i e (omega arith) in omega arith
