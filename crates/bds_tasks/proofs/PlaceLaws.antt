-- Lists by their places, and how often a list has a number.
use Rattle.std.proofs.Common.{◌≡◌, ℕ, zero, suc, ◌+◌, ◌-◌, ◌<◌, ◌≤◌, Bool, true, false, List, [], ◌∷◌, ◌++◌, length}
use Rattle.std.proofs.Common.{refl, sym, ap, ◌∙◌, subst, arith, get_or, nat_eq, nat_le, if◌then◌else◌}
use Rattle.std.proofs.lemmas.Bool.{eq-eqb, eqb-true, false≢true}
use Rattle.std.specs.List.{slice_set}
use Rattle.bds_tasks.specs.Kept.{lowered, times}

pub list_ext : (xs ys : List ℕ) → length xs ≡ length ys → ((i : ℕ) → get_or xs i 0 ≡ get_or ys i 0) → xs ≡ ys
list_ext [] [] l h = refl
list_ext [] (y ∷ ys) l h = let no : ⊥ = omega (arith, l) in elim no [ ]
list_ext (x ∷ xs) [] l h = let no : ⊥ = omega (arith, l) in elim no [ ]
list_ext (x ∷ xs) (y ∷ ys) l h =
    ap (λ z. z ∷ xs) (h 0) ∙ ap (λ (zs : List ℕ). y ∷ zs) (list_ext xs ys (omega (arith, l)) (λ i. h (suc i)))

pub set_here : (xs : List ℕ) (k v : ℕ) → k < length xs → get_or (slice_set xs k v) k 0 ≡ v
set_here [] k v l = let no : ⊥ = omega (arith, l) in elim no [ ]
set_here (x ∷ xs) zero v l = refl
set_here (x ∷ xs) (suc k) v l = set_here xs k v (omega (arith, l))

pub set_other : (xs : List ℕ) (k i v : ℕ) → (k ≡ i → ⊥) → get_or (slice_set xs k v) i 0 ≡ get_or xs i 0
set_other [] k i v h = refl
set_other (x ∷ xs) zero zero v h = elim (h refl) [ ]
set_other (x ∷ xs) zero (suc i) v h = refl
set_other (x ∷ xs) (suc k) zero v h = refl
set_other (x ∷ xs) (suc k) (suc i) v h = set_other xs k i v (λ e. h (ap suc e))

pub set_past : (xs : List ℕ) (k v : ℕ) → length xs ≤ k → slice_set xs k v ≡ xs
set_past [] k v l = refl
set_past (x ∷ xs) zero v l = let no : ⊥ = omega (arith, l) in elim no [ ]
set_past (x ∷ xs) (suc k) v l = ap (λ (zs : List ℕ). x ∷ zs) (set_past xs k v (omega (arith, l)))

pub set_long : (xs : List ℕ) (k v : ℕ) → length (slice_set xs k v) ≡ length xs
set_long [] k v = refl
set_long (x ∷ xs) zero v = refl
set_long (x ∷ xs) (suc k) v = ap suc (set_long xs k v)

pub past_zero : (xs : List ℕ) (i : ℕ) → length xs ≤ i → get_or xs i 0 ≡ 0
past_zero [] i l = refl
past_zero (x ∷ xs) zero l = let no : ⊥ = omega (arith, l) in elim no [ ]
past_zero (x ∷ xs) (suc i) l = past_zero xs i (omega (arith, l))

pub same_or_not : (P : Type 0) (a b : ℕ) → (a ≡ b → P) → ((a ≡ b → ⊥) → P) → P
same_or_not P a b f g = go (nat_eq a b) refl
  where
    go : (c : Bool) → nat_eq a b ≡ c → P
    go true e = f (eqb-true a b e)
    go false e = g (λ is. false≢true (sym e ∙ eq-eqb a b is))

pub within_or_past : (P : Type 0) (a b : ℕ) → (a < b → P) → (b ≤ a → P) → P
within_or_past P a b f g = go (nat_le b a) refl
  where
    go : (c : Bool) → nat_le b a ≡ c → P
    go true e = g (grind (arith, e))
    go false e = f (grind (arith, e))

pub not_same : (a b : ℕ) → (a ≡ b → ⊥) → nat_eq a b ≡ false
not_same a b h = go (nat_eq a b) refl
  where
    go : (c : Bool) → nat_eq a b ≡ c → c ≡ false
    go true e = elim (h (eqb-true a b e)) [ ]
    go false e = refl

pub eq_zero : (n : ℕ) → nat_eq (suc n) 0 ≡ false
eq_zero n = not_same (suc n) 0 (λ e. let no : ⊥ = omega (arith, e) in no)

-- how often

pub times_push : (k i : ℕ) (ns : List ℕ) → times k (ns ++ i ∷ []) ≡ times k ns + times k (i ∷ [])
times_push k i [] = let none : times k (i ∷ []) ≡ 0 + times k (i ∷ []) = omega arith in none
times_push k i (n ∷ ns) = go (nat_eq k n) (times_push k i ns)
  where
    go : (b : Bool) → times k (ns ++ i ∷ []) ≡ times k ns + times k (i ∷ [])
        → (if b then suc (times k (ns ++ i ∷ [])) else times k (ns
        ++ i ∷ [])) ≡ (if b then suc (times k ns) else times k ns) + times k (i ∷ [])
    go true h = let more : suc (times k ns) + times k (i ∷ []) ≡ suc (times k ns + times k (i ∷ [])) =
        omega arith in ap suc h ∙ sym more
    go false h = h

pub times_same : (k n : ℕ) (ns : List ℕ) → k ≡ n → times k (n ∷ ns) ≡ suc (times k ns)
times_same k n ns e = ap (λ b. if b then suc (times k ns) else times k ns) (eq-eqb k n e)

pub times_other : (k n : ℕ) (ns : List ℕ) → (k ≡ n → ⊥) → times k (n ∷ ns) ≡ times k ns
times_other k n ns h = ap (λ b. if b then suc (times k ns) else times k ns) (not_same k n h)

-- none is 0
pub some_first : (n : ℕ) (ns : List ℕ) → times 0 (n ∷ ns) ≡ 0 → (0 ≡ n → ⊥)
some_first n ns z e = let more = times_same 0 n ns e in let no : ⊥ = omega (arith, more, z) in no

pub some_rest : (n : ℕ) (ns : List ℕ) → times 0 (n ∷ ns) ≡ 0 → times 0 ns ≡ 0
some_rest n ns z = sym (times_other 0 n ns (some_first n ns z)) ∙ z

less_none : (x : ℕ) → x ≡ x - 0
less_none x = omega arith

-- lowered counts

pub lowered_long : (ms counts : List ℕ) → length (lowered ms counts) ≡ length counts
lowered_long [] counts = refl
lowered_long (m ∷ ms) counts = lowered_long ms (slice_set counts (m - 1) (get_or counts (m - 1) 0 - 1))
    ∙ set_long counts (m - 1) (get_or counts (m - 1) 0 - 1)

set_less_here : (cs : List ℕ) (k : ℕ) → get_or (slice_set cs k (get_or cs k 0 - 1)) k 0 ≡ get_or cs k 0 - 1
set_less_here [] k = let e : 0 ≡ 0 - 1 = omega arith in e
set_less_here (c ∷ cs) zero = refl
set_less_here (c ∷ cs) (suc k) = set_less_here cs k

pub lowered_at : (ms counts : List ℕ) (i : ℕ) → times 0 ms ≡ 0
    → get_or (lowered ms counts) i 0 ≡ get_or counts i 0 - times (suc i) ms
lowered_at [] counts i z = less_none (get_or counts i 0)
lowered_at (m ∷ ms) counts i z =
    let more = slice_set counts (m - 1) (get_or counts (m - 1) 0 - 1) in
    lowered_at ms more i (some_rest m ms z)
    ∙ same_or_not (get_or more i 0 - times (suc i) ms ≡ get_or counts i 0 - times (suc i) (m ∷ ms)) (m - 1) i
    (λ e.
    let first = some_first m ms z in
    let is : suc i ≡ m = let one : 1 ≤ m = positive m first in omega (arith, e, one) in
    ap (λ x. x - times (suc i) ms) (subst (λ j. get_or (slice_set counts j (get_or counts j 0 - 1)) i 0 ≡ get_or counts
    i 0 - 1) (sym e) (set_less_here counts i))
    ∙ two (get_or counts i 0) (times (suc i) ms)
    ∙ ap (λ t. get_or counts i 0 - t) (sym (times_same (suc i) m ms is)))
    (λ e.
    ap (λ x. x - times (suc i) ms) (set_other counts (m - 1) i (get_or counts (m - 1) 0 - 1) e)
    ∙ ap (λ t. get_or counts i 0 - t) (sym (times_other (suc i) m ms
    (λ is. e (let same : m - 1 ≡ i = omega (arith, is) in same)))))
  where
    two : (a t : ℕ) → (a - 1) - t ≡ a - suc t
    two a t = omega arith

    positive : (n : ℕ) → (0 ≡ n → ⊥) → 1 ≤ n
    positive zero h = elim (h refl) [ ]
    positive (suc n) h = omega arith
