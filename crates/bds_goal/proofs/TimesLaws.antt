-- How often lists that lead the other way have a number.
use Rattle.std.proofs.Common.{◌≡◌, ℕ, zero, suc, ◌+◌, ◌<◌, ◌≤◌, Bool, true, false, ◌&&◌, List, [], ◌∷◌, ◌++◌, length}
use Rattle.std.proofs.Common.{refl, sym, ap, ◌∙◌, subst, arith, nat_eq, nat_lt, if◌then◌else◌}
use Rattle.std.proofs.lemmas.Bool.{eqb-true, false≢true}
use Rattle.std.proofs.lemmas.List.{length-set}
use Rattle.std.specs.List.{slice_set}
use Rattle.bds_goal.specs.Counts.{one_if}
use Rattle.bds_tasks.specs.Kept.{times}
use Rattle.bds_goal.specs.Marks.{edges_of, with_user, with_users}
use Rattle.bds_goal.proofs.MakerLaws.{both_later, first_isnt, later_isnt, same_bool}

more_zero : (n : ℕ) → n ≡ n + 0
more_zero n = omega arith

zero_more : (n : ℕ) → 0 + n ≡ n
zero_more n = omega arith

times_push : (k i : ℕ) (ns : List ℕ) → times k (ns ++ i ∷ []) ≡ times k ns + one_if (nat_eq k i)
times_push k i [] = go (nat_eq k i)
  where
    go : (b : Bool) → (if b then suc 0 else 0) ≡ 0 + one_if b
    go true = refl
    go false = refl
times_push k i (n ∷ ns) = go (nat_eq k n) (times_push k i ns)
  where
    go : (b : Bool) → times k (ns ++ i ∷ []) ≡ times k ns + one_if (nat_eq k i)
        → (if b then suc (times k (ns ++ i ∷ [])) else times k (ns
        ++ i ∷ [])) ≡ (if b then suc (times k ns) else times k ns) + one_if (nat_eq k i)
    go true h = omega (arith, h)
    go false h = h

set_times : (users : List (List ℕ)) (i j k m : ℕ) → m < length users
    → times k (edges_of (slice_set users j (edges_of users j
    ++ i ∷ [])) m) ≡ times k (edges_of users m) + one_if (nat_eq m j && nat_eq k i)
set_times users i j k m l = go users (edges_of users j ++ i ∷ []) j m l (λ e. times_push k i (edges_of users j))
  where
    apart : (x : ℕ) (c d : Bool) → c ≡ false → x ≡ x + one_if (c && d)
    apart x c d e = more_zero x ∙ ap (λ b. x + one_if (b && d)) (sym e)

    go : (us : List (List ℕ)) (new : List ℕ) (j m : ℕ) → m < length us
        → (m ≡ j → times k new ≡ times k (edges_of us j) + one_if (nat_eq k i))
        → times k (edges_of (slice_set us j new) m) ≡ times k (edges_of us m) + one_if (nat_eq m j && nat_eq k i)
    go [] new j m l h = let never : ⊥ = omega (arith, l) in elim never [ ]
    go (u ∷ us) new zero zero l h = h refl
    go (u ∷ us) new zero (suc m) l h = apart (times k (edges_of us m)) (nat_eq (suc m) 0) (nat_eq k i) (later_isnt m)
    go (u ∷ us) new (suc j) zero l h = apart (times k u) (nat_eq 0 (suc j)) (nat_eq k i) (first_isnt j)
    go (u ∷ us) new (suc j) (suc m) l h = go us new j m (omega (arith, l)) (λ e. h (ap suc e))
        ∙ ap (λ b. times k (edges_of us m) + one_if (b && nat_eq k i)) (sym (both_later m j))

pub with_times : (i : ℕ) (js : List ℕ) (users : List (List ℕ)) (k m : ℕ) → m < length users
    → times k (edges_of (with_users i js users) m) ≡ times k (edges_of users m) + (if nat_eq k i then times m js else 0)
with_times i [] users k m l = go (nat_eq k i)
  where
    go : (b : Bool) → times k (edges_of users m) ≡ times k (edges_of users m) + (if b then 0 else 0)
    go true = more_zero (times k (edges_of users m))
    go false = more_zero (times k (edges_of users m))
with_times i (j ∷ js) users k m l =
    with_times i js (with_user i j users) k m (subst (λ n. m < n) (sym (length-set users j (edges_of users j
    ++ i ∷ []))) l)
    ∙ ap (λ x. x + (if nat_eq k i then times m js else 0)) (set_times users i j k m l)
    ∙ go (times k (edges_of users m)) (times m js) (nat_eq m j) (nat_eq k i)
  where
    go : (a t : ℕ) (b c : Bool)
        → (a + one_if (b && c)) + (if c then t else 0) ≡ a + (if c then (if b then suc t else t) else 0)
    go a t true true = let e : (a + 1) + t ≡ a + suc t = omega arith in e
    go a t true false = let e : (a + 0) + 0 ≡ a + 0 = omega arith in e
    go a t false true = let e : (a + 0) + t ≡ a + t = omega arith in e
    go a t false false = let e : (a + 0) + 0 ≡ a + 0 = omega arith in e

-- the numbers up to i, and those up to it
pub times_more : (edges : List (List ℕ)) (i k j x : ℕ) → x ≡ (if nat_lt k i then times j (edges_of edges k) else 0)
    → x + (if nat_eq k i then times j (edges_of edges i) else 0) ≡
    (if nat_lt k (i + 1) then times j (edges_of edges k) else 0)
times_more edges i k j x h =
    ap (λ y. y + (if nat_eq k i then times j (edges_of edges i) else 0)) h ∙ go (nat_eq k i) refl
  where
    up_to : nat_eq k i ≡ false → nat_lt k (i + 1) ≡ nat_lt k i
    up_to e = same_bool (nat_lt k (i + 1)) (nat_lt k i) (λ t. grind (arith, e, t)) (λ t. grind (arith, t))

    go : (b : Bool) → nat_eq k i ≡ b
        → (if nat_lt k i then times j (edges_of edges k) else 0) + (if b then times j (edges_of edges i) else 0) ≡
        (if nat_lt k (i + 1) then times j (edges_of edges k) else 0)
    go true e =
        let is : k ≡ i = eqb-true k i e in
        let below : nat_lt k i ≡ false = same_bool (nat_lt k i) false
        (λ t. let less : k < i = grind (arith, t) in let never : ⊥ = omega (arith, less, is) in elim never [ ])
        (λ t. elim (false≢true t) [ ]) in
        let within : nat_lt k (i + 1) ≡ true = grind (arith, is) in
        ap (λ b. (if b then times j (edges_of edges k) else 0) + times j (edges_of edges i)) below
        ∙ zero_more (times j (edges_of edges i))
        ∙ ap (λ n. times j (edges_of edges n)) (sym is)
        ∙ ap (λ b. if b then times j (edges_of edges k) else 0) (sym within)
    go false e = sym (more_zero (if nat_lt k i then times j (edges_of edges k) else 0))
        ∙ ap (λ b. if b then times j (edges_of edges k) else 0) (sym (up_to e))

past : (edges : List (List ℕ)) (i : ℕ) → length edges ≤ i → edges_of edges i ≡ []
past [] i l = refl
past (x ∷ xs) zero l = let never : ⊥ = omega (arith, l) in elim never [ ]
past (x ∷ xs) (suc i) l = past xs i (omega (arith, l))

pub times_end : (edges : List (List ℕ)) (i j : ℕ)
    → (if nat_lt i (length edges) then times j (edges_of edges i) else 0) ≡ times j (edges_of edges i)
times_end edges i j = go (nat_lt i (length edges)) refl
  where
    go : (b : Bool) → nat_lt i (length edges) ≡ b
        → (if b then times j (edges_of edges i) else 0) ≡ times j (edges_of edges i)
    go true e = refl
    go false e = let far : length edges ≤ i = grind (arith, e) in sym (ap (times j) (past edges i far))
