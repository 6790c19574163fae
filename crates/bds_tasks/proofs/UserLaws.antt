-- Which tasks need a task, as lists, behind one more.
use Rattle.std.proofs.Common.{◌≡◌, ℕ, zero, suc, ◌+◌, ◌-◌, ◌<◌, ◌≤◌, Bool, true, false, List, [], ◌∷◌, ◌++◌, length}
use Rattle.std.proofs.Common.{refl, sym, ap, ◌∙◌, subst, arith, nat_eq, nat_lt, replicate, if◌then◌else◌}
use Rattle.std.proofs.lemmas.Bool.{eq-eqb, false≢true, lt-ltb}
use Rattle.std.proofs.lemmas.List.{length-replicate}
use Rattle.std.specs.List.{AllByRecursion, slice_set}
use Rattle.bds_tasks.specs.declared.task.Task.{Task}
use Rattle.bds_tasks.specs.Kept.{AreUsers, AreUsersBelow, list_at, needs_at, times, with_user, with_users}
use Rattle.bds_tasks.specs.Sound.{AreSound, AreTasks, EndedBadly}
use Rattle.bds_tasks.proofs.PlaceLaws.{not_same, same_or_not, some_first, some_rest, times_other, times_push}
use Rattle.bds_tasks.proofs.PlaceLaws.{within_or_past}

more_zero : (n : ℕ) → n ≡ n + 0
more_zero n = omega arith

zero_more : (n : ℕ) → 0 + n ≡ n
zero_more n = omega arith

lists_long : (us : List (List ℕ)) (k : ℕ) (v : List ℕ) → length (slice_set us k v) ≡ length us
lists_long [] k v = refl
lists_long (u ∷ us) zero v = refl
lists_long (u ∷ us) (suc k) v = ap suc (lists_long us k v)

list_here : (us : List (List ℕ)) (k : ℕ) (v : List ℕ) → k < length us → list_at (slice_set us k v) k ≡ v
list_here [] k v l = let no : ⊥ = omega (arith, l) in elim no [ ]
list_here (u ∷ us) zero v l = refl
list_here (u ∷ us) (suc k) v l = list_here us k v (omega (arith, l))

list_other : (us : List (List ℕ)) (k i : ℕ) (v : List ℕ) → (k ≡ i → ⊥) → list_at (slice_set us k v) i ≡ list_at us i
list_other [] k i v h = refl
list_other (u ∷ us) zero zero v h = elim (h refl) [ ]
list_other (u ∷ us) zero (suc i) v h = refl
list_other (u ∷ us) (suc k) zero v h = refl
list_other (u ∷ us) (suc k) (suc i) v h = list_other us k i v (λ e. h (ap suc e))

list_past : (us : List (List ℕ)) (i : ℕ) → length us ≤ i → list_at us i ≡ []
list_past [] i l = refl
list_past (u ∷ us) zero l = let no : ⊥ = omega (arith, l) in elim no [ ]
list_past (u ∷ us) (suc i) l = list_past us i (omega (arith, l))

positive : (n : ℕ) → (0 ≡ n → ⊥) → 1 ≤ n
positive zero h = elim (h refl) [ ]
positive (suc n) h = omega arith

user_times : (n m : ℕ) (us : List (List ℕ)) (x k : ℕ) → 1 ≤ m → k < length us
    → times x (list_at (with_user n m us) k) ≡ times x (list_at us k) +
    (if nat_eq (suc k) m then times x (n ∷ []) else 0)
user_times n m us x k one l = same_or_not (times x (list_at (with_user n m us) k) ≡ times x (list_at us k) +
    (if nat_eq (suc k) m then times x (n ∷ []) else 0)) (m - 1) k
    (λ e.
    let is : suc k ≡ m = omega (arith, e, one) in
    subst (λ j. times x (list_at (slice_set us j (list_at us j
    ++ n ∷ [])) k) ≡ times x (list_at us k) + times x (n ∷ [])) (sym e)
    (ap (times x) (list_here us k (list_at us k ++ n ∷ []) l) ∙ times_push x n (list_at us k))
    ∙ ap (λ b. times x (list_at us k) + (if b then times x (n ∷ []) else 0)) (sym (eq-eqb (suc k) m is)))
    (λ h.
    ap (times x) (list_other us (m - 1) k (list_at us (m - 1) ++ n ∷ []) h)
    ∙ more_zero (times x (list_at us k))
    ∙ ap (λ b. times x (list_at us k) + (if b then times x (n ∷ []) else 0))
    (sym (not_same (suc k) m (λ is. h (let e : m - 1 ≡ k = omega (arith, is) in e)))))

pub users_long : (n : ℕ) (ms : List ℕ) (us : List (List ℕ)) → length (with_users n ms us) ≡ length us
users_long n [] us = refl
users_long n (m ∷ ms) us = users_long n ms (with_user n m us) ∙ lists_long us (m - 1) (list_at us (m - 1) ++ n ∷ [])

-- n stands behind what there was, as often as it needs that task
pub users_times : (n : ℕ) (ms : List ℕ) (us : List (List ℕ)) (x k : ℕ) → times 0 ms ≡ 0 → k < length us
    → times x (list_at (with_users n ms us) k) ≡ times x (list_at us k) + (if nat_eq x n then times (suc k) ms else 0)
users_times n [] us x k z l =
    more_zero (times x (list_at us k)) ∙ ap (λ y. times x (list_at us k) + y) (go (nat_eq x n))
  where
    go : (b : Bool) → ◌≡◌ {A = ℕ} 0 (if b then 0 else 0)
    go true = refl
    go false = refl
users_times n (m ∷ ms) us x k z l =
    users_times n ms (with_user n m us) x k (some_rest m ms z)
    (subst (λ y. k < y) (sym (lists_long us (m - 1) (list_at us (m - 1) ++ n ∷ []))) l)
    ∙ ap (λ y. y + (if nat_eq x n then times (suc k) ms else 0))
    (user_times n m us x k (positive m (some_first m ms z)) l)
    ∙ go (times x (list_at us k)) (times (suc k) ms) (nat_eq (suc k) m) (nat_eq x n)
  where
    go : (a t : ℕ) (b c : Bool)
        → (a + (if b then (if c then 1 else 0) else 0)) + (if c then t else 0) ≡ a +
        (if c then (if b then suc t else t) else 0)
    go a t true true = let e : (a + 1) + t ≡ a + suc t = omega arith in e
    go a t true false = let e : (a + 0) + 0 ≡ a + 0 = omega arith in e
    go a t false true = let e : (a + 0) + t ≡ a + t = omega arith in e
    go a t false false = let e : (a + 0) + 0 ≡ a + 0 = omega arith in e

pub users_none : (n : ℕ) (ms : List ℕ) (us : List (List ℕ)) → 1 ≤ n → times 0 ms ≡ 0
    → ((k : ℕ) → times 0 (list_at us k) ≡ 0) → (k : ℕ) → times 0 (list_at (with_users n ms us) k) ≡ 0
users_none n ms us one z h k = within_or_past (times 0 (list_at (with_users n ms us) k) ≡ 0) k (length us)
    (λ l. users_times n ms us 0 k z l
    ∙ ap (λ b. times 0 (list_at us k) + (if b then times (suc k) ms else 0))
    (not_same 0 n (λ e. let no : ⊥ = omega (arith, e, one) in no)) ∙ sym (more_zero (times 0 (list_at us k))) ∙ h k)
    (λ l. ap (times 0) (list_past (with_users n ms us) k (subst (λ y. y ≤ k) (sym (users_long n ms us)) l)))

-- what tasks need

times_above : (i x : ℕ) (ns : List ℕ) → AllByRecursion (λ n. (1 ≤ n) × (n ≤ i)) ns → i < x → times x ns ≡ 0
times_above i x [] a l = refl
times_above i x (n ∷ ns) a l =
    times_other x n ns (λ e. let m = a.0.1 in let no : ⊥ = omega (arith, m, e, l) in no) ∙ times_above i x ns a.1 l

times_zero : (i : ℕ) (ns : List ℕ) → AllByRecursion (λ n. (1 ≤ n) × (n ≤ i)) ns → times 0 ns ≡ 0
times_zero i [] a = refl
times_zero i (n ∷ ns) a =
    times_other 0 n ns (λ e. let m = a.0.0 in let no : ⊥ = omega (arith, m, e) in no) ∙ times_zero i ns a.1

needs_sound : (P : ℕ → Type 0) (j : ℕ) (ts : List Task) → AreSound P j ts → (i : ℕ)
    → AllByRecursion (λ n. (1 ≤ n) × (n ≤ j + i)) (needs_at ts i)
needs_sound P j [] a i = tt
needs_sound P j (t ∷ ts) a zero =
    let z : j ≡ j + 0 = omega arith in subst (λ x. AllByRecursion (λ n. (1 ≤ n) × (n ≤ x)) t.needs) z a.0.needs
needs_sound P j (t ∷ ts) a (suc i) = let z : (j + 1) + i ≡ j + suc i = omega arith in subst
    (λ x. AllByRecursion (λ n. (1 ≤ n) × (n ≤ x)) (needs_at ts i)) z (needs_sound P (j + 1) ts a.1 i)

pub needs_above : (ts : List Task) → AreTasks ts → (i x : ℕ) → i < x → times x (needs_at ts i) ≡ 0
needs_above ts a i x l = times_above (0 + i) x (needs_at ts i) (needs_sound (EndedBadly ts) 0 ts a.sound i)
    (let m : 0 + i < x = omega (arith, l) in m)

pub needs_some : (ts : List Task) → AreTasks ts → (i : ℕ) → times 0 (needs_at ts i) ≡ 0
needs_some ts a i = times_zero (0 + i) (needs_at ts i) (needs_sound (EndedBadly ts) 0 ts a.sound i)

pub needs_past : (ts : List Task) (i : ℕ) → length ts ≤ i → needs_at ts i ≡ []
needs_past [] i l = refl
needs_past (t ∷ ts) zero l = let no : ⊥ = omega (arith, l) in elim no [ ]
needs_past (t ∷ ts) (suc i) l = needs_past ts i (omega (arith, l))

-- making them

empty_at : (n k : ℕ) → list_at (replicate n []) k ≡ []
empty_at zero k = refl
empty_at (suc n) zero = refl
empty_at (suc n) (suc k) = empty_at n k

abbrev empties : ℕ → List (List ℕ)
empties n = replicate n []

pub empty_more : (n : ℕ) → empties n ++ [] ∷ [] ≡ empties (n + 1)
empty_more n = go n ∙ ap empties (let one : suc n ≡ n + 1 = omega arith in one)
  where
    go : (k : ℕ) → empties k ++ [] ∷ [] ≡ empties (suc k)
    go zero = refl
    go (suc k) = ap (λ (xs : List (List ℕ)). [] ∷ xs) (go k)

pub users_start : (ts : List Task) → AreUsersBelow ts (replicate (length ts) []) 0
users_start ts = record {
  long = length-replicate (length ts) [];
  often = λ j k l. ap (times (suc j)) (empty_at (length ts) k)
      ∙ sym (ap (λ b. if b then times (suc k) (needs_at ts j) else 0) (below_none j));
  some = λ k. ap (times 0) (empty_at (length ts) k);
}
  where
    below_none : (j : ℕ) → nat_lt j 0 ≡ false
    below_none j = go (nat_lt j 0) refl
      where
        go : (b : Bool) → nat_lt j 0 ≡ b → b ≡ false
        go true e = let less : j < 0 = grind (arith, e) in let no : ⊥ = omega (arith, less) in elim no [ ]
        go false e = refl

pub users_more : (ts : List Task) → AreTasks ts → (us : List (List ℕ)) (i : ℕ) → AreUsersBelow ts us i
    → AreUsersBelow ts (with_users (i + 1) (needs_at ts i) us) (i + 1)
users_more ts a us i u = record {
  long = users_long (i + 1) (needs_at ts i) us ∙ u.long;
  often = λ j k l. users_times (i + 1) (needs_at ts i) us (suc j) k (needs_some ts a i)
      (subst (λ y. k < y) (sym u.long) l)
      ∙ ap (λ y. y + (if nat_eq (suc j) (i + 1) then times (suc k) (needs_at ts i) else 0)) (u.often j k l)
      ∙ go j k;
  some = users_none (i + 1) (needs_at ts i) us (omega arith) (needs_some ts a i) u.some;
}
  where
    turn : (b c : Bool) → (b ≡ true → c ≡ true) → (c ≡ true → b ≡ true) → b ≡ c
    turn true true f g = refl
    turn false false f g = refl
    turn true false f g = elim (false≢true (f refl)) [ ]
    turn false true f g = elim (false≢true (g refl)) [ ]

    go : (j k : ℕ)
        → (if nat_lt j i then times (suc k) (needs_at ts j) else 0) +
        (if nat_eq (suc j) (i + 1) then times (suc k) (needs_at ts i) else 0) ≡
        (if nat_lt j (i + 1) then times (suc k) (needs_at ts j) else 0)
    go j k = same_or_not ((if nat_lt j i then times (suc k) (needs_at ts j) else 0) +
        (if nat_eq (suc j) (i + 1) then times (suc k) (needs_at ts i) else 0) ≡
        (if nat_lt j (i + 1) then times (suc k) (needs_at ts j) else 0)) j i
        (λ e.
        let below : nat_lt j i ≡ false = turn (nat_lt j i) false
        (λ t. let less : j < i = grind (arith, t) in let no : ⊥ = omega (arith, less, e) in elim no [ ])
        (λ t. elim (false≢true t) [ ]) in
        let here : nat_eq (suc j) (i + 1) ≡ true = eq-eqb (suc j) (i + 1) (omega (arith, e)) in
        let within : nat_lt j (i + 1) ≡ true = lt-ltb j (i + 1) (omega (arith, e)) in
        ap (λ b. (if b then times (suc k) (needs_at ts j) else 0) +
        (if nat_eq (suc j) (i + 1) then times (suc k) (needs_at ts i) else 0)) below
        ∙ zero_more (if nat_eq (suc j) (i + 1) then times (suc k) (needs_at ts i) else 0)
        ∙ ap (λ b. if b then times (suc k) (needs_at ts i) else 0) here
        ∙ ap (λ n. times (suc k) (needs_at ts n)) (sym e)
        ∙ ap (λ b. if b then times (suc k) (needs_at ts j) else 0) (sym within))
        (λ h.
        let apart : nat_eq (suc j) (i + 1) ≡ false =
        not_same (suc j) (i + 1) (λ e. h (let is : j ≡ i = omega (arith, e) in is)) in
        let same : nat_lt j i ≡ nat_lt j (i + 1) = turn (nat_lt j i) (nat_lt j (i + 1))
        (λ t. let less : j < i = grind (arith, t) in lt-ltb j (i + 1) (omega (arith, less)))
        (λ t. let less : j < i + 1 = grind (arith, t) in lt-ltb j i (lesser j i less h)) in
        ap (λ b. (if nat_lt j i then times (suc k) (needs_at ts j) else 0) +
        (if b then times (suc k) (needs_at ts i) else 0)) apart
        ∙ sym (more_zero (if nat_lt j i then times (suc k) (needs_at ts j) else 0))
        ∙ ap (λ b. if b then times (suc k) (needs_at ts j) else 0) same)
      where
        lesser : (a b : ℕ) → a < b + 1 → (a ≡ b → ⊥) → a < b
        lesser a b l h =
            within_or_past (a < b) a b (λ m. m) (λ m. elim (h (let e : a ≡ b = omega (arith, l, m) in e)) [ ])

pub users_end : (ts : List Task) (us : List (List ℕ)) → AreUsersBelow ts us (length ts) → AreUsers ts us
users_end ts us u = record {
  long = u.long;
  often = λ j k l. u.often j k l ∙ go j k (nat_lt j (length ts)) refl;
  some = u.some;
}
  where
    go : (j k : ℕ) (b : Bool) → nat_lt j (length ts) ≡ b
        → (if b then times (suc k) (needs_at ts j) else 0) ≡ times (suc k) (needs_at ts j)
    go j k true e = refl
    go j k false e = let far : length ts ≤ j = grind (arith, e) in sym (ap (times (suc k)) (needs_past ts j far))

-- one task more

needs_last : (ts : List Task) (t : Task) (i : ℕ) → i ≡ length ts → needs_at (ts ++ t ∷ []) i ≡ t.needs
needs_last [] t zero e = refl
needs_last [] t (suc i) e = let no : ⊥ = omega (arith, e) in elim no [ ]
needs_last (x ∷ ts) t zero e = let no : ⊥ = omega (arith, e) in elim no [ ]
needs_last (x ∷ ts) t (suc i) e = needs_last ts t i (omega (arith, e))

needs_before : (ts : List Task) (t : Task) (i : ℕ) → (i ≡ length ts → ⊥) → needs_at (ts ++ t ∷ []) i ≡ needs_at ts i
needs_before [] t zero h = elim (h refl) [ ]
needs_before [] t (suc i) h = refl
needs_before (x ∷ ts) t zero h = refl
needs_before (x ∷ ts) t (suc i) h = needs_before ts t i (λ e. h (ap suc e))

push_long : (us : List (List ℕ)) → length (us ++ [] ∷ []) ≡ suc (length us)
push_long [] = refl
push_long (u ∷ us) = ap suc (push_long us)

tasks_push : (ts : List Task) (t : Task) → length (ts ++ t ∷ []) ≡ suc (length ts)
tasks_push [] t = refl
tasks_push (u ∷ ts) t = ap suc (tasks_push ts t)

push_at : (us : List (List ℕ)) (k : ℕ) → list_at (us ++ [] ∷ []) k ≡ list_at us k
push_at [] zero = refl
push_at [] (suc k) = refl
push_at (u ∷ us) zero = refl
push_at (u ∷ us) (suc k) = push_at us k

pub users_push : (ts : List Task) (t : Task) (us : List (List ℕ)) → AreTasks (ts ++ t ∷ []) → AreUsers ts us
    → AreUsers (ts ++ t ∷ []) (with_users (length (ts ++ t ∷ [])) t.needs (us ++ [] ∷ []))
users_push ts t us a u =
    let now = ts ++ t ∷ [] in
    let n = length now in
    let z : times 0 t.needs ≡ 0 =
    ap (times 0) (sym (needs_last ts t (length ts) refl)) ∙ needs_some now a (length ts) in
    record {
      long = users_long n t.needs (us ++ [] ∷ []) ∙ push_long us ∙ ap suc u.long ∙ sym (tasks_push ts t);
      often = λ j k l.
          users_times n t.needs (us
          ++ [] ∷ []) (suc j) k z (subst (λ y. k < y) (sym (push_long us ∙ ap suc u.long
          ∙ sym (tasks_push ts t))) l)
          ∙ ap (λ (ns : List ℕ). times (suc j) ns + (if nat_eq (suc j) n then times (suc k) t.needs else 0))
          (push_at us k)
          ∙ go j k (subst (λ y. k < y) (tasks_push ts t) l);
      some = users_none n t.needs (us
          ++ [] ∷ []) (subst (λ y. 1 ≤ y) (sym (tasks_push ts t)) (omega arith)) z (λ k. ap (times 0) (push_at us k)
          ∙ u.some k);
    }
  where
    none : (j k : ℕ) → k ≡ length ts → times (suc j) (list_at us k) ≡ 0
    none j k e = ap (times (suc j)) (list_past us k (let l = u.long in omega (arith, l, e)))

    old : (j k : ℕ) → k < suc (length ts) → times (suc j) (list_at us k) ≡ times (suc k) (needs_at ts j)
    old j k l = same_or_not (times (suc j) (list_at us k) ≡ times (suc k) (needs_at ts j)) k (length ts)
        (λ e. none j k e ∙ sym (within_or_past (times (suc k) (needs_at ts j) ≡ 0) j (length ts)
        (λ m. ap (times (suc k)) (sym (needs_before ts t j (λ is. let no : ⊥ = omega (arith, is, m) in no)))
        ∙ needs_above (ts ++ t ∷ []) a j (suc k) (omega (arith, e, m)))
        (λ m. ap (times (suc k)) (needs_past ts j m))))
        (λ h. u.often j k (within_or_past (k < length ts) k (length ts) (λ m. m)
        (λ m. elim (h (let e : k ≡ length ts = omega (arith, l, m) in e)) [ ])))

    go : (j k : ℕ) → k < suc (length ts)
        → times (suc j) (list_at us k) + (if nat_eq (suc j) (length (ts
        ++ t ∷ [])) then times (suc k) t.needs else 0) ≡ times (suc k) (needs_at (ts ++ t ∷ []) j)
    go j k l = same_or_not (times (suc j) (list_at us k) + (if nat_eq (suc j) (length (ts
        ++ t ∷ [])) then times (suc k) t.needs else 0) ≡ times (suc k) (needs_at (ts ++ t ∷ []) j)) j (length ts)
        (λ e.
        ap (λ b. times (suc j) (list_at us k) + (if b then times (suc k) t.needs else 0)) (eq-eqb (suc j) (length (ts
        ++ t ∷ [])) (ap suc e ∙ sym (tasks_push ts t)))
        ∙ ap (λ y. y + times (suc k) t.needs) (old j k l
        ∙ ap (times (suc k)) (needs_past ts j (let m : length ts ≤ j = omega (arith, e) in m)))
        ∙ zero_more (times (suc k) t.needs)
        ∙ ap (times (suc k)) (sym (needs_last ts t j e)))
        (λ h.
        ap (λ b. times (suc j) (list_at us k) + (if b then times (suc k) t.needs else 0)) (not_same (suc j) (length (ts
        ++ t ∷ [])) (λ e. h (let p = tasks_push ts t in let is : j ≡ length ts = omega (arith, e, p) in is)))
        ∙ sym (more_zero (times (suc j) (list_at us k)))
        ∙ old j k l
        ∙ ap (times (suc k)) (sym (needs_before ts t j h)))
