-- Which tasks run, behind a change of one task.
use Rattle.std.proofs.Common.{◌≡◌, ℕ, zero, suc, ◌+◌, ◌-◌, ◌<◌, ◌≤◌, Bool, true, false, List, [], ◌∷◌, ◌++◌, length}
use Rattle.std.proofs.Common.{Option, Some, None, refl, sym, ap, ◌∙◌, subst, arith, nat_lt}
use Rattle.std.proofs.lemmas.Bool.{le-ltb, lt-ltb}
use Rattle.std.specs.List.{insert, remove, slice_get, slice_set}
use Rattle.bds_tasks.specs.declared.task.Task.{Task}
use Rattle.bds_tasks.specs.Kept.{behind_less, position}
use Rattle.bds_tasks.specs.Tasks.{numbers_from, one_where, running, runs}

-- one more where one that is less stands before
position_more : (n m : ℕ) (ms : List ℕ) → m < n → position n (m ∷ ms) ≡ suc (position n ms)
position_more n m ms l = ap (λ b. behind_less b (position n ms)) (lt-ltb m n l) ∙ go (position n ms)
  where
    go : (p : ℕ) → behind_less true p ≡ suc p
    go zero = refl
    go (suc p) = refl

-- numbers from one on are behind those before it
position_first : (n k : ℕ) (test : Task → Bool) (ts : List Task) → n < k → position n (numbers_from k test ts) ≡ 0
position_first n k test [] l = refl
position_first n k test (t ∷ ts) l = go (test t) (position_first n (k + 1) test ts (omega (arith, l)))
  where
    go : (b : Bool) → position n (numbers_from (k + 1) test ts) ≡ 0
        → position n (one_where b k ++ numbers_from (k + 1) test ts) ≡ 0
    go true h = ap (λ p. behind_less (nat_lt k n) p) h ∙ ap (λ b. behind_less b 0) (le-ltb k n (omega (arith, l)))
    go false h = h

abbrev test_of : Task → Bool
test_of t = runs t.state

shifted : (k i : ℕ) → k + suc i ≡ (k + 1) + i
shifted k i = omega arith

put_in : (k i : ℕ) (ts : List Task) (t u : Task) → slice_get ts i ≡ Some t → test_of t ≡ false → test_of u ≡ true
    → insert (numbers_from k test_of ts) (position (k + i) (numbers_from k test_of ts)) (k + i) ≡ numbers_from k test_of
    (slice_set ts i u)
put_in k i [] t u e w r = absurd (cc)
put_in k zero (x ∷ ts) t u e w r =
    let is : x ≡ t = same e in
    let z : k + 0 ≡ k = omega arith in
    let none : numbers_from k test_of (x ∷ ts) ≡ numbers_from (k + 1) test_of ts =
    ap (λ b. one_where b k ++ numbers_from (k + 1) test_of ts) (ap test_of is ∙ w) in
    let ns = numbers_from (k + 1) test_of ts in
    subst (λ n. insert (numbers_from k test_of (x ∷ ts)) (position n (numbers_from k test_of (x ∷ ts))) n ≡ numbers_from
    k test_of (u ∷ ts)) (sym z)
    (ap (λ ms. insert ms (position k ms) k) none
    ∙ ap (λ p. insert ns p k) (position_first k (k + 1) test_of ts (omega arith))
    ∙ sym (ap (λ b. one_where b k ++ ns) r))
  where
    same : Some x ≡ Some t → x ≡ t
    same e = ap (λ (o : Option Task). from o) e
      where
        from : Option Task → Task
        from None = x
        from (Some y) = y
put_in k (suc i) (x ∷ ts) t u e w r =
    subst (λ n. insert (numbers_from k test_of (x ∷ ts)) (position n (numbers_from k test_of (x ∷ ts))) n ≡ numbers_from
    k test_of (x ∷ slice_set ts i u)) (sym (shifted k i))
    (go (test_of x) (put_in (k + 1) i ts t u e w r))
  where
    less : k < (k + 1) + i
    less = omega arith

    go : (b : Bool)
        → insert (numbers_from (k + 1) test_of ts) (position ((k + 1) + i) (numbers_from (k + 1) test_of ts))
        ((k + 1) + i) ≡ numbers_from (k + 1) test_of (slice_set ts i u)
        → insert (one_where b k
        ++ (numbers_from (k + 1) test_of ts)) (position ((k + 1) + i) (one_where b k
        ++ (numbers_from (k + 1) test_of ts))) ((k + 1) + i) ≡ one_where b k
        ++ numbers_from (k + 1) test_of (slice_set ts i u)
    go true h = ap (λ p. insert (k ∷ (numbers_from (k + 1) test_of ts)) p ((k + 1) + i))
        (position_more ((k + 1) + i) k (numbers_from (k + 1) test_of ts) less)
        ∙ ap (λ (ms : List ℕ). k ∷ ms) h
    go false h = h

taken_out : (k i : ℕ) (ts : List Task) (t u : Task) → slice_get ts i ≡ Some t → test_of t ≡ true → test_of u ≡ false
    → (position (k + i) (numbers_from k test_of ts) < length (numbers_from k test_of ts))
    × (remove (numbers_from k test_of ts) (position (k + i) (numbers_from k test_of ts)) ≡ numbers_from k test_of
    (slice_set ts i u))
taken_out k i [] t u e w r = absurd (cc)
taken_out k zero (x ∷ ts) t u e w r =
    let is : x ≡ t = same e in
    let z : k + 0 ≡ k = omega arith in
    let ns = numbers_from (k + 1) test_of ts in
    let one : numbers_from k test_of (x ∷ ts) ≡ k ∷ ns = ap (λ b. one_where b k ++ ns) (ap test_of is ∙ w) in
    let first : position k (k ∷ ns) ≡ 0 =
    ap (λ p. behind_less (nat_lt k k) p) (position_first k (k + 1) test_of ts (omega arith))
    ∙ ap (λ b. behind_less b 0) (le-ltb k k (omega arith)) in
    subst (λ n. (position n (numbers_from k test_of (x ∷ ts)) < length (numbers_from k test_of (x ∷ ts)))
    × (remove (numbers_from k test_of (x ∷ ts)) (position n (numbers_from k test_of (x ∷ ts))) ≡ numbers_from k
    test_of (u ∷ ts))) (sym z)
    (subst (λ ms. (position k ms < length ms) × (remove ms (position k ms) ≡ numbers_from k test_of (u ∷ ts))) (sym one)
    (subst (λ p. (p < length (k ∷ ns))
    × (remove (k ∷ ns) p ≡ numbers_from k test_of (u ∷ ts))) (sym first) (
      omega arith,
      sym (ap (λ b. one_where b k
          ++ ns) r),
    )))
  where
    same : Some x ≡ Some t → x ≡ t
    same e = ap (λ (o : Option Task). from o) e
      where
        from : Option Task → Task
        from None = x
        from (Some y) = y
taken_out k (suc i) (x ∷ ts) t u e w r =
    subst (λ n. (position n (numbers_from k test_of (x ∷ ts)) < length (numbers_from k test_of (x ∷ ts)))
    × (remove (numbers_from k test_of (x ∷ ts)) (position n (numbers_from k test_of (x ∷ ts))) ≡ numbers_from k
    test_of (x ∷ slice_set ts i u))) (sym (shifted k i))
    (go (test_of x) (taken_out (k + 1) i ts t u e w r))
  where
    less : k < (k + 1) + i
    less = omega arith

    go : (b : Bool)
        → (position ((k + 1) + i) (numbers_from (k + 1) test_of ts) < length (numbers_from (k + 1) test_of ts))
        × (remove (numbers_from (k + 1) test_of ts) (position ((k + 1) + i) (numbers_from (k + 1) test_of ts)) ≡
        numbers_from (k + 1) test_of (slice_set ts i u))
        → (position ((k + 1) + i) (one_where b k ++ (numbers_from (k + 1) test_of ts)) < length (one_where b k
        ++ (numbers_from (k + 1) test_of ts)))
        × (remove (one_where b k
        ++ (numbers_from (k + 1) test_of ts)) (position ((k + 1) + i) (one_where b k
        ++ (numbers_from (k + 1) test_of ts))) ≡ one_where b k ++ numbers_from (k + 1) test_of (slice_set ts i u))
    go true h = subst (λ (p : ℕ). (p < length (k ∷ (numbers_from (k + 1) test_of ts)))
        × (remove (k ∷ (numbers_from (k + 1) test_of ts)) p ≡ k ∷ numbers_from (k + 1) test_of (slice_set ts i u)))
        (sym (position_more ((k + 1) + i) k (numbers_from (k + 1) test_of ts) less))
        (let l = h.0 in omega (arith, l), ap (λ (ms : List ℕ). k ∷ ms) h.1)
    go false h = h

number : (n : ℕ) → 1 ≤ n → 1 + (n - 1) ≡ n
number n l = omega (arith, l)

pub running_more : (n : ℕ) (ts : List Task) (t u : Task) → 1 ≤ n → slice_get ts (n - 1) ≡ Some t → runs t.state ≡ false
    → runs u.state ≡ true → insert (running ts) (position n (running ts)) n ≡ running (slice_set ts (n - 1) u)
running_more n ts t u l e w r = subst (λ m. insert (running ts) (position m (running ts)) m ≡ running
    (slice_set ts (n - 1) u)) (number n l) (put_in 1 (n - 1) ts t u e w r)

pub running_less : (n : ℕ) (ts : List Task) (t u : Task) → 1 ≤ n → slice_get ts (n - 1) ≡ Some t → runs t.state ≡ true
    → runs u.state ≡ false
    → (position n (running ts) < length (running ts))
    × (remove (running ts) (position n (running ts)) ≡ running (slice_set ts (n - 1) u))
running_less n ts t u l e w r = subst (λ m. (position m (running ts) < length (running ts))
    × (remove (running ts) (position m (running ts)) ≡ running (slice_set ts (n - 1) u))) (number n l)
    (taken_out 1 (n - 1) ts t u e w r)

pub running_push : (ts : List Task) (u : Task) → runs u.state ≡ false → running (ts ++ u ∷ []) ≡ running ts
running_push ts u r = go 1 ts
  where
    go : (k : ℕ) (us : List Task) → numbers_from k test_of (us ++ u ∷ []) ≡ numbers_from k test_of us
    go k [] = ap (λ b. one_where b k ++ []) r
    go k (x ∷ us) = ap (λ ms. one_where (test_of x) k ++ ms) (go (k + 1) us)
