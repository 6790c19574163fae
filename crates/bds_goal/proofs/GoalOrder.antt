-- The rules that are left are placed one by one, each the least that needs none of them, until none is left.
use Rattle.std.proofs.Common.{◌≡◌, ◌∙◌, ℕ, zero, suc, ◌+◌, ◌≤◌, ◌<◌, Bool, true, false, not, ◌&&◌, ◌||◌, List, [], ◌∷◌, ◌++◌, length, filter, cond, Option, Some, None, sym, ap, refl, subst, arith, ◌⊎◌, inl, inr}
use Rattle.std.specs.Prelude.{nat_eq, find, ⊤}
use Rattle.std.specs.List.{AllByRecursion, list_any}
use Rattle.std.proofs.lemmas.Bool.{eqb-true, eq-eqb, or_cases, false≢true}
use Rattle.bds_value.specs.declared.value.Stamp.{Stamp}
use Rattle.bds_rules.specs.declared.rule.Rule.{Rule}
use Rattle.bds_tasks.specs.declared.task.Task.{Task}
use Rattle.bds_goal.specs.Chains.{is_in, In, MayFollow, Follow}
use Rattle.bds_goal.specs.Goals.{Needs}
use Rattle.bds_goal.specs.Needs.{needs, numbers_from, leading_to, is_on_cycle, with_needing}
use Rattle.bds_goal.specs.Plan.{is_free, without, behind, placed}
use Rattle.bds_goal.proofs.GoalTests.{some_in, any_of, either_true, both_true, of_both}
use Rattle.bds_goal.proofs.GoalLinks.{head_in, tail_in, filter_gives, filter_takes, filter_most, filter_gains, starts, links}
use Rattle.bds_goal.proofs.GoalCycle.{needs_gives, needs_takes, needing_gives, needing_takes, one_within}

-- Numbers that rise

abbrev pub Rise : List ℕ → Type 0
Rise [] = ⊤
Rise (n ∷ ns) = AllByRecursion (λ m. n < m) ns × Rise ns

all_above : (j k : ℕ) (rules : List Rule) → j < k → AllByRecursion (λ m. j < m) (numbers_from k rules)
all_above j k [] h = tt
all_above j k (r ∷ rs) h = (h, all_above j (k + 1) rs (omega arith))

pub numbers_rise : (k : ℕ) (rules : List Rule) → Rise (numbers_from k rules)
numbers_rise k [] = tt
numbers_rise k (r ∷ rs) = (all_above k (k + 1) rs (omega arith), numbers_rise (k + 1) rs)

filter_all : (P : ℕ → Type 0) (p : ℕ → Bool) (xs : List ℕ) → AllByRecursion P xs → AllByRecursion P (filter p xs)
filter_all P p [] all = tt
filter_all P p (x ∷ xs) all = go (p x) (filter_all P p xs all.1)
  where
    go : (b : Bool) → AllByRecursion P (filter p xs) → AllByRecursion P (cond b (x ∷ filter p xs) (filter p xs))
    go true rest = (all.0, rest)
    go false rest = rest

pub filter_rise : (p : ℕ → Bool) (xs : List ℕ) → Rise xs → Rise (filter p xs)
filter_rise p [] rise = tt
filter_rise p (x ∷ xs) rise = go (p x) (filter_rise p xs rise.1)
  where
    go : (b : Bool) → Rise (filter p xs) → Rise (cond b (x ∷ filter p xs) (filter p xs))
    go true rest = (filter_all (λ m. x < m) p xs rise.0, rest)
    go false rest = rest

each_above : (n : ℕ) (ns : List ℕ) (m : ℕ) → AllByRecursion (λ m. n < m) ns → In ns m → n < m
each_above n [] m all h = absurd (false≢true h)
each_above n (x ∷ xs) m all h = go (λ k. each_above n xs m all.1 k) (or_cases (nat_eq m x) _ h)
  where
    go : (In xs m → n < m) → (nat_eq m x ≡ true) ⊎ (list_any (nat_eq m) xs ≡ true) → n < m
    go more (inl same) = subst (λ k. n < k) (sym (eqb-true m x same)) all.0
    go more (inr there) = more there

record FindsLeast (p : ℕ → Bool) (xs : List ℕ) (n : ℕ) : Type 0 where
  there : In xs n
  passes : p n ≡ true
  least : (m : ℕ) → In xs m → p m ≡ true → n ≤ m

abbrev IsNone : Option ℕ → Type 0
IsNone None = Unit {0}
IsNone (Some n) = ⊥

find_least : (p : ℕ → Bool) (xs : List ℕ) (n : ℕ) → Rise xs → find p xs ≡ Some n → FindsLeast p xs n
find_least p [] n rise is = absurd (subst (λ o. IsNone o) is tt)
find_least p (x ∷ xs) n rise is = go (p x) refl (λ k. find_least p xs n rise.1 k) is
  where
    value : ℕ → Option ℕ → ℕ
    value d None = d
    value d (Some k) = k

    first : p x ≡ true → x ≡ n → FindsLeast p (x ∷ xs) n
    first passes same = subst (λ k. FindsLeast p (x ∷ xs) k) same (record { there = head_in x xs; passes = passes; least = λ m h is. by m (or_cases (nat_eq m x) _ h) })
      where
        by : (m : ℕ) → (nat_eq m x ≡ true) ⊎ (list_any (nat_eq m) xs ≡ true) → x ≤ m
        by m (inl same) = let e = eqb-true m x same in omega arith
        by m (inr there) = let l = each_above x xs m rise.0 there in omega arith

    later : p x ≡ false → FindsLeast p xs n → FindsLeast p (x ∷ xs) n
    later fails it = record { there = tail_in x xs n it.there; passes = it.passes; least = λ m h is. by m is (or_cases (nat_eq m x) _ h) }
      where
        by : (m : ℕ) → p m ≡ true → (nat_eq m x ≡ true) ⊎ (list_any (nat_eq m) xs ≡ true) → n ≤ m
        by m is (inl same) = absurd (false≢true (sym fails ∙ subst (λ k. p k ≡ true) (eqb-true m x same) is))
        by m is (inr there) = it.least m there is

    go : (b : Bool) → p x ≡ b → (find p xs ≡ Some n → FindsLeast p xs n) → cond b (Some x) (find p xs) ≡ Some n → FindsLeast p (x ∷ xs) n
    go true at more is = first at (ap (value x) is)
    go false at more is = later at (more is)

find_none : (p : ℕ → Bool) (xs : List ℕ) → find p xs ≡ None → (m : ℕ) → In xs m → p m ≡ false
find_none p [] is m h = absurd (false≢true h)
find_none p (x ∷ xs) is m h = go (p x) refl (λ k. find_none p xs k m) is (or_cases (nat_eq m x) _ h)
  where
    is_some_in : Option ℕ → Type 0
    is_some_in None = ⊥
    is_some_in (Some r) = Unit {0}

    go : (b : Bool) → p x ≡ b → (find p xs ≡ None → In xs m → p m ≡ false) → cond b (Some x) (find p xs) ≡ None → (nat_eq m x ≡ true) ⊎ (list_any (nat_eq m) xs ≡ true) → p m ≡ false
    go true at more is place = absurd (subst (λ o. is_some_in o) is tt)
    go false at more is (inl same) = subst (λ k. p k ≡ false) (sym (eqb-true m x same)) at
    go false at more is (inr there) = more is there

not_not : (b : Bool) → not b ≡ false → b ≡ true
not_not true h = refl
not_not false h = absurd (false≢true (sym h))

not_is : (b : Bool) → not b ≡ true → b ≡ false
not_is true h = absurd (false≢true h)
not_is false h = refl

-- Among rules without a cycle something needs nothing

module _ (rules : List Rule) (all : List ℕ) (lows : (r : ℕ) → In all r → 1 ≤ r) (none : list_any (is_on_cycle rules all) all ≡ false) where
  -- z can be reached from x
  abbrev leads_to : ℕ → ℕ → Bool
  leads_to x z = is_in all z && is_in (leading_to rules all (z ∷ [])) x

  abbrev size : ℕ → ℕ
  size x = length (filter (leads_to x) all)

  not_back : (x y : ℕ) → In all x → In all y → needs rules x y ≡ true → leads_to y x ≡ false
  not_back x y x_there y_there need = go (leads_to y x) refl
    where
      go : (b : Bool) → leads_to y x ≡ b → leads_to y x ≡ false
      go false is = is
      go true is = absurd (false≢true (sym none ∙ any_of (is_on_cycle rules all) all x x_there
          (any_of (λ s. needs rules x s && is_in (leading_to rules all (x ∷ [])) s) all y y_there (of_both (needs rules x y) _ need (both_true (is_in all x) _ is).1))))

  falls : (x y : ℕ) → In all x → In all y → needs rules x y ≡ true → size y < size x
  falls x y x_there y_there need =
      filter_gains (leads_to y) (leads_to x) more all x x_there (not_back x y x_there y_there need)
      (of_both (is_in all x) _ x_there (starts all (λ r s. needs rules r s ≡ true) (with_needing rules all) (needing_gives rules all lows) (needing_takes rules all lows) (x ∷ []) (one_within rules all lows x x_there) x (head_in x [])))
    where
      more : (z : ℕ) → leads_to y z ≡ true → leads_to x z ≡ true
      more z h =
          let both = both_true (is_in all z) _ h in
          of_both (is_in all z) _ both.0 (links all (λ r s. needs rules r s ≡ true) (with_needing rules all) (needing_gives rules all lows) (needing_takes rules all lows) (z ∷ []) (one_within rules all lows z both.0) x y x_there need both.1)

  no_descent : (left : List ℕ) → ((n : ℕ) → In left n → In all n) → ((n : ℕ) → In left n → list_any (needs rules n) left ≡ true) → (k x : ℕ) → In left x → size x ≤ k → ⊥
  no_descent left within stuck zero x h small =
      let y = some_in (needs rules x) left (stuck x h) in
      let less = falls x y.0 (within x h) (within y.0 y.1) y.2 in omega arith
  no_descent left within stuck (suc k) x h small =
      let y = some_in (needs rules x) left (stuck x h) in
      let less = falls x y.0 (within x h) (within y.0 y.1) y.2 in
      no_descent left within stuck k y.0 y.1 (omega arith)

  module _ (targets : List (List ℕ)) (stamps : List Stamp) (tasks : List Task) (Todo : ℕ → Type 0) where
    abbrev free : List ℕ → ℕ → Bool
    free left n = is_free rules targets stamps tasks left n

    abbrev place : ℕ → List ℕ → List ℕ
    place k left = placed rules targets stamps tasks k left

    abbrev rest : ℕ → List ℕ → List ℕ
    rest n left = without rules targets stamps tasks n left

    -- those that are left are those that are to be placed and aren't
    pub record IsLeft (done left : List ℕ) : Type 0 where
      pub rise : Rise left
      pub within : (n : ℕ) → In left n → In all n
      pub todo : (n : ℕ) → In left n → Todo n
      pub new : (n : ℕ) → In left n → is_in done n ≡ false
      pub other : (n : ℕ) → Todo n → is_in done n ≡ false → In left n

    in_end : (done : List ℕ) (n m : ℕ) → is_in (done ++ n ∷ []) m ≡ is_in done m || nat_eq m n
    in_end [] n m = by (nat_eq m n)
      where
        by : (b : Bool) → (b || false) ≡ b
        by true = refl
        by false = refl
    in_end (d ∷ done) n m = by (nat_eq m d) (in_end done n m)
      where
        by : (b : Bool) → is_in (done ++ n ∷ []) m ≡ is_in done m || nat_eq m n → (b || is_in (done ++ n ∷ []) m) ≡ (b || is_in done m) || nat_eq m n
        by true h = refl
        by false h = h

    neither : (a b : Bool) → (a || b) ≡ false → (a ≡ false) × (b ≡ false)
    neither true b h = absurd (false≢true (sym h))
    neither false b h = (refl, h)

    left_then : (done left : List ℕ) (n : ℕ) → IsLeft done left → IsLeft (done ++ n ∷ []) (rest n left)
    left_then done left n is = record {
      rise = filter_rise (λ m. not (nat_eq m n)) left is.rise;
      within = λ m h. is.within m (gives m h).0;
      todo = λ m h. is.todo m (gives m h).0;
      new = λ m h. in_end done n m ∙ ap (λ b. b || nat_eq m n) (is.new m (gives m h).0) ∙ not_is (nat_eq m n) (gives m h).1;
      other = λ m todo h. let parts = neither (is_in done m) (nat_eq m n) (sym (in_end done n m) ∙ h) in filter_takes (λ m. not (nat_eq m n)) left m (is.other m todo parts.0) (ap not parts.1);
    }
      where
        gives : (m : ℕ) → In (rest n left) m → In left m × (not (nat_eq m n) ≡ true)
        gives m h = filter_gives (λ m. not (nat_eq m n)) left m h

    fewer : (left : List ℕ) (n : ℕ) → In left n → length (rest n left) < length left
    fewer left n h = by (filter_gains (λ m. not (nat_eq m n)) (λ m. true) (λ m is. refl) left n h (ap not (eq-eqb n n refl)) refl) (filter_most (λ m. true) left)
      where
        by : length (rest n left) < length (filter (λ m. true) left) → length (filter (λ m. true) left) ≤ length left → length (rest n left) < length left
        by a b = omega arith

    -- what is found next
    may_follow : (done left : List ℕ) (n : ℕ) → IsLeft done left → FindsLeast (free left) left n → MayFollow (Needs rules) Todo done n × ((m : ℕ) → MayFollow (Needs rules) Todo done m → n ≤ m)
    may_follow done left n is found = (
      record { todo = is.todo n found.there; new = is.new n found.there; free = λ s need todo. placed_or s need todo (is_in done s) refl },
      λ m may. found.least m (is.other m may.todo may.new) (ap not (no_need m may (list_any (needs rules m) left) refl)),
    )
      where
        placed_or : (s : ℕ) → Needs rules n s → Todo s → (b : Bool) → is_in done s ≡ b → is_in done s ≡ true
        placed_or s need todo true at = at
        placed_or s need todo false at = absurd (false≢true (sym (not_is _ found.passes) ∙ any_of (needs rules n) left s (is.other s todo at) (needs_takes rules n s need)))

        no_need : (m : ℕ) → MayFollow (Needs rules) Todo done m → (b : Bool) → list_any (needs rules m) left ≡ b → list_any (needs rules m) left ≡ false
        no_need m may false at = at
        no_need m may true at =
            let s = some_in (needs rules m) left at in
            let m_in = is.other m may.todo may.new in
            absurd (false≢true (sym (is.new s.0 s.1) ∙ may.free s.0 (needs_gives rules m s.0 (lows m (is.within m m_in)) (lows s.0 (is.within s.0 s.1)) s.2) (is.todo s.0 s.1)))

    pub follows : (k : ℕ) (done left : List ℕ) → IsLeft done left → Follow (Needs rules) Todo done (place k left)
    follows zero done left is = tt
    follows (suc k) done left is = go (find (free left) left) refl (λ n. follows k (done ++ n ∷ []) (rest n left) (left_then done left n is))
      where
        go : (o : Option ℕ) → find (free left) left ≡ o → ((n : ℕ) → Follow (Needs rules) Todo (done ++ n ∷ []) (place k (rest n left))) → Follow (Needs rules) Todo done (behind rules targets stamps tasks o left (place k))
        go None at more = tt
        go (Some n) at more = let it = may_follow done left n is (find_least (free left) left n is.rise at) in (it.0, it.1, more n)

    pub all_follow : (k : ℕ) (done left : List ℕ) → IsLeft done left → length left ≤ k → (n : ℕ) → In left n → In (place k left) n
    all_follow zero done left is short n h = absurd (empty left short h)
      where
        empty : (left : List ℕ) → length left ≤ 0 → In left n → ⊥
        empty [] short h = false≢true h
        empty (x ∷ xs) short h = omega arith
    all_follow (suc k) done left is short n h = go (find (free left) left) refl (λ m less in_rest. all_follow k (done ++ m ∷ []) (rest m left) (left_then done left m is) less n in_rest)
      where
        by : (m : ℕ) → (In (rest m left) n → In (place k (rest m left)) n) → (b : Bool) → nat_eq n m ≡ b → In (m ∷ place k (rest m left)) n
        by m more true same = either_true (nat_eq n m) _ (inl same)
        by m more false other = tail_in m (place k (rest m left)) n (more (filter_takes (λ j. not (nat_eq j m)) left n h (ap not other)))

        go : (o : Option ℕ) → find (free left) left ≡ o → ((m : ℕ) → length (rest m left) ≤ k → In (rest m left) n → In (place k (rest m left)) n) → In (behind rules targets stamps tasks o left (place k)) n
        go None at more = absurd (no_descent left is.within (λ m m_in. not_not _ (find_none (free left) left at m m_in)) (size n) n h (omega arith))
        go (Some m) at more =
            let found = find_least (free left) left m is.rise at in
            let less = fewer left m found.there in
            by m (more m (omega arith)) (nat_eq n m) refl
