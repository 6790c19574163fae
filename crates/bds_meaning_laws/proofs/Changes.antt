-- What starts, ends, restarts and new tasks do to each task of a list.
use Rattle.std.proofs.Common.{◌≡◌, ◌∙◌, ℕ, zero, suc, ◌+◌, ◌-◌, ◌<◌, Bool, true, false, ◌&&◌, ◌||◌, not, List, [], ◌∷◌, ◌++◌, Option, Some, None, sym, ap, refl, subst, arith, append_assoc, append-nil, ◌⊎◌, inl, inr, if◌then◌else◌}
use Rattle.std.specs.Prelude.{slice_get, slice_set, nat_eq, nat_lt}
use Rattle.std.specs.List.{list_any}
use Rattle.std.specs.Option.{option_map, unwrap_or, is_some}
use Rattle.std.proofs.lemmas.Bool.{and_cases, and_parts, eqb-true, eq-eqb, or_cases, false≢true, ltb-true, ltb-false, ne_eqb}
use Rattle.bds_goal.proofs.GoalTests.{either_true}
use Rattle.bds_meaning_laws.specs.Histories.{GoodEndsAreWell, IsGoodEnd}
use Rattle.bds_host.specs.Asks.{has}
use Rattle.bds_tasks.specs.declared.task.Task.{Task}
use Rattle.bds_tasks.specs.declared.task.TaskEnd.{TaskEnd}
use Rattle.bds_tasks.specs.declared.task.TaskEnd.TheVariants.{Again, Well, Failed}
use Rattle.bds_tasks.specs.declared.task.TaskState.TheVariants.{Waits, Ended, Cancelled}
use Rattle.bds_tasks.specs.Ends.{end_of, cancelled_behind, cancelled_if, ended, ended_task, hit_where, is_hit, is_lost}
use Rattle.bds_tasks.specs.Starts.{first}
use Rattle.bds_tasks.specs.Tasks.{in_state, is_bad, is_good, numbers_from, one_where, passes, put_at, runs, task_at, waits, with_task}

-- Tests and numbers

pub some_same : {X : Type 0} (x y : X) → ◌≡◌ {A = Option X} (Some x) (Some y) → x ≡ y
some_same x y is = ap (λ o. unwrap_or o x) is

pub none_some : {X : Type 0} (x : X) → ◌≡◌ {A = Option X} None (Some x) → ⊥
none_some x is = false≢true (ap is_some is)

pub other_place : (i j : ℕ) → (j ≡ i → ⊥) → nat_eq (suc i) (suc j) ≡ false
other_place i j differ = ne_eqb (suc i) (suc j) (λ e. differ (omega arith))

pub at_number : (ts : List Task) (i : ℕ) → task_at ts (suc i) ≡ slice_get ts i
at_number ts i = let e : suc i - 1 ≡ i = omega arith in ap (slice_get ts) e

-- Lists in which an item is set

pub set_from : (xs : List Task) (i j : ℕ) (x u : Task) → slice_get (slice_set xs i x) j ≡ Some u → ((j ≡ i) × (u ≡ x)) ⊎ ((slice_get xs j ≡ Some u) × (j ≡ i → ⊥))
set_from [] i j x u is = absurd (none_some u is)
set_from (y ∷ ys) zero zero x u is = inl (refl, sym (some_same x u is))
set_from (y ∷ ys) zero (suc j) x u is = inr (is, λ e. absurd (omega arith))
set_from (y ∷ ys) (suc i) zero x u is = inr (is, λ e. absurd (omega arith))
set_from (y ∷ ys) (suc i) (suc j) x u is = go (set_from ys i j x u is)
  where
    go : ((j ≡ i) × (u ≡ x)) ⊎ ((slice_get ys j ≡ Some u) × (j ≡ i → ⊥)) → ((suc j ≡ suc i) × (u ≡ x)) ⊎ ((slice_get ys j ≡ Some u) × (suc j ≡ suc i → ⊥))
    go (inl h) = inl (ap (λ n. suc n) h.0, h.1)
    go (inr h) = inr (h.0, λ e. h.1 (omega arith))

pub set_to : (xs : List Task) (i j : ℕ) (x t : Task) → slice_get xs j ≡ Some t → ((j ≡ i) × (slice_get (slice_set xs i x) j ≡ Some x)) ⊎ (slice_get (slice_set xs i x) j ≡ Some t)
set_to [] i j x t is = absurd (none_some t is)
set_to (y ∷ ys) zero zero x t is = inl (refl, refl)
set_to (y ∷ ys) zero (suc j) x t is = inr is
set_to (y ∷ ys) (suc i) zero x t is = inr is
set_to (y ∷ ys) (suc i) (suc j) x t is = go (set_to ys i j x t is)
  where
    go : ((j ≡ i) × (slice_get (slice_set ys i x) j ≡ Some x)) ⊎ (slice_get (slice_set ys i x) j ≡ Some t) → ((suc j ≡ suc i) × (slice_get (slice_set ys i x) j ≡ Some x)) ⊎ (slice_get (slice_set ys i x) j ≡ Some t)
    go (inl h) = inl (ap (λ n. suc n) h.0, h.1)
    go (inr h) = inr h

pub set_here : (xs : List Task) (i : ℕ) (x t : Task) → slice_get xs i ≡ Some t → slice_get (slice_set xs i x) i ≡ Some x
set_here [] i x t is = absurd (none_some t is)
set_here (y ∷ ys) zero x t is = refl
set_here (y ∷ ys) (suc i) x t is = set_here ys i x t is

pub with_is : (change : Task → Task) (ts : List Task) (i : ℕ) (t : Task) → slice_get ts i ≡ Some t → with_task change (suc i) ts ≡ slice_set ts i (change t)
with_is change ts i t is =
    let e : suc i - 1 ≡ i = omega arith in
    ap (λ o. put_at (suc i - 1) (option_map change o) ts) (at_number ts i ∙ is) ∙ ap (λ j. slice_set ts j (change t)) e

-- Numbers of tasks that pass a test

-- the task of a number from k on
pub record At (k : ℕ) (test : Task → Bool) (ts : List Task) (n : ℕ) : Type 0 where
  pub place : ℕ
  pub task : Task
  pub number : n ≡ k + place
  pub there : slice_get ts place ≡ Some task
  pub passed : test task ≡ true

behind_at : (k n : ℕ) (test : Task → Bool) (t : Task) (ts : List Task) → At (k + 1) test ts n → At k test (t ∷ ts) n
behind_at k n test t ts a = record { place = suc a.place; task = a.task; number = let e = a.number in omega arith; there = a.there; passed = a.passed }

pub number_at : (k n : ℕ) (test : Task → Bool) (ts : List Task) → has (numbers_from k test ts) n ≡ true → At k test ts n
number_at k n test [] h = absurd (false≢true h)
number_at k n test (t ∷ ts) h = go (λ h. behind_at k n test t ts (number_at (k + 1) n test ts h)) (test t) refl h
  where
    here : (has (numbers_from (k + 1) test ts) n ≡ true → At k test (t ∷ ts) n) → test t ≡ true → (nat_eq k n ≡ true) ⊎ (has (numbers_from (k + 1) test ts) n ≡ true) → At k test (t ∷ ts) n
    here rest is (inl same) = record { place = 0; task = t; number = let e : k ≡ n = eqb-true k n same in omega arith; there = refl; passed = is }
    here rest is (inr h) = rest h

    go : (has (numbers_from (k + 1) test ts) n ≡ true → At k test (t ∷ ts) n) → (b : Bool) → test t ≡ b → has (one_where b k ++ numbers_from (k + 1) test ts) n ≡ true → At k test (t ∷ ts) n
    go rest true is h = here rest is (or_cases (nat_eq k n) _ h)
    go rest false is h = rest h

pub has_first : (ns : List ℕ) (n : ℕ) → first ns ≡ Some n → has ns n ≡ true
has_first [] n is = absurd (none_some n is)
has_first (m ∷ ns) n is = ap (λ b. b || has ns n) (eq-eqb m n (some_same m n is))

-- a test of the task of a number
pub passed_at : (test : Task → Bool) (ts : List Task) (i : ℕ) → passes test ts (suc i) ≡ true → (t : Task) × (slice_get ts i ≡ Some t) × (test t ≡ true)
passed_at test ts i h = go (slice_get ts i) refl (sym (ap (λ o. unwrap_or (option_map test o) false) (at_number ts i)) ∙ h)
  where
    go : (o : Option Task) → slice_get ts i ≡ o → unwrap_or (option_map test o) false ≡ true → (t : Task) × (slice_get ts i ≡ Some t) × (test t ≡ true)
    go None is h = absurd (false≢true h)
    go (Some t) is h = (t, is, h)

-- Lists of which each task is so to the one in its place

abbrev pub Each : (Task → Task → Type 0) → List Task → List Task → Type 0
Each R [] [] = Unit {0}
Each R (t ∷ ts) (u ∷ us) = R t u × Each R ts us
Each R _ _ = ⊥

module _ (R : Task → Task → Type 0) where
  pub each_from : (ts us : List Task) (i : ℕ) (u : Task) → Each R ts us → slice_get us i ≡ Some u → (t : Task) × (slice_get ts i ≡ Some t) × R t u
  each_from [] [] i u are is = absurd (none_some u is)
  each_from [] (u' ∷ us) i u are is = absurd are
  each_from (t ∷ ts) [] i u are is = absurd are
  each_from (t ∷ ts) (u' ∷ us) zero u are is = (t, refl, subst (R t) (some_same u' u is) are.0)
  each_from (t ∷ ts) (u' ∷ us) (suc i) u are is = each_from ts us i u are.1 is

  pub each_to : (ts us : List Task) (i : ℕ) (t : Task) → Each R ts us → slice_get ts i ≡ Some t → (u : Task) × (slice_get us i ≡ Some u) × R t u
  each_to [] [] i t are is = absurd (none_some t is)
  each_to [] (u ∷ us) i t are is = absurd are
  each_to (t' ∷ ts) [] i t are is = absurd are
  each_to (t' ∷ ts) (u ∷ us) zero t are is = (u, refl, subst (λ x. R x u) (some_same t' t is) are.0)
  each_to (t' ∷ ts) (u ∷ us) (suc i) t are is = each_to ts us i t are.1 is

  each_append : (ts us xs ys : List Task) → Each R ts us → Each R xs ys → Each R (ts ++ xs) (us ++ ys)
  each_append [] [] xs ys are more = more
  each_append [] (u ∷ us) xs ys are more = absurd are
  each_append (t ∷ ts) [] xs ys are more = absurd are
  each_append (t ∷ ts) (u ∷ us) xs ys are more = (are.0, each_append ts us xs ys are.1 more)

  each_same : ((t : Task) → R t t) → (ts : List Task) → Each R ts ts
  each_same same [] = tt
  each_same same (t ∷ ts) = (same t, each_same same ts)

  each_join : ((t u v : Task) → R t u → R u v → R t v) → (ts us vs : List Task) → Each R ts us → Each R us vs → Each R ts vs
  each_join join [] [] [] are more = tt
  each_join join [] [] (v ∷ vs) are more = more
  each_join join [] (u ∷ us) vs are more = absurd are
  each_join join (t ∷ ts) [] vs are more = absurd are
  each_join join (t ∷ ts) (u ∷ us) [] are more = absurd more
  each_join join (t ∷ ts) (u ∷ us) (v ∷ vs) are more = (join t u v are.0 more.0, each_join join ts us vs are.1 more.1)

-- Tasks that an end cancels

-- a task stays, or it waited and is cancelled
abbrev pub Stays : ℕ → Task → Task → Type 0
Stays n t u = (u ≡ t) ⊎ ((waits t.state ≡ true) × (u ≡ in_state (Cancelled n) t))

stays_join : (n : ℕ) (t u v : Task) → Stays n t u → Stays n u v → Stays n t v
stays_join n t u v (inl a) more = subst (λ x. Stays n x v) a more
stays_join n t u v (inr a) (inl b) = inr (a.0, b ∙ a.1)
stays_join n t u v (inr a) (inr b) = absurd (false≢true (ap (λ (x : Task). waits x.state) (sym a.1) ∙ b.0))

stays_hit : (n : ℕ) (before : List Task) (t : Task) (hit : Bool) → is_hit n before t ≡ hit → Stays n t (hit_where hit n t)
stays_hit n before t true is = inr ((and_parts (waits t.state) (list_any (is_lost n before) t.needs) is).0, refl)
stays_hit n before t false is = inl refl

each_cancelled : (n : ℕ) (before ts : List Task) → Each (Stays n) (before ++ ts) (cancelled_behind n before ts)
each_cancelled n before [] = subst (λ l. Each (Stays n) l before) (sym (append-nil before)) (each_same (Stays n) (λ t. inl refl) before)
each_cancelled n before (t ∷ ts) =
    let u : Task = hit_where (is_hit n before t) n t in
    each_join (Stays n) (stays_join n) (before ++ t ∷ ts) ((before ++ u ∷ []) ++ ts) (cancelled_behind n (before ++ u ∷ []) ts)
    (subst (λ l. Each (Stays n) (before ++ t ∷ ts) l) (sym (append_assoc before (u ∷ []) ts))
    (each_append (Stays n) before before (t ∷ ts) (u ∷ ts) (each_same (Stays n) (λ t. inl refl) before) (stays_hit n before t (is_hit n before t) refl, each_same (Stays n) (λ t. inl refl) ts)))
    (each_cancelled n (before ++ u ∷ []) ts)

each_if : (bad : Bool) (n : ℕ) (ts : List Task) → Each (Stays n) ts (cancelled_if bad n ts)
each_if true n ts = each_cancelled n [] ts
each_if false n ts = each_same (Stays n) (λ t. inl refl) ts

-- behind the end of a task the others stay, or are cancelled
pub each_ended : (n code : ℕ) (ts : List Task) → Each (Stays n) (with_task (ended_task code) n ts) (ended n code ts)
each_ended n code ts = each_if (passes is_bad (with_task (ended_task code) n ts) n) n (with_task (ended_task code) n ts)

-- A task that ends

abbrev is_again : ℕ → Task → Bool
is_again code t = not (nat_eq code 0) && nat_lt t.attempt t.made.retry

abbrev end_by : Bool → ℕ → Task → Task
end_by b code t = if b then record { made = t.made; needs = t.needs; attempt = t.attempt + 1; state = Waits } else in_state (Ended code) t

pub ended_idle : (code : ℕ) (t : Task) → runs (ended_task code t).state ≡ false
ended_idle code t = go (is_again code t)
  where
    go : (b : Bool) → runs (end_by b code t).state ≡ false
    go true = refl
    go false = refl

pub ended_made : (code : ℕ) (t : Task) → ((ended_task code t).made ≡ t.made) × ((ended_task code t).needs ≡ t.needs)
ended_made code t = go (is_again code t)
  where
    go : (b : Bool) → ((end_by b code t).made ≡ t.made) × ((end_by b code t).needs ≡ t.needs)
    go true = (refl, refl)
    go false = (refl, refl)

-- its end is good where it ends so
pub ended_good : (code : ℕ) (t : Task) → is_good (ended_task code t) ≡ true → IsGoodEnd t.made t.attempt code
ended_good code t = go (is_again code t) refl
  where
    last : nat_lt t.attempt t.made.retry ≡ false → (t.made.can_fail ≡ true) ⊎ (nat_eq code 0 ≡ true) → IsGoodEnd t.made t.attempt code
    last none (inl may) = inr (may, ltb-false t.attempt t.made.retry none)
    last none (inr well) = inl (eqb-true code 0 well)

    parts : (not (nat_eq code 0) ≡ false) ⊎ (nat_lt t.attempt t.made.retry ≡ false) → (t.made.can_fail ≡ true) ⊎ (nat_eq code 0 ≡ true) → IsGoodEnd t.made t.attempt code
    parts (inl well) how = inl (eqb-true code 0 (is_true (nat_eq code 0) well))
      where
        is_true : (b : Bool) → not b ≡ false → b ≡ true
        is_true true h = refl
        is_true false h = absurd (false≢true (sym h))
    parts (inr none) how = last none how

    go : (b : Bool) → is_again code t ≡ b → is_good (end_by b code t) ≡ true → IsGoodEnd t.made t.attempt code
    go true is good = absurd (false≢true good)
    go false is good = parts (and_cases (not (nat_eq code 0)) _ is) (or_cases t.made.can_fail (nat_eq code 0) good)

pub good_ended : (code : ℕ) (t : Task) → IsGoodEnd t.made t.attempt code → is_good (ended_task code t) ≡ true
good_ended code t end = go (is_again code t) refl
  where
    again : is_again code t ≡ true → IsGoodEnd t.made t.attempt code → ⊥
    again is (inl well) = false≢true (ap not (sym (eq-eqb code 0 well)) ∙ (and_parts (not (nat_eq code 0)) _ is).0)
    again is (inr last) = let less : t.attempt < t.made.retry = ltb-true _ _ ((and_parts (not (nat_eq code 0)) _ is).1) in let most = last.1 in omega arith

    how : IsGoodEnd t.made t.attempt code → (t.made.can_fail || nat_eq code 0) ≡ true
    how (inl well) = either_true t.made.can_fail (nat_eq code 0) (inr (eq-eqb code 0 well))
    how (inr last) = either_true t.made.can_fail (nat_eq code 0) (inl last.0)

    go : (b : Bool) → is_again code t ≡ b → is_good (end_by b code t) ≡ true
    go true is = absurd (again is end)
    go false is = how end

-- what the table says of an end

is_well_end : TaskEnd → Bool
is_well_end Well = true
is_well_end e = false

well_by : (b w : Bool) (code : ℕ) → b ≡ false → w ≡ true → (if b then Again else (if w then Well else Failed code)) ≡ Well
well_by true w code no_more well = absurd (false≢true (sym no_more))
well_by false true code no_more well = refl
well_by false false code no_more well = absurd (false≢true well)

by_well : (b w : Bool) (code : ℕ) → (if b then Again else (if w then Well else Failed code)) ≡ Well → (b ≡ false) × (w ≡ true)
unfolding is_well_end
by_well true w code is = absurd (false≢true (ap is_well_end is))
by_well false true code is = (refl, refl)
by_well false false code is = absurd (false≢true (ap is_well_end is))

pub good_ends_are_well : GoodEndsAreWell
good_ends_are_well t code = (to, from)
  where
    good_by : (b : Bool) → is_again code t ≡ b → is_good (end_by b code t) ≡ true → (b ≡ false) × ((t.made.can_fail || nat_eq code 0) ≡ true)
    good_by true is good = absurd (false≢true good)
    good_by false is good = (refl, good)

    to : IsGoodEnd t.made t.attempt code → end_of code t ≡ Well
    to good = let both = good_by (is_again code t) refl (good_ended code t good) in well_by (is_again code t) (t.made.can_fail || nat_eq code 0) code both.0 both.1

    good_from : (b : Bool) → b ≡ false → (t.made.can_fail || nat_eq code 0) ≡ true → is_good (end_by b code t) ≡ true
    good_from true no_more well = absurd (false≢true (sym no_more))
    good_from false no_more well = well

    from : end_of code t ≡ Well → IsGoodEnd t.made t.attempt code
    from is = let both = by_well (is_again code t) (t.made.can_fail || nat_eq code 0) code is in ended_good code t (good_from (is_again code t) both.0 both.1)
