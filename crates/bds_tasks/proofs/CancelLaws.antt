-- The walk over the tasks cancels the set of those that need the one which ended, or one of the set.
use Rattle.std.proofs.Common.{◌≡◌, ◌⊎◌, inl, inr, ℕ, zero, suc, ◌+◌, ◌-◌, ◌<◌, ◌≤◌, Bool, true, false, not, ◌&&◌, ◌||◌}
use Rattle.std.proofs.Common.{List, [], ◌∷◌, ◌++◌, length, Option, Some, None, refl, sym, ap, ◌∙◌, subst, arith, nat_eq}
use Rattle.std.proofs.Common.{nat_lt, if◌then◌else◌}
use Rattle.std.proofs.lemmas.List.{length_push}
use Rattle.std.proofs.lemmas.Bool.{eq-eqb, eqb-true, false≢true}
use Rattle.std.specs.List.{AllByRecursion, list_any, slice_get, slice_set}
use Rattle.std.specs.Option.{option_map, unwrap_or}
use Rattle.bds_tasks.specs.declared.task.Task.{Task}
use Rattle.bds_tasks.specs.declared.task.TaskState.{TaskState}
use Rattle.bds_tasks.specs.declared.task.TaskState.TheVariants.{Waits, Runs, Ended, Cancelled}
use Rattle.bds_tasks.specs.Cancelling.{CannotRun, Cancels, EndsCancel, WaitsFor}
use Rattle.bds_tasks.specs.Cancelling.CannotRun.{needs, over}
use Rattle.bds_tasks.specs.Ends.{cancelled_behind, cancelled_if, ended_task, hit_where, is_by, is_hit, is_lost}
use Rattle.bds_tasks.specs.Sound.{AreSound, AreTasks, EndedBadly, IsBlamed}
use Rattle.bds_tasks.specs.Tasks.{in_state, is_bad, passes, put_at, runs, task_at, waits, with_task}
use Rattle.bds_tasks.proofs.SoundLaws.{both_left, both_right, ended_tasks, running_not_bad}

or_left : (a b : Bool) → a ≡ true → a || b ≡ true
or_left a b e = ap (λ x. x || b) e

or_right : (a b : Bool) → b ≡ true → a || b ≡ true
or_right true b e = refl
or_right false b e = e

-- which numbers a list holds

pub any_in : (test : ℕ → Bool) (ns : List ℕ) → list_any test ns ≡ true
    → (m : ℕ) × ((list_any (nat_eq m) ns ≡ true) × (test m ≡ true))
any_in test [] e = elim (false≢true e) [ ]
any_in test (m ∷ ms) e = go (any_in test ms) (test m) refl e
  where
    go : (list_any test ms ≡ true → (k : ℕ) × ((list_any (nat_eq k) ms ≡ true) × (test k ≡ true))) → (b : Bool)
        → test m ≡ b → b || list_any test ms ≡ true
        → (k : ℕ) × ((list_any (nat_eq k) (m ∷ ms) ≡ true) × (test k ≡ true))
    go more true d h = (m, (or_left (nat_eq m m) (list_any (nat_eq m) ms) (eq-eqb m m refl), d))
    go more false d h = let f = more h in (f.0, (or_right (nat_eq f.0 m) (list_any (nat_eq f.0) ms) f.1.0, f.1.1))

pub in_any : (test : ℕ → Bool) (ns : List ℕ) (m : ℕ) → list_any (nat_eq m) ns ≡ true → test m ≡ true
    → list_any test ns ≡ true
in_any test [] m i t = elim (false≢true i) [ ]
in_any test (n ∷ ns) m i t = go (in_any test ns m) (nat_eq m n) refl i
  where
    go : (list_any (nat_eq m) ns ≡ true → test m ≡ true → list_any test ns ≡ true) → (b : Bool) → nat_eq m n ≡ b
        → b || list_any (nat_eq m) ns ≡ true → test n || list_any test ns ≡ true
    go more true d h = or_left (test n) (list_any test ns) (subst (λ k. test k ≡ true) (eqb-true m n d) t)
    go more false d h = or_right (test n) (list_any test ns) (more h t)

each_in : (P : ℕ → Type 0) (ns : List ℕ) → AllByRecursion P ns → (k : ℕ) → list_any (nat_eq k) ns ≡ true → P k
each_in P [] a k e = elim (false≢true e) [ ]
each_in P (n ∷ ns) a k e = go (each_in P ns a.1 k) (nat_eq k n) refl e
  where
    go : (list_any (nat_eq k) ns ≡ true → P k) → (b : Bool) → nat_eq k n ≡ b → b || list_any (nat_eq k) ns ≡ true → P k
    go more true d h = subst P (sym (eqb-true k n d)) a.0
    go more false d h = more h

-- places

get_before : (xs : List Task) (x : Task) (j : ℕ) → j < length xs → slice_get (xs ++ x ∷ []) j ≡ slice_get xs j
get_before [] x j l = let never : ⊥ = omega arith in elim never [ ]
get_before (y ∷ ys) x zero l = refl
get_before (y ∷ ys) x (suc j) l = get_before ys x j (omega arith)

get_last : (xs : List Task) (x : Task) → slice_get (xs ++ x ∷ []) (length xs) ≡ Some x
get_last [] x = refl
get_last (y ∷ ys) x = get_last ys x

past_or_within : (xs : List Task) (j : ℕ) → (length xs ≤ j) ⊎ (j < length xs)
past_or_within [] j = inl (omega arith)
past_or_within (y ∷ ys) zero = inr (omega arith)
past_or_within (y ∷ ys) (suc j) = go (past_or_within ys j)
  where
    go : (length ys ≤ j) ⊎ (j < length ys) → (length (y ∷ ys) ≤ suc j) ⊎ (suc j < length (y ∷ ys))
    go (inl e) = inl (omega arith)
    go (inr l) = inr (omega arith)

none_behind : (xs : List Task) (j : ℕ) → length xs ≤ j → slice_get xs j ≡ None
none_behind [] j l = refl
none_behind (y ∷ ys) zero l = let never : ⊥ = omega arith in elim never [ ]
none_behind (y ∷ ys) (suc j) l = none_behind ys j (omega arith)

behind_one : (j : ℕ) → suc j - 1 ≡ j
behind_one j = omega arith

at_number : (ts : List Task) (j : ℕ) → task_at ts (suc j) ≡ slice_get ts j
at_number ts j = ap (slice_get ts) (behind_one j)

-- a test of the task at a place
passes_where : (test : Task → Bool) (ts : List Task) (j : ℕ) (o : Option Task) → slice_get ts j ≡ o
    → passes test ts (suc j) ≡ unwrap_or (option_map test o) false
passes_where test ts j o e = ap (λ p. unwrap_or (option_map test p) false) (at_number ts j ∙ e)

found_at : (test : Task → Bool) (ts : List Task) (j : ℕ) → passes test ts (suc j) ≡ true
    → (t : Task) × (slice_get ts j ≡ Some t)
found_at test ts j p = go (slice_get ts j) refl
  where
    go : (o : Option Task) → slice_get ts j ≡ o → (t : Task) × (slice_get ts j ≡ Some t)
    go None e = elim (false≢true (sym (passes_where test ts j None e) ∙ p)) [ ]
    go (Some t) e = (t, e)

module _ (n : ℕ) (all : List Task) (fresh : (m : ℕ) → passes (λ t. is_by n t.state) all m ≡ false) where
  -- the task at this place is cancelled, and belongs to the set; or neither
  abbrev IsJudged : List Task → ℕ → Type 0
  IsJudged before j =
      (CannotRun all n (suc j) × (slice_get before j ≡ option_map (in_state (Cancelled n)) (slice_get all j)))
      ⊎ ((CannotRun all n (suc j) → ⊥) × (slice_get before j ≡ slice_get all j))

  record Walked (before rest : List Task) : Type 0 where
    place : (j : ℕ) → slice_get rest j ≡ slice_get all (length before + j)
    judged : (j : ℕ) → j < length before → IsJudged before j

  here : (before ts : List Task) (t : Task) → Walked before (t ∷ ts) → slice_get all (length before) ≡ Some t
  here before ts t w =
      let e : length before + zero ≡ length before = omega arith in sym (ap (slice_get all) e) ∙ sym (w.place zero)

  lost_cannot : (before rest : List Task) → Walked before rest → (k : ℕ) → 1 ≤ k → k ≤ length before
      → passes (λ t. is_by n t.state) before k ≡ true → CannotRun all n k
  lost_cannot before rest w zero l m e = let never : ⊥ = omega arith in elim never [ ]
  lost_cannot before rest w (suc j) l m e = go (w.judged j (omega arith))
    where
      go : IsJudged before j → CannotRun all n (suc j)
      go (inl h) = h.0
      go (inr h) = elim (false≢true (sym (fresh (suc j))
          ∙ (passes_where (λ t. is_by n t.state) all j (slice_get all j) refl
          ∙ (sym (passes_where (λ t. is_by n t.state) before j (slice_get all j) h.1) ∙ e)))) [ ]

  cannot_lost : (before rest : List Task) → Walked before rest → (k : ℕ) → 1 ≤ k → k ≤ length before → CannotRun all n k
      → (t : Task) → task_at all k ≡ Some t → passes (λ t. is_by n t.state) before k ≡ true
  cannot_lost before rest w zero l m c t e = let never : ⊥ = omega arith in elim never [ ]
  cannot_lost before rest w (suc j) l m c t e = go (w.judged j (omega arith))
    where
      go : IsJudged before j → passes (λ t. is_by n t.state) before (suc j) ≡ true
      go (inl h) = passes_where (λ t. is_by n t.state) before j (Some (in_state (Cancelled n) t)) (h.1
          ∙ ap (option_map (in_state (Cancelled n))) (sym (at_number all j) ∙ e)) ∙ eq-eqb n n refl
      go (inr h) = elim (h.0 c) [ ]

  there : (k : ℕ) → 1 ≤ k → CannotRun all n k → (t : Task) × (task_at all k ≡ Some t)
  there zero l c = let never : ⊥ = omega arith in elim never [ ]
  there (suc j) l (needs m w) = let f = found_at (λ t. waits t.state) all j w.waits in (f.0, at_number all j ∙ f.1)
  there (suc j) l (over m k w c) = let f = found_at (λ t. waits t.state) all j w.waits in (f.0, at_number all j ∙ f.1)

  hit_cannot : (before ts : List Task) (t : Task) → Walked before (t ∷ ts)
      → AllByRecursion (λ k. (1 ≤ k) × (k ≤ length before)) t.needs → is_hit n before t ≡ true
      → CannotRun all n (suc (length before))
  hit_cannot before ts t w sound e =
      let waiting : passes (λ t. waits t.state) all (suc (length before)) ≡ true = passes_where (λ t. waits t.state) all
      (length before) (Some t) (here before ts t w) ∙ both_left (waits t.state) _ e in
      let k = any_in (is_lost n before) t.needs (both_right (waits t.state) _ e) in
      let need : passes (λ t. list_any (nat_eq k.0) t.needs) all (suc (length before)) ≡ true =
      passes_where (λ t. list_any (nat_eq k.0) t.needs) all (length before) (Some t) (here before ts t w) ∙ k.1.0 in
      go k.0 (each_in (λ k. (1 ≤ k) × (k ≤ length before)) t.needs sound k.0 k.1.0) (record {
        waits = waiting;
        needs = need;
      }) (nat_eq k.0 n) refl k.1.1
    where
      go : (k : ℕ) → (1 ≤ k) × (k ≤ length before) → WaitsFor all (suc (length before)) k → (b : Bool) → nat_eq k n ≡ b
          → b || passes (λ t. is_by n t.state) before k ≡ true → CannotRun all n (suc (length before))
      go k l f true d h = needs (suc (length before)) (subst (WaitsFor all (suc (length before))) (eqb-true k n d) f)
      go k l f false d h = over (suc (length before)) k f (lost_cannot before (t ∷ ts) w k l.0 l.1 h)

  cannot_hit : (before ts : List Task) (t : Task) → Walked before (t ∷ ts)
      → AllByRecursion (λ k. (1 ≤ k) × (k ≤ length before)) t.needs → CannotRun all n (suc (length before))
      → is_hit n before t ≡ true
  cannot_hit before ts t w sound c = go c
    where
      both : (k : ℕ) → WaitsFor all (suc (length before)) k → is_lost n before k ≡ true → is_hit n before t ≡ true
      both k f lost =
          let waiting : waits t.state ≡ true =
          sym (passes_where (λ t. waits t.state) all (length before) (Some t) (here before ts t w)) ∙ f.waits in
          let need : list_any (nat_eq k) t.needs ≡ true = sym
          (passes_where (λ t. list_any (nat_eq k) t.needs) all (length before) (Some t) (here before ts t w))
          ∙ f.needs in
          ap (λ b. b && list_any (is_lost n before) t.needs) waiting ∙ in_any (is_lost n before) t.needs k need lost

      bounds : (k : ℕ) → WaitsFor all (suc (length before)) k → (1 ≤ k) × (k ≤ length before)
      bounds k f =
          each_in (λ k. (1 ≤ k)
          × (k ≤ length before)) t.needs sound k (sym (passes_where (λ t. list_any (nat_eq k) t.needs) all
          (length before) (Some t) (here before ts t w)) ∙ f.needs)

      go : CannotRun all n (suc (length before)) → is_hit n before t ≡ true
      go (needs m f) = both n f (or_left (nat_eq n n) _ (eq-eqb n n refl))
      go (over m k f d) =
          let l = bounds k f in
          let u = there k l.0 d in
          both k f (or_right (nat_eq k n) _ (cannot_lost before (t ∷ ts) w k l.0 l.1 d u.0 u.1))

  judged_here : (before ts : List Task) (t : Task) → Walked before (t ∷ ts)
      → AllByRecursion (λ k. (1 ≤ k) × (k ≤ length before)) t.needs → (b : Bool) → is_hit n before t ≡ b
      → IsJudged (before ++ hit_where b n t ∷ []) (length before)
  judged_here before ts t w sound true e = inl (
    hit_cannot before ts t w sound e,
    get_last before
        (in_state (Cancelled n) t) ∙ ap (option_map (in_state (Cancelled n))) (sym (here before ts t w)),
  )
  judged_here before ts t w sound false e =
      inr (λ c. false≢true (sym e ∙ cannot_hit before ts t w sound c), get_last before t ∙ sym (here before ts t w))

  judged_still : (before : List Task) (x : Task) (j : ℕ) → j < length before → IsJudged before j
      → IsJudged (before ++ x ∷ []) j
  judged_still before x j l (inl h) = inl (h.0, get_before before x j l ∙ h.1)
  judged_still before x j l (inr h) = inr (h.0, get_before before x j l ∙ h.1)

  walks : (before ts : List Task) (t : Task) → Walked before (t ∷ ts)
      → AllByRecursion (λ k. (1 ≤ k) × (k ≤ length before)) t.needs
      → Walked (before ++ hit_where (is_hit n before t) n t ∷ []) ts
  walks before ts t w sound =
      let x = hit_where (is_hit n before t) n t in
      let long = length_push before x in
      record {
        place = λ j. let e : length before + suc j ≡ length (before ++ x ∷ []) + j =
            omega arith in w.place (suc j) ∙ ap (slice_get all) e;
        judged = λ j l. at j (λ m. judged_still before x j m (w.judged j m)) (λ e. subst (IsJudged (before
            ++ x ∷ [])) (sym e) (judged_here before ts t w sound (is_hit n before t) refl)) (past_or_within before j)
            (omega arith);
      }
    where
      at : (j : ℕ) → (j < length before → IsJudged (before ++ hit_where (is_hit n before t) n t ∷ []) j)
          → (j ≡ length before → IsJudged (before ++ hit_where (is_hit n before t) n t ∷ []) j)
          → (length before ≤ j) ⊎ (j < length before) → j ≤ length before
          → IsJudged (before ++ hit_where (is_hit n before t) n t ∷ []) j
      at j f g (inl e) m = g (omega arith)
      at j f g (inr l) m = f l

  walked : (P : ℕ → Type 0) (before ts : List Task) → Walked before ts → AreSound P (length before) ts
      → Walked (cancelled_behind n before ts) []
  walked P before [] w a = w
  walked P before (t ∷ ts) w a =
      let x = hit_where (is_hit n before t) n t in
      walked P (before
      ++ x ∷ []) ts (walks before ts t w a.0.needs) (subst (λ i. AreSound P i ts) (sym (length_push before x)) a.1)

  behind_long : (before ts : List Task) → length (cancelled_behind n before ts) ≡ length before + length ts
  behind_long before [] = let e : length before ≡ length before + length {A = Task} [] = omega arith in e
  behind_long before (t ∷ ts) =
      let x = hit_where (is_hit n before t) n t in
      let e = behind_long (before ++ x ∷ []) ts in
      let l = length_push before x in
      omega arith

  module _ (P : ℕ → Type 0) (sound : AreSound P 0 all) where
    abbrev new : List Task
    new = cancelled_behind n [] all

    new_long : length new ≡ length all
    new_long = let e = behind_long [] all in omega arith

    done : Walked new []
    done = walked P [] all (record {
      place = λ j. let e : j ≡ 0 + j = omega arith in ap (slice_get all) e;
      judged = λ j l. let never : ⊥ = omega arith in elim never [ ];
    }) sound

    hit_at : (j : ℕ) → CannotRun all n (suc j) → slice_get new j ≡ option_map (in_state (Cancelled n)) (slice_get all j)
    hit_at j c = go (past_or_within new j)
      where
        judged_so : IsJudged new j → slice_get new j ≡ option_map (in_state (Cancelled n)) (slice_get all j)
        judged_so (inl h) = h.1
        judged_so (inr h) = elim (h.0 c) [ ]

        go : (length new ≤ j) ⊎ (j < length new)
            → slice_get new j ≡ option_map (in_state (Cancelled n)) (slice_get all j)
        go (inl l) = none_behind new j l
            ∙ ap (option_map (in_state (Cancelled n))) (sym (none_behind all j (let e = new_long in omega arith)))
        go (inr l) = judged_so (done.judged j l)

    other_at : (j : ℕ) → (CannotRun all n (suc j) → ⊥) → slice_get new j ≡ slice_get all j
    other_at j c = go (past_or_within new j)
      where
        judged_so : IsJudged new j → slice_get new j ≡ slice_get all j
        judged_so (inl h) = elim (c h.0) [ ]
        judged_so (inr h) = h.1

        go : (length new ≤ j) ⊎ (j < length new) → slice_get new j ≡ slice_get all j
        go (inl l) = none_behind new j l ∙ sym (none_behind all j (let e = new_long in omega arith))
        go (inr l) = judged_so (done.judged j l)

    hit_number : (m : ℕ) → 1 ≤ m → CannotRun all n m
        → task_at new m ≡ option_map (in_state (Cancelled n)) (task_at all m)
    hit_number zero l c = let never : ⊥ = omega arith in elim never [ ]
    hit_number (suc j) l c =
        at_number new j ∙ (hit_at j c ∙ ap (option_map (in_state (Cancelled n))) (sym (at_number all j)))

    other_number : (m : ℕ) → 1 ≤ m → (CannotRun all n m → ⊥) → task_at new m ≡ task_at all m
    other_number zero l c = let never : ⊥ = omega arith in elim never [ ]
    other_number (suc j) l c = at_number new j ∙ (other_at j c ∙ sym (at_number all j))

    pub cancels : Cancels n all new
    cancels = record { long = new_long; hit = hit_number; others = other_number }

-- no task is cancelled by one that runs

by_bad : (P : ℕ → Type 0) (i n : ℕ) (s : TaskState) → IsBlamed P i s → is_by n s ≡ true → P n
by_bad P i n Waits b e = elim (false≢true e) [ ]
by_bad P i n Runs b e = elim (false≢true e) [ ]
by_bad P i n (Ended code) b e = elim (false≢true e) [ ]
by_bad P i n (Cancelled m) b e = subst P (sym (eqb-true n m e)) b.2

abbrev pub by_at : ℕ → List Task → ℕ → Bool
by_at n ts k = unwrap_or (option_map (λ (t : Task). is_by n t.state) (slice_get ts k)) false

one_by_bad : (P : ℕ → Type 0) (i n : ℕ) (ts : List Task) (k : ℕ) → AreSound P i ts → by_at n ts k ≡ true → P n
one_by_bad P i n [] k a e = elim (false≢true e) [ ]
one_by_bad P i n (t ∷ ts) zero a e = by_bad P i n t.state a.0.blamed e
one_by_bad P i n (t ∷ ts) (suc k) a e = one_by_bad P (i + 1) n ts k a.1 e

runs_not_bad : (ts : List Task) (n : ℕ) → passes (λ t. runs t.state) ts n ≡ true → passes is_bad ts n ≡ true → ⊥
runs_not_bad ts n r b = go (task_at ts n) r b
  where
    go : (o : Option Task) → unwrap_or (option_map (λ t. runs t.state) o) false ≡ true
        → unwrap_or (option_map is_bad o) false ≡ true → ⊥
    go None h k = false≢true h
    go (Some t) h k = false≢true (sym (running_not_bad t.made.can_fail t.state h) ∙ k)

pub none_by : (ts : List Task) (n k : ℕ) → AreTasks ts → passes (λ t. runs t.state) ts n ≡ true → by_at n ts k ≡ false
none_by ts n k a r = go (by_at n ts k) refl
  where
    go : (b : Bool) → by_at n ts k ≡ b → b ≡ false
    go true e = elim (runs_not_bad ts n r (one_by_bad (EndedBadly ts) 0 n ts k a.sound e)) [ ]
    go false e = refl

set_by : (n : ℕ) (ts : List Task) (i k : ℕ) (t : Task) → is_by n t.state ≡ false → by_at n ts k ≡ false
    → by_at n (slice_set ts i t) k ≡ false
set_by n [] i k t e f = f
set_by n (x ∷ xs) zero zero t e f = e
set_by n (x ∷ xs) zero (suc k) t e f = f
set_by n (x ∷ xs) (suc i) zero t e f = f
set_by n (x ∷ xs) (suc i) (suc k) t e f = set_by n xs i k t e f

ended_by : (n code : ℕ) (t : Task) → is_by n (ended_task code t).state ≡ false
ended_by n code t = go (not (nat_eq code 0) && nat_lt t.attempt t.made.retry)
  where
    go : (b : Bool)
        → is_by n (if b then record {
          made = t.made;
          needs = t.needs;
          attempt = t.attempt + 1;
          state = Waits;
        } else in_state (Ended code) t).state ≡ false
    go true = refl
    go false = refl

pub with_by : (ts : List Task) (n code k : ℕ) → by_at n ts k ≡ false
    → by_at n (with_task (ended_task code) n ts) k ≡ false
with_by ts n code k f = go (task_at ts n)
  where
    go : (o : Option Task) → by_at n (put_at (n - 1) (option_map (ended_task code) o) ts) k ≡ false
    go None = f
    go (Some t) = set_by n ts (n - 1) k (ended_task code t) (ended_by n code t) f

pub ends_cancel : EndsCancel
ends_cancel ts n code a l r bad =
    let us : List Task = with_task (ended_task code) n ts in
    let b : AreTasks us = ended_tasks n code ts a r in
    subst (λ x. Cancels n us (cancelled_if x n us)) (sym bad)
    (cancels n us (λ m. with_by ts n code (m - 1) (none_by ts n (m - 1) a r)) (EndedBadly us) b.sound)
