-- What changes tasks keeps them sound.
use Rattle.std.proofs.Common.{◌≡◌, ℕ, zero, suc, ◌+◌, ◌-◌, ◌<◌, ◌≤◌, Bool, true, false, not, ◌&&◌, ◌||◌, List, [], ◌∷◌, ◌++◌, map, length, Option, Some, None, refl, sym, ap, ◌∙◌, subst, arith, rules, nat_eq, nat_lt, if◌then◌else◌, append-nil, append_assoc}
use Rattle.std.proofs.lemmas.List.{length-set, length_push, map-append}
use Rattle.std.proofs.lemmas.Bool.{lt-ltb, eqb-true, false≢true}
use Rattle.std.specs.Bool.{IsTrue}
use Rattle.std.specs.List.{AllByRecursion, list_any, slice_get, slice_set}
use Rattle.std.specs.Option.{option_map, unwrap_or}
use Rattle.bds_value.specs.Fields.{RisesFrom}
use Rattle.bds_value.specs.Reading.{follows}
use Rattle.bds_value.specs.declared.TheConstants.{MAX_TASKS}
use Rattle.bds_tasks.specs.declared.task.Task.{Task}
use Rattle.bds_tasks.specs.declared.task.TaskNew.{TaskNew}
use Rattle.bds_tasks.specs.declared.task.TaskState.{TaskState}
use Rattle.bds_tasks.specs.declared.task.TaskState.TheVariants.{Waits, Runs, Ended, Cancelled}
use Rattle.bds_tasks.specs.Ends.{is_by, is_lost, is_hit, hit_where, cancelled_behind, cancelled_if, ended_task, ended}
use Rattle.bds_tasks.specs.Sound.{AreSound, AreTasks, EndedBadly, IsBlamed, IsLegal, IsSound}
use Rattle.bds_tasks.specs.Starts.{started}
use Rattle.bds_tasks.specs.Tasks.{added, in_state, is_bad, is_good, is_ill, is_needed, is_well, numbers_from, numbers_of, one_where, passes, put_at, revived_task, runs, task_at, waits, with_task}

blamed_with : (P Q : ℕ → Type 0) (i : ℕ) (s : TaskState) → ((n : ℕ) → P n → Q n) → IsBlamed P i s → IsBlamed Q i s
blamed_with P Q i Waits f b = tt
blamed_with P Q i Runs f b = tt
blamed_with P Q i (Ended code) f b = tt
blamed_with P Q i (Cancelled n) f b = (b.0, b.1, f n b.2)

sound_with : (P Q : ℕ → Type 0) (i : ℕ) (t : Task) → ((n : ℕ) → P n → Q n) → IsSound P i t → IsSound Q i t
sound_with P Q i t f s = record { made = s.made; attempt = s.attempt; rises = s.rises; needs = s.needs; blamed = blamed_with P Q i t.state f s.blamed }

-- what blames tasks may hold of more
pub all_with : (P Q : ℕ → Type 0) (i : ℕ) (ts : List Task) → ((n : ℕ) → P n → Q n) → AreSound P i ts → AreSound Q i ts
all_with P Q i [] f a = tt
all_with P Q i (t ∷ ts) f a = (sound_with P Q i t f a.0, all_with P Q (i + 1) ts f a.1)

sound_append : (P : ℕ → Type 0) (i : ℕ) (xs ys : List Task) → AreSound P i xs → AreSound P (i + length xs) ys → AreSound P i (xs ++ ys)
sound_append P i [] ys a b = let e : i + length {A = Task} [] ≡ i = omega arith in subst (λ j. AreSound P j ys) e b
sound_append P i (x ∷ xs) ys a b =
    let e : i + length (x ∷ xs) ≡ i + 1 + length xs = omega arith in
    (a.0, sound_append P (i + 1) xs ys a.1 (subst (λ j. AreSound P j ys) e b))

-- one task is changed
sound_changed : (P : ℕ → Type 0) (i : ℕ) (ts : List Task) (k : ℕ) (t' : Task) → AreSound P i ts → ((t : Task) → slice_get ts k ≡ Some t → IsSound P (i + k) t → IsSound P (i + k) t') → AreSound P i (slice_set ts k t')
sound_changed P i [] k t' a f = tt
sound_changed P i (x ∷ xs) zero t' a f =
    let e : i + zero ≡ i = omega arith in
    (subst (λ j. IsSound P j t') e (f x refl (subst (λ j. IsSound P j x) (sym e) a.0)), a.1)
sound_changed P i (x ∷ xs) (suc k) t' a f =
    let e : i + suc k ≡ i + 1 + k = omega arith in
    (a.0, sound_changed P (i + 1) xs k t' a.1 (λ t is s. subst (λ j. IsSound P j t') e (f t is (subst (λ j. IsSound P j t) (sym e) s))))

-- the task at a place is there and passes
abbrev pub at_place : (Task → Bool) → List Task → ℕ → Bool
at_place test ts k = unwrap_or (option_map test (slice_get ts k)) false

bad_changed : (ts : List Task) (k j : ℕ) (t' : Task) → ((t : Task) → slice_get ts k ≡ Some t → is_bad t ≡ true → is_bad t' ≡ true) → at_place is_bad ts j ≡ true → at_place is_bad (slice_set ts k t') j ≡ true
bad_changed [] k j t' f b = b
bad_changed (x ∷ xs) zero zero t' f b = f x refl b
bad_changed (x ∷ xs) zero (suc j) t' f b = b
bad_changed (x ∷ xs) (suc k) zero t' f b = b
bad_changed (x ∷ xs) (suc k) (suc j) t' f b = bad_changed xs k j t' f b

bad_append : (ts us : List Task) (j : ℕ) → at_place is_bad ts j ≡ true → at_place is_bad (ts ++ us) j ≡ true
bad_append [] us j b = elim (false≢true b) [ ]
bad_append (x ∷ xs) us zero b = b
bad_append (x ∷ xs) us (suc j) b = bad_append xs us j b

tasks_changed : (ts : List Task) (k : ℕ) (t' : Task) → AreTasks ts → ((P : ℕ → Type 0) (t : Task) → slice_get ts k ≡ Some t → IsSound P k t → IsSound P k t') → ((t : Task) → slice_get ts k ≡ Some t → is_bad t ≡ true → is_bad t' ≡ true) → AreTasks (slice_set ts k t')
tasks_changed ts k t' a f g =
    let e : 0 + k ≡ k = omega arith in
    record {
      count = rw length-set a.count;
      sound = all_with (EndedBadly ts) (EndedBadly (slice_set ts k t')) 0 (slice_set ts k t') (λ n b. bad_changed ts k (n - 1) t' g b)
          (sound_changed (EndedBadly ts) 0 ts k t' a.sound (λ t is s. subst (λ j. IsSound (EndedBadly ts) j t') (sym e) (f (EndedBadly ts) t is (subst (λ j. IsSound (EndedBadly ts) j t) e s))));
    }

same_task : (o : Option Task) (t u : Task) → o ≡ Some t → o ≡ Some u → t ≡ u
same_task o t u e d = ap (λ x. unwrap_or x t) (sym e ∙ d)

-- a change of task n keeps what a table asks, where it keeps that of the task
with_tasks : (change : Task → Task) (n : ℕ) (ts : List Task) → AreTasks ts → ((P : ℕ → Type 0) (t : Task) → task_at ts n ≡ Some t → IsSound P (n - 1) t → IsSound P (n - 1) (change t)) → ((t : Task) → task_at ts n ≡ Some t → is_bad t ≡ true → is_bad (change t) ≡ true) → AreTasks (with_task change n ts)
with_tasks change n ts a f g = go (task_at ts n) refl
  where
    go : (o : Option Task) → task_at ts n ≡ o → AreTasks (put_at (n - 1) (option_map change o) ts)
    go None e = a
    go (Some t) e =
        tasks_changed ts (n - 1) (change t) a
        (λ P u is s. f P t e (subst (λ x. IsSound P (n - 1) x) (same_task (task_at ts n) u t is e) s))
        (λ u is b. g t e (subst (λ x. is_bad x ≡ true) (same_task (task_at ts n) u t is e) b))

tested : (test : Task → Bool) (ts : List Task) (n : ℕ) (t : Task) → passes test ts n ≡ true → task_at ts n ≡ Some t → test t ≡ true
tested test ts n t p e = ap (λ o. unwrap_or (option_map test o) false) (sym e) ∙ p

none_from : {X : Type 0} (b : Bool) → b ≡ false → b ≡ true → X
none_from b f t = elim (false≢true (sym f ∙ t)) [ ]

waiting_not_bad : (b : Bool) (s : TaskState) → waits s ≡ true → is_ill b s ≡ false
waiting_not_bad b Waits w = refl
waiting_not_bad b Runs w = refl
waiting_not_bad b (Ended code) w = elim (false≢true w) [ ]
waiting_not_bad b (Cancelled n) w = refl

pub running_not_bad : (b : Bool) (s : TaskState) → runs s ≡ true → is_ill b s ≡ false
running_not_bad b Waits w = refl
running_not_bad b Runs w = refl
running_not_bad b (Ended code) w = elim (false≢true w) [ ]
running_not_bad b (Cancelled n) w = refl

pub starts_sound : (n : ℕ) (ts : List Task) → AreTasks ts → passes (λ t. waits t.state) ts n ≡ true → AreTasks (started n ts)
starts_sound n ts a w =
    with_tasks (in_state Runs) n ts a
    (λ P t e s. record { made = s.made; attempt = s.attempt; rises = s.rises; needs = s.needs; blamed = tt })
    (λ t e b. none_from (is_bad t) (waiting_not_bad t.made.can_fail t.state (tested (λ t. waits t.state) ts n t w e)) b)

ended_sound : (P : ℕ → Type 0) (i code : ℕ) (t : Task) → IsSound P i t → IsSound P i (ended_task code t)
ended_sound P i code t s = go (not (nat_eq code 0) && nat_lt t.attempt t.made.retry) refl
  where
    go : (b : Bool) → not (nat_eq code 0) && nat_lt t.attempt t.made.retry ≡ b → IsSound P i (if b then record { made = t.made; needs = t.needs; attempt = t.attempt + 1; state = Waits } else in_state (Ended code) t)
    go true e = let less : t.attempt < t.made.retry = search (rules, e) in record { made = s.made; attempt = omega arith; rises = s.rises; needs = s.needs; blamed = tt }
    go false e = record { made = s.made; attempt = s.attempt; rises = s.rises; needs = s.needs; blamed = tt }

-- the walk that cancels

by_within : (P : ℕ → Type 0) (i n : ℕ) (s : TaskState) → IsBlamed P i s → is_by n s ≡ true → n ≤ i
by_within P i n Waits b e = elim (false≢true e) [ ]
by_within P i n Runs b e = elim (false≢true e) [ ]
by_within P i n (Ended code) b e = elim (false≢true e) [ ]
by_within P i n (Cancelled m) b e = subst (λ k. k ≤ i) (sym (eqb-true n m e)) b.1

by_one_within : (P : ℕ → Type 0) (i n : ℕ) (ts : List Task) (k : ℕ) → AreSound P i ts → at_place (λ t. is_by n t.state) ts k ≡ true → n ≤ i + length ts
by_one_within P i n [] k a e = elim (false≢true e) [ ]
by_one_within P i n (t ∷ ts) zero a e = let h : n ≤ i = by_within P i n t.state a.0.blamed e in omega arith
by_one_within P i n (t ∷ ts) (suc k) a e = let h : n ≤ i + 1 + length ts = by_one_within P (i + 1) n ts k a.1 e in omega arith

lost_within : (P : ℕ → Type 0) (n m : ℕ) (ts : List Task) → AreSound P 0 ts → m ≤ length ts → is_lost n ts m ≡ true → n ≤ length ts
lost_within P n m ts a l e = go (nat_eq m n) refl e
  where
    go : (b : Bool) → nat_eq m n ≡ b → b || passes (λ t. is_by n t.state) ts m ≡ true → n ≤ length ts
    go true d h = subst (λ k. k ≤ length ts) (eqb-true m n d) l
    go false d h = let w : n ≤ 0 + length ts = by_one_within P 0 n ts (m - 1) a h in omega arith

any_lost_within : (P : ℕ → Type 0) (n : ℕ) (ms : List ℕ) (ts : List Task) → AreSound P 0 ts → AllByRecursion (λ m. (1 ≤ m) × (m ≤ length ts)) ms → list_any (is_lost n ts) ms ≡ true → n ≤ length ts
any_lost_within P n [] ts a l e = elim (false≢true e) [ ]
any_lost_within P n (m ∷ ms) ts a l e = go (any_lost_within P n ms ts a l.1) (is_lost n ts m) refl e
  where
    go : (list_any (is_lost n ts) ms ≡ true → n ≤ length ts) → (b : Bool) → is_lost n ts m ≡ b → b || list_any (is_lost n ts) ms ≡ true → n ≤ length ts
    go more true d h = lost_within P n m ts a l.0.1 d
    go more false d h = more h

pub both_left : (a b : Bool) → a && b ≡ true → a ≡ true
both_left true b e = refl
both_left false b e = e

pub both_right : (a b : Bool) → a && b ≡ true → b ≡ true
both_right true b e = e
both_right false b e = elim (false≢true e) [ ]

hit_sound : (P : ℕ → Type 0) (n : ℕ) (before : List Task) (t : Task) → P n → 1 ≤ n → AreSound P 0 before → (b : Bool) → is_hit n before t ≡ b → IsSound P (length before) t → IsSound P (length before) (hit_where b n t)
hit_sound P n before t p o a false e s = s
hit_sound P n before t p o a true e s = record {
  made = s.made;
  attempt = s.attempt;
  rises = s.rises;
  needs = s.needs;
  blamed = (o, any_lost_within P n t.needs before a s.needs (both_right (waits t.state) (list_any (is_lost n before) t.needs) e), p);
}

cancelled_sound : (P : ℕ → Type 0) (n : ℕ) (before ts : List Task) → P n → 1 ≤ n → AreSound P 0 before → AreSound P (length before) ts → AreSound P 0 (cancelled_behind n before ts)
cancelled_sound P n before [] p o a b = a
cancelled_sound P n before (t ∷ ts) p o a b =
    let t' = hit_where (is_hit n before t) n t in
    let e : length (before ++ t' ∷ []) ≡ length before + 1 = length_push before t' in
    let d : 0 + length before ≡ length before = omega arith in
    let one : AreSound P (0 + length before) (t' ∷ []) = subst (λ j. AreSound P j (t' ∷ [])) (sym d) (hit_sound P n before t p o a (is_hit n before t) refl b.0, tt) in
    cancelled_sound P n (before ++ t' ∷ []) ts p o (sound_append P 0 before (t' ∷ []) a one) (subst (λ j. AreSound P j ts) (sym e) b.1)

hit_bad : (n : ℕ) (before : List Task) (t : Task) (b : Bool) → is_hit n before t ≡ b → is_bad (hit_where b n t) ≡ is_bad t
hit_bad n before t false e = refl
hit_bad n before t true e = sym (waiting_not_bad t.made.can_fail t.state (both_left (waits t.state) _ e))

bad_behind : (n : ℕ) (before ts : List Task) → map is_bad (cancelled_behind n before ts) ≡ map is_bad before ++ map is_bad ts
bad_behind n before [] = sym (append-nil (map is_bad before))
bad_behind n before (t ∷ ts) =
    let t' = hit_where (is_hit n before t) n t in
    bad_behind n (before ++ t' ∷ []) ts
    ∙ ap (λ xs. xs ++ map is_bad ts) (map-append is_bad before (t' ∷ []))
    ∙ append_assoc (map is_bad before) (is_bad t' ∷ []) (map is_bad ts)
    ∙ ap (λ b. map is_bad before ++ b ∷ map is_bad ts) (hit_bad n before t (is_hit n before t) refl)

bad_by_map : (ts : List Task) (k : ℕ) → at_place is_bad ts k ≡ unwrap_or (slice_get (map is_bad ts) k) false
bad_by_map [] k = refl
bad_by_map (t ∷ ts) zero = refl
bad_by_map (t ∷ ts) (suc k) = bad_by_map ts k

length_by_map : (ts : List Task) → length ts ≡ length (map is_bad ts)
length_by_map [] = refl
length_by_map (t ∷ ts) = let e = length_by_map ts in omega arith

cancels_sound : (n : ℕ) (ts : List Task) → 1 ≤ n → AreTasks ts → EndedBadly ts n → AreTasks (cancelled_behind n [] ts)
cancels_sound n ts o a b =
    let us = cancelled_behind n [] ts in
    let same : map is_bad us ≡ map is_bad ts = bad_behind n [] ts in
    let long : length us ≡ length ts = length_by_map us ∙ (ap length same ∙ sym (length_by_map ts)) in
    record {
      count = rw long a.count;
      sound = all_with (EndedBadly ts) (EndedBadly us) 0 us
          (λ m e. bad_by_map us (m - 1) ∙ (ap (λ bs. unwrap_or (slice_get bs (m - 1)) false) same ∙ (sym (bad_by_map ts (m - 1)) ∙ e)))
          (cancelled_sound (EndedBadly ts) n [] ts b o tt a.sound);
    }

-- the command of a task that runs ended
pub ended_tasks : (n code : ℕ) (ts : List Task) → AreTasks ts → passes (λ t. runs t.state) ts n ≡ true → AreTasks (with_task (ended_task code) n ts)
ended_tasks n code ts a w =
    with_tasks (ended_task code) n ts a (λ P t e s. ended_sound P (n - 1) code t s)
    (λ t e b. none_from (is_bad t) (running_not_bad t.made.can_fail t.state (tested (λ t. runs t.state) ts n t w e)) b)

pub ends_sound : (n code : ℕ) (ts : List Task) → 1 ≤ n → AreTasks ts → passes (λ t. runs t.state) ts n ≡ true → AreTasks (ended n code ts)
ends_sound n code ts o a w = go (with_task (ended_task code) n ts) (ended_tasks n code ts a w) (passes is_bad (with_task (ended_task code) n ts) n) refl
  where
    go : (us : List Task) → AreTasks us → (bad : Bool) → passes is_bad us n ≡ bad → AreTasks (cancelled_if bad n us)
    go us b true e = cancels_sound n us o b e
    go us b false e = b

-- reviving

good_blamed : (P : ℕ → Type 0) (i : ℕ) (b : Bool) (s : TaskState) → is_well b s ≡ true → IsBlamed P i s
good_blamed P i b Waits e = tt
good_blamed P i b Runs e = tt
good_blamed P i b (Ended code) e = tt
good_blamed P i b (Cancelled n) e = elim (false≢true e) [ ]

revived_sound : (P Q : ℕ → Type 0) (i : ℕ) (t : Task) → IsSound P i t → IsSound Q i (revived_task t)
revived_sound P Q i t s = go (is_good t) refl
  where
    go : (b : Bool) → is_good t ≡ b → IsSound Q i (if b then t else record { made = t.made; needs = t.needs; attempt = t.attempt; state = Waits })
    go true e = record { made = s.made; attempt = s.attempt; rises = s.rises; needs = s.needs; blamed = good_blamed Q i t.made.can_fail t.state e }
    go false e = record { made = s.made; attempt = s.attempt; rises = s.rises; needs = s.needs; blamed = tt }

all_revived : (P Q : ℕ → Type 0) (i : ℕ) (ts : List Task) → AreSound P i ts → AreSound Q i (map revived_task ts)
all_revived P Q i [] a = tt
all_revived P Q i (t ∷ ts) a = (revived_sound P Q i t a.0, all_revived P Q (i + 1) ts a.1)

length_revived : (ts : List Task) → length (map revived_task ts) ≡ length ts
length_revived [] = refl
length_revived (t ∷ ts) = let e = length_revived ts in omega arith

pub revives_sound : (ts : List Task) → AreTasks ts → AreTasks (map revived_task ts)
revives_sound ts a = record {
  count = rw (length_revived ts) a.count;
  sound = all_revived (EndedBadly ts) (EndedBadly (map revived_task ts)) 0 ts a.sound;
}

-- adding

pub rises_from : (n : ℕ) (test : Task → Bool) (ts : List Task) (last : Option ℕ) → ((k : ℕ) → n ≤ k → IsTrue (follows nat_lt last k)) → RisesFrom nat_lt (λ (m : ℕ). m) last (numbers_from n test ts)
rises_from n test [] last f = tt
rises_from n test (t ∷ ts) last f = go (rises_from (n + 1) test ts) (test t)
  where
    go : ((l : Option ℕ) → ((k : ℕ) → n + 1 ≤ k → IsTrue (follows nat_lt l k)) → RisesFrom nat_lt (λ (m : ℕ). m) l (numbers_from (n + 1) test ts)) → (b : Bool) → RisesFrom nat_lt (λ (m : ℕ). m) last (one_where b n ++ numbers_from (n + 1) test ts)
    go more true = (f n (omega arith), more (Some n) (λ k h. lt-ltb n k (omega arith)))
    go more false = more last (λ k h. f k (omega arith))

all_within : (n most : ℕ) (test : Task → Bool) (ts : List Task) → 1 ≤ n → n + length ts ≤ most + 1 → AllByRecursion (λ m. (1 ≤ m) × (m ≤ most)) (numbers_from n test ts)
all_within n most test [] o l = tt
all_within n most test (t ∷ ts) o l = go (all_within (n + 1) most test ts (omega arith) (omega arith)) (test t)
  where
    go : AllByRecursion (λ m. (1 ≤ m) × (m ≤ most)) (numbers_from (n + 1) test ts) → (b : Bool) → AllByRecursion (λ m. (1 ≤ m) × (m ≤ most)) (one_where b n ++ numbers_from (n + 1) test ts)
    go rest true = ((o, omega arith), rest)
    go rest false = rest

pub adds_sound : (new : TaskNew) (ts : List Task) → AreTasks ts → length ts < MAX_TASKS → IsLegal new → AreTasks (added ts new)
adds_sound new ts a l m =
    let t : Task = record { made = new; needs = numbers_of (is_needed new) ts; attempt = 0; state = Waits } in
    let e : length (ts ++ t ∷ []) ≡ length ts + 1 = length_push ts t in
    let d : 0 + length ts ≡ length ts = omega arith in
    let s : IsSound (EndedBadly ts) (length ts) t =
    record {
      made = m;
      attempt = omega arith;
      rises = rises_from 1 (is_needed new) ts None (λ k h. refl);
      needs = all_within 1 (length ts) (is_needed new) ts (omega arith) (omega arith);
      blamed = tt;
    }
    in
    record {
      count = rw e (omega arith);
      sound = all_with (EndedBadly ts) (EndedBadly (added ts new)) 0 (added ts new) (λ n b. bad_append ts (t ∷ []) (n - 1) b)
          (sound_append (EndedBadly ts) 0 ts (t ∷ []) a.sound (subst (λ j. AreSound (EndedBadly ts) j (t ∷ [])) (sym d) (s, tt)));
    }

-- a task that passes is there
pub there_where : (test : Task → Bool) (ts : List Task) (n : ℕ) → 1 ≤ n → passes test ts n ≡ true → n ≤ length ts
there_where test ts n o p = let l = at_within ts (n - 1) p in omega arith
  where
    at_within : (us : List Task) (k : ℕ) → at_place test us k ≡ true → k < length us
    at_within [] k e = elim (false≢true e) [ ]
    at_within (u ∷ us) zero e = omega arith
    at_within (u ∷ us) (suc k) e = let l = at_within us k e in omega arith
