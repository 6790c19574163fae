-- What is kept of threads that wait stays right.
use Rattle.std.proofs.Common.{◌≡◌, ◌<◌, ◌≤◌, ◌-◌, ℕ, zero, suc, Bool, true, false, ◌||◌, List, [], ◌∷◌, ◌++◌, length}
use Rattle.std.proofs.Common.{map, slice_get, Option, Some, None, inl, inr, refl, sym, ap, ◌∙◌, subst, arith}
use Rattle.std.proofs.lemmas.Option.{get_or_from_slice_get, slice_get_within}
use Rattle.std.specs.List.{list_all, slice_set}
use Rattle.std.specs.Option.{option_map, unwrap_or}
use Rattle.bds_value.specs.declared.ids.Id.TheVariants as id
use Rattle.bds_value.specs.declared.ids.Status.{Status}
use Rattle.bds_code_frames.specs.declared.thread.Thread.{Thread}
use Rattle.bds_tasks.specs.declared.task.Task.{Task}
use Rattle.bds_tasks.specs.declared.task.TaskNew.{TaskNew}
use Rattle.bds_tasks.specs.declared.task.TaskState.TheVariants.{Waits, Runs}
use Rattle.bds_tasks.specs.Ends.{cancelled_behind, cancelled_if, ended, ended_task, hit_where, is_hit}
use Rattle.bds_tasks.specs.Kept.{is_lost_task}
use Rattle.bds_tasks.specs.Starts.{started}
use Rattle.bds_tasks.specs.Tasks.{added, in_state, is_bad, is_good, is_needed, numbers_of, passes, put_at}
use Rattle.bds_tasks.specs.Tasks.{revived_task}
use Rattle.bds_tasks.specs.Tasks.{task_at, with_task}
use Rattle.bds_tasks.proofs.PlaceLaws.{same_or_not}
use Rattle.bds_state.specs.Held.{AreHeld, AreHeldBut, GoesOn, IsBlocked, IsHeld, IsStill, KeepsGoing, NoneLost}
use Rattle.bds_state.specs.Holding.{HasHolder, IsFreed, IsNoted}
use Rattle.bds_state.specs.Ready.{is_end, is_ready, names_ended}
use Rattle.bds_state.proofs.OverLaws.{none_named, one_goes_on}
use Rattle.bds_state.proofs.Places.{same_item}

-- A thread that is held isn't ready

blocked_waits : (threads : List Thread) (tasks : List Task) (status : Status) (n : ℕ) → IsBlocked tasks status n
    → is_ready threads tasks status ≡ false
blocked_waits threads tasks status n b =
    let named = b.going.named in
    subst (λ s. is_ready threads tasks s ≡ false) (sym b.waits)
    (ap (λ x. x || list_all (names_ended threads tasks) b.ids) (none_named tasks b.none b.ids)
    ∙ one_goes_on threads tasks b.ids b.going.place (id.Task n)
    (slice_get_within b.ids b.going.place (id.Task n) named)
    (sym (get_or_from_slice_get b.ids b.going.place (id.Task n) (id.Task n) named)) b.going.goes_on)

still_waits : (threads : List Thread) (tasks : List Task) (status : Status) (n : ℕ) → IsStill tasks status n
    → is_ready threads tasks status ≡ false
still_waits threads tasks status n (inl e) = subst (λ s. is_ready threads tasks s ≡ false) (sym e) refl
still_waits threads tasks status n (inr b) = blocked_waits threads tasks status n b

pub held_waits : (threads : List Thread) (tasks : List Task) (held : List ℕ) (k n : ℕ) (t : Thread)
    → AreHeld threads tasks held → HasHolder held k n → slice_get threads k ≡ Some t
    → is_ready threads tasks t.status ≡ false
held_waits threads tasks held k n t are h there =
    let is = are k n h in
    subst (λ (x : Thread). is_ready threads tasks x.status ≡ false)
    (same_item (slice_get threads k) is.thread t is.there there)
    (still_waits threads tasks is.thread.status n is.still)

-- Places of a list in which one was set, or one was put behind

none_some : {X : Type 0} (x : X) → ◌≡◌ {A = Option X} None (Some x) → ⊥
none_some x e = absurd (cc)

set_there : {X : Type 0} (xs : List X) (k : ℕ) (y : X) → k < length xs → slice_get (slice_set xs k y) k ≡ Some y
set_there [] k y l = let no : ⊥ = omega (arith, l) in elim no [ ]
set_there (z ∷ zs) zero y l = refl
set_there (z ∷ zs) (suc k) y l = set_there zs k y (omega (arith, l))

set_other : {X : Type 0} (xs : List X) (k i : ℕ) (y : X) → (i ≡ k → ⊥)
    → slice_get (slice_set xs k y) i ≡ slice_get xs i
set_other [] k i y h = refl
set_other (z ∷ zs) zero zero y h = elim (h refl) [ ]
set_other (z ∷ zs) zero (suc i) y h = refl
set_other (z ∷ zs) (suc k) zero y h = refl
set_other (z ∷ zs) (suc k) (suc i) y h = set_other zs k i y (λ e. h (ap suc e))

push_there : {X : Type 0} (xs : List X) (y x : X) (k : ℕ) → slice_get xs k ≡ Some x
    → slice_get (xs ++ y ∷ []) k ≡ Some x
push_there [] y x k e = elim (none_some x e) [ ]
push_there (z ∷ zs) y x zero e = e
push_there (z ∷ zs) y x (suc k) e = push_there zs y x k e

-- Threads change

pub thread_put : (threads : List Thread) (tasks : List Task) (k n : ℕ) (t : Thread) (old new : List ℕ)
    → k < length threads → AreHeld threads tasks old → IsNoted k n old new → (1 ≤ n → IsStill tasks t.status n)
    → AreHeld (slice_set threads k t) tasks new
thread_put threads tasks k n t old new l are noted stays i m h =
    same_or_not (IsHeld (slice_set threads k t) tasks i m) k i
    (λ e.
    let is : m ≡ n = noted.here m (subst (λ j. HasHolder new j m) (sym e) h) in
    subst (λ j. IsHeld (slice_set threads k t) tasks j m) e (record {
      thread = t;
      there = set_there threads k t l;
      still = subst (IsStill tasks t.status) (sym is) (stays (subst (λ x. 1 ≤ x) is h.1));
    }))
    (λ other.
    let is = are i m (noted.others i m (λ e. other (sym e)) h) in
    record {
      thread = is.thread;
      there = set_other threads k i t (λ e. other (sym e)) ∙ is.there;
      still = is.still;
    })

pub noted_again : (k m n : ℕ) (old mid new : List ℕ) → IsNoted k m old mid → IsNoted k n mid new → IsNoted k n old new
noted_again k m n old mid new first second = record {
  here = second.here;
  others = λ i j d h. first.others i j d (second.others i j d h);
}

-- nothing is kept of the thread
pub thread_free : (threads : List Thread) (tasks : List Task) (k : ℕ) (t : Thread) (old new : List ℕ)
    → k < length threads → AreHeld threads tasks old → IsNoted k 0 old new
    → AreHeld (slice_set threads k t) tasks new
thread_free threads tasks k t old new l are noted =
    thread_put threads tasks k 0 t old new l are noted (λ o. (let no : ⊥ = omega (arith, o) in elim no [ ]))

pub thread_more : (threads : List Thread) (tasks : List Task) (t : Thread) (held : List ℕ)
    → AreHeld threads tasks held → AreHeld (threads ++ t ∷ []) tasks held
thread_more threads tasks t held are k n h =
    let is = are k n h in
    record { thread = is.thread; there = push_there threads t is.thread k is.there; still = is.still }

-- Tasks change

-- a thread that waits for a task goes on to, where that goes on and no task is lost
still_on : (old new : List Task) (status : Status) (n : ℕ) → (GoesOn old n → GoesOn new n)
    → (NoneLost old → NoneLost new) → IsStill old status n → IsStill new status n
still_on old new status n going none (inl e) = inl e
still_on old new status n going none (inr b) = inr (record {
  ids = b.ids;
  waits = b.waits;
  going = record { place = b.going.place; named = b.going.named; goes_on = going b.going.goes_on };
  none = none b.none;
})

pub tasks_kept : (threads : List Thread) (old new : List Task) (held : List ℕ) → KeepsGoing old new
    → AreHeld threads old held → AreHeld threads new held
tasks_kept threads old new held keeps are k n h =
    let is = are k n h in
    record {
      thread = is.thread;
      there = is.there;
      still = still_on old new is.thread.status n (keeps.going n) keeps.none is.still;
    }

-- none passes a test where a task was put that doesn't
module _ (test : Task → Bool) where
  abbrev at : List Task → ℕ → Bool
  at ts i = unwrap_or (option_map test (slice_get ts i)) false

  push_fails : (ts : List Task) (t : Task) (i : ℕ) → test t ≡ false → at ts i ≡ false → at (ts ++ t ∷ []) i ≡ false
  push_fails [] t zero f e = f
  push_fails [] t (suc i) f e = refl
  push_fails (x ∷ ts) t zero f e = e
  push_fails (x ∷ ts) t (suc i) f e = push_fails ts t i f e

  set_fails : (ts : List Task) (k i : ℕ) (t : Task) → test t ≡ false → at ts i ≡ false
      → at (slice_set ts k t) i ≡ false
  set_fails [] k i t f e = e
  set_fails (x ∷ ts) zero zero t f e = f
  set_fails (x ∷ ts) zero (suc i) t f e = e
  set_fails (x ∷ ts) (suc k) zero t f e = e
  set_fails (x ∷ ts) (suc k) (suc i) t f e = set_fails ts k i t f e

  with_fails : (change : Task → Task) (ts : List Task) (k m : ℕ) → ((t : Task) → test (change t) ≡ false)
      → passes test ts m ≡ false → (o : Option Task) → passes test (put_at k (option_map change o) ts) m ≡ false
  with_fails change ts k m f e None = e
  with_fails change ts k m f e (Some t) = set_fails ts k (m - 1) (change t) (f t) e

  with_other : (change : Task → Task) (ts : List Task) (k m : ℕ) → (m - 1 ≡ k → ⊥) → passes test ts m ≡ false
      → (o : Option Task) → passes test (put_at k (option_map change o) ts) m ≡ false
  with_other change ts k m h e None = e
  with_other change ts k m h e (Some t) =
      ap (λ (o : Option Task). unwrap_or (option_map test o) false) (set_other ts k (m - 1) (change t) h) ∙ e

  map_fails : (change : Task → Task) (ts : List Task) (i : ℕ) → ((t : Task) → test t ≡ false → test (change t) ≡ false)
      → at ts i ≡ false → at (map change ts) i ≡ false
  map_fails change [] i f e = e
  map_fails change (t ∷ ts) zero f e = f t e
  map_fails change (t ∷ ts) (suc i) f e = map_fails change ts i f e

pub added_keeps : (ts : List Task) (new : TaskNew) → KeepsGoing ts (added ts new)
added_keeps ts new =
    let t : Task = record { made = new; needs = numbers_of (is_needed new) ts; attempt = 0; state = Waits } in
    record {
      none = λ none m. push_fails is_lost_task ts t (m - 1) refl (none m);
      going = λ n e. push_fails (λ (x : Task). is_end x.state) ts t (n - 1) refl e;
    }

pub started_keeps : (n : ℕ) (ts : List Task) → KeepsGoing ts (started n ts)
started_keeps n ts = record {
  none = λ none m. with_fails is_lost_task (in_state Runs) ts (n - 1) m (λ t. refl) (none m) (task_at ts n);
  going = λ m e. with_fails (λ (x : Task). is_end x.state) (in_state Runs) ts (n - 1) m (λ t. refl) e (task_at ts n);
}

pub revived_keeps : (ts : List Task) → KeepsGoing ts (map revived_task ts)
revived_keeps ts = record {
  none = λ none m. map_fails is_lost_task revived_task ts (m - 1) (λ t e. lost t (is_good t) refl e) (none m);
  going = λ m e. map_fails (λ (x : Task). is_end x.state) revived_task ts (m - 1) (λ t f. going t (is_good t) refl f) e;
}
  where
    lost : (t : Task) (b : Bool) → is_good t ≡ b → is_lost_task t ≡ false → is_lost_task (revived_task t) ≡ false
    lost t true g e = rw g e
    lost t false g e = rw g refl

    going : (t : Task) (b : Bool) → is_good t ≡ b → is_end t.state ≡ false → is_end (revived_task t).state ≡ false
    going t true g e = rw g e
    going t false g e = rw g refl

-- A task ends

abbrev ends : Task → Bool
ends t = is_end t.state

hit_goes_on : (b : Bool) (n : ℕ) (t : Task) → ends t ≡ false → ends (hit_where b n t) ≡ false
hit_goes_on true n t e = refl
hit_goes_on false n t e = e

between : (before ts : List Task) (t u : Task) (i : ℕ) → (ends t ≡ false → ends u ≡ false)
    → at ends (before ++ t ∷ ts) i ≡ false → at ends ((before ++ u ∷ []) ++ ts) i ≡ false
between [] ts t u zero f e = f e
between [] ts t u (suc i) f e = e
between (b ∷ before) ts t u zero f e = e
between (b ∷ before) ts t u (suc i) f e = between before ts t u i f e

behind_goes_on : (n : ℕ) (ts before : List Task) (i : ℕ) → at ends (before ++ ts) i ≡ false
    → at ends (cancelled_behind n before ts) i ≡ false
behind_goes_on n [] before i e = subst (λ (xs : List Task). at ends xs i ≡ false) (nothing before) e
  where
    nothing : (xs : List Task) → xs ++ [] ≡ xs
    nothing [] = refl
    nothing (x ∷ xs) = ap (λ ys. x ∷ ys) (nothing xs)
behind_goes_on n (t ∷ ts) before i e =
    let u = hit_where (is_hit n before t) n t in
    behind_goes_on n ts (before ++ u ∷ []) i
    (between before ts t u i (hit_goes_on (is_hit n before t) n t) e)

judged_goes_on : (b : Bool) (n : ℕ) (ts : List Task) (m : ℕ) → GoesOn ts m → GoesOn (cancelled_if b n ts) m
judged_goes_on true n ts m e = behind_goes_on n ts [] (m - 1) e
judged_goes_on false n ts m e = e

-- another one goes on behind the end of task n
pub other_goes_on : (n code : ℕ) (ts : List Task) (m : ℕ) → 1 ≤ n → 1 ≤ m → (m ≡ n → ⊥) → GoesOn ts m
    → GoesOn (ended n code ts) m
other_goes_on n code ts m o p h e =
    let us = with_task (ended_task code) n ts in
    judged_goes_on (passes is_bad us n) n us m
    (with_other ends (ended_task code) ts (n - 1) m (λ d. h (let is : m ≡ n = omega (arith, o, p, d) in is)) e
    (task_at ts n))

pub ended_keeps : (threads : List Thread) (ts : List Task) (n code : ℕ) (held : List ℕ) → 1 ≤ n
    → AreHeld threads ts held → NoneLost (ended n code ts) → AreHeldBut n threads (ended n code ts) held
ended_keeps threads ts n code held o are none k m h other =
    let is = are k m h in
    record {
      thread = is.thread;
      there = is.there;
      still = still_on ts (ended n code ts) is.thread.status m (other_goes_on n code ts m o h.1 other) (λ lost. none)
          is.still;
    }

-- What is kept changes

-- what is kept of a thread that stays
pub noted_held : (threads : List Thread) (tasks : List Task) (k n : ℕ) (old new : List ℕ)
    → AreHeld threads tasks old → IsNoted k n old new → (1 ≤ n → IsHeld threads tasks k n)
    → AreHeld threads tasks new
noted_held threads tasks k n old new are noted is i m h =
    same_or_not (IsHeld threads tasks i m) i k
    (λ e.
    let here : HasHolder new k m = subst (λ j. HasHolder new j m) e h in
    let same : m ≡ n = noted.here m here in
    subst (λ j. IsHeld threads tasks j m) (sym e)
    (subst (λ x. IsHeld threads tasks k x) (sym same) (is (subst (λ x. 1 ≤ x) same h.1))))
    (λ other. are i m (noted.others i m other h))

pub freed_held : (threads : List Thread) (tasks : List Task) (task : ℕ) (old new : List ℕ)
    → AreHeldBut task threads tasks old → IsFreed task old new → AreHeld threads tasks new
freed_held threads tasks task old new are freed k n h =
    are k n (freed.less k n h) (λ e. freed.none k (subst (HasHolder new k) e h))

pub none_held : (threads : List Thread) (tasks : List Task) → AreHeld threads tasks []
none_held threads tasks k n h = elim (none_some n h.0) [ ]
