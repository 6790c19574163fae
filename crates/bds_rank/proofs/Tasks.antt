-- What is left of tasks, where one starts or ends, or more are made.
use Rattle.std.proofs.Common.{◌≡◌, ◌∙◌, ℕ, zero, suc, ◌+◌, ◌-◌, ◌*◌, ◌<◌, ◌≤◌, Bool, true, false, ◌&&◌, not}
use Rattle.std.proofs.Common.{List, [], ◌∷◌, ◌++◌, length, fold, Some, sym, ap, refl, arith, if◌then◌else◌}
use Rattle.std.proofs.Common.{length-append, append-nil, append_assoc}
use Rattle.std.specs.Option.{option_map}
use Rattle.std.specs.Prelude.{slice_get, slice_set, nat_eq, nat_lt, sum_by}
use Rattle.std.proofs.lemmas.Bool.{and_parts, false≢true, ltb-true}
use Rattle.std.proofs.lemmas.List.Sums.{sum_by-cons, sum_by-append}
use Rattle.bds_value.specs.declared.TheConstants.{MAX_TASKS, MAX_RETRY}
use Rattle.bds_host.specs.Asks.{has}
use Rattle.bds_tasks.specs.declared.task.Task.{Task}
use Rattle.bds_tasks.specs.declared.task.TaskNew.{TaskNew}
use Rattle.bds_tasks.specs.declared.task.TaskState.{TaskState}
use Rattle.bds_tasks.specs.declared.task.TaskState.TheVariants.{Waits, Runs, Ended, Cancelled}
use Rattle.bds_tasks.specs.Ends.{cancelled_behind, cancelled_if, ended, ended_task, hit_where, is_hit}
use Rattle.bds_tasks.specs.Starts.{started, startable}
use Rattle.bds_tasks.specs.Tasks.{added, in_state, is_bad, passes, put_at, running, runs, task_at, waits, with_task}
use Rattle.bds_goal.proofs.MakerLaws.{some_is}
use Rattle.bds_rank.proofs.Numbered.{runs_is, starts_is}
use Rattle.bds_rank.specs.Left.{state_left, task_left, tasks_left}

set_use : (f : Task → ℕ) (ts : List Task) (i : ℕ) (t x : Task) → slice_get ts i ≡ Some t
    → sum_by f (slice_set ts i x) + f t ≡ sum_by f ts + f x
set_use f [] i t x is = absurd (cc is)
set_use f (y ∷ ys) zero t x is =
    let a = sum_by-cons f x ys in
    let b = sum_by-cons f y ys in
    let e : f y ≡ f t = ap f (some_is y t is) in omega arith
set_use f (y ∷ ys) (suc i) t x is =
    let a = sum_by-cons f y (slice_set ys i x) in
    let b = sum_by-cons f y ys in
    let more = set_use f ys i t x is in omega arith

set_long : (ts : List Task) (i : ℕ) (x : Task) → length (slice_set ts i x) ≡ length ts
set_long [] i x = refl
set_long (t ∷ ts) zero x = refl
set_long (t ∷ ts) (suc i) x = ap (λ n. suc n) (set_long ts i x)

-- one task changes
set_left : (ts : List Task) (i : ℕ) (t x : Task) → slice_get ts i ≡ Some t
    → tasks_left (slice_set ts i x) + task_left t ≡ tasks_left ts + task_left x
unfolding tasks_left
set_left ts i t x is =
    let e = set_use task_left ts i t x is in
    let n : (MAX_TASKS - length (slice_set ts i x)) * 2003 ≡ (MAX_TASKS - length ts) * 2003 =
    ap (λ n. (MAX_TASKS - n) * 2003) (set_long ts i x) in omega arith

with_is : (change : Task → Task) (ts : List Task) (n : ℕ) (t : Task) → task_at ts n ≡ Some t
    → with_task change n ts ≡ slice_set ts (n - 1) (change t)
with_is change ts n t there = ap (λ o. put_at (n - 1) (option_map change o) ts) there

-- a start
waiting_left : (n : ℕ) (s : TaskState) → waits s ≡ true → state_left n s ≡ 2 * n + 2
waiting_left n Waits is = refl
waiting_left n Runs is = absurd (false≢true is)
waiting_left n (Ended code) is = absurd (false≢true is)
waiting_left n (Cancelled m) is = absurd (false≢true is)

running_left : (n : ℕ) (s : TaskState) → runs s ≡ true → state_left n s ≡ 2 * n + 1
running_left n Waits is = absurd (false≢true is)
running_left n Runs is = refl
running_left n (Ended code) is = absurd (false≢true is)
running_left n (Cancelled m) is = absurd (false≢true is)

pub started_left : (cpus n : ℕ) (ts : List Task) → startable cpus ts ≡ Some n
    → tasks_left (started n ts) < tasks_left ts
started_left cpus n ts next =
    let h = starts_is cpus ts n next in
    let set : tasks_left (started n ts) ≡ tasks_left (slice_set ts (n - 1) (in_state Runs h.task)) =
    ap tasks_left (with_is (in_state Runs) ts n h.task h.there) in
    let is = set_left ts (n - 1) h.task (in_state Runs h.task) h.there in
    let before : task_left h.task ≡ 2 * (h.task.made.retry - h.task.attempt) + 2 =
    waiting_left (h.task.made.retry - h.task.attempt) h.task.state
    ((and_parts (waits h.task.state) _ h.passed).0) in
    let behind : task_left (in_state Runs h.task) ≡ 2 * (h.task.made.retry - h.task.attempt) + 1 = refl in omega arith

-- an end: the task waits again with one attempt less, or has ended
abbrev end_by : Bool → ℕ → Task → Task
end_by b code t =
    if b then record { made = t.made; needs = t.needs; attempt = t.attempt + 1; state = Waits } else in_state
    (Ended code) t

end_left : (code : ℕ) (t : Task) → runs t.state ≡ true → task_left (ended_task code t) < task_left t
end_left code t is = go (not (nat_eq code 0) && nat_lt t.attempt t.made.retry) refl
  where
    go : (b : Bool) → (not (nat_eq code 0) && nat_lt t.attempt t.made.retry) ≡ b
        → task_left (end_by b code t) < task_left t
    go true again =
        let few : t.attempt < t.made.retry =
        ltb-true t.attempt t.made.retry
        ((and_parts (not (nat_eq code 0)) (nat_lt t.attempt t.made.retry) again).1) in
        let before : task_left t ≡ 2 * (t.made.retry - t.attempt) + 1 =
        running_left (t.made.retry - t.attempt) t.state is in
        let behind : task_left (end_by true code t) ≡ 2 * (t.made.retry - (t.attempt + 1)) + 2 = refl in omega arith
    go false other =
        let before : task_left t ≡ 2 * (t.made.retry - t.attempt) + 1 =
        running_left (t.made.retry - t.attempt) t.state is in
        let behind : task_left (end_by false code t) ≡ 0 = refl in omega arith

-- and those that it cancels have nothing left
hit_left : (n : ℕ) (hit : Bool) (t : Task) → task_left (hit_where hit n t) ≤ task_left t
hit_left n true t = let none : task_left (in_state (Cancelled n) t) ≡ 0 = refl in omega arith
hit_left n false t = omega arith

replaced_left : (before ts : List Task) (t u : Task) → task_left u ≤ task_left t
    → tasks_left (before ++ u ∷ ts) ≤ tasks_left (before ++ t ∷ ts)
unfolding tasks_left
replaced_left before ts t u less =
    let a = sum_by-append task_left before (u ∷ ts) in
    let b = sum_by-append task_left before (t ∷ ts) in
    let c = sum_by-cons task_left u ts in
    let d = sum_by-cons task_left t ts in
    let e : (MAX_TASKS - length (before ++ u ∷ ts)) * 2003 ≡ (MAX_TASKS - length (before ++ t ∷ ts)) * 2003 =
    ap (λ n. (MAX_TASKS - n) * 2003)
    (length-append before (u ∷ ts) ∙ sym (length-append before (t ∷ ts))) in omega arith

cancelled_left : (n : ℕ) (before ts : List Task)
    → tasks_left (cancelled_behind n before ts) ≤ tasks_left (before ++ ts)
cancelled_left n before [] =
    let e : tasks_left (before ++ []) ≡ tasks_left before = ap tasks_left (append-nil before) in omega arith
cancelled_left n before (t ∷ ts) =
    let u : Task = hit_where (is_hit n before t) n t in
    let one = replaced_left before ts t u (hit_left n (is_hit n before t) t) in
    let same : tasks_left ((before ++ u ∷ []) ++ ts) ≡ tasks_left (before ++ u ∷ ts) =
    ap tasks_left (append_assoc before (u ∷ []) ts) in
    let more = cancelled_left n (before ++ u ∷ []) ts in omega arith

cancelled_if_left : (bad : Bool) (n : ℕ) (ts : List Task) → tasks_left (cancelled_if bad n ts) ≤ tasks_left ts
cancelled_if_left true n ts = cancelled_left n [] ts
cancelled_if_left false n ts = omega arith

pub ended_left : (n code : ℕ) (ts : List Task) → has (running ts) n ≡ true
    → tasks_left (ended n code ts) < tasks_left ts
ended_left n code ts runs_now =
    let h = runs_is ts n runs_now in
    let now : List Task = with_task (ended_task code) n ts in
    let set : tasks_left now ≡ tasks_left (slice_set ts (n - 1) (ended_task code h.task)) =
    ap tasks_left (with_is (ended_task code) ts n h.task h.there) in
    let is = set_left ts (n - 1) h.task (ended_task code h.task) h.there in
    let less = end_left code h.task h.passed in
    let more : tasks_left (ended n code ts) ≤ tasks_left now =
    cancelled_if_left (passes is_bad now n) n now in omega arith

-- one task more
pub added_left : (ts : List Task) (new : TaskNew) → length ts < MAX_TASKS → new.retry ≤ MAX_RETRY
    → tasks_left (added ts new) < tasks_left ts
unfolding tasks_left
added_left ts new room few =
    let t : Task = record { made = new; needs = _; attempt = 0; state = Waits } in
    let a = sum_by-append task_left ts (t ∷ []) in
    let b = sum_by-cons task_left t [] in
    let c : task_left t ≡ 2 * (new.retry - 0) + 2 = refl in
    let none : sum_by task_left [] ≡ 0 = refl in
    let n : length (added ts new) ≡ length ts + 1 = length-append ts (t ∷ []) in
    let less : (MAX_TASKS - length (added ts new)) + 1 ≡ MAX_TASKS - length ts = omega arith in omega arith

-- and several
pub planned_left : (make : ℕ → TaskNew) → ((n : ℕ) → (make n).retry ≤ MAX_RETRY) → (rules : List ℕ) (ts : List Task)
    → length ts + length rules ≤ MAX_TASKS
    → tasks_left (fold (λ tasks r. added tasks (make r)) ts rules) ≤ tasks_left ts
planned_left make few [] ts room = omega arith
planned_left make few (r ∷ rules) ts room =
    let here : length ts + suc (length rules) ≤ MAX_TASKS = room in
    let long : length (added ts (make r)) ≡ length ts + 1 =
    length-append ts (record { made = make r; needs = _; attempt = 0; state = Waits } ∷ []) in
    let one = added_left ts (make r) (omega arith) (few r) in
    let rest = planned_left make few rules (added ts (make r)) (omega arith) in omega arith
