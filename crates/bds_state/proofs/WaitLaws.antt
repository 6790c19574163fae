-- A wait is over where that of its tasks is settled.
use Rattle.std.proofs.Common.{◌≡◌, ◌-◌, ◌≤◌, ℕ, Bool, true, false, not, ◌&&◌, ◌||◌, List, [], ◌∷◌, length, cond, filter}
use Rattle.std.proofs.Common.{min, Option, Some, None, refl, sym, ap, ◌∙◌, arith}
use Rattle.std.proofs.lemmas.Bool.{false≢true}
use Rattle.std.proofs.lemmas.List.Elements.{recursion_from_All}
use Rattle.std.specs.List.{AllByRecursion, list_all, list_any, reduce}
use Rattle.std.specs.Option.{is_some, option_map, unwrap_or}
use Rattle.bds_value.specs.declared.ids.Id.{Id}
use Rattle.bds_value.specs.declared.ids.Id.TheVariants as id
use Rattle.bds_code_frames.specs.declared.thread.Thread.{Thread}
use Rattle.bds_tasks.specs.declared.task.Task.{Task}
use Rattle.bds_tasks.specs.declared.task.TaskState.{TaskState}
use Rattle.bds_tasks.specs.declared.task.TaskState.TheVariants.{Waits, Runs, Ended, Cancelled}
use Rattle.bds_tasks.specs.Tasks.{is_bad, is_ill, is_pending, passes, runs, task_at, waits}
use Rattle.bds_tasks.specs.Waits.{blamed, canceller, is_cancelled, is_cancelled_in, judged, wait_state}
use Rattle.bds_state.specs.Ready.{is_end, is_lost, names_ended, names_lost, thread_ended}
use Rattle.bds_state.specs.Valid.{IsThere}
use Rattle.bds_state.specs.Waited.{WaitsAreSettled, is_settled, tasks_in, threads_in}
use Rattle.bds_state.proofs.Places.{there_within}

or_true : (a : Bool) → a || true ≡ true
or_true true = refl
or_true false = refl

or_turned : (a b c d : Bool) → (a || b) || (c || d) ≡ (a || c) || (b || d)
or_turned true b c d = refl
or_turned false true c d = sym (or_true c)
or_turned false false c d = refl

and_turned : (a b c : Bool) → a && (b && c) ≡ b && (a && c)
and_turned true b c = refl
and_turned false true c = refl
and_turned false false c = refl

not_either : (a b c : Bool) → not a && (not b && c) ≡ not (a || b) && c
not_either true b c = refl
not_either false b c = refl

left_false : (a b : Bool) → a || b ≡ false → a ≡ false
left_false true b e = e
left_false false b e = refl

right_false : (a b : Bool) → a || b ≡ false → b ≡ false
right_false true b e = elim (false≢true (sym e)) [ ]
right_false false b e = e

-- The least of those that pass

least_next : (p : ℕ → Bool) (n : ℕ) (ns : List ℕ) (b : Bool) → is_some (reduce min (filter p ns)) ≡ list_any p ns
    → is_some (reduce min (cond b (n ∷ filter p ns) (filter p ns))) ≡ b || list_any p ns
least_next p n ns true others = refl
least_next p n ns false others = others

least_some : (p : ℕ → Bool) (ns : List ℕ) → is_some (reduce min (filter p ns)) ≡ list_any p ns
least_some p [] = refl
least_some p (n ∷ ns) = least_next p n ns (p n) (least_some p ns)

blamed_some : (ts : List Task) (b c : Option ℕ) → is_some (blamed ts b c) ≡ is_some b || is_some c
blamed_some ts (Some n) c = refl
blamed_some ts None (Some n) = refl
blamed_some ts None None = refl

judged_settled : (ts : List Task) (ended : Bool) (o : Option ℕ) (pending : Bool)
    → is_settled ended (judged ts o pending) ≡ is_some o || (not pending && ended)
judged_settled ts ended (Some n) pending = refl
judged_settled ts ended None true = refl
judged_settled ts ended None false = refl

-- Lost tasks

either_passes : (p q : Task → Bool) (o : Option Task)
    → unwrap_or (option_map (λ t. p t || q t) o) false ≡ unwrap_or (option_map p o) false || unwrap_or (option_map q o)
    false
either_passes p q None = refl
either_passes p q (Some t) = refl

any_either : (ts : List Task) (ns : List ℕ)
    → list_any (passes is_lost ts) ns ≡ list_any (passes is_bad ts) ns || list_any (passes is_cancelled ts) ns
any_either ts [] = refl
any_either ts (n ∷ ns) =
    ap (λ a. a || list_any (passes is_lost ts) ns) (either_passes is_bad is_cancelled (task_at ts n))
    ∙ ap (λ a. (passes is_bad ts n || passes is_cancelled ts n) || a) (any_either ts ns)
    ∙ or_turned (passes is_bad ts n) (passes is_cancelled ts n) (list_any (passes is_bad ts) ns)
    (list_any (passes is_cancelled ts) ns)

tasks_settled : (ts : List Task) (ns : List ℕ) (ended : Bool)
    → is_settled ended (wait_state ts ns) ≡ list_any (passes is_lost ts) ns ||
    (not (list_any (passes is_pending ts) ns) && ended)
tasks_settled ts ns ended =
    let b = reduce min (filter (passes is_bad ts) ns) in
    let c = reduce min (filter (passes is_cancelled ts) ns) in
    let rest = not (list_any (passes is_pending ts) ns) && ended in
    judged_settled ts ended (blamed ts b c) (list_any (passes is_pending ts) ns)
    ∙ ap (λ a. a || rest) (blamed_some ts b c)
    ∙ ap (λ a. (a || is_some c) || rest) (least_some (passes is_bad ts) ns)
    ∙ ap (λ a. (list_any (passes is_bad ts) ns || a) || rest) (least_some (passes is_cancelled ts) ns)
    ∙ ap (λ a. a || rest) (sym (any_either ts ns))

lost_in : (ts : List Task) (ids : List Id) → list_any (names_lost ts) ids ≡ list_any (passes is_lost ts) (tasks_in ids)
lost_in ts [] = refl
lost_in ts (id.Task n ∷ ids) = ap (λ a. passes is_lost ts n || a) (lost_in ts ids)
lost_in ts (id.Thread n ∷ ids) = lost_in ts ids

-- Where none is lost

end_or_pending : (can_fail : Bool) (s : TaskState) → is_ill can_fail s || is_cancelled_in (canceller s) ≡ false
    → is_end s ≡ not (waits s || runs s)
end_or_pending can_fail Waits e = refl
end_or_pending can_fail Runs e = refl
end_or_pending can_fail (Ended code) e = refl
end_or_pending can_fail (Cancelled n) e = elim (false≢true (sym e)) [ ]

ended_at : (o : Option Task) (t : Task) → o ≡ Some t → unwrap_or (option_map is_lost o) false ≡ false
    → unwrap_or (option_map (λ (x : Task). is_end x.state) o) false ≡ not (unwrap_or (option_map is_pending o) false)
ended_at None t e lost = absurd (cc)
ended_at (Some x) t e lost = end_or_pending x.made.can_fail x.state lost

task_ended : (ts : List Task) (n : ℕ) → (1 ≤ n) × (n ≤ length ts) → passes is_lost ts n ≡ false
    → passes (λ t. is_end t.state) ts n ≡ not (passes is_pending ts n)
task_ended ts n there lost =
    let first : 1 ≤ n = there.0 in
    let last : n ≤ length ts = there.1 in
    let x = there_within ts (n - 1) (omega (arith, first, last)) in
    ended_at (task_at ts n) x.0 x.1 lost

all_ended : (threads : List Thread) (ts : List Task) (ids : List Id)
    → AllByRecursion (IsThere (length ts) (length threads)) ids → list_any (passes is_lost ts) (tasks_in ids) ≡ false
    → list_all (names_ended threads ts) ids ≡ not (list_any (passes is_pending ts) (tasks_in ids)) && list_all
    (thread_ended threads) (threads_in ids)
all_ended threads ts [] a e = refl
all_ended threads ts (id.Task n ∷ ids) a e =
    let here = left_false (passes is_lost ts n) (list_any (passes is_lost ts) (tasks_in ids)) e in
    let rest = right_false (passes is_lost ts n) (list_any (passes is_lost ts) (tasks_in ids)) e in
    ap (λ b. b && list_all (names_ended threads ts) ids) (task_ended ts n a.0 here)
    ∙ ap (λ b. not (passes is_pending ts n) && b) (all_ended threads ts ids a.1 rest)
    ∙ not_either (passes is_pending ts n) (list_any (passes is_pending ts) (tasks_in ids))
    (list_all (thread_ended threads) (threads_in ids))
all_ended threads ts (id.Thread n ∷ ids) a e =
    ap (λ b. thread_ended threads n && b) (all_ended threads ts ids a.1 e)
    ∙ and_turned (thread_ended threads n) (not (list_any (passes is_pending ts) (tasks_in ids)))
    (list_all (thread_ended threads) (threads_in ids))

over_by : (lost all ended pending : Bool) → (lost ≡ false → all ≡ not pending && ended)
    → lost || all ≡ lost || (not pending && ended)
over_by true all ended pending f = refl
over_by false all ended pending f = f refl

pub waits_settled : WaitsAreSettled
waits_settled threads ts ids there =
    let lost = list_any (passes is_lost ts) (tasks_in ids) in
    let ended = list_all (thread_ended threads) (threads_in ids) in
    ap (λ a. a || list_all (names_ended threads ts) ids) (lost_in ts ids)
    ∙ over_by lost (list_all (names_ended threads ts) ids) ended (list_any (passes is_pending ts) (tasks_in ids))
    (all_ended threads ts ids (recursion_from_All (IsThere (length ts) (length threads)) ids there))
    ∙ sym (tasks_settled ts (tasks_in ids) ended)
