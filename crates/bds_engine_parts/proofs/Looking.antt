-- What is told of a state is what the schedule asks of its configuration.
use Rattle.std.proofs.Common.{◌≡◌, ℕ, zero, suc, ◌+◌, Bool, true, false, List, [], ◌∷◌, ◌++◌, length, map, Some, slice_get, refl, sym, ap, ◌∙◌}
use Rattle.std.specs.Prelude.{◌&&◌, nat_eq}
use Rattle.std.specs.List.{All, list_all}
use Rattle.bds_value.specs.declared.ids.Id.{Id}
use Rattle.bds_value.specs.declared.ids.Id.TheVariants as id
use Rattle.bds_value.specs.declared.ids.Status.{Status}
use Rattle.bds_value.specs.declared.ids.Status.TheVariants as status
use Rattle.bds_code_frames.specs.declared.frame.Frame.{Frame}
use Rattle.bds_code_frames.specs.declared.thread.Thread.{Thread}
use Rattle.bds_tasks.specs.declared.task.Waited.{Waited}
use Rattle.bds_tasks.specs.declared.task.Waited.TheVariants.{Not, Well, Failed}
use Rattle.bds_tasks.specs.Tasks.{one_where, made_by as tasks_made_by}
use Rattle.bds_tasks.specs.Waits.{wait_state as tasks_waited}
use Rattle.bds_schedule.specs.Configuration.{Mode}
use Rattle.bds_schedule.specs.Ids.{of_task, of_thread}
use Rattle.bds_schedule.specs.Ids as names
use Rattle.bds_schedule.specs.Waiting.{with_ended, has_ended, is_at_end, is_ready_in, threads_from, threads_behind}
use Rattle.bds_schedule.specs.Waiting as schedule
use Rattle.bds_sim.specs.Threads as sim
use Rattle.bds_sim.specs.MachineRun.{State}
use Rattle.bds_state.specs.MadeBy.{made_by, threads_made_by}
use Rattle.bds_state.specs.Parts.{Parts}
use Rattle.bds_state.specs.Ready.{is_last, is_over, is_ready, numbers_from, thread_ended}
use Rattle.bds_state.specs.Valid.{AreThere, IsThere, IsValid}
use Rattle.bds_state.specs.Waited.{is_settled, tasks_in, threads_in}
use Rattle.bds_state.proofs.WaitLaws.{waits_settled}
use Rattle.bds_engine_parts.specs.Look.{LooksSame, all_ended, waited}
use Rattle.bds_engine_parts.specs.Seen.{id_seen, code_seen, waiting_seen, life_seen, thread_seen, seen}

waiting_on : (fs : List Frame) (ids : List names.Id) (m : sim.Parts) → is_at_end (waiting_seen fs ids m) ≡ false
waiting_on [] ids m = refl
waiting_on (f ∷ fs) ids m = refl

last_is : (s : Status) (t : Thread) → is_at_end (life_seen s t) ≡ is_last s
last_is status.Ready t = refl
last_is (status.Waiting ids) t = waiting_on t.frames (map id_seen ids) (code_seen t)
last_is status.Ended t = refl

ended_all : (ts : List Thread) → list_all has_ended (map thread_seen ts) ≡ all_ended ts
ended_all [] = refl
ended_all (t ∷ ts) = ap (λ b. b && list_all has_ended (map thread_seen ts)) (last_is t.status t) ∙ ap (λ b. is_last t.status && b) (ended_all ts)

one_ended : (ts : List Thread) (k : ℕ) → schedule.thread_ended (map thread_seen ts) k ≡ thread_ended ts k
one_ended [] k = refl
one_ended (t ∷ ts) zero = last_is t.status t
one_ended (t ∷ ts) (suc k) = one_ended ts k

tasks_are : (ids : List Id) → names.tasks_in (map id_seen ids) ≡ tasks_in ids
tasks_are [] = refl
tasks_are (id.Task n ∷ ids) = ap (λ ns. n ∷ ns) (tasks_are ids)
tasks_are (id.Thread n ∷ ids) = tasks_are ids

threads_are : (ids : List Id) → names.threads_in (map id_seen ids) ≡ threads_in ids
threads_are [] = refl
threads_are (id.Task n ∷ ids) = threads_are ids
threads_are (id.Thread n ∷ ids) = ap (λ ns. n ∷ ns) (threads_are ids)

same_all : (P Q : ℕ → Bool) → ((n : ℕ) → P n ≡ Q n) → (ns : List ℕ) → list_all P ns ≡ list_all Q ns
same_all P Q e [] = refl
same_all P Q e (n ∷ ns) = ap (λ b. b && list_all P ns) (e n) ∙ ap (λ b. Q n && b) (same_all P Q e ns)

settled : (b : Bool) (w : Waited) → schedule.is_over (with_ended b w) ≡ is_settled b w
settled true Not = refl
settled true Well = refl
settled true (Failed n code) = refl
settled false Not = refl
settled false Well = refl
settled false (Failed n code) = refl

module _ (s : Parts) (cpus budget used : ℕ) (mode : Mode) where
  abbrev here : State
  here = seen s cpus budget used mode

  wait_is : (ids : List Id) → schedule.wait_state here (map id_seen ids) ≡ waited s.threads s.tasks ids
  wait_is ids =
      ap (λ ns. with_ended (list_all (schedule.thread_ended (map thread_seen s.threads)) ns) (tasks_waited s.tasks (names.tasks_in (map id_seen ids)))) (threads_are ids)
      ∙ ap (λ b. with_ended b (tasks_waited s.tasks (names.tasks_in (map id_seen ids)))) (same_all (schedule.thread_ended (map thread_seen s.threads)) (thread_ended s.threads) (one_ended s.threads) (threads_in ids))
      ∙ ap (λ ns. with_ended (list_all (thread_ended s.threads) (threads_in ids)) (tasks_waited s.tasks ns)) (tasks_are ids)

  over_is : (ids : List Id) → All (IsThere (length s.tasks) (length s.threads)) ids → schedule.is_over (schedule.wait_state here (map id_seen ids)) ≡ is_over s.threads s.tasks ids
  over_is ids there =
      ap schedule.is_over (wait_is ids)
      ∙ settled (list_all (thread_ended s.threads) (threads_in ids)) (tasks_waited s.tasks (tasks_in ids))
      ∙ sym (waits_settled s.threads s.tasks ids there)

  waiting_ready : (ids : List Id) (fs : List Frame) (m : sim.Parts) → All (IsThere (length s.tasks) (length s.threads)) ids → is_ready_in here (waiting_seen fs (map id_seen ids) m) ≡ is_over s.threads s.tasks ids
  waiting_ready ids [] m there = over_is ids there
  waiting_ready ids (f ∷ fs) m there = over_is ids there

  ready_one : (x : Status) (t : Thread) → AreThere (length s.tasks) (length s.threads) x → is_ready_in here (life_seen x t) ≡ is_ready s.threads s.tasks x
  ready_one status.Ready t there = refl
  ready_one (status.Waiting ids) t there = waiting_ready ids t.frames (code_seen t) there
  ready_one status.Ended t there = refl

  ready_from : (n : ℕ) (ts : List Thread) → ((i : ℕ) (t : Thread) → slice_get ts i ≡ Some t → AreThere (length s.tasks) (length s.threads) t.status)
      → threads_from n (λ t. is_ready_in here t.life) (map thread_seen ts) ≡ numbers_from n (λ t. is_ready s.threads s.tasks t.status) ts
  ready_from n [] there = refl
  ready_from n (t ∷ ts) there =
      ap (λ b. one_where b n ++ threads_from (n + 1) (λ t. is_ready_in here t.life) (map thread_seen ts)) (ready_one t.status t (there zero t refl))
      ∙ ap (λ ns. one_where (is_ready s.threads s.tasks t.status) n ++ ns) (ready_from (n + 1) ts (λ i x e. there (suc i) x e))

  made_from : (n k : ℕ) (ts : List Thread) → threads_from n (λ t. nat_eq t.parent k) (map thread_seen ts) ≡ numbers_from n (λ t. nat_eq t.parent k) ts
  made_from n k [] = refl
  made_from n k (t ∷ ts) = ap (λ ns. one_where (nat_eq t.parent k) n ++ ns) (made_from (n + 1) k ts)

  made_behind : (k : ℕ) (ts : List Thread) → threads_behind k (map thread_seen ts) ≡ threads_made_by k ts
  made_behind k [] = refl
  made_behind k (t ∷ ts) = made_from 1 k ts

  tasks_seen : (ns : List ℕ) → map of_task ns ≡ map id_seen (map id.Task ns)
  tasks_seen [] = refl
  tasks_seen (n ∷ ns) = ap (λ is. of_task n ∷ is) (tasks_seen ns)

  threads_seen : (ns : List ℕ) → map of_thread ns ≡ map id_seen (map id.Thread ns)
  threads_seen [] = refl
  threads_seen (n ∷ ns) = ap (λ is. of_thread n ∷ is) (threads_seen ns)

  both_seen : (xs ys : List Id) → map id_seen xs ++ map id_seen ys ≡ map id_seen (xs ++ ys)
  both_seen [] ys = refl
  both_seen (x ∷ xs) ys = ap (λ is. id_seen x ∷ is) (both_seen xs ys)

  made_is : (k : ℕ) → schedule.made_by here k ≡ map id_seen (made_by k s)
  made_is k =
      ap (λ ns. map of_task (tasks_made_by k s.tasks) ++ map of_thread ns) (made_behind k s.threads)
      ∙ ap (λ is. is ++ map of_thread (threads_made_by k s.threads)) (tasks_seen (tasks_made_by k s.tasks))
      ∙ ap (λ is. map id_seen (map id.Task (tasks_made_by k s.tasks)) ++ is) (threads_seen (threads_made_by k s.threads))
      ∙ both_seen (map id.Task (tasks_made_by k s.tasks)) (map id.Thread (threads_made_by k s.threads))

  pub looks_same : IsValid s → LooksSame s cpus budget used mode
  looks_same v = record {
    ready_is = ready_from 0 s.threads (λ i t e. (v.threads.each i t e).ids);
    ended_is = ended_all s.threads;
    wait_is = wait_is;
    made_is = made_is;
  }
