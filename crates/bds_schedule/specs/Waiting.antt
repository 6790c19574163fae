-- Which threads are ready, and what a wait has come to.
use Rattle.std.specs.Prelude.{ℕ, ◌+◌, Bool, true, false, List, [], ◌∷◌, ◌++◌, nat_eq, map, option_map, unwrap_or, slice_get}
use Rattle.std.specs.List.{list_all}
use Rattle.bds_tasks.specs.declared.task.Waited.{Waited}
use Rattle.bds_tasks.specs.declared.task.Waited.TheVariants.{Not, Well}
use Rattle.bds_tasks.specs.Tasks.{one_where, made_by as tasks_made_by}
use Rattle.bds_tasks.specs.Waits.{wait_state as tasks_waited}
use Rattle.bds_schedule.specs.Configuration.{Life, Ready, Waits, Closes, Ended, Thread, Configuration}
use Rattle.bds_schedule.specs.Ids.{Id, of_task, of_thread, tasks_in, threads_in}

-- with threads that have ended, all of them or not
abbrev pub with_ended : Bool → Waited → Waited
with_ended false Well = Not
with_ended all w = w

-- a wait is over that has failed, or that has nothing left to wait for
abbrev pub is_over : Waited → Bool
is_over Not = false
is_over _ = true

module _ {S : Type 0} where
  abbrev pub is_at_end : Life S → Bool
  is_at_end Ended = true
  is_at_end _ = false

  abbrev pub has_ended : Thread S → Bool
  has_ended t = is_at_end t.life

  abbrev pub thread_ended : List (Thread S) → ℕ → Bool
  thread_ended ts k = unwrap_or (option_map has_ended (slice_get ts k)) false

  -- what a wait on ids has come to
  abbrev pub wait_state : Configuration S → List Id → Waited
  wait_state c ids = with_ended (list_all (thread_ended c.threads) (threads_in ids)) (tasks_waited c.tasks (tasks_in ids))

  abbrev pub is_ready_in : Configuration S → Life S → Bool
  is_ready_in c (Ready s) = true
  is_ready_in c (Waits ids s) = is_over (wait_state c ids)
  is_ready_in c (Closes ids s) = is_over (wait_state c ids)
  is_ready_in c Ended = false

  -- the numbers of the threads that pass a test, where the first has this number
  abbrev pub threads_from : ℕ → (Thread S → Bool) → List (Thread S) → List ℕ
  threads_from n test [] = []
  threads_from n test (t ∷ ts) = one_where (test t) n ++ threads_from (n + 1) test ts

  -- the ready threads, in rising order
  abbrev pub ready : Configuration S → List ℕ
  ready c = threads_from 0 (λ t. is_ready_in c t.life) c.threads

  abbrev pub all_ended : Configuration S → Bool
  all_ended c = list_all has_ended c.threads

  -- the threads behind the main one that a thread made, in rising order
  abbrev pub threads_behind : ℕ → List (Thread S) → List ℕ
  threads_behind k [] = []
  threads_behind k (main ∷ ts) = threads_from 1 (λ t. nat_eq t.parent k) ts

  -- all tasks and threads that a thread made, the tasks first
  abbrev pub made_by : Configuration S → ℕ → List Id
  made_by c k = map of_task (tasks_made_by k c.tasks) ++ map of_thread (threads_behind k c.threads)
