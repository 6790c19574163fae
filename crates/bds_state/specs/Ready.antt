-- Which threads are ready, and when a wait is over.
use Rattle.std.specs.Prelude.{◌≡◌, ℕ, ◌+◌, Bool, true, false, ◌||◌, List, [], ◌∷◌, ◌++◌, Option, Some, None, filter}
use Rattle.std.specs.Prelude.{nat_lt, option_map, unwrap_or, slice_get}
use Rattle.std.specs.List.{list_any, list_all}
use Rattle.bds_value.specs.declared.ids.Id.{Id}
use Rattle.bds_value.specs.declared.ids.Id.TheVariants as id
use Rattle.bds_value.specs.declared.ids.Status.{Status}
use Rattle.bds_value.specs.declared.ids.Status.TheVariants as status
use Rattle.bds_code_frames.specs.declared.thread.Thread.{Thread}
use Rattle.bds_state.specs.Parts.{Parts}
use Rattle.bds_tasks.specs.declared.task.Task.{Task}
use Rattle.bds_tasks.specs.declared.task.TaskState.{TaskState}
use Rattle.bds_tasks.specs.declared.task.TaskState.TheVariants as task
use Rattle.bds_tasks.specs.Starts.{first}
use Rattle.bds_tasks.specs.Tasks.{is_bad, one_where, passes}
use Rattle.bds_tasks.specs.Waits.{is_cancelled}

-- it ended badly or was cancelled
abbrev pub is_lost : Task → Bool
is_lost t = is_bad t || is_cancelled t

abbrev pub is_end : TaskState → Bool
is_end (task.Ended code) = true
is_end _ = false

abbrev pub is_last : Status → Bool
is_last status.Ended = true
is_last status.Ready = false
is_last (status.Waiting ids) = false

abbrev pub thread_ended : List Thread → ℕ → Bool
thread_ended threads n = unwrap_or (option_map (λ (t : Thread). is_last t.status) (slice_get threads n)) false

-- the task of an id is lost
abbrev pub names_lost : List Task → Id → Bool
names_lost tasks (id.Task n) = passes is_lost tasks n
names_lost tasks (id.Thread n) = false

module _ (threads : List Thread) (tasks : List Task) where
  -- the task or thread of an id has ended
  abbrev pub names_ended : Id → Bool
  names_ended (id.Task n) = passes (λ t. is_end t.state) tasks n
  names_ended (id.Thread n) = thread_ended threads n

  -- one of the tasks is lost, or all tasks and threads have ended
  abbrev pub is_over : List Id → Bool
  is_over ids = list_any (names_lost tasks) ids || list_all names_ended ids

  -- it doesn't wait and hasn't ended, or it waits and its wait is over
  abbrev pub is_ready : Status → Bool
  is_ready status.Ready = true
  is_ready (status.Waiting ids) = is_over ids
  is_ready status.Ended = false

-- the numbers of the threads that pass a test, where the first has this number
abbrev pub numbers_from : ℕ → (Thread → Bool) → List Thread → List ℕ
numbers_from n test [] = []
numbers_from n test (t ∷ ts) = one_where (test t) n ++ numbers_from (n + 1) test ts

-- the ready threads, in rising order
abbrev pub ready : List Thread → List Task → List ℕ
ready threads tasks = numbers_from 0 (λ t. is_ready threads tasks t.status) threads

abbrev pub is_above : Option ℕ → ℕ → Bool
is_above None n = true
is_above (Some after) n = nat_lt after n

-- the least ready thread above one, where one is given
abbrev pub next_ready : Option ℕ → Parts → Option ℕ
next_ready after s = first (filter (is_above after) (ready s.threads s.tasks))

-- asked for one after the other, the ready threads come in their order
pub record FindsReady (s : Parts) : Type 0 where
  pub start : next_ready None s ≡ first (ready s.threads s.tasks)
  pub next : (before rest : List ℕ) (k : ℕ) → ready s.threads s.tasks ≡ before ++ k ∷ rest
      → next_ready (Some k) s ≡ first rest
