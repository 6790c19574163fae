-- A wait by what has come of its tasks and of its threads.
use Rattle.std.specs.Prelude.{◌≡◌, ℕ, Bool, true, false, List, length, Option, Some, None, filter_map}
use Rattle.std.specs.List.{All, list_all}
use Rattle.bds_value.specs.declared.ids.Id.{Id}
use Rattle.bds_value.specs.declared.ids.Id.TheVariants as id
use Rattle.bds_code_frames.specs.declared.thread.Thread.{Thread}
use Rattle.bds_state.specs.Ready.{is_over, thread_ended}
use Rattle.bds_state.specs.Valid.{IsThere}
use Rattle.bds_tasks.specs.declared.task.Task.{Task}
use Rattle.bds_tasks.specs.declared.task.Waited.{Waited}
use Rattle.bds_tasks.specs.declared.task.Waited.TheVariants.{Not, Well, Failed}
use Rattle.bds_tasks.specs.Waits.{wait_state}

abbrev pub task_in : Id → Option ℕ
task_in (id.Task n) = Some n
task_in (id.Thread n) = None

abbrev pub thread_in : Id → Option ℕ
thread_in (id.Task n) = None
thread_in (id.Thread n) = Some n

-- the tasks and the threads among ids
abbrev pub tasks_in : List Id → List ℕ
tasks_in ids = filter_map task_in ids

abbrev pub threads_in : List Id → List ℕ
threads_in ids = filter_map thread_in ids

-- one that failed is over, and one that went well where its threads have ended too
abbrev pub is_settled : Bool → Waited → Bool
is_settled ended (Failed n code) = true
is_settled ended Well = ended
is_settled ended Not = false

-- a wait for ids that are there is over where that of its tasks is settled
abbrev pub WaitsAreSettled : Type 0
WaitsAreSettled =
    (threads : List Thread) (tasks : List Task) (ids : List Id) → All (IsThere (length tasks) (length threads)) ids
    → is_over threads tasks ids ≡ is_settled (list_all (thread_ended threads) (threads_in ids))
    (wait_state tasks (tasks_in ids))
