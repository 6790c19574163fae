-- How much of a run is left: a number that each move lessens, but for a stamp that is asked for.
use Rattle.std.specs.Prelude.{ℕ, ◌+◌, ◌-◌, ◌*◌, List, length, sum_by}
use Rattle.bds_value.specs.declared.TheConstants.{MAX_THREADS, MAX_TASKS}
use Rattle.bds_tasks.specs.declared.task.Task.{Task}
use Rattle.bds_tasks.specs.declared.task.TaskState.{TaskState}
use Rattle.bds_tasks.specs.declared.task.TaskState.TheVariants as task
use Rattle.bds_schedule.specs.Configuration.{Life, Ready, Waits, Closes, Ended, Thread, Configuration, Mode, at_point}
use Rattle.bds_schedule.specs.Configuration.{turn_of, stopping, saving, faulted, fault_told, done}

-- a start and an end for each attempt that is left
abbrev pub state_left : ℕ → TaskState → ℕ
state_left n task.Waits = 2 * n + 2
state_left n task.Runs = 2 * n + 1
state_left n (task.Ended code) = 0
state_left n (task.Cancelled m) = 0

abbrev pub task_left : Task → ℕ
task_left t = state_left (t.made.retry - t.attempt) t.state

-- and 2003 for each one that may be made still, which is more than a new one has: it may be tried again 1,000 times
unfoldable pub tasks_left : List Task → ℕ
tasks_left ts = sum_by task_left ts + (MAX_TASKS - length ts) * 2003

-- weighed by how far each thread's code may go without a tick: a tick adds less than 2^25 to that, so one that is left
-- counts 2^26 + 1; a new thread has no more, so one that may be begun still counts 2^26 + 3
module _ {S : Type 0} (weight : S → ℕ) where
  abbrev pub life_left : Life S → ℕ
  life_left (Ready s) = 2 * weight s + 2
  life_left (Waits ids s) = 2 * weight s + 3
  life_left (Closes ids s) = 1
  life_left Ended = 0

  unfoldable pub threads_left : List (Thread S) → ℕ
  threads_left ts = sum_by (λ t. life_left t.life) ts + (MAX_THREADS - length ts) * 67108867

  -- what ticks, threads and tasks may do still
  abbrev pub all_left : Configuration S → ℕ
  all_left c = (c.budget - c.used) * 67108865 + threads_left c.threads + tasks_left c.tasks

  -- where the run stops, the ends of tasks alone are to come, and behind them no more than a message and a save
  abbrev pub left_in : Mode → Configuration S → ℕ
  left_in at_point c = 2 * all_left c + 5
  left_in (turn_of k stamps) c = 2 * all_left c + 4
  left_in (stopping cause) c = 2 * tasks_left c.tasks + 3
  left_in saving c = 2
  left_in faulted c = 1
  left_in fault_told c = 0
  left_in (done status) c = 0

  abbrev pub left : Configuration S → ℕ
  left c = left_in c.mode c
