-- Which tasks a bad end cancels, as a set.
use Rattle.std.specs.Prelude.{◌≡◌, ℕ, ◌≤◌, true, List, length, nat_eq, option_map}
use Rattle.std.specs.List.{list_any}
use Rattle.bds_tasks.specs.declared.task.TaskState.TheVariants.{Cancelled}
use Rattle.bds_tasks.specs.declared.task.Task.{Task}
use Rattle.bds_tasks.specs.Ends.{ended, ended_task}
use Rattle.bds_tasks.specs.Sound.{AreTasks}
use Rattle.bds_tasks.specs.Tasks.{in_state, is_bad, passes, runs, task_at, waits, with_task}

-- task m waits, and needs task k
pub record WaitsFor (ts : List Task) (m k : ℕ) : Type 0 where
  pub waits : passes (λ t. waits t.state) ts m ≡ true
  pub needs : passes (λ t. list_any (nat_eq k) t.needs) ts m ≡ true

-- the least set that holds each task which waits and needs task n or one of the set
pub data CannotRun (ts : List Task) (n : ℕ) : ℕ → Type 0 where
  needs : (m : ℕ) → WaitsFor ts m n → CannotRun ts n m
  over : (m k : ℕ) → WaitsFor ts m k → CannotRun ts n k → CannotRun ts n m

-- task n cancelled just the tasks of this set
pub record Cancels (n : ℕ) (old new : List Task) : Type 0 where
  pub long : length new ≡ length old
  pub hit : (m : ℕ) → 1 ≤ m → CannotRun old n m → task_at new m ≡ option_map (in_state (Cancelled n)) (task_at old m)
  pub others : (m : ℕ) → 1 ≤ m → (CannotRun old n m → ⊥) → task_at new m ≡ task_at old m

-- so does each bad end of a task that runs
abbrev pub EndsCancel : Type 0
EndsCancel = (ts : List Task) (n code : ℕ) → AreTasks ts → 1 ≤ n → passes (λ t. runs t.state) ts n ≡ true
    → passes is_bad (with_task (ended_task code) n ts) n ≡ true → Cancels n (with_task (ended_task code) n ts) (ended n code ts)
