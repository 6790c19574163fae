-- When a state is valid: its parts are within the limits of a file, and what they name is there.
use Rattle.std.specs.Prelude.{◌≡◌, ℕ, ◌<◌, ◌≤◌, List, length, slice_get, Some, ⊤}
use Rattle.std.specs.List.{All}
use Rattle.bds_value.specs.declared.TheConstants.{MAX_TEXT, MAX_THREADS}
use Rattle.bds_value.specs.declared.ids.Id.{Id}
use Rattle.bds_value.specs.declared.ids.Id.TheVariants as id
use Rattle.bds_value.specs.declared.ids.Status.{Status}
use Rattle.bds_value.specs.declared.ids.Status.TheVariants.{Ready, Waiting, Ended}
use Rattle.bds_code.specs.declared.unit.Unit.{Unit as CodeUnit}
use Rattle.bds_code_frames.specs.declared.thread.Thread.{Thread}
use Rattle.bds_code_frames.specs.Counts.{IsCounted}
use Rattle.bds_rules.specs.Own.{AreRules}
use Rattle.bds_state.specs.Parts.{Parts}
use Rattle.bds_state_threads.specs.Fields.{IsFieldStatus}
use Rattle.bds_tasks.specs.declared.task.Task.{Task}
use Rattle.bds_tasks.specs.Sound.{AreTasks}
use Rattle.bds_verify.specs.Threads.{IsThread}
use Rattle.bds_verify.specs.Verified.{VerifiedUnit}

-- the main thread, number 0, is its own parent; every other one was made by one of a lower number
pub record HasParent (n parent : ℕ) : Type 0 where
  pub main : n ≡ 0 → parent ≡ 0
  pub later : 1 ≤ n → parent < n

-- so many ids, slots and operands that 32 bits count them
pub record IsCountedThread (t : Thread) : Type 0 where
  pub ids : IsFieldStatus t.status
  pub frames : All IsCounted t.frames

-- where there are so many tasks, numbered from 1, and threads, numbered from 0
module _ (tasks threads : ℕ) where
  abbrev pub IsThere : Id → Type 0
  IsThere (id.Task n) = (1 ≤ n) × (n ≤ tasks)
  IsThere (id.Thread n) = n < threads

  -- each task and thread for which a thread waits
  abbrev pub AreThere : Status → Type 0
  AreThere (Waiting ids) = All IsThere ids
  AreThere Ready = ⊤
  AreThere Ended = ⊤

  -- thread n
  pub record IsThreadOf (u : CodeUnit) (n : ℕ) (t : Thread) : Type 0 where
    pub parent : HasParent n t.parent
    pub ids : AreThere t.status
    pub counted : IsCountedThread t
    pub valid : IsThread u t

pub record AreThreads (u : CodeUnit) (tasks : ℕ) (ts : List Thread) : Type 0 where
  pub main : 1 ≤ length ts
  pub count : length ts ≤ MAX_THREADS
  pub each : (n : ℕ) (t : Thread) → slice_get ts n ≡ Some t → IsThreadOf tasks (length ts) u n t

-- one of so many threads made the task
abbrev pub IsMade : ℕ → Task → Type 0
IsMade threads t = t.made.maker < threads

pub record IsValid (s : Parts) : Type 0 where
  pub unit : VerifiedUnit s.unit
  pub threads : AreThreads s.unit (length s.tasks) s.threads
  pub tasks : AreTasks s.tasks
  pub makers : All (IsMade (length s.threads)) s.tasks
  pub rules : AreRules s.rules
  pub path : length s.path ≤ MAX_TEXT
