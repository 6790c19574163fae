-- What a thread made.
use Rattle.std.specs.Prelude.{ℕ, ◌≤◌, List, ◌++◌, drop, length, map, nat_eq}
use Rattle.std.specs.List.{All}
use Rattle.bds_value.specs.declared.TheConstants.{MAX_COUNT}
use Rattle.bds_value.specs.declared.ids.Id.{Id}
use Rattle.bds_value.specs.declared.ids.Id.TheVariants as id
use Rattle.bds_code_frames.specs.declared.thread.Thread.{Thread}
use Rattle.bds_state.specs.Parts.{Parts}
use Rattle.bds_state.specs.Ready.{numbers_from}
use Rattle.bds_state.specs.Valid.{IsThere}
use Rattle.bds_tasks.specs.Tasks.{made_by as tasks_made_by}

-- the threads behind the main one that a thread made, in rising order
abbrev pub threads_made_by : ℕ → List Thread → List ℕ
threads_made_by thread ts = numbers_from 1 (λ t. nat_eq t.parent thread) (drop 1 ts)

-- all tasks and threads that a thread made, the tasks first
abbrev pub made_by : ℕ → Parts → List Id
made_by thread s = map id.Task (tasks_made_by thread s.tasks) ++ map id.Thread (threads_made_by thread s.threads)

-- a thread may wait for all that it made
pub record MayWait (thread : ℕ) (s : Parts) : Type 0 where
  pub few : length (made_by thread s) ≤ MAX_COUNT
  pub there : All (IsThere (length s.tasks) (length s.threads)) (made_by thread s)
