-- What a turn begins with: definitions for private contracts.
use Rattle.std.specs.Prelude.{◌≡◌, ℕ, List, Some, slice_get}
use Rattle.bds_value.specs.declared.ids.Id.{Id}
use Rattle.bds_value.specs.declared.ids.Status.TheVariants as status
use Rattle.bds_code_frames.specs.declared.thread.Thread.{Thread}
use Rattle.bds_tasks.specs.declared.task.Waited.{Waited}
use Rattle.bds_state.specs.Parts.{Parts}
use Rattle.bds_engine_parts.specs.Look.{waited}
use Rattle.bds_engine.specs.declared.turns.Look.{Look}
use Rattle.bds_engine.specs.declared.turns.Look.TheVariants as look

-- thread k doesn't wait
pub record IsReady (s : Parts) (k : ℕ) : Type 0 where
  pub thread : Thread
  pub there : slice_get s.threads k ≡ Some thread
  pub ready : thread.status ≡ status.Ready

-- it waits, and its wait has come to this
pub record WaitsFor (s : Parts) (k : ℕ) (w : Waited) : Type 0 where
  pub thread : Thread
  pub ids : List Id
  pub there : slice_get s.threads k ≡ Some thread
  pub waiting : thread.status ≡ status.Waiting ids
  pub come : w ≡ waited s.threads s.tasks ids

-- it has ended, or there is none
abbrev pub HasEnded : Parts → ℕ → Type 0
HasEnded s k = (t : Thread) → slice_get s.threads k ≡ Some t → t.status ≡ status.Ended

abbrev pub LooksAt : Parts → ℕ → Look → Type 0
LooksAt s k look.Runs = IsReady s k
LooksAt s k (look.Waits w) = WaitsFor s k w
LooksAt s k look.Ended = HasEnded s k
