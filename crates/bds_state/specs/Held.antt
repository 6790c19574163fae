-- For private contracts alone: of a thread that waits a task is kept which goes on, and of one that has ended that it
-- has, so that it isn't asked at each turn.
use Rattle.std.specs.Prelude.{◌≡◌, ◌⊎◌, ℕ, List, slice_get, Some, false}
use Rattle.bds_value.specs.declared.ids.Id.{Id}
use Rattle.bds_value.specs.declared.ids.Id.TheVariants as id
use Rattle.bds_value.specs.declared.ids.Status.{Status}
use Rattle.bds_value.specs.declared.ids.Status.TheVariants.{Ended, Waiting}
use Rattle.bds_code_frames.specs.declared.thread.Thread.{Thread}
use Rattle.bds_tasks.specs.declared.task.Task.{Task}
use Rattle.bds_tasks.specs.Kept.{is_lost_task}
use Rattle.bds_tasks.specs.Tasks.{passes}
use Rattle.bds_state.specs.Holding.{HasHolder}
use Rattle.bds_state.specs.Ready.{is_end}

-- no task is lost
abbrev pub NoneLost : List Task → Type 0
NoneLost tasks = (m : ℕ) → passes is_lost_task tasks m ≡ false

-- the task hasn't ended
abbrev pub GoesOn : List Task → ℕ → Type 0
GoesOn tasks n = passes (λ (t : Task). is_end t.state) tasks n ≡ false

-- task n is one of these, and goes on
pub record IsGoing (tasks : List Task) (ids : List Id) (n : ℕ) : Type 0 where
  pub place : ℕ
  pub named : slice_get ids place ≡ Some (id.Task n)
  pub goes_on : GoesOn tasks n

-- a thread in this status waits for task n, which goes on, and no task is lost
pub record IsBlocked (tasks : List Task) (status : Status) (n : ℕ) : Type 0 where
  pub ids : List Id
  pub waits : status ≡ Waiting ids
  pub going : IsGoing tasks ids n
  pub none : NoneLost tasks

-- it has ended, or waits so
abbrev pub IsStill : List Task → Status → ℕ → Type 0
IsStill tasks status n = (status ≡ Ended) ⊎ IsBlocked tasks status n

pub record IsHeld (threads : List Thread) (tasks : List Task) (k n : ℕ) : Type 0 where
  pub thread : Thread
  pub there : slice_get threads k ≡ Some thread
  pub still : IsStill tasks thread.status n

abbrev pub AreHeld : List Thread → List Task → List ℕ → Type 0
AreHeld threads tasks held = (k n : ℕ) → HasHolder held k n → IsHeld threads tasks k n

-- but for those that are held by one task
abbrev pub AreHeldBut : ℕ → List Thread → List Task → List ℕ → Type 0
AreHeldBut task threads tasks held = (k n : ℕ) → HasHolder held k n → (n ≡ task → ⊥) → IsHeld threads tasks k n

-- what is kept of threads stays right where the tasks change so
pub record KeepsGoing (old new : List Task) : Type 0 where
  pub none : NoneLost old → NoneLost new
  pub going : (n : ℕ) → GoesOn old n → GoesOn new n
