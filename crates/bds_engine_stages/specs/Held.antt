-- A thread taken out of a state and put back: definitions for private contracts.
use Rattle.std.specs.Prelude.{◌≡◌, ◌≢◌, ℕ, List, [], ◌∷◌, map, slice_get, unwrap_or, Option, Some, Result, Ok, Err, true, ⊤}
use Rattle.bds_value.specs.declared.value.At.{At}
use Rattle.bds_value.specs.declared.value.Stamp.{Stamp}
use Rattle.bds_value.specs.declared.value.Value.{Value}
use Rattle.bds_value.specs.declared.ids.Status.TheVariants as status
use Rattle.bds_value.specs.declared.faults.RunFault.{RunFault}
use Rattle.bds_host.specs.declared.faults.Fault.TheVariants as fault
use Rattle.bds_host.specs.Host.{Log}
use Rattle.bds_code_frames.specs.declared.frame.Frame.{Frame}
use Rattle.bds_code_frames.specs.declared.thread.Thread.{Thread}
use Rattle.bds_code.specs.declared.unit.Unit.{Unit as CodeUnit}
use Rattle.bds_code_frames.specs.Stack.{Stack, stack}
use Rattle.bds_machine.specs.Answers.{IsAtRest, IsGiven, IsLeft, is_awaited}
use Rattle.bds_machine.specs.declared.point.Point.{Point}
use Rattle.bds_machine.specs.declared.point.Point.TheVariants as point
use Rattle.bds_schedule.specs.Configuration.{Ready, turn_of, with_life_from}
use Rattle.bds_schedule.specs.Requests.{ThreadAct}
use Rattle.bds_sim.specs.Threads as sim
use Rattle.bds_sim.specs.MachineRun.{State}
use Rattle.bds_sim.specs.Row.{ended, left, row_step}
use Rattle.bds_state.specs.Keeping.{at_end, going_on, with_thread}
use Rattle.bds_state.specs.Parts.{Parts}
use Rattle.bds_engine_stages.specs.declared.stage.Cause.TheVariants as cause
use Rattle.bds_engine_stages.specs.declared.stage.Stage.{Stage}
use Rattle.bds_engine_stages.specs.declared.stage.Stage.TheVariants as stage
use Rattle.bds_engine_stages.specs.declared.stop.Halt.{Halt}
use Rattle.bds_engine_stages.specs.declared.stop.Halt.TheVariants as halt
use Rattle.bds_engine_parts.specs.Seen.{seen, thread_seen}
use Rattle.bds_engine_stages.specs.Steps.{CallLeadsTo, with_threads}

-- a thread was taken, and one that has ended stands in its place
pub record IsTaken (k : ℕ) (old new : Parts) (t : Thread) : Type 0 where
  pub there : slice_get old.threads k ≡ Some t
  pub parts : new ≡ with_thread k (at_end t) old

-- the place of a thread that was taken
pub record HasPlace (s : Parts) (k : ℕ) (t : Thread) : Type 0 where
  pub old : Thread
  pub there : slice_get s.threads k ≡ Some old
  pub parent : t.parent ≡ old.parent

-- a thread whose wait is over
pub record IsWaiting (s : Parts) (k : ℕ) : Type 0 where
  pub thread : Thread
  pub there : slice_get s.threads k ≡ Some thread
  pub live : thread.status ≢ status.Ended

-- it goes on, or has ended where its code has

abbrev pub woken : List Frame → Thread → Thread
woken [] t = at_end t
woken (f ∷ fs) t = going_on t

abbrev pub stage_woken : ℕ → List Frame → Stage
stage_woken k [] = stage.Point
stage_woken k (f ∷ fs) = stage.Turn k

pub record IsWoken (k : ℕ) (old new : Parts) (g : Stage) : Type 0 where
  pub thread : Thread
  pub there : slice_get old.threads k ≡ Some thread
  pub parts : new ≡ with_thread k (woken thread.frames thread) old
  pub stage_is : g ≡ stage_woken k thread.frames

-- the thread has what it awaits, and is in its place again
pub record IsBack (k : ℕ) (v : Option Value) (t : Thread) (old new : Parts) : Type 0 where
  pub next : Thread
  pub given : IsGiven old.unit v t next
  pub parts : new ≡ with_thread k next old

abbrev pub GoesBack : ℕ → Option Value → Thread → Parts → Parts → Stage → Result Stage Halt → Type 0
GoesBack k v t old new stage (Ok g) = (g ≡ stage) × IsBack k v t old new
GoesBack k v t old new stage (Err halt.Spent) = ⊥
GoesBack k v t old new stage (Err halt.NoMemory) = ⊤

-- the turn of thread k before the row at which it left the machine, with the stamps that were asked so far
abbrev pub before_row : Parts → ℕ → ℕ → ℕ → ℕ → sim.Parts → List Stamp → State
before_row s cpus budget used k m stamps = with_threads (with_life_from 0 k (Ready m) (map thread_seen s.threads)) (seen s cpus budget used (turn_of k stamps))

-- a thread that was taken out and has left the machine at a point
pub record IsOut (s : Parts) (k : ℕ) (p : Point) (t : Thread) : Type 0 where
  pub place : HasPlace s k t
  pub ready : t.status ≡ status.Ready
  pub left : IsLeft s.unit p t

-- from that row on a call reaches this
abbrev pub FromRow : Parts → ℕ → Thread → Point → Log → Log → Parts → Result Stage Halt → Type 0
FromRow s k t p before after s' r =
    (cpus budget used : ℕ) (m : sim.Parts) → row_step s.unit m ≡ left s.unit p t.globals (stack t.frames) → CallLeadsTo s cpus budget (before_row s cpus budget used k m []) before after s' used r

-- a thread that was taken out and ran to a point, whatever that is
pub record IsAtPoint (s : Parts) (k : ℕ) (p : Point) (t : Thread) : Type 0 where
  pub place : HasPlace s k t
  pub ready : t.status ≡ status.Ready
  pub left : is_awaited p ≡ true → IsLeft s.unit p t
  pub rest : IsAtRest s.unit p t

-- what a thread does by the row at which it left the machine
abbrev pub act_at : CodeUnit → Point → List Value → Stack → ThreadAct sim.Parts
act_at u (point.Stop f at) g s = ended (point.Stop f at)
act_at u (point.Exit code) g s = ended (point.Exit code)
act_at u p g s = left u p g s

-- from that row on a call reaches this, at any point; without a tick left there is no such row
abbrev pub FromPoint : Parts → ℕ → Thread → Point → Log → Log → Parts → Result Stage Halt → Type 0
FromPoint s k t point.Spent before after s' r = (r ≡ Err halt.Spent) × (after ≡ before)
FromPoint s k t p before after s' r =
    (cpus budget used : ℕ) (m : sim.Parts) → row_step s.unit m ≡ act_at s.unit p t.globals (stack t.frames) → CallLeadsTo s cpus budget (before_row s cpus budget used k m []) before after s' used r

-- the run stops by a fault at a place of the text
abbrev pub FailsSo : Parts → At → RunFault → Result Stage Halt → Type 0
FailsSo s at f (Ok g) = g ≡ stage.Stopping (cause.Failed (fault.Run (unwrap_or (slice_get s.unit.files at.file) s.path) at.line f))
FailsSo s at f (Err halt.Spent) = ⊥
FailsSo s at f (Err halt.NoMemory) = ⊤
