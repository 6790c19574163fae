-- Where a step of the run leads: definitions for private contracts.
use Rattle.std.specs.Prelude.{◌≡◌, ℕ, ◌-◌, ◌≤◌, Bool, true, false, List, [], ◌∷◌, Option, Some, None, Result, Ok, Err, ⊤}
use Rattle.bds_host.specs.declared.asks.Ask.{Ask}
use Rattle.bds_host.specs.declared.asks.Reply.{Reply}
use Rattle.bds_host.specs.declared.asks.Reply.TheVariants as reply
use Rattle.bds_host.specs.declared.faults.Fault.TheVariants as fault
use Rattle.bds_host.specs.Host.{Log, Answered, FoundNoRoom}
use Rattle.bds_schedule.specs.Configuration.{Thread, Mode, at_point, turn_of, stopping, saving, faulted, fault_told, done}
use Rattle.bds_schedule.specs.Configuration as meaning
use Rattle.bds_schedule.specs.Stages.{Spent as BudgetSpent}
use Rattle.bds_schedule.specs.Steps.{Leads}
use Rattle.bds_sim.specs.Threads as sim
use Rattle.bds_rank.specs.Machine.{LeadsOn}
use Rattle.bds_sim.specs.MachineRun.{State}
use Rattle.bds_state.specs.Parts.{Parts}
use Rattle.bds_engine_parts.specs.Saving.{Moves, RunEnds, RunHalts}
use Rattle.bds_engine_parts.specs.Seen.{opening, seen}
use Rattle.bds_engine_parts.specs.declared.stop.RunStop.{RunStop}
use Rattle.bds_engine_parts.specs.declared.stop.RunStop.TheVariants.{Device}
use Rattle.bds_engine_stages.specs.declared.stage.Cause.{Cause}
use Rattle.bds_engine_stages.specs.declared.stage.Cause.TheVariants as cause
use Rattle.bds_engine_stages.specs.declared.stage.Stage.{Stage}
use Rattle.bds_engine_stages.specs.declared.stage.Stage.TheVariants as stage
use Rattle.bds_engine_stages.specs.declared.stop.Halt.{Halt}
use Rattle.bds_engine_stages.specs.declared.stop.Halt.TheVariants as halt

abbrev pub cause_seen : Cause → meaning.Cause
cause_seen (cause.Exited status) = meaning.exited status
cause_seen (cause.Failed fault) = meaning.failed fault
cause_seen (cause.TaskFailed n code) = meaning.task_failed n code

abbrev pub mode_seen : Stage → Mode
mode_seen stage.Point = at_point
mode_seen (stage.Turn k) = turn_of k []
mode_seen (stage.Stopping c) = stopping (cause_seen c)
mode_seen stage.Saving = saving
mode_seen stage.Faulted = faulted
mode_seen stage.Told = fault_told
mode_seen (stage.Done status) = done status

-- the state isn't saved any more, so that its threads are of no matter
abbrev pub IsBare : Cause → Type 0
IsBare (cause.TaskFailed n code) = ⊥
IsBare _ = ⊤

-- nothing but the end is to come
abbrev pub IsOver : Stage → Type 0
IsOver stage.Faulted = ⊤
IsOver stage.Told = ⊤
IsOver (stage.Done status) = ⊤
IsOver _ = ⊥

abbrev pub with_threads : List (Thread sim.Parts) → State → State
with_threads ts d = record { path = d.path; cpus = d.cpus; budget = d.budget; used = d.used; threads = ts; tasks = d.tasks; rules = d.rules; mode = d.mode }

-- the run stands there, with this state as far as it matters, and with so many ticks used
pub data IsAt (s : Parts) (cpus budget used : ℕ) : Stage → State → Type 0 where
  whole : (g : Stage) → IsAt s cpus budget used g (seen s cpus budget used (mode_seen g))
  bare : (c : Cause) (ts : List (Thread sim.Parts)) → IsBare c → IsAt s cpus budget used (stage.Stopping c) (with_threads ts (seen s cpus budget used (stopping (cause_seen c))))
  over : (g : Stage) (d : State) → IsOver g → d.mode ≡ mode_seen g → IsAt s cpus budget used g d

-- steps, one at least, lead from a configuration and a log to a stage of another state
pub record Leads_to (s : Parts) (cpus budget : ℕ) (d : State) (before after : Log) (s' : Parts) (used : ℕ) (g : Stage) : Type 0 where
  pub unit : s'.unit ≡ s.unit
  pub d' : State
  pub is : IsAt s' cpus budget used g d'
  pub leads : LeadsOn (Moves s.unit) d before d' after

-- and so does a call, unless the budget is spent or no memory is left
abbrev pub CallLeadsTo : Parts → ℕ → ℕ → State → Log → Log → Parts → ℕ → Result Stage Halt → Type 0
CallLeadsTo s cpus budget d before after s' used (Ok g) = Leads_to s cpus budget d before after s' used g
CallLeadsTo s cpus budget d before after s' used (Err halt.Spent) = RunEnds s.unit d before after BudgetSpent
CallLeadsTo s cpus budget d before after s' used (Err halt.NoMemory) = RunHalts s.unit d before after

-- an ask was made, and what follows is told by its reply
pub record AsksFor (a : Ask) (before after : Log) (f : Reply → Stage) (g : Stage) : Type 0 where
  pub reply : Reply
  pub answered : Answered before after a reply
  pub is : g ≡ f reply

abbrev pub AsksThen : Ask → Log → Log → (Reply → Stage) → Result Stage Halt → Type 0
AsksThen a before after f (Ok g) = AsksFor a before after f g
AsksThen a before after f (Err halt.Spent) = ⊥
AsksThen a before after f (Err halt.NoMemory) = FoundNoRoom before after a

abbrev pub or_faulted : Stage → Reply → Stage
or_faulted g reply.Fault = stage.Faulted
or_faulted g _ = g

-- what is left of a budget where the run goes on
abbrev pub IsLeftOver : Result Stage Halt → ℕ → ℕ → ℕ → Type 0
IsLeftOver (Ok g) left budget used = left ≡ budget - used
IsLeftOver (Err e) left budget used = ⊤

-- a step from there, with what is left of the budget behind it
pub record StepsWithin (s : Parts) (cpus budget : ℕ) (d : State) (before after : Log) (s' : Parts) (left : ℕ) (r : Result Stage Halt) : Type 0 where
  pub used : ℕ
  pub room : used ≤ budget
  pub left_is : IsLeftOver r left budget used
  pub reaches : CallLeadsTo s cpus budget d before after s' used r

-- how a run has ended that stands there
abbrev pub end_of : Stage → Option (Result ℕ RunStop)
end_of stage.Told = Some (Err Device)
end_of (stage.Done status) = Some (Ok status)
end_of _ = None

-- steps of the run have led there
pub record HasCome (s : Parts) (cpus budget : ℕ) (before : Log) (now : Parts) (left : ℕ) (g : Stage) (log : Log) : Type 0 where
  pub unit : now.unit ≡ s.unit
  pub used : ℕ
  pub room : used ≤ budget
  pub left_is : left ≡ budget - used
  pub d : State
  pub is : IsAt now cpus budget used g d
  pub leads : Leads (Moves s.unit) (opening s cpus budget) before d log

-- where nothing is ready and nothing runs: the run is done, or nothing can go on
abbrev pub rest_of : Bool → Stage
rest_of true = stage.Done 0
rest_of false = stage.Stopping (cause.Failed fault.Deadlock)

-- it is asked what goes on: more than one thread is ready, or a task runs
abbrev pub AreMany : List ℕ → List ℕ → Type 0
AreMany [] [] = ⊥
AreMany (k ∷ []) [] = ⊥
AreMany _ _ = ⊤
