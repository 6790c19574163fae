-- What the commands on a script and on a file do: all that is asked, with the replies, and the answer.
use Rattle.std.specs.Prelude.{◌≡◌, ℕ, List, [], Some, Result, Ok, Err, codes}
use Rattle.bds_host.specs.declared.asks.Ask.TheVariants.{Read}
use Rattle.bds_host.specs.declared.asks.Reply.TheVariants.{Fault as Faulted}
use Rattle.bds_host.specs.declared.faults.Fault.{Fault}
use Rattle.bds_host.specs.Host.{Log, Answered}
use Rattle.bds_check.specs.declared.checking.TypedScript.{TypedScript}
use Rattle.bds_app_run.specs.Begun.{told}
use Rattle.bds_front.specs.Loading.{Loads}
use Rattle.bds_front.specs.declared.front_fault.FrontFault.{FrontFault}
use Rattle.bds_front.specs.declared.front_fault.FrontFault.TheVariants as front
use Rattle.bds_meaning.specs.Begin.{JobEnd, ran, refused, Reading, AtEnd, IsOnWay}
use Rattle.bds_schedule.specs.Stages.{Done, Spent, DeviceFault}
use Rattle.bds_schedule.specs.Steps.{Leads, Halts}
use Rattle.bds_state.specs.Parts.{Parts}
use Rattle.bds_tools.specs.Info.{info_text}
use Rattle.bds_engine_parts.specs.declared.stop.RunStop.{RunStop}
use Rattle.bds_engine_parts.specs.declared.stop.RunStop.TheVariants as run_stop
use Rattle.bds_app_run.specs.Job.{JobSteps}
use Rattle.bds_app_run.specs.declared.call.Call.{Call}
use Rattle.bds_app_run.specs.Resume.{HoldsState, HoldsNone, IsUnloaded, GoesOn}
use Rattle.bds_app_run.specs.Telling.{Prints, TellsDevice, TellsFault}
use Rattle.bds_app_run.specs.declared.outcome.Outcome.{Outcome}
use Rattle.bds_app_run.specs.declared.outcome.Outcome.TheVariants.{Ended, Refused, BadFile, Device, NoMemory, Ticks}

-- how the end of a script's job is answered
abbrev pub outcome_of : JobEnd → Outcome
outcome_of (ran (Done status)) = Ended status
outcome_of (ran Spent) = Ticks
outcome_of (ran DeviceFault) = Device
outcome_of refused = Refused

-- and the end of what goes on from a state
abbrev pub run_outcome : Result ℕ RunStop → Outcome
run_outcome (Ok status) = Ended status
run_outcome (Err run_stop.Device) = Device
run_outcome (Err run_stop.Ticks) = Ticks
run_outcome (Err run_stop.NoMemory) = NoMemory

-- a script is run: its job is led to its end, or as far as there is memory
pub data RunsScript (c : Call) (before after : Log) : Outcome → Type 0 where
  came : (end : JobEnd) → Leads (JobSteps c) (Reading []) before (AtEnd end) after → RunsScript c before after (outcome_of end)
  no_memory : Halts (JobSteps c) IsOnWay (Reading []) before after → RunsScript c before after NoMemory

-- a script is checked: it is loaded with its includes, and that is told
pub data ChecksScript (path : List ℕ) (before after : Log) : Outcome → Type 0 where
  accepted : (t : TypedScript) (log : Log) (answer : Outcome) → Loads path before log (Ok t) → Prints (codes "ok\n") log after answer → ChecksScript path before after answer
  refused_for : (f : FrontFault) (g : Fault) (log : Log) (answer : Outcome) → Loads path before log (Err f) → told f ≡ Some g → TellsFault g Refused log after answer → ChecksScript path before after answer
  faulted : (log : Log) (answer : Outcome) → Loads path before log (Err front.Device) → TellsDevice log after answer → ChecksScript path before after answer
  no_memory : (f : FrontFault) → Loads path before after (Err f) → ChecksScript path before after NoMemory

-- a file is opened: what is done with the state that it holds, where it holds one
pub data OpensFile (path : List ℕ) (Does : Parts → Log → Log → Outcome → Type 0) (before after : Log) : Outcome → Type 0 where
  held : (s : Parts) (log : Log) (answer : Outcome) → HoldsState path s before log → Does s log after answer → OpensFile path Does before after answer
  bad_file : (f : Fault) (log : Log) (answer : Outcome) → HoldsNone path before log f → TellsFault f BadFile log after answer → OpensFile path Does before after answer
  unread : (log : Log) (answer : Outcome) → Answered before log (Read path) Faulted → TellsDevice log after answer → OpensFile path Does before after answer
  unloaded : IsUnloaded path before after → OpensFile path Does before after NoMemory

-- with so many processors and ticks, its run goes on
abbrev pub GoesOnTo : ℕ → ℕ → Parts → Log → Log → Outcome → Type 0
GoesOnTo cpus budget s before after answer = (end : Result ℕ RunStop) × (GoesOn cpus budget s before after end × (answer ≡ run_outcome end))

abbrev pub ResumesFile : ℕ → ℕ → List ℕ → Log → Log → Outcome → Type 0
ResumesFile cpus budget path before after answer = OpensFile path (GoesOnTo cpus budget) before after answer

-- or what it holds is told
abbrev pub DescribesFile : List ℕ → Log → Log → Outcome → Type 0
DescribesFile path before after answer = OpensFile path (λ s. Prints (info_text s)) before after answer
