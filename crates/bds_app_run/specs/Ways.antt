-- For private contracts alone: how the functions below the commands come out.
use Rattle.std.specs.Prelude.{◌≡◌, ℕ, List, Bool, true, false, Option, Some, None, Result, Ok, Err}
use Rattle.bds_host.specs.declared.asks.Ask.{Ask}
use Rattle.bds_host.specs.declared.asks.Ask.TheVariants.{Read}
use Rattle.bds_host.specs.declared.asks.Reply.TheVariants.{Bytes, Missing, Done, Fault as Faulted}
use Rattle.bds_host.specs.declared.faults.Fault.{Fault as AFault}
use Rattle.bds_host.specs.Host.{Log, Answered, FoundNoRoom}
use Rattle.bds_state.specs.Parts.{Parts}
use Rattle.bds_state.specs.Valid.{IsValid}
use Rattle.bds_ckpt.specs.declared.fault.LoadFault.{LoadFault}
use Rattle.bds_ckpt.specs.declared.fault.LoadFault.TheVariants as load
use Rattle.bds_engine_parts.specs.Run.{Runs}
use Rattle.bds_engine_parts.specs.declared.stop.RunStop.{RunStop}
use Rattle.bds_engine_parts.specs.declared.stop.RunStop.TheVariants as run_stop
use Rattle.bds_meaning.specs.Begin.{JobEnd, ran, refused, Stage, AtEnd, Faulting, IsOnWay}
use Rattle.bds_schedule.specs.Stages as stage
use Rattle.bds_schedule.specs.Steps.{Leads, Halts}
use Rattle.bds_app_run.specs.Job.{JobSteps}
use Rattle.bds_app_run.specs.declared.call.Call.{Call}
use Rattle.bds_app_run.specs.Resume.{HoldsState, HoldsNone, IsUnloaded}
use Rattle.bds_app_run.specs.declared.ending.Ending.{Ending}
use Rattle.bds_app_run.specs.declared.ending.Ending.TheVariants.{Done as RunDone, Spent, DeviceFault, Refused}
use Rattle.bds_app_run.specs.declared.opening.FileFault.{FileFault}
use Rattle.bds_app_run.specs.declared.opening.FileFault.TheVariants as file
use Rattle.bds_app_run.specs.Telling.{TellsDevice, TellsFault}
use Rattle.bds_app_run.specs.declared.outcome.Outcome.{Outcome}
use Rattle.bds_app_run.specs.declared.outcome.Outcome.TheVariants.{BadFile, NoMemory as OutOfMemory}
use Rattle.bds_app_run.specs.declared.stop.Stop.{Stop}
use Rattle.bds_app_run.specs.declared.stop.Stop.TheVariants.{Fault, NoMemory}

-- the job of a call is led from a stage to the one that the result names; to a fault; or as far as there was memory
abbrev pub Reaches : {T : Type 0} → Call → Stage → Log → Log → (T → Stage) → Result T Stop → Type 0
Reaches c from before after to (Ok x) = Leads (JobSteps c) from before (to x) after
Reaches c from before after to (Err Fault) = Leads (JobSteps c) from before Faulting after
Reaches c from before after to (Err NoMemory) = Halts (JobSteps c) IsOnWay from before after

abbrev pub end_of : Ending → JobEnd
end_of (RunDone status) = ran (stage.Done status)
end_of Spent = ran stage.Spent
end_of DeviceFault = ran stage.DeviceFault
end_of Refused = refused

abbrev pub at_end : Ending → Stage
at_end end = AtEnd (end_of end)

-- what the end of a run is
abbrev pub ending_of : Result ℕ RunStop → Result Ending Stop
ending_of (Ok status) = Ok (RunDone status)
ending_of (Err run_stop.Ticks) = Ok Spent
ending_of (Err run_stop.Device) = Ok DeviceFault
ending_of (Err run_stop.NoMemory) = Err NoMemory

-- this is what became of the run of a valid state
abbrev pub RunsSo : ℕ → ℕ → Parts → Log → Log → Result Ending Stop → Type 0
RunsSo cpus budget s before after r = IsValid s × ((end : Result ℕ RunStop) × (Runs s cpus budget before after end × (r ≡ ending_of end)))

-- why bytes aren't loaded: memory was wanting, or they are those of no state
abbrev pub is_want : LoadFault → Bool
is_want load.NoMemory = true
is_want _ = false

-- a file was opened: it holds this state, or none, or it wasn't read or loaded
abbrev pub IsOpened : List ℕ → Log → Log → Result Parts FileFault → Type 0
IsOpened path before after (Ok s) = HoldsState path s before after
IsOpened path before after (Err (file.HoldsNone f)) = HoldsNone path before after f
IsOpened path before after (Err file.Unread) = Answered before after (Read path) Faulted
IsOpened path before after (Err file.NoMemory) = IsUnloaded path before after

-- it is told why there is no state of a file
pub data RefusesFile (path : List ℕ) (before after : Log) : Outcome → Type 0 where
  bad_file : (f : AFault) (log : Log) (answer : Outcome) → HoldsNone path before log f → TellsFault f BadFile log after answer → RefusesFile path before after answer
  unread : (log : Log) (answer : Outcome) → Answered before log (Read path) Faulted → TellsDevice log after answer → RefusesFile path before after answer
  unloaded : IsUnloaded path before after → RefusesFile path before after OutOfMemory
