-- What stands behind the answer to a script that is run, and to a file that is resumed, with all that was asked for it.
use Rattle.std.specs.Prelude.{◌≡◌, ◌++◌, ℕ, List, [], ◌∷◌, Ok, Err}
use Rattle.bds_host.specs.declared.asks.Ask.TheVariants.{Err as Tells}
use Rattle.bds_host.specs.declared.asks.Reply.TheVariants.{Done as Answered}
use Rattle.bds_host.specs.declared.faults.Fault.{Fault}
use Rattle.bds_host.specs.Host.{Log}
use Rattle.bds_host.specs.Message.{message_of}
use Rattle.bds_meaning.specs.Begin.{Reading, Refusing, Running}
use Rattle.bds_meaning.specs.Run.{Program, Conf, Moves}
use Rattle.bds_schedule.specs.Stages.{Done, Spent}
use Rattle.bds_schedule.specs.Steps.{Ends, Leads}
use Rattle.bds_state.specs.Parts.{Parts}
use Rattle.bds_engine_parts.specs.Run.{FaultIsTold}
use Rattle.bds_engine_parts.specs.declared.stop.RunStop.TheVariants as run_stop
use Rattle.bds_app_run.specs.Job.{JobSteps}
use Rattle.bds_app_run.specs.Resume.{HoldsState, HoldsNone, GoesOn}
use Rattle.bds_app_run.specs.declared.call.Call.{Call}
use Rattle.bds_app_run.specs.declared.outcome.Outcome.{Outcome}
use Rattle.bds_app_run.specs.declared.outcome.Outcome.TheVariants.{Ended, Refused, BadFile, Device, NoMemory, Ticks}

pub data ScriptCause (c : Call) (before after : Log) : Outcome → Type 0 where
  -- the script was read and accepted, and its run is done, or its budget is spent
  ended : (program : Program) (at : Conf) (status : ℕ)
      → Leads (JobSteps c) (Reading []) before (Running program at) after → Moves program at (Ends (Done status))
      → ScriptCause c before after (Ended status)
  spent : (program : Program) (at : Conf) → Leads (JobSteps c) (Reading []) before (Running program at) after
      → Moves program at (Ends Spent) → ScriptCause c before after Ticks
  -- it was refused for this fault, which was told
  refused : (f : Fault) (log : Log) → Leads (JobSteps c) (Reading []) before (Refusing f) log
      → after ≡ log ++ (Tells (message_of f), Answered) ∷ [] → ScriptCause c before after Refused
  device : FaultIsTold before after → ScriptCause c before after Device
  no_memory : ScriptCause c before after NoMemory

pub data FileCause (cpus ticks : ℕ) (path : List ℕ) (before after : Log) : Outcome → Type 0 where
  -- the file was read and holds a state, and what goes on from it is done, or its budget is spent
  ended : (s : Parts) (log : Log) (status : ℕ) → HoldsState path s before log
      → GoesOn cpus ticks s log after (Ok status) → FileCause cpus ticks path before after (Ended status)
  spent : (s : Parts) (log : Log) → HoldsState path s before log → GoesOn cpus ticks s log after (Err run_stop.Ticks)
      → FileCause cpus ticks path before after Ticks
  -- it holds none, which was told
  bad_file : (f : Fault) (log : Log) → HoldsNone path before log f
      → after ≡ log ++ (Tells (message_of f), Answered) ∷ [] → FileCause cpus ticks path before after BadFile
  device : FaultIsTold before after → FileCause cpus ticks path before after Device
  no_memory : FileCause cpus ticks path before after NoMemory
