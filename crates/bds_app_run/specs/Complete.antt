-- When the answer is that of the meaning, and what else the log tells of it.
use Rattle.std.specs.Prelude.{◌≡◌, ◌<◌, ◌⊎◌, ◌++◌, ℕ, List, [], Ok, Err}
use Rattle.bds_host.specs.declared.faults.Fault.{Fault}
use Rattle.bds_host.specs.Host.{Log, faults}
use Rattle.bds_meaning.specs.Begin.{Reading, ran, AtEnd}
use Rattle.bds_schedule.specs.Stages.{Done}
use Rattle.bds_schedule.specs.Steps.{Leads}
use Rattle.bds_state.specs.Parts.{Parts}
use Rattle.bds_engine_parts.specs.declared.stop.RunStop.TheVariants as run_stop
use Rattle.bds_app_run.specs.Commands.{ResumesFile, RunsScript}
use Rattle.bds_app_run.specs.Job.{JobSteps}
use Rattle.bds_app_run.specs.Resume.{HoldsState, HoldsNone, GoesOn}
use Rattle.bds_app_run.specs.declared.call.Call.{Call}
use Rattle.bds_app_run.specs.declared.outcome.Outcome.{Outcome}
use Rattle.bds_app_run.specs.declared.outcome.Outcome.TheVariants.{Ended, Refused, BadFile, Device, NoMemory}
use Rattle.bds_app_run.specs.Accepted.{WasAccepted, WasRefused, IsSpent}
use Rattle.bds_app_run.specs.Causes.{FileCause, ScriptCause}
use Rattle.bds_app_run.specs.Rooms.{FoundRoom}

-- a fault has no other answer than `Device`, but for want of memory
abbrev pub TellsFaults : Log → Log → Outcome → Type 0
TellsFaults before after answer = faults before < faults after → (answer ≡ Device) ⊎ (answer ≡ NoMemory)

-- no other answer has the same log, unless one of them tells want of memory
abbrev pub IsOne : (Outcome → Type 0) → Outcome → Type 0
IsOne Does answer = (other : Outcome) → Does other → (answer ≡ other) ⊎ ((answer ≡ NoMemory) ⊎ (other ≡ NoMemory))

-- what the log of a script that is run says of the answer
pub record ScriptIsDetermined (c : Call) (before after : Log) (answer : Outcome) : Type 0 where
  pub cause : ScriptCause c before after answer
  -- a script that was accepted, without a fault in reply and within its ticks, is run to its end, unless memory was
  -- wanting
  pub complete : WasAccepted c before after → faults after ≡ faults before → (IsSpent c before after → ⊥)
      → (answer ≡ NoMemory)
      ⊎ ((status : ℕ)
      × ((answer ≡ Ended status) × Leads (JobSteps c) (Reading []) before (AtEnd (ran (Done status))) after))
  -- one that was refused is told as that
  pub refused : WasRefused c before after → faults after ≡ faults before → (answer ≡ NoMemory) ⊎ (answer ≡ Refused)
  pub device : TellsFaults before after answer
  pub one : IsOne (RunsScript c before after) answer
  pub room : FoundRoom before after answer

-- and that of a file that is resumed
pub record FileIsDetermined (cpus ticks : ℕ) (path : List ℕ) (before after : Log) (answer : Outcome) : Type 0 where
  pub cause : FileCause cpus ticks path before after answer
  -- as a script is run, a state of a file goes on to its end
  pub complete : (s : Parts) (log rest : Log) → HoldsState path s before log → after ≡ log ++ rest
      → faults after ≡ faults before → (GoesOn cpus ticks s log after (Err run_stop.Ticks) → ⊥)
      → (answer ≡ NoMemory) ⊎ ((status : ℕ) × ((answer ≡ Ended status) × GoesOn cpus ticks s log after (Ok status)))
  -- a file without a state is told as that
  pub bad_file : (f : Fault) (log rest : Log) → HoldsNone path before log f → after ≡ log ++ rest
      → faults after ≡ faults before → (answer ≡ NoMemory) ⊎ (answer ≡ BadFile)
  pub device : TellsFaults before after answer
  pub one : IsOne (ResumesFile cpus ticks path before after) answer
  pub room : FoundRoom before after answer

-- for every script and every file, whatever was replied
abbrev pub ScriptsAreDetermined : Type 0
ScriptsAreDetermined =
    (c : Call) (before after : Log) (answer : Outcome) → RunsScript c before after answer
    → ScriptIsDetermined c before after answer

abbrev pub FilesAreDetermined : Type 0
FilesAreDetermined =
    (cpus ticks : ℕ) (path : List ℕ) (before after : Log) (answer : Outcome)
    → ResumesFile cpus ticks path before after answer → FileIsDetermined cpus ticks path before after answer
