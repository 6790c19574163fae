-- A script of which it is known what its read came to, and whether its ticks suffice.
use Rattle.std.specs.Prelude.{◌≡◌, ◌++◌, []}
use Rattle.bds_host.specs.declared.faults.Fault.{Fault}
use Rattle.bds_host.specs.Host.{Log}
use Rattle.bds_meaning.specs.Begin.{Reading, Refusing, Running}
use Rattle.bds_meaning.specs.Run.{Program, Conf, Moves}
use Rattle.bds_schedule.specs.Stages.{Spent}
use Rattle.bds_schedule.specs.Steps.{Ends, Leads}
use Rattle.bds_app_run.specs.Job.{JobSteps}
use Rattle.bds_app_run.specs.declared.call.Call.{Call}

-- the script of a call was read and accepted, with what words set, with a log that has grown to this one since
pub record WasAccepted (c : Call) (before after : Log) : Type 0 where
  pub program : Program
  pub opening : Conf
  pub log : Log
  pub opens : Leads (JobSteps c) (Reading []) before (Running program opening) log
  pub rest : Log
  pub grown : after ≡ log ++ rest

-- it was read and refused for a fault
pub record WasRefused (c : Call) (before after : Log) : Type 0 where
  pub fault : Fault
  pub log : Log
  pub refuses : Leads (JobSteps c) (Reading []) before (Refusing fault) log
  pub rest : Log
  pub grown : after ≡ log ++ rest

-- the run of a script has used its ticks, and needs one more
abbrev pub IsSpent : Call → Log → Log → Type 0
IsSpent c before after =
    (program : Program)
    × ((at : Conf)
    × (Leads (JobSteps c) (Reading []) before (Running program at) after × Moves program at (Ends Spent)))
