-- What a job does: all that is asked, with the replies, and the answer.
use Rattle.std.specs.Prelude.{◌≡◌, Bool, true, false}
use Rattle.bds_app_run.specs.Commands.{ResumesFile, RunsScript}
use Rattle.bds_app_run.specs.Saves.{SavesCheckpoints}
use Rattle.bds_app_run.specs.declared.call.Call.{Call}
use Rattle.bds_app_run.specs.declared.outcome.Outcome.{Outcome}
use Rattle.bds_host.specs.Host.{Log}
use Rattle.bds_replay.specs.declared.log.Job.{Job}

-- the script that a job runs
abbrev pub call_of : Job → Call
call_of j = record { path = j.path; cpus = j.cpus; ticks = j.ticks; words = j.words }

-- whether a file is resumed
abbrev pub DoesAs : Bool → Job → Log → Log → Outcome → Type 0
DoesAs true j before after answer = ResumesFile j.cpus j.ticks j.path before after answer
DoesAs false j before after answer = RunsScript (call_of j) before after answer

-- a file is resumed, or a script is run
abbrev pub DoesJob : Job → Log → Log → Outcome → Type 0
DoesJob j before after answer = DoesAs j.resume j before after answer

-- what the run of a script saves are checkpoints of its history
abbrev pub SavesIfScript : Job → Log → Log → Type 0
SavesIfScript j before after = j.resume ≡ false → SavesCheckpoints (call_of j) before after
