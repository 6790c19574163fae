-- A job never answers that words weren't understood.
use Rattle.std.proofs.Common.{◌≢◌, ◌∙◌, ℕ, List, Bool, true, false, Result, Ok, Err, sym}
use Rattle.bds_host.specs.Host.{Log}
use Rattle.bds_meaning.specs.Begin.{JobEnd, ran, refused}
use Rattle.bds_schedule.specs.Stages.{Done, Spent, DeviceFault}
use Rattle.bds_engine_parts.specs.declared.stop.RunStop.{RunStop}
use Rattle.bds_engine_parts.specs.declared.stop.RunStop.TheVariants as run_stop
use Rattle.bds_replay.specs.declared.log.Job.{Job}
use Rattle.bds_app_run.specs.Commands.{OpensFile, ResumesFile, RunsScript, outcome_of, run_outcome}
use Rattle.bds_app_run.specs.Telling.{Says, TellsDevice}
use Rattle.bds_app_run.specs.declared.call.Call.{Call}
use Rattle.bds_app_run.specs.declared.outcome.Outcome.{Outcome}
use Rattle.bds_app_run.specs.declared.outcome.Outcome.TheVariants.{BadFile, Words}
use Rattle.bds_app_run.specs.Jobs.{DoesAs, DoesJob, call_of}

no_end : (end : JobEnd) → outcome_of end ≢ Words
no_end (ran (Done status)) e = cc e
no_end (ran Spent) e = cc e
no_end (ran DeviceFault) e = cc e
no_end refused e = cc e

no_run : (r : Result ℕ RunStop) → run_outcome r ≢ Words
no_run (Ok status) e = cc e
no_run (Err run_stop.Device) e = cc e
no_run (Err run_stop.Ticks) e = cc e
no_run (Err run_stop.NoMemory) e = cc e

script_answers : (c : Call) (before after : Log) (o : Outcome) → RunsScript c before after o → o ≢ Words
script_answers c before after _ (RunsScript.came end l) e = no_end end e
script_answers c before after _ (RunsScript.no_memory h) e = cc e

device_answers : (before after : Log) (o : Outcome) → TellsDevice before after o → o ≢ Words
device_answers before after _ (TellsDevice.told_so r a) e = cc e
device_answers before after _ (TellsDevice.untold room) e = cc e

says_answers : (text : List ℕ) (before after : Log) (o : Outcome) → Says text BadFile before after o → o ≢ Words
says_answers text before after _ (Says.said a) e = cc e
says_answers text before after o (Says.faulted log _ a t) e = device_answers log after o t e
says_answers text before after _ (Says.no_memory room) e = cc e

file_answers : (cpus ticks : ℕ) (path : List ℕ) (before after : Log) (o : Outcome)
    → ResumesFile cpus ticks path before after o → o ≢ Words
file_answers cpus ticks path before after o (OpensFile.held s log _ holds h) e = no_run h.0 (sym h.1.1 ∙ e)
file_answers cpus ticks path before after o (OpensFile.bad_file f log _ none told) e = says_answers _ log after o told e
file_answers cpus ticks path before after o (OpensFile.unread log _ a told) e = device_answers log after o told e
file_answers cpus ticks path before after _ (OpensFile.unloaded lacked) e = cc e

answers_as : (b : Bool) (j : Job) (before after : Log) (o : Outcome) → DoesAs b j before after o → o ≢ Words
answers_as true j before after o h = file_answers j.cpus j.ticks j.path before after o h
answers_as false j before after o h = script_answers (call_of j) before after o h

pub never_words : (j : Job) (before after : Log) (o : Outcome) → DoesJob j before after o → o ≢ Words
never_words j before after o h = answers_as j.resume j before after o h
