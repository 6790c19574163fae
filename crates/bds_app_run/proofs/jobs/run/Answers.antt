use Rattle.std.proofs.Common.{[]}
use Rattle.bds_app_run.specs.Jobs.{call_of}
use Rattle.bds_app_run.specs.Commands.{RunsScript}
use Rattle.bds_app_run.proofs.Quiet.{nothing_added}
use Rattle.bds_app_run.proofs.Saves.{quiet_call}
use Rattle.bds_meaning.specs.Begin.{Reading}
use Rattle.bds_schedule.specs.Steps.{Leads, Halts}
use Rattle.bds_app_run.proofs.jobs.run.Goals as goal

pub returns-in-Err-clause-does : goal.returns-in-Err-clause-does
returns-in-Err-clause-does g c = RunsScript.no_memory (Halts.halts_at (Reading []) tt Leads.here)

pub returns-in-Err-clause-saves : goal.returns-in-Err-clause-saves
returns-in-Err-clause-saves g c = quiet_call (call_of c.args.job.now) _ _ (nothing_added _)
