use Rattle.bds_schedule.specs.Steps.{Leads, Halts}
use Rattle.bds_app_run.specs.Job.{accepted_with}
use Rattle.bds_app_run.proofs.Quiet.{nothing_added}
use Rattle.bds_app_run.proofs.RunLaws.{opens_on_way}
use Rattle.bds_app_run.proofs.Saves.{quiet_if_fits}
use Rattle.bds_app_run.proofs.running.run_typed.Goals as goal

pub returns-in-Err-clause-reaches : goal.returns-in-Err-clause-reaches
returns-in-Err-clause-reaches g c = Halts.halts_at _ (opens_on_way _ _) Leads.here

pub returns-in-Err-clause-saves : goal.returns-in-Err-clause-saves
returns-in-Err-clause-saves g c = quiet_if_fits c.args.call.now _ _ (accepted_with c.args.typed.now) (nothing_added _)
