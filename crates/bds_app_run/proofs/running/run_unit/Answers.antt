use Rattle.bds_schedule.specs.Steps.{Leads, Halts}
use Rattle.bds_app_run.proofs.Quiet.{nothing_added}
use Rattle.bds_app_run.proofs.RunLaws.{begun_ends}
use Rattle.bds_app_run.proofs.Saves.{begun_saves, quiet_run}
use Rattle.bds_app_run.specs.Job.{accepted_with}
use Rattle.bds_app_run.proofs.running.run_unit.Goals as goal

pub returns-in-Ok-clause-reaches : goal.returns-in-Ok-clause-reaches
returns-in-Ok-clause-reaches g c =
    begun_ends c.args.call.now c.args.typed.now _ _ c.units_run_as_scripts.ensures c.is_typed.ensures _ c.requires.unit c.args.path c.requires.path _ c.in-Ok.ensures c.run_from_point.result c.run_from_point.ensures

pub returns-in-Ok-clause-saves : goal.returns-in-Ok-clause-saves
returns-in-Ok-clause-saves g c =
    begun_saves c.args.call.now c.args.typed.now _ _ c.script_histories_go_on.ensures c.is_typed.ensures _ c.requires.unit c.args.path c.requires.path _ c.in-Ok.ensures c.run_from_point.result c.run_from_point.ensures

pub returns-in-Err-clause-reaches : goal.returns-in-Err-clause-reaches
returns-in-Err-clause-reaches g c = Halts.halts_at _ tt Leads.here

pub returns-in-Err-clause-saves : goal.returns-in-Err-clause-saves
returns-in-Err-clause-saves g c = quiet_run c.args.call.now _ _ (accepted_with c.args.typed.now) (nothing_added _)
