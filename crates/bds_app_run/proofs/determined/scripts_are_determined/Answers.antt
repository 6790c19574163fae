use Rattle.bds_app_run.proofs.DeterminedLaws.{scripts_are_determined}
use Rattle.bds_app_run.proofs.determined.scripts_are_determined.Goals as goal

pub returns : goal.returns
returns c = scripts_are_determined c.script_is_refused_or_run.ensures c.log_has_one_end.ensures
