use Rattle.bds_app_run.proofs.DeterminedLaws.{files_are_determined}
use Rattle.bds_app_run.proofs.determined.files_are_determined.Goals as goal

pub returns : goal.returns
returns c = files_are_determined c.ends_have_causes.ensures c.states_are_read_back.ensures.one
