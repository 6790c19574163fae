use Rattle.bds_tasks.proofs.FitLaws.{unfit_told}
use Rattle.bds_tasks.proofs.laws.unfit_tasks_are_told.Goals as goal

pub returns : goal.returns
returns c = unfit_told
