use Rattle.bds_rules.proofs.FitLaws.{unfit_told}
use Rattle.bds_rules.proofs.laws.unfit_rules_are_told.Goals as goal

pub returns : goal.returns
returns c = unfit_told
