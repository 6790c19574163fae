use Rattle.bds_check_words.proofs.FittingGlobals.{typed-with}
use Rattle.bds_check_words.proofs.laws.given_values_fit.Goals as goal

pub returns : goal.returns
returns c = typed-with
