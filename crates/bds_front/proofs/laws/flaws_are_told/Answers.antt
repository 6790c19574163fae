use Rattle.bds_lex.proofs.StepsSuffice.{tokens_of_told}
use Rattle.bds_front.proofs.OneScript.{tells_flaws}
use Rattle.bds_front.proofs.laws.flaws_are_told.Goals as goal

pub returns : goal.returns
returns c = tells_flaws tokens_of_told
