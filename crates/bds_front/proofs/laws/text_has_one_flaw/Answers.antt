use Rattle.bds_front.proofs.OneScript.{one_flaw}
use Rattle.bds_front.proofs.laws.text_has_one_flaw.Goals as goal

pub returns : goal.returns
returns c = one_flaw
