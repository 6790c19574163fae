use Rattle.bds_front.proofs.OneScript.{flawed_unless_spelled}
use Rattle.bds_front.proofs.laws.text_is_flawed_unless_spelled.Goals as goal

pub returns : goal.returns
returns c = flawed_unless_spelled
