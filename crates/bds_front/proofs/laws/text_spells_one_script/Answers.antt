use Rattle.bds_front.proofs.OneScript.{spells_one}
use Rattle.bds_front.proofs.laws.text_spells_one_script.Goals as goal

pub returns : goal.returns
returns c = spells_one c.at_most_one.ensures
