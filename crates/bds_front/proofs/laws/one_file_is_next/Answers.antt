use Rattle.bds_front.proofs.OneStep.{one_next_file}
use Rattle.bds_front.proofs.laws.one_file_is_next.Goals as goal

pub returns : goal.returns
returns c = one_next_file c.text_spells_one_script.ensures
