use Rattle.bds_front.proofs.OneStep.{has_one_program}
use Rattle.bds_front.proofs.laws.files_make_one_program.Goals as goal

pub returns : goal.returns
returns c = has_one_program c.text_spells_one_script.ensures
