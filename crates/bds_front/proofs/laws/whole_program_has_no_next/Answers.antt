use Rattle.bds_front.proofs.OneStep.{none_next_where_whole}
use Rattle.bds_front.proofs.laws.whole_program_has_no_next.Goals as goal

pub returns : goal.returns
returns c = none_next_where_whole c.text_spells_one_script.ensures
