use Rattle.bds_machine_values.proofs.values.text_shown.Goals as goal

pub returns : goal.returns
returns c = c.text_value.ensures _ c.text_of.ensures
