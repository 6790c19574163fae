use Rattle.bds_value.proofs.methods.text_method.Goals as goal

pub returns : goal.returns
returns c = c.find_row.ensures
