use Rattle.bds_engine_parts.proofs.Naming.{strange_number, same_number}
use Rattle.bds_engine_parts.proofs.ids.number_in.Goals as goal

pub returns-in_default : goal.returns-in_default
returns-in_default c = strange_number c.args.text.now c.in_default.ensures.cases.0

pub returns : goal.returns
returns c = same_number c.args.text.now c.in-Ok.text.now c.number_of.result c.in-Ok.ensures.cases.0 c.number_of.ensures
