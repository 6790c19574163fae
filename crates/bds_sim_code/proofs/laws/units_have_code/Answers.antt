use Rattle.bds_sim_code.proofs.Program.{unit_codes}
use Rattle.bds_sim_code.proofs.laws.units_have_code.Goals as goal

pub returns : goal.returns
returns c = λ ss args s here. unit_codes ss args s here
