use Rattle.bds_gen_stmt.proofs.Distinct.{unit-small}
use Rattle.bds_gen_stmt.proofs.laws.units_are_small.Goals as goal

pub returns : goal.returns
returns c = λ ss args s typed. unit-small ss args s typed
