use Rattle.bds_gen_stmt.proofs.ParSizes.{program-size}
use Rattle.bds_gen_stmt.proofs.laws.units_have_their_size.Goals as goal

pub returns : goal.returns
returns c = λ ss args s. program-size ss args s
