use Rattle.bds_check_size.proofs.StmtBounds.{stmt-bound}
use Rattle.bds_check_size.proofs.laws.statements_are_small.Goals as goal

pub returns : goal.returns
returns c = stmt-bound
