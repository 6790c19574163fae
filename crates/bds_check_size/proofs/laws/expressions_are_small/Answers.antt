use Rattle.bds_check_size.proofs.Bounds.{expr-bound}
use Rattle.bds_check_size.proofs.laws.expressions_are_small.Goals as goal

pub returns : goal.returns
returns c = expr-bound
