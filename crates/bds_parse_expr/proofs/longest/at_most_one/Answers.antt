use Rattle.bds_parse_expr.proofs.Theorem.{only_longest}
use Rattle.bds_parse_expr.proofs.longest.at_most_one.Goals as goal

pub returns : goal.returns
returns c = only_longest
