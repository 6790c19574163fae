use Rattle.bds_parse_stmt.proofs.Theorem.{only_one}
use Rattle.bds_parse_stmt.proofs.whole.at_most_one.Goals as goal

pub returns : goal.returns
returns c = only_one
