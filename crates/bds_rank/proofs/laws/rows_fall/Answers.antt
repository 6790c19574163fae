use Rattle.bds_rank.proofs.Rows.{rows_fall}
use Rattle.bds_rank.proofs.laws.rows_fall.Goals as goal

pub returns : goal.returns
returns c = rows_fall
