use Rattle.bds_check_laws.proofs.FirstBrokenLaws.{found-is-first}
use Rattle.bds_check_laws.proofs.laws.broken_nodes_are_first.Goals as goal

pub returns : goal.returns
returns c = found-is-first
