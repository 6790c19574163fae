use Rattle.bds_check_laws.proofs.BrokenFiles.{broken-in-file}
use Rattle.bds_check_laws.proofs.laws.broken_nodes_are_in_files.Goals as goal

pub returns : goal.returns
returns c = broken-in-file
