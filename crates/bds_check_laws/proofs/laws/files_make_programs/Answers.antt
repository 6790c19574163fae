use Rattle.std.proofs.Common.{◌≡◌, Some}
use Rattle.bds_check_laws.proofs.JoinedFiles.{files-program}
use Rattle.bds_check_laws.proofs.laws.files_make_programs.Goals as goal

pub returns : goal.returns
returns c = λ tree_of legal. files-program (λ p tree. tree_of p ≡ Some tree) legal
