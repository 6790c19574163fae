use Rattle.bds_machine.proofs.LeftBehind.{counted}
use Rattle.bds_machine.proofs.behind.types_count_answers.Goals as goal

pub returns : goal.returns
returns c = counted
