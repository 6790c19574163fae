use Rattle.bds_meaning.proofs.OneNext.{one_next}
use Rattle.bds_meaning.proofs.laws.next_step_is_one.Goals as goal

pub returns : goal.returns
returns c = λ program. one_next program
