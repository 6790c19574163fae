use Rattle.bds_meaning.proofs.Earlier as earlier
use Rattle.bds_meaning.proofs.laws.needs_are_earlier.Goals as goal

pub returns : goal.returns
returns c = λ program. earlier.needs_are_earlier program
