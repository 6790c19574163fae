use Rattle.bds_meaning_laws.proofs.Jobs.{histories_keep_the_laws}
use Rattle.bds_meaning_laws.proofs.laws.histories_keep_the_laws.Goals as goal

pub returns : goal.returns
returns c = histories_keep_the_laws
