use Rattle.bds_meaning_laws.proofs.Running.{histories_tell}
use Rattle.bds_meaning_laws.proofs.laws.histories_tell.Goals as goal

pub returns : goal.returns
returns c = histories_tell
