use Rattle.bds_meaning_laws.proofs.Living.{histories_live_in_one}
use Rattle.bds_meaning_laws.proofs.laws.histories_live_in_one.Goals as goal

pub returns : goal.returns
returns c = histories_live_in_one
