use Rattle.bds_meaning_laws.proofs.Histories.{good_ends_are_last}
use Rattle.bds_meaning_laws.proofs.laws.good_ends_stay.Goals as goal

pub returns : goal.returns
returns c = good_ends_are_last
