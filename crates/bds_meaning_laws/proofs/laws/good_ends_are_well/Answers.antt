use Rattle.bds_meaning_laws.proofs.Changes.{good_ends_are_well}
use Rattle.bds_meaning_laws.proofs.laws.good_ends_are_well.Goals as goal

pub returns : goal.returns
returns c = good_ends_are_well
