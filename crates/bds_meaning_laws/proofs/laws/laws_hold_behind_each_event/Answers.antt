use Rattle.bds_meaning_laws.proofs.Living.{laws_hold_behind_each_event}
use Rattle.bds_meaning_laws.proofs.laws.laws_hold_behind_each_event.Goals as goal

pub returns : goal.returns
returns c = laws_hold_behind_each_event
