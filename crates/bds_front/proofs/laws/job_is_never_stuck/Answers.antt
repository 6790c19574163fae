use Rattle.bds_front.proofs.Onward.{never_stuck}
use Rattle.bds_front.proofs.laws.job_is_never_stuck.Goals as goal

pub returns : goal.returns
returns c = never_stuck c.text_is_flawed_unless_spelled.ensures c.flaws_are_told.ensures
