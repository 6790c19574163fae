use Rattle.std.proofs.Common.{ap, is_some, ◌∙◌}
use Rattle.bds_lib.proofs.KeyLaws.{there_is}
use Rattle.bds_lib.proofs.maps.has_key.Goals as goal

pub returns-in-Some : goal.returns-in-Some
returns-in-Some c = ap is_some c.in-Some.ensures ∙ there_is c.args.key.now c.args.pairs.now

pub returns-in-None : goal.returns-in-None
returns-in-None c = ap is_some c.in-None.ensures ∙ there_is c.args.key.now c.args.pairs.now
