use Rattle.bds_tools.proofs.Making.{made_more}
use Rattle.bds_tools.proofs.made_host.MadeHost.ask.Goals as goal

pub invariant_of-self-2 : goal.invariant_of-self-2
invariant_of-self-2 c = (c.self.invariant.0, c.self.invariant.1, made_more _ _ _ _ _ c.self.invariant.2 c.in_ok-kept.ensures.made c.in_ok-push.ensures.ok)
