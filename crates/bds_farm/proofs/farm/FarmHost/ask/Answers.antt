use Rattle.bds_farm.proofs.Farming.{farm_on, turned}
use Rattle.bds_farm.proofs.farm.FarmHost.ask.Goals as goal

pub invariant_of-self : goal.invariant_of-self
invariant_of-self g c =
    farm_on g.K.Farmed.submit g.K.Farmed.poll _ _ g.K.Farmed.start _ _ c.args.ask c.ask_and_store.result
    c.self.invariant.0 c.self.invariant.1 c.self.invariant.2 c.ask_and_store.ensures.turns

pub returns-clause-turns : goal.returns-clause-turns
returns-clause-turns g c =
    let turns = turned g.K.Farmed.submit g.K.Farmed.poll _ _ _ _ c.args.ask c.ask_and_store.result
    c.self.invariant.0 c.self.invariant.1 c.ask_and_store.ensures.turns in
    rw c.self.view_is at turns
