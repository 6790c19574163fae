use Rattle.std.proofs.Common.{subst}
use Rattle.bds_farm.specs.Farming.{IsFarm}
use Rattle.bds_farm.proofs.farm.Farm.into_inner.Goals as goal

pub returns-clause-farm : goal.returns-clause-farm
returns-clause-farm g c =
    subst (λ r. IsFarm g.K.Farmed.submit g.K.Farmed.poll g.K.Farmed.start r) c.self.view_is c.self.invariant.2
