use Rattle.bds_farm.proofs.Farming.{farm_new}
use Rattle.bds_farm.proofs.farm.Farm.new.Goals as goal

pub invariant_of-result : goal.invariant_of-result
invariant_of-result g c = (
  c.requires.submit,
  c.requires.poll,
  farm_new g.K.Farmed.submit g.K.Farmed.poll g.K.Farmed.start _ c.new-3.result c.new.result.items c.new-2.result.items
      c.requires.start c.new.ensures.items c.new-2.ensures.items c.new-3.ensures,
)
