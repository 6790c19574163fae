use Rattle.std.proofs.Common.{◌∙◌}
use Rattle.bds_check_names.proofs.LastPlaces.{counted}
use Rattle.bds_check_names.proofs.locals.Locals.visible.Goals as goal

pub returns : goal.returns
returns c = rw (← c.self.view_is) (c.self.invariant.counted ∙ counted c.self.inside.locals c.self.invariant.linked)
