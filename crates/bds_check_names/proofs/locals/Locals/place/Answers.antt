use Rattle.std.proofs.Common.{◌∙◌}
use Rattle.bds_check_names.proofs.locals.Locals.place.Goals as goal

pub returns : goal.returns
returns c = rw (← c.self.view_is, ← c.as_slice.ensures) (c.place_of.ensures ∙ c.self.invariant.last_places c.as_slice.result.now)
