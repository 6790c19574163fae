use Rattle.std.proofs.Common.{◌∙◌, sym, ap, nat_lt}
use Rattle.bds_check_names.specs.Indexes.{variables_of}
use Rattle.bds_check_names.proofs.LastPlaces.{any_place}
use Rattle.bds_check_names.proofs.locals.Locals.is_named_behind.Goals as goal

pub returns : goal.returns
returns c =
    rw (← c.self.view_is, ← c.as_slice.ensures)
    (ap (nat_lt c.args.start) (c.place_of.ensures ∙ c.self.invariant.last_places c.as_slice.result.now) ∙ sym (any_place c.as_slice.result.now (variables_of c.self.inside.locals) c.args.start))
