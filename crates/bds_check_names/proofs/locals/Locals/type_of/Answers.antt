use Rattle.std.proofs.Common.{◌∙◌, sym, ap}
use Rattle.bds_check_names.specs.Indexes.{variables_of, type_at}
use Rattle.bds_check_names.proofs.LastPlaces.{type_place}
use Rattle.bds_check_names.proofs.locals.Locals.type_of.Goals as goal

pub returns : goal.returns
returns c =
    rw (← c.self.view_is, ← c.as_slice.ensures)
    (c.type_at.ensures ∙ ap (λ ls. type_at (variables_of ls) c.place_of-place.result) c.as_slice-2.ensures ∙
    ap (type_at (variables_of c.self.inside.locals)) (c.place_of-place.ensures ∙ c.self.invariant.last_places c.as_slice.result.now) ∙
    sym (type_place c.as_slice.result.now (variables_of c.self.inside.locals)))
