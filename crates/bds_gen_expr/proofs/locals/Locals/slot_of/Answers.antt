use Rattle.std.proofs.Common.{◌∙◌, sym, ap}
use Rattle.bds_check_names.specs.Indexes.{last_place}
use Rattle.bds_gen_expr.specs.Indexes.{number_at_place}
use Rattle.bds_gen_expr.proofs.LastNumbers.{number_place}
use Rattle.bds_gen_expr.proofs.locals.Locals.slot_of.Goals as goal

pub returns : goal.returns
returns c =
    rw (← c.self.view_is)
    (c.number_at_place.ensures ∙ ap (λ ns. number_at_place ns c.place.result) c.as_slice.ensures
    ∙ ap (number_at_place c.self.inside.numbered) (c.place.ensures ∙ ap (last_place c.args.name.now) c.self.invariant) ∙ sym (number_place c.args.name.now c.self.inside.numbered))
