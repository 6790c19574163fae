use Rattle.std.proofs.Common.{refl, ap, sym, ◌∙◌}
use Rattle.bds_check_typing.specs.Walk.{placed}
use Rattle.bds_check_stmt_parts.proofs.places.close_place.Goals as goal

pub returns-in-Some : goal.returns-in-Some
returns-in-Some c = rw (← c.as_slice.ensures) (ap (placed c.args.place.now.at)
    (sym (c.in_ok-rule.ensures c.args.place.now.at) ∙ c.in-Some.is))

pub returns-in-None : goal.returns-in-None
returns-in-None c = (
  rw (← c.as_slice.ensures) (ap (placed c.args.place.now.at) (sym (c.in_ok-rule.ensures c.args.place.now.at)
      ∙ c.in-None.is)),
  refl,
)
