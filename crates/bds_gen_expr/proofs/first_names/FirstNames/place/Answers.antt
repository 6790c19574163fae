use Rattle.std.proofs.Common.{◌≡◌, ◌∙◌, sym, Some, None}
use Rattle.bds_gen_expr.specs.Indexes.{first_place}
use Rattle.bds_gen_expr.proofs.first_names.FirstNames.place.Goals as goal

pub returns-in-Some : goal.returns-in-Some
returns-in-Some c =
    let some : first_place c.as_slice.result.now c.self.inside.names 0 ≡ Some c.in-Some.place.now = sym (c.self.invariant c.as_slice.result.now) ∙ sym c.in-Some.ensures.value in
    rw (← c.self.view_is, ← c.as_slice.ensures) (sym some)

pub returns-in-None : goal.returns-in-None
returns-in-None c =
    let none : first_place c.as_slice.result.now c.self.inside.names 0 ≡ None = sym (c.self.invariant c.as_slice.result.now) ∙ sym c.in-None.ensures.value in
    rw (← c.self.view_is, ← c.as_slice.ensures) (sym none)
