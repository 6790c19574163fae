use Rattle.std.proofs.Common.{◌≡◌, ◌∙◌, sym, ap, slice_get, Some, None}
use Rattle.std.specs.Option.{option_map}
use Rattle.bds_gen_expr.specs.declared.scope.Numbered.{Numbered}
use Rattle.bds_gen_expr.specs.Indexes.{first_place, names_of}
use Rattle.bds_gen_expr.proofs.FirstPlaces.{number-there, number-none}
use Rattle.bds_gen_expr.proofs.globals.Globals.number_of.Goals as goal

pub returns-in-Some : goal.returns-in-Some
returns-in-Some c =
    let x = c.args.name.now in
    let some : first_place x (names_of c.self.inside.numbered) 0 ≡ Some c.in-Some.place = ap (λ ys. first_place x ys 0) (sym c.self.invariant) ∙ sym c.in-Some.ensures in
    rw (← c.self.view_is)
    (c.number_at.ensures ∙ ap (λ ns. option_map (λ (g : Numbered). g.number) (slice_get ns c.in-Some.place)) c.as_slice.ensures ∙ sym (number-there x c.self.inside.numbered c.in-Some.place some))

pub returns-in-None : goal.returns-in-None
returns-in-None c =
    let x = c.args.name.now in
    let none : first_place x (names_of c.self.inside.numbered) 0 ≡ None = ap (λ ys. first_place x ys 0) (sym c.self.invariant) ∙ sym c.in-None.ensures in
    rw (← c.self.view_is) (sym (number-none x c.self.inside.numbered none))
