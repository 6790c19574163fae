-- proofs/functions/Functions/is_among_first/Answers.antt
use Rattle.std.proofs.Common.{◌≡◌, ◌∙◌, sym, None, Some}
use Rattle.bds_check_names.specs.Indexes.{first_place}
use Rattle.bds_check_names.proofs.Places.{among_first, none_among_first}
use Rattle.bds_check_names.proofs.functions.Functions.is_among_first.Goals as goal

pub returns-in-Some : goal.returns-in-Some
returns-in-Some c =
    let some : first_place c.as_slice.result.now c.self.inside.heads 0 ≡ Some c.in-Some.place.now = sym (c.self.invariant c.as_slice.result.now) ∙ sym c.in-Some.ensures.value in
    rw (← c.self.view_is, ← c.as_slice.ensures) (sym (among_first c.as_slice.result.now c.self.inside.heads c.in-Some.place.now c.args.count some))

pub returns-in-None : goal.returns-in-None
returns-in-None c =
    let none : first_place c.as_slice.result.now c.self.inside.heads 0 ≡ None = sym (c.self.invariant c.as_slice.result.now) ∙ sym c.in-None.ensures.value in
    rw (← c.self.view_is, ← c.as_slice.ensures) (sym (none_among_first c.as_slice.result.now c.self.inside.heads c.args.count none))
