use Rattle.std.proofs.Common.{◌≡◌, ◌+◌, ◌≤◌, length, ap, ◌∙◌, arith}
use Rattle.std.proofs.lemmas.List.{length_push}
use Rattle.bds_check_names.specs.Indexes.{count_first, first_of_name, place_or_none}
use Rattle.bds_check_names.specs.declared.locals.Local.{Local}
use Rattle.bds_check_names.proofs.LastPlaces.{count_most, index_pushed, first_zero, first_other}
use Rattle.bds_check_names.proofs.locals.Locals.push.Goals as goal

pub overflow_add-self : goal.overflow_add-self
overflow_add-self c =
    let most : count_first c.self.inside.locals ≤ length c.self.inside.locals = count_most c.self.inside.locals in
    let one_more : length c.push.new.self ≡ length c.self.inside.locals + 1 = ap length c.in_ok-push.ensures.ok ∙ length_push c.self.inside.locals _ in
    omega (arith, most, one_more, c.len-place.ensures, c.self.invariant.counted)

pub invariant_of-self-then-earlier-eq0 : goal.invariant_of-self-then-earlier-eq0
invariant_of-self-then-earlier-eq0 c =
    let added : Local = record { variable = c.args.variable; earlier = c.place_of-earlier.result } in
    let one : first_of_name c.place_of-earlier.result ≡ 1 = first_zero c.place_of-earlier.result c.if-earlier-eq0.true in
    index_pushed c.self.inside.locals c.push.new.self added c.self.inside.last.entries c.put_place.new.last.entries c.in_ok-name.name.items c.in_ok-push.ensures.ok (c.in_ok-name.ensures.items ∙ c.as_slice.ensures)
    c.self.inside.visible (c.self.inside.visible + 1) c.len-place.result c.self.invariant (c.place_of-earlier.ensures ∙ ap (place_or_none c.self.inside.last.entries) c.as_slice-2.ensures.value) c.len-place.ensures c.in-Ok.ensures.ok (omega (arith, one))

pub invariant_of-self-else-earlier-eq0 : goal.invariant_of-self-else-earlier-eq0
invariant_of-self-else-earlier-eq0 c =
    let added : Local = record { variable = c.args.variable; earlier = c.place_of-earlier.result } in
    let none : first_of_name c.place_of-earlier.result ≡ 0 = first_other c.place_of-earlier.result (omega (arith, c.if-earlier-eq0.false)) in
    index_pushed c.self.inside.locals c.push.new.self added c.self.inside.last.entries c.put_place.new.last.entries c.in_ok-name.name.items c.in_ok-push.ensures.ok (c.in_ok-name.ensures.items ∙ c.as_slice.ensures)
    c.self.inside.visible c.self.inside.visible c.len-place.result c.self.invariant (c.place_of-earlier.ensures ∙ ap (place_or_none c.self.inside.last.entries) c.as_slice-2.ensures.value) c.len-place.ensures c.in-Ok.ensures.ok (omega (arith, none))
