use Rattle.std.proofs.Common.{◌≡◌, ◌-◌, ◌+◌, arith}
use Rattle.bds_check_names.specs.Indexes.{count_first, first_of_name}
use Rattle.bds_check_names.proofs.LastPlaces.{has_place, count_popped, index_popped, first_zero, first_other}
use Rattle.bds_check_names.proofs.locals.Locals.pop.Goals as goal

pub put_back-requires : goal.put_back-requires
put_back-requires c = has_place c.pop.new.self c.self.inside.locals c.in-Some.local c.self.inside.last.entries c.self.inside.last.entries c.into_vec.result.items c.in-Some.ensures.items c.into_vec.ensures c.self.inside.visible c.self.invariant

pub overflow_sub-self : goal.overflow_sub-self
overflow_sub-self c =
    let sum : c.self.inside.visible ≡ count_first c.pop.new.self + first_of_name c.in-Some.local.earlier =
    count_popped c.pop.new.self c.self.inside.locals c.in-Some.local c.self.inside.last.entries c.self.inside.last.entries c.into_vec.result.items c.in-Some.ensures.items c.into_vec.ensures c.self.inside.visible c.self.invariant in
    let one : first_of_name c.in-Some.local.earlier ≡ 1 = first_zero c.in-Some.local.earlier c.if-earlier-eq0.true in
    omega (arith, sum, one)

pub invariant_of-self : goal.invariant_of-self
invariant_of-self c =
    let sum : c.self.inside.visible ≡ count_first c.pop.new.self + first_of_name c.in-Some.local.earlier =
    count_popped c.pop.new.self c.self.inside.locals c.in-Some.local c.self.inside.last.entries c.self.inside.last.entries c.into_vec.result.items c.in-Some.ensures.items c.into_vec.ensures c.self.inside.visible c.self.invariant in
    let one : first_of_name c.in-Some.local.earlier ≡ 1 = first_zero c.in-Some.local.earlier c.if-earlier-eq0.true in
    index_popped c.pop.new.self c.self.inside.locals c.in-Some.local c.self.inside.last.entries c.put_back.new.last.entries c.into_vec.result.items c.in-Some.ensures.items c.into_vec.ensures
    c.self.inside.visible (c.self.inside.visible - 1) c.self.invariant c.put_back.ensures (omega (arith, sum, one))

pub invariant_of-self-else-earlier-eq0 : goal.invariant_of-self-else-earlier-eq0
invariant_of-self-else-earlier-eq0 c =
    let none : first_of_name c.in-Some.local.earlier ≡ 0 = first_other c.in-Some.local.earlier (omega (arith, c.if-earlier-eq0.false)) in
    index_popped c.pop.new.self c.self.inside.locals c.in-Some.local c.self.inside.last.entries c.put_back.new.last.entries c.into_vec.result.items c.in-Some.ensures.items c.into_vec.ensures
    c.self.inside.visible c.self.inside.visible c.self.invariant c.put_back.ensures (omega (arith, none))
