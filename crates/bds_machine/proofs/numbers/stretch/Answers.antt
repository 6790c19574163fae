use Rattle.std.proofs.Common.{rules, refl, ◌≡◌, [], ◌∷◌, IsSome, sym, subst}
use Rattle.bds_value.specs.declared.value.Value.TheVariants as value
use Rattle.bds_code_frames.specs.Stack.{stack, popped, pushed}
use Rattle.bds_machine.specs.Stretches.{with_pushed, Runs, Leads}
use Rattle.bds_machine.proofs.Numbering.{read}
use Rattle.bds_machine.proofs.Pushing.{pushes_runs, pushes_leads}
use Rattle.bds_machine.proofs.Resting.{there_pushed, pushes_rests}
use Rattle.bds_machine.proofs.Seeing.{some_value}
use Rattle.bds_machine.proofs.Stretching.{sink_there, sink_leads}
use Rattle.bds_machine.proofs.Tops.{last_runs, last_leads, sink_popped}
use Rattle.bds_machine.proofs.numbers.stretch.Goals as goal

pub pushed-requires-clause-runs : goal.pushed-requires-clause-runs
pushed-requires-clause-runs c = ([], c.requires.runs)

pub go_on-requires-clause-runs : goal.go_on-requires-clause-runs
go_on-requires-clause-runs c =
    let f = c.args.function.now in
    let g = c.args.globals.now in
    let s = stack c.args.frames.now in
    let a = c.in-Some.a in
    let same : a.number ≡ read a.number = search rules in
    subst (λ n. Runs f a.next (value.Int n ∷ []) g s) same (pushes_runs f c.args.at a.next g s (value.Int a.number)
    c.in-Some.ensures.0 [] c.requires.runs)

pub rest-requires : goal.rest-requires
rest-requires c =
    let v = value.Int (read c.in-Some.a.number) in
    subst (λ fs. IsSome (pushed v (stack fs))) (sym (c.in-None-go_on.ensures.same refl).1)
    (there_pushed c.args.function.now c.args.at [] c.args.globals.now (stack c.args.frames.now) v c.requires.runs)

pub returns-in-Some-go_on-clause-done : goal.returns-in-Some-go_on-clause-done
returns-in-Some-go_on-clause-done c is =
    let f = c.args.function.now in
    let g = c.args.globals.now in
    let s = stack c.args.frames.now in
    let g' = c.go_on.new.globals in
    let s' = stack c.go_on.new.frames in
    let a = c.in-Some.a in
    let same : a.number ≡ read a.number = search rules in
    pushes_leads f c.args.at a.next g s (value.Int a.number) c.in-Some.ensures.0 [] g' s'
    (subst (λ n. Leads f a.next (value.Int n ∷ []) g s g' s') (sym same) (c.in-Some-go_on.ensures.done refl))

pub returns-in-None-go_on-clause-done : goal.returns-in-None-go_on-clause-done
returns-in-None-go_on-clause-done c is =
    let mid = c.go_on.new.frames in
    let s' = stack c.rest.new.frames in
    let a = c.in-Some.a in
    let same : a.number ≡ read a.number = search rules in
    pushes_rests c.args.function.now c.args.at a.next c.args.globals.now c.go_on.new.globals c.args.frames.now mid s'
    (value.Int a.number) c.in-Some.ensures.0
    (c.in-None-go_on.ensures.same refl)
    (subst (λ n. s' ≡ with_pushed (value.Int n ∷ []) a.next (stack mid)) (sym same) (c.rest.ensures.done is))

pub sink_last-requires-clause-some : goal.sink_last-requires-clause-some
sink_last-requires-clause-some c is = sink_popped c.args.function.now c.args.at c.args.instr.now c.args.globals.now
    (stack c.args.frames.now) c.requires.here is c.requires.runs

pub sink_last-requires-clause-there : goal.sink_last-requires-clause-there
sink_last-requires-clause-there c is v s1 taken =
    let f = c.args.function.now in
    let g = c.args.globals.now in
    sink_there f c.args.at c.args.instr.now g s1 c.requires.here v
    (last_runs v (stack c.args.frames.now) s1 taken f c.args.at g c.requires.runs) is

pub returns-in-None-clause-done : goal.returns-in-None-clause-done
returns-in-None-clause-done c is =
    let f = c.args.function.now in
    let i = c.args.instr.now in
    let g = c.args.globals.now in
    let s = stack c.args.frames.now in
    let g' = c.sink_last.new.globals in
    let s' = stack c.sink_last.new.frames in
    let done = c.sink_last.ensures.done is in
    let r = some_value (popped s) (sink_popped f c.args.at i g s c.requires.here done.0 c.requires.runs) in
    let v = r.0.0 in
    let s1 = r.0.1 in
    last_leads v s s1 r.1 f c.args.at g g' s' (sink_leads f c.args.at i g s1 c.requires.here v g' s' done.0
    (done.1 v s1 r.1))
