use Rattle.std.proofs.Common.{rules, refl, ◌≡◌, ◌+◌, [], ◌∷◌, Some, Ok, IsSome, sym, subst}
use Rattle.bds_value.specs.declared.value.Value.TheVariants as value
use Rattle.bds_code_frames.specs.Stack.{stack, pushed}
use Rattle.bds_machine.specs.Stretches.{computed, with_pushed, Runs, Leads}
use Rattle.bds_machine.proofs.Numbering.{of_read, read}
use Rattle.bds_machine.proofs.Resting.{there_pushed, operator_rests}
use Rattle.bds_machine.proofs.Stretching.{code_there, operator_runs, operator_leads}
use Rattle.bds_machine.proofs.numbers.operate.Goals as goal

pub instr_at-instr-requires : goal.instr_at-instr-requires
instr_at-instr-requires c = code_there c.args.function.now c.args.at (value.Int c.args.b ∷ value.Int c.args.a ∷ [])
    c.args.globals.now (stack c.args.frames.now) c.requires.runs

pub sink_at-requires-clause-runs : goal.sink_at-requires-clause-runs
sink_at-requires-clause-runs c =
    let f = c.args.function.now in
    let i = c.instr_at-instr.result.now in
    let g = c.args.globals.now in
    let s = stack c.args.frames.now in
    let a = c.args.a in
    let b = c.args.b in
    let n = c.in-Some.n in
    let same : n ≡ read n = search rules in
    let gives = of_read (λ a b. computed i (value.Int a) (value.Int b) ≡ Some (Ok (value.Int n))) a b c.ranges.a
    c.ranges.b c.in-Some.ensures in
    subst (λ n. Runs f (c.args.at + 1) (value.Int n ∷ []) g s) same
    (operator_runs f c.args.at i g s c.instr_at-instr.ensures (value.Int a) (value.Int b) (value.Int n) gives
    c.requires.runs)

pub rest-requires : goal.rest-requires
rest-requires c =
    let a = value.Int c.args.a in
    let b = value.Int c.args.b in
    let fs = c.args.frames.now in
    let v = value.Int (read c.in-Some.n) in
    subst (λ fs. IsSome (pushed v (stack fs))) (sym (c.in-None-sink_at.ensures.same refl).1)
    (there_pushed c.args.function.now c.args.at (b ∷ a ∷ []) c.args.globals.now (stack fs) v c.requires.runs)

pub returns-in-Some-sink_at-clause-done : goal.returns-in-Some-sink_at-clause-done
returns-in-Some-sink_at-clause-done c is =
    let f = c.args.function.now in
    let i = c.instr_at-instr.result.now in
    let g = c.args.globals.now in
    let s = stack c.args.frames.now in
    let g' = c.sink_at.new.globals in
    let s' = stack c.sink_at.new.frames in
    let a = c.args.a in
    let b = c.args.b in
    let n = c.in-Some.n in
    let same : n ≡ read n = search rules in
    let gives = of_read (λ a b. computed i (value.Int a) (value.Int b) ≡ Some (Ok (value.Int n))) a b c.ranges.a
    c.ranges.b c.in-Some.ensures in
    operator_leads f c.args.at i g s c.instr_at-instr.ensures (value.Int a) (value.Int b) (value.Int n) g' s' gives
    (subst (λ n. Leads f (c.args.at + 1) (value.Int n ∷ []) g s g' s') (sym same)
    (c.in-Some-sink_at.ensures.done refl))

pub returns-in-None-sink_at-clause-done : goal.returns-in-None-sink_at-clause-done
returns-in-None-sink_at-clause-done c is =
    let f = c.args.function.now in
    let i = c.instr_at-instr.result.now in
    let g = c.args.globals.now in
    let mid = c.sink_at.new.frames in
    let s' = stack c.rest.new.frames in
    let a = c.args.a in
    let b = c.args.b in
    let n = c.in-Some.n in
    let same : n ≡ read n = search rules in
    let gives = of_read (λ a b. computed i (value.Int a) (value.Int b) ≡ Some (Ok (value.Int n))) a b c.ranges.a
    c.ranges.b c.in-Some.ensures in
    operator_rests f c.args.at i g c.sink_at.new.globals c.args.frames.now mid s' (value.Int a) (value.Int b)
    (value.Int n) c.instr_at-instr.ensures gives
    (c.in-None-sink_at.ensures.same refl)
    (subst (λ n. s' ≡ with_pushed (value.Int n ∷ []) (c.args.at + 1) (stack mid)) (sym same) (c.rest.ensures.done is))

pub returns-in-None-clause-done : goal.returns-in-None-clause-done
returns-in-None-clause-done c is =
    let g = c.args.globals.now in
    of_read (λ a b. Leads c.args.function.now c.args.at (value.Int b ∷ value.Int a ∷ []) g (stack c.args.frames.now) g
    (stack c.compare.new.frames)) c.args.a c.args.b c.ranges.a c.ranges.b (c.compare.ensures.done is g)
