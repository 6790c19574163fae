use Rattle.std.proofs.Common.{rules, ◌≡◌, ◌+◌, [], ◌∷◌, Some, Ok, IsSome, sym, subst}
use Rattle.bds_value.specs.declared.value.Value.TheVariants as value
use Rattle.bds_code_frames.specs.Stack.{stack}
use Rattle.bds_machine.specs.Stretches.{sunk, Runs, Leads}
use Rattle.bds_machine.proofs.Numbering.{read, same_number, to_read}
use Rattle.bds_machine.proofs.Pushing.{pushes_runs, pushes_leads}
use Rattle.bds_machine.proofs.Stretching.{code_there, sink_there, sink_leads}
use Rattle.bds_machine.proofs.numbers.go_on.Goals as goal

pub instr_at-instr-requires : goal.instr_at-instr-requires
instr_at-instr-requires c = code_there c.args.function.now c.args.at (value.Int c.args.a ∷ []) c.args.globals.now
    (stack c.args.frames.now) c.requires.runs

pub pushed-requires-clause-runs : goal.pushed-requires-clause-runs
pushed-requires-clause-runs c = (value.Int c.args.a ∷ [], c.requires.runs)

pub operate-requires-clause-runs : goal.operate-requires-clause-runs
operate-requires-clause-runs c =
    let f = c.args.function.now in
    let g = c.args.globals.now in
    let s = stack c.args.frames.now in
    let a = c.args.a in
    let b = c.in-Some.b in
    let same : b.number ≡ read b.number = search rules in
    to_read (λ a b'. Runs f b.next (value.Int b' ∷ value.Int a ∷ []) g s) a b.number (same_number a c.ranges.a) same
    (pushes_runs f c.args.at b.next g s (value.Int b.number) c.in-Some.ensures.0 (value.Int a ∷ []) c.requires.runs)

pub sink-requires : goal.sink-requires
sink-requires c is =
    let i = c.instr_at-instr.result.now in
    let g = c.args.globals.now in
    let s = stack c.args.frames.now in
    subst (λ a. IsSome (sunk i (value.Int a) (c.args.at + 1) g s)) (same_number c.args.a c.ranges.a)
    (sink_there c.args.function.now c.args.at i g s c.instr_at-instr.ensures (value.Int c.args.a) c.requires.runs is)

pub returns-in-Some-clause-done : goal.returns-in-Some-clause-done
returns-in-Some-clause-done c is =
    let f = c.args.function.now in
    let g = c.args.globals.now in
    let s = stack c.args.frames.now in
    let g' = c.operate.new.globals in
    let s' = stack c.operate.new.frames in
    let a = c.args.a in
    let b = c.in-Some.b in
    let same : b.number ≡ read b.number = search rules in
    pushes_leads f c.args.at b.next g s (value.Int b.number) c.in-Some.ensures.0 (value.Int a ∷ []) g' s'
    (to_read (λ a b'. Leads f b.next (value.Int b' ∷ value.Int a ∷ []) g s g' s') (read a) (read b.number)
    (sym (same_number a c.ranges.a)) (sym same) (c.operate.ensures.done is))

pub returns-in-None-clause-done : goal.returns-in-None-clause-done
returns-in-None-clause-done c is =
    let i = c.instr_at-instr.result.now in
    let g = c.args.globals.now in
    let s = stack c.args.frames.now in
    let g' = c.sink.new.globals in
    let s' = stack c.sink.new.frames in
    let done = c.sink.ensures.done is in
    sink_leads c.args.function.now c.args.at i g s c.instr_at-instr.ensures (value.Int c.args.a) g' s' done.0
    (subst (λ a. sunk i (value.Int a) (c.args.at + 1) g s ≡ Some (Ok (g', s'))) (sym (same_number c.args.a c.ranges.a))
    done.1)
