use Rattle.std.proofs.Common.{◌≡◌, ◌+◌, [], ◌∷◌, Some, Ok, IsSome, sym, subst}
use Rattle.bds_value.specs.declared.value.Value.TheVariants as value
use Rattle.bds_code_frames.specs.Stack.{stack}
use Rattle.bds_machine.specs.Stretches.{sunk}
use Rattle.bds_machine.proofs.Numbering.{same_number}
use Rattle.bds_machine.proofs.Stretching.{code_there, sink_there, sink_leads}
use Rattle.bds_machine.proofs.numbers.sink_at.Goals as goal

pub instr_at-instr-requires : goal.instr_at-instr-requires
instr_at-instr-requires c = code_there c.args.function.now c.args.at (value.Int c.args.n ∷ []) c.args.globals.now
    (stack c.args.frames.now) c.requires.runs

pub sink-requires : goal.sink-requires
sink-requires c is =
    let i = c.instr_at-instr.result.now in
    let g = c.args.globals.now in
    let s = stack c.args.frames.now in
    subst (λ n. IsSome (sunk i (value.Int n) (c.args.at + 1) g s)) (same_number c.args.n c.ranges.n)
    (sink_there c.args.function.now c.args.at i g s c.instr_at-instr.ensures (value.Int c.args.n) c.requires.runs is)

pub returns-clause-done : goal.returns-clause-done
returns-clause-done c is =
    let i = c.instr_at-instr.result.now in
    let g = c.args.globals.now in
    let s = stack c.args.frames.now in
    let done = c.sink.ensures.done is in
    sink_leads c.args.function.now c.args.at i g s c.instr_at-instr.ensures (value.Int c.args.n) c.sink.new.globals
    (stack c.sink.new.frames) done.0
    (subst (λ n. sunk i (value.Int n) (c.args.at + 1) g s ≡ Some (Ok (c.sink.new.globals, stack c.sink.new.frames)))
    (sym (same_number c.args.n c.ranges.n)) done.1)
