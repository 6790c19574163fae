use Rattle.std.proofs.Common.{rules, ◌≡◌, ◌+◌, ◌≤◌, subst, arith}
use Rattle.bds_value.specs.declared.value.Value.TheVariants as value
use Rattle.bds_code_frames.specs.Stack.{stack}
use Rattle.bds_machine.specs.Stretches.{Pushes}
use Rattle.bds_machine.proofs.Numbering.{read}
use Rattle.bds_machine.proofs.Pushing.{push_size, push_item}
use Rattle.bds_machine.proofs.Stretching.{variable_here, push_runs}
use Rattle.bds_machine.proofs.number_rows.seen.Goals as goal

pub variable-value-requires-clause-there : goal.variable-value-requires-clause-there
variable-value-requires-clause-there c =
    variable_here c.args.function.now c.args.at c.args.instr.now c.args.globals.now (stack c.args.frames.now) c.requires.here c.requires.runs.0 c.requires.runs.1 c.requires.variable

pub sized-requires : goal.sized-requires
sized-requires c =
    let g = c.args.globals.now in
    let s = stack c.args.frames.now in
    let a = c.variable-value.result.now in (
      g,
      c.requires.runs.0,
      s,
      push_runs c.args.function.now c.args.at c.args.instr.now g s c.requires.here a c.requires.runs.0 c.variable-value.ensures c.requires.runs.1,
    )

pub indexed-requires-clause-runs : goal.indexed-requires-clause-runs
indexed-requires-clause-runs c =
    let g = c.args.globals.now in
    let s = stack c.args.frames.now in
    let a = c.variable-value.result.now in
    (c.requires.runs.0, push_runs c.args.function.now c.args.at c.args.instr.now g s c.requires.here a c.requires.runs.0 c.variable-value.ensures c.requires.runs.1)

pub returns-in-Some : goal.returns-in-Some
returns-in-Some c =
    let f = c.args.function.now in
    let g = c.args.globals.now in
    let s = stack c.args.frames.now in
    let n = c.in-Some.number in
    let same : n ≡ read n = search rules in
    let near : c.args.at + 2 ≤ c.args.at + 3 = omega arith in
    let pushed = push_size f c.args.at c.args.instr.now c.requires.here g s c.variable-value.result.now (value.Int n) c.variable-value.ensures c.in-Some.ensures in
    let two : c.args.at + 1 + 1 ≡ c.args.at + 2 = omega arith in
    (subst (λ n. Pushes f c.args.at g s (value.Int n) (c.args.at + 2)) same (subst (Pushes f c.args.at g s (value.Int n)) two pushed), near)

pub returns-in-Some-indexed : goal.returns-in-Some-indexed
returns-in-Some-indexed c =
    let f = c.args.function.now in
    let g = c.args.globals.now in
    let s = stack c.args.frames.now in
    let n = c.in-Some-indexed.number in
    let same : n ≡ read n = search rules in
    let near : c.args.at + 3 ≤ c.args.at + 3 = omega arith in
    let pushed = push_item f c.args.at c.args.instr.now c.requires.here g s c.variable-value.result.now (value.Int n) c.variable-value.ensures c.in-Some-indexed.ensures in
    let three : c.args.at + 1 + 1 + 1 ≡ c.args.at + 3 = omega arith in
    (subst (λ n. Pushes f c.args.at g s (value.Int n) (c.args.at + 3)) same (subst (Pushes f c.args.at g s (value.Int n)) three pushed), near)
