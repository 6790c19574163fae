use Rattle.std.proofs.Common.{rules, ◌≡◌, ◌+◌, ◌≤◌, subst, arith}
use Rattle.bds_value.specs.declared.value.Value.TheVariants as value
use Rattle.bds_code_frames.specs.Stack.{stack}
use Rattle.bds_machine.specs.Stretches.{Pushes}
use Rattle.bds_machine.proofs.Numbering.{read}
use Rattle.bds_machine.proofs.Pushing.{push_one}
use Rattle.bds_machine.proofs.Stretching.{variable_here}
use Rattle.bds_machine.proofs.number_rows.pushed.Goals as goal

pub number-requires : goal.number-requires
number-requires c = variable_here c.args.function.now c.args.at c.args.instr.now c.args.globals.now (stack c.args.frames.now) c.requires.here c.requires.runs.0 c.requires.runs.1

pub returns-in-Some : goal.returns-in-Some
returns-in-Some c =
    let f = c.args.function.now in
    let g = c.args.globals.now in
    let s = stack c.args.frames.now in
    let n = c.in-Some.number in
    let same : n ≡ read n = search rules in
    let near : c.args.at + 1 ≤ c.args.at + 3 = omega arith in
    (subst (λ n. Pushes f c.args.at g s (value.Int n) (c.args.at + 1)) same (push_one f c.args.at c.args.instr.now c.requires.here g s (value.Int n) c.in-Some.ensures), near)
