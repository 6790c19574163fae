use Rattle.std.proofs.Common.{◌≡◌, Some, Ok}
use Rattle.bds_value.specs.declared.value.Value.TheVariants as value
use Rattle.bds_code_frames.specs.Stack.{stack}
use Rattle.bds_machine.specs.Stretches.{computed}
use Rattle.bds_machine.proofs.Numbering.{of_read}
use Rattle.bds_machine.proofs.Stretching.{operator_runs, operator_leads}
use Rattle.bds_machine.proofs.numbers.compare.Goals as goal

pub branch_at-requires-clause-runs : goal.branch_at-requires-clause-runs
branch_at-requires-clause-runs c =
    let i = c.args.instr.now in
    let a = c.args.a in
    let b = c.args.b in
    let truth = value.Bool c.in-Some.holds in
    let gives = of_read (λ a b. computed i (value.Int a) (value.Int b) ≡ Some (Ok truth)) a b c.ranges.a c.ranges.b c.in-Some.ensures in (
      c.requires.runs.0,
      operator_runs c.args.function.now c.args.at i c.requires.runs.0 (stack c.args.frames.now) c.requires.here (value.Int a) (value.Int b) truth gives c.requires.runs.1,
    )

pub returns-in-Some-clause-done : goal.returns-in-Some-clause-done
returns-in-Some-clause-done c is g =
    let i = c.args.instr.now in
    let a = c.args.a in
    let b = c.args.b in
    let truth = value.Bool c.in-Some.holds in
    let gives = of_read (λ a b. computed i (value.Int a) (value.Int b) ≡ Some (Ok truth)) a b c.ranges.a c.ranges.b c.in-Some.ensures in
    operator_leads c.args.function.now c.args.at i g (stack c.args.frames.now) c.requires.here (value.Int a) (value.Int b) truth g (stack c.branch_at.new.frames) gives (c.branch_at.ensures.done is g)
