use Rattle.std.proofs.Common.{◌≡◌, ◌+◌, ◌-◌, suc, length, sym, subst, arith}
use Rattle.std.proofs.lemmas.Grind.{common_steps}
use Rattle.bds_code_frames.specs.Stack.{stack}
use Rattle.bds_machine_values.proofs.Stepping.{Steps, made_of, step_held, step_there, steps_on}
use Rattle.bds_machine_values.proofs.route.take_path.Goals as goal

pub take_operand-requires : goal.take_operand-requires
take_operand-requires c =
    let kinds = c.args.kinds.now in
    let s = stack c.args.frames.now in
    let now = stack c.loop-i.frames in
    let i = c.loop-i.i - 1 in
    let next : c.loop-i.i ≡ suc i = omega (arith, c.loop-i-test.true) in
    let left = subst (λ n. Steps kinds s n now c.loop-i.steps.items) next c.loop-i.invariant.0 in
    step_held kinds s now c.loop-i.steps.items i (made_of kinds s c.requires) left (omega (arith, c.loop-i-test.true, c.loop-i.invariant.1))

pub step_of-requires : goal.step_of-requires
step_of-requires c =
    let kinds = c.args.kinds.now in
    let s = stack c.args.frames.now in
    let now = stack c.loop-i.frames in
    let i = c.loop-i.i - 1 in
    let next : c.loop-i.i ≡ suc i = omega (arith, c.loop-i-test.true) in
    let left = subst (λ n. Steps kinds s n now c.loop-i.steps.items) next c.loop-i.invariant.0 in
    step_there kinds s now (stack c.take_operand.new.self) c.loop-i.steps.items i c.take_operand.result (made_of kinds s c.requires) left (omega (arith, c.loop-i-test.true, c.loop-i.invariant.1)) c.take_operand.ensures

pub loop-i-preserved : goal.loop-i-preserved
loop-i-preserved c =
    let kinds = c.args.kinds.now in
    let s = stack c.args.frames.now in
    let now = stack c.loop-i.frames in
    let i = c.loop-i.i - 1 in
    let next : c.loop-i.i ≡ suc i = omega (arith, c.loop-i-test.true) in
    let left = subst (λ n. Steps kinds s n now c.loop-i.steps.items) next c.loop-i.invariant.0 in
    let step = steps_on kinds s now (stack c.take_operand.new.self) c.loop-i.steps.items i c.take_operand.result c.step_of.result left (omega (arith, c.loop-i-test.true, c.loop-i.invariant.1)) c.take_operand.ensures c.step_of.ensures in
    let count : length c.push.new.self.items + i ≡ length kinds = grind (arith, common_steps) in
    (subst (λ steps. Steps kinds s i (stack c.take_operand.new.self) steps) (sym c.in-Ok.ensures.items) step, count, omega (arith, c.loop-i.invariant.2, c.in-Ok.ensures.capacity))
