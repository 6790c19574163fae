use Rattle.std.proofs.Common.{◌≡◌, ◌+◌, length, ap, sym, ◌∙◌, reverse, Some, arith}
use Rattle.std.proofs.lemmas.Grind.{common_steps}
use Rattle.bds_code_frames.specs.Stack.{stack}
use Rattle.bds_machine_values.proofs.Taking.{one_more}
use Rattle.bds_machine_values.proofs.operands.take_all.Goals as goal

pub loop-preserved : goal.loop-preserved
loop-preserved c =
    let l = c.loop in
    let more = one_more l.counter (stack c.args.frames.now) (stack l.frames) (stack c.take_operand.new.self) l.taken.items c.take_operand.result l.invariant.0 c.take_operand.ensures in
    let count : length c.push.new.self.items ≡ l.counter + 1 = grind (arith, common_steps) in
    (more ∙ ap (λ taken. Some (reverse taken, stack c.take_operand.new.self)) (sym c.in-Ok.ensures.items), count, omega arith)
