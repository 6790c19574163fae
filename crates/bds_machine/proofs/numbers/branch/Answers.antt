use Rattle.std.proofs.Common.{sym, ap, ◌∙◌}
use Rattle.bds_code_frames.specs.Stack.{stack, moved}
use Rattle.bds_machine.proofs.Stretching.{branch_sunk}
use Rattle.bds_machine.proofs.numbers.branch.Goals as goal

pub returns-in-JumpUnless-clause-done : goal.returns-in-JumpUnless-clause-done
returns-in-JumpUnless-clause-done c is =
    branch_sunk c.args.instr.now c.in-JumpUnless.to c.args.holds c.args.next (stack c.args.frames.now)
    (stack c.set_place.new.self) c.in-JumpUnless.is
    (ap (λ n. moved n (stack c.args.frames.now)) (sym c.target-to.ensures) ∙ c.set_place.ensures)
