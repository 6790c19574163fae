use Rattle.std.proofs.Common.{sym, subst, IfOk}
use Rattle.std.specs.Bool.{Decides}
use Rattle.bds_state_threads.specs.Judged.{HasOperands}
use Rattle.bds_state_threads.proofs.fits.has_operands.Goals as goal

pub returns-in-Some : goal.returns-in-Some
returns-in-Some c =
    subst (λ next. IfOk c.is_caller.result (λ b. Decides b (HasOperands c.args.unit.now c.args.function.now next c.args.place c.args.operands.now c.args.shape.now))) (sym c.in-Some.is) c.is_caller.ensures
