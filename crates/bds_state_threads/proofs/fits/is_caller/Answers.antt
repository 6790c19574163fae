use Rattle.std.proofs.Common.{sym}
use Rattle.std.specs.Bool.{Decides}
use Rattle.std.proofs.lemmas.Result.{IfOk-weaker}
use Rattle.bds_state_threads.specs.Judged.{HasRest, IsCaller}
use Rattle.bds_state_threads.proofs.Placed.{caller-decides}
use Rattle.bds_state_threads.proofs.fits.is_caller.Goals as goal

pub returns : goal.returns
returns c =
    let u = c.args.unit.now in
    let f = c.args.function.now in
    let g = c.in-Some.called.now in
    let os = c.args.operands.now in
    let shape = c.args.shape.now in
    IfOk-weaker c.has_rest.result (λ b. Decides b (HasRest os shape g.ret)) (λ b. Decides b (IsCaller u f c.args.callee c.args.place os shape))
    (λ b d. caller-decides u f c.args.callee c.args.place os shape g b (sym c.in-Some.ensures) (c.is_called_from.ensures.0 c.if-not-is_called_from.false) d) c.has_rest.ensures
