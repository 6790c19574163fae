use Rattle.std.proofs.Common.{◌≡◌, slice_get, Some, sym, subst}
use Rattle.std.specs.Bool.{Decides}
use Rattle.std.proofs.lemmas.Result.{IfOk-weaker}
use Rattle.bds_code.specs.declared.unit.Unit.{Unit as CodeUnit}
use Rattle.bds_code_frames.specs.declared.frame.Frame.{Frame}
use Rattle.bds_verify.specs.Threads.{Shapes, AreAllShapes}
use Rattle.bds_state_threads.specs.Judged.{frame_of, HasOperands, IsPlaced}
use Rattle.bds_state_threads.proofs.Placed.{place-decides}
use Rattle.bds_state_threads.proofs.fits.is_placed.Goals as goal

pub returns : goal.returns
returns c =
    let u = c.args.unit.now in
    let f = c.in-Some.function.now in
    let next = c.args.next in
    let head = c.args.head in
    let os = c.args.operands.now in
    let x : Frame = frame_of head.0 head.1 c.args.slots.now os in
    let there : slice_get u.functions head.0 ≡ Some f = subst (λ (w : CodeUnit). slice_get w.functions head.0 ≡ Some f) c.unit.ensures.same (sym c.in-Some.ensures) in
    let inside = c.in_ok-is_in.ensures.0 c.if-not-branch.false in
    IfOk-weaker c.has_operands_at.result (λ b. (shapes : Shapes u) → AreAllShapes u shapes → Decides b (HasOperands u f next head.1 os (shapes head.0 head.1)))
    (λ b. (shapes : Shapes u) → AreAllShapes u shapes → Decides b (IsPlaced u shapes next x)) (λ b d shapes judged. place-decides u next x f there inside shapes b (d shapes judged)) c.has_operands_at.ensures
