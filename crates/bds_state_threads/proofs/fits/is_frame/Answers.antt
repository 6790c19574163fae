use Rattle.std.proofs.Common.{◌≡◌, ℕ, List, slice_get, Some}
use Rattle.std.specs.Bool.{Decides}
use Rattle.std.specs.List.{All}
use Rattle.std.proofs.lemmas.Result.{IfOk-weaker}
use Rattle.bds_value.specs.Fields.{IsFieldValue}
use Rattle.bds_code_frames.specs.declared.frame.Frame.{Frame}
use Rattle.bds_verify.specs.Threads.{Shapes, AreAllShapes}
use Rattle.bds_state_threads.specs.Fields.{IsFieldFrame}
use Rattle.bds_state_threads.specs.Judged.{frame_of, IsPlaced, IsFrame}
use Rattle.bds_state_threads.proofs.Placed.{frame-parts, frame-decides, part-held}
use Rattle.bds_state_threads.proofs.fits.is_frame.Goals as goal

pub is_placed-requires-clause-slots : goal.is_placed-requires-clause-slots
is_placed-requires-clause-slots c = part-held IsFieldFrame (All IsFieldValue) (λ (f : Frame). f.slots) (λ f h. h.slots.each) c.args.frames.now c.args.i c.slots.result.now c.requires.values c.slots.ensures

pub is_placed-requires-clause-operands : goal.is_placed-requires-clause-operands
is_placed-requires-clause-operands c =
    part-held IsFieldFrame (All IsFieldValue) (λ (f : Frame). f.operands) (λ f h. h.operands.each) c.args.frames.now c.args.i c.operands.result.now c.requires.values c.operands.ensures

pub returns : goal.returns
returns c =
    let u = c.args.unit.now in
    let frames = c.args.frames.now in
    let i = c.args.i in
    let next = c.next_function-next.result in
    let here = c.head-here.result in
    let y : Frame = frame_of here.0 here.1 c.slots.result.now c.operands.result.now in
    IfOk-weaker c.is_placed.result (λ b. (shapes : Shapes u) → AreAllShapes u shapes → Decides b (IsPlaced u shapes next y)) (λ b. (x : Frame) → slice_get frames i ≡ Some x → Decides b (IsFrame u frames i x))
    (λ b d x e. frame-decides u c.requires.verified frames i next y x b c.next_function-next.ensures
    (frame-parts frames i x here c.slots.result.now c.operands.result.now c.head-here.ensures c.slots.ensures c.operands.ensures e) d) c.is_placed.ensures
