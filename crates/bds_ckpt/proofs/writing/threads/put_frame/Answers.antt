use Rattle.std.proofs.Common.{◌≤◌, ◌++◌, length, ap, ◌∙◌}
use Rattle.std.specs.List.{All}
use Rattle.std.proofs.lemmas.Result.{on_ok_weaker}
use Rattle.bds_value.specs.declared.TheConstants.{MAX_COUNT}
use Rattle.bds_value.specs.Spelling.{IsWithinLimits}
use Rattle.bds_code_frames.specs.declared.frame.Frame.{Frame}
use Rattle.bds_code_frames.specs.Counts.{IsCounted}
use Rattle.bds_state.specs.StateSpelling.{frame_field}
use Rattle.bds_state_threads.proofs.Placed.{frame-parts, part-held}
use Rattle.bds_ckpt.specs.Short.{IsShortFrame}
use Rattle.bds_ckpt.proofs.writing.threads.put_frame.Goals as goal

pub put_call-requires-clause-slots : goal.put_call-requires-clause-slots
put_call-requires-clause-slots c = record {
  count = part-held IsCounted (λ vs. length vs ≤ MAX_COUNT) (λ (f : Frame). f.slots) (λ f h. h.slots) c.args.frames.now c.args.i c.slots.result.now c.are_counted.ensures c.slots.ensures;
  each = part-held IsShortFrame (All IsWithinLimits) (λ (f : Frame). f.slots) (λ f h. h.slots) c.args.frames.now c.args.i c.slots.result.now c.requires.short c.slots.ensures;
}

pub put_call-requires-clause-operands : goal.put_call-requires-clause-operands
put_call-requires-clause-operands c = record {
  count = part-held IsCounted (λ vs. length vs ≤ MAX_COUNT) (λ (f : Frame). f.operands) (λ f h. h.operands) c.args.frames.now c.args.i c.operands.result.now c.are_counted.ensures c.operands.ensures;
  each = part-held IsShortFrame (All IsWithinLimits) (λ (f : Frame). f.operands) (λ f h. h.operands) c.args.frames.now c.args.i c.operands.result.now c.requires.short c.operands.ensures;
}

pub returns : goal.returns
returns c = on_ok_weaker c.put_call.result
    (λ e f at. e ∙ ap (λ (x : Frame). c.args.out.now.items ++ frame_field x) (frame-parts c.args.frames.now c.args.i f c.head-function.result c.slots.result.now c.operands.result.now c.head-function.ensures c.slots.ensures c.operands.ensures at))
    c.put_call.ensures
