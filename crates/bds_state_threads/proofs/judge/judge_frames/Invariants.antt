use Rattle.std.proofs.Common.{◌≡◌, ◌<◌, ℕ, slice_get, Some}
use Rattle.bds_code_frames.specs.declared.frame.Frame.{Frame}
use Rattle.bds_state_threads.specs.Judged.{IsFrame}
use Rattle.bds_state_threads.proofs.judge.judge_frames.Given as goal

abbrev pub invariant-loop-i : goal.invariant-loop-i
invariant-loop-i l = (k : ℕ) (x : Frame) → k < l.i → slice_get l.frames k ≡ Some x → IsFrame l.unit l.frames k x
