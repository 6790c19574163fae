use Rattle.std.proofs.Common.{◌≡◌, ◌<◌, ℕ, slice_get, Some}
use Rattle.bds_code_frames.specs.declared.frame.Frame.{Frame}
use Rattle.bds_state_threads.specs.Numbers.{FrameFits}
use Rattle.bds_state_threads.proofs.numbers.frames_fit.Given as goal

abbrev pub invariant-loop-i : goal.invariant-loop-i
invariant-loop-i l = (k : ℕ) → k < l.i → (f : Frame) → slice_get l.frames k ≡ Some f → FrameFits f
