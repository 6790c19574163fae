use Rattle.std.proofs.Common.{◌≡◌, ◌++◌, take}
use Rattle.std.specs.List.{flat_map}
use Rattle.bds_state.specs.StateSpelling.{frame_field}
use Rattle.bds_ckpt.proofs.writing.threads.put_each_frame.Given as goal

abbrev pub invariant-loop-i : goal.invariant-loop-i
invariant-loop-i l = l.out.items ≡ l.fn.out.items ++ flat_map frame_field (take l.i l.frames)
