use Rattle.std.proofs.Common.{◌≡◌, List, ◌∷◌, ◌++◌, reverse, length}
use Rattle.bds_value.specs.declared.value.Value.{Value}
use Rattle.bds_code_frames.specs.Stack.{stack}
use Rattle.bds_ckpt.specs.Adding.{begun}
use Rattle.bds_ckpt.proofs.reading.frames.open_frame.Given as goal

abbrev pub invariant-loop-value : goal.invariant-loop-value
invariant-loop-value l = (done : List Value) × (stack l.frames ≡ begun l.function l.place done ∷ stack l.fn.frames) × (done ++ reverse l.values.items ≡ l.fn.slots)

abbrev pub decreases-loop-value : goal.decreases-loop-value
decreases-loop-value l = length l.values.items
