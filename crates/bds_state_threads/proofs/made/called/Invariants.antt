use Rattle.std.proofs.Common.{◌≡◌, List, [], ◌∷◌, ◌++◌, reverse, length}
use Rattle.bds_value.specs.declared.value.Value.{Value}
use Rattle.bds_code_frames.specs.Stack.{stack, call_at}
use Rattle.bds_state_threads.proofs.made.called.Given as goal

abbrev pub invariant-loop-value : goal.invariant-loop-value
invariant-loop-value l = (slots : List Value) × (stack l.frames ≡ call_at l.function slots ∷ []) × (slots ++ reverse l.values.items ≡ l.fn.args)

abbrev pub decreases-loop-value : goal.decreases-loop-value
decreases-loop-value l = length l.values.items
