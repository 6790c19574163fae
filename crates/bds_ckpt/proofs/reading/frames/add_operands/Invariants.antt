use Rattle.std.proofs.Common.{◌≡◌, List, ◌++◌, reverse, length}
use Rattle.bds_value.specs.declared.value.Value.{Value}
use Rattle.bds_code_frames.specs.Stack.{stack}
use Rattle.bds_ckpt.specs.Adding.{more_operands}
use Rattle.bds_ckpt.proofs.reading.frames.add_operands.Given as goal

abbrev pub invariant-loop-value : goal.invariant-loop-value
invariant-loop-value l = (done : List Value) × (stack l.frames ≡ more_operands done (stack l.fn.frames)) × (done ++ reverse l.rest.items ≡ l.fn.operands)

abbrev pub decreases-loop-value : goal.decreases-loop-value
decreases-loop-value l = length l.rest.items
