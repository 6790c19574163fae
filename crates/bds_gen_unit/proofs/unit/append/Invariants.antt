use Rattle.std.proofs.Common.{◌≡◌, ◌++◌, length, reverse}
use Rattle.bds_gen_unit.proofs.unit.append.Given as goal

abbrev pub invariant-loop-function : goal.invariant-loop-function
invariant-loop-function l = l.functions ++ reverse l.left ≡ l.fn.functions ++ l.fn.more

abbrev pub decreases-loop-function : goal.decreases-loop-function
decreases-loop-function l = length l.left
