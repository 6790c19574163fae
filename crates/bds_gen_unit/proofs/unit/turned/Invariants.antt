use Rattle.std.proofs.Common.{◌≡◌, ◌++◌, length, reverse}
use Rattle.bds_gen_unit.proofs.unit.turned.Given as goal

abbrev pub invariant-loop-function : goal.invariant-loop-function
invariant-loop-function l = l.turned ++ reverse l.left ≡ reverse l.fn.functions

abbrev pub decreases-loop-function : goal.decreases-loop-function
decreases-loop-function l = length l.left
