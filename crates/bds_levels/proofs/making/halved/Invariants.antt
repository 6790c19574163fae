use Rattle.std.proofs.Common.{◌≡◌, ◌++◌, length}
use Rattle.bds_levels.specs.Least.{halved}
use Rattle.bds_levels.proofs.making.halved.Given as goal

abbrev pub invariant-loop-left : goal.invariant-loop-left
invariant-loop-left l = l.out ++ halved l.left ≡ halved l.numbers

abbrev pub decreases-loop-left : goal.decreases-loop-left
decreases-loop-left l = length l.left
