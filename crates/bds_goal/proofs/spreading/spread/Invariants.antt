use Rattle.std.proofs.Common.{◌+◌, length}
use Rattle.bds_goal.specs.Spreading.{Spreading, unmarked}
use Rattle.bds_goal.proofs.spreading.spread.Given as goal

abbrev pub invariant-loop-i : goal.invariant-loop-i
invariant-loop-i l = Spreading l.edges l.fn.marks.items l.marks.items l.ahead.items

abbrev pub decreases-loop-i : goal.decreases-loop-i
decreases-loop-i l = unmarked l.marks.items + length l.ahead.items
