use Rattle.bds_goal.specs.Marks.{Reversing}
use Rattle.bds_goal.proofs.needed.reversed.Given as goal

abbrev pub invariant-loop-i : goal.invariant-loop-i
invariant-loop-i l = Reversing l.edges l.users l.i
