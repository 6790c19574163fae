use Rattle.std.proofs.Common.{◌≡◌, ◌++◌, drop}
use Rattle.bds_goal.specs.Spreading.{marked_from}
use Rattle.bds_goal.proofs.spreading.marked.Given as goal

abbrev pub invariant-loop-i : goal.invariant-loop-i
invariant-loop-i l = l.found.items ++ marked_from l.i (drop l.i l.marks) ≡ marked_from 0 l.marks
