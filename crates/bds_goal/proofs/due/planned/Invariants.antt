use Rattle.std.proofs.Common.{◌≡◌, ◌+◌, ◌++◌, drop}
use Rattle.bds_goal.specs.Due.{planned_from, planned_marks}
use Rattle.bds_goal.proofs.due.planned.Given as goal

abbrev pub invariant-loop-i : goal.invariant-loop-i
invariant-loop-i l = l.planned.items ++ planned_from l.tasks l.marks l.due (l.i + 1) (drop l.i l.rules) ≡ planned_marks l.tasks l.marks l.due l.rules
