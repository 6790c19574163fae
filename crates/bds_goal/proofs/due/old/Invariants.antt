use Rattle.std.proofs.Common.{◌≡◌, ◌+◌, ◌++◌, drop}
use Rattle.bds_goal.specs.Due.{old_from, old_marks}
use Rattle.bds_goal.specs.Goals.{stamp_in}
use Rattle.bds_goal.proofs.due.old.Given as goal

abbrev pub invariant-loop-i : goal.invariant-loop-i
invariant-loop-i l = l.old.items ++ old_from (stamp_in l.files l.stamps) l.tasks l.marks (l.i + 1) (drop l.i l.rules) ≡ old_marks (stamp_in l.files l.stamps) l.tasks l.marks l.rules
