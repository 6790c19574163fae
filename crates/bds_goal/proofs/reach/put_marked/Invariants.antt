use Rattle.std.proofs.Common.{◌≡◌, ◌+◌, ◌++◌, drop}
use Rattle.bds_goal.specs.Collected.{collected, files_from}
use Rattle.bds_goal.proofs.reach.put_marked.Given as goal

abbrev pub invariant-loop-i : goal.invariant-loop-i
invariant-loop-i l = l.out ++ files_from l.marks (l.i + 1) (drop l.i l.rules) ≡ collected l.rules l.marks l.fn.out
