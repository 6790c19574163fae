use Rattle.std.proofs.Common.{◌≡◌, drop}
use Rattle.std.specs.List.{list_any}
use Rattle.bds_goal.specs.Marks.{is_marked}
use Rattle.bds_goal.proofs.marks.any_marked.Given as goal

abbrev pub invariant-loop-i : goal.invariant-loop-i
invariant-loop-i l = list_any (is_marked l.marks) (drop l.i-index l.numbers) ≡ list_any (is_marked l.marks) l.numbers
