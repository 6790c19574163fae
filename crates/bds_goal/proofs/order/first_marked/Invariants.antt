use Rattle.std.proofs.Common.{◌≡◌, drop}
use Rattle.std.specs.List.{list_any}
use Rattle.bds_goal.specs.Marks.{first_marked, is_marked}
use Rattle.bds_goal.proofs.order.first_marked.Given as goal

abbrev pub invariant-loop-n : goal.invariant-loop-n
invariant-loop-n l = (list_any (is_marked l.marks) (drop l.n-index l.numbers) ≡ list_any (is_marked l.marks) l.numbers) × (first_marked l.marks (drop l.n-index l.numbers) ≡ first_marked l.marks l.numbers)
