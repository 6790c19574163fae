use Rattle.std.proofs.Common.{◌≡◌, drop}
use Rattle.bds_goal.specs.Spreading.{all_marked, all_ahead}
use Rattle.bds_goal.proofs.spreading.visit_all.Given as goal

abbrev pub invariant-loop-i : goal.invariant-loop-i
invariant-loop-i l =
    (all_marked (drop l.i-index l.numbers) l.marks.items ≡ all_marked l.numbers l.fn.marks.items)
    × (all_ahead (drop l.i-index l.numbers) l.marks.items l.ahead.items ≡ all_ahead l.numbers l.fn.marks.items l.fn.ahead.items)
