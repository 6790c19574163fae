use Rattle.std.proofs.Common.{◌≡◌, length}
use Rattle.bds_state.specs.Holding.{KeepsLess}
use Rattle.bds_state.proofs.holders.lengthen.Given as goal

abbrev pub invariant-loop-i : goal.invariant-loop-i
invariant-loop-i l = KeepsLess l.fn.tasks l.tasks × (l.count ≡ length l.tasks) × (l.i ≡ length l.tasks)
