use Rattle.std.proofs.Common.{◌≡◌, length, take}
use Rattle.bds_state.specs.Holding.{HoldsNone, KeepsLess}
use Rattle.bds_state.proofs.holders.let_all_go.Given as goal

abbrev pub invariant-loop-i : goal.invariant-loop-i
invariant-loop-i l =
    HoldsNone l.task (take l.i l.threads) l.tasks × KeepsLess l.fn.tasks l.tasks × (length l.tasks ≡ length l.fn.tasks)
