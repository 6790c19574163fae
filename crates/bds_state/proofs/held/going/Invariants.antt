use Rattle.std.proofs.Common.{◌≤◌, length}
use Rattle.bds_state.proofs.held.going.Given as goal

abbrev pub invariant-loop-i : goal.invariant-loop-i
invariant-loop-i l = l.i ≤ length l.ids
