use Rattle.std.proofs.Common.{◌≤◌}
use Rattle.bds_machine.proofs.FarLooks.{Sofar}
use Rattle.bds_machine.proofs.ahead.far_look.Given as goal

abbrev pub invariant-loop-k : goal.invariant-loop-k
invariant-loop-k l = (l.depth ≤ l.k) × Sofar l.function l.at l.k l.depth
