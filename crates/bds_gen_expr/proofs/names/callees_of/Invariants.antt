use Rattle.std.proofs.Common.{◌≡◌, ◌≤◌, drop, reverse, length}
use Rattle.bds_gen_expr.specs.Numbers.{callees_from}
use Rattle.bds_gen_expr.proofs.names.callees_of.Given as goal

abbrev pub invariant-loop-i : goal.invariant-loop-i
invariant-loop-i l = (l.callees ≡ reverse (callees_from l.i (drop l.i l.names))) × (l.i ≤ length l.names)
