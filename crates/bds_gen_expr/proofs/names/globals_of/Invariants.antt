use Rattle.std.proofs.Common.{◌≡◌, ◌≤◌, drop, reverse, length}
use Rattle.bds_gen_expr.specs.Numbers.{numbered_from}
use Rattle.bds_gen_expr.proofs.names.globals_of.Given as goal

abbrev pub invariant-loop-i : goal.invariant-loop-i
invariant-loop-i l = (l.globals ≡ reverse (numbered_from l.i (drop l.i l.names) (drop l.i l.types))) × (l.i ≤ length l.names)
