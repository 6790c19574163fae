use Rattle.std.proofs.Common.{◌≡◌, ◌++◌, drop}
use Rattle.bds_gen_expr.specs.Numbers.{numbered_from}
use Rattle.bds_gen_expr.proofs.names.locals_of.Given as goal

abbrev pub invariant-loop-i : goal.invariant-loop-i
invariant-loop-i l = l.locals ++ numbered_from l.i (drop l.i l.names) (drop l.i (l.function.params ++ l.function.locals)) ≡ numbered_from 0 l.names (l.function.params ++ l.function.locals)
