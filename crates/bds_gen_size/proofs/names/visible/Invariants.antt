use Rattle.std.proofs.Common.{◌≡◌, ◌++◌, drop}
use Rattle.bds_gen_expr.specs.Numbers.{visible_locals}
use Rattle.bds_gen_size.proofs.names.visible.Given as goal

abbrev pub invariant-loop-i : goal.invariant-loop-i
invariant-loop-i l = l.seen ++ visible_locals (drop l.i l.locals) ≡ visible_locals l.locals
