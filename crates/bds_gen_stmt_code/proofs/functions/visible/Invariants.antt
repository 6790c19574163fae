use Rattle.std.proofs.Common.{◌≡◌, ◌++◌, drop, length}
use Rattle.bds_gen_expr.specs.Numbers.{visible_locals}
use Rattle.bds_gen_stmt.specs.FunctionCode.{renumbered, types_of}
use Rattle.bds_gen_stmt_code.proofs.functions.visible.Given as goal

abbrev pub invariant-loop-i : goal.invariant-loop-i
invariant-loop-i l = record {
  locals : l.parameters.locals ++ renumbered (visible_locals (drop l.i l.locals)) (length l.parameters.types) ≡ renumbered (visible_locals l.locals) 0;
  types : l.parameters.types ++ types_of (visible_locals (drop l.i l.locals)) ≡ types_of (visible_locals l.locals);
}
