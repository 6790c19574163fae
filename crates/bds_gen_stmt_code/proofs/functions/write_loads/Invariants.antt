use Rattle.std.proofs.Common.{◌≡◌, drop}
use Rattle.bds_gen_expr.specs.Marks.{written}
use Rattle.bds_gen_expr.specs.Numbers.{visible_locals}
use Rattle.bds_gen_stmt.specs.StmtCode.{loads_code}
use Rattle.bds_gen_stmt_code.proofs.functions.write_loads.Given as goal

abbrev pub invariant-loop-i : goal.invariant-loop-i
invariant-loop-i l = written l.function (loads_code l.at (visible_locals (drop l.i l.locals))) ≡ written l.fn.function (loads_code l.at (visible_locals l.locals))
