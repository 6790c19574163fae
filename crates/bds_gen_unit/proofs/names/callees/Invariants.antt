use Rattle.std.proofs.Common.{◌≡◌, ◌++◌, drop, map}
use Rattle.bds_tree.specs.StmtView.{part_of}
use Rattle.bds_gen_expr.specs.Numbers.{callees_from}
use Rattle.bds_gen_stmt.specs.UnitCode.{function_names}
use Rattle.bds_gen_unit.proofs.names.callees.Given as goal

abbrev pub invariant-loop-part : goal.invariant-loop-part
invariant-loop-part l = l.callees ++ callees_from l.number (function_names (map part_of (drop l.part-index l.parts))) ≡ callees_from 1 (function_names (map part_of l.parts))
