use Rattle.std.proofs.Common.{◌≡◌, ◌+◌, ◌≤◌, length, drop, map}
use Rattle.bds_tree.specs.StmtView.{part_of}
use Rattle.bds_gen_stmt.specs.UnitCode.{function_names}
use Rattle.bds_gen_unit.proofs.names.function_count.Given as goal

abbrev pub invariant-loop-part : goal.invariant-loop-part
invariant-loop-part l = record {
  so_far : l.count + length (function_names (map part_of (drop l.part-index l.parts))) ≡ length (function_names (map part_of l.parts));
  few : l.count ≤ l.part-index;
}
