use Rattle.std.proofs.Common.{◌≡◌, true, map, drop}
use Rattle.bds_tree.specs.StmtView.{part_of}
use Rattle.bds_check_typing.specs.GivenValues.{set_by}
use Rattle.bds_gen_stmt_code.specs.declared.body.Unfinished.{Unfinished}
use Rattle.bds_gen_unit.specs.Tops.{TopsWritten}
use Rattle.bds_gen_unit.proofs.top.write_tops.Given as goal

abbrev pub invariant-loop-part : goal.invariant-loop-part
invariant-loop-part l = record {
  so_far : (u : Unfinished) → TopsWritten (set_by l.settings) (map part_of (drop l.part-index l.parts)) l.unit u → TopsWritten (set_by l.settings) (map part_of l.parts) l.fn.unit u;
  high : l.unit.body.at_top ≡ true;
}
