use Rattle.std.proofs.Common.{[], length, map}
use Rattle.bds_tree.specs.StmtView.{part_of}
use Rattle.bds_parse_stmt_parts.specs.Reading.{many_onto}
use Rattle.bds_parse_stmt.specs.Parts.{next_part}
use Rattle.bds_parse_stmt_parts.proofs.Many.{Loops}
use Rattle.bds_parse_stmt.proofs.parts.parts.Given as goal

abbrev pub invariant-loop-items : goal.invariant-loop-items
invariant-loop-items l = record {
  same : Loops next_part (map part_of l.items) l.rest (many_onto next_part [] l.tokens);
}

abbrev pub decreases-loop-items : goal.decreases-loop-items
decreases-loop-items l = length l.rest
