use Rattle.std.proofs.Common.{◌≤◌, length}
use Rattle.bds_parse_stmt_parts.specs.Reading.{many_onto}
use Rattle.bds_parse_stmt.specs.Parts.{next_parameter}
use Rattle.bds_parse_stmt_parts.proofs.Many.{Loops}
use Rattle.bds_parse_stmt.proofs.parts.more_parameters.Given as goal

abbrev pub invariant-loop-items : goal.invariant-loop-items
invariant-loop-items l = record {
  shorter : length l.rest ≤ length l.tokens;
  same : Loops next_parameter l.items l.rest (many_onto next_parameter l.fn.first l.tokens);
}

abbrev pub decreases-loop-items : goal.decreases-loop-items
decreases-loop-items l = length l.rest
