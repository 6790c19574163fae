use Rattle.std.proofs.Common.{◌≤◌, [], length}
use Rattle.bds_parse_stmt_parts.specs.Reading.{next_command, many_onto}
use Rattle.bds_parse_stmt_parts.proofs.Many.{Loops}
use Rattle.bds_parse_stmt_parts.proofs.acts.commands.Given as goal

abbrev pub invariant-loop-items : goal.invariant-loop-items
invariant-loop-items l = record {
  shorter : length l.rest ≤ length l.tokens;
  same : Loops next_command l.items l.rest (many_onto next_command [] l.tokens);
}

abbrev pub decreases-loop-items : goal.decreases-loop-items
decreases-loop-items l = length l.rest
