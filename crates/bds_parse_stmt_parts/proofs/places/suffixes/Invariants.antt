use Rattle.std.proofs.Common.{◌≤◌, [], length, map}
use Rattle.bds_tree.specs.StmtView.{suffix_of}
use Rattle.bds_parse_stmt_parts.specs.Reading.{next_suffix, many_onto}
use Rattle.bds_parse_stmt_parts.proofs.Many.{Loops}
use Rattle.bds_parse_stmt_parts.proofs.places.suffixes.Given as goal

abbrev pub invariant-loop-items : goal.invariant-loop-items
invariant-loop-items l = record {
  shorter : length l.rest ≤ length l.tokens;
  same : Loops (next_suffix l.most) (map suffix_of l.items) l.rest (many_onto (next_suffix l.most) [] l.tokens);
}

abbrev pub decreases-loop-items : goal.decreases-loop-items
decreases-loop-items l = length l.rest
