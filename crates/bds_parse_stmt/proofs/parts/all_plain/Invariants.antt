use Rattle.std.proofs.Common.{◌≡◌, drop}
use Rattle.bds_parse_stmt.specs.Parts.{all_plain}
use Rattle.bds_parse_stmt.proofs.parts.all_plain.Given as goal

abbrev pub invariant-loop-piece : goal.invariant-loop-piece
invariant-loop-piece l = all_plain (drop l.piece-index l.pieces) ≡ all_plain l.pieces
