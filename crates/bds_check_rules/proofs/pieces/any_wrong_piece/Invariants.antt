use Rattle.std.proofs.Common.{◌≡◌, drop}
use Rattle.std.specs.List.{list_any}
use Rattle.bds_check_rules.specs.Pieces.{is_wrong_piece}
use Rattle.bds_check_rules.proofs.pieces.any_wrong_piece.Given as goal

abbrev pub invariant-loop-piece : goal.invariant-loop-piece
invariant-loop-piece l = list_any (is_wrong_piece l.names) (drop l.piece-index l.text) ≡ list_any (is_wrong_piece l.names) l.text
