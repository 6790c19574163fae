use Rattle.std.proofs.Common.{◌≡◌, drop}
use Rattle.std.specs.List.{list_any}
use Rattle.bds_check_rules.specs.Pieces.{any_name}
use Rattle.bds_check_names.specs.Scopes.{is_missing}
use Rattle.bds_check_rules.proofs.pieces.any_missing.Given as goal

abbrev pub invariant-loop-piece : goal.invariant-loop-piece
invariant-loop-piece l = list_any (any_name (is_missing l.names.finding) l.names) (drop l.piece-index l.text) ≡ list_any (any_name (is_missing l.names.finding) l.names) l.text
