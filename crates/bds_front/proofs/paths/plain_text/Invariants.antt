use Rattle.std.proofs.Common.{◌≡◌, ◌++◌, drop}
use Rattle.bds_check_typing.specs.Files.{plain_text}
use Rattle.bds_front.proofs.paths.plain_text.Given as goal

abbrev pub invariant-loop-piece : goal.invariant-loop-piece
invariant-loop-piece l = l.text ++ plain_text (drop l.piece-index l.pieces) ≡ plain_text l.pieces
