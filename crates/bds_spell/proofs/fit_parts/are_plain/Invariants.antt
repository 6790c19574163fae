use Rattle.std.proofs.Common.{◌≡◌, drop}
use Rattle.bds_spell.specs.StmtFits.{are_plain}
use Rattle.bds_spell.proofs.fit_parts.are_plain.Given as goal

abbrev pub invariant-loop-piece : goal.invariant-loop-piece
invariant-loop-piece l = are_plain l.pieces ≡ are_plain (drop l.piece-index l.pieces)
