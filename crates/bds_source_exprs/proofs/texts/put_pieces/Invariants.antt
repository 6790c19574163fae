use Rattle.std.proofs.Common.{◌≡◌, ◌++◌, drop, map}
use Rattle.bds_check_names.specs.Scopes.{found}
use Rattle.bds_check_size.specs.Parts.{parts_of}
use Rattle.bds_meaning.specs.OpeningTexts.{part_term}
use Rattle.bds_source_terms.specs.View.{term_of}
use Rattle.bds_source_exprs.proofs.texts.put_pieces.Given as goal

abbrev pub invariant-loop-piece : goal.invariant-loop-piece
invariant-loop-piece l = map term_of l.parts ++ map (part_term l.names l.at) (parts_of (λ x. found x l.names) (drop l.piece-index l.pieces)) ≡ map term_of l.fn.parts ++ map (part_term l.names l.at) (parts_of (λ x. found x l.names) l.pieces)
