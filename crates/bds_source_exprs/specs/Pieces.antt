-- For private contracts alone: the terms of what stands in the brackets and braces of a piece, and of what is behind its variable.
use Rattle.std.specs.Prelude.{List, [], ◌∷◌}
use Rattle.bds_value.specs.declared.value.Value.TheVariants as value
use Rattle.bds_tree.specs.declared.token.Index.{Index}
use Rattle.bds_tree.specs.declared.token.Index.TheVariants as index
use Rattle.bds_tree.specs.declared.token.KeyName.{KeyName}
use Rattle.bds_tree.specs.declared.token.KeyName.TheVariants as key
use Rattle.bds_tree.specs.declared.token.Piece.{Piece}
use Rattle.bds_check_names.specs.declared.names.Names.{Names}
use Rattle.bds_check_names.specs.declared.piece_kinds.PieceKind.{PieceKind}
use Rattle.bds_check_names.specs.declared.piece_kinds.PieceKind.TheVariants as kind
use Rattle.bds_check_size.specs.Parts.{suffix_text}
use Rattle.bds_meaning.specs.OpeningTexts.{plain, variable}
use Rattle.bds_meaning.specs.Term.{Term, Constant}

abbrev pub index_of : Names → Index → Term
index_of names (index.Number n) = Constant (value.Int n)
index_of names (index.Name y) = variable names y

abbrev pub key_of : Names → KeyName → Term
key_of names (key.Text t) = plain t
key_of names (key.Name y) = variable names y

-- behind a variable, a suffix that doesn't fit it
abbrev pub further_terms : PieceKind → Piece → List Term
further_terms kind.ValueThenPlain p = plain (suffix_text p) ∷ []
further_terms _ p = []
