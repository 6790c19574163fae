-- The parts of a text: each is made by itself and joined to those before it.
use Rattle.std.specs.Prelude.{ℕ, ℤ, ◌+◌, Option, List, [], ◌∷◌, ◌++◌}
use Rattle.bds_value.specs.declared.value.Ty.{Ty}
use Rattle.bds_tree.specs.declared.token.Index.TheVariants as index
use Rattle.bds_tree.specs.declared.token.KeyName.TheVariants as key_of
use Rattle.bds_tree.specs.declared.token.Piece.{Piece}
use Rattle.bds_tree.specs.declared.token.Piece.TheVariants as piece
use Rattle.bds_check_names.specs.declared.piece_kinds.PieceKind.{PieceKind}
use Rattle.bds_check_names.specs.declared.piece_kinds.PieceKind.TheVariants as kind
use Rattle.bds_check_names.specs.PieceKinds.{index_text, key_text, as_written, piece_kind}

-- a plain text, or the text of the value of a variable, of an item of one or of a key in one
pub data Part : Type 0 where
  says : List ℕ → Part
  shows : List ℕ → Part
  shows_at : List ℕ → ℤ → Part
  shows_at_name : List ℕ → List ℕ → Part
  shows_key : List ℕ → List ℕ → Part
  shows_key_name : List ℕ → List ℕ → Part

-- the variable of a piece
abbrev pub shown_variable : Piece → Part
shown_variable (piece.Plain t) = says t
shown_variable (piece.Name x) = shows x
shown_variable (piece.Item x i) = shows x
shown_variable (piece.Key x k) = shows x

-- the part of a variable that a piece names
abbrev pub shown_part : Piece → Part
shown_part (piece.Plain t) = says t
shown_part (piece.Name x) = shows x
shown_part (piece.Item x (index.Number n)) = shows_at x n
shown_part (piece.Item x (index.Name y)) = shows_at_name x y
shown_part (piece.Key x (key_of.Text t)) = shows_key x t
shown_part (piece.Key x (key_of.Name y)) = shows_key_name x y

-- the suffix of a piece as it is written
abbrev pub suffix_text : Piece → List ℕ
suffix_text (piece.Item x i) = index_text i
suffix_text (piece.Key x k) = key_text k
suffix_text _ = []

abbrev pub first_part : PieceKind → Piece → Part
first_part kind.Plain p = says (as_written p)
first_part kind.Part p = shown_part p
first_part _ p = shown_variable p

-- behind a variable, a suffix that doesn't fit it is plain
abbrev pub further_parts : PieceKind → Piece → List Part
further_parts kind.ValueThenPlain p = says (suffix_text p) ∷ []
further_parts _ p = []

abbrev pub parts_by : PieceKind → Piece → List Part
parts_by k p = first_part k p ∷ further_parts k p

-- by the type of each variable in force
module _ (types : List ℕ → Option Ty) where
  abbrev pub piece_parts : Piece → List Part
  piece_parts p = parts_by (piece_kind types p) p

  abbrev pub parts_of : List Piece → List Part
  parts_of [] = []
  parts_of (p ∷ ps) = piece_parts p ++ parts_of ps

abbrev pub part_size : Part → ℕ
part_size (says t) = 1
part_size (shows x) = 2
part_size _ = 4

-- behind a part each further one is joined to it
abbrev pub joined_size : List Part → ℕ
joined_size [] = 0
joined_size (p ∷ ps) = part_size p + 1 + joined_size ps

abbrev pub parts_size : List Part → ℕ
parts_size [] = 1
parts_size (p ∷ ps) = part_size p + joined_size ps
