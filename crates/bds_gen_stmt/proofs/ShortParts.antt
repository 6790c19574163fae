-- The parts of short pieces are short, whatever their names stand for.
use Rattle.std.proofs.Common.{◌≤◌, ◌+◌, ◌≡◌, ℕ, List, [], ◌∷◌, ◌++◌, length, length-append, Option, codes, arith}
use Rattle.std.specs.Prelude.{⊤}
use Rattle.std.specs.List.{AllByRecursion}
use Rattle.bds_value.specs.declared.value.Ty.{Ty}
use Rattle.bds_tree.specs.declared.token.Index.{Index}
use Rattle.bds_tree.specs.declared.token.Index.TheVariants as index
use Rattle.bds_tree.specs.declared.token.KeyName.{KeyName}
use Rattle.bds_tree.specs.declared.token.KeyName.TheVariants as key_of
use Rattle.bds_tree.specs.declared.token.Piece.{Piece}
use Rattle.bds_tree.specs.declared.token.Piece.TheVariants as piece
use Rattle.bds_check_names.specs.declared.piece_kinds.PieceKind.{PieceKind}
use Rattle.bds_check_names.specs.declared.piece_kinds.PieceKind.TheVariants as kind
use Rattle.bds_check_names.specs.PieceKinds.{index_text, key_text, name_text, piece_kind}
use Rattle.bds_check_size.specs.Parts.{Part, says, shows, shows_at, shows_at_name, shows_key, shows_key_name, shown_variable, shown_part, first_part, further_parts, parts_by, parts_of}
use Rattle.bds_check_typing.specs.Texts.{IsShort, IsShortPiece, AreShortPieces}
use Rattle.bds_gen_stmt.proofs.Written.{all-behind}

-- the text that its code pushes, if there is one
abbrev pub IsShortPart : Part → Type 0
IsShortPart (says t) = IsShort t
IsShortPart (shows_key x t) = IsShort t
IsShortPart _ = ⊤

abbrev pub AreShortParts : List Part → Type 0
AreShortParts ps = AllByRecursion IsShortPart ps

-- the end of a short text
end-short : (xs ys : List ℕ) → IsShort (xs ++ ys) → IsShort ys
end-short xs ys h = let a = length-append xs ys in omega (arith, a, h)

-- its front
front-short : (xs ys : List ℕ) → IsShort (xs ++ ys) → IsShort xs
front-short xs ys h = let a = length-append xs ys in omega (arith, a, h)

variable-short : (p : Piece) → IsShortPiece p → IsShortPart (shown_variable p)
variable-short (piece.Plain t) h = h
variable-short (piece.Name x) h = tt
variable-short (piece.Item x i) h = tt
variable-short (piece.Key x k) h = tt

shown-short : (p : Piece) → IsShortPiece p → IsShortPart (shown_part p)
shown-short (piece.Plain t) h = h
shown-short (piece.Name x) h = tt
shown-short (piece.Item x (index.Number n)) h = tt
shown-short (piece.Item x (index.Name y)) h = tt
shown-short (piece.Key x (key_of.Text t)) h = front-short t (codes "'}") (end-short (codes "{'") (t ++ codes "'}") (end-short (name_text x) (key_text (key_of.Text t)) h))
shown-short (piece.Key x (key_of.Name y)) h = tt

first-short : (k : PieceKind) (p : Piece) → IsShortPiece p → IsShortPart (first_part k p)
first-short kind.Plain p h = h
first-short kind.Part p h = shown-short p h
first-short kind.Value p h = variable-short p h
first-short kind.ValueThenPlain p h = variable-short p h

suffix-short : (p : Piece) → IsShortPiece p → AreShortParts (further_parts kind.ValueThenPlain p)
suffix-short (piece.Plain t) h = (omega arith, tt)
suffix-short (piece.Name x) h = (omega arith, tt)
suffix-short (piece.Item x i) h = (end-short (name_text x) (index_text i) h, tt)
suffix-short (piece.Key x k) h = (end-short (name_text x) (key_text k) h, tt)

further-short : (k : PieceKind) (p : Piece) → IsShortPiece p → AreShortParts (further_parts k p)
further-short kind.Plain p h = tt
further-short kind.Part p h = tt
further-short kind.Value p h = tt
further-short kind.ValueThenPlain p h = suffix-short p h

pub parts-short : (types : List ℕ → Option Ty) (ps : List Piece) → AreShortPieces ps → AreShortParts (parts_of types ps)
parts-short types [] h = tt
parts-short types (p ∷ ps) h = all-behind IsShortPart (parts_by (piece_kind types p) p) (parts_of types ps) (first-short (piece_kind types p) p h.0, further-short (piece_kind types p) p h.0) (parts-short types ps h.1)
