-- What a piece of a text is under the names in force.
use Rattle.std.specs.Prelude.{ℕ, ◌++◌, Bool, true, false, codes, is_some, Option, List, if◌then◌else◌}
use Rattle.std.specs.Fmt.{signed_decimal}
use Rattle.bds_value.specs.declared.value.Ty.{Ty}
use Rattle.bds_value.specs.Types.{list_item, map_item}
use Rattle.bds_tree.specs.declared.token.Piece.{Piece}
use Rattle.bds_tree.specs.declared.token.Piece.TheVariants as piece
use Rattle.bds_tree.specs.declared.token.Index.{Index}
use Rattle.bds_tree.specs.declared.token.Index.TheVariants as index
use Rattle.bds_tree.specs.declared.token.KeyName.{KeyName}
use Rattle.bds_tree.specs.declared.token.KeyName.TheVariants as key
use Rattle.bds_check_names.specs.declared.piece_kinds.PieceKind.{PieceKind}
use Rattle.bds_check_names.specs.declared.piece_kinds.PieceKind.TheVariants as kind
use Rattle.bds_check_names.specs.Types.{or_void}

abbrev pub index_text : Index → List ℕ
index_text (index.Number n) = codes "[" ++ signed_decimal n ++ codes "]"
index_text (index.Name y) = codes "[" ++ y ++ codes "]"

abbrev pub key_text : KeyName → List ℕ
key_text (key.Text t) = codes "{'" ++ t ++ codes "'}"
key_text (key.Name y) = codes "{" ++ y ++ codes "}"

abbrev pub name_text : List ℕ → List ℕ
name_text x = codes "$" ++ x

-- the piece as it is written, where escapes were read
abbrev pub as_written : Piece → List ℕ
as_written (piece.Plain t) = t
as_written (piece.Name x) = name_text x
as_written (piece.Item x i) = name_text x ++ index_text i
as_written (piece.Key x k) = name_text x ++ key_text k

abbrev pub is_as_written : PieceKind → Bool
is_as_written kind.Plain = true
is_as_written _ = false

-- by the type of each variable in force
module _ (type_in_force : List ℕ → Option Ty) where
  -- where the name isn't in force, the piece is plain as it is written
  abbrev pub if_in_force : List ℕ → PieceKind → PieceKind
  if_in_force x k = (if is_some (type_in_force x) then k else kind.Plain)

  -- an index behind another variable than a list is plain, and the name in it isn't looked for
  abbrev pub if_list : List ℕ → PieceKind → PieceKind
  if_list x k = (if is_some (list_item (or_void (type_in_force x))) then k else kind.ValueThenPlain)

  -- so is a key behind another variable than a map
  abbrev pub if_map : List ℕ → PieceKind → PieceKind
  if_map x k = (if is_some (map_item (or_void (type_in_force x))) then k else kind.ValueThenPlain)

  abbrev pub piece_kind : Piece → PieceKind
  piece_kind (piece.Plain t) = kind.Plain
  piece_kind (piece.Name x) = if_in_force x kind.Value
  piece_kind (piece.Item x (index.Number n)) = if_in_force x (if_list x kind.Part)
  piece_kind (piece.Item x (index.Name y)) = if_in_force x (if_list x (if_in_force y kind.Part))
  piece_kind (piece.Key x (key.Text t)) = if_in_force x (if_map x kind.Part)
  piece_kind (piece.Key x (key.Name y)) = if_in_force x (if_map x (if_in_force y kind.Part))

  -- a piece of a variable that is plain as it is written
  abbrev pub is_unread : Piece → Bool
  is_unread (piece.Plain t) = false
  is_unread (piece.Name x) = is_as_written (piece_kind (piece.Name x))
  is_unread (piece.Item x i) = is_as_written (piece_kind (piece.Item x i))
  is_unread (piece.Key x k) = is_as_written (piece_kind (piece.Key x k))
