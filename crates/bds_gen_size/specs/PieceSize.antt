-- For private contracts alone: the size of a piece by the type of its variable.
use Rattle.std.specs.Prelude.{ℕ, not, ◌||◌, is_some, Option, List, if◌then◌else◌}
use Rattle.bds_value.specs.Types.{list_item, map_item}
use Rattle.bds_value.specs.declared.value.Ty.{Ty}
use Rattle.bds_tree.specs.declared.token.Index.{Index}
use Rattle.bds_tree.specs.declared.token.Index.TheVariants as index
use Rattle.bds_tree.specs.declared.token.KeyName.{KeyName}
use Rattle.bds_tree.specs.declared.token.KeyName.TheVariants as key
use Rattle.bds_tree.specs.declared.token.Piece.{Piece}
use Rattle.bds_tree.specs.declared.token.Piece.TheVariants as piece
use Rattle.bds_check_names.specs.Types.{or_void}

module _ (types : List ℕ → Option Ty) where
  abbrev pub index_size : Ty → Index → ℕ
  index_size t (index.Number n) = 4
  index_size t (index.Name y) = if not (is_some (list_item t)) || is_some (types y) then 4 else 1

  abbrev pub key_size : Ty → KeyName → ℕ
  key_size t (key.Text x) = 4
  key_size t (key.Name y) = if not (is_some (map_item t)) || is_some (types y) then 4 else 1

  -- in front of others
  abbrev pub first_size : Piece → ℕ
  first_size (piece.Plain t) = 1
  first_size (piece.Name x) = if is_some (types x) then 2 else 1
  first_size (piece.Item x i) = if is_some (types x) then index_size (or_void (types x)) i else 1
  first_size (piece.Key x k) = if is_some (types x) then key_size (or_void (types x)) k else 1
