-- Which pieces of variables are plain as they are written.
use Rattle.std.proofs.Common.{◌≡◌, Bool, true, false, ◌||◌, ◌&&◌, is_some, Option, Some, None, if◌then◌else◌, refl, sym, subst}
use Rattle.bds_value.specs.declared.value.Ty.{Ty}
use Rattle.bds_tree.specs.declared.token.Piece.{Piece}
use Rattle.bds_tree.specs.declared.token.Piece.TheVariants as piece
use Rattle.bds_tree.specs.declared.token.Index.TheVariants as index
use Rattle.bds_tree.specs.declared.token.KeyName.TheVariants as key
use Rattle.bds_check_names.specs.declared.names.Names.{Names}
use Rattle.bds_check_names.specs.declared.piece_kinds.PieceKind.{PieceKind}
use Rattle.bds_check_names.specs.declared.piece_kinds.PieceKind.TheVariants as kind
use Rattle.bds_check_names.specs.PieceKinds.{is_as_written, is_unread}
use Rattle.bds_check_names.specs.Scopes.{found, is_missing}
use Rattle.bds_check_rules.specs.Pieces.{any_name, is_list_named, is_map_named}

value-read : (o : Option Ty) → is_missing false o ≡ is_as_written (if is_some o then kind.Value else kind.Plain)
value-read None = refl
value-read (Some t) = refl

suffix-read : (o : Option Ty) (b : Bool) → is_missing false o ≡ is_as_written (if is_some o then (if b then kind.Part else kind.ValueThenPlain) else kind.Plain)
suffix-read None b = refl
suffix-read (Some t) true = refl
suffix-read (Some t) false = refl

named-read : (o i : Option Ty) (b : Bool) → (is_missing false o || (b && is_missing false i)) ≡ is_as_written (if is_some o then (if b then (if is_some i then kind.Part else kind.Plain) else kind.ValueThenPlain) else kind.Plain)
named-read None i b = refl
named-read (Some t) i false = refl
named-read (Some t) None true = refl
named-read (Some t) (Some u) true = refl

piece-read : (names : Names) (p : Piece) → any_name (is_missing false) names p ≡ is_unread (λ x. found x names) p
piece-read names (piece.Plain t) = refl
piece-read names (piece.Name x) = value-read (found x names)
piece-read names (piece.Item x (index.Number n)) = suffix-read (found x names) (is_list_named x names)
piece-read names (piece.Item x (index.Name y)) = named-read (found x names) (found y names) (is_list_named x names)
piece-read names (piece.Key x (key.Text t)) = suffix-read (found x names) (is_map_named x names)
piece-read names (piece.Key x (key.Name y)) = named-read (found x names) (found y names) (is_map_named x names)

pub missing-is-unread : (names : Names) (p : Piece) → names.finding ≡ false → any_name (is_missing names.finding) names p ≡ is_unread (λ x. found x names) p
missing-is-unread names p e = subst (λ (b : Bool). any_name (is_missing b) names p ≡ is_unread (λ x. found x names) p) (sym e) (piece-read names p)
