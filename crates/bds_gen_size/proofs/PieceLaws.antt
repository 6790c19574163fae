-- The size of the parts of a piece, whatever kind it is of.
use Rattle.std.proofs.Common.{◌≡◌, ◌+◌, ℕ, ℤ, Bool, true, false, not, ◌||◌, Option, is_some, List, ◌∷◌, ◌++◌, refl, sym, ap, ◌∙◌, arith, if◌then◌else◌}
use Rattle.bds_value.specs.Types.{list_item, map_item}
use Rattle.bds_value.specs.declared.value.Ty.{Ty}
use Rattle.bds_tree.specs.declared.token.Index.TheVariants as index
use Rattle.bds_tree.specs.declared.token.KeyName.TheVariants as key
use Rattle.bds_tree.specs.declared.token.Piece.{Piece}
use Rattle.bds_tree.specs.declared.token.Piece.TheVariants as piece
use Rattle.bds_check_names.specs.declared.piece_kinds.PieceKind.{PieceKind}
use Rattle.bds_check_names.specs.declared.piece_kinds.PieceKind.TheVariants as kind
use Rattle.bds_check_names.specs.PieceKinds.{piece_kind}
use Rattle.bds_check_names.specs.Types.{or_void}
use Rattle.bds_check_size.specs.Parts.{Part, joined_size, parts_size, parts_by, piece_parts, parts_of}
use Rattle.bds_gen_size.specs.PieceSize.{first_size}
use Rattle.bds_gen_size.proofs.Joined.{joined_both}

-- by whether the variable is in force, whether its suffix fits it, and whether the name in that is in force

name-by : (x : List ℕ) (named : Bool) → (if named then 2 else 1) + 1 ≡ joined_size (parts_by (if named then kind.Value else kind.Plain) (piece.Name x))
name-by x false = refl
name-by x true = refl

number-by : (x : List ℕ) (n : ℤ) (named fits : Bool) → (if named then 4 else 1) + 1 ≡ joined_size (parts_by (if named then (if fits then kind.Part else kind.ValueThenPlain) else kind.Plain) (piece.Item x (index.Number n)))
number-by x n false fits = refl
number-by x n true true = refl
number-by x n true false = refl

item-by : (x y : List ℕ) (named fits there : Bool) → (if named then (if not fits || there then 4 else 1) else 1) + 1 ≡ joined_size (parts_by (if named then (if fits then (if there then kind.Part else kind.Plain) else kind.ValueThenPlain) else kind.Plain) (piece.Item x (index.Name y)))
item-by x y false fits there = refl
item-by x y true true true = refl
item-by x y true true false = refl
item-by x y true false true = refl
item-by x y true false false = refl

text-by : (x t : List ℕ) (named fits : Bool) → (if named then 4 else 1) + 1 ≡ joined_size (parts_by (if named then (if fits then kind.Part else kind.ValueThenPlain) else kind.Plain) (piece.Key x (key.Text t)))
text-by x t false fits = refl
text-by x t true true = refl
text-by x t true false = refl

key-by : (x y : List ℕ) (named fits there : Bool) → (if named then (if not fits || there then 4 else 1) else 1) + 1 ≡ joined_size (parts_by (if named then (if fits then (if there then kind.Part else kind.Plain) else kind.ValueThenPlain) else kind.Plain) (piece.Key x (key.Name y)))
key-by x y false fits there = refl
key-by x y true true true = refl
key-by x y true true false = refl
key-by x y true false true = refl
key-by x y true false false = refl

module _ (types : List ℕ → Option Ty) where
  is-list : List ℕ → Bool
  is-list x = is_some (list_item (or_void (types x)))

  is-map : List ℕ → Bool
  is-map x = is_some (map_item (or_void (types x)))

  pub piece_is : (p : Piece) → first_size types p + 1 ≡ joined_size (piece_parts types p)
  unfolding is-list is-map
  piece_is (piece.Plain t) = refl
  piece_is (piece.Name x) = name-by x (is_some (types x))
  piece_is (piece.Item x (index.Number n)) = number-by x n (is_some (types x)) (is-list x)
  piece_is (piece.Item x (index.Name y)) = item-by x y (is_some (types x)) (is-list x) (is_some (types y))
  piece_is (piece.Key x (key.Text t)) = text-by x t (is_some (types x)) (is-map x)
  piece_is (piece.Key x (key.Name y)) = key-by x y (is_some (types x)) (is-map x) (is_some (types y))

pub parts-next : (types : List ℕ → Option Ty) (p : Piece) (ps : List Piece) → joined_size (parts_of types (p ∷ ps)) ≡ first_size types p + 1 + joined_size (parts_of types ps)
parts-next types p ps = joined_both (piece_parts types p) (parts_of types ps) ∙ ap (λ n. n + joined_size (parts_of types ps)) (sym (piece_is types p))

pub parts-first : (types : List ℕ → Option Ty) (p : Piece) (ps : List Piece) → parts_size (parts_of types (p ∷ ps)) ≡ first_size types p + joined_size (parts_of types ps)
parts-first types p ps = let e = parts-next types p ps in let f = whole (piece_kind types p) p (parts_of types ps) in omega (arith, e, f)
  where
    whole : (k : PieceKind) (p : Piece) (qs : List Part) → joined_size (parts_by k p ++ qs) ≡ parts_size (parts_by k p ++ qs) + 1
    whole k p qs = omega arith

-- for functions that count pieces
pub ruleset piece_rules = (joined_both, piece_is)
