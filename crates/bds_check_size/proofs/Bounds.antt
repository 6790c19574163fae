-- The size of an expression is at most 32 for each node and piece.
use Rattle.std.proofs.Common.{◌≡◌, ◌≤◌, ◌+◌, ◌*◌, ℕ, zero, suc, List, [], ◌∷◌, ◌++◌, length, Option, Some, None, Bool, true, false, arith, if◌then◌else◌}
use Rattle.bds_value.specs.declared.methods.Method.{Method}
use Rattle.bds_value.specs.declared.methods.Method.TheVariants as by
use Rattle.bds_value.specs.declared.value.Ty.{Ty}
use Rattle.bds_value.specs.declared.value.Ty.TheVariants as ty
use Rattle.bds_value.specs.Methods.{signature_of}
use Rattle.bds_tree.specs.declared.expr.BinaryOp.{BinaryOp}
use Rattle.bds_tree.specs.declared.expr.BinaryOp.TheVariants as op
use Rattle.bds_tree.specs.Tree.{Tree, FormTree, Trees, TreePairs, node, number, text, truth, name, call, group, list, mapping, item, key, method, prefix, binary, choice, dependency, none, more, no_pairs, more_pairs, type_of}
use Rattle.bds_value.specs.Types.{same_ty}
use Rattle.bds_tree.specs.declared.token.Piece.{Piece}
use Rattle.bds_tree.specs.declared.token.Piece.TheVariants as piece
use Rattle.bds_check_names.specs.declared.piece_kinds.PieceKind.{PieceKind}
use Rattle.bds_check_names.specs.declared.piece_kinds.PieceKind.TheVariants as kind
use Rattle.bds_check_names.specs.PieceKinds.{piece_kind}
use Rattle.bds_check_size.specs.Parts.{Part, says, shows, shows_at, shows_at_name, shows_key, shows_key_name, part_size, joined_size, parts_size, parts_by, piece_parts, parts_of, shown_variable, shown_part}
use Rattle.bds_check_size.specs.declared.sums.Sum.{Sum}
use Rattle.bds_check_size.specs.declared.sums.Sum.TheVariants as sums
use Rattle.bds_check_size.specs.ExprSize.{sum_of, sum_size, binary_size, method_size, listing_size, expr_size, form_size, trees_size, pairs_size}
use Rattle.bds_check_size.specs.Nodes.{expr_nodes, form_nodes, trees_nodes, pairs_nodes}
use Rattle.bds_check_rules.specs.Typing.{count}

part-small : (p : Part) → part_size p ≤ 4
part-small (says t) = omega arith
part-small (shows x) = omega arith
part-small (shows_at x n) = omega arith
part-small (shows_at_name x y) = omega arith
part-small (shows_key x t) = omega arith
part-small (shows_key_name x y) = omega arith

joined-append : (ps qs : List Part) → joined_size (ps ++ qs) ≡ joined_size ps + joined_size qs
joined-append [] qs = omega arith
joined-append (p ∷ ps) qs = let e = joined-append ps qs in omega (arith, e)

pub parts-joined : (ps : List Part) → parts_size ps ≤ joined_size ps + 1
parts-joined [] = omega arith
parts-joined (p ∷ ps) = omega arith

sum-small : (s : Sum) → sum_size s ≤ 3
sum-small sums.Numbers = omega arith
sum-small sums.ItemAdded = omega arith
sum-small sums.ListsJoined = omega arith
sum-small sums.Texts = omega arith

binary-small : (o : BinaryOp) (a b : Ty) → binary_size o a b ≤ 3
binary-small op.And a b = omega arith
binary-small op.Or a b = omega arith
binary-small op.Add a b = sum-small (sum_of a b)
binary-small _ a b = omega arith

method-small : (m : Option Method) → method_size m ≤ 2
method-small (Some (by.File zero)) = omega arith
method-small (Some (by.File (suc zero))) = omega arith
method-small (Some (by.File (suc (suc n)))) = omega arith
method-small (Some (by.Plain n)) = omega arith
method-small (Some (by.Change n)) = omega arith
method-small None = omega arith

choice-small : (b : Bool) → (if b then 1 else 0) ≤ 1
choice-small true = omega arith
choice-small false = omega arith

pub listing-small : (t : Ty) → listing_size t ≤ 1
listing-small t = choice-small (same_ty t ty.Text)

variable-small : (p : Piece) → part_size (shown_variable p) ≤ 2
variable-small (piece.Plain t) = omega arith
variable-small (piece.Name x) = omega arith
variable-small (piece.Item x i) = omega arith
variable-small (piece.Key x k) = omega arith

parts-small : (k : PieceKind) (p : Piece) → joined_size (parts_by k p) ≤ 6
parts-small kind.Plain p = omega arith
parts-small kind.Value p = let h = variable-small p in omega (arith, h)
parts-small kind.Part p = let h = part-small (shown_part p) in omega (arith, h)
parts-small kind.ValueThenPlain p = let h = variable-small p in omega (arith, h)

module _ (types : List ℕ → Option Ty) where
  piece-small : (p : Piece) → joined_size (piece_parts types p) ≤ 6
  piece-small p = parts-small (piece_kind types p) p

  pub pieces-small : (ps : List Piece) → joined_size (parts_of types ps) ≤ 6 * length ps
  pieces-small [] = omega arith
  pieces-small (p ∷ ps) = let e = joined-append (piece_parts types p) (parts_of types ps) in let a = piece-small p in let b = pieces-small ps in omega (arith, e, a, b)

  mutual
    pub expr-bound : (e : Tree) → expr_size types e ≤ 32 * expr_nodes e
    expr-bound (node at t f) = let h = form-bound f in omega (arith, h)

    form-bound : (f : FormTree) → form_size types f ≤ 32 + 32 * form_nodes f
    form-bound (number v) = omega arith
    form-bound (text ps) = let a = parts-joined (parts_of types ps) in let b = pieces-small ps in omega (arith, a, b)
    form-bound (truth b) = omega arith
    form-bound (name x) = omega arith
    form-bound (call f es) = let h = trees-bound es in omega (arith, h)
    form-bound (group e) = let h = expr-bound e in omega (arith, h)
    form-bound (list es) = let h = trees-bound es in omega (arith, h)
    form-bound (mapping ps) = let h = pairs-bound ps in omega (arith, h)
    form-bound (item a i) = let h = expr-bound a in let k = expr-bound i in omega (arith, h, k)
    form-bound (key a i) = let h = expr-bound a in let k = expr-bound i in omega (arith, h, k)
    form-bound (method a m es) = let h = expr-bound a in let k = trees-bound es in let z = method-small (signature_of (type_of a) m (count es)) in omega (arith, h, k, z)
    form-bound (prefix o a) = let h = expr-bound a in omega (arith, h)
    form-bound (binary a o b) = let h = expr-bound a in let k = expr-bound b in let z = binary-small o (type_of a) (type_of b) in omega (arith, h, k, z)
    form-bound (choice c a b) = let h = expr-bound c in let k = expr-bound a in let z = expr-bound b in omega (arith, h, k, z)
    form-bound (dependency a b) = let h = expr-bound a in let k = expr-bound b in let x = listing-small (type_of a) in let y = listing-small (type_of b) in omega (arith, h, k, x, y)

    pub trees-bound : (es : Trees) → trees_size types es ≤ 32 * trees_nodes es
    trees-bound none = omega arith
    trees-bound (more e es) = let h = expr-bound e in let k = trees-bound es in omega (arith, h, k)

    pairs-bound : (ps : TreePairs) → pairs_size types ps ≤ 32 * pairs_nodes ps
    pairs-bound no_pairs = omega arith
    pairs-bound (more_pairs k v ps) = let h = expr-bound k in let z = expr-bound v in let y = pairs-bound ps in omega (arith, h, z, y)
