-- One more expression at the end.
use Rattle.std.proofs.Common.{◌≡◌, List, [], ◌∷◌, ◌++◌, refl, ap}
use Rattle.bds_tree.specs.declared.expr.Expr.{Expr}
use Rattle.bds_tree.specs.Tree.{Trees, TreePairs, none, more, no_pairs, more_pairs, joined, joined_pairs}
use Rattle.bds_tree.specs.View.{tree_of, trees_of, pairs_of}

pub joined-push : (xs : List Expr) (e : Expr) (ts : Trees) → joined (trees_of (xs ++ e ∷ [])) ts ≡ joined (trees_of xs) (more (tree_of e) ts)
joined-push [] e ts = refl
joined-push (x ∷ xs) e ts = ap (more (tree_of x)) (joined-push xs e ts)

pub joined-none : (ts : Trees) → joined ts none ≡ ts
joined-none none = refl
joined-none (more t ts) = ap (more t) (joined-none ts)

pub joined_pairs-push : (xs : List (Expr × Expr)) (p : Expr × Expr) (ps : TreePairs) → joined_pairs (pairs_of (xs ++ p ∷ [])) ps ≡ joined_pairs (pairs_of xs) (more_pairs (tree_of p.0) (tree_of p.1) ps)
joined_pairs-push [] p ps = refl
joined_pairs-push (x ∷ xs) p ps = ap (more_pairs (tree_of x.0) (tree_of x.1)) (joined_pairs-push xs p ps)

pub joined_pairs-none : (ps : TreePairs) → joined_pairs ps no_pairs ≡ ps
joined_pairs-none no_pairs = refl
joined_pairs-none (more_pairs k v ps) = ap (more_pairs k v) (joined_pairs-none ps)
