-- What trees are made of.
use Rattle.std.proofs.Common.{◌≡◌, ◌+◌, ℕ, List, [], ◌∷◌, length, refl, ap, arith}
use Rattle.bds_tree.specs.declared.expr.Expr.{Expr, fold_out-Expr}
use Rattle.bds_tree.specs.Tree.{Tree, FormTree, type_of}
use Rattle.bds_tree.specs.View.{form_step, expr_step, tree_of, trees_of}
use Rattle.bds_check_rules.specs.Typing.{count as tree_count}

pub count_is : (es : List Expr) → tree_count (trees_of es) ≡ length es
count_is [] = refl
count_is (e ∷ es) = let r = count_is es in omega (arith, r)

pub type_is : (e : Expr) → type_of (tree_of e) ≡ e.ty
type_is e = ap type_of (fold_out-Expr FormTree Tree form_step expr_step e)
