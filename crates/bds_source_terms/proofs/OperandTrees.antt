-- Operands as trees.
use Rattle.std.proofs.Common.{◌≡◌, List, [], ◌∷◌, length, refl, ap, arith}
use Rattle.bds_tree.specs.declared.expr.Expr.{Expr, fold_out-Expr}
use Rattle.bds_tree.specs.Tree.{Tree, FormTree, type_of}
use Rattle.bds_tree.specs.View.{expr_step, form_step, tree_of, trees_of}
use Rattle.bds_meaning.specs.OpeningExpressions.{count}

pub count_is : (es : List Expr) → count (trees_of es) ≡ length es
count_is [] = refl
count_is (e ∷ es) = let before = count_is es in omega (arith, before)

pub type_is : (e : Expr) → type_of (tree_of e) ≡ e.ty
type_is e = ap type_of (fold_out-Expr FormTree Tree form_step expr_step e)
