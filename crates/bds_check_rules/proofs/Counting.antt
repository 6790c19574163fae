-- How many expressions there are, and the type of one.
use Rattle.std.proofs.Common.{◌≡◌, List, [], ◌∷◌, length, refl, arith, ap, sym, ◌∙◌}
use Rattle.bds_tree.specs.declared.expr.Expr.{Expr, out-Expr, roll-out-Expr}
use Rattle.bds_tree.specs.View.{tree_of, trees_of}
use Rattle.bds_tree.specs.Tree.{type_of}
use Rattle.bds_tree.proofs.Views.{tree_of-roll}
use Rattle.bds_check_rules.specs.Typing.{count}

pub count_trees : (es : List Expr) → count (trees_of es) ≡ length es
count_trees [] = refl
count_trees (e ∷ es) = let rest : count (trees_of es) ≡ length es = count_trees es in omega (arith, rest)

pub type_of_tree : (e : Expr) → type_of (tree_of e) ≡ (out-Expr e).ty
type_of_tree e = ap (λ x. type_of (tree_of x)) (sym (roll-out-Expr e)) ∙ ap type_of (tree_of-roll (out-Expr e))
