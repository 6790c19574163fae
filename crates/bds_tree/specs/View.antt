-- The tree that an expression is.
use Rattle.std.specs.Prelude.{List, map}
use Rattle.bds_tree.specs.declared.expr.Expr.{Expr, fold-Expr}
use Rattle.bds_tree.specs.declared.expr.Form.TheOpen.{Expr-F, Form-F}
use Rattle.bds_tree.specs.declared.expr.Form.{Form, fold-Form}
use Rattle.bds_tree.specs.Tree.{Tree, FormTree, Trees, TreePairs, node, number, text, truth, name, call, group, list, mapping, item, key, method, prefix, binary, choice, dependency, to_trees, to_pairs}

abbrev pub expr_step : Expr-F FormTree Tree → Tree
expr_step e = node e.at e.ty e.form

abbrev pub form_step : Form-F FormTree Tree → FormTree
form_step (Form-F.Number v) = number v
form_step (Form-F.Text ps) = text ps
form_step (Form-F.Bool b) = truth b
form_step (Form-F.Name n) = name n
form_step (Form-F.Call n es) = call n (to_trees es)
form_step (Form-F.Group e) = group e
form_step (Form-F.List es) = list (to_trees es)
form_step (Form-F.Map ps) = mapping (to_pairs ps)
form_step (Form-F.Item a i) = item a i
form_step (Form-F.Key a k) = key a k
form_step (Form-F.Method a n es) = method a n (to_trees es)
form_step (Form-F.Prefix o a) = prefix o a
form_step (Form-F.Binary a o b) = binary a o b
form_step (Form-F.Choice c a b) = choice c a b
form_step (Form-F.Dependency a b) = dependency a b

abbrev pub tree_of : Expr → Tree
tree_of = fold-Expr FormTree Tree form_step expr_step

abbrev pub form_tree_of : Form → FormTree
form_tree_of = fold-Form FormTree Tree form_step expr_step

abbrev pub trees_of : List Expr → Trees
trees_of es = to_trees (map tree_of es)

abbrev pub pairs_of : List (Expr × Expr) → TreePairs
pairs_of ps = to_pairs (map (λ p. (tree_of p.0, tree_of p.1)) ps)
