-- The term of a map literal.
use Rattle.std.proofs.Common.{◌≡◌, List, sym, ap, ◌∙◌}
use Rattle.bds_value.specs.Types.{map_item}
use Rattle.bds_tree.specs.declared.expr.Expr.{Expr, fold_out-Expr}
use Rattle.bds_tree.specs.declared.expr.Form.TheVariants as form
use Rattle.bds_tree.specs.Tree.{Tree, FormTree, node, mapping}
use Rattle.bds_tree.specs.View.{form_step, expr_step, tree_of, form_tree_of, pairs_of}
use Rattle.bds_tree.proofs.Views.{form_tree_of-Map}
use Rattle.bds_check_names.specs.Types.{or_void}
use Rattle.bds_check_names.specs.declared.names.Names.{Names}
use Rattle.bds_meaning.specs.OpeningExpressions.{term_of, pairs_terms}
use Rattle.bds_meaning.specs.Term.{Term, Compute, MapMade}

pub map-term : (e : Expr) (ps xs : List (Expr × Expr)) (names : Names) (t u : Term) → e.form ≡ form.Map ps → xs ≡ ps → u ≡ pairs_terms names (pairs_of xs) → t ≡ Compute (MapMade (or_void (map_item e.ty))) e.at u → t ≡ term_of names (tree_of e)
map-term e ps xs names t u is ex e1 e2 =
    let tree : tree_of e ≡ node e.at e.ty (mapping (pairs_of ps)) = fold_out-Expr FormTree Tree form_step expr_step e ∙ ap (node e.at e.ty) (ap form_tree_of is ∙ form_tree_of-Map ps) in
    e2 ∙ ap (Compute (MapMade (or_void (map_item e.ty))) e.at) (e1 ∙ ap (λ zs. pairs_terms names (pairs_of zs)) ex) ∙ sym (ap (λ (x : Tree). term_of names x) tree)
