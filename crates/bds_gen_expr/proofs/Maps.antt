-- The code of a map literal, as it is written.
use Rattle.std.proofs.Common.{◌≡◌, ℕ, List, sym, ap, ◌∙◌}
use Rattle.bds_value.specs.declared.value.Ty.{Ty}
use Rattle.bds_value.specs.Types.{map_item}
use Rattle.bds_tree.specs.declared.expr.Expr.{Expr, fold_out-Expr}
use Rattle.bds_tree.specs.declared.expr.Form.TheVariants as form
use Rattle.bds_tree.specs.Tree.{Tree, FormTree, node, mapping}
use Rattle.bds_tree.specs.View.{form_step, expr_step, tree_of, form_tree_of, pairs_of}
use Rattle.bds_tree.proofs.Views.{form_tree_of-Map}
use Rattle.bds_check_names.specs.Types.{or_void}
use Rattle.bds_code.specs.declared.instr.Instr.TheVariants.{MakeMap}
use Rattle.bds_code.specs.declared.unit.Function.{Function}
use Rattle.bds_gen_expr.specs.declared.scope.Scope.{Scope}
use Rattle.bds_gen_expr.specs.ExprCode.{pair_count}
use Rattle.bds_gen_expr.specs.Gen.{act, gen, gen_pairs}

pub map-code : (e : Expr) (ps xs ys : List (Expr × Expr)) (sc : Scope) (shape : List Ty) (g g1 g2 : Function) → e.form ≡ form.Map ps → xs ≡ ps → ys ≡ ps → g1 ≡ gen_pairs (pairs_of xs) sc shape g
    → g2 ≡ act g1 e.at (MakeMap (or_void (map_item e.ty)) (pair_count (pairs_of ys))) → g2 ≡ gen (tree_of e) sc shape g
map-code e ps xs ys sc shape g g1 g2 is ex ey e1 e2 =
    let tree : tree_of e ≡ node e.at e.ty (mapping (pairs_of ps)) = fold_out-Expr FormTree Tree form_step expr_step e ∙ ap (node e.at e.ty) (ap form_tree_of is ∙ form_tree_of-Map ps) in
    let made : ℕ → Function → Function = λ n h. act h e.at (MakeMap (or_void (map_item e.ty)) n) in
    e2 ∙ ap (λ zs. made (pair_count (pairs_of zs)) g1) ey ∙ ap (made (pair_count (pairs_of ps))) (e1 ∙ ap (λ zs. gen_pairs (pairs_of zs) sc shape g) ex) ∙ sym (ap (λ t. gen t sc shape g) tree)
