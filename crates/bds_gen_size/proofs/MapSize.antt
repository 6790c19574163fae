-- The size of a map literal.
use Rattle.std.proofs.Common.{◌≡◌, ◌+◌, ℕ, Option, List, ap, ◌∙◌, arith}
use Rattle.bds_value.specs.declared.value.Ty.{Ty}
use Rattle.bds_tree.specs.declared.expr.Expr.{Expr, fold_out-Expr}
use Rattle.bds_tree.specs.declared.expr.Form.TheVariants as form
use Rattle.bds_tree.specs.Tree.{Tree, FormTree, node, mapping}
use Rattle.bds_tree.specs.View.{form_step, expr_step, tree_of, form_tree_of, pairs_of}
use Rattle.bds_tree.proofs.Views.{form_tree_of-Map}
use Rattle.bds_check_size.specs.ExprSize.{expr_size, pairs_size}
use Rattle.bds_gen_size.specs.Capped.{capped}

pub map-size : (types : List ℕ → Option Ty) (e : Expr) (ps xs : List (Expr × Expr)) (n m : ℕ) → e.form ≡ form.Map ps → xs ≡ ps → n ≡ capped (pairs_size types (pairs_of xs)) → m ≡ capped (n + 1) → m ≡ capped (expr_size types (tree_of e))
map-size types e ps xs n m is ex en em =
    let tree : tree_of e ≡ node e.at e.ty (mapping (pairs_of ps)) = fold_out-Expr FormTree Tree form_step expr_step e ∙ ap (node e.at e.ty) (ap form_tree_of is ∙ form_tree_of-Map ps) in
    let size : expr_size types (tree_of e) ≡ pairs_size types (pairs_of ps) + 1 = ap (expr_size types) tree in
    let pairs : n ≡ capped (pairs_size types (pairs_of ps)) = en ∙ ap (λ zs. capped (pairs_size types (pairs_of zs))) ex in
    omega (arith, size, pairs, em)
