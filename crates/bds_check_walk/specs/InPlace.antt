-- What a walk in place has to leave: expressions with their types where nothing is broken, and in every outcome the
-- same but for types.
use Rattle.std.specs.Prelude.{◌≡◌, Result}
use Rattle.bds_value.specs.declared.value.At.{At}
use Rattle.bds_value.specs.declared.value.Ty.{Ty}
use Rattle.bds_value.specs.declared.value.Ty.TheVariants as ty
use Rattle.bds_tree.specs.Tree.{Tree, FormTree, Trees, TreePairs}
use Rattle.bds_check_rules.specs.declared.rules.CheckFault.{CheckFault}
use Rattle.bds_check_typing.specs.Answers.{Fits}
use Rattle.bds_check_typing.specs.Remade.{remade_expr, remade_form, remade_exprs, remade_pairs}
use Rattle.bds_check_typing.specs.Walk.{Judged, JudgedForm, JudgedTrees, JudgedPairs}

abbrev pub same_at : At → At
same_at at = at

abbrev pub no_ty : Ty → Ty
no_ty t = ty.Void

-- without its types
abbrev pub bare_expr : Tree → Tree
bare_expr = remade_expr same_at no_ty

abbrev pub bare_form : FormTree → FormTree
bare_form = remade_form same_at no_ty

abbrev pub bare_exprs : Trees → Trees
bare_exprs = remade_exprs same_at no_ty

abbrev pub bare_pairs : TreePairs → TreePairs
bare_pairs = remade_pairs same_at no_ty

abbrev pub LeavesExpr : {X : Type 0} → Result X CheckFault → Tree → Judged → Type 0
LeavesExpr r e j = Fits r j.broken (λ x. e ≡ j.tree)

abbrev pub LeavesForm : {X : Type 0} → Result X CheckFault → FormTree → JudgedForm → Type 0
LeavesForm r f j = Fits r j.broken (λ x. f ≡ j.form)

abbrev pub LeavesExprs : {X : Type 0} → Result X CheckFault → Trees → JudgedTrees → Type 0
LeavesExprs r es j = Fits r j.broken (λ x. es ≡ j.trees)

abbrev pub LeavesPairs : {X : Type 0} → Result X CheckFault → TreePairs → JudgedPairs → Type 0
LeavesPairs r ps j = Fits r j.broken (λ x. ps ≡ j.pairs)
