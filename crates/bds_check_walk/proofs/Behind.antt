-- The arguments of a method, behind a receiver whose type is known.
use Rattle.std.proofs.Common.{◌≡◌, ℕ, Bool, not, false, true, if◌then◌else◌, List, [], ◌∷◌, Result, length, refl, subst}
use Rattle.std.proofs.Common.{ap}
use Rattle.std.proofs.Common.{sym, ◌∙◌, arith, rules}
use Rattle.bds_value.specs.declared.value.Ty.{Ty}
use Rattle.bds_value.specs.declared.value.Ty.TheVariants as ty
use Rattle.bds_tree.specs.declared.expr.Expr.{Expr}
use Rattle.bds_tree.specs.Tree.{Trees}
use Rattle.bds_tree.specs.View.{trees_of}
use Rattle.bds_check_names.specs.declared.names.Names.{Names}
use Rattle.bds_check_names.specs.declared.names.Asked.TheVariants.{This}
use Rattle.bds_check_names.specs.Types.{is_known}
use Rattle.bds_check_names.specs.Rows.{row_of}
use Rattle.bds_check_rules.specs.Typing.{count}
use Rattle.bds_check_rules.specs.declared.rules.CheckFault.{CheckFault}
use Rattle.bds_check_typing.specs.Walk.{JudgedTrees, judge_items, judge_arguments, judge_behind, taken_by}
use Rattle.bds_check_walk.specs.InPlace.{LeavesExprs}

pub not-false : (b : Bool) → not b ≡ false → b ≡ true
not-false true h = refl
not-false false h = absurd (search (rules, h))

count-length : (es : List Expr) → count (trees_of es) ≡ length es
count-length [] = refl
count-length (e ∷ es) = omega (arith, count-length es)

pub taken-behind : {X : Type 0} (r : Result X CheckFault) (new : Trees) (es : List Expr) (names : Names) (t : Ty)
    (m : List ℕ)
    (ts : List Ty) → is_known t ≡ true → ts ≡ taken_by (row_of t m (length es)) →
    LeavesExprs r new (judge_arguments (trees_of es) names ts)
    → LeavesExprs r new (judge_behind (trees_of es) names t m)
taken-behind r new es names t m ts known same h =
    let a : JudgedTrees = judge_arguments (trees_of es) names (taken_by (row_of t m (count (trees_of es)))) in
    let b : JudgedTrees = judge_items (trees_of es) names false (This ty.Void) in
    let counted : ts ≡ taken_by (row_of t m (count (trees_of es))) =
    same ∙ ap (λ (n : ℕ). taken_by (row_of t m n)) (sym (count-length es)) in
    let k : LeavesExprs r new a =
    subst (λ (us : List Ty). LeavesExprs r new (judge_arguments (trees_of es) names us)) counted h in
    subst (λ (x : Bool). LeavesExprs r new (if x then a else b)) (sym known) k
