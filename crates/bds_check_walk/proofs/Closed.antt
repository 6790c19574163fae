-- An expression behind its parts.
use Rattle.std.proofs.Common.{◌≡◌, Option, Some, None, Result, subst, ap, sym, ◌∙◌}
use Rattle.bds_value.specs.declared.value.At.{At}
use Rattle.bds_value.specs.declared.value.Ty.{Ty}
use Rattle.bds_tree.specs.Tree.{Tree, FormTree, node}
use Rattle.bds_check_names.specs.declared.names.Names.{Names}
use Rattle.bds_check_names.specs.declared.names.Asked.{Asked}
use Rattle.bds_check_rules.specs.declared.rules.CheckFault.{CheckFault}
use Rattle.bds_check_rules.specs.Breaks.{breaks}
use Rattle.bds_check_typing.specs.Walk.{Broken, Judged, JudgedForm, alone, close, first, judge, judge_form, placed}
use Rattle.bds_check_walk.specs.InPlace.{LeavesExpr}

-- its parts are walked, and then it is closed
pub node-closed : {X : Type 0} (r : Result X CheckFault) (new : Tree) (at : At) (t : Ty) (f g : FormTree)
    (names : Names) (asked : Asked)
    → ((judge_form f names asked).broken ≡ None) × (g ≡ (judge_form f names asked).form) →
    LeavesExpr r new (close at names asked (alone g)) → LeavesExpr r new (judge (node at t f) names asked)
node-closed r new at t f g names asked walked closed =
    let j : JudgedForm = judge_form f names asked in
    let same : close at names asked (alone g) ≡ close at names asked j =
    ap (λ (x : FormTree). close at names asked (alone x)) walked.1
    ∙ ap (λ (w : Option Broken). close at names asked (record { form = j.form; broken = w })) (sym walked.0) in
    subst (λ (k : Judged). LeavesExpr r new k) same closed

-- the walk of its parts broke off
pub node-stops : (at : At) (t : Ty) (f : FormTree) (names : Names) (asked : Asked) (b : Broken)
    → (judge_form f names asked).broken ≡ Some b → (judge (node at t f) names asked).broken ≡ Some b
node-stops at t f names asked b broken =
    ap (λ (w : Option Broken). first w (placed at (breaks names asked (judge_form f names asked).form))) broken
