-- What an answer of the walk has to be: what was judged where nothing is broken, and else the first broken node.
use Rattle.std.specs.Prelude.{◌≡◌, Option, Some, None, List, Result, Ok, Err, ⊤}
use Rattle.bds_value.specs.declared.value.At.{At}
use Rattle.bds_tree.specs.declared.expr.Expr.{Expr}
use Rattle.bds_tree.specs.declared.expr.Form.{Form}
use Rattle.bds_tree.specs.Tree.{joined, joined_pairs}
use Rattle.bds_tree.specs.View.{tree_of, form_tree_of, trees_of, pairs_of}
use Rattle.bds_check_rules.specs.declared.rules.CheckFault.{CheckFault}
use Rattle.bds_check_rules.specs.declared.rules.CheckFault.TheVariants as fault
use Rattle.bds_check_rules.specs.declared.rules.Rule.{Rule}
use Rattle.bds_check_typing.specs.Walk.{Broken, first, Judged, JudgedForm, JudgedTrees, JudgedPairs}

abbrev pub broken_at : Rule → At → Broken
broken_at r at = record { rule = r; at = at }

-- want of memory is free
abbrev pub Fits : {X : Type 0} → Result X CheckFault → Option Broken → (X → Type 0) → Type 0
Fits (Err fault.NoMemory) broken IsRight = ⊤
Fits (Err (fault.Broken r at)) broken IsRight = broken ≡ Some (broken_at r at)
Fits (Ok x) broken IsRight = (broken ≡ None) × IsRight x

-- of parts before one with this fault
abbrev pub FitsBefore : {X : Type 0} → Result X CheckFault → CheckFault → Option Broken → Type 0
FitsBefore r fault.NoMemory broken = Fits r broken (λ x. ⊥)
FitsBefore r (fault.Broken rule at) broken = Fits r (first broken (Some (broken_at rule at))) (λ x. ⊥)

abbrev pub FitsExpr : Result Expr CheckFault → Judged → Type 0
FitsExpr r j = Fits r j.broken (λ e. tree_of e ≡ j.tree)

abbrev pub FitsForm : Result Form CheckFault → JudgedForm → Type 0
FitsForm r j = Fits r j.broken (λ f. form_tree_of f ≡ j.form)

abbrev pub FitsExprs : Result (List Expr) CheckFault → JudgedTrees → Type 0
FitsExprs r j = Fits r j.broken (λ es. trees_of es ≡ j.trees)

-- behind expressions that were there
abbrev pub FitsMore : Result (List Expr) CheckFault → List Expr → JudgedTrees → Type 0
FitsMore r before j = Fits r j.broken (λ es. trees_of es ≡ joined (trees_of before) j.trees)

abbrev pub FitsPairs : Result (List (Expr × Expr)) CheckFault → JudgedPairs → Type 0
FitsPairs r j = Fits r j.broken (λ ps. pairs_of ps ≡ j.pairs)

abbrev pub FitsMorePairs : Result (List (Expr × Expr)) CheckFault → List (Expr × Expr) → JudgedPairs → Type 0
FitsMorePairs r before j = Fits r j.broken (λ ps. pairs_of ps ≡ joined_pairs (pairs_of before) j.pairs)
