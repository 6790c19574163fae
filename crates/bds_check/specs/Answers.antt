-- What an answer of the walk of scripts has to be.
use Rattle.std.specs.Prelude.{◌≡◌, List, [], Result}
use Rattle.bds_tree.specs.StmtTree.{FunctionTree, PartTree, ScriptTree}
use Rattle.bds_tree.specs.StmtView.{script_of}
use Rattle.bds_check_names.specs.declared.names.Names.{Names}
use Rattle.bds_check_rules.specs.declared.rules.CheckFault.{CheckFault}
use Rattle.bds_check.specs.declared.checking.TypedScript.{TypedScript}
use Rattle.bds_check_typing.specs.Answers.{Fits}
use Rattle.bds_check_typing.specs.Program.{JudgedFunction, JudgedPart, JudgedParts, judge_script, with_body}
use Rattle.bds_check_typing.specs.Remade.{remade_part}
use Rattle.bds_check_typing.specs.StmtParts.{JudgedBlock}
use Rattle.bds_check_walk.specs.InPlace.{same_at, no_ty}

-- without its types
abbrev pub bare_part : PartTree → PartTree
bare_part = remade_part same_at no_ty

-- the function with its body, which was judged
abbrev pub LeavesBody : {X : Type 0} → Result X CheckFault → FunctionTree → FunctionTree → JudgedBlock → Type 0
LeavesBody r new old j = Fits r j.broken (λ x. new ≡ with_body old j.block)

abbrev pub LeavesFunction : {X : Type 0} → Result X CheckFault → FunctionTree → JudgedFunction → Type 0
LeavesFunction r f j = Fits r j.broken (λ x. f ≡ j.function)

-- and these names are left
abbrev pub LeavesPart : {X : Type 0} → Result X CheckFault → PartTree → Names → JudgedPart → Type 0
LeavesPart r p left j = Fits r j.broken (λ x. (p ≡ j.part) × (left ≡ j.names))

abbrev pub LeavesParts : {X : Type 0} → Result X CheckFault → List PartTree → JudgedParts → Type 0
LeavesParts r ps j = Fits r j.broken (λ x. ps ≡ j.parts)

-- the typed script where no node breaks a rule, and else the first broken node; no word sets anything
abbrev pub FitsScript : Result TypedScript CheckFault → ScriptTree → Type 0
FitsScript r source = Fits r (judge_script source).broken (λ t. (script_of t.script ≡ (judge_script source).script)
    × (t.settings ≡ []) × (t.args ≡ []))
