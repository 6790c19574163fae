-- What a walk in place has to leave of statements.
use Rattle.std.specs.Prelude.{◌≡◌, Result}
use Rattle.bds_tree.specs.StmtTree.{StmtTree, StmtFormTree, LineTree, RightTree, MaybeRight, ActTree, ActFormTree}
use Rattle.bds_tree.specs.StmtTree.{BlockTree, StmtTrees, MaybeStmt, CaseTree, CaseTrees}
use Rattle.bds_check_names.specs.declared.names.Names.{Names}
use Rattle.bds_check_rules.specs.declared.rules.CheckFault.{CheckFault}
use Rattle.bds_check_typing.specs.Answers.{Fits}
use Rattle.bds_check_typing.specs.Remade.{remade_stmt, remade_stmt_form, remade_else, remade_line, remade_right}
use Rattle.bds_check_typing.specs.Remade.{remade_maybe_right, remade_act, remade_act_form, remade_block, remade_stmts}
use Rattle.bds_check_typing.specs.Remade.{remade_case, remade_cases}
use Rattle.bds_check_typing.specs.StmtParts.{JudgedAct, JudgedStmt, JudgedBlock}
use Rattle.bds_check_typing.specs.StmtParts.{JudgedForm as JudgedStmtForm}
use Rattle.bds_check_typing.specs.StmtWalk.{JudgedRight, JudgedMaybeRight, JudgedLine, JudgedMaybeStmt, JudgedStmts}
use Rattle.bds_check_typing.specs.StmtWalk.{JudgedCase, JudgedCases}
use Rattle.bds_check_walk.specs.InPlace.{same_at, no_ty}

-- without their types
abbrev pub bare_stmt : StmtTree → StmtTree
bare_stmt = remade_stmt same_at no_ty

abbrev pub bare_stmt_form : StmtFormTree → StmtFormTree
bare_stmt_form = remade_stmt_form same_at no_ty

abbrev pub bare_else : MaybeStmt → MaybeStmt
bare_else = remade_else same_at no_ty

abbrev pub bare_line : LineTree → LineTree
bare_line = remade_line same_at no_ty

abbrev pub bare_right : RightTree → RightTree
bare_right = remade_right same_at no_ty

abbrev pub bare_maybe_right : MaybeRight → MaybeRight
bare_maybe_right = remade_maybe_right same_at no_ty

abbrev pub bare_act : ActTree → ActTree
bare_act = remade_act same_at no_ty

abbrev pub bare_act_form : ActFormTree → ActFormTree
bare_act_form = remade_act_form same_at no_ty

abbrev pub bare_block : BlockTree → BlockTree
bare_block = remade_block same_at no_ty

abbrev pub bare_stmts : StmtTrees → StmtTrees
bare_stmts = remade_stmts same_at no_ty

abbrev pub bare_case : CaseTree → CaseTree
bare_case = remade_case same_at no_ty

abbrev pub bare_cases : CaseTrees → CaseTrees
bare_cases = remade_cases same_at no_ty

-- and these names are left
abbrev pub LeavesStmt : {X : Type 0} → Result X CheckFault → StmtTree → Names → JudgedStmt → Type 0
LeavesStmt r s left j = Fits r j.broken (λ x. (s ≡ j.stmt) × (left ≡ j.names))

-- a statement in a block of its own
abbrev pub LeavesBranch : {X : Type 0} → Result X CheckFault → StmtTree → JudgedStmt → Type 0
LeavesBranch r s j = Fits r j.broken (λ x. s ≡ j.stmt)

abbrev pub LeavesStmtForm : {X : Type 0} → Result X CheckFault → StmtFormTree → JudgedStmtForm → Type 0
LeavesStmtForm r f j = Fits r j.broken (λ x. f ≡ j.form)

abbrev pub LeavesElse : {X : Type 0} → Result X CheckFault → MaybeStmt → JudgedMaybeStmt → Type 0
LeavesElse r s j = Fits r j.broken (λ x. s ≡ j.stmt)

abbrev pub LeavesLine : {X : Type 0} → Result X CheckFault → LineTree → JudgedLine → Type 0
LeavesLine r l j = Fits r j.broken (λ x. l ≡ j.line)

abbrev pub LeavesRight : {X : Type 0} → Result X CheckFault → RightTree → JudgedRight → Type 0
LeavesRight r x j = Fits r j.broken (λ y. x ≡ j.right)

abbrev pub LeavesMaybeRight : {X : Type 0} → Result X CheckFault → MaybeRight → JudgedMaybeRight → Type 0
LeavesMaybeRight r x j = Fits r j.broken (λ y. x ≡ j.right)

abbrev pub LeavesAct : {X : Type 0} → Result X CheckFault → ActTree → JudgedAct → Type 0
LeavesAct r a j = Fits r j.broken (λ x. a ≡ j.act)

abbrev pub LeavesBlock : {X : Type 0} → Result X CheckFault → BlockTree → JudgedBlock → Type 0
LeavesBlock r b j = Fits r j.broken (λ x. b ≡ j.block)

-- and these names are left
abbrev pub LeavesStmts : {X : Type 0} → Result X CheckFault → StmtTrees → Names → JudgedStmts → Type 0
LeavesStmts r ss left j = Fits r j.broken (λ x. (ss ≡ j.stmts) × (left ≡ j.names))

-- statements in a block of their own
abbrev pub LeavesWithin : {X : Type 0} → Result X CheckFault → StmtTrees → JudgedStmts → Type 0
LeavesWithin r ss j = Fits r j.broken (λ x. ss ≡ j.stmts)

abbrev pub LeavesCase : {X : Type 0} → Result X CheckFault → CaseTree → JudgedCase → Type 0
LeavesCase r c j = Fits r j.broken (λ x. c ≡ j.tree)

abbrev pub LeavesCases : {X : Type 0} → Result X CheckFault → CaseTrees → JudgedCases → Type 0
LeavesCases r cs j = Fits r j.broken (λ x. cs ≡ j.cases)
