-- What an answer of the walk of statements has to be.
use Rattle.std.specs.Prelude.{◌≡◌, Option, List, Result}
use Rattle.std.specs.Option.{option_map}
use Rattle.bds_tree.specs.declared.stmt.Block.{Block}
use Rattle.bds_tree.specs.declared.stmt.Case.{Case}
use Rattle.bds_tree.specs.declared.stmt.Line.{Line}
use Rattle.bds_tree.specs.declared.stmt.RightSide.{RightSide}
use Rattle.bds_tree.specs.declared.stmt.Stmt.{Stmt}
use Rattle.bds_tree.specs.StmtTree.{to_maybe_stmt, to_maybe_right}
use Rattle.bds_tree.specs.StmtView.{stmt_of, line_of, right_of, block_of, stmts_of, case_of, cases_of}
use Rattle.bds_check_names.specs.declared.names.Names.{Names}
use Rattle.bds_check_rules.specs.declared.rules.CheckFault.{CheckFault}
use Rattle.bds_check_typing.specs.StmtParts.{JudgedStmt, JudgedBlock}
use Rattle.bds_check_typing.specs.StmtWalk.{JudgedRight, JudgedMaybeRight, JudgedLine, JudgedMaybeStmt, JudgedStmts, JudgedCase, JudgedCases}
use Rattle.bds_check_typing.specs.Answers.{Fits}

abbrev pub FitsRight : Result RightSide CheckFault → JudgedRight → Type 0
FitsRight r j = Fits r j.broken (λ x. right_of x ≡ j.right)

abbrev pub FitsMaybeRight : Result (Option RightSide) CheckFault → JudgedMaybeRight → Type 0
FitsMaybeRight r j = Fits r j.broken (λ x. to_maybe_right (option_map right_of x) ≡ j.right)

abbrev pub FitsLine : Result Line CheckFault → JudgedLine → Type 0
FitsLine r j = Fits r j.broken (λ l. line_of l ≡ j.line)

-- of a statement in a block of its own
abbrev pub FitsBranch : Result Stmt CheckFault → JudgedStmt → Type 0
FitsBranch r j = Fits r j.broken (λ s. stmt_of s ≡ j.stmt)

abbrev pub FitsElse : Result (Option Stmt) CheckFault → JudgedMaybeStmt → Type 0
FitsElse r j = Fits r j.broken (λ s. to_maybe_stmt (option_map stmt_of s) ≡ j.stmt)

abbrev pub FitsStmts : Result (List Stmt) CheckFault → Names → JudgedStmts → Type 0
FitsStmts r left j = Fits r j.broken (λ ss. (stmts_of ss ≡ j.stmts) × (left ≡ j.names))

-- of statements in a block of their own
abbrev pub FitsWithin : Result (List Stmt) CheckFault → JudgedStmts → Type 0
FitsWithin r j = Fits r j.broken (λ ss. stmts_of ss ≡ j.stmts)

abbrev pub FitsCase : Result Case CheckFault → JudgedCase → Type 0
FitsCase r j = Fits r j.broken (λ c. case_of c ≡ j.tree)

abbrev pub FitsCases : Result (List Case) CheckFault → JudgedCases → Type 0
FitsCases r j = Fits r j.broken (λ cs. cases_of cs ≡ j.cases)

abbrev pub FitsBlock : Result Block CheckFault → JudgedBlock → Type 0
FitsBlock r j = Fits r j.broken (λ b. block_of b ≡ j.block)
