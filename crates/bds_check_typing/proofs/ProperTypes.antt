-- The types that a program writes can be written.
use Rattle.std.proofs.Common.{◌≡◌, ℕ, true, List, [], ◌∷◌, length, Option, Some, None}
use Rattle.std.specs.List.{AllByRecursion}
use Rattle.bds_tree.specs.StmtTree.{SmallFormTree, small_declare, small_infer, small_assign, small_update, small_step, small_call, SmallTree, StmtTree, StmtFormTree, LineTree, RightTree, ActTree, ActFormTree, BlockTree, StmtTrees, MaybeStmt, MaybeRight, PartTree, ScriptTree, stmt, inner_block, empty, line, when, while, for, each, declare, infer, assign, update, return, act_line, right_expr, right_act, act, sys, task, dep, goal, par_call, par_block, block, no_stmts, more_stmts, no_stmt, a_stmt, no_right, a_right, a_function, an_include, a_statement, CaseTrees, CaseTree, switch, no_cases, more_cases, a_case}
use Rattle.bds_value.specs.Fields.{is_solid}
use Rattle.bds_tree.specs.declared.stmt.Parameter.{Parameter}
use Rattle.bds_check_typing.specs.Proper.{IsProperParameter, IsProperSmallForm, IsProperSmall, IsProperStmt, IsProperStmtForm, IsProperElse, IsProperLine, IsProperRight, IsProperMaybeRight, IsProperAct, IsProperActForm, IsProperBlock, AreProperStmts, IsProperPart, IsProgram, AreProperCases, IsProperCase}
use Rattle.bds_check_typing.specs.Known.{AreSmallFormTypesWritten, AreSmallTypesWritten, AreStmtTypesWritten, AreFormTypesWritten, AreElseTypesWritten, AreLineTypesWritten, AreRightTypesWritten, AreMaybeRightTypesWritten, AreActTypesWritten, AreActFormTypesWritten, AreBlockTypesWritten, AreStmtsTypesWritten, ArePartTypesWritten, HasWrittenTypes, AreCasesTypesWritten, AreCaseTypesWritten}

-- where there are so many files
module _ (n : ℕ) where
  small-form-written : (f : SmallFormTree) → IsProperSmallForm n f → AreSmallFormTypesWritten f
  small-form-written (small_declare t x e) h = h.0.0
  small-form-written (small_infer x e) h = tt
  small-form-written (small_assign p e) h = tt
  small-form-written (small_update p o e) h = tt
  small-form-written (small_step s) h = tt
  small-form-written (small_call e) h = tt

  small-written : (s : Option SmallTree) → IsProperSmall n s → AreSmallTypesWritten s
  small-written None h = tt
  small-written (Some s) h = small-form-written s.form h.1

  mutual
    stmt-written : (s : StmtTree) → IsProperStmt n s → AreStmtTypesWritten s
    stmt-written (stmt at f) h = form-written f h.1

    form-written : (f : StmtFormTree) → IsProperStmtForm n f → AreFormTypesWritten f
    form-written (inner_block b) h = block-written b h
    form-written empty h = tt
    form-written (line l) h = line-written l h
    form-written (when c then_part else_part) h = (stmt-written then_part h.1, else-written else_part h.2)
    form-written (while c s) h = stmt-written s h.1
    form-written (for first c next s) h = (small-written first h.0, small-written next h.2, stmt-written s h.3)
    form-written (each t x e s) h = (h.0.0, stmt-written s h.3)
    form-written (switch e cs) h = cases-written cs h.1

    cases-written : (cs : CaseTrees) → AreProperCases n cs → AreCasesTypesWritten cs
    cases-written no_cases h = tt
    cases-written (more_cases c cs) h = (case-written c h.0, cases-written cs h.1)

    case-written : (c : CaseTree) → IsProperCase n c → AreCaseTypesWritten c
    case-written (a_case at l ss) h = stmts-written ss h.2

    else-written : (s : MaybeStmt) → IsProperElse n s → AreElseTypesWritten s
    else-written no_stmt h = tt
    else-written (a_stmt s) h = stmt-written s h

    line-written : (l : LineTree) → IsProperLine n l → AreLineTypesWritten l
    line-written (declare t x r) h = (h.0.0, maybe-right-written r h.2)
    line-written (infer x r) h = right-written r h.1
    line-written (assign p r) h = right-written r h.1
    line-written (update p o r) h = right-written r h.1
    line-written (return r) h = maybe-right-written r h
    line-written (act_line a) h = act-written a h
    line-written _ h = tt

    right-written : (r : RightTree) → IsProperRight n r → AreRightTypesWritten r
    right-written (right_expr e) h = tt
    right-written (right_act a) h = act-written a h

    maybe-right-written : (r : MaybeRight) → IsProperMaybeRight n r → AreMaybeRightTypesWritten r
    maybe-right-written no_right h = tt
    maybe-right-written (a_right r) h = right-written r h

    act-written : (a : ActTree) → IsProperAct n a → AreActTypesWritten a
    act-written (act at f) h = act-form-written f h.1

    act-form-written : (f : ActFormTree) → IsProperActForm n f → AreActFormTypesWritten f
    act-form-written (sys ps) h = tt
    act-form-written (task os b) h = tt
    act-form-written (dep os b) h = tt
    act-form-written (goal e) h = tt
    act-form-written (par_call f es) h = tt
    act-form-written (par_block b) h = block-written b h

    block-written : (b : BlockTree) → IsProperBlock n b → AreBlockTypesWritten b
    block-written (block at ss) h = stmts-written ss h.1

    stmts-written : (ss : StmtTrees) → AreProperStmts n ss → AreStmtsTypesWritten ss
    stmts-written no_stmts h = tt
    stmts-written (more_stmts s ss) h = (stmt-written s h.0, stmts-written ss h.1)

  parameters-written : (ps : List Parameter) → AllByRecursion IsProperParameter ps → AllByRecursion (λ p. is_solid p.ty ≡ true) ps
  parameters-written [] h = tt
  parameters-written (p ∷ ps) h = (h.0.0.0, parameters-written ps h.1)

  part-written : (p : PartTree) → IsProperPart n p → ArePartTypesWritten p
  part-written (a_function f) h = (h.1.0, parameters-written f.parameters h.3, block-written f.body h.4)
  part-written (an_include i) h = tt
  part-written (a_statement s) h = stmt-written s h

  parts-written : (ps : List PartTree) → AllByRecursion (IsProperPart n) ps → AllByRecursion ArePartTypesWritten ps
  parts-written [] h = tt
  parts-written (p ∷ ps) h = (part-written p h.0, parts-written ps h.1)

pub program-written : (s : ScriptTree) → IsProgram s → HasWrittenTypes s
program-written s p = parts-written (length s.files) s.parts p.parts
