-- A well-typed statement is judged as it stands: the walk meets no broken node, and leaves it as it is.
use Rattle.std.proofs.Common.{◌≡◌, true, false, Option, Some, None, refl, ap, ap₂, ◌∙◌}
use Rattle.bds_tree.specs.StmtTree.{StmtTree, StmtFormTree, LineTree, RightTree, ActTree, ActFormTree, BlockTree, StmtTrees, MaybeStmt, MaybeRight, stmt, inner_block, empty, line, when, while, for, each, declare, infer, assign, update, step, call_line, print, println, error, exit, break, continue, return, wait, checkpoint, act_line, right_expr, right_act, act, sys, task, dep, goal, par_call, par_block, block, no_stmts, more_stmts, no_stmt, a_stmt, no_right, a_right, CaseTrees, CaseTree, switch, no_cases, more_cases, a_case}
use Rattle.bds_check_names.specs.declared.names.Names.{Names}
use Rattle.bds_check_names.specs.declared.names.Asked.{Asked}
use Rattle.bds_check_names.specs.declared.names.Asked.TheVariants.{Whole, Value, This}
use Rattle.bds_check_names.specs.declared.names.Site.{Site}
use Rattle.bds_check_rules.specs.declared.rules.Rule.{Rule}
use Rattle.bds_check_names.specs.Scopes.{function_named, with_local, inner, in_loop, apart, in_switch}
use Rattle.bds_check_rules.specs.Declarations.{declared_by_form, names_with}
use Rattle.bds_check_rules.specs.StmtBreaks.{place_ty, none_seen, commands_of}
use Rattle.bds_check_typing.specs.Walk.{Broken, placed, parameters_of}
use Rattle.bds_check_typing.specs.StmtParts.{JudgedSmall, JudgedActForm, JudgedAct, JudgedForm, JudgedStmt, JudgedBlock, judge_maybe, judge_small, task_with, dep_with, par_with, block_at, par_block_with, close_act, returned, close_stmt}
use Rattle.bds_check_typing.specs.StmtWalk.{JudgedRight, JudgedMaybeRight, JudgedLine, JudgedMaybeStmt, JudgedStmts, goal_with, right_with, right_with_act, some_right, line_with, line_with_maybe, line_with_right, line_with_maybe_right, line_with_place, line_with_step, line_with_act, form_with_block, form_with_line, form_with_branches, form_with_body, form_with_head, some_stmt, also_stmt, block_with, judge_stmt, judge_stmt_form, judge_else, judge_line, judge_right, judge_maybe_right, judge_act, judge_act_form, judge_block, judge_stmts, JudgedCase, JudgedCases, form_with_cases, case_with, also_case, judge_cases, judge_case}
use Rattle.bds_check_typing.specs.WellTypedParts.{names_behind_small}
use Rattle.bds_check_typing.specs.WellTypedStmts.{names_behind, IsWellTypedStmt, IsWellTypedForm, IsWellTypedElse, IsWellTypedLine, IsWellTypedRight, IsWellTypedMaybeRight, IsWellTypedAct, IsWellTypedActForm, IsWellTypedBlock, AreWellTypedStmts, AreWellTypedCases, IsWellTypedCase}
use Rattle.bds_check_typing.proofs.AcceptedValues.{three, judged-whole, arguments-whole}
use Rattle.bds_check_typing.proofs.AcceptedParts.{whole_small, maybe-whole, place-whole, step-whole, small-whole, settings-whole, commands-whole}

-- Judged as they stand

abbrev pub whole_act_form : ActFormTree → JudgedActForm
whole_act_form f = record { form = f; broken = None }

abbrev whole_act : ActTree → JudgedAct
whole_act a = record { act = a; broken = None }

abbrev pub whole_right : RightTree → JudgedRight
whole_right r = record { right = r; broken = None }

abbrev whole_maybe_right : MaybeRight → JudgedMaybeRight
whole_maybe_right r = record { right = r; broken = None }

abbrev whole_line : LineTree → JudgedLine
whole_line l = record { line = l; broken = None }

abbrev pub whole_form : StmtFormTree → JudgedForm
whole_form f = record { form = f; broken = None }

abbrev pub whole_stmt : StmtTree → Names → Site → JudgedStmt
whole_stmt s names site = record { stmt = s; broken = None; names = names_behind s names site }

abbrev whole_else : MaybeStmt → JudgedMaybeStmt
whole_else s = record { stmt = s; broken = None }

abbrev names_behind_stmts : StmtTrees → Names → Site → Names
names_behind_stmts no_stmts names site = names
names_behind_stmts (more_stmts s ss) names site = names_behind_stmts ss (names_behind s names site) site

abbrev whole_stmts : StmtTrees → Names → Site → JudgedStmts
whole_stmts ss names site = record { stmts = ss; broken = None; names = names_behind_stmts ss names site }

abbrev whole_cases : CaseTrees → JudgedCases
whole_cases cs = record { cases = cs; broken = None }

abbrev pub whole_case : CaseTree → JudgedCase
whole_case c = record { tree = c; broken = None }

abbrev pub whole_block : BlockTree → JudgedBlock
whole_block b = record { block = b; broken = None }

-- Statements

mutual
  pub stmt-whole : (s : StmtTree) (names : Names) (site : Site) → IsWellTypedStmt s names site → judge_stmt s names site ≡ whole_stmt s names site
  stmt-whole (stmt at f) names site w =
      ap (close_stmt at names site) (form-whole f names site w.0) ∙ ap (λ (r : Option Rule). record { stmt = stmt at f; broken = placed at r; names = names_with names site (declared_by_form f) }) w.1

  pub form-whole : (f : StmtFormTree) (names : Names) (site : Site) → IsWellTypedForm f names site → judge_stmt_form f names site ≡ whole_form f
  form-whole (inner_block b) names site w = ap form_with_block (block-whole b names (inner names site) w)
  form-whole empty names site w = refl
  form-whole (line l) names site w = ap form_with_line (line-whole l names site w)
  form-whole (when c then_part else_part) names site w =
      three form_with_branches (judged-whole names c Value w.0) (stmt-whole then_part names (inner names site) w.1) (else-whole else_part names (inner names site) w.2)
  form-whole (while c s) names site w = ap₂ (form_with_body while) (judged-whole names c Value w.0) (stmt-whole s names (in_loop names site) w.1)
  form-whole (for head c next s) names site w =
      let behind : Names = names_behind_small head names (inner names site) in
      ap (λ (j : JudgedSmall). form_with_head j (judge_maybe c j.names) (judge_small next j.names (inner j.names site)) (judge_stmt s j.names (in_loop j.names site))) (small-whole names head (inner names site) w.0)
      ∙ three (form_with_head (whole_small head names (inner names site))) (maybe-whole behind c w.1) (small-whole behind next (inner behind site) w.2) (stmt-whole s behind (in_loop behind site) w.3)
  form-whole (each t x e s) names site w =
      let behind : Names = with_local names x t in
      ap₂ (form_with_body (each t x)) (judged-whole names e Value w.0) (stmt-whole s behind (in_loop behind site) w.1)
  form-whole (switch e cs) names site w = ap₂ form_with_cases (judged-whole names e Value w.0) (cases-whole cs names site w.1)

  cases-whole : (cs : CaseTrees) (names : Names) (site : Site) → AreWellTypedCases cs names site → judge_cases cs names site ≡ whole_cases cs
  cases-whole no_cases names site w = refl
  cases-whole (more_cases c cs) names site w = ap₂ also_case (case-whole c names site w.0) (cases-whole cs names site w.1)

  pub case-whole : (c : CaseTree) (names : Names) (site : Site) → IsWellTypedCase c names site → judge_case c names site ≡ whole_case c
  case-whole (a_case at l ss) names site w = ap₂ (case_with at) (maybe-whole names l w.0) (stmts-whole ss names (in_switch names site) w.1)

  else-whole : (s : MaybeStmt) (names : Names) (site : Site) → IsWellTypedElse s names site → judge_else s names site ≡ whole_else s
  else-whole no_stmt names site w = refl
  else-whole (a_stmt s) names site w = ap some_stmt (stmt-whole s names site w)

  line-whole : (l : LineTree) (names : Names) (site : Site) → IsWellTypedLine l names site → judge_line l names site ≡ whole_line l
  line-whole (declare t x r) names site w = ap (line_with_maybe_right (declare t x)) (maybe-right-whole r names (This t) w)
  line-whole (infer x r) names site w = ap (line_with_right (infer x)) (right-whole r names Value w)
  line-whole (assign p r) names site w = ap₂ (line_with_place assign) (place-whole names p w.0) (right-whole r names (This (place_ty names p)) w.1)
  line-whole (update p o r) names site w = ap₂ (line_with_place (λ q. update q o)) (place-whole names p w.0) (right-whole r names Value w.1)
  line-whole (step s) names site w = ap line_with_step (step-whole names s w)
  line-whole (call_line e) names site w = ap (line_with call_line) (judged-whole names e Whole w)
  line-whole (print e) names site w = ap (line_with print) (judged-whole names e Value w)
  line-whole (println e) names site w = ap (line_with_maybe println) (maybe-whole names e w)
  line-whole (error e) names site w = ap (line_with error) (judged-whole names e Value w)
  line-whole (exit e) names site w = ap (line_with exit) (judged-whole names e Value w)
  line-whole break names site w = refl
  line-whole continue names site w = refl
  line-whole (return r) names site w = ap (line_with_maybe_right return) (maybe-right-whole r names (returned site.returns) w)
  line-whole (wait e) names site w = ap (line_with_maybe wait) (maybe-whole names e w)
  line-whole (checkpoint e) names site w = ap (line_with_maybe checkpoint) (maybe-whole names e w)
  line-whole (act_line a) names site w = ap line_with_act (act-whole a names Whole w)

  pub right-whole : (r : RightTree) (names : Names) (asked : Asked) → IsWellTypedRight r names asked → judge_right r names asked ≡ whole_right r
  right-whole (right_expr e) names asked w = ap right_with (judged-whole names e asked w)
  right-whole (right_act a) names asked w = ap right_with_act (act-whole a names asked w)

  maybe-right-whole : (r : MaybeRight) (names : Names) (asked : Asked) → IsWellTypedMaybeRight r names asked → judge_maybe_right r names asked ≡ whole_maybe_right r
  maybe-right-whole no_right names asked w = refl
  maybe-right-whole (a_right r) names asked w = ap some_right (right-whole r names asked w)

  act-whole : (a : ActTree) (names : Names) (asked : Asked) → IsWellTypedAct a names asked → judge_act a names asked ≡ whole_act a
  act-whole (act at f) names asked w = ap (close_act at names asked) (act-form-whole f names w.0) ∙ ap (λ (r : Option Rule). record { act = act at f; broken = placed at r }) w.1

  pub act-form-whole : (f : ActFormTree) (names : Names) → IsWellTypedActForm f names → judge_act_form f names ≡ whole_act_form f
  act-form-whole (sys ps) names w = refl
  act-form-whole (task None b) names w = ap (λ (r : Option Broken). record { form = task None b; broken = r }) (commands-whole names (commands_of b) w.1)
  act-form-whole (task (Some os) b) names w = ap₂ (task_with b) (settings-whole names os false none_seen w.0) (commands-whole names (commands_of b) w.1)
  act-form-whole (dep os b) names w = ap₂ (dep_with b) (settings-whole names os true none_seen w.0) (commands-whole names (commands_of b) w.1)
  act-form-whole (goal e) names w = ap goal_with (judged-whole names e Value w)
  act-form-whole (par_call f es) names w = ap (par_with f) (arguments-whole names es (parameters_of (function_named f names.functions)) w)
  act-form-whole (par_block b) names w =
      ap (par_block_with names) (block-whole b names (apart names) w.0) ∙ ap (λ (r : Option Rule). record { form = par_block b; broken = placed (block_at b) r }) w.1

  pub block-whole : (b : BlockTree) (names : Names) (site : Site) → IsWellTypedBlock b names site → judge_block b names site ≡ whole_block b
  block-whole (block at ss) names site w = ap (block_with at) (stmts-whole ss names site w)

  stmts-whole : (ss : StmtTrees) (names : Names) (site : Site) → AreWellTypedStmts ss names site → judge_stmts ss names site ≡ whole_stmts ss names site
  stmts-whole no_stmts names site w = refl
  stmts-whole (more_stmts s ss) names site w =
      ap (λ (j : JudgedStmt). also_stmt j (judge_stmts ss j.names site)) (stmt-whole s names site w.0) ∙ ap (also_stmt (whole_stmt s names site)) (stmts-whole ss (names_behind s names site) site w.1)
