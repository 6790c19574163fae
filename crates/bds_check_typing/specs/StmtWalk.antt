-- The walk through statements: the parts of each in the order of the text, then itself.
use Rattle.std.specs.Prelude.{Option, None}
use Rattle.bds_value.specs.declared.value.At.{At}
use Rattle.bds_tree.specs.Tree.{Tree}
use Rattle.bds_tree.specs.StmtTree.{PlaceTree, SmallTree, StmtTree, StmtFormTree, LineTree, RightTree, ActTree, ActFormTree, BlockTree, StmtTrees, MaybeStmt, MaybeRight, stmt, inner_block, empty, line, when, while, for, each, declare, infer, assign, update, step, call_line, print, println, error, exit, break, continue, return, wait, checkpoint, act_line, right_expr, right_act, act, sys, task, dep, goal, par_call, par_block, block, no_stmts, more_stmts, no_stmt, a_stmt, no_right, a_right, switch, CaseTrees, CaseTree, no_cases, more_cases, a_case}
use Rattle.bds_check_names.specs.declared.names.Names.{Names}
use Rattle.bds_check_names.specs.declared.names.Asked.{Asked}
use Rattle.bds_check_names.specs.declared.names.Asked.TheVariants.{Whole, Value, This}
use Rattle.bds_check_names.specs.declared.names.Site.{Site}
use Rattle.bds_check_names.specs.Scopes.{with_local, inner, in_loop, in_switch, apart}
use Rattle.bds_check_rules.specs.StmtBreaks.{place_ty}
use Rattle.bds_check_typing.specs.Walk.{Broken, Judged, first, judge}
use Rattle.bds_check_typing.specs.StmtParts.{JudgedMaybe, JudgedPlace, JudgedStep, JudgedSmall, JudgedActForm, JudgedAct, JudgedForm, JudgedStmt, JudgedBlock, judge_maybe, judge_place, judge_step, judge_small, par_block_with, close_act, returned, close_stmt, judge_task, judge_dep, judge_par_call}

pub record JudgedRight : Type 0 where
  pub right : RightTree
  pub broken : Option Broken

pub record JudgedMaybeRight : Type 0 where
  pub right : MaybeRight
  pub broken : Option Broken

pub record JudgedLine : Type 0 where
  pub line : LineTree
  pub broken : Option Broken

pub record JudgedMaybeStmt : Type 0 where
  pub stmt : MaybeStmt
  pub broken : Option Broken

pub record JudgedStmts : Type 0 where
  pub stmts : StmtTrees
  pub broken : Option Broken
  pub names : Names

pub record JudgedCase : Type 0 where
  pub tree : CaseTree
  pub broken : Option Broken

pub record JudgedCases : Type 0 where
  pub cases : CaseTrees
  pub broken : Option Broken

abbrev pub goal_with : Judged → JudgedActForm
goal_with j = record { form = goal j.tree; broken = j.broken }

-- Statements

abbrev pub right_with : Judged → JudgedRight
right_with j = record { right = right_expr j.tree; broken = j.broken }

abbrev pub right_with_act : JudgedAct → JudgedRight
right_with_act j = record { right = right_act j.act; broken = j.broken }

abbrev pub some_right : JudgedRight → JudgedMaybeRight
some_right j = record { right = a_right j.right; broken = j.broken }

abbrev pub line_with : (Tree → LineTree) → Judged → JudgedLine
line_with make j = record { line = make j.tree; broken = j.broken }

abbrev pub line_with_maybe : (Option Tree → LineTree) → JudgedMaybe → JudgedLine
line_with_maybe make j = record { line = make j.expr; broken = j.broken }

abbrev pub line_with_right : (RightTree → LineTree) → JudgedRight → JudgedLine
line_with_right make j = record { line = make j.right; broken = j.broken }

abbrev pub line_with_maybe_right : (MaybeRight → LineTree) → JudgedMaybeRight → JudgedLine
line_with_maybe_right make j = record { line = make j.right; broken = j.broken }

abbrev pub line_with_place : (PlaceTree → RightTree → LineTree) → JudgedPlace → JudgedRight → JudgedLine
line_with_place make p j = record { line = make p.place j.right; broken = first p.broken j.broken }

abbrev pub line_with_step : JudgedStep → JudgedLine
line_with_step j = record { line = step j.step; broken = j.broken }

abbrev pub line_with_act : JudgedAct → JudgedLine
line_with_act j = record { line = act_line j.act; broken = j.broken }

abbrev pub line_alone : LineTree → JudgedLine
line_alone l = record { line = l; broken = None }

abbrev pub form_alone : StmtFormTree → JudgedForm
form_alone f = record { form = f; broken = None }

abbrev pub form_with_block : JudgedBlock → JudgedForm
form_with_block j = record { form = inner_block j.block; broken = j.broken }

abbrev pub form_with_line : JudgedLine → JudgedForm
form_with_line j = record { form = line j.line; broken = j.broken }

abbrev pub form_with_branches : Judged → JudgedStmt → JudgedMaybeStmt → JudgedForm
form_with_branches c then_part else_part = record { form = when c.tree then_part.stmt else_part.stmt; broken = first c.broken (first then_part.broken else_part.broken) }

abbrev pub form_with_body : (Tree → StmtTree → StmtFormTree) → Judged → JudgedStmt → JudgedForm
form_with_body make c s = record { form = make c.tree s.stmt; broken = first c.broken s.broken }

abbrev pub form_with_head : JudgedSmall → JudgedMaybe → JudgedSmall → JudgedStmt → JudgedForm
form_with_head f c n s = record { form = for f.small c.expr n.small s.stmt; broken = first f.broken (first c.broken (first n.broken s.broken)) }

abbrev pub form_with_cases : Judged → JudgedCases → JudgedForm
form_with_cases e cs = record { form = switch e.tree cs.cases; broken = first e.broken cs.broken }

abbrev pub case_with : At → JudgedMaybe → JudgedStmts → JudgedCase
case_with at l ss = record { tree = a_case at l.expr ss.stmts; broken = first l.broken ss.broken }

abbrev pub also_case : JudgedCase → JudgedCases → JudgedCases
also_case j js = record { cases = more_cases j.tree js.cases; broken = first j.broken js.broken }

abbrev pub some_stmt : JudgedStmt → JudgedMaybeStmt
some_stmt j = record { stmt = a_stmt j.stmt; broken = j.broken }

abbrev pub also_stmt : JudgedStmt → JudgedStmts → JudgedStmts
also_stmt j js = record { stmts = more_stmts j.stmt js.stmts; broken = first j.broken js.broken; names = js.names }

abbrev pub block_with : At → JudgedStmts → JudgedBlock
block_with at js = record { block = block at js.stmts; broken = js.broken }

-- the names behind the first part of the head of a loop, which stands in a block around the loop
abbrev pub behind_first : Option SmallTree → Names → Site → Names
behind_first f names site = (judge_small f names (inner names site)).names

abbrev mutual
  -- under these names, where it stands
  pub judge_stmt : StmtTree → Names → Site → JudgedStmt
  judge_stmt (stmt at f) names site = close_stmt at names site (judge_stmt_form f names site)

  -- the parts of a statement
  pub judge_stmt_form : StmtFormTree → Names → Site → JudgedForm
  judge_stmt_form (inner_block b) names site = form_with_block (judge_block b names (inner names site))
  judge_stmt_form empty names site = form_alone empty
  judge_stmt_form (line l) names site = form_with_line (judge_line l names site)
  judge_stmt_form (when c then_part else_part) names site =
      form_with_branches (judge c names Value) (judge_stmt then_part names (inner names site)) (judge_else else_part names (inner names site))
  judge_stmt_form (while c s) names site = form_with_body while (judge c names Value) (judge_stmt s names (in_loop names site))
  judge_stmt_form (for f c n s) names site =
      form_with_head (judge_small f names (inner names site)) (judge_maybe c (behind_first f names site))
      (judge_small n (behind_first f names site) (inner (behind_first f names site) site))
      (judge_stmt s (behind_first f names site) (in_loop (behind_first f names site) site))
  judge_stmt_form (each t x e s) names site =
      form_with_body (each t x) (judge e names Value) (judge_stmt s (with_local names x t) (in_loop (with_local names x t) site))
  judge_stmt_form (switch e cs) names site = form_with_cases (judge e names Value) (judge_cases cs names site)

  pub judge_cases : CaseTrees → Names → Site → JudgedCases
  judge_cases no_cases names site = record { cases = no_cases; broken = None }
  judge_cases (more_cases c cs) names site = also_case (judge_case c names site) (judge_cases cs names site)

  -- the label, and then the statements, which are a block
  pub judge_case : CaseTree → Names → Site → JudgedCase
  judge_case (a_case at l ss) names site = case_with at (judge_maybe l names) (judge_stmts ss names (in_switch names site))

  pub judge_else : MaybeStmt → Names → Site → JudgedMaybeStmt
  judge_else no_stmt names site = record { stmt = no_stmt; broken = None }
  judge_else (a_stmt s) names site = some_stmt (judge_stmt s names site)

  pub judge_line : LineTree → Names → Site → JudgedLine
  judge_line (declare t x r) names site = line_with_maybe_right (declare t x) (judge_maybe_right r names (This t))
  judge_line (infer x r) names site = line_with_right (infer x) (judge_right r names Value)
  judge_line (assign p r) names site = line_with_place assign (judge_place p names) (judge_right r names (This (place_ty names p)))
  judge_line (update p o r) names site = line_with_place (λ q. update q o) (judge_place p names) (judge_right r names Value)
  judge_line (step s) names site = line_with_step (judge_step s names)
  judge_line (call_line e) names site = line_with call_line (judge e names Whole)
  judge_line (print e) names site = line_with print (judge e names Value)
  judge_line (println e) names site = line_with_maybe println (judge_maybe e names)
  judge_line (error e) names site = line_with error (judge e names Value)
  judge_line (exit e) names site = line_with exit (judge e names Value)
  judge_line break names site = line_alone break
  judge_line continue names site = line_alone continue
  judge_line (return r) names site = line_with_maybe_right return (judge_maybe_right r names (returned site.returns))
  judge_line (wait e) names site = line_with_maybe wait (judge_maybe e names)
  judge_line (checkpoint e) names site = line_with_maybe checkpoint (judge_maybe e names)
  judge_line (act_line a) names site = line_with_act (judge_act a names Whole)

  pub judge_right : RightTree → Names → Asked → JudgedRight
  judge_right (right_expr e) names asked = right_with (judge e names asked)
  judge_right (right_act a) names asked = right_with_act (judge_act a names asked)

  pub judge_maybe_right : MaybeRight → Names → Asked → JudgedMaybeRight
  judge_maybe_right no_right names asked = record { right = no_right; broken = None }
  judge_maybe_right (a_right r) names asked = some_right (judge_right r names asked)

  pub judge_act : ActTree → Names → Asked → JudgedAct
  judge_act (act at f) names asked = close_act at names asked (judge_act_form f names)

  pub judge_act_form : ActFormTree → Names → JudgedActForm
  judge_act_form (sys ps) names = record { form = sys ps; broken = None }
  judge_act_form (task os b) names = judge_task os b names
  judge_act_form (dep os b) names = judge_dep os b names
  judge_act_form (goal e) names = goal_with (judge e names Value)
  judge_act_form (par_call f es) names = judge_par_call f es names
  judge_act_form (par_block b) names = par_block_with names (judge_block b names (apart names))

  -- a block whose site is given
  pub judge_block : BlockTree → Names → Site → JudgedBlock
  judge_block (block at ss) names site = block_with at (judge_stmts ss names site)

  pub judge_stmts : StmtTrees → Names → Site → JudgedStmts
  judge_stmts no_stmts names site = record { stmts = no_stmts; broken = None; names = names }
  judge_stmts (more_stmts s ss) names site =
      also_stmt (judge_stmt s names site) (judge_stmts ss (judge_stmt s names site).names site)
