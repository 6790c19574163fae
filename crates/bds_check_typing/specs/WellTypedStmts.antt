-- What a typed statement is: each node has its type and breaks no rule under the names in force there.
use Rattle.std.specs.Prelude.{◌≡◌, true, None, ⊤}
use Rattle.bds_tree.specs.StmtTree.{StmtTree, StmtFormTree, LineTree, RightTree, ActTree, ActFormTree, BlockTree, StmtTrees, MaybeStmt, MaybeRight, stmt, inner_block, empty, line, when, while, for, each, declare, infer, assign, update, step, call_line, print, println, error, exit, break, continue, return, wait, checkpoint, act_line, right_expr, right_act, act, sys, task, dep, goal, par_call, par_block, block, no_stmts, more_stmts, no_stmt, a_stmt, no_right, a_right, switch, CaseTrees, CaseTree, no_cases, more_cases, a_case}
use Rattle.bds_check_names.specs.declared.names.Names.{Names}
use Rattle.bds_check_names.specs.declared.names.Asked.{Asked}
use Rattle.bds_check_names.specs.declared.names.Asked.TheVariants.{Whole, Value, This}
use Rattle.bds_check_names.specs.declared.names.Site.{Site}
use Rattle.bds_check_names.specs.Scopes.{function_named, with_local, inner, in_loop, in_switch, apart}
use Rattle.bds_check_rules.specs.Declarations.{declared_by, names_with}
use Rattle.bds_check_rules.specs.StmtBreaks.{place_ty, stmt_breaks, none_seen, act_breaks}
use Rattle.bds_check_typing.specs.Walk.{parameters_of}
use Rattle.bds_check_typing.specs.StmtParts.{returned, par_rule}
use Rattle.bds_check_typing.specs.WellTyped.{IsWellTyped, AreArgumentsWellTyped}
use Rattle.bds_check_typing.specs.WellTypedParts.{IsWellTypedMaybe, IsWellTypedPlace, IsWellTypedStep, IsWellTypedSmall, names_behind_small, AreWellTypedSettings, AreWellTypedMaybeSettings, IsWellTypedBody}

-- Statements

abbrev pub names_behind : StmtTree → Names → Site → Names
names_behind s names site = names_with names site (declared_by s)

abbrev mutual
  -- a statement that stands at this site, with these names in force before it
  pub IsWellTypedStmt : StmtTree → Names → Site → Type 0
  IsWellTypedStmt (stmt at f) names site = IsWellTypedForm f names site × (stmt_breaks names site f ≡ None)

  -- the parts of a statement; each branch and body is a block of its own, and so are the head of a `for` with its body and, within it,
  -- the last part of that head; the variable of a list loop stands in a block around the body
  pub IsWellTypedForm : StmtFormTree → Names → Site → Type 0
  IsWellTypedForm (inner_block b) names site = IsWellTypedBlock b names (inner names site)
  IsWellTypedForm empty names site = ⊤
  IsWellTypedForm (line l) names site = IsWellTypedLine l names site
  IsWellTypedForm (when c then_part else_part) names site =
      IsWellTyped c names Value × IsWellTypedStmt then_part names (inner names site) × IsWellTypedElse else_part names (inner names site)
  IsWellTypedForm (while c s) names site = IsWellTyped c names Value × IsWellTypedStmt s names (in_loop names site)
  IsWellTypedForm (for first c next s) names site =
      let behind : Names = names_behind_small first names (inner names site) in
      IsWellTypedSmall first names (inner names site) × IsWellTypedMaybe c behind × IsWellTypedSmall next behind (inner behind site)
      × IsWellTypedStmt s behind (in_loop behind site)
  IsWellTypedForm (each t x e s) names site =
      let behind : Names = with_local names x t in
      IsWellTyped e names Value × IsWellTypedStmt s behind (in_loop behind site)
  IsWellTypedForm (switch e cs) names site = IsWellTyped e names Value × AreWellTypedCases cs names site

  pub AreWellTypedCases : CaseTrees → Names → Site → Type 0
  AreWellTypedCases no_cases names site = ⊤
  AreWellTypedCases (more_cases c cs) names site = IsWellTypedCase c names site × AreWellTypedCases cs names site

  pub IsWellTypedCase : CaseTree → Names → Site → Type 0
  IsWellTypedCase (a_case at l ss) names site = IsWellTypedMaybe l names × AreWellTypedStmts ss names (in_switch names site)

  pub IsWellTypedElse : MaybeStmt → Names → Site → Type 0
  IsWellTypedElse no_stmt names site = ⊤
  IsWellTypedElse (a_stmt s) names site = IsWellTypedStmt s names site

  pub IsWellTypedLine : LineTree → Names → Site → Type 0
  IsWellTypedLine (declare t x r) names site = IsWellTypedMaybeRight r names (This t)
  IsWellTypedLine (infer x r) names site = IsWellTypedRight r names Value
  IsWellTypedLine (assign p r) names site = IsWellTypedPlace p names × IsWellTypedRight r names (This (place_ty names p))
  IsWellTypedLine (update p o r) names site = IsWellTypedPlace p names × IsWellTypedRight r names Value
  IsWellTypedLine (step s) names site = IsWellTypedStep s names
  IsWellTypedLine (call_line e) names site = IsWellTyped e names Whole
  IsWellTypedLine (print e) names site = IsWellTyped e names Value
  IsWellTypedLine (println e) names site = IsWellTypedMaybe e names
  IsWellTypedLine (error e) names site = IsWellTyped e names Value
  IsWellTypedLine (exit e) names site = IsWellTyped e names Value
  IsWellTypedLine break names site = ⊤
  IsWellTypedLine continue names site = ⊤
  IsWellTypedLine (return r) names site = IsWellTypedMaybeRight r names (returned site.returns)
  IsWellTypedLine (wait e) names site = IsWellTypedMaybe e names
  IsWellTypedLine (checkpoint e) names site = IsWellTypedMaybe e names
  IsWellTypedLine (act_line a) names site = IsWellTypedAct a names Whole

  pub IsWellTypedRight : RightTree → Names → Asked → Type 0
  IsWellTypedRight (right_expr e) names asked = IsWellTyped e names asked
  IsWellTypedRight (right_act a) names asked = IsWellTypedAct a names asked

  pub IsWellTypedMaybeRight : MaybeRight → Names → Asked → Type 0
  IsWellTypedMaybeRight no_right names asked = ⊤
  IsWellTypedMaybeRight (a_right r) names asked = IsWellTypedRight r names asked

  pub IsWellTypedAct : ActTree → Names → Asked → Type 0
  IsWellTypedAct (act at f) names asked = IsWellTypedActForm f names × (act_breaks names asked f ≡ None)

  -- the parts of an act; a `par` block also breaks no rule of slots
  pub IsWellTypedActForm : ActFormTree → Names → Type 0
  IsWellTypedActForm (sys ps) names = ⊤
  IsWellTypedActForm (task os b) names = AreWellTypedMaybeSettings os names × IsWellTypedBody b names
  IsWellTypedActForm (dep os b) names = AreWellTypedSettings os names true none_seen × IsWellTypedBody b names
  IsWellTypedActForm (goal e) names = IsWellTyped e names Value
  IsWellTypedActForm (par_call f es) names = AreArgumentsWellTyped es names (parameters_of (function_named f names.functions))
  IsWellTypedActForm (par_block b) names = IsWellTypedBlock b names (apart names) × (par_rule names b ≡ None)

  -- a block whose site is given
  pub IsWellTypedBlock : BlockTree → Names → Site → Type 0
  IsWellTypedBlock (block at ss) names site = AreWellTypedStmts ss names site

  -- each under the names behind those before it
  pub AreWellTypedStmts : StmtTrees → Names → Site → Type 0
  AreWellTypedStmts no_stmts names site = ⊤
  AreWellTypedStmts (more_stmts s ss) names site = IsWellTypedStmt s names site × AreWellTypedStmts ss (names_behind s names site) site
