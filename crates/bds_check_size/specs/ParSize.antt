-- The functions of `par` blocks: how many instructions they have, and the locals that they are given.
use Rattle.std.specs.Prelude.{ℕ, ◌+◌, Bool, true, false, List, [], ◌∷◌, if◌then◌else◌}
use Rattle.bds_tree.specs.StmtTree.{StmtTree, StmtFormTree, LineTree, RightTree, ActTree, ActFormTree, BlockTree, StmtTrees, stmt, inner_block, empty, line, when, while, for, each, declare, infer, assign, update, return, act_line, right_expr, right_act, act, par_block, block, no_stmts, more_stmts, no_stmt, a_stmt, a_right, switch, CaseTrees, CaseTree, no_cases, more_cases, a_case}
use Rattle.bds_check_names.specs.declared.names.Variable.{Variable}
use Rattle.bds_check_names.specs.Scopes.{any_named}
use Rattle.bds_check_names.specs.Slots.{visible}
use Rattle.bds_check_size.specs.Known.{Known, with_known}
use Rattle.bds_check_size.specs.StmtSize.{known_behind_small, known_behind, block_size}

-- whether an act is a `par` block
abbrev pub is_par : ActFormTree → Bool
is_par (par_block b) = true
is_par _ = false

-- what a `par` block sees: the variables that no later one of their name hides
abbrev pub visible_variables : List Variable → List Variable
visible_variables [] = []
visible_variables (v ∷ vs) = if any_named v.name vs then visible_variables vs else v ∷ visible_variables vs

abbrev pub in_par : Known → Known
in_par k = record { locals = visible_variables k.locals; globals = k.globals }

-- the functions of the `par` blocks in it

abbrev mutual
  pub pars_size : StmtTree → Known → ℕ
  pars_size (stmt at f) k = form_pars_size f k

  pub form_pars_size : StmtFormTree → Known → ℕ
  form_pars_size (inner_block b) k = block_pars_size b k
  form_pars_size empty k = 0
  form_pars_size (line l) k = line_pars_size l k
  form_pars_size (when c a no_stmt) k = pars_size a k
  form_pars_size (when c a (a_stmt b)) k = pars_size a k + pars_size b k
  form_pars_size (while c s) k = pars_size s k
  form_pars_size (for first c next s) k = pars_size s (known_behind_small first k)
  form_pars_size (each t x e s) k = pars_size s (with_known k x t)
  form_pars_size (switch e cs) k = cases_pars_size cs k

  pub cases_pars_size : CaseTrees → Known → ℕ
  cases_pars_size no_cases k = 0
  cases_pars_size (more_cases c cs) k = case_pars_size c k + cases_pars_size cs k

  pub case_pars_size : CaseTree → Known → ℕ
  case_pars_size (a_case at l ss) k = stmts_pars_size ss k

  pub line_pars_size : LineTree → Known → ℕ
  line_pars_size (declare t x (a_right r)) k = right_pars_size r k
  line_pars_size (infer x r) k = right_pars_size r k
  line_pars_size (assign p r) k = right_pars_size r k
  line_pars_size (update p o r) k = right_pars_size r k
  line_pars_size (return (a_right r)) k = right_pars_size r k
  line_pars_size (act_line a) k = act_pars_size a k
  line_pars_size _ k = 0

  pub right_pars_size : RightTree → Known → ℕ
  right_pars_size (right_expr e) k = 0
  right_pars_size (right_act a) k = act_pars_size a k

  pub act_pars_size : ActTree → Known → ℕ
  act_pars_size (act at f) k = act_form_pars_size f k

  pub act_form_pars_size : ActFormTree → Known → ℕ
  act_form_pars_size (par_block b) k = block_pars_size b (in_par k) + (block_size b (in_par k) + 1)
  act_form_pars_size _ k = 0

  pub block_pars_size : BlockTree → Known → ℕ
  block_pars_size (block at ss) k = stmts_pars_size ss k

  pub stmts_pars_size : StmtTrees → Known → ℕ
  stmts_pars_size no_stmts k = 0
  stmts_pars_size (more_stmts s ss) k = pars_size s k + stmts_pars_size ss (known_behind s k)

-- the locals in force at each `par` block in it

abbrev mutual
  pub par_locals : StmtTree → Known → ℕ
  par_locals (stmt at f) k = form_par_locals f k

  pub form_par_locals : StmtFormTree → Known → ℕ
  form_par_locals (inner_block b) k = block_par_locals b k
  form_par_locals empty k = 0
  form_par_locals (line l) k = line_par_locals l k
  form_par_locals (when c a no_stmt) k = par_locals a k
  form_par_locals (when c a (a_stmt b)) k = par_locals a k + par_locals b k
  form_par_locals (while c s) k = par_locals s k
  form_par_locals (for first c next s) k = par_locals s (known_behind_small first k)
  form_par_locals (each t x e s) k = par_locals s (with_known k x t)
  form_par_locals (switch e cs) k = cases_par_locals cs k

  pub cases_par_locals : CaseTrees → Known → ℕ
  cases_par_locals no_cases k = 0
  cases_par_locals (more_cases c cs) k = case_par_locals c k + cases_par_locals cs k

  pub case_par_locals : CaseTree → Known → ℕ
  case_par_locals (a_case at l ss) k = stmts_par_locals ss k

  pub line_par_locals : LineTree → Known → ℕ
  line_par_locals (declare t x (a_right r)) k = right_par_locals r k
  line_par_locals (infer x r) k = right_par_locals r k
  line_par_locals (assign p r) k = right_par_locals r k
  line_par_locals (update p o r) k = right_par_locals r k
  line_par_locals (return (a_right r)) k = right_par_locals r k
  line_par_locals (act_line a) k = act_par_locals a k
  line_par_locals _ k = 0

  pub right_par_locals : RightTree → Known → ℕ
  right_par_locals (right_expr e) k = 0
  right_par_locals (right_act a) k = act_par_locals a k

  pub act_par_locals : ActTree → Known → ℕ
  act_par_locals (act at f) k = act_form_par_locals f k

  pub act_form_par_locals : ActFormTree → Known → ℕ
  act_form_par_locals (par_block b) k = visible k.locals + block_par_locals b (in_par k)
  act_form_par_locals _ k = 0

  pub block_par_locals : BlockTree → Known → ℕ
  block_par_locals (block at ss) k = stmts_par_locals ss k

  pub stmts_par_locals : StmtTrees → Known → ℕ
  stmts_par_locals no_stmts k = 0
  stmts_par_locals (more_stmts s ss) k = par_locals s k + stmts_par_locals ss (known_behind s k)
