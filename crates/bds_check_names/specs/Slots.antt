-- How many slots a function needs. What stands in a `par` block needs none of the function around it.
use Rattle.std.specs.Prelude.{ℕ, ◌+◌, Option, Some, None, List, [], ◌∷◌, nat_lt, Bool, if◌then◌else◌}
use Rattle.bds_value.specs.declared.TheConstants.{MAX_SLOTS}
use Rattle.bds_tree.specs.StmtTree.{SmallTree, SmallFormTree, small_declare, small_infer, StmtTree, StmtFormTree, LineTree, BlockTree, StmtTrees, MaybeStmt, PartTree, stmt, inner_block, empty, line, when, while, for, each, declare, infer, block, no_stmts, more_stmts, no_stmt, a_stmt, a_function, an_include, a_statement, switch, CaseTrees, CaseTree, no_cases, more_cases, a_case}
use Rattle.bds_check_names.specs.declared.names.Variable.{Variable}
use Rattle.bds_check_names.specs.Scopes.{any_named}

abbrev pub line_slots : LineTree → ℕ
line_slots (declare t x r) = 1
line_slots (infer x r) = 1
line_slots _ = 0

abbrev pub small_form_slots : SmallFormTree → ℕ
small_form_slots (small_declare t x e) = 1
small_form_slots (small_infer x e) = 1
small_form_slots _ = 0

abbrev pub small_slots : Option SmallTree → ℕ
small_slots None = 0
small_slots (Some s) = small_form_slots s.form

abbrev mutual
  -- one for each local, two more for each list loop, and one for each `switch`
  pub slots : StmtTree → ℕ
  slots (stmt at f) = form_slots f

  pub form_slots : StmtFormTree → ℕ
  form_slots (inner_block b) = block_slots b
  form_slots empty = 0
  form_slots (line l) = line_slots l
  form_slots (when c then_part else_part) = slots then_part + else_slots else_part
  form_slots (while c s) = slots s
  form_slots (for first c next s) = small_slots first + (small_slots next + slots s)
  form_slots (each t x e s) = slots s + 3
  form_slots (switch e cs) = cases_slots cs + 1

  pub cases_slots : CaseTrees → ℕ
  cases_slots no_cases = 0
  cases_slots (more_cases c cs) = case_slots c + cases_slots cs

  pub case_slots : CaseTree → ℕ
  case_slots (a_case at l ss) = stmts_slots ss

  pub else_slots : MaybeStmt → ℕ
  else_slots no_stmt = 0
  else_slots (a_stmt s) = slots s

  pub block_slots : BlockTree → ℕ
  block_slots (block at ss) = stmts_slots ss

  pub stmts_slots : StmtTrees → ℕ
  stmts_slots no_stmts = 0
  stmts_slots (more_stmts s ss) = slots s + stmts_slots ss

-- a declaration at the top level makes a global
abbrev pub top_form_slots : StmtFormTree → ℕ
top_form_slots (line l) = 0
top_form_slots f = form_slots f

abbrev pub top_slots : StmtTree → ℕ
top_slots (stmt at f) = top_form_slots f

abbrev pub parts_slots : List PartTree → ℕ
parts_slots [] = 0
parts_slots (a_function f ∷ ps) = parts_slots ps
parts_slots (an_include i ∷ ps) = parts_slots ps
parts_slots (a_statement s ∷ ps) = top_slots s + parts_slots ps

abbrev pub top_form_globals : StmtFormTree → ℕ
top_form_globals (line l) = line_slots l
top_form_globals _ = 0

abbrev pub top_globals : StmtTree → ℕ
top_globals (stmt at f) = top_form_globals f

-- how many globals the parts declare
abbrev pub parts_globals : List PartTree → ℕ
parts_globals [] = 0
parts_globals (a_function f ∷ ps) = parts_globals ps
parts_globals (an_include i ∷ ps) = parts_globals ps
parts_globals (a_statement s ∷ ps) = top_globals s + parts_globals ps

-- how many variables aren't hidden by a later one of their name
abbrev pub visible : List Variable → ℕ
visible [] = 0
visible (v ∷ vs) = if any_named v.name vs then visible vs else visible vs + 1

-- each function needs so many besides
abbrev pub spare_slots : ℕ
spare_slots = 8

abbrev pub are_too_many : ℕ → Bool
are_too_many n = nat_lt MAX_SLOTS (n + spare_slots)
