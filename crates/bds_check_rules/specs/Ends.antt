-- Which statements end a function's body, so that no `return` is missing behind them.
use Rattle.std.specs.Prelude.{Bool, true, false, ◌&&◌}
use Rattle.bds_tree.specs.StmtTree.{StmtTree, StmtFormTree, LineTree, BlockTree, StmtTrees, MaybeStmt, stmt, inner_block, empty, line, when, while, for, each, return, error, exit, block, no_stmts, more_stmts, no_stmt, a_stmt, switch, CaseTrees, CaseTree, no_cases, more_cases, a_case}

abbrev pub line_ends : LineTree → Bool
line_ends (return r) = true
line_ends (error e) = true
line_ends (exit e) = true
line_ends _ = false

abbrev mutual
  pub ends : StmtTree → Bool
  ends (stmt at f) = form_ends f

  pub form_ends : StmtFormTree → Bool
  form_ends (inner_block b) = block_ends b
  form_ends empty = false
  form_ends (line l) = line_ends l
  form_ends (when c then_part else_part) = ends then_part && else_ends else_part
  form_ends (while c s) = false
  form_ends (for first c next s) = false
  form_ends (each t x e s) = false
  form_ends (switch e cs) = false

  pub else_ends : MaybeStmt → Bool
  else_ends no_stmt = false
  else_ends (a_stmt s) = ends s

  -- its last statement ends
  pub block_ends : BlockTree → Bool
  block_ends (block at ss) = last_ends ss

  pub last_ends : StmtTrees → Bool
  last_ends no_stmts = false
  last_ends (more_stmts s no_stmts) = ends s
  last_ends (more_stmts s (more_stmts r rs)) = last_ends (more_stmts r rs)
