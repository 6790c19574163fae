-- The nodes of a typed script and the pieces of its texts, by which sizes are bounded. A place, an act, an option, each `sys` and a case is a node.
use Rattle.std.specs.Prelude.{ℕ, ◌+◌, Option, Some, None, List, [], ◌∷◌, length}
use Rattle.bds_tree.specs.declared.stmt.Command.{Command}
use Rattle.bds_tree.specs.Tree.{Tree, FormTree, Trees, TreePairs, node, number, text, truth, name, call, group, list, mapping, item, key, method, prefix, binary, choice, dependency, none, more, no_pairs, more_pairs}
use Rattle.bds_tree.specs.StmtTree.{SuffixTree, at_index, at_key, PlaceTree, SmallFormTree, small_declare, small_infer, small_assign, small_update, small_step, small_call, SmallTree, SettingFormTree, setting_named, setting_plain, SettingTree, StmtTree, StmtFormTree, LineTree, RightTree, ActTree, ActFormTree, BlockTree, StmtTrees, stmt, inner_block, empty, line, when, while, for, each, declare, infer, assign, update, step, call_line, print, println, error, exit, break, continue, return, wait, checkpoint, act_line, right_expr, right_act, act, sys, task, dep, goal, par_call, par_block, block, no_stmts, more_stmts, no_stmt, a_stmt, no_right, a_right, switch, CaseTrees, CaseTree, no_cases, more_cases, a_case}
use Rattle.bds_check_rules.specs.StmtBreaks.{commands_of, stepped}
use Rattle.bds_check_size.specs.StmtSize.{maybe_settings}

abbrev mutual
  -- the expressions and the pieces of texts in one
  pub expr_nodes : Tree → ℕ
  expr_nodes (node at t f) = 1 + form_nodes f

  pub form_nodes : FormTree → ℕ
  form_nodes (number v) = 0
  form_nodes (text ps) = length ps
  form_nodes (truth b) = 0
  form_nodes (name x) = 0
  form_nodes (call f es) = trees_nodes es
  form_nodes (group e) = expr_nodes e
  form_nodes (list es) = trees_nodes es
  form_nodes (mapping ps) = pairs_nodes ps
  form_nodes (item a i) = expr_nodes a + expr_nodes i
  form_nodes (key a k) = expr_nodes a + expr_nodes k
  form_nodes (method a m es) = expr_nodes a + trees_nodes es
  form_nodes (prefix o a) = expr_nodes a
  form_nodes (binary a o b) = expr_nodes a + expr_nodes b
  form_nodes (choice c a b) = expr_nodes c + expr_nodes a + expr_nodes b
  form_nodes (dependency a b) = expr_nodes a + expr_nodes b

  pub trees_nodes : Trees → ℕ
  trees_nodes none = 0
  trees_nodes (more e es) = expr_nodes e + trees_nodes es

  pub pairs_nodes : TreePairs → ℕ
  pairs_nodes no_pairs = 0
  pairs_nodes (more_pairs k v ps) = expr_nodes k + expr_nodes v + pairs_nodes ps

abbrev pub maybe_nodes : Option Tree → ℕ
maybe_nodes None = 0
maybe_nodes (Some e) = expr_nodes e

abbrev pub suffixes_nodes : List SuffixTree → ℕ
suffixes_nodes [] = 0
suffixes_nodes (at_index e ∷ ss) = expr_nodes e + suffixes_nodes ss
suffixes_nodes (at_key e ∷ ss) = expr_nodes e + suffixes_nodes ss

abbrev pub place_nodes : PlaceTree → ℕ
place_nodes p = 1 + suffixes_nodes p.suffixes

abbrev pub small_form_nodes : SmallFormTree → ℕ
small_form_nodes (small_declare t x e) = maybe_nodes e
small_form_nodes (small_infer x e) = expr_nodes e
small_form_nodes (small_assign p e) = place_nodes p + expr_nodes e
small_form_nodes (small_update p o e) = place_nodes p + expr_nodes e
small_form_nodes (small_step s) = place_nodes (stepped s)
small_form_nodes (small_call e) = expr_nodes e

abbrev pub small_nodes : Option SmallTree → ℕ
small_nodes None = 0
small_nodes (Some s) = 1 + small_form_nodes s.form

abbrev pub setting_form_nodes : SettingFormTree → ℕ
setting_form_nodes (setting_named x e) = expr_nodes e
setting_form_nodes (setting_plain e) = expr_nodes e

abbrev pub settings_nodes : List SettingTree → ℕ
settings_nodes [] = 0
settings_nodes (s ∷ ss) = 1 + setting_form_nodes s.form + settings_nodes ss

abbrev pub commands_nodes : List Command → ℕ
commands_nodes [] = 0
commands_nodes (c ∷ cs) = 1 + length c.text + commands_nodes cs

abbrev mutual
  pub stmt_nodes : StmtTree → ℕ
  stmt_nodes (stmt at f) = 1 + form_stmt_nodes f

  pub form_stmt_nodes : StmtFormTree → ℕ
  form_stmt_nodes (inner_block b) = block_nodes b
  form_stmt_nodes empty = 0
  form_stmt_nodes (line l) = line_nodes l
  form_stmt_nodes (when c then_part no_stmt) = expr_nodes c + stmt_nodes then_part
  form_stmt_nodes (when c then_part (a_stmt else_part)) = expr_nodes c + stmt_nodes then_part + stmt_nodes else_part
  form_stmt_nodes (while c s) = expr_nodes c + stmt_nodes s
  form_stmt_nodes (for first c next s) = small_nodes first + maybe_nodes c + small_nodes next + stmt_nodes s
  form_stmt_nodes (each t x e s) = expr_nodes e + stmt_nodes s
  form_stmt_nodes (switch e cs) = expr_nodes e + cases_nodes cs

  pub cases_nodes : CaseTrees → ℕ
  cases_nodes no_cases = 0
  cases_nodes (more_cases c cs) = case_nodes c + cases_nodes cs

  pub case_nodes : CaseTree → ℕ
  case_nodes (a_case at l ss) = 1 + maybe_nodes l + stmts_nodes ss

  pub line_nodes : LineTree → ℕ
  line_nodes (declare t x no_right) = 0
  line_nodes (declare t x (a_right r)) = right_nodes r
  line_nodes (infer x r) = right_nodes r
  line_nodes (assign p r) = place_nodes p + right_nodes r
  line_nodes (update p o r) = place_nodes p + right_nodes r
  line_nodes (step s) = place_nodes (stepped s)
  line_nodes (call_line e) = expr_nodes e
  line_nodes (print e) = expr_nodes e
  line_nodes (println e) = maybe_nodes e
  line_nodes (error e) = expr_nodes e
  line_nodes (exit e) = expr_nodes e
  line_nodes break = 0
  line_nodes continue = 0
  line_nodes (return no_right) = 0
  line_nodes (return (a_right r)) = right_nodes r
  line_nodes (wait e) = maybe_nodes e
  line_nodes (checkpoint e) = maybe_nodes e
  line_nodes (act_line a) = act_nodes a

  pub right_nodes : RightTree → ℕ
  right_nodes (right_expr e) = expr_nodes e
  right_nodes (right_act a) = act_nodes a

  pub act_nodes : ActTree → ℕ
  act_nodes (act at f) = 1 + act_form_nodes f

  pub act_form_nodes : ActFormTree → ℕ
  act_form_nodes (sys ps) = length ps
  act_form_nodes (task os b) = settings_nodes (maybe_settings os) + commands_nodes (commands_of b)
  act_form_nodes (dep os b) = settings_nodes os + commands_nodes (commands_of b)
  act_form_nodes (goal e) = expr_nodes e
  act_form_nodes (par_call f es) = trees_nodes es
  act_form_nodes (par_block b) = block_nodes b

  pub block_nodes : BlockTree → ℕ
  block_nodes (block at ss) = 1 + stmts_nodes ss

  pub stmts_nodes : StmtTrees → ℕ
  stmts_nodes no_stmts = 0
  stmts_nodes (more_stmts s ss) = stmt_nodes s + stmts_nodes ss
