-- For private contracts alone: whether statements and scripts are shaped and nest at most so deep, as a test.
use Rattle.std.specs.Prelude.{ℕ, Bool, true, false, not, ◌&&◌, ◌||◌, List, [], ◌∷◌, Option, Some, None}
use Rattle.bds_value.specs.declared.value.Ty.{Ty}
use Rattle.bds_value.specs.Types.{is_void, fits_within}
use Rattle.bds_value.specs.declared.TheConstants.{MAX_NESTING}
use Rattle.bds_tree.specs.declared.token.Piece.{Piece}
use Rattle.bds_tree.specs.declared.stmt.Body.{Body}
use Rattle.bds_tree.specs.declared.stmt.Body.TheVariants as body
use Rattle.bds_tree.specs.declared.stmt.Command.{Command}
use Rattle.bds_tree.specs.declared.stmt.Include.{Include}
use Rattle.bds_tree.specs.declared.stmt.Parameter.{Parameter}
use Rattle.bds_tree.specs.Tree.{Tree}
use Rattle.bds_tree.specs.StmtTree.{SuffixTree, at_index, at_key, PlaceTree, StepTree, step_after, step_before, SmallFormTree, small_declare, small_infer, small_assign, small_update, small_step, small_call, SmallTree, SettingFormTree, setting_named, setting_plain, SettingTree, StmtTree, StmtFormTree, LineTree, RightTree, ActTree, ActFormTree, BlockTree, StmtTrees, MaybeStmt, MaybeRight, FunctionTree, PartTree, ScriptTree, stmt, inner_block, empty, line, when, while, for, each, declare, infer, assign, update, step, call_line, print, println, error, exit, break, continue, return, wait, checkpoint, act_line, right_expr, right_act, act, sys, task, dep, goal, par_call, par_block, block, no_stmts, more_stmts, no_stmt, a_stmt, no_right, a_right, a_function, an_include, a_statement, switch, CaseTrees, CaseTree, no_cases, more_cases, a_case}
use Rattle.bds_tree.specs.StmtShape.{is_call, is_closed, is_empty_stmt, is_plain}
use Rattle.bds_spell.specs.Fits.{below, is_first, fits, all_fit}

abbrev pub result_fits : Ty → ℕ → Bool
result_fits t most = is_void t || fits_within t most

abbrev pub maybe_fits : Option Tree → ℕ → Bool
maybe_fits None most = true
maybe_fits (Some e) most = below (fits e) most

abbrev pub suffix_fits : SuffixTree → ℕ → Bool
suffix_fits (at_index e) most = below (fits e) most
suffix_fits (at_key e) most = below (fits e) most

abbrev pub suffixes_fit : List SuffixTree → ℕ → Bool
suffixes_fit [] most = true
suffixes_fit (s ∷ ss) most = suffix_fits s most && suffixes_fit ss most

abbrev pub place_fits : PlaceTree → ℕ → Bool
place_fits p most = is_first p.at && suffixes_fit p.suffixes most

abbrev pub step_fits : StepTree → ℕ → Bool
step_fits (step_after p o) most = place_fits p most
step_fits (step_before o p) most = place_fits p most

abbrev pub small_form_fits : SmallFormTree → ℕ → Bool
small_form_fits (small_declare t n e) most = below (fits_within t) most && maybe_fits e most
small_form_fits (small_infer n e) most = below (fits e) most
small_form_fits (small_assign p e) most = place_fits p most && below (fits e) most
small_form_fits (small_update p o e) most = place_fits p most && below (fits e) most
small_form_fits (small_step s) most = step_fits s most
small_form_fits (small_call e) most = is_call e && below (fits e) most

abbrev pub small_fits : Option SmallTree → ℕ → Bool
small_fits None most = true
small_fits (Some s) most = is_first s.at && small_form_fits s.form most

abbrev pub setting_form_fits : SettingFormTree → ℕ → Bool
setting_form_fits (setting_named n e) most = below (fits e) most
setting_form_fits (setting_plain e) most = below (fits e) most

abbrev pub setting_fits : SettingTree → ℕ → Bool
setting_fits s most = is_first s.at && setting_form_fits s.form most

abbrev pub settings_fit : List SettingTree → ℕ → Bool
settings_fit [] most = true
settings_fit (s ∷ ss) most = setting_fits s most && settings_fit ss most

abbrev pub maybe_settings_fit : Option (List SettingTree) → ℕ → Bool
maybe_settings_fit None most = true
maybe_settings_fit (Some ss) most = settings_fit ss most

abbrev pub commands_fit : List Command → Bool
commands_fit [] = true
commands_fit (c ∷ cs) = is_first c.at && commands_fit cs

abbrev pub body_fits : Body → Bool
body_fits (body.Sys c) = is_first c.at
body_fits (body.Block cs) = commands_fit cs

abbrev mutual
  pub stmt_fits : StmtTree → ℕ → Bool
  stmt_fits (stmt at f) most = is_first at && stmt_form_fits f most

  pub stmt_form_fits : StmtFormTree → ℕ → Bool
  stmt_form_fits (inner_block b) most = below (block_fits b) most
  stmt_form_fits empty most = true
  stmt_form_fits (line l) most = line_fits l most
  stmt_form_fits (when c then_part else_part) most = below (fits c) most && (below (stmt_fits then_part) most && else_fits else_part then_part most)
  stmt_form_fits (while c s) most = below (fits c) most && below (stmt_fits s) most
  stmt_form_fits (for first c next s) most = small_fits first most && (maybe_fits c most && (small_fits next most && below (stmt_fits s) most))
  stmt_form_fits (each t n e s) most = below (fits_within t) most && (below (fits e) most && below (stmt_fits s) most)
  stmt_form_fits (switch e cs) most = below (fits e) most && cases_fit cs most

  pub cases_fit : CaseTrees → ℕ → Bool
  cases_fit no_cases most = true
  cases_fit (more_cases c cs) most = case_fits c most && cases_fit cs most

  pub case_fits : CaseTree → ℕ → Bool
  case_fits (a_case at l ss) most = is_first at && (maybe_fits l most && stmts_fit ss most)

  -- behind a then part
  pub else_fits : MaybeStmt → StmtTree → ℕ → Bool
  else_fits no_stmt then_part most = true
  else_fits (a_stmt else_part) then_part most = is_closed then_part && (not (is_empty_stmt then_part) && below (stmt_fits else_part) most)

  pub line_fits : LineTree → ℕ → Bool
  line_fits (declare t n r) most = below (fits_within t) most && maybe_right_fits r most
  line_fits (infer n r) most = right_fits r most
  line_fits (assign p r) most = place_fits p most && right_fits r most
  line_fits (update p o r) most = place_fits p most && right_fits r most
  line_fits (step s) most = step_fits s most
  line_fits (call_line e) most = is_call e && below (fits e) most
  line_fits (print e) most = below (fits e) most
  line_fits (println e) most = maybe_fits e most
  line_fits (error e) most = below (fits e) most
  line_fits (exit e) most = below (fits e) most
  line_fits break most = true
  line_fits continue most = true
  line_fits (return r) most = maybe_right_fits r most
  line_fits (wait e) most = maybe_fits e most
  line_fits (checkpoint e) most = maybe_fits e most
  line_fits (act_line a) most = act_fits a most

  pub right_fits : RightTree → ℕ → Bool
  right_fits (right_expr e) most = below (fits e) most
  right_fits (right_act a) most = act_fits a most

  pub maybe_right_fits : MaybeRight → ℕ → Bool
  maybe_right_fits no_right most = true
  maybe_right_fits (a_right r) most = right_fits r most

  pub act_fits : ActTree → ℕ → Bool
  act_fits (act at f) most = is_first at && act_form_fits f most

  pub act_form_fits : ActFormTree → ℕ → Bool
  act_form_fits (sys ps) most = true
  act_form_fits (task os b) most = maybe_settings_fit os most && body_fits b
  act_form_fits (dep os b) most = settings_fit os most && body_fits b
  act_form_fits (goal e) most = below (fits e) most
  act_form_fits (par_call n es) most = all_fit es most
  act_form_fits (par_block b) most = below (block_fits b) most

  pub block_fits : BlockTree → ℕ → Bool
  block_fits (block at ss) most = is_first at && stmts_fit ss most

  pub stmts_fit : StmtTrees → ℕ → Bool
  stmts_fit no_stmts most = true
  stmts_fit (more_stmts s ss) most = below (stmt_fits s) most && stmts_fit ss most

abbrev pub parameters_fit : List Parameter → ℕ → Bool
parameters_fit [] most = true
parameters_fit (p ∷ ps) most = fits_within p.ty most && parameters_fit ps most

abbrev pub function_fits : FunctionTree → ℕ → Bool
function_fits f most = is_first f.at && (result_fits f.result most && (parameters_fit f.parameters most && block_fits f.body most))

abbrev pub are_plain : List Piece → Bool
are_plain [] = true
are_plain (p ∷ ps) = is_plain p && are_plain ps

abbrev pub include_fits : Include → Bool
include_fits i = is_first i.at && are_plain i.path

abbrev pub part_fits : PartTree → ℕ → Bool
part_fits (a_function f) most = function_fits f most
part_fits (an_include i) most = include_fits i
part_fits (a_statement s) most = stmt_fits s most

abbrev pub parts_fit : List PartTree → ℕ → Bool
parts_fit [] most = true
parts_fit (p ∷ ps) most = part_fits p most && parts_fit ps most

abbrev pub has_no_files : List (List ℕ) → Bool
has_no_files [] = true
has_no_files (f ∷ fs) = false

abbrev pub script_fits : ScriptTree → Bool
script_fits s = is_first s.at && (has_no_files s.files && parts_fit s.parts MAX_NESTING)
