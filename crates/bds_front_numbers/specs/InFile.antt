-- For private contracts alone: each kind of tree with all its nodes in the file of a number.
use Rattle.std.specs.Prelude.{ℕ}
use Rattle.bds_tree.specs.declared.stmt.Body.{Body}
use Rattle.bds_tree.specs.declared.stmt.Command.{Command}
use Rattle.bds_tree.specs.Tree.{Tree, FormTree, Trees, TreePairs}
use Rattle.bds_tree.specs.StmtTree.{SuffixTree, PlaceTree, StepTree, SmallFormTree, SmallTree, SettingFormTree, SettingTree, StmtTree, StmtFormTree, LineTree, RightTree, ActTree, ActFormTree, BlockTree, StmtTrees, CaseTree, CaseTrees}
use Rattle.bds_check_typing.specs.Numbered.{in_file, kept_ty}
use Rattle.bds_check_typing.specs.Remade.{remade_expr, remade_form, remade_exprs, remade_pairs, remade_suffix, remade_place, remade_step, remade_small_form, remade_small, remade_setting_form, remade_setting, remade_command, remade_body, remade_stmt, remade_stmt_form, remade_line, remade_right, remade_act, remade_act_form, remade_block, remade_stmts, remade_case, remade_cases}

module _ (file : ℕ) where
  abbrev pub expr_in : Tree → Tree
  expr_in e = remade_expr (in_file file) kept_ty e

  abbrev pub form_in : FormTree → FormTree
  form_in f = remade_form (in_file file) kept_ty f

  abbrev pub exprs_in : Trees → Trees
  exprs_in es = remade_exprs (in_file file) kept_ty es

  abbrev pub pairs_in : TreePairs → TreePairs
  pairs_in ps = remade_pairs (in_file file) kept_ty ps

  abbrev pub suffix_in : SuffixTree → SuffixTree
  suffix_in s = remade_suffix (in_file file) kept_ty s

  abbrev pub place_in : PlaceTree → PlaceTree
  place_in p = remade_place (in_file file) kept_ty p

  abbrev pub step_in : StepTree → StepTree
  step_in s = remade_step (in_file file) kept_ty s

  abbrev pub small_form_in : SmallFormTree → SmallFormTree
  small_form_in f = remade_small_form (in_file file) kept_ty f

  abbrev pub small_in : SmallTree → SmallTree
  small_in s = remade_small (in_file file) kept_ty s

  abbrev pub setting_form_in : SettingFormTree → SettingFormTree
  setting_form_in f = remade_setting_form (in_file file) kept_ty f

  abbrev pub setting_in : SettingTree → SettingTree
  setting_in s = remade_setting (in_file file) kept_ty s

  abbrev pub command_in : Command → Command
  command_in c = remade_command (in_file file) kept_ty c

  abbrev pub body_in : Body → Body
  body_in b = remade_body (in_file file) kept_ty b

  abbrev pub stmt_in : StmtTree → StmtTree
  stmt_in s = remade_stmt (in_file file) kept_ty s

  abbrev pub stmt_form_in : StmtFormTree → StmtFormTree
  stmt_form_in f = remade_stmt_form (in_file file) kept_ty f

  abbrev pub line_in : LineTree → LineTree
  line_in l = remade_line (in_file file) kept_ty l

  abbrev pub right_in : RightTree → RightTree
  right_in r = remade_right (in_file file) kept_ty r

  abbrev pub act_in : ActTree → ActTree
  act_in a = remade_act (in_file file) kept_ty a

  abbrev pub act_form_in : ActFormTree → ActFormTree
  act_form_in f = remade_act_form (in_file file) kept_ty f

  abbrev pub block_in : BlockTree → BlockTree
  block_in b = remade_block (in_file file) kept_ty b

  abbrev pub case_in : CaseTree → CaseTree
  case_in c = remade_case (in_file file) kept_ty c

  abbrev pub cases_in : CaseTrees → CaseTrees
  cases_in cs = remade_cases (in_file file) kept_ty cs

  abbrev pub stmts_in : StmtTrees → StmtTrees
  stmts_in ss = remade_stmts (in_file file) kept_ty ss
