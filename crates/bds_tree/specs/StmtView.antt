-- The tree that a statement or a script is.
use Rattle.std.specs.Prelude.{List, map}
use Rattle.std.specs.Option.{option_map}
use Rattle.bds_tree.specs.declared.stmt.Act.{Act, fold-Act}
use Rattle.bds_tree.specs.declared.stmt.ActForm.{ActForm, fold-ActForm}
use Rattle.bds_tree.specs.declared.stmt.ActForm.TheOpen.{ActForm-F, Act-F, RightSide-F, Line-F, StmtForm-F, Stmt-F, Block-F, Case-F}
use Rattle.bds_tree.specs.declared.stmt.Block.{Block, fold-Block}
use Rattle.bds_tree.specs.declared.stmt.Case.{Case, fold-Case}
use Rattle.bds_tree.specs.declared.stmt.Line.{Line, fold-Line}
use Rattle.bds_tree.specs.declared.stmt.RightSide.{RightSide, fold-RightSide}
use Rattle.bds_tree.specs.declared.stmt.Stmt.{Stmt, fold-Stmt}
use Rattle.bds_tree.specs.declared.stmt.StmtForm.{StmtForm, fold-StmtForm}
use Rattle.bds_tree.specs.declared.stmt.Function.{Function}
use Rattle.bds_tree.specs.declared.stmt.Part.{Part}
use Rattle.bds_tree.specs.declared.stmt.Part.TheVariants as part
use Rattle.bds_tree.specs.declared.stmt.Script.{Script}
use Rattle.bds_tree.specs.declared.stmt.Place.{Place}
use Rattle.bds_tree.specs.declared.stmt.Suffix.{Suffix}
use Rattle.bds_tree.specs.declared.stmt.Suffix.TheVariants as suffix
use Rattle.bds_tree.specs.declared.stmt.Step.{Step}
use Rattle.bds_tree.specs.declared.stmt.Step.TheVariants as step
use Rattle.bds_tree.specs.declared.stmt.Small.{Small}
use Rattle.bds_tree.specs.declared.stmt.SmallForm.{SmallForm}
use Rattle.bds_tree.specs.declared.stmt.SmallForm.TheVariants as small
use Rattle.bds_tree.specs.declared.stmt.Setting.{Setting}
use Rattle.bds_tree.specs.declared.stmt.SettingForm.{SettingForm}
use Rattle.bds_tree.specs.declared.stmt.SettingForm.TheVariants as setting
use Rattle.bds_tree.specs.View.{tree_of, trees_of}
use Rattle.bds_tree.specs.StmtTree.{SuffixTree, at_index, at_key, PlaceTree, StepTree, step_after, step_before, SmallFormTree, small_declare, small_infer, small_assign, small_update, small_step, small_call, SmallTree, SettingFormTree, setting_named, setting_plain, SettingTree, StmtTree, StmtFormTree, LineTree, RightTree, ActTree, ActFormTree, BlockTree, StmtTrees, FunctionTree, PartTree, ScriptTree, stmt, inner_block, empty, line, when, while, for, each, declare, infer, assign, update, step, call_line, print, println, error, exit, break, continue, return, wait, checkpoint, act_line, right_expr, right_act, act, sys, task, dep, goal, par_call, par_block, block, a_function, an_include, a_statement, to_stmts, to_cases, to_maybe_stmt, to_maybe_right, switch, CaseTrees, CaseTree, no_cases, more_cases, a_case}

abbrev pub suffix_of : Suffix → SuffixTree
suffix_of (suffix.Item e) = at_index (tree_of e)
suffix_of (suffix.Key e) = at_key (tree_of e)

abbrev pub place_of : Place → PlaceTree
place_of p = record { at = p.at; name = p.name; suffixes = map suffix_of p.suffixes }

abbrev pub step_of : Step → StepTree
step_of (step.After p o) = step_after (place_of p) o
step_of (step.Before o p) = step_before o (place_of p)

abbrev pub small_form_of : SmallForm → SmallFormTree
small_form_of (small.Declare t n e) = small_declare t n (option_map tree_of e)
small_form_of (small.Infer n e) = small_infer n (tree_of e)
small_form_of (small.Assign p e) = small_assign (place_of p) (tree_of e)
small_form_of (small.Update p o e) = small_update (place_of p) o (tree_of e)
small_form_of (small.Step s) = small_step (step_of s)
small_form_of (small.Call e) = small_call (tree_of e)

abbrev pub small_of : Small → SmallTree
small_of s = record { at = s.at; form = small_form_of s.form }

abbrev pub setting_form_of : SettingForm → SettingFormTree
setting_form_of (setting.Named n e) = setting_named n (tree_of e)
setting_form_of (setting.Plain e) = setting_plain (tree_of e)

abbrev pub setting_of : Setting → SettingTree
setting_of s = record { at = s.at; form = setting_form_of s.form }

abbrev pub settings_of : List Setting → List SettingTree
settings_of ss = map setting_of ss

module _ where
  abbrev Layer : (Type 0 → Type 0 → Type 0 → Type 0 → Type 0 → Type 0 → Type 0 → Type 0 → Type 0) → Type 0
  Layer F = F ActFormTree LineTree RightTree StmtFormTree ActTree BlockTree CaseTree StmtTree

  abbrev pub act_form_step : Layer ActForm-F → ActFormTree
  act_form_step (ActForm-F.Sys ps) = sys ps
  act_form_step (ActForm-F.Task os b) = task (option_map settings_of os) b
  act_form_step (ActForm-F.Dep os b) = dep (settings_of os) b
  act_form_step (ActForm-F.Goal e) = goal (tree_of e)
  act_form_step (ActForm-F.ParCall n es) = par_call n (trees_of es)
  act_form_step (ActForm-F.ParBlock b) = par_block b

  abbrev pub line_step : Layer Line-F → LineTree
  line_step (Line-F.Declare t n r) = declare t n (to_maybe_right r)
  line_step (Line-F.Infer n r) = infer n r
  line_step (Line-F.Assign p r) = assign (place_of p) r
  line_step (Line-F.Update p o r) = update (place_of p) o r
  line_step (Line-F.Step s) = step (step_of s)
  line_step (Line-F.Call e) = call_line (tree_of e)
  line_step (Line-F.Print e) = print (tree_of e)
  line_step (Line-F.Println e) = println (option_map tree_of e)
  line_step (Line-F.Error e) = error (tree_of e)
  line_step (Line-F.Exit e) = exit (tree_of e)
  line_step Line-F.Break = break
  line_step Line-F.Continue = continue
  line_step (Line-F.Return r) = return (to_maybe_right r)
  line_step (Line-F.Wait e) = wait (option_map tree_of e)
  line_step (Line-F.Checkpoint e) = checkpoint (option_map tree_of e)
  line_step (Line-F.Alone a) = act_line a

  abbrev pub right_step : Layer RightSide-F → RightTree
  right_step (RightSide-F.Expr e) = right_expr (tree_of e)
  right_step (RightSide-F.Act a) = right_act a

  abbrev pub stmt_form_step : Layer StmtForm-F → StmtFormTree
  stmt_form_step (StmtForm-F.Block b) = inner_block b
  stmt_form_step StmtForm-F.Empty = empty
  stmt_form_step (StmtForm-F.Line l) = line l
  stmt_form_step (StmtForm-F.If c a b) = when (tree_of c) a (to_maybe_stmt b)
  stmt_form_step (StmtForm-F.While c s) = while (tree_of c) s
  stmt_form_step (StmtForm-F.For f c n s) = for (option_map small_of f) (option_map tree_of c) (option_map small_of n) s
  stmt_form_step (StmtForm-F.Each t n e s) = each t n (tree_of e) s
  stmt_form_step (StmtForm-F.Switch e cs) = switch (tree_of e) (to_cases cs)

  abbrev pub act_step : Layer Act-F → ActTree
  act_step a = act a.at a.form

  abbrev pub block_step : Layer Block-F → BlockTree
  block_step b = block b.at (to_stmts b.stmts)

  abbrev pub case_step : Layer Case-F → CaseTree
  case_step c = a_case c.at (option_map tree_of c.label) (to_stmts c.stmts)

  abbrev pub stmt_step : Layer Stmt-F → StmtTree
  stmt_step s = stmt s.at s.form

  abbrev pub stmt_of : Stmt → StmtTree
  stmt_of = fold-Stmt ActFormTree LineTree RightTree StmtFormTree ActTree BlockTree CaseTree StmtTree act_form_step line_step right_step stmt_form_step act_step block_step case_step stmt_step

  abbrev pub stmt_form_of : StmtForm → StmtFormTree
  stmt_form_of = fold-StmtForm ActFormTree LineTree RightTree StmtFormTree ActTree BlockTree CaseTree StmtTree act_form_step line_step right_step stmt_form_step act_step block_step case_step stmt_step

  abbrev pub line_of : Line → LineTree
  line_of = fold-Line ActFormTree LineTree RightTree StmtFormTree ActTree BlockTree CaseTree StmtTree act_form_step line_step right_step stmt_form_step act_step block_step case_step stmt_step

  abbrev pub right_of : RightSide → RightTree
  right_of = fold-RightSide ActFormTree LineTree RightTree StmtFormTree ActTree BlockTree CaseTree StmtTree act_form_step line_step right_step stmt_form_step act_step block_step case_step stmt_step

  abbrev pub act_of : Act → ActTree
  act_of = fold-Act ActFormTree LineTree RightTree StmtFormTree ActTree BlockTree CaseTree StmtTree act_form_step line_step right_step stmt_form_step act_step block_step case_step stmt_step

  abbrev pub act_form_of : ActForm → ActFormTree
  act_form_of = fold-ActForm ActFormTree LineTree RightTree StmtFormTree ActTree BlockTree CaseTree StmtTree act_form_step line_step right_step stmt_form_step act_step block_step case_step stmt_step

  abbrev pub block_of : Block → BlockTree
  block_of = fold-Block ActFormTree LineTree RightTree StmtFormTree ActTree BlockTree CaseTree StmtTree act_form_step line_step right_step stmt_form_step act_step block_step case_step stmt_step

  abbrev pub case_of : Case → CaseTree
  case_of = fold-Case ActFormTree LineTree RightTree StmtFormTree ActTree BlockTree CaseTree StmtTree act_form_step line_step right_step stmt_form_step act_step block_step case_step stmt_step

abbrev pub stmts_of : List Stmt → StmtTrees
stmts_of ss = to_stmts (map stmt_of ss)

abbrev pub cases_of : List Case → CaseTrees
cases_of cs = to_cases (map case_of cs)

abbrev pub function_of : Function → FunctionTree
function_of f = record { at = f.at; result = f.result; name = f.name; parameters = f.parameters; body = block_of f.body }

abbrev pub part_of : Part → PartTree
part_of (part.Function f) = a_function (function_of f)
part_of (part.Include i) = an_include i
part_of (part.Stmt s) = a_statement (stmt_of s)

abbrev pub script_of : Script → ScriptTree
script_of s = record { at = s.at; files = s.files; parts = map part_of s.parts }
