-- For private contracts alone: the words of the spelling of a script, as they are written one behind the other.
use Rattle.std.specs.Prelude.{ℕ, Bool, true, false, ◌||◌, List, [], ◌∷◌, ◌++◌, Option, Some, None, if◌then◌else◌}
use Rattle.bds_tree.specs.declared.token.Word.{Word}
use Rattle.bds_tree.specs.declared.token.Word.TheVariants as w
use Rattle.bds_tree.specs.Tree.{Tree, Trees}
use Rattle.bds_spell.specs.ExprWords.{comma_unless, expr_words, all_words}
use Rattle.bds_value.specs.declared.value.Ty.{Ty, fold-Ty}
use Rattle.bds_value.specs.declared.value.Ty.TheOpen.{Ty-F}
use Rattle.bds_tree.specs.declared.stmt.Body.{Body}
use Rattle.bds_tree.specs.declared.stmt.Body.TheVariants as body
use Rattle.bds_tree.specs.declared.stmt.Command.{Command}
use Rattle.bds_tree.specs.declared.stmt.Include.{Include}
use Rattle.bds_tree.specs.declared.stmt.Parameter.{Parameter}
use Rattle.bds_tree.specs.declared.stmt.StepOp.{StepOp}
use Rattle.bds_tree.specs.declared.stmt.StepOp.TheVariants as step_op
use Rattle.bds_tree.specs.declared.stmt.UpdateOp.{UpdateOp}
use Rattle.bds_tree.specs.declared.stmt.UpdateOp.TheVariants as update_op
use Rattle.bds_tree.specs.StmtTree.{SuffixTree, at_index, at_key, PlaceTree, StepTree, step_after, step_before, SmallFormTree, small_declare, small_infer, small_assign, small_update, small_step, small_call, SmallTree, SettingFormTree, setting_named, setting_plain, SettingTree, StmtTree, StmtFormTree, LineTree, RightTree, ActTree, ActFormTree, BlockTree, StmtTrees, MaybeStmt, MaybeRight, FunctionTree, PartTree, ScriptTree, stmt, inner_block, empty, line, when, while, for, each, declare, infer, assign, update, step, call_line, print, println, error, exit, break, continue, return, wait, checkpoint, act_line, right_expr, right_act, act, sys, task, dep, goal, par_call, par_block, block, no_stmts, more_stmts, no_stmt, a_stmt, no_right, a_right, a_function, an_include, a_statement, switch, CaseTrees, CaseTree, no_cases, more_cases, a_case}
use Rattle.bds_tree.specs.StmtSpelling.{line_ends_in_brace, has_else}

abbrev pub type_words_step : Ty-F (List Word) → List Word
type_words_step Ty-F.Bool = (w.Bool ∷ [])
type_words_step Ty-F.Int = (w.Int ∷ [])
type_words_step Ty-F.Text = (w.String ∷ [])
type_words_step Ty-F.Void = (w.Void ∷ [])
type_words_step (Ty-F.List t) = t ++ ((w.OpenSquare ∷ []) ++ (w.CloseSquare ∷ []))
type_words_step (Ty-F.Map t) = t ++ ((w.OpenValue ∷ []) ++ (w.CloseValue ∷ []))

abbrev pub type_words : Ty → List Word
type_words = fold-Ty (List Word) type_words_step

abbrev pub name_words : List ℕ → List Word
name_words n = (w.Name n ∷ [])

abbrev pub maybe_words : Option Tree → List Word
maybe_words None = []
maybe_words (Some e) = expr_words e

abbrev pub suffixes_words : List SuffixTree → List Word
suffixes_words [] = []
suffixes_words (at_index e ∷ ss) = (w.OpenSquare ∷ []) ++ (expr_words e ++ ((w.CloseSquare ∷ []) ++ suffixes_words ss))
suffixes_words (at_key e ∷ ss) = (w.OpenValue ∷ []) ++ (expr_words e ++ ((w.CloseValue ∷ []) ++ suffixes_words ss))

abbrev pub place_words : PlaceTree → List Word
place_words p = (name_words p.name ++ suffixes_words p.suffixes)

abbrev pub step_op_words : StepOp → List Word
step_op_words step_op.Increment = (w.Increment ∷ [])
step_op_words step_op.Decrement = (w.Decrement ∷ [])

abbrev pub step_words : StepTree → List Word
step_words (step_after p o) = place_words p ++ step_op_words o
step_words (step_before o p) = step_op_words o ++ place_words p

abbrev pub update_op_words : UpdateOp → List Word
update_op_words update_op.Add = (w.AddAssign ∷ [])
update_op_words update_op.Sub = (w.SubAssign ∷ [])
update_op_words update_op.Mul = (w.MulAssign ∷ [])
update_op_words update_op.Div = (w.DivAssign ∷ [])
update_op_words update_op.Rem = (w.RemAssign ∷ [])

abbrev pub start_words : Option Tree → List Word
start_words None = []
start_words (Some e) = (w.Assign ∷ []) ++ expr_words e

abbrev pub small_form_words : SmallFormTree → List Word
small_form_words (small_declare t n e) = type_words t ++ (name_words n ++ start_words e)
small_form_words (small_infer n e) = name_words n ++ ((w.Declare ∷ []) ++ expr_words e)
small_form_words (small_assign p e) = place_words p ++ ((w.Assign ∷ []) ++ expr_words e)
small_form_words (small_update p o e) = place_words p ++ (update_op_words o ++ expr_words e)
small_form_words (small_step s) = step_words s
small_form_words (small_call e) = expr_words e

abbrev pub small_words : Option SmallTree → List Word
small_words None = []
small_words (Some s) = (small_form_words s.form)

abbrev pub setting_form_words : SettingFormTree → List Word
setting_form_words (setting_named n e) = name_words n ++ ((w.Declare ∷ []) ++ expr_words e)
setting_form_words (setting_plain e) = expr_words e

abbrev pub setting_words : SettingTree → List Word
setting_words s = (setting_form_words s.form)

abbrev pub settings_words : Bool → List SettingTree → List Word
settings_words first [] = (w.CloseRound ∷ [])
settings_words first (s ∷ ss) = comma_unless first ++ (setting_words s ++ settings_words false ss)

abbrev pub maybe_settings_words : Option (List SettingTree) → List Word
maybe_settings_words None = []
maybe_settings_words (Some ss) = (w.OpenRound ∷ []) ++ settings_words true ss

abbrev pub command_words : Command → List Word
command_words c = ((w.Sys c.text ∷ []))

abbrev pub commands_words : List Command → List Word
commands_words [] = (w.CloseBlock ∷ [])
commands_words (c ∷ cs) = command_words c ++ ((w.Semicolon ∷ []) ++ commands_words cs)

abbrev pub body_words : Body → List Word
body_words (body.Sys c) = command_words c
body_words (body.Block cs) = (w.OpenBlock ∷ []) ++ commands_words cs

-- a line ends with `;`, unless its last token is a block `}` or an `else` comes next
abbrev pub line_end_words : Bool → LineTree → List Word
line_end_words before_else l = if before_else || line_ends_in_brace l then [] else (w.Semicolon ∷ [])

abbrev pub head_words : Word → List Word → List Word
head_words word condition = (word ∷ []) ++ ((w.OpenRound ∷ []) ++ (condition ++ (w.CloseRound ∷ [])))

abbrev pub for_words : Option SmallTree → Option Tree → Option SmallTree → List Word
for_words first c next = (w.For ∷ []) ++ ((w.OpenRound ∷ []) ++ (small_words first ++ ((w.Semicolon ∷ []) ++ (maybe_words c ++ ((w.Semicolon ∷ []) ++ (small_words next ++ (w.CloseRound ∷ [])))))))

abbrev pub each_words : Ty → List ℕ → Tree → List Word
each_words t n e = (w.For ∷ []) ++ ((w.OpenRound ∷ []) ++ (type_words t ++ (name_words n ++ ((w.Colon ∷ []) ++ (expr_words e ++ (w.CloseRound ∷ []))))))

abbrev pub label_words : Option Tree → List Word
label_words None = (w.Default ∷ [])
label_words (Some e) = (w.Case ∷ []) ++ expr_words e

abbrev pub task_words : Option (List SettingTree) → Body → List Word
task_words os b = (w.Task ∷ []) ++ (maybe_settings_words os ++ body_words b)

abbrev pub dep_words : List SettingTree → Body → List Word
dep_words os b = (w.Dep ∷ []) ++ ((w.OpenRound ∷ []) ++ (settings_words true os ++ body_words b))

abbrev pub par_call_words : List ℕ → Trees → List Word
par_call_words n es = (w.Par ∷ []) ++ (name_words n ++ ((w.OpenRound ∷ []) ++ all_words true w.CloseRound es))

abbrev mutual
  -- of a statement, and whether an `else` comes next
  pub stmt_words : StmtTree → Bool → List Word
  stmt_words (stmt at f) before_else = (stmt_form_words f before_else)

  pub stmt_form_words : StmtFormTree → Bool → List Word
  stmt_form_words (inner_block b) before_else = block_words b
  stmt_form_words empty before_else = (w.Semicolon ∷ [])
  stmt_form_words (line l) before_else = line_words l ++ line_end_words before_else l
  stmt_form_words (when c then_part else_part) before_else = head_words w.If (expr_words c) ++ (stmt_words then_part (has_else else_part || before_else) ++ else_words else_part before_else)
  stmt_form_words (while c s) before_else = head_words w.While (expr_words c) ++ stmt_words s before_else
  stmt_form_words (for first c next s) before_else = for_words first c next ++ stmt_words s before_else
  stmt_form_words (each t n e s) before_else = each_words t n e ++ stmt_words s before_else
  stmt_form_words (switch e cs) before_else = head_words w.Switch (expr_words e) ++ ((w.OpenBlock ∷ []) ++ (cases_words cs ++ (w.CloseBlock ∷ [])))

  pub cases_words : CaseTrees → List Word
  cases_words no_cases = []
  cases_words (more_cases c cs) = case_words c ++ cases_words cs

  pub case_words : CaseTree → List Word
  case_words (a_case at l ss) = label_words l ++ ((w.CaseColon ∷ []) ++ stmts_words ss)

  pub else_words : MaybeStmt → Bool → List Word
  else_words no_stmt before_else = []
  else_words (a_stmt else_part) before_else = (w.Else ∷ []) ++ stmt_words else_part before_else

  pub line_words : LineTree → List Word
  line_words (declare t n r) = (type_words t ++ name_words n) ++ start_right_words r
  line_words (infer n r) = (name_words n ++ (w.Declare ∷ [])) ++ right_words r
  line_words (assign p r) = (place_words p ++ (w.Assign ∷ [])) ++ right_words r
  line_words (update p o r) = (place_words p ++ update_op_words o) ++ right_words r
  line_words (step s) = step_words s
  line_words (call_line e) = expr_words e
  line_words (print e) = (w.Print ∷ []) ++ expr_words e
  line_words (println e) = (w.Println ∷ []) ++ maybe_words e
  line_words (error e) = (w.Error ∷ []) ++ expr_words e
  line_words (exit e) = (w.Exit ∷ []) ++ expr_words e
  line_words break = (w.Break ∷ [])
  line_words continue = (w.Continue ∷ [])
  line_words (return r) = (w.Return ∷ []) ++ maybe_right_words r
  line_words (wait e) = (w.Wait ∷ []) ++ maybe_words e
  line_words (checkpoint e) = (w.Checkpoint ∷ []) ++ maybe_words e
  line_words (act_line a) = act_words a

  pub right_words : RightTree → List Word
  right_words (right_expr e) = expr_words e
  right_words (right_act a) = act_words a

  pub maybe_right_words : MaybeRight → List Word
  maybe_right_words no_right = []
  maybe_right_words (a_right r) = right_words r

  pub start_right_words : MaybeRight → List Word
  start_right_words no_right = []
  start_right_words (a_right r) = (w.Assign ∷ []) ++ right_words r

  pub act_words : ActTree → List Word
  act_words (act at f) = (act_form_words f)

  pub act_form_words : ActFormTree → List Word
  act_form_words (sys ps) = (w.Sys ps ∷ [])
  act_form_words (task os b) = task_words os b
  act_form_words (dep os b) = dep_words os b
  act_form_words (goal e) = (w.Goal ∷ []) ++ expr_words e
  act_form_words (par_call n es) = par_call_words n es
  act_form_words (par_block b) = (w.Par ∷ []) ++ block_words b

  pub block_words : BlockTree → List Word
  block_words (block at ss) = ((w.OpenBlock ∷ []) ++ (stmts_words ss ++ (w.CloseBlock ∷ [])))

  pub stmts_words : StmtTrees → List Word
  stmts_words no_stmts = []
  stmts_words (more_stmts s ss) = stmt_words s false ++ stmts_words ss

abbrev pub parameter_words : Parameter → List Word
parameter_words p = type_words p.ty ++ name_words p.name

abbrev pub parameters_words : Bool → List Parameter → List Word
parameters_words first [] = (w.CloseRound ∷ [])
parameters_words first (p ∷ ps) = comma_unless first ++ (parameter_words p ++ parameters_words false ps)

abbrev pub function_words : FunctionTree → List Word
function_words f = (type_words f.result ++ (name_words f.name ++ ((w.OpenRound ∷ []) ++ (parameters_words true f.parameters ++ block_words f.body))))

abbrev pub include_words : Include → List Word
include_words i = ((w.Include ∷ []) ++ ((w.Text i.path ∷ []) ++ (w.Semicolon ∷ [])))

abbrev pub part_words : PartTree → List Word
part_words (a_function f) = function_words f
part_words (an_include i) = include_words i
part_words (a_statement s) = stmt_words s false

abbrev pub parts_words : List PartTree → List Word
parts_words [] = []
parts_words (p ∷ ps) = part_words p ++ parts_words ps

abbrev pub script_words : ScriptTree → List Word
script_words s = (parts_words s.parts)
