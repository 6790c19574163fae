-- How statements and scripts are spelled, by one line for each form.
use Rattle.std.specs.Prelude.{◌≡◌, ℕ, Bool, true, false, ◌||◌, List, [], ◌∷◌, ◌++◌, Option, Some, None, if◌then◌else◌}
use Rattle.bds_value.specs.declared.value.Ty.{Ty, fold-Ty}
use Rattle.bds_value.specs.declared.value.Ty.TheOpen.{Ty-F}
use Rattle.bds_tree.specs.declared.token.Word.TheVariants as w
use Rattle.bds_tree.specs.declared.token.Token.{Token}
use Rattle.bds_tree.specs.declared.stmt.Body.{Body}
use Rattle.bds_tree.specs.declared.stmt.Body.TheVariants as body
use Rattle.bds_tree.specs.declared.stmt.Command.{Command}
use Rattle.bds_tree.specs.declared.stmt.Include.{Include}
use Rattle.bds_tree.specs.declared.stmt.Parameter.{Parameter}
use Rattle.bds_tree.specs.declared.stmt.StepOp.{StepOp}
use Rattle.bds_tree.specs.declared.stmt.StepOp.TheVariants as step_op
use Rattle.bds_tree.specs.declared.stmt.UpdateOp.{UpdateOp}
use Rattle.bds_tree.specs.declared.stmt.UpdateOp.TheVariants as update_op
use Rattle.bds_tree.specs.Tree.{Tree}
use Rattle.bds_tree.specs.Spelling.{Mark, sign, begins, spell, spell_all, Fronts}
use Rattle.bds_tree.specs.StmtTree.{SuffixTree, at_index, at_key, PlaceTree, StepTree, step_after, step_before, SmallFormTree, small_declare, small_infer, small_assign, small_update, small_step, small_call, SmallTree, SettingFormTree, setting_named, setting_plain, SettingTree, StmtTree, StmtFormTree, LineTree, RightTree, ActTree, ActFormTree, BlockTree, StmtTrees, MaybeStmt, MaybeRight, FunctionTree, PartTree, ScriptTree, stmt, inner_block, empty, line, when, while, for, each, declare, infer, assign, update, step, call_line, print, println, error, exit, break, continue, return, wait, checkpoint, act_line, right_expr, right_act, act, sys, task, dep, goal, par_call, par_block, block, no_stmts, more_stmts, no_stmt, a_stmt, no_right, a_right, a_function, an_include, a_statement, switch, CaseTrees, CaseTree, no_cases, more_cases, a_case}

abbrev pub type_step : Ty-F (List Mark) → List Mark
type_step Ty-F.Bool = sign w.Bool
type_step Ty-F.Int = sign w.Int
type_step Ty-F.Text = sign w.String
type_step Ty-F.Void = sign w.Void
type_step (Ty-F.List t) = t ++ (sign w.OpenSquare ++ sign w.CloseSquare)
type_step (Ty-F.Map t) = t ++ (sign w.OpenValue ++ sign w.CloseValue)

abbrev pub spell_type : Ty → List Mark
spell_type = fold-Ty (List Mark) type_step

abbrev pub spell_name : List ℕ → List Mark
spell_name n = sign (w.Name n)

abbrev pub spell_maybe : Option Tree → List Mark
spell_maybe None = []
spell_maybe (Some e) = spell e

abbrev pub spell_label : Option Tree → List Mark
spell_label None = sign w.Default
spell_label (Some e) = sign w.Case ++ spell e

abbrev pub spell_suffixes : List SuffixTree → List Mark
spell_suffixes [] = []
spell_suffixes (at_index e ∷ ss) = sign w.OpenSquare ++ (spell e ++ (sign w.CloseSquare ++ spell_suffixes ss))
spell_suffixes (at_key e ∷ ss) = sign w.OpenValue ++ (spell e ++ (sign w.CloseValue ++ spell_suffixes ss))

abbrev pub spell_place : PlaceTree → List Mark
spell_place p = begins p.at.line (spell_name p.name ++ spell_suffixes p.suffixes)

abbrev pub spell_step_op : StepOp → List Mark
spell_step_op step_op.Increment = sign w.Increment
spell_step_op step_op.Decrement = sign w.Decrement

abbrev pub spell_step : StepTree → List Mark
spell_step (step_after p o) = spell_place p ++ spell_step_op o
spell_step (step_before o p) = spell_step_op o ++ spell_place p

abbrev pub spell_update_op : UpdateOp → List Mark
spell_update_op update_op.Add = sign w.AddAssign
spell_update_op update_op.Sub = sign w.SubAssign
spell_update_op update_op.Mul = sign w.MulAssign
spell_update_op update_op.Div = sign w.DivAssign
spell_update_op update_op.Rem = sign w.RemAssign

abbrev pub spell_start : Option Tree → List Mark
spell_start None = []
spell_start (Some e) = sign w.Assign ++ spell e

abbrev pub spell_small_form : SmallFormTree → List Mark
spell_small_form (small_declare t n e) = spell_type t ++ (spell_name n ++ spell_start e)
spell_small_form (small_infer n e) = spell_name n ++ (sign w.Declare ++ spell e)
spell_small_form (small_assign p e) = spell_place p ++ (sign w.Assign ++ spell e)
spell_small_form (small_update p o e) = spell_place p ++ (spell_update_op o ++ spell e)
spell_small_form (small_step s) = spell_step s
spell_small_form (small_call e) = spell e

abbrev pub spell_small : Option SmallTree → List Mark
spell_small None = []
spell_small (Some s) = begins s.at.line (spell_small_form s.form)

abbrev pub spell_setting_form : SettingFormTree → List Mark
spell_setting_form (setting_named n e) = spell_name n ++ (sign w.Declare ++ spell e)
spell_setting_form (setting_plain e) = spell e

abbrev pub spell_setting : SettingTree → List Mark
spell_setting s = begins s.at.line (spell_setting_form s.form)

abbrev pub spell_more_settings : List SettingTree → List Mark
spell_more_settings [] = sign w.CloseRound
spell_more_settings (s ∷ ss) = sign w.Comma ++ (spell_setting s ++ spell_more_settings ss)

abbrev pub spell_settings : List SettingTree → List Mark
spell_settings [] = sign w.OpenRound ++ sign w.CloseRound
spell_settings (s ∷ ss) = sign w.OpenRound ++ (spell_setting s ++ spell_more_settings ss)

abbrev pub spell_maybe_settings : Option (List SettingTree) → List Mark
spell_maybe_settings None = []
spell_maybe_settings (Some ss) = spell_settings ss

abbrev pub spell_command : Command → List Mark
spell_command c = begins c.at.line (sign (w.Sys c.text))

abbrev pub spell_commands : List Command → List Mark
spell_commands [] = sign w.CloseBlock
spell_commands (c ∷ cs) = spell_command c ++ (sign w.Semicolon ++ spell_commands cs)

abbrev pub spell_body : Body → List Mark
spell_body (body.Sys c) = spell_command c
spell_body (body.Block cs) = sign w.OpenBlock ++ spell_commands cs

-- whether the last token is a block `}`
abbrev pub body_ends_in_brace : Body → Bool
body_ends_in_brace (body.Sys c) = false
body_ends_in_brace (body.Block cs) = true

abbrev pub form_ends_in_brace : ActFormTree → Bool
form_ends_in_brace (task os b) = body_ends_in_brace b
form_ends_in_brace (dep os b) = body_ends_in_brace b
form_ends_in_brace (par_block b) = true
form_ends_in_brace _ = false

abbrev pub act_ends_in_brace : ActTree → Bool
act_ends_in_brace (act at f) = form_ends_in_brace f

abbrev pub right_ends_in_brace : RightTree → Bool
right_ends_in_brace (right_expr e) = false
right_ends_in_brace (right_act a) = act_ends_in_brace a

abbrev pub maybe_ends_in_brace : MaybeRight → Bool
maybe_ends_in_brace no_right = false
maybe_ends_in_brace (a_right r) = right_ends_in_brace r

abbrev pub line_ends_in_brace : LineTree → Bool
line_ends_in_brace (declare t n r) = maybe_ends_in_brace r
line_ends_in_brace (infer n r) = right_ends_in_brace r
line_ends_in_brace (assign p r) = right_ends_in_brace r
line_ends_in_brace (update p o r) = right_ends_in_brace r
line_ends_in_brace (return r) = maybe_ends_in_brace r
line_ends_in_brace (act_line a) = act_ends_in_brace a
line_ends_in_brace _ = false

-- a line ends with `;`, unless its last token is a block `}` or an `else` comes next
abbrev pub line_end : Bool → LineTree → List Mark
line_end before_else l = if before_else || line_ends_in_brace l then [] else sign w.Semicolon

abbrev pub has_else : MaybeStmt → Bool
has_else no_stmt = false
has_else (a_stmt s) = true

abbrev mutual
  -- of a statement, and whether an `else` comes next
  pub spell_stmt : StmtTree → Bool → List Mark
  spell_stmt (stmt at f) before_else = begins at.line (spell_stmt_form f before_else)

  pub spell_stmt_form : StmtFormTree → Bool → List Mark
  spell_stmt_form (inner_block b) before_else = spell_block b
  spell_stmt_form empty before_else = sign w.Semicolon
  spell_stmt_form (line l) before_else = spell_line l ++ line_end before_else l
  spell_stmt_form (when c then_part else_part) before_else = sign w.If ++ (sign w.OpenRound ++ (spell c ++ (sign w.CloseRound ++ (spell_stmt then_part (has_else else_part || before_else) ++ spell_else else_part before_else))))
  spell_stmt_form (while c s) before_else = sign w.While ++ (sign w.OpenRound ++ (spell c ++ (sign w.CloseRound ++ spell_stmt s before_else)))
  spell_stmt_form (for first c next s) before_else = sign w.For ++ (sign w.OpenRound ++ (spell_small first ++ (sign w.Semicolon ++ (spell_maybe c ++ (sign w.Semicolon ++ (spell_small next ++ (sign w.CloseRound ++ spell_stmt s before_else)))))))
  spell_stmt_form (each t n e s) before_else = sign w.For ++ (sign w.OpenRound ++ (spell_type t ++ (spell_name n ++ (sign w.Colon ++ (spell e ++ (sign w.CloseRound ++ spell_stmt s before_else))))))
  spell_stmt_form (switch e cs) before_else = sign w.Switch ++ (sign w.OpenRound ++ (spell e ++ (sign w.CloseRound ++ (sign w.OpenBlock ++ spell_cases cs))))

  -- A label is spelled as any expression; in the tokens of a text none has a `? :` outside all brackets, since no
  -- case colon stands behind that.
  pub spell_cases : CaseTrees → List Mark
  spell_cases no_cases = sign w.CloseBlock
  spell_cases (more_cases c cs) = spell_case c ++ spell_cases cs

  pub spell_case : CaseTree → List Mark
  spell_case (a_case at l ss) = begins at.line (spell_label l ++ (sign w.CaseColon ++ spell_stmts ss))

  pub spell_else : MaybeStmt → Bool → List Mark
  spell_else no_stmt before_else = []
  spell_else (a_stmt else_part) before_else = sign w.Else ++ spell_stmt else_part before_else

  pub spell_line : LineTree → List Mark
  spell_line (declare t n r) = spell_type t ++ (spell_name n ++ spell_start_right r)
  spell_line (infer n r) = spell_name n ++ (sign w.Declare ++ spell_right r)
  spell_line (assign p r) = spell_place p ++ (sign w.Assign ++ spell_right r)
  spell_line (update p o r) = spell_place p ++ (spell_update_op o ++ spell_right r)
  spell_line (step s) = spell_step s
  spell_line (call_line e) = spell e
  spell_line (print e) = sign w.Print ++ spell e
  spell_line (println e) = sign w.Println ++ spell_maybe e
  spell_line (error e) = sign w.Error ++ spell e
  spell_line (exit e) = sign w.Exit ++ spell e
  spell_line break = sign w.Break
  spell_line continue = sign w.Continue
  spell_line (return r) = sign w.Return ++ spell_maybe_right r
  spell_line (wait e) = sign w.Wait ++ spell_maybe e
  spell_line (checkpoint e) = sign w.Checkpoint ++ spell_maybe e
  spell_line (act_line a) = spell_act a

  pub spell_right : RightTree → List Mark
  spell_right (right_expr e) = spell e
  spell_right (right_act a) = spell_act a

  pub spell_maybe_right : MaybeRight → List Mark
  spell_maybe_right no_right = []
  spell_maybe_right (a_right r) = spell_right r

  pub spell_start_right : MaybeRight → List Mark
  spell_start_right no_right = []
  spell_start_right (a_right r) = sign w.Assign ++ spell_right r

  pub spell_act : ActTree → List Mark
  spell_act (act at f) = begins at.line (spell_act_form f)

  pub spell_act_form : ActFormTree → List Mark
  spell_act_form (sys ps) = sign (w.Sys ps)
  spell_act_form (task os b) = sign w.Task ++ (spell_maybe_settings os ++ spell_body b)
  spell_act_form (dep os b) = sign w.Dep ++ (spell_settings os ++ spell_body b)
  spell_act_form (goal e) = sign w.Goal ++ spell e
  spell_act_form (par_call n es) = sign w.Par ++ (spell_name n ++ (sign w.OpenRound ++ spell_all w.CloseRound es))
  spell_act_form (par_block b) = sign w.Par ++ spell_block b

  pub spell_block : BlockTree → List Mark
  spell_block (block at ss) = begins at.line (sign w.OpenBlock ++ (spell_stmts ss ++ sign w.CloseBlock))

  pub spell_stmts : StmtTrees → List Mark
  spell_stmts no_stmts = []
  spell_stmts (more_stmts s ss) = spell_stmt s false ++ spell_stmts ss

abbrev pub spell_parameter : Parameter → List Mark
spell_parameter p = spell_type p.ty ++ spell_name p.name

abbrev pub spell_more_parameters : List Parameter → List Mark
spell_more_parameters [] = sign w.CloseRound
spell_more_parameters (p ∷ ps) = sign w.Comma ++ (spell_parameter p ++ spell_more_parameters ps)

abbrev pub spell_parameters : List Parameter → List Mark
spell_parameters [] = sign w.CloseRound
spell_parameters (p ∷ ps) = spell_parameter p ++ spell_more_parameters ps

abbrev pub spell_function : FunctionTree → List Mark
spell_function f = begins f.at.line (spell_type f.result ++ (spell_name f.name ++ (sign w.OpenRound ++ (spell_parameters f.parameters ++ spell_block f.body))))

abbrev pub spell_include : Include → List Mark
spell_include i = begins i.at.line (sign w.Include ++ (sign (w.Text i.path) ++ sign w.Semicolon))

abbrev pub spell_part : PartTree → List Mark
spell_part (a_function f) = spell_function f
spell_part (an_include i) = spell_include i
spell_part (a_statement s) = spell_stmt s false

abbrev pub spell_parts : List PartTree → List Mark
spell_parts [] = []
spell_parts (p ∷ ps) = spell_part p ++ spell_parts ps

abbrev pub spell_script : ScriptTree → List Mark
spell_script s = begins s.at.line (spell_parts s.parts)

-- the tokens are those of the script; one without tokens stands on line 1
pub record SpellsScript (s : ScriptTree) (ts : List Token) : Type 0 where
  pub spelled : Fronts (spell_script s) ts []
  pub first : ts ≡ [] → s.at.line ≡ 1
