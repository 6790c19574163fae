-- Which scripts are legal: where an `else` belongs, and how deep a script nests.
use Rattle.std.specs.Prelude.{◌≡◌, ℕ, ◌+◌, ◌≤◌, max, Bool, true, false, List, [], ◌∷◌, Option, Some, None, ⊤, ◌||◌}
use Rattle.std.specs.List.{AllByRecursion}
use Rattle.bds_value.specs.declared.value.At.{At}
use Rattle.bds_value.specs.declared.value.Ty.{Ty}
use Rattle.bds_value.specs.Fields.{is_solid, nesting}
use Rattle.bds_value.specs.Types.{is_void}
use Rattle.bds_value.specs.declared.TheConstants.{MAX_NESTING}
use Rattle.bds_tree.specs.declared.token.Piece.{Piece}
use Rattle.bds_tree.specs.declared.token.Piece.TheVariants as piece
use Rattle.bds_tree.specs.declared.stmt.Body.{Body}
use Rattle.bds_tree.specs.declared.stmt.Body.TheVariants as body
use Rattle.bds_tree.specs.declared.stmt.Command.{Command}
use Rattle.bds_tree.specs.declared.stmt.Include.{Include}
use Rattle.bds_tree.specs.declared.stmt.Parameter.{Parameter}
use Rattle.bds_tree.specs.Tree.{Tree, FormTree, call, method, form_of}
use Rattle.bds_tree.specs.Shape.{Shaped, AreShaped, height, heights}
use Rattle.bds_tree.specs.StmtTree.{SuffixTree, at_index, at_key, PlaceTree, StepTree, step_after, step_before, SmallFormTree, small_declare, small_infer, small_assign, small_update, small_step, small_call, SmallTree, SettingFormTree, setting_named, setting_plain, SettingTree, StmtTree, StmtFormTree, LineTree, RightTree, ActTree, ActFormTree, BlockTree, StmtTrees, MaybeStmt, MaybeRight, FunctionTree, PartTree, ScriptTree, stmt, inner_block, empty, line, when, while, for, each, declare, infer, assign, update, step, call_line, print, println, error, exit, break, continue, return, wait, checkpoint, act_line, right_expr, right_act, act, sys, task, dep, goal, par_call, par_block, block, no_stmts, more_stmts, no_stmt, a_stmt, no_right, a_right, a_function, an_include, a_statement, switch, CaseTrees, CaseTree, no_cases, more_cases, a_case}

-- the result of a function, which may be `void`
abbrev pub is_result : Ty → Bool
is_result t = is_void t || is_solid t

-- before checking all files are 0
abbrev pub InFirst : At → Type 0
InFirst at = at.file ≡ 0

abbrev pub IsMaybeShaped : Option Tree → Type 0
IsMaybeShaped None = ⊤
IsMaybeShaped (Some e) = Shaped e

-- a line that is an expression is a call of a function or of a method
abbrev pub is_call_form : FormTree → Bool
is_call_form (call n es) = true
is_call_form (method a n es) = true
is_call_form _ = false

abbrev pub is_call : Tree → Bool
is_call e = is_call_form (form_of e)

abbrev pub IsSuffixShaped : SuffixTree → Type 0
IsSuffixShaped (at_index e) = Shaped e
IsSuffixShaped (at_key e) = Shaped e

abbrev pub IsPlaceShaped : PlaceTree → Type 0
IsPlaceShaped p = InFirst p.at × AllByRecursion IsSuffixShaped p.suffixes

abbrev pub IsStepShaped : StepTree → Type 0
IsStepShaped (step_after p o) = IsPlaceShaped p
IsStepShaped (step_before o p) = IsPlaceShaped p

abbrev pub IsSmallFormShaped : SmallFormTree → Type 0
IsSmallFormShaped (small_declare t n e) = (is_solid t ≡ true) × IsMaybeShaped e
IsSmallFormShaped (small_infer n e) = Shaped e
IsSmallFormShaped (small_assign p e) = IsPlaceShaped p × Shaped e
IsSmallFormShaped (small_update p o e) = IsPlaceShaped p × Shaped e
IsSmallFormShaped (small_step s) = IsStepShaped s
IsSmallFormShaped (small_call e) = (is_call e ≡ true) × Shaped e

abbrev pub IsSmallShaped : Option SmallTree → Type 0
IsSmallShaped None = ⊤
IsSmallShaped (Some s) = InFirst s.at × IsSmallFormShaped s.form

abbrev pub IsSettingFormShaped : SettingFormTree → Type 0
IsSettingFormShaped (setting_named n e) = Shaped e
IsSettingFormShaped (setting_plain e) = Shaped e

abbrev pub IsSettingShaped : SettingTree → Type 0
IsSettingShaped s = InFirst s.at × IsSettingFormShaped s.form

abbrev pub AreSettingsShaped : List SettingTree → Type 0
AreSettingsShaped ss = AllByRecursion IsSettingShaped ss

abbrev pub AreMaybeSettingsShaped : Option (List SettingTree) → Type 0
AreMaybeSettingsShaped None = ⊤
AreMaybeSettingsShaped (Some ss) = AreSettingsShaped ss

abbrev pub IsCommandShaped : Command → Type 0
IsCommandShaped c = InFirst c.at

abbrev pub IsBodyShaped : Body → Type 0
IsBodyShaped (body.Sys c) = IsCommandShaped c
IsBodyShaped (body.Block cs) = AllByRecursion IsCommandShaped cs

abbrev mutual
  -- no `if` without an `else` stands at the right edge
  pub is_closed : StmtTree → Bool
  is_closed (stmt at f) = is_closed_form f

  pub is_closed_form : StmtFormTree → Bool
  is_closed_form (inner_block b) = true
  is_closed_form empty = true
  is_closed_form (line l) = true
  is_closed_form (when c then_part else_part) = is_closed_else else_part
  is_closed_form (while c s) = is_closed s
  is_closed_form (for first c next s) = is_closed s
  is_closed_form (each t n e s) = is_closed s
  is_closed_form (switch e cs) = true

  pub is_closed_else : MaybeStmt → Bool
  is_closed_else no_stmt = false
  is_closed_else (a_stmt else_part) = is_closed else_part

abbrev pub is_empty_form : StmtFormTree → Bool
is_empty_form empty = true
is_empty_form _ = false

abbrev pub is_empty_stmt : StmtTree → Bool
is_empty_stmt (stmt at f) = is_empty_form f

abbrev mutual
  pub IsStmtShaped : StmtTree → Type 0
  IsStmtShaped (stmt at f) = InFirst at × IsStmtFormShaped f

  pub IsStmtFormShaped : StmtFormTree → Type 0
  IsStmtFormShaped (inner_block b) = IsBlockShaped b
  IsStmtFormShaped empty = ⊤
  IsStmtFormShaped (line l) = IsLineShaped l
  IsStmtFormShaped (when c then_part else_part) = Shaped c × IsStmtShaped then_part × IsElseShaped else_part then_part
  IsStmtFormShaped (while c s) = Shaped c × IsStmtShaped s
  IsStmtFormShaped (for first c next s) = IsSmallShaped first × IsMaybeShaped c × IsSmallShaped next × IsStmtShaped s
  IsStmtFormShaped (each t n e s) = (is_solid t ≡ true) × Shaped e × IsStmtShaped s
  IsStmtFormShaped (switch e cs) = Shaped e × AreCasesShaped cs

  pub AreCasesShaped : CaseTrees → Type 0
  AreCasesShaped no_cases = ⊤
  AreCasesShaped (more_cases c cs) = IsCaseShaped c × AreCasesShaped cs

  pub IsCaseShaped : CaseTree → Type 0
  IsCaseShaped (a_case at l ss) = InFirst at × IsMaybeShaped l × AreStmtsShaped ss

  -- behind a then part
  pub IsElseShaped : MaybeStmt → StmtTree → Type 0
  IsElseShaped no_stmt then_part = ⊤
  IsElseShaped (a_stmt else_part) then_part = (is_closed then_part ≡ true) × (is_empty_stmt then_part ≡ false) × IsStmtShaped else_part

  pub IsLineShaped : LineTree → Type 0
  IsLineShaped (declare t n r) = (is_solid t ≡ true) × IsMaybeRightShaped r
  IsLineShaped (infer n r) = IsRightShaped r
  IsLineShaped (assign p r) = IsPlaceShaped p × IsRightShaped r
  IsLineShaped (update p o r) = IsPlaceShaped p × IsRightShaped r
  IsLineShaped (step s) = IsStepShaped s
  IsLineShaped (call_line e) = (is_call e ≡ true) × Shaped e
  IsLineShaped (print e) = Shaped e
  IsLineShaped (println e) = IsMaybeShaped e
  IsLineShaped (error e) = Shaped e
  IsLineShaped (exit e) = Shaped e
  IsLineShaped break = ⊤
  IsLineShaped continue = ⊤
  IsLineShaped (return r) = IsMaybeRightShaped r
  IsLineShaped (wait e) = IsMaybeShaped e
  IsLineShaped (checkpoint e) = IsMaybeShaped e
  IsLineShaped (act_line a) = IsActShaped a

  pub IsRightShaped : RightTree → Type 0
  IsRightShaped (right_expr e) = Shaped e
  IsRightShaped (right_act a) = IsActShaped a

  pub IsMaybeRightShaped : MaybeRight → Type 0
  IsMaybeRightShaped no_right = ⊤
  IsMaybeRightShaped (a_right r) = IsRightShaped r

  pub IsActShaped : ActTree → Type 0
  IsActShaped (act at f) = InFirst at × IsActFormShaped f

  pub IsActFormShaped : ActFormTree → Type 0
  IsActFormShaped (sys ps) = ⊤
  IsActFormShaped (task os b) = AreMaybeSettingsShaped os × IsBodyShaped b
  IsActFormShaped (dep os b) = AreSettingsShaped os × IsBodyShaped b
  IsActFormShaped (goal e) = Shaped e
  IsActFormShaped (par_call n es) = AreShaped es
  IsActFormShaped (par_block b) = IsBlockShaped b

  pub IsBlockShaped : BlockTree → Type 0
  IsBlockShaped (block at ss) = InFirst at × AreStmtsShaped ss

  pub AreStmtsShaped : StmtTrees → Type 0
  AreStmtsShaped no_stmts = ⊤
  AreStmtsShaped (more_stmts s ss) = IsStmtShaped s × AreStmtsShaped ss

abbrev pub IsParameterShaped : Parameter → Type 0
IsParameterShaped p = is_solid p.ty ≡ true

abbrev pub IsFunctionShaped : FunctionTree → Type 0
IsFunctionShaped f = InFirst f.at × (is_result f.result ≡ true) × AllByRecursion IsParameterShaped f.parameters × IsBlockShaped f.body

abbrev pub is_plain : Piece → Bool
is_plain (piece.Plain t) = true
is_plain _ = false

-- the path of an include has no pieces of variables
abbrev pub IsIncludeShaped : Include → Type 0
IsIncludeShaped i = InFirst i.at × AllByRecursion (λ p. is_plain p ≡ true) i.path

abbrev pub IsPartShaped : PartTree → Type 0
IsPartShaped (a_function f) = IsFunctionShaped f
IsPartShaped (an_include i) = IsIncludeShaped i
IsPartShaped (a_statement s) = IsStmtShaped s

abbrev pub IsScriptShaped : ScriptTree → Type 0
IsScriptShaped s = InFirst s.at × (s.files ≡ []) × AllByRecursion IsPartShaped s.parts

-- Nesting counts statements, blocks, expressions and written types. A `[ ]` or `{ }` of a type stands above the type that it follows.
-- of the node that holds an expression, or nothing
abbrev pub over : Tree → ℕ
over e = height e + 1

abbrev pub over_type : Ty → ℕ
over_type t = nesting t + 1

abbrev pub over_maybe : Option Tree → ℕ
over_maybe None = 0
over_maybe (Some e) = over e

abbrev pub over_suffixes : List SuffixTree → ℕ
over_suffixes [] = 0
over_suffixes (at_index e ∷ ss) = max (over e) (over_suffixes ss)
over_suffixes (at_key e ∷ ss) = max (over e) (over_suffixes ss)

abbrev pub over_place : PlaceTree → ℕ
over_place p = over_suffixes p.suffixes

abbrev pub over_step : StepTree → ℕ
over_step (step_after p o) = over_place p
over_step (step_before o p) = over_place p

abbrev pub over_small_form : SmallFormTree → ℕ
over_small_form (small_declare t n e) = max (over_type t) (over_maybe e)
over_small_form (small_infer n e) = over e
over_small_form (small_assign p e) = max (over_place p) (over e)
over_small_form (small_update p o e) = max (over_place p) (over e)
over_small_form (small_step s) = over_step s
over_small_form (small_call e) = over e

abbrev pub over_small : Option SmallTree → ℕ
over_small None = 0
over_small (Some s) = over_small_form s.form

abbrev pub over_setting_form : SettingFormTree → ℕ
over_setting_form (setting_named n e) = over e
over_setting_form (setting_plain e) = over e

abbrev pub over_settings : List SettingTree → ℕ
over_settings [] = 0
over_settings (s ∷ ss) = max (over_setting_form s.form) (over_settings ss)

abbrev pub over_maybe_settings : Option (List SettingTree) → ℕ
over_maybe_settings None = 0
over_maybe_settings (Some ss) = over_settings ss

abbrev mutual
  -- how many of them lie above the deepest one within
  pub stmt_height : StmtTree → ℕ
  stmt_height (stmt at f) = over_stmt_form f

  -- of the statement of the form
  pub over_stmt_form : StmtFormTree → ℕ
  over_stmt_form (inner_block b) = block_height b + 1
  over_stmt_form empty = 0
  over_stmt_form (line l) = over_line l
  over_stmt_form (when c then_part else_part) = max (over c) (max (stmt_height then_part + 1) (over_else else_part))
  over_stmt_form (while c s) = max (over c) (stmt_height s + 1)
  over_stmt_form (for first c next s) = max (over_small first) (max (over_maybe c) (max (over_small next) (stmt_height s + 1)))
  over_stmt_form (each t n e s) = max (over_type t) (max (over e) (stmt_height s + 1))
  over_stmt_form (switch e cs) = max (over e) (over_cases cs)

  -- a case adds none
  pub over_cases : CaseTrees → ℕ
  over_cases no_cases = 0
  over_cases (more_cases c cs) = max (over_case c) (over_cases cs)

  pub over_case : CaseTree → ℕ
  over_case (a_case at l ss) = max (over_maybe l) (over_stmts ss)

  pub over_else : MaybeStmt → ℕ
  over_else no_stmt = 0
  over_else (a_stmt else_part) = stmt_height else_part + 1

  pub over_line : LineTree → ℕ
  over_line (declare t n r) = max (over_type t) (over_maybe_right r)
  over_line (infer n r) = over_right r
  over_line (assign p r) = max (over_place p) (over_right r)
  over_line (update p o r) = max (over_place p) (over_right r)
  over_line (step s) = over_step s
  over_line (call_line e) = over e
  over_line (print e) = over e
  over_line (println e) = over_maybe e
  over_line (error e) = over e
  over_line (exit e) = over e
  over_line break = 0
  over_line continue = 0
  over_line (return r) = over_maybe_right r
  over_line (wait e) = over_maybe e
  over_line (checkpoint e) = over_maybe e
  over_line (act_line a) = over_act a

  pub over_right : RightTree → ℕ
  over_right (right_expr e) = over e
  over_right (right_act a) = over_act a

  pub over_maybe_right : MaybeRight → ℕ
  over_maybe_right no_right = 0
  over_maybe_right (a_right r) = over_right r

  pub over_act : ActTree → ℕ
  over_act (act at f) = over_act_form f

  pub over_act_form : ActFormTree → ℕ
  over_act_form (sys ps) = 0
  over_act_form (task os b) = over_maybe_settings os
  over_act_form (dep os b) = over_settings os
  over_act_form (goal e) = over e
  over_act_form (par_call n es) = heights es
  over_act_form (par_block b) = block_height b + 1

  pub block_height : BlockTree → ℕ
  block_height (block at ss) = over_stmts ss

  pub over_stmts : StmtTrees → ℕ
  over_stmts no_stmts = 0
  over_stmts (more_stmts s ss) = max (stmt_height s + 1) (over_stmts ss)

abbrev pub parameters_height : List Parameter → ℕ
parameters_height [] = 0
parameters_height (p ∷ ps) = max (nesting p.ty) (parameters_height ps)

abbrev pub part_height : PartTree → ℕ
part_height (a_function f) = max (nesting f.result) (max (parameters_height f.parameters) (block_height f.body))
part_height (an_include i) = 0
part_height (a_statement s) = stmt_height s

abbrev pub parts_height : List PartTree → ℕ
parts_height [] = 0
parts_height (p ∷ ps) = max (part_height p) (parts_height ps)

-- a script that may be written, before checking
pub record IsLegal (s : ScriptTree) : Type 0 where
  pub shaped : IsScriptShaped s
  pub nesting : parts_height s.parts ≤ MAX_NESTING
