-- The test of scripts is that of their shape and nesting.
use Rattle.std.proofs.Common.{◌≡◌, ℕ, ◌+◌, Bool, true, false, ◌||◌, List, [], ◌∷◌, Option, Some, None, refl, ap, ◌∙◌, arith, rules}
use Rattle.std.specs.Prelude.{nat_le, ⊤}
use Rattle.std.specs.Bool.{Decides}
use Rattle.std.specs.List.{AllByRecursion}
use Rattle.bds_value.specs.declared.value.Ty.{Ty}
use Rattle.bds_value.specs.declared.value.Ty.TheVariants as ty
use Rattle.bds_value.specs.Fields.{is_solid, nesting, nesting_step}
use Rattle.bds_value.specs.Types.{is_void, fits_within}
use Rattle.bds_value.proofs.Folds.{ty_fold-Void}
use Rattle.bds_value.specs.declared.TheConstants.{MAX_NESTING}
use Rattle.bds_tree.specs.declared.token.Piece.{Piece}
use Rattle.bds_tree.specs.declared.stmt.Body.{Body}
use Rattle.bds_tree.specs.declared.stmt.Body.TheVariants as body
use Rattle.bds_tree.specs.declared.stmt.Command.{Command}
use Rattle.bds_tree.specs.declared.stmt.Parameter.{Parameter}
use Rattle.bds_tree.specs.Tree.{Tree}
use Rattle.bds_tree.specs.StmtTree.{SuffixTree, at_index, at_key, PlaceTree, StepTree, step_after, step_before, SmallFormTree, small_declare, small_infer, small_assign, small_update, small_step, small_call, SmallTree, SettingFormTree, setting_named, setting_plain, SettingTree, StmtTree, StmtFormTree, LineTree, RightTree, ActTree, ActFormTree, BlockTree, StmtTrees, MaybeStmt, MaybeRight, PartTree, ScriptTree, stmt, inner_block, empty, line, when, while, for, each, declare, infer, assign, update, step, call_line, print, println, error, exit, break, continue, return, wait, checkpoint, act_line, right_expr, right_act, act, sys, task, dep, goal, par_call, par_block, block, no_stmts, more_stmts, no_stmt, a_stmt, no_right, a_right, a_function, an_include, a_statement, switch, CaseTrees, CaseTree, no_cases, more_cases, a_case}
use Rattle.bds_tree.specs.StmtShape as s
use Rattle.bds_spell.specs.Fits.{below}
use Rattle.bds_spell.specs.StmtFits as f
use Rattle.bds_spell.proofs.Fitting.{Tells, Fitting, both_true, is_true, is_false, is_zero, is_at_most, holds, told, tells, also, and_also, with, three, four, one_below}
use Rattle.bds_spell.proofs.Legality.{is_void_told, below_told, all_told}

type_told : (t : Ty) (n : ℕ) → Fitting (fits_within t n) (is_solid t ≡ true) (nesting t) n
type_told t n = record {
  sound = λ h. let b = (both_true (nat_le (nesting t) n) (is_solid t)).0 h in (b.1, (is_at_most (nesting t) n).sound b.0);
  complete = λ p le. (both_true (nat_le (nesting t) n) (is_solid t)).1 ((is_at_most (nesting t) n).complete le, p);
}

type_below_told : (t : Ty) (n : ℕ) → Fitting (below (fits_within t) n) (is_solid t ≡ true) (s.over_type t) n
type_below_told t n = one_below (fits_within t) (is_solid t ≡ true) (nesting t) (type_told t) n

result_by : (v : Bool) (t : Ty) (n : ℕ) → is_void t ≡ v → Fitting (v || fits_within t n) ((v || is_solid t) ≡ true) (nesting t) n
result_by true t n h = record { sound = λ e. (refl, omega (arith, flat)); complete = λ p le. refl }
  where
    flat : nesting t ≡ 0
    flat = ap nesting ((is_void_told t).sound h) ∙ ty_fold-Void nesting_step
result_by false t n h = type_told t n

result_told : (t : Ty) (n : ℕ) → Fitting (f.result_fits t n) (s.is_result t ≡ true) (nesting t) n
result_told t n = result_by (is_void t) t n refl

maybe_told : (e : Option Tree) (n : ℕ) → Fitting (f.maybe_fits e n) (s.IsMaybeShaped e) (s.over_maybe e) n
maybe_told None n = holds
maybe_told (Some e) n = below_told e n

suffixes_told : (xs : List SuffixTree) (n : ℕ) → Fitting (f.suffixes_fit xs n) (AllByRecursion s.IsSuffixShaped xs) (s.over_suffixes xs) n
suffixes_told [] n = holds
suffixes_told (at_index e ∷ xs) n = with (below_told e n) (suffixes_told xs n)
suffixes_told (at_key e ∷ xs) n = with (below_told e n) (suffixes_told xs n)

place_told : (p : PlaceTree) (n : ℕ) → Fitting (f.place_fits p n) (s.IsPlaceShaped p) (s.over_place p) n
place_told p n = also (is_zero p.at.file) (suffixes_told p.suffixes n)

step_told : (p : StepTree) (n : ℕ) → Fitting (f.step_fits p n) (s.IsStepShaped p) (s.over_step p) n
step_told (step_after p o) n = place_told p n
step_told (step_before o p) n = place_told p n

small_form_told : (m : SmallFormTree) (n : ℕ) → Fitting (f.small_form_fits m n) (s.IsSmallFormShaped m) (s.over_small_form m) n
small_form_told (small_declare t x e) n = with (type_below_told t n) (maybe_told e n)
small_form_told (small_infer x e) n = below_told e n
small_form_told (small_assign p e) n = with (place_told p n) (below_told e n)
small_form_told (small_update p o e) n = with (place_told p n) (below_told e n)
small_form_told (small_step p) n = step_told p n
small_form_told (small_call e) n = also (is_true (s.is_call e)) (below_told e n)

small_told : (m : Option SmallTree) (n : ℕ) → Fitting (f.small_fits m n) (s.IsSmallShaped m) (s.over_small m) n
small_told None n = holds
small_told (Some m) n = also (is_zero m.at.file) (small_form_told m.form n)

setting_form_told : (o : SettingFormTree) (n : ℕ) → Fitting (f.setting_form_fits o n) (s.IsSettingFormShaped o) (s.over_setting_form o) n
setting_form_told (setting_named x e) n = below_told e n
setting_form_told (setting_plain e) n = below_told e n

settings_told : (os : List SettingTree) (n : ℕ) → Fitting (f.settings_fit os n) (s.AreSettingsShaped os) (s.over_settings os) n
settings_told [] n = holds
settings_told (o ∷ os) n = with (also (is_zero o.at.file) (setting_form_told o.form n)) (settings_told os n)

maybe_settings_told : (os : Option (List SettingTree)) (n : ℕ) → Fitting (f.maybe_settings_fit os n) (s.AreMaybeSettingsShaped os) (s.over_maybe_settings os) n
maybe_settings_told None n = holds
maybe_settings_told (Some os) n = settings_told os n

always_told : Tells true ⊤
always_told = record { sound = λ h. tt; complete = λ h. refl }

commands_told : (cs : List Command) → Tells (f.commands_fit cs) (AllByRecursion s.IsCommandShaped cs)
commands_told [] = always_told
commands_told (c ∷ cs) = tells (is_zero c.at.file) (commands_told cs)

body_told : (b : Body) → Tells (f.body_fits b) (s.IsBodyShaped b)
body_told (body.Sys c) = is_zero c.at.file
body_told (body.Block cs) = commands_told cs

mutual
  stmt_told : (u : StmtTree) (n : ℕ) → Fitting (f.stmt_fits u n) (s.IsStmtShaped u) (s.stmt_height u) n
  stmt_told (stmt at m) n = also (is_zero at.file) (stmt_form_told m n)

  stmt_form_told : (m : StmtFormTree) (n : ℕ) → Fitting (f.stmt_form_fits m n) (s.IsStmtFormShaped m) (s.over_stmt_form m) n
  stmt_form_told (inner_block b) n = one_below (f.block_fits b) (s.IsBlockShaped b) (s.block_height b) (block_told b) n
  stmt_form_told empty n = holds
  stmt_form_told (line l) n = line_told l n
  stmt_form_told (when c a b) n = three (with (below_told c n) (with (one_below (f.stmt_fits a) (s.IsStmtShaped a) (s.stmt_height a) (stmt_told a) n) (else_told b a n)))
  stmt_form_told (while c u) n = with (below_told c n) (one_below (f.stmt_fits u) (s.IsStmtShaped u) (s.stmt_height u) (stmt_told u) n)
  stmt_form_told (for first c next u) n = four (with (small_told first n) (with (maybe_told c n) (with (small_told next n) (one_below (f.stmt_fits u) (s.IsStmtShaped u) (s.stmt_height u) (stmt_told u) n))))
  stmt_form_told (each t x e u) n = three (with (type_below_told t n) (with (below_told e n) (one_below (f.stmt_fits u) (s.IsStmtShaped u) (s.stmt_height u) (stmt_told u) n)))
  stmt_form_told (switch e cs) n = with (below_told e n) (cases_told cs n)

  cases_told : (cs : CaseTrees) (n : ℕ) → Fitting (f.cases_fit cs n) (s.AreCasesShaped cs) (s.over_cases cs) n
  cases_told no_cases n = holds
  cases_told (more_cases c cs) n = with (case_told c n) (cases_told cs n)

  case_told : (c : CaseTree) (n : ℕ) → Fitting (f.case_fits c n) (s.IsCaseShaped c) (s.over_case c) n
  case_told (a_case at l us) n = three (also (is_zero at.file) (with (maybe_told l n) (stmts_told us n)))

  else_told : (m : MaybeStmt) (a : StmtTree) (n : ℕ) → Fitting (f.else_fits m a n) (s.IsElseShaped m a) (s.over_else m) n
  else_told no_stmt a n = holds
  else_told (a_stmt u) a n = three (also (is_true (s.is_closed a)) (also (is_false (s.is_empty_stmt a)) (one_below (f.stmt_fits u) (s.IsStmtShaped u) (s.stmt_height u) (stmt_told u) n)))

  line_told : (l : LineTree) (n : ℕ) → Fitting (f.line_fits l n) (s.IsLineShaped l) (s.over_line l) n
  line_told (declare t x r) n = with (type_below_told t n) (maybe_right_told r n)
  line_told (infer x r) n = right_told r n
  line_told (assign p r) n = with (place_told p n) (right_told r n)
  line_told (update p o r) n = with (place_told p n) (right_told r n)
  line_told (step p) n = step_told p n
  line_told (call_line e) n = also (is_true (s.is_call e)) (below_told e n)
  line_told (print e) n = below_told e n
  line_told (println e) n = maybe_told e n
  line_told (error e) n = below_told e n
  line_told (exit e) n = below_told e n
  line_told break n = holds
  line_told continue n = holds
  line_told (return r) n = maybe_right_told r n
  line_told (wait e) n = maybe_told e n
  line_told (checkpoint e) n = maybe_told e n
  line_told (act_line a) n = act_told a n

  right_told : (r : RightTree) (n : ℕ) → Fitting (f.right_fits r n) (s.IsRightShaped r) (s.over_right r) n
  right_told (right_expr e) n = below_told e n
  right_told (right_act a) n = act_told a n

  maybe_right_told : (r : MaybeRight) (n : ℕ) → Fitting (f.maybe_right_fits r n) (s.IsMaybeRightShaped r) (s.over_maybe_right r) n
  maybe_right_told no_right n = holds
  maybe_right_told (a_right r) n = right_told r n

  act_told : (a : ActTree) (n : ℕ) → Fitting (f.act_fits a n) (s.IsActShaped a) (s.over_act a) n
  act_told (act at m) n = also (is_zero at.file) (act_form_told m n)

  act_form_told : (m : ActFormTree) (n : ℕ) → Fitting (f.act_form_fits m n) (s.IsActFormShaped m) (s.over_act_form m) n
  act_form_told (sys ps) n = holds
  act_form_told (task os b) n = and_also (maybe_settings_told os n) (body_told b)
  act_form_told (dep os b) n = and_also (settings_told os n) (body_told b)
  act_form_told (goal e) n = below_told e n
  act_form_told (par_call x es) n = all_told es n
  act_form_told (par_block b) n = one_below (f.block_fits b) (s.IsBlockShaped b) (s.block_height b) (block_told b) n

  block_told : (b : BlockTree) (n : ℕ) → Fitting (f.block_fits b n) (s.IsBlockShaped b) (s.block_height b) n
  block_told (block at us) n = also (is_zero at.file) (stmts_told us n)

  stmts_told : (us : StmtTrees) (n : ℕ) → Fitting (f.stmts_fit us n) (s.AreStmtsShaped us) (s.over_stmts us) n
  stmts_told no_stmts n = holds
  stmts_told (more_stmts u us) n = with (one_below (f.stmt_fits u) (s.IsStmtShaped u) (s.stmt_height u) (stmt_told u) n) (stmts_told us n)

parameters_told : (ps : List Parameter) (n : ℕ) → Fitting (f.parameters_fit ps n) (AllByRecursion s.IsParameterShaped ps) (s.parameters_height ps) n
parameters_told [] n = holds
parameters_told (p ∷ ps) n = with (type_told p.ty n) (parameters_told ps n)

plain_told : (ps : List Piece) → Tells (f.are_plain ps) (AllByRecursion (λ p. s.is_plain p ≡ true) ps)
plain_told [] = always_told
plain_told (p ∷ ps) = tells (is_true (s.is_plain p)) (plain_told ps)

part_told : (p : PartTree) (n : ℕ) → Fitting (f.part_fits p n) (s.IsPartShaped p) (s.part_height p) n
part_told (a_function g) n = four (also (is_zero g.at.file) (with (result_told g.result n) (with (parameters_told g.parameters n) (block_told g.body n))))
part_told (an_include i) n = told (tells (is_zero i.at.file) (plain_told i.path))
part_told (a_statement u) n = stmt_told u n

parts_told : (ps : List PartTree) (n : ℕ) → Fitting (f.parts_fit ps n) (AllByRecursion s.IsPartShaped ps) (s.parts_height ps) n
parts_told [] n = holds
parts_told (p ∷ ps) n = with (part_told p n) (parts_told ps n)

no_files_told : (fs : List (List ℕ)) → Tells (f.has_no_files fs) (fs ≡ [])
no_files_told [] = record { sound = λ h. refl; complete = λ h. refl }
no_files_told (g ∷ fs) = record { sound = λ h. search rules; complete = λ h. search rules }

script_told : (r : ScriptTree) → Fitting (f.script_fits r) (s.IsScriptShaped r) (s.parts_height r.parts) MAX_NESTING
script_told r = three (also (is_zero r.at.file) (also (no_files_told r.files) (parts_told r.parts MAX_NESTING)))

pub script_decides : (r : ScriptTree) → Decides (f.script_fits r) (s.IsLegal r)
script_decides r = (λ h. record { shaped = ((script_told r).sound h).0; nesting = ((script_told r).sound h).1 }, λ l. (script_told r).complete l.shaped l.nesting)
