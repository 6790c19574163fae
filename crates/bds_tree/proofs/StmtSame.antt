-- Scripts of one tree are equal.
use Rattle.std.proofs.Common.{◌≡◌, List, [], ◌∷◌, Option, Some, None, map, refl, sym, ap, ◌∙◌}
use Rattle.std.specs.Option.{option_map}
use Rattle.std.specs.List.{AllByRecursion}
use Rattle.bds_tree.specs.declared.expr.Expr.{Expr}
use Rattle.bds_tree.specs.declared.stmt.Suffix.{Suffix}
use Rattle.bds_tree.specs.declared.stmt.Suffix.TheVariants as suffix
use Rattle.bds_tree.specs.declared.stmt.Step.TheVariants as step_form
use Rattle.bds_tree.specs.declared.stmt.SmallForm.{SmallForm}
use Rattle.bds_tree.specs.declared.stmt.SmallForm.TheVariants as small
use Rattle.bds_tree.specs.declared.stmt.SettingForm.{SettingForm}
use Rattle.bds_tree.specs.declared.stmt.SettingForm.TheVariants as setting
use Rattle.bds_tree.specs.declared.stmt.Function.{Function}
use Rattle.bds_tree.specs.declared.stmt.Part.{Part}
use Rattle.bds_tree.specs.declared.stmt.Part.TheVariants as part
use Rattle.bds_tree.specs.declared.stmt.Script.{Script}
use Rattle.bds_tree.specs.declared.stmt.Place.{Place}
use Rattle.bds_tree.specs.declared.stmt.Step.{Step}
use Rattle.bds_tree.specs.declared.stmt.Small.{Small}
use Rattle.bds_tree.specs.declared.stmt.Setting.{Setting}
use Rattle.bds_tree.specs.declared.stmt.ActForm.TheVariants as act_form
use Rattle.bds_tree.specs.declared.stmt.Line.TheVariants as line_form
use Rattle.bds_tree.specs.declared.stmt.RightSide.TheVariants as right_side
use Rattle.bds_tree.specs.declared.stmt.StmtForm.TheVariants as stmt_form
use Rattle.bds_tree.specs.declared.stmt.ActForm.{ActForm}
use Rattle.bds_tree.specs.declared.stmt.Line.{Line}
use Rattle.bds_tree.specs.declared.stmt.RightSide.{RightSide}
use Rattle.bds_tree.specs.declared.stmt.StmtForm.{StmtForm}
use Rattle.bds_tree.specs.declared.stmt.Act.{Act, roll-Act}
use Rattle.bds_tree.specs.declared.stmt.Block.{Block, roll-Block}
use Rattle.bds_tree.specs.declared.stmt.Case.{Case, roll-Case}
use Rattle.bds_tree.specs.declared.stmt.Stmt.{Stmt, roll-Stmt}
use Rattle.bds_tree.specs.View.{tree_of, trees_of}
use Rattle.bds_tree.specs.StmtTree.{SuffixTree, at_index, at_key, PlaceTree, StepTree, step_after, step_before, SmallFormTree, small_declare, small_infer, small_assign, small_update, small_step, small_call, SmallTree, SettingFormTree, setting_named, setting_plain, SettingTree, StmtTree, StmtFormTree, LineTree, RightTree, ActTree, ActFormTree, BlockTree, StmtTrees, MaybeStmt, MaybeRight, FunctionTree, PartTree, ScriptTree, stmt, inner_block, empty, line, when, while, for, each, declare, infer, assign, update, step, call_line, print, println, error, exit, break, continue, return, wait, checkpoint, act_line, right_expr, right_act, act, sys, task, dep, goal, par_call, par_block, block, no_stmts, more_stmts, no_stmt, a_stmt, no_right, a_right, a_function, an_include, a_statement, to_maybe_stmt, to_maybe_right, switch, CaseTrees, CaseTree, no_cases, more_cases, a_case}
use Rattle.bds_tree.specs.StmtView.{suffix_of, place_of, step_of, small_form_of, small_of, setting_form_of, setting_of, settings_of, stmt_of, stmt_form_of, line_of, right_of, act_of, act_form_of, block_of, case_of, stmts_of, cases_of, part_of, script_of}
use Rattle.bds_tree.proofs.Same.{expr_of, exprs_of, expr_of-tree_of}
use Rattle.bds_tree.proofs.StmtViews.{stmt_of-roll, block_of-roll, case_of-roll, act_of-roll, act_form_of-Sys, act_form_of-Task, act_form_of-Dep, act_form_of-Goal, act_form_of-ParCall, act_form_of-ParBlock, line_of-Declare, line_of-Infer, line_of-Assign, line_of-Update, line_of-Step, line_of-Call, line_of-Print, line_of-Println, line_of-Error, line_of-Exit, line_of-Break, line_of-Continue, line_of-Return, line_of-Wait, line_of-Checkpoint, line_of-Alone, right_of-Expr, right_of-Act, stmt_form_of-Block, stmt_form_of-Empty, stmt_form_of-Line, stmt_form_of-If, stmt_form_of-While, stmt_form_of-For, stmt_form_of-Each, stmt_form_of-Switch}
use Rattle.bds_tree.proofs.StmtInduction.{OfSome, StmtSteps, stmt_induction, block_induction}

map_back : {X Y : Type 0} (f : X → Y) (g : Y → X) → ((x : X) → g (f x) ≡ x) → (xs : List X) → map g (map f xs) ≡ xs
map_back f g h [] = refl
map_back f g h (x ∷ xs) = ap (λ y. y ∷ map g (map f xs)) (h x) ∙ ap (λ ys. x ∷ ys) (map_back f g h xs)

option_back : {X Y : Type 0} (f : X → Y) (g : Y → X) → ((x : X) → g (f x) ≡ x) → (o : Option X) → option_map g (option_map f o) ≡ o
option_back f g h None = refl
option_back f g h (Some x) = ap (λ y. Some y) (h x)

exprs_of-trees_of : (es : List Expr) → exprs_of (trees_of es) ≡ es
exprs_of-trees_of [] = refl
exprs_of-trees_of (e ∷ es) = ap (λ x. x ∷ exprs_of (trees_of es)) (expr_of-tree_of e) ∙ ap (λ r. e ∷ r) (exprs_of-trees_of es)

maybe_expr_back : (e : Option Expr) → option_map expr_of (option_map tree_of e) ≡ e
maybe_expr_back = option_back tree_of expr_of expr_of-tree_of

abbrev suffix_from : SuffixTree → Suffix
suffix_from (at_index e) = suffix.Item (expr_of e)
suffix_from (at_key e) = suffix.Key (expr_of e)

suffix_back : (s : Suffix) → suffix_from (suffix_of s) ≡ s
suffix_back (suffix.Item e) = ap (λ z. suffix.Item z) (expr_of-tree_of e)
suffix_back (suffix.Key e) = ap (λ z. suffix.Key z) (expr_of-tree_of e)

abbrev place_from : PlaceTree → Place
place_from p = record { at = p.at; name = p.name; suffixes = map suffix_from p.suffixes }

abbrev place_with : Place → List Suffix → Place
place_with p ss = record { at = p.at; name = p.name; suffixes = ss }

place_back : (p : Place) → place_from (place_of p) ≡ p
place_back p = ap (place_with p) (map_back suffix_of suffix_from suffix_back p.suffixes)

abbrev step_from : StepTree → Step
step_from (step_after p o) = step_form.After (place_from p) o
step_from (step_before o p) = step_form.Before o (place_from p)

step_back : (s : Step) → step_from (step_of s) ≡ s
step_back (step_form.After p o) = ap (λ z. step_form.After z o) (place_back p)
step_back (step_form.Before o p) = ap (λ z. step_form.Before o z) (place_back p)

abbrev small_form_from : SmallFormTree → SmallForm
small_form_from (small_declare t n e) = small.Declare t n (option_map expr_of e)
small_form_from (small_infer n e) = small.Infer n (expr_of e)
small_form_from (small_assign p e) = small.Assign (place_from p) (expr_of e)
small_form_from (small_update p o e) = small.Update (place_from p) o (expr_of e)
small_form_from (small_step s) = small.Step (step_from s)
small_form_from (small_call e) = small.Call (expr_of e)

small_form_back : (m : SmallForm) → small_form_from (small_form_of m) ≡ m
small_form_back (small.Declare t n e) = ap (λ z. small.Declare t n z) (maybe_expr_back e)
small_form_back (small.Infer n e) = ap (λ z. small.Infer n z) (expr_of-tree_of e)
small_form_back (small.Assign p e) = ap (λ z. small.Assign z (expr_of (tree_of e))) (place_back p) ∙ ap (λ z. small.Assign p z) (expr_of-tree_of e)
small_form_back (small.Update p o e) = ap (λ z. small.Update z o (expr_of (tree_of e))) (place_back p) ∙ ap (λ z. small.Update p o z) (expr_of-tree_of e)
small_form_back (small.Step s) = ap (λ z. small.Step z) (step_back s)
small_form_back (small.Call e) = ap (λ z. small.Call z) (expr_of-tree_of e)

abbrev small_from : SmallTree → Small
small_from m = record { at = m.at; form = small_form_from m.form }

abbrev small_with : Small → SmallForm → Small
small_with m f = record { at = m.at; form = f }

small_back : (m : Small) → small_from (small_of m) ≡ m
small_back m = ap (small_with m) (small_form_back m.form)

maybe_small_back : (m : Option Small) → option_map small_from (option_map small_of m) ≡ m
maybe_small_back = option_back small_of small_from small_back

abbrev setting_form_from : SettingFormTree → SettingForm
setting_form_from (setting_named n e) = setting.Named n (expr_of e)
setting_form_from (setting_plain e) = setting.Plain (expr_of e)

setting_form_back : (s : SettingForm) → setting_form_from (setting_form_of s) ≡ s
setting_form_back (setting.Named n e) = ap (λ z. setting.Named n z) (expr_of-tree_of e)
setting_form_back (setting.Plain e) = ap (λ z. setting.Plain z) (expr_of-tree_of e)

abbrev setting_from : SettingTree → Setting
setting_from s = record { at = s.at; form = setting_form_from s.form }

abbrev setting_with : Setting → SettingForm → Setting
setting_with s f = record { at = s.at; form = f }

setting_back : (s : Setting) → setting_from (setting_of s) ≡ s
setting_back s = ap (setting_with s) (setting_form_back s.form)

abbrev settings_from : List SettingTree → List Setting
settings_from ss = map setting_from ss

settings_back : (ss : List Setting) → settings_from (settings_of ss) ≡ ss
settings_back = map_back setting_of setting_from setting_back

maybe_settings_back : (ss : Option (List Setting)) → option_map settings_from (option_map settings_of ss) ≡ ss
maybe_settings_back = option_back settings_of settings_from settings_back

abbrev mutual
  pub stmt_from : StmtTree → Stmt
  stmt_from (stmt at f) = roll-Stmt (record { at = at; form = stmt_form_from f })

  pub stmt_form_from : StmtFormTree → StmtForm
  stmt_form_from (inner_block b) = stmt_form.Block (block_from b)
  stmt_form_from empty = stmt_form.Empty
  stmt_form_from (line l) = stmt_form.Line (line_from l)
  stmt_form_from (when c a b) = stmt_form.If (expr_of c) (stmt_from a) (maybe_stmt_from b)
  stmt_form_from (while c s) = stmt_form.While (expr_of c) (stmt_from s)
  stmt_form_from (for f c x s) = stmt_form.For (option_map small_from f) (option_map expr_of c) (option_map small_from x) (stmt_from s)
  stmt_form_from (each t n e s) = stmt_form.Each t n (expr_of e) (stmt_from s)
  stmt_form_from (switch e cs) = stmt_form.Switch (expr_of e) (cases_from cs)

  pub line_from : LineTree → Line
  line_from (declare t n r) = line_form.Declare t n (maybe_right_from r)
  line_from (infer n r) = line_form.Infer n (right_from r)
  line_from (assign p r) = line_form.Assign (place_from p) (right_from r)
  line_from (update p o r) = line_form.Update (place_from p) o (right_from r)
  line_from (step s) = line_form.Step (step_from s)
  line_from (call_line e) = line_form.Call (expr_of e)
  line_from (print e) = line_form.Print (expr_of e)
  line_from (println e) = line_form.Println (option_map expr_of e)
  line_from (error e) = line_form.Error (expr_of e)
  line_from (exit e) = line_form.Exit (expr_of e)
  line_from break = line_form.Break
  line_from continue = line_form.Continue
  line_from (return r) = line_form.Return (maybe_right_from r)
  line_from (wait e) = line_form.Wait (option_map expr_of e)
  line_from (checkpoint e) = line_form.Checkpoint (option_map expr_of e)
  line_from (act_line a) = line_form.Alone (act_from a)

  pub right_from : RightTree → RightSide
  right_from (right_expr e) = right_side.Expr (expr_of e)
  right_from (right_act a) = right_side.Act (act_from a)

  pub act_form_from : ActFormTree → ActForm
  act_form_from (sys ps) = act_form.Sys ps
  act_form_from (task os b) = act_form.Task (option_map settings_from os) b
  act_form_from (dep os b) = act_form.Dep (settings_from os) b
  act_form_from (goal e) = act_form.Goal (expr_of e)
  act_form_from (par_call n es) = act_form.ParCall n (exprs_of es)
  act_form_from (par_block b) = act_form.ParBlock (block_from b)

  pub maybe_stmt_from : MaybeStmt → Option Stmt
  maybe_stmt_from no_stmt = None
  maybe_stmt_from (a_stmt s) = Some (stmt_from s)

  pub maybe_right_from : MaybeRight → Option RightSide
  maybe_right_from no_right = None
  maybe_right_from (a_right r) = Some (right_from r)

  pub act_from : ActTree → Act
  act_from (act at f) = roll-Act (record { at = at; form = act_form_from f })

  pub block_from : BlockTree → Block
  block_from (block at ss) = roll-Block (record { at = at; stmts = stmts_from ss })

  pub stmts_from : StmtTrees → List Stmt
  stmts_from no_stmts = []
  stmts_from (more_stmts s ss) = stmt_from s ∷ stmts_from ss

  pub cases_from : CaseTrees → List Case
  cases_from no_cases = []
  cases_from (more_cases c cs) = case_from c ∷ cases_from cs

  pub case_from : CaseTree → Case
  case_from (a_case at l ss) = roll-Case (record { at = at; label = option_map expr_of l; stmts = stmts_from ss })

abbrev StmtFormBack : StmtForm → Type 0
StmtFormBack f = stmt_form_from (stmt_form_of f) ≡ f

abbrev LineBack : Line → Type 0
LineBack l = line_from (line_of l) ≡ l

abbrev RightBack : RightSide → Type 0
RightBack r = right_from (right_of r) ≡ r

abbrev ActFormBack : ActForm → Type 0
ActFormBack f = act_form_from (act_form_of f) ≡ f

abbrev ActBack : Act → Type 0
ActBack a = act_from (act_of a) ≡ a

abbrev BlockBack : Block → Type 0
BlockBack b = block_from (block_of b) ≡ b

abbrev CaseBack : Case → Type 0
CaseBack c = case_from (case_of c) ≡ c

abbrev StmtBack : Stmt → Type 0
StmtBack s = stmt_from (stmt_of s) ≡ s

maybe_stmt_back : (s : Option Stmt) → OfSome StmtBack s → maybe_stmt_from (to_maybe_stmt (option_map stmt_of s)) ≡ s
maybe_stmt_back None h = refl
maybe_stmt_back (Some s) h = ap (λ z. Some z) h

maybe_right_back : (r : Option RightSide) → OfSome RightBack r → maybe_right_from (to_maybe_right (option_map right_of r)) ≡ r
maybe_right_back None h = refl
maybe_right_back (Some r) h = ap (λ z. Some z) h

stmts_back : (ss : List Stmt) → AllByRecursion StmtBack ss → stmts_from (stmts_of ss) ≡ ss
stmts_back [] h = refl
stmts_back (s ∷ ss) h = ap (λ x. x ∷ stmts_from (stmts_of ss)) h.0 ∙ ap (λ r. s ∷ r) (stmts_back ss h.1)

cases_back : (cs : List Case) → AllByRecursion CaseBack cs → cases_from (cases_of cs) ≡ cs
cases_back [] h = refl
cases_back (c ∷ cs) h = ap (λ x. x ∷ cases_from (cases_of cs)) h.0 ∙ ap (λ r. c ∷ r) (cases_back cs h.1)

back_steps : StmtSteps ActFormBack LineBack RightBack StmtFormBack ActBack BlockBack CaseBack StmtBack
back_steps = record {
  stmts = λ s h. ap stmt_from (stmt_of-roll s) ∙ ap (λ f. roll-Stmt (record { at = s.at; form = f })) h;
  blocks = λ b h. ap block_from (block_of-roll b) ∙ ap (λ ss. roll-Block (record { at = b.at; stmts = ss })) (stmts_back b.stmts h);
  cases = λ c h. ap case_from (case_of-roll c) ∙ ap (λ l. roll-Case (record { at = c.at; label = l; stmts = stmts_from (stmts_of c.stmts) })) (maybe_expr_back c.label) ∙ ap (λ ss. roll-Case (record { at = c.at; label = c.label; stmts = ss })) (stmts_back c.stmts h);
  acts = λ a h. ap act_from (act_of-roll a) ∙ ap (λ f. roll-Act (record { at = a.at; form = f })) h;
  act_sys = λ ps. ap act_form_from (act_form_of-Sys ps);
  act_task = λ os b. ap act_form_from (act_form_of-Task os b) ∙ ap (λ z. act_form.Task z b) (maybe_settings_back os);
  act_dep = λ os b. ap act_form_from (act_form_of-Dep os b) ∙ ap (λ z. act_form.Dep z b) (settings_back os);
  act_goal = λ e. ap act_form_from (act_form_of-Goal e) ∙ ap (λ z. act_form.Goal z) (expr_of-tree_of e);
  act_parcall = λ n es. ap act_form_from (act_form_of-ParCall n es) ∙ ap (λ z. act_form.ParCall n z) (exprs_of-trees_of es);
  act_parblock = λ b hb. ap act_form_from (act_form_of-ParBlock b) ∙ ap (λ z. act_form.ParBlock z) hb;
  line_declare = λ t n r hr. ap line_from (line_of-Declare t n r) ∙ ap (λ z. line_form.Declare t n z) (maybe_right_back r hr);
  line_infer = λ n r hr. ap line_from (line_of-Infer n r) ∙ ap (λ z. line_form.Infer n z) hr;
  line_assign = λ p r hr. ap line_from (line_of-Assign p r) ∙ ap (λ z. line_form.Assign z (right_from (right_of r))) (place_back p) ∙ ap (λ z. line_form.Assign p z) hr;
  line_update = λ p o r hr. ap line_from (line_of-Update p o r) ∙ ap (λ z. line_form.Update z o (right_from (right_of r))) (place_back p) ∙ ap (λ z. line_form.Update p o z) hr;
  line_step = λ s. ap line_from (line_of-Step s) ∙ ap (λ z. line_form.Step z) (step_back s);
  line_call = λ e. ap line_from (line_of-Call e) ∙ ap (λ z. line_form.Call z) (expr_of-tree_of e);
  line_print = λ e. ap line_from (line_of-Print e) ∙ ap (λ z. line_form.Print z) (expr_of-tree_of e);
  line_println = λ e. ap line_from (line_of-Println e) ∙ ap (λ z. line_form.Println z) (maybe_expr_back e);
  line_error = λ e. ap line_from (line_of-Error e) ∙ ap (λ z. line_form.Error z) (expr_of-tree_of e);
  line_exit = λ e. ap line_from (line_of-Exit e) ∙ ap (λ z. line_form.Exit z) (expr_of-tree_of e);
  line_break = ap line_from line_of-Break;
  line_continue = ap line_from line_of-Continue;
  line_return = λ r hr. ap line_from (line_of-Return r) ∙ ap (λ z. line_form.Return z) (maybe_right_back r hr);
  line_wait = λ e. ap line_from (line_of-Wait e) ∙ ap (λ z. line_form.Wait z) (maybe_expr_back e);
  line_checkpoint = λ e. ap line_from (line_of-Checkpoint e) ∙ ap (λ z. line_form.Checkpoint z) (maybe_expr_back e);
  line_alone = λ a ha. ap line_from (line_of-Alone a) ∙ ap (λ z. line_form.Alone z) ha;
  right_expr = λ e. ap right_from (right_of-Expr e) ∙ ap (λ z. right_side.Expr z) (expr_of-tree_of e);
  right_act = λ a ha. ap right_from (right_of-Act a) ∙ ap (λ z. right_side.Act z) ha;
  stmt_block = λ b hb. ap stmt_form_from (stmt_form_of-Block b) ∙ ap (λ z. stmt_form.Block z) hb;
  stmt_empty = ap stmt_form_from stmt_form_of-Empty;
  stmt_line = λ l hl. ap stmt_form_from (stmt_form_of-Line l) ∙ ap (λ z. stmt_form.Line z) hl;
  stmt_if = λ c a b ha hb. ap stmt_form_from (stmt_form_of-If c a b) ∙ ap (λ z. stmt_form.If z (stmt_from (stmt_of a)) (maybe_stmt_from (to_maybe_stmt (option_map stmt_of b)))) (expr_of-tree_of c) ∙ ap (λ z. stmt_form.If c z (maybe_stmt_from (to_maybe_stmt (option_map stmt_of b)))) ha ∙ ap (λ z. stmt_form.If c a z) (maybe_stmt_back b hb);
  stmt_while = λ c s hs. ap stmt_form_from (stmt_form_of-While c s) ∙ ap (λ z. stmt_form.While z (stmt_from (stmt_of s))) (expr_of-tree_of c) ∙ ap (λ z. stmt_form.While c z) hs;
  stmt_for = λ f c x s hs. ap stmt_form_from (stmt_form_of-For f c x s) ∙ ap (λ z. stmt_form.For z (option_map expr_of (option_map tree_of c)) (option_map small_from (option_map small_of x)) (stmt_from (stmt_of s))) (maybe_small_back f) ∙ ap (λ z. stmt_form.For f z (option_map small_from (option_map small_of x)) (stmt_from (stmt_of s))) (maybe_expr_back c) ∙ ap (λ z. stmt_form.For f c z (stmt_from (stmt_of s))) (maybe_small_back x) ∙ ap (λ z. stmt_form.For f c x z) hs;
  stmt_each = λ t n e s hs. ap stmt_form_from (stmt_form_of-Each t n e s) ∙ ap (λ z. stmt_form.Each t n z (stmt_from (stmt_of s))) (expr_of-tree_of e) ∙ ap (λ z. stmt_form.Each t n e z) hs;
  stmt_switch = λ e cs hs. ap stmt_form_from (stmt_form_of-Switch e cs) ∙ ap (λ z. stmt_form.Switch z (cases_from (cases_of cs))) (expr_of-tree_of e) ∙ ap (λ z. stmt_form.Switch e z) (cases_back cs hs);
}

pub stmt_from-stmt_of : (s : Stmt) → stmt_from (stmt_of s) ≡ s
stmt_from-stmt_of = stmt_induction ActFormBack LineBack RightBack StmtFormBack ActBack BlockBack CaseBack StmtBack back_steps

pub block_from-block_of : (b : Block) → block_from (block_of b) ≡ b
block_from-block_of = block_induction ActFormBack LineBack RightBack StmtFormBack ActBack BlockBack CaseBack StmtBack back_steps

pub stmt_of-injective : (a b : Stmt) → stmt_of a ≡ stmt_of b → a ≡ b
stmt_of-injective a b h = sym (stmt_from-stmt_of a) ∙ ap stmt_from h ∙ stmt_from-stmt_of b

abbrev function_from : FunctionTree → Function
function_from f = record { at = f.at; result = f.result; name = f.name; parameters = f.parameters; body = block_from f.body }

abbrev function_with : Function → Block → Function
function_with f b = record { at = f.at; result = f.result; name = f.name; parameters = f.parameters; body = b }

abbrev part_from : PartTree → Part
part_from (a_function f) = part.Function (function_from f)
part_from (an_include i) = part.Include i
part_from (a_statement s) = part.Stmt (stmt_from s)

part_back : (p : Part) → part_from (part_of p) ≡ p
part_back (part.Function f) = ap (λ z. part.Function (function_with f z)) (block_from-block_of f.body)
part_back (part.Include i) = refl
part_back (part.Stmt s) = ap (λ z. part.Stmt z) (stmt_from-stmt_of s)

abbrev pub script_from : ScriptTree → Script
script_from s = record { at = s.at; files = s.files; parts = map part_from s.parts }

abbrev script_with : Script → List Part → Script
script_with s ps = record { at = s.at; files = s.files; parts = ps }

pub script_from-script_of : (s : Script) → script_from (script_of s) ≡ s
script_from-script_of s = ap (script_with s) (map_back part_of part_from part_back s.parts)

pub script_of-injective : (a b : Script) → script_of a ≡ script_of b → a ≡ b
script_of-injective a b h = sym (script_from-script_of a) ∙ ap script_from h ∙ script_from-script_of b
