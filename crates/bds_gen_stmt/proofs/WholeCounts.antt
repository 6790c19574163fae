-- The number of instructions in the code of every statement is its size.
use Rattle.std.proofs.Common.{◌≡◌, ◌+◌, ℕ, List, [], ◌∷◌, ◌++◌, Option, Some, None, Bool, true, false, not, refl, ◌∙◌, ap, arith, if◌then◌else◌}
use Rattle.std.specs.Prelude.{codes, pos}
use Rattle.bds_value.specs.declared.methods.Method.{Method}
use Rattle.bds_value.specs.declared.methods.Method.TheVariants as by
use Rattle.bds_value.specs.declared.value.At.{At}
use Rattle.bds_value.specs.declared.value.Ty.{Ty}
use Rattle.bds_value.specs.declared.value.Ty.TheVariants as ty
use Rattle.bds_value.specs.Methods.{signature_of}
use Rattle.bds_tree.specs.Tree.{Tree, Trees, node, method, type_of}
use Rattle.bds_tree.specs.StmtTree.{PlaceTree, StepTree, SmallFormTree, small_declare, small_infer, small_assign, small_update, small_step, small_call, SmallTree, SettingTree, StmtTree, StmtFormTree, LineTree, RightTree, ActTree, ActFormTree, BlockTree, StmtTrees, stmt, inner_block, empty, line, when, while, for, each, declare, infer, assign, update, step, call_line, print, println, error, exit, break, continue, return, wait, checkpoint, act_line, right_expr, right_act, act, sys, task, dep, goal, par_call, par_block, block, no_stmts, more_stmts, no_stmt, a_stmt, no_right, a_right, switch, CaseTrees, CaseTree, no_cases, more_cases, a_case}
use Rattle.bds_code.specs.declared.instr.Instr.{Instr}
use Rattle.bds_code.specs.declared.instr.Instr.TheVariants.{PushText, PushInt, PushBool, PushDefault, Drop, Show, Out, Concat, Stop, Exit, Return, Jump, JumpUnless, Tick, Load, Store, Less, Equal, Item, Update, Method as CallMethod, Wait, Save, Sys, Goal, Spawn, Declare}
use Rattle.bds_check_names.specs.declared.names.Variable.{Variable}
use Rattle.bds_check_names.specs.Types.{is_known}
use Rattle.bds_check_rules.specs.Typing.{count as tree_count}
use Rattle.bds_check_names.specs.Scopes.{any_named}
use Rattle.bds_check_names.specs.Slots.{slots, case_slots, visible}
use Rattle.bds_check_rules.specs.Declarations.{declared_by_small}
use Rattle.bds_check_rules.specs.StmtBreaks.{right_type, any_dependency, stepped}
use Rattle.bds_check_size.specs.Known.{Known, look, with_known, known_with}
use Rattle.bds_check_size.specs.ExprSize.{expr_size, trees_size, files_size}
use Rattle.bds_check_size.specs.StmtSize.{suffixes_size, steps_size, dropped_size, changed_size, call_size, small_form_size, maybe_small_size, pieces_size, has_option, has_condition, defaults_size, maybe_settings, known_behind, known_behind_small, condition_size, stmt_size, form_stmt_size, line_size, right_size, act_size, act_form_size, dropped_act_size, dropped_act_form_size, block_size, stmts_size, labels_size, label_size, cases_size, case_size}
use Rattle.bds_check_size.specs.Parts.{parts_of}
use Rattle.bds_gen_expr.specs.declared.scope.Numbered.{Numbered}
use Rattle.bds_gen_expr.specs.declared.scope.Scope.{Scope}
use Rattle.bds_gen_expr.specs.Marks.{Mark, does, label, slot, count, one}
use Rattle.bds_gen_expr.specs.Numbers.{numbered, variables_of, visible_locals}
use Rattle.bds_gen_expr.specs.Scope.{known, function_number}
use Rattle.bds_gen_expr.specs.ExprCode.{pieces_code, expr_code, trees_code, files_code}
use Rattle.bds_gen_stmt.specs.Spots.{Spot, inner, in_loop, in_switch, behind_slots, declared_local, store_new, local_with}
use Rattle.bds_gen_stmt.specs.PlaceCode.{suffixes_code, steps_below, changes_place, kinds_of, change_number, step_number, step_op_of, step_code, steps_code, steps_of, variable_of, dropped_code, changed_code, call_code, small_form_code, small_code, behind_small}
use Rattle.bds_gen_expr.specs.Scope.{types_in}
use Rattle.bds_gen_stmt.specs.TaskCode.{defaults_code, settings_code, make_code, task_behind, set_unless}
use Rattle.bds_gen_stmt.specs.StmtCode.{condition_code, loads_code, behind, pars, block_pars, stmt_code, form_stmt_code, line_code, right_code, act_code, act_form_code, dropped_act_code, dropped_form_code, block_code, stmts_code, default_place, labels_code, label_code, cases_code, case_code, case_pars}
use Rattle.bds_gen_expr.proofs.Counts.{counts, two, expr-count, trees-count, parts-count}
use Rattle.bds_gen_stmt.proofs.StmtCounts.{store-count, drop-count, leap-count, behind-known, behind-low, branch-count, if-count, loop-count}
use Rattle.bds_gen_stmt.proofs.ActCounts.{suffixes-count, steps-count, files-count, settings-count, make-count, behind-count, unless-count}

dropped-count : (e : Tree) (at : At) (sc : Scope) (p : ℕ) → count (dropped_code e at sc p) ≡ dropped_size (look (known sc)) e
dropped-count e at sc p =
    two (expr_code e sc p []) (if not (is_known (type_of e)) then [] else one at Drop) (expr_size (look (known sc)) e) (if not (is_known (type_of e)) then 0 else 1) (expr_size (look (known sc)) e + (if not (is_known (type_of e)) then 0 else 1))
    (expr-count e sc p []) (drop-count (not (is_known (type_of e))) at) refl

changed-count : (m : Option Method) (e a : Tree) (es : Trees) (at : At) (sc : Scope) (p : ℕ) → count (changed_code m e a es at sc p) ≡ changed_size (look (known sc)) m e a es
changed-count (Some (by.Change n)) e a es at sc p =
    let q : ℕ = p + steps_size (look (known sc)) a in
    let e1 = steps-count a sc p [] in
    let e2 = trees-count es sc q (steps_below (steps_of a) []) in
    let last : List Mark = changes_place sc at (variable_of a) (steps_of a) n in
    let c1 = counts (steps_code a sc p []) (trees_code es sc q (steps_below (steps_of a) []) ++ last) in
    let c2 = counts (trees_code es sc q (steps_below (steps_of a) [])) last in
    omega (arith, e1, e2, c1, c2)
changed-count (Some (by.Plain n)) e a es at sc p = dropped-count e at sc p
changed-count (Some (by.File n)) e a es at sc p = dropped-count e at sc p
changed-count None e a es at sc p = dropped-count e at sc p

call-count : (e : Tree) (at : At) (sc : Scope) (p : ℕ) → count (call_code e at sc p) ≡ call_size (look (known sc)) e
call-count (node place t (method a m es)) at sc p = changed-count (signature_of (type_of a) m (tree_count es)) (node place t (method a m es)) a es at sc p
call-count (node place t f) at sc p = dropped-count (node place t f) at sc p

change-count : (q : PlaceTree) (e : List Mark) (n what : ℕ) (at : At) (sc : Scope) (p : ℕ) → count e ≡ n
    → count (suffixes_code q.suffixes sc p [] ++ (e ++ changes_place sc at q.name (kinds_of q) what)) ≡ suffixes_size (look (known sc)) q.suffixes + n + 1
change-count q e n what at sc p h =
    let e1 = suffixes-count q.suffixes sc p [] in
    let c1 = counts (suffixes_code q.suffixes sc p []) (e ++ changes_place sc at q.name (kinds_of q) what) in
    let c2 = counts e (changes_place sc at q.name (kinds_of q) what) in
    omega (arith, h, e1, c1, c2)

step-count : (x : StepTree) (at : At) (sc : Scope) (p : ℕ) → count (step_code x at sc p) ≡ suffixes_size (look (known sc)) (stepped x).suffixes + 2
step-count x at sc p =
    two (suffixes_code (stepped x).suffixes sc p []) (does (PushInt (pos 1)) at ∷ changes_place sc at (stepped x).name (kinds_of (stepped x)) (step_number (step_op_of x))) (suffixes_size (look (known sc)) (stepped x).suffixes) 2 (suffixes_size (look (known sc)) (stepped x).suffixes + 2)
    (suffixes-count (stepped x).suffixes sc p []) refl refl

behind-expr : (e : Tree) (sc : Scope) (p : ℕ) (s : List Ty) (ms : List Mark) (n : ℕ) → count ms ≡ n → count (expr_code e sc p s ++ ms) ≡ expr_size (look (known sc)) e + n
behind-expr e sc p s ms n h = two (expr_code e sc p s) ms (expr_size (look (known sc)) e) n (expr_size (look (known sc)) e + n) (expr-count e sc p s) h refl

small-form-count : (x : SmallFormTree) (at : At) (sp : Spot) (p : ℕ) → count (small_form_code x at sp p) ≡ small_form_size (types_in sp.scope) x
small-form-count (small_declare t x None) at sp p = let e = store-count sp at t in omega (arith, e)
small-form-count (small_declare t x (Some e)) at sp p = behind-expr e sp.scope p [] (store_new sp at t) 1 (store-count sp at t)
small-form-count (small_infer x e) at sp p = behind-expr e sp.scope p [] (store_new sp at (type_of e)) 1 (store-count sp at (type_of e))
small-form-count (small_assign q e) at sp p = change-count q (expr_code e sp.scope (p + suffixes_size (types_in sp.scope) q.suffixes) (steps_below (kinds_of q) [])) (expr_size (types_in sp.scope) e) 0 at sp.scope p (expr-count e sp.scope (p + suffixes_size (types_in sp.scope) q.suffixes) (steps_below (kinds_of q) []))
small-form-count (small_update q o e) at sp p = change-count q (expr_code e sp.scope (p + suffixes_size (types_in sp.scope) q.suffixes) (steps_below (kinds_of q) [])) (expr_size (types_in sp.scope) e) (change_number o) at sp.scope p (expr-count e sp.scope (p + suffixes_size (types_in sp.scope) q.suffixes) (steps_below (kinds_of q) []))
small-form-count (small_step x) at sp p = step-count x at sp.scope p
small-form-count (small_call e) at sp p = call-count e at sp.scope p

pub small-count : (x : Option SmallTree) (sp : Spot) (p : ℕ) → count (small_code x sp p) ≡ maybe_small_size (types_in sp.scope) x
small-count None sp p = refl
small-count (Some x) sp p = small-form-count x.form x.at sp p

-- Acts

pub defaults-count : (os : List SettingTree) (at : At) (first : ℕ) → count (defaults_code os at first) ≡ defaults_size os
defaults-count os at first =
    let d : Bool = any_dependency os in
    let texts : Instr = PushDefault (ty.List ty.Text) in
    let u1 = unless-count d at texts first in
    let u2 = unless-count d at texts (first + 1) in
    let u3 = unless-count (has_option (codes "cpus") os) at (PushInt (pos 1)) (first + 2) in
    let u4 = unless-count (has_option (codes "canFail") os) at (PushBool false) (first + 3) in
    let u5 = unless-count (has_option (codes "retry") os) at (PushInt (pos 0)) (first + 4) in
    let u6 = unless-count (has_option (codes "taskName") os) at (PushText []) (first + 5) in
    let m2 : List Mark = set_unless d at texts (first + 1) in
    let m3 : List Mark = set_unless (has_option (codes "cpus") os) at (PushInt (pos 1)) (first + 2) in
    let m4 : List Mark = set_unless (has_option (codes "canFail") os) at (PushBool false) (first + 3) in
    let m5 : List Mark = set_unless (has_option (codes "retry") os) at (PushInt (pos 0)) (first + 4) in
    let m6 : List Mark = set_unless (has_option (codes "taskName") os) at (PushText []) (first + 5) in
    let c1 = counts (set_unless d at texts first) (m2 ++ (m3 ++ (m4 ++ (m5 ++ m6)))) in
    let c2 = counts m2 (m3 ++ (m4 ++ (m5 ++ m6))) in
    let c3 = counts m3 (m4 ++ (m5 ++ m6)) in
    let c4 = counts m4 (m5 ++ m6) in
    let c5 = counts m5 m6 in
    omega (arith, u1, u2, u3, u4, u5, u6, c1, c2, c3, c4, c5)

visible-choice : (b : Bool) (l : Numbered) (ls : List Numbered) (at : At) (n : ℕ) → count (loads_code at ls) ≡ n → count (loads_code at (if b then ls else l ∷ ls)) ≡ (if b then n else n + 1)
visible-choice true l ls at n h = h
visible-choice false l ls at n h = omega (arith, h)

loads-count : (ls : List Numbered) (at : At) → count (loads_code at (visible_locals ls)) ≡ visible (variables_of ls)
loads-count [] at = refl
loads-count (l ∷ ls) at = visible-choice (any_named l.variable.name (variables_of ls)) l (visible_locals ls) at (visible (variables_of ls)) (loads-count ls at)

pub act-form-count : (f : ActFormTree) (at : At) (sp : Spot) (n p : ℕ) (s : List Ty) → count (act_form_code f at sp n p s) ≡ act_form_size f (known sp.scope)
act-form-count (sys ps) at sp n p s = two (pieces_code sp.scope at ps) (one at Sys) (pieces_size (types_in sp.scope) ps) 1 (pieces_size (types_in sp.scope) ps + 1) (parts-count sp.scope at (parts_of (types_in sp.scope) ps)) refl refl
act-form-count (task os b) at sp n p s =
    let xs : List SettingTree = maybe_settings os in
    let e1 = defaults-count xs at sp.first in
    let e2 = behind-count (has_condition xs) xs b at sp.scope sp.first (p + defaults_size xs) s in
    let c1 = counts (defaults_code xs at sp.first) (task_behind (has_condition xs) xs b at sp.scope sp.first (p + defaults_size xs) s) in
    omega (arith, e1, e2, c1)
act-form-count (dep os b) at sp n p s =
    let e1 = defaults-count os at sp.first in
    let e2 = settings-count true os sp.scope sp.first (p + defaults_size os) s in
    let e3 = make-count Declare b at sp.scope sp.first in
    let c1 = counts (defaults_code os at sp.first) (settings_code true os sp.scope sp.first (p + defaults_size os) s ++ make_code Declare b at sp.scope sp.first) in
    let c2 = counts (settings_code true os sp.scope sp.first (p + defaults_size os) s) (make_code Declare b at sp.scope sp.first) in
    omega (arith, e1, e2, e3, c1, c2)
act-form-count (goal e) at sp n p s = two (files_code e at sp.scope p s) (one at Goal) (files_size (types_in sp.scope) e) 1 (files_size (types_in sp.scope) e + 1) (files-count e at sp.scope p s) refl refl
act-form-count (par_call f es) at sp n p s = two (trees_code es sp.scope p s) (one at (Spawn (function_number sp.scope f))) (trees_size (types_in sp.scope) es) 1 (trees_size (types_in sp.scope) es + 1) (trees-count es sp.scope p s) refl refl
act-form-count (par_block b) at sp n p s =
    two (loads_code at (visible_locals sp.scope.locals)) (one at (Spawn (n + block_pars b))) (visible (variables_of sp.scope.locals)) 1 (visible (variables_of sp.scope.locals) + 1) (loads-count sp.scope.locals at) refl refl

act-count : (a : ActTree) (sp : Spot) (n p : ℕ) (s : List Ty) → count (act_code a sp n p s) ≡ act_size a (known sp.scope)
act-count (act at f) sp n p s = act-form-count f at sp n p s

dropped-form-count : (f : ActFormTree) (at : At) → count (dropped_form_code f at) ≡ dropped_act_form_size f
dropped-form-count (dep os b) at = refl
dropped-form-count (sys ps) at = refl
dropped-form-count (task os b) at = refl
dropped-form-count (goal e) at = refl
dropped-form-count (par_call f es) at = refl
dropped-form-count (par_block b) at = refl

dropped-act-count : (a : ActTree) (at : At) → count (dropped_act_code a at) ≡ dropped_act_size a
dropped-act-count (act place f) at = dropped-form-count f at

pub right-count : (r : RightTree) (sp : Spot) (n p : ℕ) (s : List Ty) → count (right_code r sp n p s) ≡ right_size r (known sp.scope)
right-count (right_expr e) sp n p s = expr-count e sp.scope p s
right-count (right_act a) sp n p s = act-count a sp n p s

behind-right : (r : RightTree) (sp : Spot) (n p : ℕ) (ms : List Mark) (k : ℕ) → count ms ≡ k → count (right_code r sp n p [] ++ ms) ≡ right_size r (known sp.scope) + k
behind-right r sp n p ms k h = two (right_code r sp n p []) ms (right_size r (known sp.scope)) k (right_size r (known sp.scope) + k) (right-count r sp n p []) h refl

-- Statements

line-count : (l : LineTree) (at : At) (sp : Spot) (n p : ℕ) → count (line_code l at sp n p) ≡ line_size l (known sp.scope)
line-count (declare t x no_right) at sp n p = let e = store-count sp at t in omega (arith, e)
line-count (declare t x (a_right r)) at sp n p = behind-right r sp n p (store_new sp at t) 1 (store-count sp at t)
line-count (infer x r) at sp n p = behind-right r sp n p (store_new sp at (right_type r)) 1 (store-count sp at (right_type r))
line-count (assign q r) at sp n p = change-count q (right_code r sp n (p + suffixes_size (types_in sp.scope) q.suffixes) (steps_below (kinds_of q) [])) (right_size r (known sp.scope)) 0 at sp.scope p (right-count r sp n (p + suffixes_size (types_in sp.scope) q.suffixes) (steps_below (kinds_of q) []))
line-count (update q o r) at sp n p = change-count q (right_code r sp n (p + suffixes_size (types_in sp.scope) q.suffixes) (steps_below (kinds_of q) [])) (right_size r (known sp.scope)) (change_number o) at sp.scope p (right-count r sp n (p + suffixes_size (types_in sp.scope) q.suffixes) (steps_below (kinds_of q) []))
line-count (step x) at sp n p = step-count x at sp.scope p
line-count (call_line e) at sp n p = call-count e at sp.scope p
line-count (print e) at sp n p = behind-expr e sp.scope p [] (does Show at ∷ does Out at ∷ []) 2 refl
line-count (println None) at sp n p = refl
line-count (println (Some e)) at sp n p = behind-expr e sp.scope p [] (does Show at ∷ does (PushText (10 ∷ [])) at ∷ does Concat at ∷ does Out at ∷ []) 4 refl
line-count (error e) at sp n p = behind-expr e sp.scope p [] (does Stop at ∷ label [] ∷ []) 1 refl
line-count (exit e) at sp n p = behind-expr e sp.scope p [] (does Exit at ∷ label [] ∷ []) 1 refl
line-count break at sp n p = leap-count at sp.loop (λ l. l.end)
line-count continue at sp n p = leap-count at sp.loop (λ l. l.again)
line-count (return no_right) at sp n p = refl
line-count (return (a_right r)) at sp n p = behind-right r sp n p (does Return at ∷ label [] ∷ []) 1 refl
line-count (wait None) at sp n p = refl
line-count (wait (Some e)) at sp n p = two (files_code e at sp.scope p []) (one at Wait) (files_size (types_in sp.scope) e) 1 (files_size (types_in sp.scope) e + 1) (files-count e at sp.scope p []) refl refl
line-count (checkpoint None) at sp n p = refl
line-count (checkpoint (Some e)) at sp n p = behind-expr e sp.scope p [] (one at Save) 1 refl
line-count (act_line a) at sp n p = two (act_code a sp n p []) (dropped_act_code a at) (act_size a (known sp.scope)) (dropped_act_size a) (act_size a (known sp.scope) + dropped_act_size a) (act-count a sp n p []) (dropped-act-count a at) refl

pub condition-count : (c : Option Tree) (at : At) (sc : Scope) (p : ℕ) → count (condition_code c at sc p) ≡ condition_size (look (known sc)) c
condition-count None at sc p = refl
condition-count (Some e) at sc p = expr-count e sc p []

map-end : (ls : List Numbered) (l : Numbered) → variables_of (ls ++ l ∷ []) ≡ variables_of ls ++ l.variable ∷ []
map-end [] l = refl
map-end (k ∷ ls) l = ap (λ vs. k.variable ∷ vs) (map-end ls l)

pub known-local : (sp : Spot) (x : List ℕ) (t : Ty) → known (declared_local sp x t).scope ≡ with_known (known sp.scope) x t
known-local sp x t = ap (λ vs. record_of vs) (map-end sp.scope.locals (numbered x t sp.next))
  where
    record_of : List Variable → Known
    record_of vs = record { locals = vs; globals = variables_of sp.scope.globals }

known-local-with : (v : Option Variable) (sp : Spot) → known (local_with sp v).scope ≡ known_with (known sp.scope) v
known-local-with None sp = refl
known-local-with (Some v) sp = known-local sp v.name v.ty

pub known-small : (x : Option SmallTree) (sp : Spot) → known (behind_small x sp).scope ≡ known_behind_small x (known sp.scope)
known-small x sp = known-local-with (declared_by_small x) sp

mutual
  pub whole-stmt-count : (s : StmtTree) (sp : Spot) (n p : ℕ) → count (stmt_code s sp n p) ≡ stmt_size s (known sp.scope)
  whole-stmt-count (stmt at f) sp n p = whole-form-count f at sp n p

  whole-form-count : (f : StmtFormTree) (at : At) (sp : Spot) (n p : ℕ) → count (form_stmt_code f at sp n p) ≡ form_stmt_size f (known sp.scope)
  whole-form-count (inner_block b) at sp n p = whole-block-count b (inner sp) n p refl
  whole-form-count empty at sp n p = refl
  whole-form-count (line l) at sp n p = line-count l at sp n p
  whole-form-count (when c a no_stmt) at sp n p =
      let right : ℕ = p + expr_size (look (known sp.scope)) c + 1 in
      if-count at (expr_code c sp.scope p []) (stmt_code a (inner sp) n right) (right + stmt_size a (known sp.scope)) (expr_size (look (known sp.scope)) c) (stmt_size a (known sp.scope)) (expr-count c sp.scope p []) (whole-stmt-count a (inner sp) n right)
  whole-form-count (when c a (a_stmt b)) at sp n p =
      let right : ℕ = p + expr_size (look (known sp.scope)) c + 1 in
      let other : ℕ = right + stmt_size a (known sp.scope) + 1 in
      branch-count at (expr_code c sp.scope p []) (stmt_code a (inner sp) n right) (stmt_code b (behind_slots (inner sp) (slots a)) (n + pars a) other) other (other + stmt_size b (known sp.scope))
      (expr_size (look (known sp.scope)) c) (stmt_size a (known sp.scope)) (stmt_size b (known sp.scope)) (expr-count c sp.scope p []) (whole-stmt-count a (inner sp) n right) (whole-stmt-count b (behind_slots (inner sp) (slots a)) (n + pars a) other)
  whole-form-count (while c s) at sp n p =
      let body : ℕ = p + 1 + expr_size (look (known sp.scope)) c + 1 in
      let end : ℕ = body + stmt_size s (known sp.scope) + 1 in
      loop-count at (expr_code c sp.scope (p + 1) []) (stmt_code s (in_loop sp p end) n body) p end (expr_size (look (known sp.scope)) c) (stmt_size s (known sp.scope)) (expr-count c sp.scope (p + 1) []) (whole-stmt-count s (in_loop sp p end) n body)
  whole-form-count (for first c next s) at sp n p =
      let k : Known = known_behind_small first (known sp.scope) in
      let head : Spot = behind_small first (inner sp) in
      let top : ℕ = p + maybe_small_size (types_in sp.scope) first in
      let body : ℕ = top + 1 + condition_size (look k) c + 1 in
      let again : ℕ = body + stmt_size s k in
      let end : ℕ = again + maybe_small_size (look k) next + 1 in
      let same : known head.scope ≡ k = known-small first (inner sp) in
      let m1 : List Mark = small_code first (inner sp) p in
      let m2 : List Mark = condition_code c at head.scope (top + 1) in
      let m3 : List Mark = stmt_code s (in_loop head again end) n body in
      let m4 : List Mark = small_code next (behind_slots head (slots s)) again in
      let e1 : count m1 ≡ maybe_small_size (types_in sp.scope) first = small-count first (inner sp) p in
      let e2 : count m2 ≡ condition_size (look k) c = condition-count c at head.scope (top + 1) ∙ ap (λ x. condition_size (look x) c) same in
      let e3 : count m3 ≡ stmt_size s k = whole-stmt-count s (in_loop head again end) n body ∙ ap (stmt_size s) same in
      let e4 : count m4 ≡ maybe_small_size (look k) next = small-count next (behind_slots head (slots s)) again ∙ ap (λ x. maybe_small_size (look x) next) same in
      let r4 : List Mark = does (Jump top) at ∷ label [] ∷ [] in
      let r3 : List Mark = label [] ∷ (m4 ++ r4) in
      let r2 : List Mark = does (JumpUnless end) at ∷ (m3 ++ r3) in
      let c1 = counts m1 (label [] ∷ does Tick at ∷ (m2 ++ r2)) in
      let c2 = counts m2 r2 in
      let c3 = counts m3 r3 in
      let c4 = counts m4 r4 in
      omega (arith, e1, e2, e3, e4, c1, c2, c3, c4)
  whole-form-count (each t x e s) at sp n p =
      let own : Spot = declared_local (behind_slots (inner sp) 2) x t in
      let top : ℕ = p + expr_size (types_in sp.scope) e + 3 in
      let body : ℕ = top + 10 in
      let again : ℕ = body + stmt_size s (known own.scope) in
      let end : ℕ = again + 3 in
      let m : List Mark = stmt_code s (in_loop own again end) n body in
      let last : List Mark = label [] ∷ does (PushInt (pos 1)) at ∷ does (Update false (sp.next + 1) [] 1) at ∷ does (Jump top) at ∷ label [] ∷ [] in
      let e1 : count (expr_code e sp.scope p []) ≡ expr_size (types_in sp.scope) e = expr-count e sp.scope p [] in
      let e2 : count m ≡ stmt_size s (with_known (known sp.scope) x t) = whole-stmt-count s (in_loop own again end) n body ∙ ap (stmt_size s) (known-local (behind_slots (inner sp) 2) x t) in
      let rest : List Mark =
      slot (ty.List t) ∷ does (Store sp.next) at ∷ does (PushInt (pos 0)) at ∷ slot ty.Int ∷ does (Store (sp.next + 1)) at
      ∷ label [] ∷ does Tick at ∷ does (Load (sp.next + 1)) at ∷ does (Load sp.next) at ∷ does (CallMethod 17) at ∷ does Less at ∷ does (JumpUnless end) at
      ∷ does (Load sp.next) at ∷ does (Load (sp.next + 1)) at ∷ does Item at ∷ slot t ∷ does (Store (sp.next + 2)) at ∷ (m ++ last) in
      let c1 = counts (expr_code e sp.scope p []) rest in
      let c2 = counts m last in
      omega (arith, e1, e2, c1, c2)
  whole-form-count (switch e cs) at sp n p =
      let k : Known = known sp.scope in
      let tests : ℕ = p + expr_size (types_in sp.scope) e + 1 in
      let cases : ℕ = tests + labels_size (types_in sp.scope) cs + 1 in
      let end : ℕ = cases + cases_size cs k in
      let m1 : List Mark = labels_code cs at sp.scope sp.next tests cases in
      let m2 : List Mark = cases_code cs (in_switch sp end) n cases in
      let rest : List Mark = does (Jump (default_place cs k cases)) at ∷ (m2 ++ (label [] ∷ [])) in
      let e1 = expr-count e sp.scope p [] in
      let e2 = labels-count cs at sp tests cases in
      let e3 = cases-count cs (in_switch sp end) n cases refl in
      let c1 = counts (expr_code e sp.scope p []) (slot (type_of e) ∷ does (Store sp.next) at ∷ (m1 ++ rest)) in
      let c2 = counts m1 rest in
      let c3 = counts m2 (label [] ∷ []) in
      omega (arith, e1, e2, e3, c1, c2, c3)

  pub labels-count : (cs : CaseTrees) (at : At) (sp : Spot) (p case : ℕ) → count (labels_code cs at sp.scope sp.next p case) ≡ labels_size (types_in sp.scope) cs
  labels-count no_cases at sp p case = refl
  labels-count (more_cases c cs) at sp p case =
      let q : ℕ = p + label_size (types_in sp.scope) c in
      let r : ℕ = case + case_size c (known sp.scope) in
      two (label_code c at sp.scope sp.next p case) (labels_code cs at sp.scope sp.next q r) (label_size (types_in sp.scope) c) (labels_size (types_in sp.scope) cs) (label_size (types_in sp.scope) c + labels_size (types_in sp.scope) cs) (label-count c at sp p case) (labels-count cs at sp q r) refl

  pub label-count : (c : CaseTree) (at : At) (sp : Spot) (p case : ℕ) → count (label_code c at sp.scope sp.next p case) ≡ label_size (types_in sp.scope) c
  label-count (a_case place None ss) at sp p case = refl
  label-count (a_case place (Some e) ss) at sp p case =
      behind-expr e sp.scope p [] (does (Load sp.next) at ∷ does Equal at ∷ does (JumpUnless (p + (expr_size (types_in sp.scope) e + 4))) at ∷ does (Jump case) at ∷ label [] ∷ []) 4 refl

  pub cases-count : (cs : CaseTrees) (sp : Spot) (n p : ℕ) → sp.at_top ≡ false → count (cases_code cs sp n p) ≡ cases_size cs (known sp.scope)
  cases-count no_cases sp n p low = refl
  cases-count (more_cases c cs) sp n p low =
      let q : ℕ = p + case_size c (known sp.scope) in
      two (case_code c sp n p) (cases_code cs (behind_slots sp (case_slots c)) (n + case_pars c) q) (case_size c (known sp.scope)) (cases_size cs (known sp.scope)) (case_size c (known sp.scope) + cases_size cs (known sp.scope)) (case-count c sp n p low)
      (cases-count cs (behind_slots sp (case_slots c)) (n + case_pars c) q low) refl

  pub case-count : (c : CaseTree) (sp : Spot) (n p : ℕ) → sp.at_top ≡ false → count (case_code c sp n p) ≡ case_size c (known sp.scope)
  case-count (a_case place l ss) sp n p low = whole-stmts-count ss sp n p low

  pub whole-block-count : (b : BlockTree) (sp : Spot) (n p : ℕ) → sp.at_top ≡ false → count (block_code b sp n p) ≡ block_size b (known sp.scope)
  whole-block-count (block at ss) sp n p low = whole-stmts-count ss sp n p low

  pub whole-stmts-count : (ss : StmtTrees) (sp : Spot) (n p : ℕ) → sp.at_top ≡ false → count (stmts_code ss sp n p) ≡ stmts_size ss (known sp.scope)
  whole-stmts-count no_stmts sp n p low = refl
  whole-stmts-count (more_stmts s ss) sp n p low =
      two (stmt_code s sp n p) (stmts_code ss (behind s sp) (n + pars s) (p + stmt_size s (known sp.scope))) (stmt_size s (known sp.scope)) (stmts_size ss (known_behind s (known sp.scope))) (stmt_size s (known sp.scope) + stmts_size ss (known_behind s (known sp.scope)))
      (whole-stmt-count s sp n p) (whole-stmts-count ss (behind s sp) (n + pars s) (p + stmt_size s (known sp.scope)) (behind-low s sp low) ∙ ap (stmts_size ss) (behind-known s sp low)) refl
