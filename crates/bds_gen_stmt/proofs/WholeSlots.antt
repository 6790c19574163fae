-- Only declarations and list loops have slots, and these are as many as are counted.
use Rattle.std.proofs.Common.{◌≡◌, ◌+◌, ℕ, List, [], ◌∷◌, ◌++◌, Option, Some, None, Bool, true, false, not, refl, sym, ◌∙◌, ap, arith, if◌then◌else◌}
use Rattle.std.specs.Prelude.{length, codes, pos}
use Rattle.bds_value.specs.declared.methods.Method.{Method}
use Rattle.bds_value.specs.declared.methods.Method.TheVariants as by
use Rattle.bds_value.specs.declared.value.At.{At}
use Rattle.bds_value.specs.declared.value.Ty.{Ty}
use Rattle.bds_value.specs.declared.value.Ty.TheVariants as ty
use Rattle.bds_value.specs.Methods.{signature_of}
use Rattle.bds_tree.specs.declared.stmt.Body.{Body}
use Rattle.bds_tree.specs.declared.stmt.Command.{Command}
use Rattle.bds_tree.specs.Tree.{Tree, FormTree, Trees, node, item, key, method, dependency, type_of}
use Rattle.bds_tree.specs.StmtTree.{SuffixTree, at_index, at_key, PlaceTree, StepTree, SettingFormTree, setting_named, setting_plain, SettingTree, SmallFormTree, small_declare, small_infer, small_assign, small_update, small_step, small_call, SmallTree, StmtTree, StmtFormTree, LineTree, RightTree, ActTree, ActFormTree, BlockTree, StmtTrees, stmt, inner_block, empty, line, when, while, for, each, declare, infer, assign, update, step, call_line, print, println, error, exit, break, continue, return, wait, checkpoint, act_line, right_expr, right_act, act, sys, task, dep, goal, par_call, par_block, block, no_stmts, more_stmts, no_stmt, a_stmt, no_right, a_right, switch, CaseTrees, CaseTree, no_cases, more_cases, a_case}
use Rattle.bds_code.specs.declared.instr.Instr.{Instr}
use Rattle.bds_code.specs.declared.instr.Instr.TheVariants.{PushText, PushInt, PushBool, PushDefault, Drop, Show, Out, Concat, Stop, Exit, Return, Jump, JumpUnless, Tick, Load, Store, Less, Equal, Item, Update, Method as CallMethod, Wait, Save, Sys, Goal, Spawn, NewTask, Declare}
use Rattle.bds_check_names.specs.Types.{is_known}
use Rattle.bds_check_rules.specs.Typing.{count as tree_count}
use Rattle.bds_check_names.specs.declared.names.Variable.{Variable}
use Rattle.bds_check_names.specs.Slots.{slots, form_slots, cases_slots, case_slots, block_slots, stmts_slots, small_slots, small_form_slots}
use Rattle.bds_check_rules.specs.Declarations.{declared_by_small}
use Rattle.bds_check_rules.specs.StmtBreaks.{right_type, any_dependency, commands_of, stepped}
use Rattle.bds_check_size.specs.Known.{Known, look}
use Rattle.bds_check_size.specs.Parts.{parts_of}
use Rattle.bds_check_size.specs.ExprSize.{expr_size, files_size}
use Rattle.bds_check_size.specs.StmtSize.{labels_size, label_size, cases_size, case_size, suffix_size, suffixes_size, steps_size, setting_size, settings_size, commands_size, has_option, has_condition, defaults_size, maybe_settings, maybe_small_size, condition_size, known_behind_small, stmt_size}
use Rattle.bds_gen_expr.specs.Marks.{Mark, does, label, slot, slot_count, one}
use Rattle.bds_gen_expr.specs.declared.scope.Numbered.{Numbered}
use Rattle.bds_gen_expr.specs.declared.scope.Scope.{Scope}
use Rattle.bds_gen_expr.specs.Numbers.{visible_locals}
use Rattle.bds_gen_expr.specs.Scope.{known, function_number}
use Rattle.bds_gen_expr.specs.ExprCode.{pieces_code, expr_code, trees_code, files_code, listing}
use Rattle.bds_gen_stmt.specs.Spots.{Spot, Loop, inner, in_loop, in_switch, behind_slots, declared_local, store_new, local_with}
use Rattle.bds_gen_stmt.specs.StmtCode.{default_place, labels_code, label_code, cases_code, case_code, case_pars, leap, condition_code, loads_code, behind_line, behind, pars, block_pars, stmt_code, form_stmt_code, line_code, right_code, act_code, act_form_code, dropped_act_code, dropped_form_code, block_code, stmts_code}
use Rattle.bds_gen_expr.specs.Scope.{types_in}
use Rattle.bds_code.specs.UpdateRows.{step_ty}
use Rattle.bds_gen_stmt.specs.PlaceCode.{kind_of, kinds_of, suffix_code, suffixes_code, steps_below, changes_place, change_number, step_number, step_op_of, step_code, steps_code, form_steps_code, steps_of, variable_of, dropped_code, changed_code, call_code, small_form_code, small_code, behind_small, behind_small_form}
use Rattle.bds_gen_stmt.specs.TaskCode.{needed_slot, outs_slot, ins_slot, option_slot, set_unless, defaults_code, joining_code, asks_date, plain_form_code, setting_code, settings_code, further_commands, commands_code, make_code, task_behind}
use Rattle.bds_gen_stmt.proofs.StmtCounts.{slot_counts, no_slots, parts-slots, listing-slots, expr-no-slots, trees-no-slots, new_slots, stored-slots, declared-next, line-takes, behind-low}

suffix-slots : (x : SuffixTree) (sc : Scope) (p : ℕ) (s : List Ty) → slot_count (suffix_code x sc p s) ≡ 0
suffix-slots (at_index e) sc p s = expr-no-slots e sc p s
suffix-slots (at_key e) sc p s = expr-no-slots e sc p s

suffixes-slots : (xs : List SuffixTree) (sc : Scope) (p : ℕ) (s : List Ty) → slot_count (suffixes_code xs sc p s) ≡ 0
suffixes-slots [] sc p s = refl
suffixes-slots (x ∷ xs) sc p s = no_slots (suffix_code x sc p s) (suffixes_code xs sc (p + suffix_size (look (known sc)) x) (step_ty (kind_of x) ∷ s)) (suffix-slots x sc p s) (suffixes-slots xs sc (p + suffix_size (look (known sc)) x) (step_ty (kind_of x) ∷ s))

mutual
  steps-slots : (e : Tree) (sc : Scope) (p : ℕ) (s : List Ty) → slot_count (steps_code e sc p s) ≡ 0
  steps-slots (node at t f) sc p s = form-steps-slots f sc p s

  form-steps-slots : (f : FormTree) (sc : Scope) (p : ℕ) (s : List Ty) → slot_count (form_steps_code f sc p s) ≡ 0
  form-steps-slots (item a i) sc p s =
      no_slots (steps_code a sc p s) (expr_code i sc (p + steps_size (look (known sc)) a) (steps_below (steps_of a) s)) (steps-slots a sc p s) (expr-no-slots i sc (p + steps_size (look (known sc)) a) (steps_below (steps_of a) s))
  form-steps-slots (key a i) sc p s =
      no_slots (steps_code a sc p s) (expr_code i sc (p + steps_size (look (known sc)) a) (steps_below (steps_of a) s)) (steps-slots a sc p s) (expr-no-slots i sc (p + steps_size (look (known sc)) a) (steps_below (steps_of a) s))
  form-steps-slots _ sc p s = refl

dropped-by : (b : Bool) (at : At) → slot_count (if b then [] else one at Drop) ≡ 0
dropped-by true at = refl
dropped-by false at = refl

dropped-slots : (e : Tree) (at : At) (sc : Scope) (p : ℕ) → slot_count (dropped_code e at sc p) ≡ 0
dropped-slots e at sc p = no_slots (expr_code e sc p []) (if not (is_known (type_of e)) then [] else one at Drop) (expr-no-slots e sc p []) (dropped-by (not (is_known (type_of e))) at)

changed-slots : (m : Option Method) (e a : Tree) (es : Trees) (at : At) (sc : Scope) (p : ℕ) → slot_count (changed_code m e a es at sc p) ≡ 0
changed-slots (Some (by.Change n)) e a es at sc p =
    let q : ℕ = p + steps_size (look (known sc)) a in
    let last : List Mark = changes_place sc at (variable_of a) (steps_of a) n in
    no_slots (steps_code a sc p []) (trees_code es sc q (steps_below (steps_of a) []) ++ last) (steps-slots a sc p [])
    (no_slots (trees_code es sc q (steps_below (steps_of a) [])) last (trees-no-slots es sc q (steps_below (steps_of a) [])) refl)
changed-slots (Some (by.Plain n)) e a es at sc p = dropped-slots e at sc p
changed-slots (Some (by.File n)) e a es at sc p = dropped-slots e at sc p
changed-slots None e a es at sc p = dropped-slots e at sc p

call-slots : (e : Tree) (at : At) (sc : Scope) (p : ℕ) → slot_count (call_code e at sc p) ≡ 0
call-slots (node place t (method a m es)) at sc p = changed-slots (signature_of (type_of a) m (tree_count es)) (node place t (method a m es)) a es at sc p
call-slots (node place t f) at sc p = dropped-slots (node place t f) at sc p

change-slots : (q : PlaceTree) (e : List Mark) (what : ℕ) (at : At) (sc : Scope) (p : ℕ) → slot_count e ≡ 0 → slot_count (suffixes_code q.suffixes sc p [] ++ (e ++ changes_place sc at q.name (kinds_of q) what)) ≡ 0
change-slots q e what at sc p h = no_slots (suffixes_code q.suffixes sc p []) (e ++ changes_place sc at q.name (kinds_of q) what) (suffixes-slots q.suffixes sc p []) (no_slots e (changes_place sc at q.name (kinds_of q) what) h refl)

step-slots : (x : StepTree) (at : At) (sc : Scope) (p : ℕ) → slot_count (step_code x at sc p) ≡ 0
step-slots x at sc p = no_slots (suffixes_code (stepped x).suffixes sc p []) (does (PushInt (pos 1)) at ∷ changes_place sc at (stepped x).name (kinds_of (stepped x)) (step_number (step_op_of x))) (suffixes-slots (stepped x).suffixes sc p []) refl

-- Acts

pub files-slots : (e : Tree) (at : At) (sc : Scope) (p : ℕ) (s : List Ty) → slot_count (files_code e at sc p s) ≡ 0
files-slots e at sc p s = no_slots (expr_code e sc p s) (listing at (type_of e)) (expr-no-slots e sc p s) (listing-slots at (type_of e))

asks-slots : (d : Bool) (at : At) (first p : ℕ) (s : List Ty) → slot_count (asks_date d at first p s) ≡ 0
asks-slots true at first p s = refl
asks-slots false at first p s = refl

plain-slots : (d : Bool) (e : Tree) (f : FormTree) (at : At) (sc : Scope) (first p : ℕ) (s : List Ty) → slot_count (plain_form_code d e f at sc first p s) ≡ 0
plain-slots d e (dependency a b) at sc first p s =
    let right : ℕ = p + files_size (look (known sc)) a + 1 in
    let z : ℕ = right + files_size (look (known sc)) b + 1 in
    no_slots (files_code a at sc p s) (does (Store (outs_slot first)) at ∷ (files_code b at sc right s ++ (does (Store (ins_slot first)) at ∷ asks_date d at first z s))) (files-slots a at sc p s)
    (no_slots (files_code b at sc right s) (does (Store (ins_slot first)) at ∷ asks_date d at first z s) (files-slots b at sc right s) (asks-slots d at first z s))
plain-slots d e _ at sc first p s = no_slots (expr_code e sc p s) (joining_code at first (p + expr_size (look (known sc)) e) s) (expr-no-slots e sc p s) refl

setting-slots : (d : Bool) (f : SettingFormTree) (at : At) (sc : Scope) (first p : ℕ) (s : List Ty) → slot_count (setting_code d f at sc first p s) ≡ 0
setting-slots d (setting_named x e) at sc first p s = no_slots (expr_code e sc p s) (one at (Store (option_slot x first))) (expr-no-slots e sc p s) refl
setting-slots d (setting_plain (node place t f)) at sc first p s = plain-slots d (node place t f) f at sc first p s

settings-slots : (d : Bool) (xs : List SettingTree) (sc : Scope) (first p : ℕ) (s : List Ty) → slot_count (settings_code d xs sc first p s) ≡ 0
settings-slots d [] sc first p s = refl
settings-slots d (x ∷ xs) sc first p s =
    no_slots (setting_code d x.form x.at sc first p s) (settings_code d xs sc first (p + setting_size (look (known sc)) d x.form) s) (setting-slots d x.form x.at sc first p s) (settings-slots d xs sc first (p + setting_size (look (known sc)) d x.form) s)

further-slots : (cs : List Command) (sc : Scope) (at : At) → slot_count (further_commands cs sc at) ≡ 0
further-slots [] sc at = refl
further-slots (c ∷ cs) sc at = no_slots (pieces_code sc c.at c.text) (does Concat at ∷ further_commands cs sc at) (parts-slots sc c.at (parts_of (look (known sc)) c.text)) (further-slots cs sc at)

commands-slots : (cs : List Command) (sc : Scope) (at : At) → slot_count (commands_code cs sc at) ≡ 0
commands-slots [] sc at = refl
commands-slots (c ∷ cs) sc at = no_slots (pieces_code sc c.at c.text) (further_commands cs sc at) (parts-slots sc c.at (parts_of (look (known sc)) c.text)) (further-slots cs sc at)

make-slots : (i : Instr) (b : Body) (at : At) (sc : Scope) (first : ℕ) → slot_count (make_code i b at sc first) ≡ 0
make-slots i b at sc first = no_slots (commands_code (commands_of b) sc at) (one at i) (commands-slots (commands_of b) sc at) refl

unless-slots : (b : Bool) (at : At) (push : Instr) (i : ℕ) → slot_count (set_unless b at push i) ≡ 0
unless-slots true at push i = refl
unless-slots false at push i = refl

defaults-slots : (os : List SettingTree) (at : At) (first : ℕ) → slot_count (defaults_code os at first) ≡ 0
defaults-slots os at first =
    let d : Bool = any_dependency os in
    let none_there : Instr = PushDefault (ty.List ty.Text) in
    let m1 : List Mark = set_unless d at none_there first in
    let m2 : List Mark = set_unless d at none_there (first + 1) in
    let m3 : List Mark = set_unless (has_option (codes "cpus") os) at (PushInt (pos 1)) (first + 2) in
    let m4 : List Mark = set_unless (has_option (codes "canFail") os) at (PushBool false) (first + 3) in
    let m5 : List Mark = set_unless (has_option (codes "retry") os) at (PushInt (pos 0)) (first + 4) in
    let m6 : List Mark = set_unless (has_option (codes "taskName") os) at (PushText []) (first + 5) in
    no_slots m1 (m2 ++ (m3 ++ (m4 ++ (m5 ++ m6)))) (unless-slots d at none_there first)
    (no_slots m2 (m3 ++ (m4 ++ (m5 ++ m6))) (unless-slots d at none_there (first + 1))
    (no_slots m3 (m4 ++ (m5 ++ m6)) (unless-slots (has_option (codes "cpus") os) at (PushInt (pos 1)) (first + 2))
    (no_slots m4 (m5 ++ m6) (unless-slots (has_option (codes "canFail") os) at (PushBool false) (first + 3))
    (no_slots m5 m6 (unless-slots (has_option (codes "retry") os) at (PushInt (pos 0)) (first + 4)) (unless-slots (has_option (codes "taskName") os) at (PushText []) (first + 5))))))

task-slots : (c : Bool) (os : List SettingTree) (b : Body) (at : At) (sc : Scope) (first p : ℕ) (s : List Ty) → slot_count (task_behind c os b at sc first p s) ≡ 0
task-slots false os b at sc first p s = no_slots (settings_code false os sc first p s) (make_code NewTask b at sc first) (settings-slots false os sc first p s) (make-slots NewTask b at sc first)
task-slots true os b at sc first p s =
    let other : ℕ = p + 2 + settings_size (look (known sc)) false os + 2 + 6 + commands_size (look (known sc)) (commands_of b) + 1 + 1 in
    let last : List Mark = does (Jump (other + 1)) at ∷ label s ∷ does (PushText []) at ∷ label (ty.Text ∷ s) ∷ [] in
    no_slots (settings_code false os sc first (p + 2) s) (does (Load (needed_slot first)) at ∷ does (JumpUnless other) at ∷ (make_code NewTask b at sc first ++ last)) (settings-slots false os sc first (p + 2) s)
    (no_slots (make_code NewTask b at sc first) last (make-slots NewTask b at sc first) refl)

loads-slots : (ls : List Numbered) (at : At) → slot_count (loads_code at ls) ≡ 0
loads-slots [] at = refl
loads-slots (l ∷ ls) at = loads-slots ls at

act-form-slots : (f : ActFormTree) (at : At) (sp : Spot) (n p : ℕ) (s : List Ty) → slot_count (act_form_code f at sp n p s) ≡ 0
act-form-slots (sys ps) at sp n p s = no_slots (pieces_code sp.scope at ps) (one at Sys) (parts-slots sp.scope at (parts_of (types_in sp.scope) ps)) refl
act-form-slots (task os b) at sp n p s =
    let xs : List SettingTree = maybe_settings os in
    no_slots (defaults_code xs at sp.first) (task_behind (has_condition xs) xs b at sp.scope sp.first (p + defaults_size xs) s) (defaults-slots xs at sp.first) (task-slots (has_condition xs) xs b at sp.scope sp.first (p + defaults_size xs) s)
act-form-slots (dep os b) at sp n p s =
    no_slots (defaults_code os at sp.first) (settings_code true os sp.scope sp.first (p + defaults_size os) s ++ make_code Declare b at sp.scope sp.first) (defaults-slots os at sp.first)
    (no_slots (settings_code true os sp.scope sp.first (p + defaults_size os) s) (make_code Declare b at sp.scope sp.first) (settings-slots true os sp.scope sp.first (p + defaults_size os) s) (make-slots Declare b at sp.scope sp.first))
act-form-slots (goal e) at sp n p s = no_slots (files_code e at sp.scope p s) (one at Goal) (files-slots e at sp.scope p s) refl
act-form-slots (par_call f es) at sp n p s = no_slots (trees_code es sp.scope p s) (one at (Spawn (function_number sp.scope f))) (trees-no-slots es sp.scope p s) refl
act-form-slots (par_block b) at sp n p s = no_slots (loads_code at (visible_locals sp.scope.locals)) (one at (Spawn (n + block_pars b))) (loads-slots (visible_locals sp.scope.locals) at) refl

pub act-slots : (a : ActTree) (sp : Spot) (n p : ℕ) (s : List Ty) → slot_count (act_code a sp n p s) ≡ 0
act-slots (act at f) sp n p s = act-form-slots f at sp n p s

pub right-slots : (r : RightTree) (sp : Spot) (n p : ℕ) (s : List Ty) → slot_count (right_code r sp n p s) ≡ 0
right-slots (right_expr e) sp n p s = expr-no-slots e sp.scope p s
right-slots (right_act a) sp n p s = act-slots a sp n p s

dropped-form-slots : (f : ActFormTree) (at : At) → slot_count (dropped_form_code f at) ≡ 0
dropped-form-slots (dep os b) at = refl
dropped-form-slots (sys ps) at = refl
dropped-form-slots (task os b) at = refl
dropped-form-slots (goal e) at = refl
dropped-form-slots (par_call f es) at = refl
dropped-form-slots (par_block b) at = refl

act-line-slots : (a : ActTree) (at : At) (sp : Spot) (n p : ℕ) → slot_count (act_code a sp n p [] ++ dropped_act_code a at) ≡ 0
act-line-slots (act place f) at sp n p = no_slots (act_form_code f place sp n p []) (dropped_form_code f at) (act-form-slots f place sp n p []) (dropped-form-slots f at)

-- Lines

-- nothing is declared
keeps : (n k : ℕ) → k ≡ 0 → n ≡ n + k
keeps n k e = omega (arith, e)

store-slots : (sp : Spot) (at : At) (t : Ty) → slot_count (store_new sp at t) ≡ new_slots sp.at_top
store-slots sp at t = stored-slots sp.at_top (length sp.scope.globals) sp.next at t

stores : (ms : List Mark) (sp : Spot) (at : At) (t : Ty) → slot_count ms ≡ 0 → slot_count (ms ++ store_new sp at t) ≡ new_slots sp.at_top
stores ms sp at t h = let c = slot_counts ms (store_new sp at t) in let e = store-slots sp at t in omega (arith, c, e, h)

behind-e : (e : Tree) (sc : Scope) (p : ℕ) (ms : List Mark) → slot_count ms ≡ 0 → slot_count (expr_code e sc p [] ++ ms) ≡ 0
behind-e e sc p ms h = no_slots (expr_code e sc p []) ms (expr-no-slots e sc p []) h

leap-slots : (at : At) (l : Option Loop) (to : Loop → ℕ) → slot_count (leap at l to) ≡ 0
leap-slots at None to = refl
leap-slots at (Some l) to = refl

pub line-slots : (l : LineTree) (at : At) (sp : Spot) (n p : ℕ) → (behind_line l sp).next ≡ sp.next + slot_count (line_code l at sp n p)
line-slots (declare t x no_right) at sp n p = declared-next sp.at_top sp x t ∙ ap (λ k. sp.next + k) (sym (store-slots sp at t))
line-slots (declare t x (a_right r)) at sp n p = declared-next sp.at_top sp x t ∙ ap (λ k. sp.next + k) (sym (stores (right_code r sp n p []) sp at t (right-slots r sp n p [])))
line-slots (infer x r) at sp n p = declared-next sp.at_top sp x (right_type r) ∙ ap (λ k. sp.next + k) (sym (stores (right_code r sp n p []) sp at (right_type r) (right-slots r sp n p [])))
line-slots (assign q r) at sp n p =
    let z : ℕ = p + suffixes_size (types_in sp.scope) q.suffixes in
    keeps sp.next (slot_count (line_code (assign q r) at sp n p)) (change-slots q (right_code r sp n z (steps_below (kinds_of q) [])) 0 at sp.scope p (right-slots r sp n z (steps_below (kinds_of q) [])))
line-slots (update q o r) at sp n p =
    let z : ℕ = p + suffixes_size (types_in sp.scope) q.suffixes in
    keeps sp.next (slot_count (line_code (update q o r) at sp n p)) (change-slots q (right_code r sp n z (steps_below (kinds_of q) [])) (change_number o) at sp.scope p (right-slots r sp n z (steps_below (kinds_of q) [])))
line-slots (step x) at sp n p = keeps sp.next (slot_count (step_code x at sp.scope p)) (step-slots x at sp.scope p)
line-slots (call_line e) at sp n p = keeps sp.next (slot_count (call_code e at sp.scope p)) (call-slots e at sp.scope p)
line-slots (print e) at sp n p = keeps sp.next (slot_count (line_code (print e) at sp n p)) (behind-e e sp.scope p (does Show at ∷ does Out at ∷ []) refl)
line-slots (println None) at sp n p = omega arith
line-slots (println (Some e)) at sp n p = keeps sp.next (slot_count (line_code (println (Some e)) at sp n p)) (behind-e e sp.scope p (does Show at ∷ does (PushText (10 ∷ [])) at ∷ does Concat at ∷ does Out at ∷ []) refl)
line-slots (error e) at sp n p = keeps sp.next (slot_count (line_code (error e) at sp n p)) (behind-e e sp.scope p (does Stop at ∷ label [] ∷ []) refl)
line-slots (exit e) at sp n p = keeps sp.next (slot_count (line_code (exit e) at sp n p)) (behind-e e sp.scope p (does Exit at ∷ label [] ∷ []) refl)
line-slots break at sp n p = keeps sp.next (slot_count (leap at sp.loop (λ l. l.end))) (leap-slots at sp.loop (λ l. l.end))
line-slots continue at sp n p = keeps sp.next (slot_count (leap at sp.loop (λ l. l.again))) (leap-slots at sp.loop (λ l. l.again))
line-slots (return no_right) at sp n p = omega arith
line-slots (return (a_right r)) at sp n p = keeps sp.next (slot_count (line_code (return (a_right r)) at sp n p)) (no_slots (right_code r sp n p []) (does Return at ∷ label [] ∷ []) (right-slots r sp n p []) refl)
line-slots (wait None) at sp n p = omega arith
line-slots (wait (Some e)) at sp n p = keeps sp.next (slot_count (line_code (wait (Some e)) at sp n p)) (no_slots (files_code e at sp.scope p []) (one at Wait) (files-slots e at sp.scope p []) refl)
line-slots (checkpoint None) at sp n p = omega arith
line-slots (checkpoint (Some e)) at sp n p = keeps sp.next (slot_count (line_code (checkpoint (Some e)) at sp n p)) (behind-e e sp.scope p (one at Save) refl)
line-slots (act_line a) at sp n p = keeps sp.next (slot_count (line_code (act_line a) at sp n p)) (act-line-slots a at sp n p)

-- Heads of loops

stores-low : (ms : List Mark) (sp : Spot) (at : At) (t : Ty) → sp.at_top ≡ false → slot_count ms ≡ 0 → slot_count (ms ++ store_new sp at t) ≡ 1
stores-low ms sp at t low h = stores ms sp at t h ∙ ap new_slots low

small-form-slots : (x : SmallFormTree) (at : At) (sp : Spot) (p : ℕ) → sp.at_top ≡ false → slot_count (small_form_code x at sp p) ≡ small_form_slots x
small-form-slots (small_declare t x None) at sp p low = store-slots sp at t ∙ ap new_slots low
small-form-slots (small_declare t x (Some e)) at sp p low = stores-low (expr_code e sp.scope p []) sp at t low (expr-no-slots e sp.scope p [])
small-form-slots (small_infer x e) at sp p low = stores-low (expr_code e sp.scope p []) sp at (type_of e) low (expr-no-slots e sp.scope p [])
small-form-slots (small_assign q e) at sp p low =
    let z : ℕ = p + suffixes_size (types_in sp.scope) q.suffixes in
    change-slots q (expr_code e sp.scope z (steps_below (kinds_of q) [])) 0 at sp.scope p (expr-no-slots e sp.scope z (steps_below (kinds_of q) []))
small-form-slots (small_update q o e) at sp p low =
    let z : ℕ = p + suffixes_size (types_in sp.scope) q.suffixes in
    change-slots q (expr_code e sp.scope z (steps_below (kinds_of q) [])) (change_number o) at sp.scope p (expr-no-slots e sp.scope z (steps_below (kinds_of q) []))
small-form-slots (small_step x) at sp p low = step-slots x at sp.scope p
small-form-slots (small_call e) at sp p low = call-slots e at sp.scope p

pub small-slots : (x : Option SmallTree) (sp : Spot) (p : ℕ) → sp.at_top ≡ false → slot_count (small_code x sp p) ≡ small_slots x
small-slots None sp p low = refl
small-slots (Some x) sp p low = small-form-slots x.form x.at sp p low

local-with-low : (v : Option Variable) (sp : Spot) → (local_with sp v).at_top ≡ sp.at_top
local-with-low None sp = refl
local-with-low (Some v) sp = refl

pub small-low : (x : Option SmallTree) (sp : Spot) → (behind_small x sp).at_top ≡ sp.at_top
small-low x sp = local-with-low (declared_by_small x) sp

small-form-next : (x : SmallFormTree) (sp : Spot) → (behind_small_form x sp).next ≡ sp.next + small_form_slots x
small-form-next (small_declare t x e) sp = refl
small-form-next (small_infer x e) sp = refl
small-form-next _ sp = omega arith

pub small-next : (x : Option SmallTree) (sp : Spot) → (behind_small x sp).next ≡ sp.next + small_slots x
small-next None sp = omega arith
small-next (Some x) sp = small-form-next x.form sp

pub condition-slots : (c : Option Tree) (at : At) (sc : Scope) (p : ℕ) → slot_count (condition_code c at sc p) ≡ 0
condition-slots None at sc p = refl
condition-slots (Some e) at sc p = expr-no-slots e sc p []

-- Statements

mutual
  pub stmt-slots : (s : StmtTree) (sp : Spot) (n p : ℕ) → sp.at_top ≡ false → slot_count (stmt_code s sp n p) ≡ slots s
  stmt-slots (stmt at f) sp n p low = form-stmt-slots f at sp n p low

  pub form-stmt-slots : (f : StmtFormTree) (at : At) (sp : Spot) (n p : ℕ) → sp.at_top ≡ false → slot_count (form_stmt_code f at sp n p) ≡ form_slots f
  form-stmt-slots (line l) at sp n p low = let a = line-slots l at sp n p in let b = line-takes l sp low in omega (arith, a, b)
  form-stmt-slots (inner_block b) at sp n p low = block-slots b (inner sp) n p refl
  form-stmt-slots empty at sp n p low = refl
  form-stmt-slots (when c a no_stmt) at sp n p low =
      let right : ℕ = p + expr_size (look (known sp.scope)) c + 1 in
      let end : ℕ = right + stmt_size a (known sp.scope) in
      let e1 = expr-no-slots c sp.scope p [] in
      let e2 = stmt-slots a (inner sp) n right refl in
      let c1 = slot_counts (expr_code c sp.scope p []) (does (JumpUnless end) at ∷ (stmt_code a (inner sp) n right ++ (label [] ∷ []))) in
      let c2 = slot_counts (stmt_code a (inner sp) n right) (label [] ∷ []) in
      omega (arith, e1, e2, c1, c2)
  form-stmt-slots (when c a (a_stmt b)) at sp n p low =
      let right : ℕ = p + expr_size (look (known sp.scope)) c + 1 in
      let other : ℕ = right + stmt_size a (known sp.scope) + 1 in
      let end : ℕ = other + stmt_size b (known sp.scope) in
      let e1 = expr-no-slots c sp.scope p [] in
      let e2 = stmt-slots a (inner sp) n right refl in
      let e3 = stmt-slots b (behind_slots (inner sp) (slots a)) (n + pars a) other refl in
      let c1 = slot_counts (expr_code c sp.scope p []) (does (JumpUnless other) at ∷ (stmt_code a (inner sp) n right ++ (does (Jump end) at ∷ label [] ∷ (stmt_code b (behind_slots (inner sp) (slots a)) (n + pars a) other ++ (label [] ∷ []))))) in
      let c2 = slot_counts (stmt_code a (inner sp) n right) (does (Jump end) at ∷ label [] ∷ (stmt_code b (behind_slots (inner sp) (slots a)) (n + pars a) other ++ (label [] ∷ []))) in
      let c3 = slot_counts (stmt_code b (behind_slots (inner sp) (slots a)) (n + pars a) other) (label [] ∷ []) in
      omega (arith, e1, e2, e3, c1, c2, c3)
  form-stmt-slots (while c s) at sp n p low =
      let body : ℕ = p + 1 + expr_size (look (known sp.scope)) c + 1 in
      let end : ℕ = body + stmt_size s (known sp.scope) + 1 in
      let e1 = expr-no-slots c sp.scope (p + 1) [] in
      let e2 = stmt-slots s (in_loop sp p end) n body refl in
      let c1 = slot_counts (expr_code c sp.scope (p + 1) []) (does (JumpUnless end) at ∷ (stmt_code s (in_loop sp p end) n body ++ (does (Jump p) at ∷ label [] ∷ []))) in
      let c2 = slot_counts (stmt_code s (in_loop sp p end) n body) (does (Jump p) at ∷ label [] ∷ []) in
      omega (arith, e1, e2, c1, c2)
  form-stmt-slots (for first c next s) at sp n p low =
      let k : Known = known_behind_small first (known sp.scope) in
      let head : Spot = behind_small first (inner sp) in
      let top : ℕ = p + maybe_small_size (types_in sp.scope) first in
      let body : ℕ = top + 1 + condition_size (look k) c + 1 in
      let again : ℕ = body + stmt_size s k in
      let end : ℕ = again + maybe_small_size (look k) next + 1 in
      let m1 : List Mark = small_code first (inner sp) p in
      let m2 : List Mark = condition_code c at head.scope (top + 1) in
      let m3 : List Mark = stmt_code s (in_loop head again end) n body in
      let m4 : List Mark = small_code next (behind_slots head (slots s)) again in
      let r4 : List Mark = does (Jump top) at ∷ label [] ∷ [] in
      let r3 : List Mark = label [] ∷ (m4 ++ r4) in
      let r2 : List Mark = does (JumpUnless end) at ∷ (m3 ++ r3) in
      let e1 = small-slots first (inner sp) p refl in
      let e2 = condition-slots c at head.scope (top + 1) in
      let e3 = stmt-slots s (in_loop head again end) n body refl in
      let e4 = small-slots next (behind_slots head (slots s)) again (small-low first (inner sp)) in
      let c1 = slot_counts m1 (label [] ∷ does Tick at ∷ (m2 ++ r2)) in
      let c2 = slot_counts m2 r2 in
      let c3 = slot_counts m3 r3 in
      let c4 = slot_counts m4 r4 in
      omega (arith, e1, e2, e3, e4, c1, c2, c3, c4)
  form-stmt-slots (each t x e s) at sp n p low =
      let own : Spot = declared_local (behind_slots (inner sp) 2) x t in
      let top : ℕ = p + expr_size (types_in sp.scope) e + 3 in
      let body : ℕ = top + 10 in
      let again : ℕ = body + stmt_size s (known own.scope) in
      let end : ℕ = again + 3 in
      let m : List Mark = stmt_code s (in_loop own again end) n body in
      let last : List Mark = label [] ∷ does (PushInt (pos 1)) at ∷ does (Update false (sp.next + 1) [] 1) at ∷ does (Jump top) at ∷ label [] ∷ [] in
      let e1 = expr-no-slots e sp.scope p [] in
      let e2 = stmt-slots s (in_loop own again end) n body refl in
      let rest : List Mark =
      slot (ty.List t) ∷ does (Store sp.next) at ∷ does (PushInt (pos 0)) at ∷ slot ty.Int ∷ does (Store (sp.next + 1)) at
      ∷ label [] ∷ does Tick at ∷ does (Load (sp.next + 1)) at ∷ does (Load sp.next) at ∷ does (CallMethod 17) at ∷ does Less at ∷ does (JumpUnless end) at
      ∷ does (Load sp.next) at ∷ does (Load (sp.next + 1)) at ∷ does Item at ∷ slot t ∷ does (Store (sp.next + 2)) at ∷ (m ++ last) in
      let c1 = slot_counts (expr_code e sp.scope p []) rest in
      let c2 = slot_counts m last in
      omega (arith, e1, e2, c1, c2)
  form-stmt-slots (switch e cs) at sp n p low =
      let k : Known = known sp.scope in
      let tests : ℕ = p + expr_size (types_in sp.scope) e + 1 in
      let cases : ℕ = tests + labels_size (types_in sp.scope) cs + 1 in
      let end : ℕ = cases + cases_size cs k in
      let m1 : List Mark = labels_code cs at sp.scope sp.next tests cases in
      let m2 : List Mark = cases_code cs (in_switch sp end) n cases in
      let rest : List Mark = does (Jump (default_place cs k cases)) at ∷ (m2 ++ (label [] ∷ [])) in
      let e1 = expr-no-slots e sp.scope p [] in
      let e2 = labels-slots cs at sp tests cases in
      let e3 = all-cases-slots cs (in_switch sp end) n cases refl in
      let c1 = slot_counts (expr_code e sp.scope p []) (slot (type_of e) ∷ does (Store sp.next) at ∷ (m1 ++ rest)) in
      let c2 = slot_counts m1 rest in
      let c3 = slot_counts m2 (label [] ∷ []) in
      omega (arith, e1, e2, e3, c1, c2, c3)

  pub labels-slots : (cs : CaseTrees) (at : At) (sp : Spot) (p case : ℕ) → slot_count (labels_code cs at sp.scope sp.next p case) ≡ 0
  labels-slots no_cases at sp p case = refl
  labels-slots (more_cases c cs) at sp p case =
      let q : ℕ = p + label_size (types_in sp.scope) c in
      let r : ℕ = case + case_size c (known sp.scope) in
      no_slots (label_code c at sp.scope sp.next p case) (labels_code cs at sp.scope sp.next q r) (label-slots c at sp p case) (labels-slots cs at sp q r)

  label-slots : (c : CaseTree) (at : At) (sp : Spot) (p case : ℕ) → slot_count (label_code c at sp.scope sp.next p case) ≡ 0
  label-slots (a_case place None ss) at sp p case = refl
  label-slots (a_case place (Some e) ss) at sp p case =
      no_slots (expr_code e sp.scope p []) (does (Load sp.next) at ∷ does Equal at ∷ does (JumpUnless (p + (expr_size (types_in sp.scope) e + 4))) at ∷ does (Jump case) at ∷ label [] ∷ []) (expr-no-slots e sp.scope p []) refl

  all-cases-slots : (cs : CaseTrees) (sp : Spot) (n p : ℕ) → sp.at_top ≡ false → slot_count (cases_code cs sp n p) ≡ cases_slots cs
  all-cases-slots no_cases sp n p low = refl
  all-cases-slots (more_cases c cs) sp n p low =
      let q : ℕ = p + case_size c (known sp.scope) in
      let e1 = case-slots c sp n p low in
      let e2 = all-cases-slots cs (behind_slots sp (case_slots c)) (n + case_pars c) q low in
      let c1 = slot_counts (case_code c sp n p) (cases_code cs (behind_slots sp (case_slots c)) (n + case_pars c) q) in
      omega (arith, e1, e2, c1)

  pub case-slots : (c : CaseTree) (sp : Spot) (n p : ℕ) → sp.at_top ≡ false → slot_count (case_code c sp n p) ≡ case_slots c
  case-slots (a_case place l ss) sp n p low = stmts-slots ss sp n p low

  pub block-slots : (b : BlockTree) (sp : Spot) (n p : ℕ) → sp.at_top ≡ false → slot_count (block_code b sp n p) ≡ block_slots b
  block-slots (block at ss) sp n p low = stmts-slots ss sp n p low

  stmts-slots : (ss : StmtTrees) (sp : Spot) (n p : ℕ) → sp.at_top ≡ false → slot_count (stmts_code ss sp n p) ≡ stmts_slots ss
  stmts-slots no_stmts sp n p low = refl
  stmts-slots (more_stmts s ss) sp n p low =
      let q : ℕ = p + stmt_size s (known sp.scope) in
      let e1 = stmt-slots s sp n p low in
      let e2 = stmts-slots ss (behind s sp) (n + pars s) q (behind-low s sp low) in
      let c = slot_counts (stmt_code s sp n p) (stmts_code ss (behind s sp) (n + pars s) q) in
      omega (arith, e1, e2, c)
