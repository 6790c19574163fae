-- Tasks and rules: what is written in order is what their marks write.
use Rattle.std.proofs.Common.{◌≡◌, ◌+◌, ℕ, Bool, true, false, List, [], ◌∷◌, ◌++◌, length, length-append, reverse, refl, ◌∙◌, ap, ap₂, arith}
use Rattle.bds_value.specs.declared.value.At.{At}
use Rattle.bds_value.specs.declared.value.Ty.{Ty}
use Rattle.bds_value.specs.declared.value.Ty.TheVariants as ty
use Rattle.bds_tree.specs.StmtTree.{SettingFormTree, setting_named, setting_plain, SettingTree}
use Rattle.bds_tree.specs.Tree.{Tree, FormTree, node, dependency, type_of}
use Rattle.bds_tree.specs.declared.stmt.Body.{Body}
use Rattle.bds_code.specs.declared.instr.Instr.{Instr}
use Rattle.bds_code.specs.declared.instr.Instr.TheVariants.{PushBool, PushText, Load, Store, Jump, JumpUnless, NewTask, Declare}
use Rattle.bds_code.specs.declared.unit.Function.{Function}
use Rattle.bds_check_rules.specs.StmtBreaks.{commands_of}
use Rattle.bds_check_size.specs.ExprSize.{expr_size, files_size}
use Rattle.bds_check_size.specs.StmtSize.{setting_size, settings_size, commands_size, has_condition, defaults_size}
use Rattle.bds_gen_expr.specs.declared.scope.Scope.{Scope}
use Rattle.bds_gen_expr.specs.ExprCode.{expr_code, files_code, listing}
use Rattle.bds_gen_expr.specs.Gen.{act, begin_other, end_at, gen}
use Rattle.bds_gen_expr.specs.Marks.{Mark, does, label, one, written}
use Rattle.bds_gen_expr.specs.Scope.{types_in}
use Rattle.bds_gen_expr.proofs.GenLaws.{Wrote, gen-is, choice-wrote, other-place}
use Rattle.bds_gen_stmt.specs.TaskCode.{outs_slot, ins_slot, needed_slot, option_slot, joining_code, asks_date, defaults_code, plain_form_code, setting_code, settings_code, make_code, task_behind, task_code}
use Rattle.bds_gen_stmt.proofs.ActCounts.{files-count, setting-count, settings-count, make-count}
use Rattle.bds_gen_stmt.proofs.WholeCounts.{defaults-count}
use Rattle.bds_gen_stmt_code.specs.GenTasks.{gen_files, joined, asked_date, gen_plain, gen_setting, gen_settings, gen_needed, gen_behind, gen_task, gen_rule}
use Rattle.bds_gen_stmt_code.proofs.Then.{then_is, place-is, gen-place}

pub files-are : (e : Tree) (at : At) (sc : Scope) (shape : List Ty) (g : Function) (p : ℕ) (s : List Ty) → length g.code ≡ p → reverse shape ≡ s → gen_files e at sc shape g ≡ written g (files_code e at sc p s)
files-are e at sc shape g p s h r = then_is g (gen e sc shape g) (gen_files e at sc shape g) (expr_code e sc p s) (listing at (type_of e)) (gen-is e sc shape g p s h r) refl

files-place : (e : Tree) (at : At) (sc : Scope) (shape : List Ty) (g : Function) (p : ℕ) (s : List Ty) → length g.code ≡ p → reverse shape ≡ s → length (gen_files e at sc shape g).code ≡ p + files_size (types_in sc) e
files-place e at sc shape g p s h r = place-is g (gen_files e at sc shape g) (files_code e at sc p s) p (files_size (types_in sc) e) (files-are e at sc shape g p s h r) h (files-count e at sc p s)

act-place : (g : Function) (at : At) (i : Instr) (p : ℕ) → length g.code ≡ p → length (act g at i).code ≡ p + 1
act-place g at i p h = let l = length-append g.code (i ∷ []) in omega (arith, l, h)

-- Options

dependency-is : (d : Bool) (e a b : Tree) (at : At) (sc : Scope) (first : ℕ) (shape : List Ty) (g : Function) (p : ℕ) (s : List Ty) → length g.code ≡ p → reverse shape ≡ s
    → gen_plain d e (dependency a b) at sc first shape g ≡ written g (plain_form_code d e (dependency a b) at sc first p s)
dependency-is d e a b at sc first shape g p s h r =
    let q : ℕ = p + files_size (types_in sc) a in
    let right : ℕ = q + 1 in
    let z : ℕ = right + files_size (types_in sc) b in
    let f1 : Function = gen_files a at sc shape g in
    let f2 : Function = act f1 at (Store (outs_slot first)) in
    let f3 : Function = gen_files b at sc shape f2 in
    let f4 : Function = act f3 at (Store (ins_slot first)) in
    let f5 : Function = asked_date d at first shape f4 in
    let h2 = act-place f1 at (Store (outs_slot first)) q (files-place a at sc shape g p s h r) in
    let h4 = act-place f3 at (Store (ins_slot first)) z (files-place b at sc shape f2 right s h2 r) in
    let last : f5 ≡ written f4 (asks_date d at first (z + 1) s) = ap₂ (λ (n : ℕ) (l : List Ty). written f4 (asks_date d at first n l)) h4 r in
    let m4 : List Mark = one at (Store (ins_slot first)) ++ asks_date d at first (z + 1) s in
    let m3 : List Mark = files_code b at sc right s ++ m4 in
    let m2 : List Mark = one at (Store (outs_slot first)) ++ m3 in
    then_is g f1 f5 (files_code a at sc p s) m2 (files-are a at sc shape g p s h r)
    (then_is f1 f2 f5 (one at (Store (outs_slot first))) m3 refl
    (then_is f2 f3 f5 (files_code b at sc right s) m4 (files-are b at sc shape f2 right s h2 r)
    (then_is f3 f4 f5 (one at (Store (ins_slot first))) (asks_date d at first (z + 1) s) refl last)))

condition-is : (e : Tree) (at : At) (sc : Scope) (first : ℕ) (shape : List Ty) (g : Function) (p : ℕ) (s : List Ty) → length g.code ≡ p → reverse shape ≡ s
    → joined at first shape (gen e sc shape g) ≡ written g (expr_code e sc p s ++ joining_code at first (p + expr_size (types_in sc) e) s)
condition-is e at sc first shape g p s h r =
    let f : Function = gen e sc shape g in
    then_is g f (joined at first shape f) (expr_code e sc p s) (joining_code at first (p + expr_size (types_in sc) e) s) (gen-is e sc shape g p s h r)
    (ap₂ (λ (n : ℕ) (l : List Ty). written f (joining_code at first n l)) (gen-place e sc shape g p s h r) r)

plain-is : (d : Bool) (e : Tree) (f : FormTree) (at : At) (sc : Scope) (first : ℕ) (shape : List Ty) (g : Function) (p : ℕ) (s : List Ty) → length g.code ≡ p → reverse shape ≡ s
    → gen_plain d e f at sc first shape g ≡ written g (plain_form_code d e f at sc first p s)
plain-is d e (dependency a b) at sc first shape g p s h r = dependency-is d e a b at sc first shape g p s h r
plain-is d e _ at sc first shape g p s h r = condition-is e at sc first shape g p s h r

setting-is : (d : Bool) (f : SettingFormTree) (at : At) (sc : Scope) (first : ℕ) (shape : List Ty) (g : Function) (p : ℕ) (s : List Ty) → length g.code ≡ p → reverse shape ≡ s
    → gen_setting d f at sc first shape g ≡ written g (setting_code d f at sc first p s)
setting-is d (setting_named x e) at sc first shape g p s h r =
    then_is g (gen e sc shape g) (gen_setting d (setting_named x e) at sc first shape g) (expr_code e sc p s) (one at (Store (option_slot x first))) (gen-is e sc shape g p s h r) refl
setting-is d (setting_plain (node place t f)) at sc first shape g p s h r = plain-is d (node place t f) f at sc first shape g p s h r

settings-are : (d : Bool) (xs : List SettingTree) (sc : Scope) (first : ℕ) (shape : List Ty) (g : Function) (p : ℕ) (s : List Ty) → length g.code ≡ p → reverse shape ≡ s
    → gen_settings d xs sc first shape g ≡ written g (settings_code d xs sc first p s)
settings-are d [] sc first shape g p s h r = refl
settings-are d (x ∷ xs) sc first shape g p s h r =
    let f : Function = gen_setting d x.form x.at sc first shape g in
    let q : ℕ = p + setting_size (types_in sc) d x.form in
    let is = setting-is d x.form x.at sc first shape g p s h r in
    let place = place-is g f (setting_code d x.form x.at sc first p s) p (setting_size (types_in sc) d x.form) is h (setting-count d x.form x.at sc first p s) in
    then_is g f (gen_settings d xs sc first shape f) (setting_code d x.form x.at sc first p s) (settings_code d xs sc first q s) is (settings-are d xs sc first shape f q s place r)

settings-place : (d : Bool) (xs : List SettingTree) (sc : Scope) (first : ℕ) (shape : List Ty) (g : Function) (p : ℕ) (s : List Ty) → length g.code ≡ p → reverse shape ≡ s → length (gen_settings d xs sc first shape g).code ≡ p + settings_size (types_in sc) d xs
settings-place d xs sc first shape g p s h r =
    place-is g (gen_settings d xs sc first shape g) (settings_code d xs sc first p s) p (settings_size (types_in sc) d xs) (settings-are d xs sc first shape g p s h r) h (settings-count d xs sc first p s)

-- Tasks and rules

needed-is : (os : List SettingTree) (b : Body) (at : At) (sc : Scope) (first : ℕ) (shape : List Ty) (g : Function) (p : ℕ) (s : List Ty) → length g.code ≡ p → reverse shape ≡ s
    → gen_needed os b at sc first shape g ≡ written g (task_behind true os b at sc first p s)
needed-is os b at sc first shape g p s h r =
    let front : List Mark = does (PushBool true) at ∷ does (Store (needed_slot first)) at ∷ [] in
    let f1 : Function = written g front in
    let h1 : length f1.code ≡ p + 2 = place-is g f1 front p 2 refl h refl in
    let f2 : Function = gen_settings false os sc first shape f1 in
    let q : ℕ = p + 2 + settings_size (types_in sc) false os in
    let h2 = settings-place false os sc first shape f1 (p + 2) s h1 r in
    let test : Function = act f2 at (Load (needed_slot first)) in
    let h3 = act-place f2 at (Load (needed_slot first)) q h2 in
    let make : List Mark = make_code NewTask b at sc first in
    let way : Function = written (act test at (JumpUnless 0)) make in
    let right : ℕ = q + 1 + 1 in
    let h4 = act-place test at (JumpUnless 0) (q + 1) h3 in
    let size : ℕ = 6 + commands_size (types_in sc) (commands_of b) + 1 in
    let r2 : ℕ = right + size in
    let h5 = place-is (act test at (JumpUnless 0)) way make right size refl h4 (make-count NewTask b at sc first) in
    let other : ℕ = r2 + 1 in
    let g3 : Function = begin_other way (length test.code) at shape in
    let h6 : length g3.code ≡ other = other-place way (length test.code) at shape r2 other h5 refl in
    let g4 : Function = act g3 at (PushText []) in
    let end : ℕ = other + 1 in
    let h7 = act-place g3 at (PushText []) other h6 in
    let whole : Function = end_at g4 (length way.code) (shape ++ ty.Text ∷ []) in
    let said : ℕ = q + 2 + 6 + commands_size (types_in sc) (commands_of b) + 1 + 1 in
    let same : other ≡ said = omega arith in
    let w1 : Wrote (act test at (JumpUnless 0)) way make right r2 = record { is = refl; to = h5 } in
    let w2 : Wrote g3 g4 (one at (PushText [])) other end = record { is = refl; to = h7 } in
    let two = choice-wrote test way g4 at shape s ty.Text make (one at (PushText [])) (q + 1) right r2 other end 1 r refl refl refl h3 w1 (omega arith) w2 in
    let tail : ℕ → List Mark = λ n. does (JumpUnless n) at ∷ (make ++ (does (Jump (n + 1)) at ∷ label s ∷ does (PushText []) at ∷ label (ty.Text ∷ s) ∷ [])) in
    let last : whole ≡ written test (tail said) = two.is ∙ ap (λ n. written test (tail n)) same in
    let m2 : List Mark = one at (Load (needed_slot first)) ++ tail said in
    let m1 : List Mark = settings_code false os sc first (p + 2) s ++ m2 in
    then_is g f1 whole front m1 refl
    (then_is f1 f2 whole (settings_code false os sc first (p + 2) s) m2 (settings-are false os sc first shape f1 (p + 2) s h1 r)
    (then_is f2 test whole (one at (Load (needed_slot first))) (tail said) refl last))

behind-is : (c : Bool) (os : List SettingTree) (b : Body) (at : At) (sc : Scope) (first : ℕ) (shape : List Ty) (g : Function) (p : ℕ) (s : List Ty) → length g.code ≡ p → reverse shape ≡ s
    → gen_behind c os b at sc first shape g ≡ written g (task_behind c os b at sc first p s)
behind-is false os b at sc first shape g p s h r =
    let f : Function = gen_settings false os sc first shape g in
    then_is g f (written f (make_code NewTask b at sc first)) (settings_code false os sc first p s) (make_code NewTask b at sc first) (settings-are false os sc first shape g p s h r) refl
behind-is true os b at sc first shape g p s h r = needed-is os b at sc first shape g p s h r

pub task-is : (os : List SettingTree) (b : Body) (at : At) (sc : Scope) (first : ℕ) (shape : List Ty) (g : Function) (p : ℕ) (s : List Ty) → length g.code ≡ p → reverse shape ≡ s
    → gen_task os b at sc first shape g ≡ written g (task_code os b at sc first p s)
task-is os b at sc first shape g p s h r =
    let f : Function = written g (defaults_code os at first) in
    let place = place-is g f (defaults_code os at first) p (defaults_size os) refl h (defaults-count os at first) in
    then_is g f (gen_task os b at sc first shape g) (defaults_code os at first) (task_behind (has_condition os) os b at sc first (p + defaults_size os) s) refl
    (behind-is (has_condition os) os b at sc first shape f (p + defaults_size os) s place r)

pub rule-is : (os : List SettingTree) (b : Body) (at : At) (sc : Scope) (first : ℕ) (shape : List Ty) (g : Function) (p : ℕ) (s : List Ty) → length g.code ≡ p → reverse shape ≡ s
    → gen_rule os b at sc first shape g ≡ written g (defaults_code os at first ++ (settings_code true os sc first (p + defaults_size os) s ++ make_code Declare b at sc first))
rule-is os b at sc first shape g p s h r =
    let f : Function = written g (defaults_code os at first) in
    let place = place-is g f (defaults_code os at first) p (defaults_size os) refl h (defaults-count os at first) in
    let k : Function = gen_settings true os sc first shape f in
    then_is g f (gen_rule os b at sc first shape g) (defaults_code os at first) (settings_code true os sc first (p + defaults_size os) s ++ make_code Declare b at sc first) refl
    (then_is f k (gen_rule os b at sc first shape g) (settings_code true os sc first (p + defaults_size os) s) (make_code Declare b at sc first) (settings-are true os sc first shape f (p + defaults_size os) s place r) refl)
