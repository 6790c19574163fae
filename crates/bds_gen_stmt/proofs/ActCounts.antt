-- The number of instructions in the code of places, heads of loops and acts is their size.
use Rattle.std.proofs.Common.{◌≡◌, ◌+◌, ℕ, List, [], ◌∷◌, ◌++◌, Bool, true, false, refl, arith, if◌then◌else◌}
use Rattle.bds_value.specs.declared.value.At.{At}
use Rattle.bds_value.specs.declared.value.Ty.{Ty}
use Rattle.bds_value.specs.declared.value.Ty.TheVariants as ty
use Rattle.bds_tree.specs.declared.stmt.Body.{Body}
use Rattle.bds_tree.specs.declared.stmt.Command.{Command}
use Rattle.bds_tree.specs.Tree.{Tree, FormTree, node, item, key, dependency, type_of}
use Rattle.bds_tree.specs.StmtTree.{SuffixTree, at_index, at_key, SettingFormTree, setting_named, setting_plain, SettingTree}
use Rattle.bds_code.specs.declared.instr.Instr.{Instr}
use Rattle.bds_code.specs.declared.instr.Instr.TheVariants.{Store, Concat, NewTask, Jump, JumpUnless, Load, PushText}
use Rattle.bds_check_rules.specs.StmtBreaks.{commands_of}
use Rattle.bds_check_size.specs.Known.{look}
use Rattle.bds_check_size.specs.ExprSize.{listing_size, expr_size, files_size}
use Rattle.bds_check_size.specs.StmtSize.{suffix_size, suffixes_size, steps_size, form_steps_size, pieces_size, commands_size, further_commands_size, plain_form_size, setting_size, settings_size, unless_size}
use Rattle.bds_check_size.specs.Parts.{parts_of}
use Rattle.bds_gen_expr.specs.declared.scope.Scope.{Scope}
use Rattle.bds_gen_expr.specs.Marks.{Mark, does, label, count, one}
use Rattle.bds_gen_expr.specs.Scope.{known}
use Rattle.bds_gen_expr.specs.ExprCode.{pieces_code, listing, expr_code, files_code}
use Rattle.bds_gen_stmt.specs.PlaceCode.{kind_of, suffix_code, suffixes_code, steps_below, steps_code, form_steps_code, steps_of}
use Rattle.bds_code.specs.UpdateRows.{step_ty}
use Rattle.bds_gen_stmt.specs.TaskCode.{set_unless, joining_code, asks_date, plain_form_code, setting_code, settings_code, further_commands, commands_code, make_code, task_behind, outs_slot, ins_slot, needed_slot, option_slot}
use Rattle.bds_gen_expr.proofs.Counts.{counts, two, expr-count, listing-count, parts-count}

pub suffix-count : (x : SuffixTree) (sc : Scope) (p : ℕ) (s : List Ty) → count (suffix_code x sc p s) ≡ suffix_size (look (known sc)) x
suffix-count (at_index e) sc p s = expr-count e sc p s
suffix-count (at_key e) sc p s = expr-count e sc p s

pub suffixes-count : (xs : List SuffixTree) (sc : Scope) (p : ℕ) (s : List Ty) → count (suffixes_code xs sc p s) ≡ suffixes_size (look (known sc)) xs
suffixes-count [] sc p s = refl
suffixes-count (x ∷ xs) sc p s =
    two (suffix_code x sc p s) (suffixes_code xs sc (p + suffix_size (look (known sc)) x) (step_ty (kind_of x) ∷ s)) (suffix_size (look (known sc)) x) (suffixes_size (look (known sc)) xs) (suffix_size (look (known sc)) x + suffixes_size (look (known sc)) xs)
    (suffix-count x sc p s) (suffixes-count xs sc (p + suffix_size (look (known sc)) x) (step_ty (kind_of x) ∷ s)) refl

mutual
  pub steps-count : (e : Tree) (sc : Scope) (p : ℕ) (s : List Ty) → count (steps_code e sc p s) ≡ steps_size (look (known sc)) e
  steps-count (node at t f) sc p s = form-steps-count f sc p s

  form-steps-count : (f : FormTree) (sc : Scope) (p : ℕ) (s : List Ty) → count (form_steps_code f sc p s) ≡ form_steps_size (look (known sc)) f
  form-steps-count (item a i) sc p s =
      two (steps_code a sc p s) (expr_code i sc (p + steps_size (look (known sc)) a) (steps_below (steps_of a) s)) (steps_size (look (known sc)) a) (expr_size (look (known sc)) i) (steps_size (look (known sc)) a + expr_size (look (known sc)) i)
      (steps-count a sc p s) (expr-count i sc (p + steps_size (look (known sc)) a) (steps_below (steps_of a) s)) refl
  form-steps-count (key a i) sc p s =
      two (steps_code a sc p s) (expr_code i sc (p + steps_size (look (known sc)) a) (steps_below (steps_of a) s)) (steps_size (look (known sc)) a) (expr_size (look (known sc)) i) (steps_size (look (known sc)) a + expr_size (look (known sc)) i)
      (steps-count a sc p s) (expr-count i sc (p + steps_size (look (known sc)) a) (steps_below (steps_of a) s)) refl
  form-steps-count _ sc p s = refl

-- Options

joining-count : (at : At) (first p : ℕ) (s : List Ty) → count (joining_code at first p s) ≡ 4
joining-count at first p s = refl

pub asks-count : (d : Bool) (at : At) (first p : ℕ) (s : List Ty) → count (asks_date d at first p s) ≡ (if d then 0 else 3 + 4)
asks-count true at first p s = refl
asks-count false at first p s = refl

pub files-count : (e : Tree) (at : At) (sc : Scope) (p : ℕ) (s : List Ty) → count (files_code e at sc p s) ≡ files_size (look (known sc)) e
files-count e at sc p s = two (expr_code e sc p s) (listing at (type_of e)) (expr_size (look (known sc)) e) (listing_size (type_of e)) (expr_size (look (known sc)) e + listing_size (type_of e)) (expr-count e sc p s) (listing-count at (type_of e)) refl

condition-count : (e : Tree) (at : At) (sc : Scope) (first p : ℕ) (s : List Ty) → count (expr_code e sc p s ++ joining_code at first (p + expr_size (look (known sc)) e) s) ≡ expr_size (look (known sc)) e + 4
condition-count e at sc first p s = two (expr_code e sc p s) (joining_code at first (p + expr_size (look (known sc)) e) s) (expr_size (look (known sc)) e) 4 (expr_size (look (known sc)) e + 4) (expr-count e sc p s) refl refl

plain-count : (d : Bool) (e : Tree) (f : FormTree) (at : At) (sc : Scope) (first p : ℕ) (s : List Ty) → count (plain_form_code d e f at sc first p s) ≡ plain_form_size (look (known sc)) d e f
plain-count d e (dependency a b) at sc first p s =
    let right : ℕ = p + files_size (look (known sc)) a + 1 in
    let z : ℕ = right + files_size (look (known sc)) b + 1 in
    let e1 = files-count a at sc p s in
    let e2 = files-count b at sc right s in
    let e3 = asks-count d at first z s in
    let c1 = counts (files_code a at sc p s) (does (Store (outs_slot first)) at ∷ (files_code b at sc right s ++ (does (Store (ins_slot first)) at ∷ asks_date d at first z s))) in
    let c2 = counts (files_code b at sc right s) (does (Store (ins_slot first)) at ∷ asks_date d at first z s) in
    omega (arith, e1, e2, e3, c1, c2)
plain-count d e _ at sc first p s = condition-count e at sc first p s

pub setting-count : (d : Bool) (f : SettingFormTree) (at : At) (sc : Scope) (first p : ℕ) (s : List Ty) → count (setting_code d f at sc first p s) ≡ setting_size (look (known sc)) d f
setting-count d (setting_named x e) at sc first p s = two (expr_code e sc p s) (one at (Store (option_slot x first))) (expr_size (look (known sc)) e) 1 (expr_size (look (known sc)) e + 1) (expr-count e sc p s) refl refl
setting-count d (setting_plain (node place t f)) at sc first p s = plain-count d (node place t f) f at sc first p s

pub settings-count : (d : Bool) (xs : List SettingTree) (sc : Scope) (first p : ℕ) (s : List Ty) → count (settings_code d xs sc first p s) ≡ settings_size (look (known sc)) d xs
settings-count d [] sc first p s = refl
settings-count d (x ∷ xs) sc first p s =
    two (setting_code d x.form x.at sc first p s) (settings_code d xs sc first (p + setting_size (look (known sc)) d x.form) s) (setting_size (look (known sc)) d x.form) (settings_size (look (known sc)) d xs) (setting_size (look (known sc)) d x.form + settings_size (look (known sc)) d xs)
    (setting-count d x.form x.at sc first p s) (settings-count d xs sc first (p + setting_size (look (known sc)) d x.form) s) refl

pub unless-count : (there : Bool) (at : At) (push : Instr) (i : ℕ) → count (set_unless there at push i) ≡ unless_size there
unless-count true at push i = refl
unless-count false at push i = refl

further-count : (cs : List Command) (sc : Scope) (at : At) → count (further_commands cs sc at) ≡ further_commands_size (look (known sc)) cs
further-count [] sc at = refl
further-count (c ∷ cs) sc at =
    let e1 = parts-count sc c.at (parts_of (look (known sc)) c.text) in
    let e2 = further-count cs sc at in
    let c1 = counts (pieces_code sc c.at c.text) (does Concat at ∷ further_commands cs sc at) in
    omega (arith, e1, e2, c1)

pub commands-count : (cs : List Command) (sc : Scope) (at : At) → count (commands_code cs sc at) ≡ commands_size (look (known sc)) cs
commands-count [] sc at = refl
commands-count (c ∷ cs) sc at = two (pieces_code sc c.at c.text) (further_commands cs sc at) (pieces_size (look (known sc)) c.text) (further_commands_size (look (known sc)) cs) (pieces_size (look (known sc)) c.text + further_commands_size (look (known sc)) cs) (parts-count sc c.at (parts_of (look (known sc)) c.text)) (further-count cs sc at) refl

pub make-count : (i : Instr) (b : Body) (at : At) (sc : Scope) (first : ℕ) → count (make_code i b at sc first) ≡ 6 + commands_size (look (known sc)) (commands_of b) + 1
make-count i b at sc first =
    let e1 = commands-count (commands_of b) sc at in
    let c1 = counts (commands_code (commands_of b) sc at) (one at i) in
    omega (arith, e1, c1)

pub behind-count : (c : Bool) (os : List SettingTree) (b : Body) (at : At) (sc : Scope) (first p : ℕ) (s : List Ty) → count (task_behind c os b at sc first p s)
    ≡ (if c then 2 + settings_size (look (known sc)) false os + 2 + 6 + commands_size (look (known sc)) (commands_of b) + 1 + 1 + 1 else settings_size (look (known sc)) false os + 6 + commands_size (look (known sc)) (commands_of b) + 1)
behind-count false os b at sc first p s =
    let e1 = settings-count false os sc first p s in
    let e2 = make-count NewTask b at sc first in
    let c1 = counts (settings_code false os sc first p s) (make_code NewTask b at sc first) in
    omega (arith, e1, e2, c1)
behind-count true os b at sc first p s =
    let behind_place : ℕ = p + 2 + settings_size (look (known sc)) false os in
    let other : ℕ = behind_place + 2 + 6 + commands_size (look (known sc)) (commands_of b) + 1 + 1 in
    let last : List Mark = does (Jump (other + 1)) at ∷ label s ∷ does (PushText []) at ∷ label (ty.Text ∷ s) ∷ [] in
    let e1 = settings-count false os sc first (p + 2) s in
    let e2 = make-count NewTask b at sc first in
    let c1 = counts (settings_code false os sc first (p + 2) s) (does (Load (needed_slot first)) at ∷ does (JumpUnless other) at ∷ (make_code NewTask b at sc first ++ last)) in
    let c2 = counts (make_code NewTask b at sc first) last in
    omega (arith, e1, e2, c1, c2)
