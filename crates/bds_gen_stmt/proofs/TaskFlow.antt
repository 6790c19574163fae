-- Tasks and rules: the code of options and commands, and of what makes a task or a rule of them.
use Rattle.bds_gen_expr.specs.declared.scope.Numbered.{Numbered}
use Rattle.std.proofs.Common.{◌≡◌, ◌+◌, ℕ, suc, List, [], ◌∷◌, ◌++◌, reverse, Option, Some, None, Ok, Bool, true, false, ◌||◌, refl, sym, ◌∙◌, ap, subst, arith, if◌then◌else◌, rules, append_assoc}
use Rattle.std.specs.Prelude.{length, pos, codes}
use Rattle.std.specs.List.{list_any, AllByRecursion}
use Rattle.std.specs.Str.{bytes_eq}
use Rattle.bds_value.specs.declared.value.At.{At}
use Rattle.bds_value.specs.declared.value.Ty.{Ty}
use Rattle.bds_value.specs.declared.value.Ty.TheVariants as ty
use Rattle.bds_tree.specs.declared.stmt.Body.{Body}
use Rattle.bds_tree.specs.declared.stmt.Command.{Command}
use Rattle.bds_tree.specs.Tree.{Tree, FormTree, node, number, text, truth, name, call, group, list, mapping, item, key, method, prefix, binary, choice, dependency, type_of}
use Rattle.bds_tree.specs.StmtTree.{SettingFormTree, setting_named, setting_plain, SettingTree, task}
use Rattle.bds_check_rules.specs.Breaks.{breaks, dependency_rule}
use Rattle.bds_check_names.specs.Types.{lacks}
use Rattle.bds_code.specs.declared.instr.Instr.{Instr}
use Rattle.bds_code.specs.declared.instr.Instr.TheVariants.{Store, Load, Concat, PushText, PushInt, PushBool, PushDefault, Jump, JumpUnless, OutOfDate, NewTask, Declare}
use Rattle.bds_code.specs.declared.unit.Function.{Function}
use Rattle.bds_code.specs.declared.unit.Unit.{Unit as CodeUnit}
use Rattle.bds_value.specs.Results.{◌>>=◌}
use Rattle.bds_value.specs.Types.{is_void}
use Rattle.bds_code.specs.Operands.{giving}
use Rattle.bds_code.specs.Row.{row, slot_ty, task_parts}
use Rattle.bds_verify.specs.Verified.{goes_on, target}
use Rattle.bds_check_names.specs.declared.names.Names.{Names}
use Rattle.bds_check_names.specs.declared.names.Site.{Site}
use Rattle.bds_check_names.specs.declared.names.Seen.{Seen}
use Rattle.bds_check_names.specs.declared.names.Asked.TheVariants.{Value}
use Rattle.bds_check_rules.specs.declared.rules.Rule.TheVariants as rule
use Rattle.bds_check_names.specs.Types.{is_known, differ, is_files}
use Rattle.bds_check_names.specs.Scopes.{any_named}
use Rattle.bds_check_rules.specs.Pieces.{sys_rule}
use Rattle.bds_check_rules.specs.Typing.{type_at}
use Rattle.bds_check_rules.specs.StmtBreaks.{wrong_rule, option_type, named_rule, condition_rule, setting_breaks, seen_behind, none_seen, any_dependency, commands_of, is_empty_list, body_rule}
use Rattle.bds_check_typing.specs.WellTyped.{IsWellTyped, ArePartsWellTyped}
use Rattle.bds_check_typing.specs.WellTypedParts.{IsWellTypedSettingForm, AreWellTypedSettings, IsWellTypedBody}
use Rattle.bds_check_typing.specs.Known.{ArePartsWritten, IsValueWritten, IsSettingFormWritten, AreSettingsWritten, AreVariablesWritten}
use Rattle.bds_check_size.specs.Known.{look}
use Rattle.bds_check_size.specs.ExprSize.{expr_size, files_size}
use Rattle.bds_check_size.specs.StmtSize.{pieces_size, further_commands_size, commands_size, plain_form_size, setting_size, settings_size, has_option, has_condition, unless_size, defaults_size, task_size}
use Rattle.bds_gen_expr.specs.Marks.{Mark, does, label, one}
use Rattle.bds_gen_expr.specs.Numbers.{variables_of, visible_locals}
use Rattle.bds_gen_expr.specs.Scope.{known}
use Rattle.bds_gen_expr.specs.ExprCode.{expr_code, pieces_code, files_code}
use Rattle.bds_gen_stmt.specs.Spots.{Spot}
use Rattle.bds_gen_stmt.specs.TaskCode.{needed_slot, option_slot, set_unless, defaults_code, joining_code, asks_date, plain_form_code, setting_code, settings_code, further_commands, commands_code, make_code, task_behind, task_code}
use Rattle.bds_gen_stmt.specs.StmtCode.{loads_code}
use Rattle.bds_gen_stmt.specs.FunctionCode.{types_of}
use Rattle.bds_check_typing.proofs.Written.{written-known}
use Rattle.bds_gen_flow.proofs.RowEffects.{not_void, int-solid, bool-solid, text-solid, list-solid, given-is, given-none, swap_two, int-known, bool-known, text-known}
use Rattle.bds_gen_flow.specs.Flow.{Runs}
use Rattle.bds_gen_flow.proofs.Flow.{runs_then, runs_to, runs_none, runs_one, runs_does}
use Rattle.bds_gen_flow.proofs.Branches.{runs_choice}
use Rattle.bds_gen_flow.specs.Fits.{Fits}
use Rattle.bds_gen_flow.proofs.ExprParts.{AreSolid, all-taken, when-none, or-none, or-deep-none}
use Rattle.bds_gen_stmt.proofs.Matched.{Matches, fits-of, AreInSlots}
use Rattle.bds_gen_stmt.proofs.PlaceFlow.{as-run, files-run, load-slot, no-rule, one-store, pieces-run, store-slot, wrong-is, step-below}

module _ (u : CodeUnit) (F : Function) (Labels : ℕ → List Ty → Type 0) (Ticks : ℕ → Type 0) (names : Names) (site : Site) (sp : Spot) (m : Matches u F names site sp) where
  abbrev Run : List Mark → ℕ → ℕ → List Ty → List Ty → Type 0
  Run = Runs u F Labels Ticks

  abbrev types : List ℕ → Option Ty
  types = look (known sp.scope)

  abbrev fits : Fits u F sp.scope names
  fits = fits-of u F names site sp m

  -- Options

  unless-run : (b : Bool) (push : Instr) (t : Ty) (i : ℕ) (at : At) (p : ℕ) (s : List Ty) → target push ≡ None → goes_on push ≡ true → row u F push s ≡ Ok (t ∷ s) → slot_ty F i ≡ Some t → is_void t ≡ false
      → Run (set_unless b at push i) p (p + unless_size b) s s
  unless-run true push t i at p s j g r h v = runs_to u F Labels Ticks [] p p (p + 0) s s (omega arith) (runs_none u F Labels Ticks p s)
  unless-run false push t i at p s j g r h v = runs_does u F Labels Ticks push at (one at (Store i)) p (p + 2) s (t ∷ s) s j g r (one-store u F Labels Ticks names site sp m i t at (p + 1) (p + 2) s (omega arith) h v)

  pub defaults-run : (os : List SettingTree) (at : At) (p : ℕ) (s : List Ty) → Run (defaults_code os at sp.first) p (p + defaults_size os) s s
  defaults-run os at p s =
      let first : ℕ = sp.first in
      let d : Bool = any_dependency os in
      let b3 : Bool = has_option (codes "cpus") os in
      let b4 : Bool = has_option (codes "canFail") os in
      let b5 : Bool = has_option (codes "retry") os in
      let b6 : Bool = has_option (codes "taskName") os in
      let none_there : Instr = PushDefault (ty.List ty.Text) in
      let m1 : List Mark = set_unless d at none_there first in
      let m2 : List Mark = set_unless d at none_there (first + 1) in
      let m3 : List Mark = set_unless b3 at (PushInt (pos 1)) (first + 2) in
      let m4 : List Mark = set_unless b4 at (PushBool false) (first + 3) in
      let m5 : List Mark = set_unless b5 at (PushInt (pos 0)) (first + 4) in
      let m6 : List Mark = set_unless b6 at (PushText []) (first + 5) in
      let p1 : ℕ = p + unless_size d in
      let p2 : ℕ = p1 + unless_size d in
      let p3 : ℕ = p2 + unless_size b3 in
      let p4 : ℕ = p3 + unless_size b4 in
      let p5 : ℕ = p4 + unless_size b5 in
      let p6 : ℕ = p5 + unless_size b6 in
      let lt : Ty = ty.List ty.Text in
      let lv = list-solid ty.Text in
      let r1 = unless-run d none_there lt first at p s refl refl (given-is lt s lv) m.tasks.outs lv in
      let r2 = unless-run d none_there lt (first + 1) at p1 s refl refl (given-is lt s lv) m.tasks.ins lv in
      let r3 = unless-run b3 (PushInt (pos 1)) ty.Int (first + 2) at p2 s refl refl (given-is ty.Int s int-solid) m.tasks.cpus int-solid in
      let r4 = unless-run b4 (PushBool false) ty.Bool (first + 3) at p3 s refl refl (given-is ty.Bool s bool-solid) m.tasks.can_fail bool-solid in
      let r5 = unless-run b5 (PushInt (pos 0)) ty.Int (first + 4) at p4 s refl refl (given-is ty.Int s int-solid) m.tasks.retry int-solid in
      let r6 = unless-run b6 (PushText []) ty.Text (first + 5) at p5 s refl refl (given-is ty.Text s text-solid) m.tasks.name text-solid in
      runs_to u F Labels Ticks (defaults_code os at first) p p6 (p + defaults_size os) s s (omega arith)
      (runs_then u F Labels Ticks m1 (m2 ++ (m3 ++ (m4 ++ (m5 ++ m6)))) p p1 p6 s s s r1
      (runs_then u F Labels Ticks m2 (m3 ++ (m4 ++ (m5 ++ m6))) p1 p2 p6 s s s r2
      (runs_then u F Labels Ticks m3 (m4 ++ (m5 ++ m6)) p2 p3 p6 s s s r3
      (runs_then u F Labels Ticks m4 (m5 ++ m6) p3 p4 p6 s s s r4
      (runs_then u F Labels Ticks m5 m6 p4 p5 p6 s s s r5 r6)))))

  -- a truth value, joined to what is needed
  joined-run : (test : List Mark) (at : At) (p q : ℕ) (s : List Ty) → Run test p q s (ty.Bool ∷ s) → Run (test ++ joining_code at sp.first q s) p (q + 4) s s
  joined-run test at p q s r =
      let clear : Run (does (PushBool false) at ∷ does (Store (needed_slot sp.first)) at ∷ []) (q + 2) (q + 4) s s =
      runs_does u F Labels Ticks (PushBool false) at (one at (Store (needed_slot sp.first))) (q + 2) (q + 4) s (ty.Bool ∷ s) s refl refl (given-is ty.Bool s bool-solid)
      (one-store u F Labels Ticks names site sp m (needed_slot sp.first) ty.Bool at (q + 2 + 1) (q + 4) s (omega arith) m.tasks.needed bool-solid) in
      runs_choice u F Labels Ticks at test [] (does (PushBool false) at ∷ does (Store (needed_slot sp.first)) at ∷ []) p q (q + 1) (q + 1) (q + 2) (q + 4) s s (omega arith) (omega arith) r (runs_none u F Labels Ticks (q + 1) s) clear

  asks-run : (d : Bool) (at : At) (p : ℕ) (s : List Ty) → Run (asks_date d at sp.first p s) p (p + (if d then 0 else 3 + 4)) s s
  asks-run true at p s = runs_to u F Labels Ticks [] p p (p + 0) s s (omega arith) (runs_none u F Labels Ticks p s)
  asks-run false at p s =
      let lt : Ty = ty.List ty.Text in
      let lv = list-solid ty.Text in
      let test : List Mark = does (Load sp.first) at ∷ does (Load (sp.first + 1)) at ∷ does OutOfDate at ∷ [] in
      let r : Run test p (p + 3) s (ty.Bool ∷ s) =
      load-slot u F Labels Ticks names site sp m sp.first lt at (does (Load (sp.first + 1)) at ∷ does OutOfDate at ∷ []) p (p + 3) s (ty.Bool ∷ s) m.tasks.outs lv
      (load-slot u F Labels Ticks names site sp m (sp.first + 1) lt at (does OutOfDate at ∷ []) (p + 1) (p + 3) (lt ∷ s) (ty.Bool ∷ s) m.tasks.ins lv
      (runs_one u F Labels Ticks OutOfDate at (p + 1 + 1) (p + 3) (lt ∷ lt ∷ s) (ty.Bool ∷ s) (omega arith) refl refl (swap_two lt lt ty.Bool s lv lv bool-solid))) in
      runs_to u F Labels Ticks (test ++ joining_code at sp.first (p + 3) s) p (p + 3 + 4) (p + (3 + 4)) s s (omega arith) (joined-run test at p (p + 3) s r)

  condition-run : (d : Bool) (e : Tree) (at : At) (p : ℕ) (s : List Ty) → IsWellTyped e names Value → IsValueWritten e → condition_rule d (type_of e) ≡ None
      → Run (expr_code e sp.scope p s ++ joining_code at sp.first (p + expr_size types e) s) p (p + (expr_size types e + 4)) s s
  condition-run true e at p s w k b = absurd (search (rules, b))
  condition-run false e at p s w k b =
      let same : ty.Bool ≡ type_of e = wrong-is u F Labels Ticks names site sp m ty.Bool e bool-known k (no-rule u F Labels Ticks names site sp m (differ ty.Bool (type_of e)) rule.WrongType b) in
      runs_to u F Labels Ticks (expr_code e sp.scope p s ++ joining_code at sp.first (p + expr_size types e) s) p (p + expr_size types e + 4) (p + (expr_size types e + 4)) s s (omega arith)
      (joined-run (expr_code e sp.scope p s) at p (p + expr_size types e) s (as-run u F Labels Ticks names site sp m e ty.Bool p s same w k))

  typed-parts : (place : At) (t : Ty) (f : FormTree) → IsWellTyped (node place t f) names Value → ArePartsWellTyped f names Value
  typed-parts place t f w = w.2

  typed-breaks : (place : At) (t : Ty) (f : FormTree) → IsWellTyped (node place t f) names Value → (t ≡ type_at names Value f) × (breaks names Value f ≡ None)
  typed-breaks place t f w = (w.0, w.1)

  written-parts : (place : At) (t : Ty) (f : FormTree) → IsValueWritten (node place t f) → ArePartsWritten f
  written-parts place t f k = k.1

  -- both sides are files
  both-files : (a b : Tree) (t : Ty) → (t ≡ ty.Bool) × (breaks names Value (dependency a b) ≡ None) → (lacks (type_of a) (is_files (type_of a)) ≡ false) × (lacks (type_of b) (is_files (type_of b)) ≡ false)
  both-files a b t w =
      or-none (lacks (type_of a) (is_files (type_of a))) (lacks (type_of b) (is_files (type_of b)))
      (no-rule u F Labels Ticks names site sp m (lacks (type_of a) (is_files (type_of a)) || lacks (type_of b) (is_files (type_of b))) rule.WrongType (or-deep-none (dependency_rule (type_of a) (type_of b)) ty.Bool w.1))

  two-files-run : (d : Bool) (a b : Tree) (at : At) (p : ℕ) (s : List Ty) → IsWellTyped a names Value → IsWellTyped b names Value → IsValueWritten a → IsValueWritten b
      → lacks (type_of a) (is_files (type_of a)) ≡ false → lacks (type_of b) (is_files (type_of b)) ≡ false → (e : Tree)
      → Run (plain_form_code d e (dependency a b) at sp.scope sp.first p s) p (p + (files_size types a + 1 + (files_size types b + 1) + (if d then 0 else 3 + 4))) s s
  two-files-run d a b at p s wa wb ka kb la lb e =
      let lt : Ty = ty.List ty.Text in
      let lv = list-solid ty.Text in
      let q : ℕ = p + files_size types a in
      let right : ℕ = q + 1 in
      let r : ℕ = right + files_size types b in
      let z : ℕ = r + 1 in
      let last : ℕ = (if d then 0 else 3 + 4) in
      let end : ℕ = z + last in
      let rest2 : List Mark = does (Store (sp.first + 1)) at ∷ asks_date d at sp.first z s in
      let rest1 : List Mark = files_code b at sp.scope right s ++ rest2 in
      runs_to u F Labels Ticks (plain_form_code d e (dependency a b) at sp.scope sp.first p s) p end (p + (files_size types a + 1 + (files_size types b + 1) + last)) s s (omega arith)
      (runs_then u F Labels Ticks (files_code a at sp.scope p s) (does (Store sp.first) at ∷ rest1) p q end s (lt ∷ s) s (files-run u F Labels Ticks names site sp m a at p s wa ka la)
      (store-slot u F Labels Ticks names site sp m sp.first lt at rest1 q end s s m.tasks.outs lv
      (runs_then u F Labels Ticks (files_code b at sp.scope right s) rest2 right r end s (lt ∷ s) s (files-run u F Labels Ticks names site sp m b at right s wb kb lb)
      (store-slot u F Labels Ticks names site sp m (sp.first + 1) lt at (asks_date d at sp.first z s) r end s s m.tasks.ins lv (asks-run d at z s)))))

  plain-run : (d : Bool) (seen : Seen) (place : At) (t : Ty) (f : FormTree) (at : At) (p : ℕ) (s : List Ty) → IsWellTyped (node place t f) names Value → IsValueWritten (node place t f) → setting_breaks d seen (setting_plain (node place t f)) ≡ None
      → Run (plain_form_code d (node place t f) f at sp.scope sp.first p s) p (p + plain_form_size types d (node place t f) f) s s
  plain-run d seen place t (dependency a b) at p s w k q =
      let wp = typed-parts place t (dependency a b) w in
      let kp = written-parts place t (dependency a b) k in
      let l = both-files a b t (typed-breaks place t (dependency a b) w) in
      two-files-run d a b at p s wp.0 wp.1 kp.0 kp.1 l.0 l.1 (node place t (dependency a b))
  plain-run d seen place t (number v) at p s w k q = condition-run d (node place t (number v)) at p s w k q
  plain-run d seen place t (text v) at p s w k q = condition-run d (node place t (text v)) at p s w k q
  plain-run d seen place t (truth v) at p s w k q = condition-run d (node place t (truth v)) at p s w k q
  plain-run d seen place t (name v) at p s w k q = condition-run d (node place t (name v)) at p s w k q
  plain-run d seen place t (call g v) at p s w k q = condition-run d (node place t (call g v)) at p s w k q
  plain-run d seen place t (group v) at p s w k q = condition-run d (node place t (group v)) at p s w k q
  plain-run d seen place t (list v) at p s w k q = condition-run d (node place t (list v)) at p s w k q
  plain-run d seen place t (mapping v) at p s w k q = condition-run d (node place t (mapping v)) at p s w k q
  plain-run d seen place t (item a v) at p s w k q = condition-run d (node place t (item a v)) at p s w k q
  plain-run d seen place t (key a v) at p s w k q = condition-run d (node place t (key a v)) at p s w k q
  plain-run d seen place t (method a g v) at p s w k q = condition-run d (node place t (method a g v)) at p s w k q
  plain-run d seen place t (prefix o v) at p s w k q = condition-run d (node place t (prefix o v)) at p s w k q
  plain-run d seen place t (binary a o v) at p s w k q = condition-run d (node place t (binary a o v)) at p s w k q
  plain-run d seen place t (choice c a v) at p s w k q = condition-run d (node place t (choice c a v)) at p s w k q

  option-by : (a b c d : Bool) (t : Ty) → (if a then Some ty.Int else (if b then Some ty.Bool else (if c then Some ty.Int else (if d then Some ty.Text else None)))) ≡ Some t
      → (slot_ty F (if a then sp.first + 2 else (if b then sp.first + 3 else (if c then sp.first + 4 else sp.first + 5))) ≡ Some t) × (is_known t ≡ true)
  option-by true b c d t e = (m.tasks.cpus ∙ e, let same : ty.Int ≡ t = cc in subst (λ x. is_known x ≡ true) same int-known)
  option-by false true c d t e = (m.tasks.can_fail ∙ e, let same : ty.Bool ≡ t = cc in subst (λ x. is_known x ≡ true) same bool-known)
  option-by false false true d t e = (m.tasks.retry ∙ e, let same : ty.Int ≡ t = cc in subst (λ x. is_known x ≡ true) same int-known)
  option-by false false false true t e = (m.tasks.name ∙ e, let same : ty.Text ≡ t = cc in subst (λ x. is_known x ≡ true) same text-known)
  option-by false false false false t e = absurd (cc)

  named-run : (o : Option Ty) (twice : Bool) (x : List ℕ) (e : Tree) (at : At) (p : ℕ) (s : List Ty) → option_type x ≡ o → named_rule twice o (type_of e) ≡ None → IsWellTyped e names Value → IsValueWritten e
      → Run (expr_code e sp.scope p s ++ one at (Store (option_slot x sp.first))) p (p + (expr_size types e + 1)) s s
  named-run None twice x e at p s is q w k = absurd (search (rules, q))
  named-run (Some t) twice x e at p s is q w k =
      let q1 = (when-none twice rule.TwiceOption (wrong_rule t (type_of e)) q).1 in
      let there_is = option-by (bytes_eq x (codes "cpus")) (bytes_eq x (codes "canFail")) (bytes_eq x (codes "retry")) (bytes_eq x (codes "taskName")) t is in
      let same : t ≡ type_of e = wrong-is u F Labels Ticks names site sp m t e there_is.1 k (no-rule u F Labels Ticks names site sp m (differ t (type_of e)) rule.WrongType q1) in
      runs_then u F Labels Ticks (expr_code e sp.scope p s) (one at (Store (option_slot x sp.first))) p (p + expr_size types e) (p + (expr_size types e + 1)) s (t ∷ s) s (as-run u F Labels Ticks names site sp m e t p s same w k)
      (one-store u F Labels Ticks names site sp m (option_slot x sp.first) t at (p + expr_size types e) (p + (expr_size types e + 1)) s (omega arith) there_is.0 (not_void t there_is.1))

  setting-run : (d : Bool) (seen : Seen) (f : SettingFormTree) (at : At) (p : ℕ) (s : List Ty) → IsWellTypedSettingForm f names → IsSettingFormWritten f → setting_breaks d seen f ≡ None
      → Run (setting_code d f at sp.scope sp.first p s) p (p + setting_size types d f) s s
  setting-run d seen (setting_named x e) at p s w k q = named-run (option_type x) (list_any (λ y. bytes_eq y x) seen.names) x e at p s refl q w k
  setting-run d seen (setting_plain (node place t f)) at p s w k q = plain-run d seen place t f at p s w k q

  pub settings-run : (d : Bool) (xs : List SettingTree) (seen : Seen) (p : ℕ) (s : List Ty) → AreWellTypedSettings xs names d seen → AreSettingsWritten xs
      → Run (settings_code d xs sp.scope sp.first p s) p (p + settings_size types d xs) s s
  settings-run d [] seen p s w k = runs_to u F Labels Ticks [] p p (p + 0) s s (omega arith) (runs_none u F Labels Ticks p s)
  settings-run d (x ∷ xs) seen p s w k =
      let q : ℕ = p + setting_size types d x.form in
      let end : ℕ = p + (setting_size types d x.form + settings_size types d xs) in
      runs_then u F Labels Ticks (setting_code d x.form x.at sp.scope sp.first p s) (settings_code d xs sp.scope sp.first q s) p q end s s s (setting-run d seen x.form x.at p s w.0.0 k.0 w.0.1)
      (runs_to u F Labels Ticks (settings_code d xs sp.scope sp.first q s) q (q + settings_size types d xs) end s s (omega arith) (settings-run d xs (seen_behind seen x.form) q s w.1 k.1))

  -- Commands

  further-run : (cs : List Command) (at : At) (p : ℕ) (s : List Ty) → AllByRecursion (λ c. sys_rule names c.text ≡ None) cs → Run (further_commands cs sp.scope at) p (p + further_commands_size types cs) (ty.Text ∷ s) (ty.Text ∷ s)
  further-run [] at p s w = runs_to u F Labels Ticks [] p p (p + 0) (ty.Text ∷ s) (ty.Text ∷ s) (omega arith) (runs_none u F Labels Ticks p (ty.Text ∷ s))
  further-run (c ∷ cs) at p s w =
      let one_text : List Ty = ty.Text ∷ s in
      let two_texts : List Ty = ty.Text ∷ ty.Text ∷ s in
      let q : ℕ = p + 1 + 1 in
      let r : ℕ = q + pieces_size types c.text in
      let end : ℕ = p + (2 + pieces_size types c.text + 1 + further_commands_size types cs) in
      let joins = swap_two ty.Text ty.Text ty.Text s text-solid text-solid text-solid in
      let rest : List Mark = does Concat at ∷ further_commands cs sp.scope at in
      runs_does u F Labels Ticks (PushText (10 ∷ [])) at (does Concat at ∷ (pieces_code sp.scope c.at c.text ++ rest)) p end one_text two_texts one_text refl refl (given-is ty.Text one_text text-solid)
      (runs_does u F Labels Ticks Concat at (pieces_code sp.scope c.at c.text ++ rest) (p + 1) end two_texts one_text one_text refl refl joins
      (runs_then u F Labels Ticks (pieces_code sp.scope c.at c.text) rest q r end one_text two_texts one_text (pieces-run u F Labels Ticks names site sp m c.text c.at q one_text w.0)
      (runs_does u F Labels Ticks Concat at (further_commands cs sp.scope at) r end two_texts one_text one_text refl refl joins
      (runs_to u F Labels Ticks (further_commands cs sp.scope at) (r + 1) (r + 1 + further_commands_size types cs) end one_text one_text (omega arith) (further-run cs at (r + 1) s w.1)))))

  commands-run : (cs : List Command) (at : At) (p : ℕ) (s : List Ty) → is_empty_list cs ≡ false → AllByRecursion (λ c. sys_rule names c.text ≡ None) cs → Run (commands_code cs sp.scope at) p (p + commands_size types cs) s (ty.Text ∷ s)
  commands-run [] at p s e w = absurd (search (rules, e))
  commands-run (c ∷ cs) at p s e w =
      let q : ℕ = p + pieces_size types c.text in
      let end : ℕ = p + (pieces_size types c.text + further_commands_size types cs) in
      runs_then u F Labels Ticks (pieces_code sp.scope c.at c.text) (further_commands cs sp.scope at) p q end s (ty.Text ∷ s) (ty.Text ∷ s) (pieces-run u F Labels Ticks names site sp m c.text c.at p s w.0)
      (runs_to u F Labels Ticks (further_commands cs sp.scope at) q (q + further_commands_size types cs) end (ty.Text ∷ s) (ty.Text ∷ s) (omega arith) (further-run cs at q s w.1))

  parts-solid : AreSolid task_parts
  parts-solid = (text-solid, (text-solid, (int-solid, (bool-solid, (int-solid, (list-solid ty.Text, (list-solid ty.Text, tt)))))))

  -- what makes a task or a rule takes all that is loaded
  pub make-run : (i : Instr) (b : Body) (at : At) (p : ℕ) (s w : List Ty) → target i ≡ None → goes_on i ≡ true → row u F i (task_parts ++ s) ≡ Ok w → is_empty_list (commands_of b) ≡ false → IsWellTypedBody b names
      → Run (make_code i b at sp.scope sp.first) p (p + (6 + commands_size types (commands_of b) + 1)) s w
  make-run i b at p s w j g r e wb =
      let lt : Ty = ty.List ty.Text in
      let lv = list-solid ty.Text in
      let f : ℕ = sp.first in
      let end : ℕ = p + (6 + commands_size types (commands_of b) + 1) in
      let last : List Mark = commands_code (commands_of b) sp.scope at ++ one at i in
      let q : ℕ = p + 1 + 1 + 1 + 1 + 1 + 1 in
      let z : ℕ = q + commands_size types (commands_of b) in
      let s1 : List Ty = lt ∷ s in
      let s2 : List Ty = lt ∷ s1 in
      let s3 : List Ty = ty.Int ∷ s2 in
      let s4 : List Ty = ty.Bool ∷ s3 in
      let s5 : List Ty = ty.Int ∷ s4 in
      let s6 : List Ty = ty.Text ∷ s5 in
      let l6 : List Mark = does (Load (f + 5)) at ∷ last in
      let l5 : List Mark = does (Load (f + 4)) at ∷ l6 in
      let l4 : List Mark = does (Load (f + 3)) at ∷ l5 in
      let l3 : List Mark = does (Load (f + 2)) at ∷ l4 in
      let l2 : List Mark = does (Load (f + 1)) at ∷ l3 in
      load-slot u F Labels Ticks names site sp m f lt at l2 p end s w m.tasks.outs lv
      (load-slot u F Labels Ticks names site sp m (f + 1) lt at l3 (p + 1) end s1 w m.tasks.ins lv
      (load-slot u F Labels Ticks names site sp m (f + 2) ty.Int at l4 (p + 1 + 1) end s2 w m.tasks.cpus int-solid
      (load-slot u F Labels Ticks names site sp m (f + 3) ty.Bool at l5 (p + 1 + 1 + 1) end s3 w m.tasks.can_fail bool-solid
      (load-slot u F Labels Ticks names site sp m (f + 4) ty.Int at l6 (p + 1 + 1 + 1 + 1) end s4 w m.tasks.retry int-solid
      (load-slot u F Labels Ticks names site sp m (f + 5) ty.Text at last (p + 1 + 1 + 1 + 1 + 1) end s5 w m.tasks.name text-solid
      (runs_then u F Labels Ticks (commands_code (commands_of b) sp.scope at) (one at i) q z end s6 (ty.Text ∷ s6) w (commands-run (commands_of b) at q s6 e wb)
      (runs_one u F Labels Ticks i at z end (ty.Text ∷ s6) w (omega arith) j g r)))))))

  task-row : (s : List Ty) → row u F NewTask (task_parts ++ s) ≡ Ok (ty.Text ∷ s)
  task-row s = ap (λ r. r >>= giving ty.Text) (all-taken task_parts s parts-solid) ∙ given-is ty.Text s text-solid

  pub dep-row : (s : List Ty) → row u F Declare (task_parts ++ s) ≡ Ok s
  dep-row s = ap (λ r. r >>= giving ty.Void) (all-taken task_parts s parts-solid) ∙ given-none s

  behind-run : (c : Bool) (os : List SettingTree) (b : Body) (at : At) (p : ℕ) (s : List Ty) → AreWellTypedSettings os names false none_seen → AreSettingsWritten os → is_empty_list (commands_of b) ≡ false → IsWellTypedBody b names
      → Run (task_behind c os b at sp.scope sp.first p s) p (p + (if c then 2 + settings_size types false os + 2 + 6 + commands_size types (commands_of b) + 1 + 1 + 1 else settings_size types false os + 6 + commands_size types (commands_of b) + 1)) s (ty.Text ∷ s)
  behind-run false os b at p s w k e wb =
      let q : ℕ = p + settings_size types false os in
      let end : ℕ = p + (settings_size types false os + 6 + commands_size types (commands_of b) + 1) in
      runs_then u F Labels Ticks (settings_code false os sp.scope sp.first p s) (make_code NewTask b at sp.scope sp.first) p q end s s (ty.Text ∷ s) (settings-run false os none_seen p s w k)
      (runs_to u F Labels Ticks (make_code NewTask b at sp.scope sp.first) q (q + (6 + commands_size types (commands_of b) + 1)) end s (ty.Text ∷ s) (omega arith) (make-run NewTask b at q s (ty.Text ∷ s) refl refl (task-row s) e wb))
  behind-run true os b at p s w k e wb =
      let f : ℕ = sp.first in
      let settings : List Mark = settings_code false os sp.scope f (p + 2) s in
      let behind : ℕ = p + 2 + settings_size types false os in
      let other : ℕ = behind + 2 + 6 + commands_size types (commands_of b) + 1 + 1 in
      let end : ℕ = p + (2 + settings_size types false os + 2 + 6 + commands_size types (commands_of b) + 1 + 1 + 1) in
      let make : List Mark = make_code NewTask b at sp.scope f in
      let load : List Mark = does (Load (needed_slot f)) at ∷ [] in
      let rest : List Mark = does (JumpUnless other) at ∷ (make ++ (does (Jump (other + 1)) at ∷ label s ∷ does (PushText []) at ∷ label (ty.Text ∷ s) ∷ [])) in
      let test : List Mark = does (PushBool true) at ∷ does (Store (needed_slot f)) at ∷ (settings ++ load) in
      let q : ℕ = behind + 1 in
      let right : ℕ = q + 1 in
      let r : ℕ = right + (6 + commands_size types (commands_of b) + 1) in
      let first_two : p + 1 + 1 ≡ p + 2 = omega arith in
      let loaded : Run (settings ++ load) (p + 2) q s (ty.Bool ∷ s) =
      runs_then u F Labels Ticks settings load (p + 2) behind q s s (ty.Bool ∷ s) (settings-run false os none_seen (p + 2) s w k)
      (load-slot u F Labels Ticks names site sp m (needed_slot f) ty.Bool at [] behind q s (ty.Bool ∷ s) m.tasks.needed bool-solid (runs_none u F Labels Ticks q (ty.Bool ∷ s))) in
      let tested : Run test p q s (ty.Bool ∷ s) =
      runs_does u F Labels Ticks (PushBool true) at (does (Store (needed_slot f)) at ∷ (settings ++ load)) p q s (ty.Bool ∷ s) (ty.Bool ∷ s) refl refl (given-is ty.Bool s bool-solid)
      (store-slot u F Labels Ticks names site sp m (needed_slot f) ty.Bool at (settings ++ load) (p + 1) q s (ty.Bool ∷ s) m.tasks.needed bool-solid (subst (λ n. Run (settings ++ load) n q s (ty.Bool ∷ s)) (sym first_two) loaded)) in
      let made : Run make right r s (ty.Text ∷ s) = make-run NewTask b at right s (ty.Text ∷ s) refl refl (task-row s) e wb in
      let without : Run (one at (PushText [])) other (other + 1) s (ty.Text ∷ s) = runs_one u F Labels Ticks (PushText []) at other (other + 1) s (ty.Text ∷ s) refl refl refl (given-is ty.Text s text-solid) in
      let all_runs : Run (test ++ rest) p (other + 1) s (ty.Text ∷ s) =
      runs_choice u F Labels Ticks at test make (one at (PushText [])) p q right r other (other + 1) s (ty.Text ∷ s) (omega arith) (omega arith) tested made without in
      let order : test ++ rest ≡ task_behind true os b at sp.scope f p s = ap (λ ms. does (PushBool true) at ∷ does (Store (needed_slot f)) at ∷ ms) (append_assoc settings load rest) in
      runs_to u F Labels Ticks (task_behind true os b at sp.scope f p s) p (other + 1) end s (ty.Text ∷ s) (omega arith) (subst (λ ms. Run ms p (other + 1) s (ty.Text ∷ s)) order all_runs)

  pub task-run : (os : List SettingTree) (b : Body) (at : At) (p : ℕ) (s : List Ty) → AreWellTypedSettings os names false none_seen → AreSettingsWritten os → body_rule b None ≡ None → IsWellTypedBody b names
      → Run (task_code os b at sp.scope sp.first p s) p (p + task_size types os b) s (ty.Text ∷ s)
  task-run os b at p s w k q wb =
      let z : ℕ = p + defaults_size os in
      let n : ℕ = (if has_condition os then 2 + settings_size types false os + 2 + 6 + commands_size types (commands_of b) + 1 + 1 + 1 else settings_size types false os + 6 + commands_size types (commands_of b) + 1) in
      let end : ℕ = p + (defaults_size os + n) in
      let behind : List Mark = task_behind (has_condition os) os b at sp.scope sp.first z s in
      runs_then u F Labels Ticks (defaults_code os at sp.first) behind p z end s s (ty.Text ∷ s) (defaults-run os at p s)
      (runs_to u F Labels Ticks behind z (z + n) end s (ty.Text ∷ s) (omega arith) (behind-run (has_condition os) os b at z s w k (no-rule u F Labels Ticks names site sp m (is_empty_list (commands_of b)) rule.NoCommand q) wb))

  -- the variables that a `par` block sees

  pub loads-run : (ls : List Numbered) (at : At) (p : ℕ) (s : List Ty) → AreInSlots F ls → AreVariablesWritten (variables_of ls) → Run (loads_code at ls) p (p + length ls) s (reverse (types_of ls) ++ s)
  loads-run [] at p s h w = runs_to u F Labels Ticks [] p p (p + 0) s s (omega arith) (runs_none u F Labels Ticks p s)
  loads-run (l ∷ ls) at p s h w =
      let t : Ty = l.variable.ty in
      let end : ℕ = p + suc (length ls) in
      let rest = loads-run ls at (p + 1) (t ∷ s) h.1 w.1 in
      load-slot u F Labels Ticks names site sp m l.number t at (loads_code at ls) p end s (reverse (t ∷ types_of ls) ++ s) h.0 (not_void t (written-known t w.0))
      (subst (λ x. Run (loads_code at ls) (p + 1) end (t ∷ s) x) (step-below t (types_of ls) s) (runs_to u F Labels Ticks (loads_code at ls) (p + 1) (p + 1 + length ls) end (t ∷ s) (reverse (types_of ls) ++ (t ∷ s)) (omega arith) rest))

  pub visible-in : (ls : List Numbered) → AreInSlots F ls → AreInSlots F (visible_locals ls)
  visible-in [] h = tt
  visible-in (l ∷ ls) h = by_hidden (any_named l.variable.name (variables_of ls)) (visible-in ls h.1)
    where
      by_hidden : (b : Bool) → AreInSlots F (visible_locals ls) → AreInSlots F (if b then visible_locals ls else l ∷ visible_locals ls)
      by_hidden true k = k
      by_hidden false k = (h.0, k)

  pub types-solid : (ls : List Numbered) → AreVariablesWritten (variables_of ls) → AreSolid (types_of ls)
  types-solid [] h = tt
  types-solid (l ∷ ls) h = (not_void l.variable.ty (written-known l.variable.ty h.0), types-solid ls h.1)
