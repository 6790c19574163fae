-- The code of places, options, commands and acts is of such marks.
use Rattle.std.proofs.Common.{◌≡◌, ◌≤◌, ◌+◌, ℕ, suc, List, [], ◌∷◌, ◌++◌, length, map, Option, Some, None, Bool, true, false, refl, sym, ◌∙◌, ap, arith, rules}
use Rattle.std.specs.Prelude.{pos, codes, ⊤}
use Rattle.std.specs.List.{AllByRecursion}
use Rattle.bds_value.specs.declared.value.At.{At}
use Rattle.bds_value.specs.declared.value.Ty.{Ty}
use Rattle.bds_value.specs.declared.value.Ty.TheVariants as ty
use Rattle.bds_tree.specs.declared.stmt.Body.{Body}
use Rattle.bds_tree.specs.declared.stmt.Command.{Command}
use Rattle.bds_tree.specs.Tree.{Tree, FormTree, node, number, text, truth, name, call, group, list, mapping, item, key, method, prefix, binary, choice, dependency}
use Rattle.bds_tree.specs.StmtTree.{SuffixTree, at_index, at_key, PlaceTree, StepTree, step_after, step_before, SettingFormTree, setting_named, setting_plain, SettingTree, RightTree, ActFormTree, right_expr, right_act, act, sys, task, dep, goal, par_call, par_block}
use Rattle.bds_code.specs.declared.instr.Instr.{Instr}
use Rattle.bds_code.specs.declared.instr.Instr.TheVariants.{PushBool, PushInt, PushText, PushDefault, Load, Store, Concat, Jump, JumpUnless, NewTask, Declare, Sys, Goal, Spawn}
use Rattle.bds_code.specs.UpdateRows.{step_ty}
use Rattle.bds_verify.specs.Whole.{is_value_ty}
use Rattle.bds_check_names.specs.declared.names.Names.{Names}
use Rattle.bds_check_names.specs.declared.names.Seen.{Seen}
use Rattle.bds_check_names.specs.declared.names.Asked.{Asked}
use Rattle.bds_check_names.specs.declared.names.Asked.TheVariants.{Value}
use Rattle.bds_check_names.specs.Scopes.{function_named}
use Rattle.bds_check_rules.specs.StmtBreaks.{commands_of, any_dependency, right_type, none_seen}
use Rattle.bds_check_typing.specs.Walk.{parameters_of}
use Rattle.bds_check_typing.specs.WellTyped.{IsWellTyped}
use Rattle.bds_check_typing.specs.WellTypedParts.{IsWellTypedSuffix, AreWellTypedSuffixes, IsWellTypedStep, IsWellTypedSettingForm, AreWellTypedSettings}
use Rattle.bds_check_typing.specs.WellTypedStmts.{IsWellTypedRight, IsWellTypedActForm}
use Rattle.bds_check_typing.specs.Known.{IsValueWritten, IsSuffixWritten, IsPlaceWritten, IsStepWritten, IsSettingFormWritten, AreSettingsWritten, IsRightWritten, IsActFormWritten}
use Rattle.bds_check_typing.specs.Proper.{IsInFile, IsProperExpr, IsProperForm, IsProperSuffix, IsProperPlace, IsProperStep, IsProperSettingForm, IsProperSetting, IsProperBody, IsProperRight, IsProperActForm}
use Rattle.bds_check_typing.specs.Texts.{AreShortPieces}
use Rattle.bds_check_typing.proofs.Written.{void-unknown, written-known}
use Rattle.bds_check_size.specs.ExprSize.{expr_size, files_size}
use Rattle.bds_check_size.specs.Parts.{parts_of}
use Rattle.bds_check_size.specs.StmtSize.{suffix_size, suffixes_size, commands_size, setting_size, settings_size, has_option, has_condition, defaults_size}
use Rattle.bds_gen_expr.specs.declared.scope.Numbered.{Numbered}
use Rattle.bds_gen_expr.specs.declared.scope.Scope.{Scope}
use Rattle.bds_gen_expr.specs.Marks.{Mark, does, label, count, one}
use Rattle.bds_gen_expr.specs.Numbers.{visible_locals}
use Rattle.bds_gen_expr.specs.Scope.{types_in, function_number}
use Rattle.bds_gen_expr.specs.ExprCode.{pieces_code, expr_code, trees_code, files_code}
use Rattle.bds_gen_expr.proofs.Counts.{expr-count}
use Rattle.bds_gen_stmt.specs.Spots.{Spot}
use Rattle.bds_gen_stmt.specs.PlaceCode.{kind_of, kinds_of, suffix_code, suffixes_code, steps_below, changes_place, step_number, step_code}
use Rattle.bds_gen_stmt.specs.TaskCode.{outs_slot, ins_slot, needed_slot, option_slot, set_unless, defaults_code, joining_code, asks_date, plain_form_code, setting_code, settings_code, further_commands, commands_code, make_code, task_behind, task_code}
use Rattle.bds_gen_stmt.specs.StmtCode.{right_code, act_form_code, loads_code}
use Rattle.bds_gen_stmt.proofs.ActCounts.{suffix-count, suffixes-count, files-count, setting-count, settings-count}
use Rattle.bds_gen_stmt.proofs.WholeCounts.{defaults-count}
use Rattle.bds_gen_stmt.proofs.Wholes.{IsWholeInstr, AreValueTys, AreWhole, whole-at, whole-then, int-value, text-value, texts-value}
use Rattle.bds_gen_stmt.proofs.ExprTypes.{HasTypes, HasFormTypes, type-value, expr-types, arguments-types}
use Rattle.bds_gen_stmt.proofs.ShortParts.{parts-short}
use Rattle.bds_gen_stmt.proofs.ExprWhole.{size-positive, parts-whole, expr-whole, trees-whole, files-whole}

-- The steps of a place

pub step-value : (k : Bool) → is_value_ty (step_ty k) ≡ true
step-value false = int-value
step-value true = text-value

pub below-values : (ks : List Bool) (s : List Ty) → AreValueTys s → AreValueTys (steps_below ks s)
below-values [] s v = v
below-values (k ∷ ks) s v = below-values ks (step_ty k ∷ s) (step-value k, v)

pub below-many : (ks : List Bool) (s : List Ty) → length (steps_below ks s) ≡ length ks + length s
below-many [] s = omega arith
below-many (k ∷ ks) s = let e : length (steps_below ks (step_ty k ∷ s)) ≡ length ks + suc (length s) = below-many ks (step_ty k ∷ s) in omega (arith, e)

suffix-positive : (types : List ℕ → Option Ty) (x : SuffixTree) → 1 ≤ suffix_size types x
suffix-positive types (at_index e) = size-positive types e
suffix-positive types (at_key e) = size-positive types e

suffixes-many : (types : List ℕ → Option Ty) (xs : List SuffixTree) → length (map kind_of xs) ≤ suffixes_size types xs
suffixes-many types [] = omega arith
suffixes-many types (x ∷ xs) = let a = suffix-positive types x in let b = suffixes-many types xs in omega (arith, a, b)

pub place-many : (sc : Scope) (q : PlaceTree) (p : ℕ) → length (steps_below (kinds_of q) []) ≤ p + suffixes_size (types_in sc) q.suffixes
place-many sc q p = let a = below-many (kinds_of q) [] in let b = suffixes-many (types_in sc) q.suffixes in omega (arith, a, b)

module _ (files : ℕ) where
  abbrev W : List Mark → ℕ → Type 0
  W = AreWhole files

  pub value-whole : (e : Tree) (names : Names) (asked : Asked) (sc : Scope) (p : ℕ) (s : List Ty) → IsProperExpr files e → IsWellTyped e names asked → IsValueWritten e → AreValueTys s → length s ≤ p → W (expr_code e sc p s) p
  value-whole e names asked sc p s i w k v l = expr-whole files e sc p s i (expr-types e names asked w k) v l

  suffix-whole : (x : SuffixTree) (names : Names) (sc : Scope) (p : ℕ) (s : List Ty) → IsProperSuffix files x → IsWellTypedSuffix x names → IsSuffixWritten x → AreValueTys s → length s ≤ p → W (suffix_code x sc p s) p
  suffix-whole (at_index e) names sc p s i w k v l = value-whole e names Value sc p s i w k v l
  suffix-whole (at_key e) names sc p s i w k v l = value-whole e names Value sc p s i w k v l

  suffixes-whole : (xs : List SuffixTree) (names : Names) (sc : Scope) (p : ℕ) (s : List Ty) → AllByRecursion (IsProperSuffix files) xs → AreWellTypedSuffixes xs names → AllByRecursion IsSuffixWritten xs → AreValueTys s → length s ≤ p → W (suffixes_code xs sc p s) p
  suffixes-whole [] names sc p s i w k v l = tt
  suffixes-whole (x ∷ xs) names sc p s i w k v l =
      let q : ℕ = p + suffix_size (types_in sc) x in
      let most = suffix-positive (types_in sc) x in
      whole-then files (suffix_code x sc p s) (suffixes_code xs sc q (step_ty (kind_of x) ∷ s)) p q (ap (λ n. p + n) (suffix-count x sc p s)) (suffix-whole x names sc p s i.0 w.0 k.0 v l)
      (suffixes-whole xs names sc q (step_ty (kind_of x) ∷ s) i.1 w.1 k.1 (step-value (kind_of x), v) (omega (arith, l, most)))

  -- a place, an operand and the change
  pub place-whole : (q : PlaceTree) (right : List Mark) (names : Names) (sc : Scope) (at : At) (what p : ℕ) → IsInFile files at → IsProperPlace files q → AreWellTypedSuffixes q.suffixes names → IsPlaceWritten q → W right (p + suffixes_size (types_in sc) q.suffixes)
      → W (suffixes_code q.suffixes sc p [] ++ (right ++ changes_place sc at q.name (kinds_of q) what)) p
  place-whole q right names sc at what p i pr w k r =
      let mid : ℕ = p + suffixes_size (types_in sc) q.suffixes in
      let many = suffixes-many (types_in sc) q.suffixes in
      let last : List Mark = changes_place sc at q.name (kinds_of q) what in
      whole-then files (suffixes_code q.suffixes sc p []) (right ++ last) p mid (ap (λ n. p + n) (suffixes-count q.suffixes sc p [])) (suffixes-whole q.suffixes names sc p [] pr.2 w k tt (omega arith))
      (whole-then files right last mid (mid + count right) refl r (omega (arith, many), i, tt))

  pub step-whole : (x : StepTree) (names : Names) (sc : Scope) (at : At) (p : ℕ) → IsInFile files at → IsProperStep files x → IsWellTypedStep x names → IsStepWritten x → W (step_code x at sc p) p
  step-whole (step_after q o) names sc at p i pr w k = place-whole q (one at (PushInt (pos 1))) names sc at (step_number o) p i pr w.0 k (tt, i, tt)
  step-whole (step_before o q) names sc at p i pr w k = place-whole q (one at (PushInt (pos 1))) names sc at (step_number o) p i pr w.0 k (tt, i, tt)

  -- Options

  unless-whole : (there : Bool) (at : At) (push : Instr) (n p : ℕ) → IsInFile files at → IsWholeInstr push p → W (set_unless there at push n) p
  unless-whole true at push n p i h = tt
  unless-whole false at push n p i h = (h, i, (tt, i, tt))

  defaults-whole : (os : List SettingTree) (at : At) (first p : ℕ) → IsInFile files at → W (defaults_code os at first) p
  defaults-whole os at first p i =
      let d : Bool = any_dependency os in
      let a : List Mark = set_unless d at (PushDefault (ty.List ty.Text)) (outs_slot first) in
      let b : List Mark = set_unless d at (PushDefault (ty.List ty.Text)) (ins_slot first) in
      let c : List Mark = set_unless (has_option (codes "cpus") os) at (PushInt (pos 1)) (first + 2) in
      let e : List Mark = set_unless (has_option (codes "canFail") os) at (PushBool false) (first + 3) in
      let f : List Mark = set_unless (has_option (codes "retry") os) at (PushInt (pos 0)) (first + 4) in
      let g : List Mark = set_unless (has_option (codes "taskName") os) at (PushText []) (first + 5) in
      let q1 : ℕ = p + count a in
      let q2 : ℕ = q1 + count b in
      let q3 : ℕ = q2 + count c in
      let q4 : ℕ = q3 + count e in
      let q5 : ℕ = q4 + count f in
      whole-then files a (b ++ (c ++ (e ++ (f ++ g)))) p q1 refl (unless-whole d at (PushDefault (ty.List ty.Text)) (outs_slot first) p i texts-value)
      (whole-then files b (c ++ (e ++ (f ++ g))) q1 q2 refl (unless-whole d at (PushDefault (ty.List ty.Text)) (ins_slot first) q1 i texts-value)
      (whole-then files c (e ++ (f ++ g)) q2 q3 refl (unless-whole (has_option (codes "cpus") os) at (PushInt (pos 1)) (first + 2) q2 i tt)
      (whole-then files e (f ++ g) q3 q4 refl (unless-whole (has_option (codes "canFail") os) at (PushBool false) (first + 3) q3 i tt)
      (whole-then files f g q4 q5 refl (unless-whole (has_option (codes "retry") os) at (PushInt (pos 0)) (first + 4) q4 i tt)
      (unless-whole (has_option (codes "taskName") os) at (PushText []) (first + 5) q5 i (omega arith))))))

  joining-whole : (at : At) (first from : ℕ) (s : List Ty) (p : ℕ) → IsInFile files at → AreValueTys s → length s ≤ p → W (joining_code at first from s) p
  joining-whole at first from s p i v l = (tt, i, (tt, i, (v, omega (arith, l), (tt, i, (tt, i, (v, omega (arith, l), tt))))))

  asks-whole : (d : Bool) (at : At) (first from : ℕ) (s : List Ty) (p : ℕ) → IsInFile files at → AreValueTys s → length s ≤ p → W (asks_date d at first from s) p
  asks-whole true at first from s p i v l = tt
  asks-whole false at first from s p i v l = (tt, i, (tt, i, (tt, i, joining-whole at first (from + 3) s (suc (suc (suc p))) i v (omega (arith, l)))))

  plain-whole : (d : Bool) (e : Tree) (f : FormTree) (t : Ty) (at : At) (sc : Scope) (first p : ℕ) (s : List Ty) → IsInFile files at → IsProperExpr files e → HasTypes e → IsProperForm files f → HasFormTypes f t → AreValueTys s → length s ≤ p
      → W (plain_form_code d e f at sc first p s) p
  plain-whole d e f t at sc first p s i pe he pf hf v l = by f pf hf
    where
      condition : W (expr_code e sc p s ++ joining_code at first (p + expr_size (types_in sc) e) s) p
      condition =
          let q : ℕ = p + expr_size (types_in sc) e in
          whole-then files (expr_code e sc p s) (joining_code at first q s) p q (ap (λ n. p + n) (expr-count e sc p s)) (expr-whole files e sc p s pe he v l) (joining-whole at first q s q i v (omega (arith, l)))

      by : (f : FormTree) → IsProperForm files f → HasFormTypes f t → W (plain_form_code d e f at sc first p s) p
      by (dependency a b) pf hf =
          let z : ℕ = p + files_size (types_in sc) a in
          let right : ℕ = z + 1 in
          let y : ℕ = right + files_size (types_in sc) b in
          let last : List Mark = does (Store (ins_slot first)) at ∷ asks_date d at first (y + 1) s in
          let rest : List Mark = files_code b at sc right s ++ last in
          let behind : W rest right =
          whole-then files (files_code b at sc right s) last right y (ap (λ n. right + n) (files-count b at sc right s)) (files-whole files b at sc right s i pf.1 hf.1 v (omega (arith, l))) (tt, i, asks-whole d at first (y + 1) s (suc y) i v (omega (arith, l))) in
          whole-then files (files_code a at sc p s) (does (Store (outs_slot first)) at ∷ rest) p z (ap (λ n. p + n) (files-count a at sc p s)) (files-whole files a at sc p s i pf.0 hf.0 v l)
          (tt, i, whole-at files rest right (suc z) (omega arith) behind)
      by (number x) pf hf = condition
      by (text x) pf hf = condition
      by (truth x) pf hf = condition
      by (name x) pf hf = condition
      by (call x es) pf hf = condition
      by (group x) pf hf = condition
      by (list es) pf hf = condition
      by (mapping ps) pf hf = condition
      by (item a x) pf hf = condition
      by (key a x) pf hf = condition
      by (method a m es) pf hf = condition
      by (prefix o a) pf hf = condition
      by (binary a o b) pf hf = condition
      by (choice c a b) pf hf = condition

  setting-whole : (d : Bool) (f : SettingFormTree) (names : Names) (at : At) (sc : Scope) (first p : ℕ) (s : List Ty) → IsInFile files at → IsProperSettingForm files f → IsWellTypedSettingForm f names → IsSettingFormWritten f → AreValueTys s → length s ≤ p
      → W (setting_code d f at sc first p s) p
  setting-whole d (setting_named x e) names at sc first p s i pr w k v l =
      whole-then files (expr_code e sc p s) (one at (Store (option_slot x first))) p (p + count (expr_code e sc p s)) refl (value-whole e names Value sc p s pr.1 w k v l) (tt, i, tt)
  setting-whole d (setting_plain (node place t f)) names at sc first p s i pr w k v l =
      let h = expr-types (node place t f) names Value w k in
      plain-whole d (node place t f) f t at sc first p s i pr h pr.1 h.1 v l

  pub settings-whole : (d typed : Bool) (xs : List SettingTree) (names : Names) (seen : Seen) (sc : Scope) (first p : ℕ) (s : List Ty) → AllByRecursion (IsProperSetting files) xs → AreWellTypedSettings xs names typed seen → AreSettingsWritten xs → AreValueTys s → length s ≤ p
      → W (settings_code d xs sc first p s) p
  settings-whole d typed [] names seen sc first p s pr w k v l = tt
  settings-whole d typed (x ∷ xs) names seen sc first p s pr w k v l =
      let q : ℕ = p + setting_size (types_in sc) d x.form in
      whole-then files (setting_code d x.form x.at sc first p s) (settings_code d xs sc first q s) p q (ap (λ n. p + n) (setting-count d x.form x.at sc first p s)) (setting-whole d x.form names x.at sc first p s pr.0.0 pr.0.1 w.0.0 k.0 v l)
      (settings-whole d typed xs names _ sc first q s pr.1 w.1 k.1 v (omega (arith, l)))

  -- Commands

  further-whole : (cs : List Command) (sc : Scope) (at : At) (p : ℕ) → IsInFile files at → AllByRecursion (λ c. IsInFile files c.at × AreShortPieces c.text) cs → W (further_commands cs sc at) p
  further-whole [] sc at p i h = tt
  further-whole (c ∷ cs) sc at p i h =
      let q : ℕ = suc (suc p) + count (pieces_code sc c.at c.text) in
      (omega arith, i, (tt, i, whole-then files (pieces_code sc c.at c.text) (does Concat at ∷ further_commands cs sc at) (suc (suc p)) q refl (parts-whole files sc c.at (parts_of (types_in sc) c.text) (suc (suc p)) h.0.0 (parts-short (types_in sc) c.text h.0.1)) (tt, i, further-whole cs sc at (suc q) i h.1)))

  commands-whole : (cs : List Command) (sc : Scope) (at : At) (p : ℕ) → IsInFile files at → AllByRecursion (λ c. IsInFile files c.at × AreShortPieces c.text) cs → W (commands_code cs sc at) p
  commands-whole [] sc at p i h = tt
  commands-whole (c ∷ cs) sc at p i h =
      let q : ℕ = p + count (pieces_code sc c.at c.text) in
      whole-then files (pieces_code sc c.at c.text) (further_commands cs sc at) p q refl (parts-whole files sc c.at (parts_of (types_in sc) c.text) p h.0.0 (parts-short (types_in sc) c.text h.0.1)) (further-whole cs sc at q i h.1)

  make-whole : (x : Instr) (b : Body) (at : At) (sc : Scope) (first p : ℕ) → IsInFile files at → IsProperBody files b → ((q : ℕ) → IsWholeInstr x q) → W (make_code x b at sc first) p
  make-whole x b at sc first p i h whole =
      let cs : List Command = commands_of b in
      let q : ℕ = suc (suc (suc (suc (suc (suc p))))) in
      let z : ℕ = q + count (commands_code cs sc at) in
      (tt, i, (tt, i, (tt, i, (tt, i, (tt, i, (tt, i, whole-then files (commands_code cs sc at) (one at x) q z refl (commands-whole cs sc at q i h) (whole z, i, tt)))))))

  -- Tasks

  behind-whole : (c : Bool) (os : List SettingTree) (b : Body) (names : Names) (at : At) (sc : Scope) (first p : ℕ) (s : List Ty) → IsInFile files at → AllByRecursion (IsProperSetting files) os → IsProperBody files b → AreWellTypedSettings os names false none_seen
      → AreSettingsWritten os → AreValueTys s → length s ≤ p → W (task_behind c os b at sc first p s) p
  behind-whole false os b names at sc first p s i po pb w k v l =
      let q : ℕ = p + count (settings_code false os sc first p s) in
      whole-then files (settings_code false os sc first p s) (make_code NewTask b at sc first) p q refl (settings-whole false false os names none_seen sc first p s po w k v l) (make-whole NewTask b at sc first q i pb (λ q. tt))
  behind-whole true os b names at sc first p s i po pb w k v l =
      let from : ℕ = p + 2 in
      let behind : ℕ = p + 2 + settings_size (types_in sc) false os in
      let other : ℕ = behind + 2 + 6 + commands_size (types_in sc) (commands_of b) + 1 + 1 in
      let z : ℕ = suc (suc behind) + count (make_code NewTask b at sc first) in
      let last : List Mark = does (Jump (other + 1)) at ∷ label s ∷ does (PushText []) at ∷ label (ty.Text ∷ s) ∷ [] in
      let made : W (make_code NewTask b at sc first ++ last) (suc (suc behind)) =
      whole-then files (make_code NewTask b at sc first) last (suc (suc behind)) z refl (make-whole NewTask b at sc first (suc (suc behind)) i pb (λ q. tt)) (tt, i, (v, omega (arith, l), (omega arith, i, ((text-value, v), omega (arith, l), tt)))) in
      let tested : List Mark = does (Load (needed_slot first)) at ∷ does (JumpUnless other) at ∷ (make_code NewTask b at sc first ++ last) in
      let rest : W (settings_code false os sc first from s ++ tested) from =
      whole-then files (settings_code false os sc first from s) tested from behind (ap (λ n. from + n) (settings-count false os sc first from s)) (settings-whole false false os names none_seen sc first from s po w k v (omega (arith, l))) (tt, i, (tt, i, made)) in
      (tt, i, (tt, i, whole-at files (settings_code false os sc first from s ++ tested) from (suc (suc p)) (omega arith) rest))

  task-whole : (os : List SettingTree) (b : Body) (names : Names) (at : At) (sc : Scope) (first p : ℕ) (s : List Ty) → IsInFile files at → AllByRecursion (IsProperSetting files) os → IsProperBody files b → AreWellTypedSettings os names false none_seen → AreSettingsWritten os
      → AreValueTys s → length s ≤ p → W (task_code os b at sc first p s) p
  task-whole os b names at sc first p s i po pb w k v l =
      let q : ℕ = p + defaults_size os in
      whole-then files (defaults_code os at first) (task_behind (has_condition os) os b at sc first q s) p q (ap (λ n. p + n) (defaults-count os at first)) (defaults-whole os at first p i) (behind-whole (has_condition os) os b names at sc first q s i po pb w k v (omega (arith, l)))

  -- Acts

  loads-whole : (ls : List Numbered) (at : At) (p : ℕ) → IsInFile files at → W (loads_code at ls) p
  loads-whole [] at p i = tt
  loads-whole (x ∷ ls) at p i = (tt, i, loads-whole ls at (suc p) i)

  pub act-form-whole : (f : ActFormTree) (names : Names) (at : At) (sp : Spot) (n p : ℕ) (s : List Ty) → IsInFile files at → IsProperActForm files f → IsWellTypedActForm f names → IsActFormWritten f → AreValueTys s → length s ≤ p → W (act_form_code f at sp n p s) p
  act-form-whole (sys ps) names at sp n p s i pr w k v l =
      whole-then files (pieces_code sp.scope at ps) (one at Sys) p (p + count (pieces_code sp.scope at ps)) refl (parts-whole files sp.scope at (parts_of (types_in sp.scope) ps) p i (parts-short (types_in sp.scope) ps pr)) (tt, i, tt)
  act-form-whole (task None b) names at sp n p s i pr w k v l = task-whole [] b names at sp.scope sp.first p s i tt pr.1 tt tt v l
  act-form-whole (task (Some os) b) names at sp n p s i pr w k v l = task-whole os b names at sp.scope sp.first p s i pr.0 pr.1 w.0 k v l
  act-form-whole (dep os b) names at sp n p s i pr w k v l =
      let q : ℕ = p + defaults_size os in
      let z : ℕ = q + count (settings_code true os sp.scope sp.first q s) in
      whole-then files (defaults_code os at sp.first) (settings_code true os sp.scope sp.first q s ++ make_code Declare b at sp.scope sp.first) p q (ap (λ n. p + n) (defaults-count os at sp.first)) (defaults-whole os at sp.first p i)
      (whole-then files (settings_code true os sp.scope sp.first q s) (make_code Declare b at sp.scope sp.first) q z refl (settings-whole true true os names none_seen sp.scope sp.first q s pr.0 w.0 k v (omega (arith, l))) (make-whole Declare b at sp.scope sp.first z i pr.1 (λ q. tt)))
  act-form-whole (goal e) names at sp n p s i pr w k v l =
      whole-then files (files_code e at sp.scope p s) (one at Goal) p (p + count (files_code e at sp.scope p s)) refl (files-whole files e at sp.scope p s i pr (expr-types e names Value w k) v l) (tt, i, tt)
  act-form-whole (par_call f es) names at sp n p s i pr w k v l =
      whole-then files (trees_code es sp.scope p s) (one at (Spawn (function_number sp.scope f))) p (p + count (trees_code es sp.scope p s)) refl
      (trees-whole files es sp.scope p s pr.1 (arguments-types es names (parameters_of (function_named f names.functions)) w k) v l) (tt, i, tt)
  act-form-whole (par_block b) names at sp n p s i pr w k v l =
      let ls : List Numbered = visible_locals sp.scope.locals in
      whole-then files (loads_code at ls) (one at _) p (p + count (loads_code at ls)) refl (loads-whole ls at p i) (tt, i, tt)

  pub right-whole : (r : RightTree) (names : Names) (asked : Asked) (sp : Spot) (n p : ℕ) (s : List Ty) → IsProperRight files r → IsWellTypedRight r names asked → IsRightWritten r → AreValueTys s → length s ≤ p → W (right_code r sp n p s) p
  right-whole (right_expr e) names asked sp n p s i w k v l = value-whole e names asked sp.scope p s i w k v l
  right-whole (right_act (act at f)) names asked sp n p s i w k v l = act-form-whole f names at sp n p s i.0 i.1 w.0 k.1 v l

pub right-value : (r : RightTree) (names : Names) (asked : Asked) → IsWellTypedRight r names asked → IsRightWritten r → is_value_ty (right_type r) ≡ true
right-value (right_expr e) names asked w k = type-value e (expr-types e names asked w k)
right-value (right_act (act at (sys ps))) names asked w k = text-value
right-value (right_act (act at (task os b))) names asked w k = text-value
right-value (right_act (act at (dep os b))) names asked w k = let known = written-known ty.Void k.0 in absurd (search (rules, sym void-unknown ∙ known))
right-value (right_act (act at (goal e))) names asked w k = texts-value
right-value (right_act (act at (par_call f es))) names asked w k = text-value
right-value (right_act (act at (par_block b))) names asked w k = text-value
