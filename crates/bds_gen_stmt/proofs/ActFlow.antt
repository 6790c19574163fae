-- Acts: the code of each leaves its value.
use Rattle.bds_check_names.specs.Slots.{visible}
use Rattle.bds_gen_expr.specs.declared.scope.Numbered.{Numbered}
use Rattle.bds_gen_stmt.proofs.Pars.{ActFormParsThere, RightParsThere, own-there, own-params, visible-count}
use Rattle.bds_gen_stmt.proofs.Loops.{quiet}
use Rattle.std.proofs.Common.{◌≡◌, ◌+◌, ℕ, List, [], ◌∷◌, ◌++◌, reverse, Option, Some, None, Ok, true, false, not, refl, sym, ◌∙◌, ap, subst, arith, rules}
use Rattle.std.specs.Prelude.{length}
use Rattle.bds_value.specs.declared.value.At.{At}
use Rattle.bds_value.specs.declared.value.Ty.{Ty}
use Rattle.bds_value.specs.declared.value.Ty.TheVariants as ty
use Rattle.bds_tree.specs.Tree.{type_of}
use Rattle.bds_tree.specs.StmtTree.{SettingTree, RightTree, ActFormTree, right_expr, right_act, act, sys, task, dep, goal, par_call, par_block}
use Rattle.bds_value.specs.Fields.{is_solid}
use Rattle.bds_check_names.specs.Types.{lacks}
use Rattle.bds_check_typing.specs.Walk.{parameters_of}
use Rattle.bds_code.specs.declared.instr.Instr.TheVariants.{Drop, Sys, Goal, Spawn, Declare}
use Rattle.bds_code.specs.declared.unit.Function.{Function}
use Rattle.bds_code.specs.declared.unit.Unit.{Unit as CodeUnit}
use Rattle.bds_value.specs.Results.{◌>>=◌}
use Rattle.bds_value.specs.Types.{is_void}
use Rattle.bds_code.specs.Operands.{there, giving, swapped}
use Rattle.bds_code.specs.Row.{row}
use Rattle.bds_check_names.specs.declared.names.Names.{Names}
use Rattle.bds_check_names.specs.declared.names.Site.{Site}
use Rattle.bds_check_names.specs.declared.names.Asked.{Asked}
use Rattle.bds_check_rules.specs.declared.rules.Rule.TheVariants as rule
use Rattle.bds_check_names.specs.Types.{is_known, is_files}
use Rattle.bds_check_names.specs.Scopes.{function_named, is_value}
use Rattle.bds_check_rules.specs.Pieces.{when as broken_if}
use Rattle.bds_check_rules.specs.StmtBreaks.{right_type, act_form_type, none_seen, any_dependency, commands_of, is_empty_list, body_rule, act_breaks}
use Rattle.bds_check_typing.specs.WellTypedParts.{AreWellTypedSettings, AreWellTypedMaybeSettings}
use Rattle.bds_check_typing.specs.WellTypedStmts.{IsWellTypedRight, IsWellTypedActForm}
use Rattle.bds_check_typing.specs.Known.{AreMaybeSettingsWritten, AreSettingsWritten, IsRightWritten, IsActFormWritten}
use Rattle.bds_check_size.specs.Known.{look}
use Rattle.bds_check_size.specs.ExprSize.{trees_size, files_size}
use Rattle.bds_check_size.specs.StmtSize.{pieces_size, commands_size, settings_size, defaults_size, maybe_settings, right_size, act_form_size, dropped_act_form_size}
use Rattle.bds_gen_expr.specs.Marks.{Mark, one}
use Rattle.bds_gen_expr.specs.Numbers.{variables_of, visible_locals}
use Rattle.bds_gen_expr.specs.Scope.{known}
use Rattle.bds_gen_expr.specs.ExprCode.{trees_code, pieces_code, files_code}
use Rattle.bds_gen_stmt.specs.Spots.{Spot}
use Rattle.bds_gen_stmt.specs.TaskCode.{defaults_code, settings_code, make_code}
use Rattle.bds_gen_stmt.specs.StmtCode.{right_code, act_form_code, dropped_form_code, loads_code, block_pars}
use Rattle.bds_gen_stmt.specs.FunctionCode.{types_of}
use Rattle.bds_check_typing.proofs.Written.{written-known, void-unknown}
use Rattle.bds_gen_flow.proofs.RowEffects.{text-solid, list-solid, any-is, given-is, swap_one}
use Rattle.bds_gen_flow.specs.Flow.{Runs}
use Rattle.bds_gen_flow.proofs.Flow.{runs_then, runs_to, runs_none, runs_one}
use Rattle.bds_gen_flow.specs.Fits.{Fits}
use Rattle.bds_gen_flow.proofs.ExprParts.{all-known, solid-reverse, all-taken, when-none, written-type}
use Rattle.bds_gen_flow.proofs.ExprFlow.{expr_runs, trees_runs}
use Rattle.bds_gen_stmt.proofs.Visible.{visible-written}
use Rattle.bds_gen_stmt.proofs.Matched.{Matches, fits-of}
use Rattle.bds_gen_stmt.proofs.PlaceFlow.{files-run, no-rule, pieces-run, spawn-run}
use Rattle.bds_gen_stmt.proofs.TaskFlow.{defaults-run, dep-row, loads-run, make-run, settings-run, task-run, types-solid, visible-in}

module _ (u : CodeUnit) (F : Function) (Labels : ℕ → List Ty → Type 0) (Ticks : ℕ → Type 0) (names : Names) (site : Site) (sp : Spot) (m : Matches u F names site sp) where
  abbrev Run : List Mark → ℕ → ℕ → List Ty → List Ty → Type 0
  Run = Runs u F Labels Ticks

  abbrev types : List ℕ → Option Ty
  types = look (known sp.scope)

  abbrev fits : Fits u F sp.scope names
  fits = fits-of u F names site sp m

  -- what an act leaves above what is there
  abbrev pub leaves : ActFormTree → List Ty → List Ty
  leaves (dep os b) s = s
  leaves (sys ps) s = ty.Text ∷ s
  leaves (task os b) s = ty.Text ∷ s
  leaves (goal e) s = ty.List ty.Text ∷ s
  leaves (par_call f es) s = ty.Text ∷ s
  leaves (par_block b) s = ty.Text ∷ s

  maybe-typed : (os : Option (List SettingTree)) → AreWellTypedMaybeSettings os names → AreWellTypedSettings (maybe_settings os) names false none_seen
  maybe-typed None w = tt
  maybe-typed (Some os) w = w

  maybe-written : (os : Option (List SettingTree)) → AreMaybeSettingsWritten os → AreSettingsWritten (maybe_settings os)
  maybe-written None w = tt
  maybe-written (Some os) w = w

  pub act-form-run : (f : ActFormTree) (asked : Asked) (at : At) (n p : ℕ) (s : List Ty) → IsWellTypedActForm f names → act_breaks names asked f ≡ None → IsActFormWritten f → ActFormParsThere u f sp n
      → Run (act_form_code f at sp n p s) p (p + act_form_size f (known sp.scope)) s (leaves f s)
  act-form-run (sys xs) asked at n p s w q k ps =
      let z : ℕ = p + pieces_size types xs in
      runs_then u F Labels Ticks (pieces_code sp.scope at xs) (one at Sys) p z (p + (pieces_size types xs + 1)) s (ty.Text ∷ s) (ty.Text ∷ s) (pieces-run u F Labels Ticks names site sp m xs at p s q)
      (runs_one u F Labels Ticks Sys at z (p + (pieces_size types xs + 1)) (ty.Text ∷ s) (ty.Text ∷ s) (omega arith) refl refl (swap_one ty.Text ty.Text s text-solid text-solid))
  act-form-run (task os b) asked at n p s w q k ps = task-run u F Labels Ticks names site sp m (maybe_settings os) b at p s (maybe-typed os w.0) (maybe-written os k) q w.1
  act-form-run (dep os b) asked at n p s w q k ps =
      let q1 = (when-none (not (any_dependency os)) rule.NoDep (body_rule b (broken_if (is_value asked) rule.VoidValue None)) q).1 in
      let e = (when-none (is_empty_list (commands_of b)) rule.NoCommand (broken_if (is_value asked) rule.VoidValue None) q1).0 in
      let z : ℕ = p + defaults_size os in
      let y : ℕ = z + settings_size types true os in
      let end : ℕ = p + (defaults_size os + settings_size types true os + 6 + commands_size types (commands_of b) + 1) in
      let make : List Mark = make_code Declare b at sp.scope sp.first in
      runs_then u F Labels Ticks (defaults_code os at sp.first) (settings_code true os sp.scope sp.first z s ++ make) p z end s s s (defaults-run u F Labels Ticks names site sp m os at p s)
      (runs_then u F Labels Ticks (settings_code true os sp.scope sp.first z s) make z y end s s s (settings-run u F Labels Ticks names site sp m true os none_seen z s w.0 k)
      (runs_to u F Labels Ticks make y (y + (6 + commands_size types (commands_of b) + 1)) end s s (omega arith) (make-run u F Labels Ticks names site sp m Declare b at y s s refl refl (dep-row u F Labels Ticks names site sp m s) e w.1)))
  act-form-run (goal e) asked at n p s w q k ps =
      let z : ℕ = p + files_size types e in
      let lt : Ty = ty.List ty.Text in
      runs_then u F Labels Ticks (files_code e at sp.scope p s) (one at Goal) p z (p + (files_size types e + 1)) s (lt ∷ s) (lt ∷ s) (files-run u F Labels Ticks names site sp m e at p s w k (no-rule u F Labels Ticks names site sp m (lacks (type_of e) (is_files (type_of e))) rule.WrongType q))
      (runs_one u F Labels Ticks Goal at z (p + (files_size types e + 1)) (lt ∷ s) (lt ∷ s) (omega arith) refl refl (swap_one lt lt s (list-solid ty.Text) (list-solid ty.Text)))
  act-form-run (par_call f es) asked at n p s w q k ps =
      spawn-run u F Labels Ticks names site sp m (function_named f names.functions) f at es (trees_code es sp.scope p s) p (p + trees_size types es) (p + (trees_size types es + 1)) s refl q (all-known es k) (omega arith)
      (trees_runs u F Labels Ticks sp.scope names fits es (parameters_of (function_named f names.functions)) p s w k)
  act-form-run (par_block b) asked at n p s w q k ps =
      let ls : List Numbered = visible_locals sp.scope.locals in
      let ts : List Ty = types_of ls in
      let written = visible-written sp.scope.locals m.agrees.locals_written in
      let z : ℕ = p + length ls in
      let size : length ls ≡ visible (variables_of sp.scope.locals) = visible-count sp.scope.locals in
      let loads = loads-run u F Labels Ticks names site sp m ls at p s (visible-in u F Labels Ticks names site sp m sp.scope.locals m.slots) written in
      let row_is : row u F (Spawn (n + block_pars b)) (reverse ts ++ s) ≡ Ok (ty.Text ∷ s) =
      ap (λ o. there o (n + block_pars b) >>= λ callee. swapped (reverse callee.params) ty.Text (reverse ts ++ s)) (own-there u b (quiet sp) n ps).1
      ∙ ap (λ x. swapped (reverse x) ty.Text (reverse ts ++ s)) (own-params b ls sp.scope n)
      ∙ ap (λ r. r >>= giving ty.Text) (all-taken (reverse ts) s (solid-reverse ts (types-solid u F Labels Ticks names site sp m ls written))) ∙ given-is ty.Text s text-solid in
      runs_then u F Labels Ticks (loads_code at ls) (one at (Spawn (n + block_pars b))) p z (p + (visible (variables_of sp.scope.locals) + 1)) s (reverse ts ++ s) (ty.Text ∷ s) loads
      (runs_one u F Labels Ticks (Spawn (n + block_pars b)) at z (p + (visible (variables_of sp.scope.locals) + 1)) (reverse ts ++ s) (ty.Text ∷ s) (omega (arith, size)) refl refl row_is)

  leaves-value : (f : ActFormTree) (s : List Ty) → is_known (act_form_type f) ≡ true → leaves f s ≡ act_form_type f ∷ s
  leaves-value (dep os b) s k = absurd (search (rules, sym void-unknown ∙ k))
  leaves-value (sys ps) s k = refl
  leaves-value (task os b) s k = refl
  leaves-value (goal e) s k = refl
  leaves-value (par_call f es) s k = refl
  leaves-value (par_block b) s k = refl

  -- the right side of a declaration, an assignment or a return
  pub right-run : (r : RightTree) (asked : Asked) (n p : ℕ) (s : List Ty) → is_value asked ≡ true → IsWellTypedRight r names asked → IsRightWritten r → RightParsThere u r sp n
      → Run (right_code r sp n p s) p (p + right_size r (known sp.scope)) s (right_type r ∷ s)
  right-run (right_expr e) asked n p s v w k ps = expr_runs u F Labels Ticks sp.scope names fits e asked p s v w k
  right-run (right_act (act at f)) asked n p s v w k ps =
      let known_ty : is_known (act_form_type f) ≡ true = written-known (act_form_type f) k.0 in
      subst (λ x. Run (act_form_code f at sp n p s) p (p + act_form_size f (known sp.scope)) s x) (leaves-value f s known_ty) (act-form-run f asked at n p s w.0 w.1 k.1 ps)

  pub right-written : (r : RightTree) → IsRightWritten r → is_solid (right_type r) ≡ true
  right-written (right_expr e) k = written-type e k
  right-written (right_act (act at f)) k = k.0

  pub drop-row : (t : Ty) (s : List Ty) → is_void t ≡ false → row u F Drop (t ∷ s) ≡ Ok s
  drop-row t s v = ap (λ r. r >>= λ r. Ok r.1) (any-is t s v)

  -- an act that is a whole statement
  pub act-line-run : (f : ActFormTree) (asked : Asked) (place at : At) (n p : ℕ) → IsWellTypedActForm f names → act_breaks names asked f ≡ None → IsActFormWritten f → ActFormParsThere u f sp n
      → Run (act_form_code f place sp n p [] ++ dropped_form_code f at) p (p + (act_form_size f (known sp.scope) + dropped_act_form_size f)) [] []
  act-line-run f asked place at n p w q k ps =
      let z : ℕ = p + act_form_size f (known sp.scope) in
      runs_then u F Labels Ticks (act_form_code f place sp n p []) (dropped_form_code f at) p z (p + (act_form_size f (known sp.scope) + dropped_act_form_size f)) [] (leaves f []) [] (act-form-run f asked place n p [] w q k ps)
      (dropping f z (p + (act_form_size f (known sp.scope) + dropped_act_form_size f)) (omega arith))
    where
      dropping : (f : ActFormTree) (p q : ℕ) → p + dropped_act_form_size f ≡ q → Run (dropped_form_code f at) p q (leaves f []) []
      dropping (dep os b) p q e = runs_to u F Labels Ticks [] p p q [] [] (omega (arith, e)) (runs_none u F Labels Ticks p [])
      dropping (sys ps) p q e = runs_one u F Labels Ticks Drop at p q (ty.Text ∷ []) [] e refl refl (drop-row ty.Text [] text-solid)
      dropping (task os b) p q e = runs_one u F Labels Ticks Drop at p q (ty.Text ∷ []) [] e refl refl (drop-row ty.Text [] text-solid)
      dropping (goal x) p q e = runs_one u F Labels Ticks Drop at p q (ty.List ty.Text ∷ []) [] e refl refl (drop-row (ty.List ty.Text) [] (list-solid ty.Text))
      dropping (par_call g es) p q e = runs_one u F Labels Ticks Drop at p q (ty.Text ∷ []) [] e refl refl (drop-row ty.Text [] text-solid)
      dropping (par_block b) p q e = runs_one u F Labels Ticks Drop at p q (ty.Text ∷ []) [] e refl refl (drop-row ty.Text [] text-solid)
