-- Methods that are whole statements: a change of their receiver, or a call whose result is dropped.
use Rattle.std.proofs.Common.{◌≡◌, ◌+◌, ℕ, List, [], ◌∷◌, ◌++◌, reverse, Option, Some, None, Result, Ok, Err, Bool, true, false, not, ◌&&◌, is_some, refl, sym, ◌∙◌, ap, subst, arith, if◌then◌else◌, rules, append_assoc, cond}
use Rattle.bds_value.specs.declared.value.At.{At}
use Rattle.bds_value.specs.declared.value.Ty.{Ty, out-Ty}
use Rattle.bds_value.specs.declared.value.Ty.TheVariants as ty
use Rattle.bds_tree.specs.Tree.{Tree, FormTree, Trees, node, number, text, truth, name, call, group, list, mapping, item, key, method, prefix, binary, choice, dependency, type_of}
use Rattle.bds_value.specs.Fields.{is_solid}
use Rattle.bds_check_rules.specs.Breaks.{breaks, is_place, is_place_form, method_rule, name_rule, part_rule, any_argument_differs}
use Rattle.bds_check_names.specs.Types.{lacks}
use Rattle.bds_code.specs.declared.instr.Instr.TheVariants.{Drop, Update}
use Rattle.bds_code.specs.declared.unit.Function.{Function}
use Rattle.bds_code.specs.declared.unit.Unit.{Unit as CodeUnit}
use Rattle.bds_code.specs.declared.effects.EffectFault.{EffectFault}
use Rattle.bds_value.specs.Results.{◌>>=◌}
use Rattle.bds_value.specs.Types.{is_void}
use Rattle.bds_code.specs.Operands.{given}
use Rattle.bds_code.specs.Row.{row, variable_ty}
use Rattle.bds_code.specs.UpdateRows.{part_ty, step_into}
use Rattle.bds_check_names.specs.declared.names.Names.{Names}
use Rattle.bds_check_names.specs.declared.names.Site.{Site}
use Rattle.bds_check_names.specs.declared.names.Asked.TheVariants.{Whole, Value}
use Rattle.bds_check_rules.specs.declared.rules.Rule.{Rule}
use Rattle.bds_check_rules.specs.declared.rules.Rule.TheVariants as rule
use Rattle.bds_check_names.specs.Types.{is_known, differ, or_void}
use Rattle.bds_value.specs.Types.{list_item, map_item}
use Rattle.bds_check_names.specs.Scopes.{found, is_value, is_missing, type_named}
use Rattle.bds_check_rules.specs.Pieces.{when as broken_if}
use Rattle.bds_check_rules.specs.Typing.{type_at, count as tree_count}
use Rattle.bds_check_typing.specs.WellTyped.{IsWellTyped, ArePartsWellTyped, taken_behind, AreArgumentsWellTyped}
use Rattle.bds_check_typing.specs.Known.{ArePartsWritten, IsValueWritten, AreValuesWritten}
use Rattle.bds_check_size.specs.Known.{look}
use Rattle.bds_check_size.specs.ExprSize.{expr_size, trees_size, method_size}
use Rattle.bds_check_size.specs.StmtSize.{steps_size, form_steps_size, changed_size, dropped_size}
use Rattle.bds_gen_expr.specs.Marks.{Mark, one}
use Rattle.bds_gen_expr.specs.Scope.{known, VariablePlace, place_of, is_global_at, number_at}
use Rattle.bds_gen_expr.specs.ExprCode.{expr_code, trees_code, method_code}
use Rattle.bds_gen_stmt.specs.Spots.{Spot}
use Rattle.bds_code.specs.UpdateRows.{step_ty}
use Rattle.bds_gen_stmt.specs.PlaceCode.{steps_below, changes_place, steps_code, form_steps_code, steps_of, form_steps_of, variable_of, form_variable_of, changed_code, dropped_code}
use Rattle.bds_check_typing.proofs.Written.{written-known}
use Rattle.bds_gen_flow.proofs.RowEffects.{not_void, any-is, item-is, entry-of-map, same-unless, int-known, text-known, unknown-void}
use Rattle.bds_gen_flow.specs.Flow.{Runs}
use Rattle.bds_gen_flow.proofs.Flow.{runs_then, runs_to, runs_none, runs_one}
use Rattle.bds_gen_flow.specs.Fits.{Fits}
use Rattle.bds_gen_flow.proofs.ExprParts.{all-known, some-is, when-none, or-deep-none, found-is, known-type, written-type, types_below, arguments-are, below-is, types_in}
use Rattle.bds_gen_flow.proofs.ExprFlow.{expr_runs, trees_runs}
use Rattle.bds_gen_stmt.proofs.Matched.{Matches, variable-there, fits-of}
use Rattle.bds_value.specs.declared.methods.Method.{Method}
use Rattle.bds_value.specs.Methods.{signature_of}
use Rattle.bds_gen_stmt.proofs.PlaceFlow.{update-is}
use Rattle.bds_gen_flow.proofs.MethodFlow.{RowFits, row-fits, method_runs, IsMaybeChange, Changes}
use Rattle.bds_check_names.specs.Rows.{row_of}
use Rattle.bds_check_names.specs.declared.rows.Row.{Row}
use Rattle.bds_value.specs.declared.methods.Method.TheVariants as by

steps-end : (ks : List Bool) (k : Bool) (s : List Ty) → steps_below (ks ++ k ∷ []) s ≡ step_ty k ∷ steps_below ks s
steps-end [] k s = refl
steps-end (j ∷ ks) k s = steps-end ks k (step_ty j ∷ s)

part-by : (ks : List Bool) (r : Result Ty EffectFault) (k : Bool) (w : Ty) → ((x : Ty) → part_ty x ks ≡ Ok w → part_ty x (ks ++ k ∷ []) ≡ (step_into k w >>= λ u. part_ty u [])) → (r >>= λ u. part_ty u ks) ≡ Ok w
    → (r >>= λ u. part_ty u (ks ++ k ∷ [])) ≡ (step_into k w >>= λ u. part_ty u [])
part-by ks (Ok x) k w g e = g x e
part-by ks (Err f) k w g e = absurd (cc)

part-end : (ks : List Bool) (t : Ty) (k : Bool) (w : Ty) → part_ty t ks ≡ Ok w → part_ty t (ks ++ k ∷ []) ≡ (step_into k w >>= λ u. part_ty u [])
part-end [] t k w e = let same : t ≡ w = cc in ap (λ x. step_into k x >>= λ u. part_ty u []) same
part-end (j ∷ ks) t k w e = part-by ks (step_into j t) k w (λ x q. part-end ks x k w q) e

module _ (u : CodeUnit) (F : Function) (Labels : ℕ → List Ty → Type 0) (Ticks : ℕ → Type 0) (names : Names) (site : Site) (sp : Spot) (m : Matches u F names site sp) where
  abbrev Run : List Mark → ℕ → ℕ → List Ty → List Ty → Type 0
  Run = Runs u F Labels Ticks

  abbrev types : List ℕ → Option Ty
  types = look (known sp.scope)

  abbrev fits : Fits u F sp.scope names
  fits = fits-of u F names site sp m

  index-is : (a i : Tree) (t : Ty) → is_known t ≡ true → IsValueWritten a → IsValueWritten i → t ≡ or_void (list_item (type_of a)) → breaks names Value (item a i) ≡ None → (ty.Int ≡ type_of i) × (list_item (type_of a) ≡ Some t)
  index-is a i t kt ka ki is b =
      let rest : Option Rule = broken_if (lacks (type_of a) (is_some (list_item (type_of a)))) rule.BadItem None in
      let q = when-none (differ ty.Int (type_of i)) rule.WrongType rest (or-deep-none (part_rule ty.Int (type_of a) (list_item (type_of a)) (type_of i)) (or_void (list_item (type_of a))) b) in
      let q2 = (when-none (lacks (type_of a) (is_some (list_item (type_of a)))) rule.BadItem None q.1).0 in
      (same-unless ty.Int (type_of i) int-known (known-type i ki) q.0, some-is (is_known (type_of a)) (list_item (type_of a)) (known-type a ka) q2 ∙ ap (λ (y : Ty). Some y) (sym is))

  key-is : (a i : Tree) (t : Ty) → is_known t ≡ true → IsValueWritten a → IsValueWritten i → t ≡ or_void (map_item (type_of a)) → breaks names Value (key a i) ≡ None → (ty.Text ≡ type_of i) × (map_item (type_of a) ≡ Some t)
  key-is a i t kt ka ki is b =
      let rest : Option Rule = broken_if (lacks (type_of a) (is_some (map_item (type_of a)))) rule.BadItem None in
      let q = when-none (differ ty.Text (type_of i)) rule.WrongType rest (or-deep-none (part_rule ty.Text (type_of a) (map_item (type_of a)) (type_of i)) (or_void (map_item (type_of a))) b) in
      let q2 = (when-none (lacks (type_of a) (is_some (map_item (type_of a)))) rule.BadItem None q.1).0 in
      (same-unless ty.Text (type_of i) text-known (known-type i ki) q.0, some-is (is_known (type_of a)) (map_item (type_of a)) (known-type a ka) q2 ∙ ap (λ (y : Ty). Some y) (sym is))

  -- the steps of a receiver, and the part to which they lead
  record Leads (ms : List Mark) (p size : ℕ) (s : List Ty) (ks : List Bool) (x : List ℕ) (t : Ty) : Type 0 where
    run : Run ms p (p + size) s (steps_below ks s)
    variable : variable_ty u F (is_global_at (place_of sp.scope x)) (number_at (place_of sp.scope x)) ≡ Some (type_named x names)
    part : part_ty (type_named x names) ks ≡ Ok t

  one-more : (a i : Tree) (k : Bool) (p size : ℕ) (s : List Ty) (ms : List Mark) (ks : List Bool) (x : List ℕ) (t : Ty) → Leads ms p size s ks x (type_of a) → step_ty k ≡ type_of i → (step_into k (type_of a) >>= λ u. part_ty u []) ≡ Ok t
      → IsWellTyped i names Value → IsValueWritten i → Leads (ms ++ expr_code i sp.scope (p + size) (steps_below ks s)) p (size + expr_size types i) s (ks ++ k ∷ []) x t
  one-more a i k p size s ms ks x t l same step w z =
      let q : ℕ = p + size in
      let below : List Ty = steps_below ks s in
      let code : List Mark = expr_code i sp.scope q below in
      let index : Run code q (q + expr_size types i) below (step_ty k ∷ below) = subst (λ y. Run code q (q + expr_size types i) below (y ∷ below)) (sym same) (expr_runs u F Labels Ticks sp.scope names fits i Value q below refl w z) in
      let both : Run (ms ++ code) p (q + expr_size types i) s (step_ty k ∷ below) = runs_then u F Labels Ticks ms code p q (q + expr_size types i) s below (step_ty k ∷ below) l.run index in
      record {
        run = subst (λ y. Run (ms ++ code) p (p + (size + expr_size types i)) s y) (sym (steps-end ks k s)) (runs_to u F Labels Ticks (ms ++ code) p (q + expr_size types i) (p + (size + expr_size types i)) s (step_ty k ∷ below) (omega arith) both);
        variable = l.variable;
        part = part-end ks (type_named x names) k (type_of a) l.part ∙ step;
      }

  mutual
    steps-run : (a : Tree) (p : ℕ) (s : List Ty) → is_place a ≡ true → IsWellTyped a names Value → IsValueWritten a → Leads (steps_code a sp.scope p s) p (steps_size types a) s (steps_of a) (variable_of a) (type_of a)
    steps-run (node at t f) p s pl w k = form-steps-run f t p s pl w.0 w.1 w.2 k.0 k.1

    form-steps-run : (f : FormTree) (t : Ty) (p : ℕ) (s : List Ty) → is_place_form f ≡ true → t ≡ type_at names Value f → breaks names Value f ≡ None → ArePartsWellTyped f names Value → is_solid t ≡ true → ArePartsWritten f
        → Leads (form_steps_code f sp.scope p s) p (form_steps_size types f) s (form_steps_of f) (form_variable_of f) t
    form-steps-run (name x) t p s pl is b w kt k =
        let q = (when-none (is_missing names.finding (found x names)) rule.UnknownName None (or-deep-none (name_rule names x) (type_named x names) b)).0 in
        let f = found-is names.finding (found x names) q in
        record { run = runs_to u F Labels Ticks [] p p (p + 0) s s (omega arith) (runs_none u F Labels Ticks p s); variable = variable-there u F x names site sp (type_named x names) m f; part = ap (λ (y : Ty). Ok y) (sym is) }
    form-steps-run (item a i) t p s pl is b w kt k =
        let e = index-is a i t (written-known t kt) k.0 k.1 is b in
        let step = ap (λ r. r >>= λ u. part_ty u []) (item-is (type_of a) t (not_void t (written-known t kt)) e.1) in
        one-more a i false p (steps_size types a) s (steps_code a sp.scope p s) (steps_of a) (variable_of a) t (steps-run a p s pl w.0 k.0) e.0 step w.1 k.1
    form-steps-run (key a i) t p s pl is b w kt k =
        let e = key-is a i t (written-known t kt) k.0 k.1 is b in
        let step = ap (λ r. r >>= λ u. part_ty u []) (entry-of-map t (out-Ty (type_of a)) (not_void t (written-known t kt)) e.1) in
        one-more a i true p (steps_size types a) s (steps_code a sp.scope p s) (steps_of a) (variable_of a) t (steps-run a p s pl w.0 k.0) e.0 step w.1 k.1
    form-steps-run (number v) t p s pl is b w kt k = absurd (search (rules, pl))
    form-steps-run (text v) t p s pl is b w kt k = absurd (search (rules, pl))
    form-steps-run (truth v) t p s pl is b w kt k = absurd (search (rules, pl))
    form-steps-run (call g v) t p s pl is b w kt k = absurd (search (rules, pl))
    form-steps-run (group v) t p s pl is b w kt k = absurd (search (rules, pl))
    form-steps-run (list v) t p s pl is b w kt k = absurd (search (rules, pl))
    form-steps-run (mapping v) t p s pl is b w kt k = absurd (search (rules, pl))
    form-steps-run (method a g v) t p s pl is b w kt k = absurd (search (rules, pl))
    form-steps-run (prefix o v) t p s pl is b w kt k = absurd (search (rules, pl))
    form-steps-run (binary a o v) t p s pl is b w kt k = absurd (search (rules, pl))
    form-steps-run (choice c a v) t p s pl is b w kt k = absurd (search (rules, pl))
    form-steps-run (dependency a v) t p s pl is b w kt k = absurd (search (rules, pl))

  true-of : (a b : Bool) → a ≡ true → (a && not b) ≡ false → b ≡ true
  true-of a true p q = refl
  true-of true false p q = absurd (search (rules, q))
  true-of false false p q = absurd (search (rules, p))

  change-run : (c : ℕ) (o : Option Row) (a : Tree) (es : Trees) (at : At) (p : ℕ) (ts : List Ty) → ((k : Row) → o ≡ Some k → Changes u F Labels Ticks (type_of a) (tree_count es) c k) → method_rule Whole a o es ≡ None
      → IsWellTyped a names Value → AreArgumentsWellTyped es names ts → IsValueWritten a → AreValuesWritten es
      → Run (steps_code a sp.scope p [] ++ (trees_code es sp.scope (p + steps_size types a) (steps_below (steps_of a) []) ++ changes_place sp.scope at (variable_of a) (steps_of a) c)) p (p + (steps_size types a + trees_size types es + 1)) [] []
  change-run c None a es at p ts d b wa we ka ke = absurd (let clash : true ≡ false = sym (known-type a ka) ∙ (when-none (is_known (type_of a)) rule.UnknownMethod None b).0 in cc)
  change-run c (Some k) a es at p ts d b wa we ka ke =
      let does_it = d k refl in
      let last : Option Rule = broken_if (k.changes && is_value Whole) rule.MutatorValue None in
      let third : Option Rule = broken_if (k.changes && not (is_place a)) rule.NotPlace last in
      let second : Option Rule = broken_if (is_value Whole && not k.changes && not (is_known k.gives)) rule.VoidValue third in
      let r1 = when-none (any_argument_differs k.takes es) rule.WrongType second b in
      let r2 = when-none (is_value Whole && not k.changes && not (is_known k.gives)) rule.VoidValue third r1.1 in
      let r3 = (when-none (k.changes && not (is_place a)) rule.NotPlace last r2.1).0 in
      let place : is_place a ≡ true = true-of k.changes (is_place a) does_it.2 r3 in
      let same : k.takes ≡ types_in es = arguments-are k.takes es (all-known es ke) does_it.1 r1.0 does_it.0 in
      let l = steps-run a p [] place wa ka in
      let below : List Ty = steps_below (steps_of a) [] in
      let q : ℕ = p + steps_size types a in
      let z : ℕ = q + trees_size types es in
      let end : ℕ = p + (steps_size types a + trees_size types es + 1) in
      let v : VariablePlace = place_of sp.scope (variable_of a) in
      let update : List Mark = changes_place sp.scope at (variable_of a) (steps_of a) c in
      let args = trees_runs u F Labels Ticks sp.scope names fits es ts q below we ke in
      let stack : types_below es below ≡ reverse k.takes ++ below = below-is es below ∙ ap (λ x. reverse x ++ below) (sym same) in
      let done : does_it.3.0 (type_of a) (types_below es below) ≡ Ok below = ap (does_it.3.0 (type_of a)) stack ∙ does_it.3.2 below in
      runs_then u F Labels Ticks (steps_code a sp.scope p []) (trees_code es sp.scope q below ++ update) p q end [] below [] l.run
      (runs_then u F Labels Ticks (trees_code es sp.scope q below) update q z end below (types_below es below) [] args
      (runs_one u F Labels Ticks (Update (is_global_at v) (number_at v) (steps_of a) c) at z end (types_below es below) [] (omega arith) refl refl
      (update-is u F v (type_named (variable_of a) names) (type_of a) (steps_of a) c does_it.3.0 (types_below es below) [] l.variable does_it.3.1 l.part done)))

  drop-run : (b : Bool) (t : Ty) (at : At) (p : ℕ) → is_known t ≡ b → Run (if not b then [] else one at Drop) p (p + (if not b then 0 else 1)) (given t ++ []) []
  drop-run true t at p k =
      let v : is_void t ≡ false = not_void t k in
      let row_is : row u F Drop (given t ++ []) ≡ Ok [] = ap (λ c. row u F Drop (cond c [] (t ∷ []) ++ [])) v ∙ ap (λ r. r >>= λ r. Ok r.1) (any-is t [] v) in
      runs_one u F Labels Ticks Drop at p (p + 1) (given t ++ []) [] refl refl refl row_is
  drop-run false t at p k =
      let nothing : given t ++ [] ≡ [] = ap (λ c. cond c [] (t ∷ []) ++ []) (unknown-void t k) in
      subst (λ x. Run [] p (p + 0) x []) (sym nothing) (runs_to u F Labels Ticks [] p p (p + 0) [] [] (omega arith) (runs_none u F Labels Ticks p []))

  -- a method that changes nothing
  dropped-method-run : (a : Tree) (x : List ℕ) (es : Trees) (place at : At) (t : Ty) (p : ℕ) → (IsMaybeChange u F Labels Ticks (signature_of (type_of a) x (tree_count es)) → ⊥) → t ≡ type_at names Whole (method a x es) → breaks names Whole (method a x es) ≡ None
      → IsWellTyped a names Value → AreArgumentsWellTyped es names (taken_behind (type_of a) x es) → IsValueWritten a → AreValuesWritten es
      → Run (dropped_code (node place t (method a x es)) at sp.scope p) p (p + dropped_size types (node place t (method a x es))) [] []
  dropped-method-run a x es place at t p n is b wa we ka ke =
      let z : ℕ = p + expr_size types a in
      let y : ℕ = z + trees_size types es in
      let sig = signature_of (type_of a) x (tree_count es) in
      let end : ℕ = p + (expr_size types a + trees_size types es + method_size sig) in
      let ca : List Mark = expr_code a sp.scope p [] in
      let ct : List Mark = trees_code es sp.scope z (type_of a ∷ []) in
      let cm : List Mark = method_code place sig in
      let first = expr_runs u F Labels Ticks sp.scope names fits a Value p [] refl wa ka in
      let args = trees_runs u F Labels Ticks sp.scope names fits es (taken_behind (type_of a) x es) z (type_of a ∷ []) we ke in
      let b1 = or-deep-none (method_rule Whole a (row_of (type_of a) x (tree_count es)) es) (type_at names Whole (method a x es)) b in
      let both : Run (ca ++ ct) p y [] (types_below es (type_of a ∷ [])) = runs_then u F Labels Ticks ca ct p z y [] (type_of a ∷ []) (types_below es (type_of a ∷ [])) first args in
      let run = method_runs u F Labels Ticks sig Whole a es x place t (ca ++ ct) p y [] refl (written-type a ka) b1 is (λ q. absurd (n q)) (all-known es ke) both in
      let run1 : Run ((ca ++ ct) ++ cm) p end [] (given t ++ []) = runs_to u F Labels Ticks ((ca ++ ct) ++ cm) p (y + method_size sig) end [] (given t ++ []) (omega arith) run in
      let run2 : Run (ca ++ (ct ++ cm)) p end [] (given t ++ []) = subst (λ w. Run w p end [] (given t ++ [])) (append_assoc ca ct cm) run1 in
      let last : ℕ = (if not (is_known t) then 0 else 1) in
      runs_then u F Labels Ticks (ca ++ (ct ++ cm)) (if not (is_known t) then [] else one at Drop) p end (p + (expr_size types a + trees_size types es + method_size sig + last)) [] (given t ++ []) []
      run2 (runs_to u F Labels Ticks (if not (is_known t) then [] else one at Drop) end (end + last) (p + (expr_size types a + trees_size types es + method_size sig + last)) (given t ++ []) [] (omega arith) (drop-run (is_known t) t at end refl))

  -- a method that is a whole statement
  pub method-line-run : (sig : Option Method) (a : Tree) (x : List ℕ) (es : Trees) (place at : At) (t : Ty) (p : ℕ) → signature_of (type_of a) x (tree_count es) ≡ sig → t ≡ type_at names Whole (method a x es) → breaks names Whole (method a x es) ≡ None
      → IsWellTyped a names Value → AreArgumentsWellTyped es names (taken_behind (type_of a) x es) → IsValueWritten a → AreValuesWritten es
      → Run (changed_code sig (node place t (method a x es)) a es at sp.scope p) p (p + changed_size types sig (node place t (method a x es)) a es) [] []
  method-line-run None a x es place at t p e is b wa we ka ke = dropped-method-run a x es place at t p (λ q. subst (IsMaybeChange u F Labels Ticks) e q) is b wa we ka ke
  method-line-run (Some (by.Plain n)) a x es place at t p e is b wa we ka ke = dropped-method-run a x es place at t p (λ q. subst (IsMaybeChange u F Labels Ticks) e q) is b wa we ka ke
  method-line-run (Some (by.File n)) a x es place at t p e is b wa we ka ke = dropped-method-run a x es place at t p (λ q. subst (IsMaybeChange u F Labels Ticks) e q) is b wa we ka ke
  method-line-run (Some (by.Change c)) a x es place at t p e is b wa we ka ke =
      let b1 = or-deep-none (method_rule Whole a (row_of (type_of a) x (tree_count es)) es) (type_at names Whole (method a x es)) b in
      let f = row-fits u F Labels Ticks (type_of a) x (tree_count es) (by.Change c) (written-type a ka) e in
      change-run c (row_of (type_of a) x (tree_count es)) a es at p (taken_behind (type_of a) x es) (λ k q. subst (RowFits u F Labels Ticks (type_of a) (tree_count es) (by.Change c)) q f) b1 wa we ka ke
