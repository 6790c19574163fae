-- The code of a well-typed line, or of a part of the head of a `for`, leaves the list of operands empty.
use Rattle.bds_gen_stmt.proofs.Pars.{LineParsThere, RightParsThere}
use Rattle.bds_value.specs.Methods.{signature_of}
use Rattle.bds_gen_stmt.proofs.CallFlow.{method-line-run}
use Rattle.std.proofs.Common.{◌≡◌, ◌≤◌, ◌+◌, ℕ, suc, List, [], ◌∷◌, ◌++◌, map, reverse, slice_get, Option, Some, None, Ok, Bool, true, false, not, ◌||◌, refl, sym, ◌∙◌, ap, subst, arith, if◌then◌else◌, rules, cond}
use Rattle.std.specs.Prelude.{⊤, length}
use Rattle.bds_value.specs.declared.value.At.{At}
use Rattle.bds_value.specs.declared.value.Ty.{Ty}
use Rattle.bds_value.specs.declared.value.Ty.TheVariants as ty
use Rattle.bds_tree.specs.Tree.{Tree, Trees, node, number, text, truth, name, call, group, list, mapping, item, key, method, prefix, binary, choice, dependency, type_of}
use Rattle.bds_tree.specs.StmtTree.{LineTree, RightTree, empty, line, for, declare, infer, assign, update, step, wait, checkpoint, act_line, call_line, print, println, error, exit, break, continue, return, no_right, a_right, act, SmallFormTree, SmallTree, small_declare, small_infer, small_assign, small_update, small_step, small_call}
use Rattle.bds_tree.specs.StmtShape.{is_result}
use Rattle.bds_check_rules.specs.Typing.{type_at, count as tree_count}
use Rattle.bds_check_rules.specs.Breaks.{call_rule, breaks}
use Rattle.bds_check_names.specs.Types.{lacks}
use Rattle.bds_check_typing.specs.Walk.{parameters_of}
use Rattle.bds_code.specs.declared.instr.Instr.{Instr}
use Rattle.bds_code.specs.declared.instr.Instr.TheVariants.{Store, StoreGlobal, Drop, Show, Concat, Out, PushText, PushDefault, Return, Stop, Exit, Update, Jump, PushBool, Wait, WaitAll, Save, SaveHere}
use Rattle.bds_code.specs.declared.unit.Function.{Function}
use Rattle.bds_code.specs.declared.unit.Unit.{Unit as CodeUnit}
use Rattle.bds_value.specs.Results.{◌>>=◌}
use Rattle.bds_value.specs.Types.{is_void}
use Rattle.bds_code.specs.Operands.{there, taken, all_taken, given}
use Rattle.bds_code.specs.Row.{row, slot_ty, variable_ty, none_left}
use Rattle.bds_code.specs.UpdateRows.{part_ty, change_rows, step_ty}
use Rattle.bds_verify.specs.Verified.{goes_on, target}
use Rattle.bds_check_names.specs.declared.names.Names.{Names}
use Rattle.bds_check_names.specs.declared.names.Site.{Site}
use Rattle.bds_check_names.specs.declared.names.Asked.{Asked}
use Rattle.bds_check_names.specs.declared.names.Asked.TheVariants.{Whole, Value, This}
use Rattle.bds_check_rules.specs.declared.rules.Rule.{Rule}
use Rattle.bds_check_rules.specs.declared.rules.Rule.TheVariants as rule
use Rattle.bds_check_names.specs.Types.{is_known, differ, is_files}
use Rattle.bds_check_names.specs.Scopes.{function_named, is_declared, is_value}
use Rattle.bds_check_rules.specs.Declarations.{declared_by_line, declared_by_small_form, names_with}
use Rattle.bds_check_rules.specs.StmtBreaks.{right_type, wrong_rule, given_rule, twice_rule, place_ty, return_rule, break_rule, continue_rule, line_breaks, small_breaks, maybe_wrong_rule}
use Rattle.bds_check_size.specs.Known.{look}
use Rattle.bds_check_size.specs.ExprSize.{trees_size, expr_size, files_size}
use Rattle.bds_check_size.specs.StmtSize.{suffixes_size, line_size, small_form_size, maybe_small_size, condition_size, right_size, call_size}
use Rattle.bds_check_typing.specs.StmtParts.{returned}
use Rattle.bds_check_typing.specs.WellTyped.{IsWellTyped, ArePartsWellTyped}
use Rattle.bds_check_typing.specs.WellTypedStmts.{IsWellTypedLine, IsWellTypedRight}
use Rattle.bds_check_typing.specs.WellTypedParts.{IsWellTypedSmallForm, IsWellTypedSmall, IsWellTypedMaybe, names_behind_small}
use Rattle.bds_check_typing.specs.Known.{AreValuesWritten, IsLineWritten, IsValueWritten, IsCallWritten, IsMaybeWritten, IsSmallFormWritten, IsSmallWritten, IsRightWritten, ArePartsWritten}
use Rattle.bds_check_typing.proofs.Written.{written-known}
use Rattle.bds_gen_expr.specs.Marks.{Mark, does, label, slot, slot_count, one}
use Rattle.bds_gen_expr.specs.Scope.{known, VariablePlace, is_global_at, number_at}
use Rattle.bds_gen_expr.specs.ExprCode.{expr_code, trees_code, files_code}
use Rattle.bds_gen_stmt.specs.Spots.{Spot, Loop, in_loop, store_new}
use Rattle.bds_gen_stmt.specs.StmtCode.{leap, behind_line, behind, line_code, condition_code, right_code}
use Rattle.bds_gen_stmt.specs.PlaceCode.{steps_below, small_form_code, small_code, behind_small, behind_small_form, kinds_of, change_number, call_code}
use Rattle.bds_gen_flow.specs.Flow.{kept, Runs, Goes}
use Rattle.bds_gen_flow.proofs.Flow.{runs_then, runs_to, runs_none, runs_one, runs_does}
use Rattle.bds_gen_flow.proofs.Branches.{jump-row}
use Rattle.bds_gen_flow.specs.Fits.{Fits}
use Rattle.bds_gen_flow.proofs.ExprParts.{or-deep-none, written-type, all-known, when-none, or-none, known-type}
use Rattle.bds_gen_flow.proofs.ExprFlow.{call_runs, void_call_runs, trees_runs, expr_runs}
use Rattle.bds_gen_flow.proofs.RowEffects.{not_void, unknown-void, text-solid, int-solid, taken-is, given-is, show-is, swap_two, take_one, any-is, same-unless, text-known, int-known, bool-known, given-none, list-solid, bool-solid}
use Rattle.bds_gen_stmt.proofs.StmtCounts.{expr-no-slots}
use Rattle.bds_check_typing.specs.Proper.{IsProperSmallForm, IsProperSmall, IsProperLine}
use Rattle.bds_tree.specs.StmtShape.{is_call}
use Rattle.bds_gen_stmt.proofs.WholeSlots.{right-slots}
use Rattle.bds_gen_stmt.proofs.PlaceFlow.{as-run, files-run, place-run, place-written, step-run, change_of, change-there, change-is}
use Rattle.bds_gen_stmt.proofs.ActFlow.{right-run, right-written, act-line-run}
use Rattle.bds_gen_stmt.proofs.Matched.{Slots, slots_append, Matches, fits-of, declare-matches}

pub not-false : (b : Bool) → not b ≡ false → b ≡ true
not-false true q = refl
not-false false q = absurd (search (rules, q))

pub is-returned : (o : Option Ty) → is_value (returned o) ≡ true
is-returned None = refl
is-returned (Some t) = by (is_known t)
  where
    by : (b : Bool) → is_value (if b then This t else Value) ≡ true
    by true = refl
    by false = refl

module _ (u : CodeUnit) (F : Function) (Labels : ℕ → List Ty → Type 0) (Ticks : ℕ → Type 0) where
  abbrev Run : List Mark → ℕ → ℕ → List Ty → List Ty → Type 0
  Run = Runs u F Labels Ticks

  -- where `break` and `continue` lead, from a statement that ends at a place
  pub record LoopAt (site : Site) (sp : Spot) (q : ℕ) : Type 0 where
    pub breaks : site.may_break ≡ true → (l : Loop) × (sp.loop ≡ Some l) × Labels l.end [] × (q ≤ l.end)
    pub loop : site.in_loop ≡ true → (l : Loop) × (sp.loop ≡ Some l) × Labels l.again [] × ((k : ℕ) → suc k ≤ q → l.again ≤ k → Ticks l.again)

  pub with_slot-runs : (t : Ty) (ms : List Mark) (p q : ℕ) (s w : List Ty) → Run ms p q s w → Run (slot t ∷ ms) p q s w
  with_slot-runs t ms p q s w r = record { place = r.place; goes = r.goes }

  -- an instruction that never goes on, and a label behind it
  ends-run : (i : Instr) (at : At) (p q : ℕ) (s next : List Ty) → p + 1 ≡ q → target i ≡ None → goes_on i ≡ false → row u F i s ≡ Ok next → Run (does i at ∷ label [] ∷ []) p q s []
  ends-run i at p q s next e j g r = record {
    place = omega (arith, e);
    goes = λ h. (s, next, refl, record { effect = r; jump = λ to k. absurd (cc) }, subst (λ b. Goes u F Labels Ticks (label [] ∷ []) (suc p) (kept b next) (Some [])) (sym g) (tt, refl));
  }

  leap-run : (at : At) (to p q : ℕ) → p + 1 ≡ q → Labels to [] → (to ≤ p → Ticks to) → Run (does (Jump to) at ∷ label [] ∷ []) p q [] []
  leap-run at to p q e l t = record {
    place = omega (arith, e);
    goes = λ h. ([], [], refl, record { effect = jump-row u F Labels Ticks to []; jump = λ n k. let same : to ≡ n = cc in (subst (λ n. Labels n []) same l, λ le. subst Ticks same (t (omega (arith, same, le)))) }, (tt, refl));
  }

  pub store-run : (b : Bool) (g i : ℕ) (at : At) (t : Ty) (p q : ℕ) → p + 1 ≡ q → is_void t ≡ false → (b ≡ true → slice_get u.globals g ≡ Some t) → (b ≡ false → slot_ty F i ≡ Some t)
      → Run (if b then one at (StoreGlobal g) else slot t ∷ does (Store i) at ∷ []) p q (t ∷ []) []
  store-run true g i at t p q e v h k = runs_one u F Labels Ticks (StoreGlobal g) at p q (t ∷ []) [] e refl refl (ap (λ o. there o g >>= λ w. taken w (t ∷ [])) (h refl) ∙ taken-is t [] v)
  store-run false g i at t p q e v h k = with_slot-runs t (one at (Store i)) p q (t ∷ []) [] (runs_one u F Labels Ticks (Store i) at p q (t ∷ []) [] e refl refl (ap (λ o. there o i >>= λ w. taken w (t ∷ [])) (k refl) ∙ taken-is t [] v))

  update-row : (v : VariablePlace) (t : Ty) → variable_ty u F (is_global_at v) (number_at v) ≡ Some t → is_void t ≡ false → row u F (Update (is_global_at v) (number_at v) [] 0) (t ∷ []) ≡ Ok []
  update-row v t h k =
      ap (λ o. there o (number_at v) >>= λ w. there (slice_get change_rows 0) 0 >>= λ change. part_ty w [] >>= λ p. change p (t ∷ []) >>= all_taken (reverse (map step_ty []))) h
      ∙ ap (λ r. r >>= all_taken []) (taken-is t [] k)

  pub return-row : (t : Ty) → F.ret ≡ t → is_void t ≡ false → row u F Return (t ∷ []) ≡ Ok []
  return-row t e v = ap (λ r. all_taken (given r) (t ∷ []) >>= none_left) e ∙ ap (λ b. all_taken (if_void b) (t ∷ []) >>= none_left) v ∙ ap (λ r. (r >>= all_taken []) >>= none_left) (taken-is t [] v)
    where
      if_void : Bool → List Ty
      if_void b = cond b [] (t ∷ [])

  pub returned-none : (t : Ty) → F.ret ≡ t → is_known t ≡ false → row u F Return [] ≡ Ok []
  returned-none t e k = ap (λ r. all_taken (given r) [] >>= none_left) e ∙ ap (λ b. all_taken (cond b [] (t ∷ [])) [] >>= none_left) (unknown-void t k)

  module _ (names : Names) (site : Site) (sp : Spot) (m : Matches u F names site sp) where
    abbrev types : List ℕ → Option Ty
    types = look (known sp.scope)

    abbrev fits : Fits u F sp.scope names
    fits = fits-of u F names site sp m

    e_run : (e : Tree) (asked : Asked) (p : ℕ) → is_value asked ≡ true → IsWellTyped e names asked → IsValueWritten e → Run (expr_code e sp.scope p []) p (p + expr_size types e) [] (type_of e ∷ [])
    e_run e asked p v w k = expr_runs u F Labels Ticks sp.scope names fits e asked p [] v w k

    -- an expression, and what is done with its value
    behind-run : (e : Tree) (asked : Asked) (ms : List Mark) (n p : ℕ) → is_value asked ≡ true → IsWellTyped e names asked → IsValueWritten e
        → Run ms (p + expr_size types e) (p + (expr_size types e + n)) (type_of e ∷ []) [] → Run (expr_code e sp.scope p [] ++ ms) p (p + (expr_size types e + n)) [] []
    behind-run e asked ms n p v w k r = runs_then u F Labels Ticks (expr_code e sp.scope p []) ms p (p + expr_size types e) (p + (expr_size types e + n)) [] (type_of e ∷ []) [] (e_run e asked p v w k) r

    stored-run : (e : Tree) (asked : Asked) (at : At) (t : Ty) (p : ℕ) → t ≡ type_of e → is_value asked ≡ true → IsWellTyped e names asked → IsValueWritten e
        → (sp.at_top ≡ true → slice_get u.globals (length sp.scope.globals) ≡ Some t) → (sp.at_top ≡ false → slot_ty F sp.next ≡ Some t)
        → Run (expr_code e sp.scope p [] ++ store_new sp at t) p (p + (expr_size types e + 1)) [] []
    stored-run e asked at t p same v w k g s =
        behind-run e asked (store_new sp at t) 1 p v w k
        (subst (λ x. Run (store_new sp at t) (p + expr_size types e) (p + (expr_size types e + 1)) (x ∷ []) []) same
        (store-run sp.at_top (length sp.scope.globals) sp.next at t (p + expr_size types e) (p + (expr_size types e + 1)) (omega arith) (subst (λ x. is_void x ≡ false) (sym same) (not_void (type_of e) (known-type e k))) g s))

    shown-run : (e : Tree) (rest : List Mark) (at : At) (n p : ℕ) → IsWellTyped e names Value → IsValueWritten e → Run rest (p + expr_size types e + 1) (p + (expr_size types e + n)) (ty.Text ∷ []) []
        → Run (expr_code e sp.scope p [] ++ (does Show at ∷ rest)) p (p + (expr_size types e + n)) [] []
    shown-run e rest at n p w k r =
        behind-run e Value (does Show at ∷ rest) n p refl w k
        (runs_does u F Labels Ticks Show at rest (p + expr_size types e) (p + (expr_size types e + n)) (type_of e ∷ []) (ty.Text ∷ []) [] refl refl (show-is (type_of e) [] (not_void (type_of e) (known-type e k))) r)

    out-run : (at : At) (p q : ℕ) → p + 1 ≡ q → Run (one at Out) p q (ty.Text ∷ []) []
    out-run at p q e = runs_one u F Labels Ticks Out at p q (ty.Text ∷ []) [] e refl refl (take_one ty.Text [] text-solid)

    ended-run : (e : Tree) (i : Instr) (t : Ty) (at : At) (p : ℕ) → t ≡ type_of e → target i ≡ None → goes_on i ≡ false → row u F i (t ∷ []) ≡ Ok [] → (asked : Asked) → is_value asked ≡ true → IsWellTyped e names asked → IsValueWritten e
        → Run (expr_code e sp.scope p [] ++ (does i at ∷ label [] ∷ [])) p (p + (expr_size types e + 1)) [] []
    ended-run e i t at p same j g r asked v w k =
        behind-run e asked (does i at ∷ label [] ∷ []) 1 p v w k
        (ends-run i at (p + expr_size types e) (p + (expr_size types e + 1)) (type_of e ∷ []) [] (omega arith) j g (subst (λ x. row u F i (x ∷ []) ≡ Ok []) same r))

    wrong-same : (t : Ty) (e : Tree) → is_known t ≡ true → IsValueWritten e → wrong_rule t (type_of e) ≡ None → t ≡ type_of e
    wrong-same t e kt k q = same-unless t (type_of e) kt (known-type e k) (when-none (differ t (type_of e)) rule.WrongType None q).0

    -- what a declaration stores, by the marks of its line
    stored-slot : (ms : List Mark) (b : Bool) (g i n : ℕ) (at : At) (t : Ty) → slot_count ms ≡ 0 → n ≡ i → Slots F (ms ++ (if b then one at (StoreGlobal g) else slot t ∷ does (Store i) at ∷ [])) n → b ≡ false → slot_ty F i ≡ Some t
    stored-slot ms true g i n at t z e h l = absurd (cc)
    stored-slot ms false g i n at t z e h l = (slots_append F ms (slot t ∷ does (Store i) at ∷ []) n i (omega (arith, z, e)) h).1.0

    -- the global that a line at the top declares
    abbrev pub NewGlobal : LineTree → Type 0
    NewGlobal (declare t x r) = sp.at_top ≡ true → slice_get u.globals (length sp.scope.globals) ≡ Some t
    NewGlobal (infer x r) = sp.at_top ≡ true → slice_get u.globals (length sp.scope.globals) ≡ Some (right_type r)
    NewGlobal _ = ⊤

    undeclared : (x : List ℕ) (others : Option Rule) → twice_rule names site x others ≡ None → (is_declared names site x ≡ false) × (others ≡ None)
    undeclared x others q = when-none (is_declared names site x) rule.TwiceDeclared others q

    pub line-behind : (l : LineTree) (at : At) (n p : ℕ) → Slots F (line_code l at sp n p) sp.next → NewGlobal l → line_breaks names site l ≡ None → IsLineWritten l → Matches u F (names_with names site (declared_by_line l)) site (behind_line l sp)
    line-behind (declare t x no_right) at n p s g b k =
        declare-matches u F sp.at_top site.at_top names site sp x t m refl refl m.top (undeclared x None b).0 g (stored-slot (one at (PushDefault t)) sp.at_top (length sp.scope.globals) sp.next sp.next at t refl refl s) k.0
    line-behind (declare t x (a_right r)) at n p s g b k =
        declare-matches u F sp.at_top site.at_top names site sp x t m refl refl m.top (undeclared x (given_rule t (Some (right_type r))) b).0 g (stored-slot (right_code r sp n p []) sp.at_top (length sp.scope.globals) sp.next sp.next at t (right-slots r sp n p []) refl s) k.0
    line-behind (infer x r) at n p s g b k =
        declare-matches u F sp.at_top site.at_top names site sp x (right_type r) m refl refl m.top (undeclared x None b).0 g (stored-slot (right_code r sp n p []) sp.at_top (length sp.scope.globals) sp.next sp.next at (right_type r) (right-slots r sp n p []) refl s) (right-written u F Labels Ticks names site sp m r k)
    line-behind _ at n p s g b k = m

    wrong-ty : (t w : Ty) → is_known t ≡ true → is_known w ≡ true → wrong_rule t w ≡ None → t ≡ w
    wrong-ty t w kt kw q = same-unless t w kt kw (when-none (differ t w) rule.WrongType None q).0

    right-stored : (r : RightTree) (asked : Asked) (at : At) (t : Ty) (n p : ℕ) → t ≡ right_type r → is_value asked ≡ true → IsWellTypedRight r names asked → IsRightWritten r → RightParsThere u r sp n
        → (sp.at_top ≡ true → slice_get u.globals (length sp.scope.globals) ≡ Some t) → (sp.at_top ≡ false → slot_ty F sp.next ≡ Some t)
        → Run (right_code r sp n p [] ++ store_new sp at t) p (p + (right_size r (known sp.scope) + 1)) [] []
    right-stored r asked at t n p same v w k ps g s =
        let q : ℕ = p + right_size r (known sp.scope) in
        let known_ty : is_known (right_type r) ≡ true = written-known (right_type r) (right-written u F Labels Ticks names site sp m r k) in
        runs_then u F Labels Ticks (right_code r sp n p []) (store_new sp at t) p q (p + (right_size r (known sp.scope) + 1)) [] (right_type r ∷ []) [] (right-run u F Labels Ticks names site sp m r asked n p [] v w k ps)
        (subst (λ x. Run (store_new sp at t) q (p + (right_size r (known sp.scope) + 1)) (x ∷ []) []) same
        (store-run sp.at_top (length sp.scope.globals) sp.next at t q (p + (right_size r (known sp.scope) + 1)) (omega arith) (subst (λ x. is_void x ≡ false) (sym same) (not_void (right_type r) known_ty)) g s))

    assign-is : (t w : Ty) (s : List Ty) → t ≡ w → is_void w ≡ false → taken t (w ∷ s) ≡ Ok s
    assign-is t w s e v = subst (λ x. taken x (w ∷ s) ≡ Ok s) (sym e) (taken-is w s v)

    dropped-run : (place : At) (t : Ty) (fn : List ℕ) (es : Trees) (at : At) (p : ℕ) (b : Bool) → is_known t ≡ b → IsWellTyped (node place t (call fn es)) names Whole → (is_result t ≡ true) × AreValuesWritten es
        → Run (expr_code (node place t (call fn es)) sp.scope p [] ++ (if not b then [] else one at Drop)) p (p + (expr_size types (node place t (call fn es)) + (if not b then 0 else 1))) [] []
    dropped-run place t fn es at p true k w z =
        let c : call_rule false (function_named fn names.functions) es ≡ None = or-deep-none (call_rule false (function_named fn names.functions) es) (type_at names Whole (call fn es)) w.1 in
        let run : Run (expr_code (node place t (call fn es)) sp.scope p []) p (p + (trees_size types es + 1)) [] (t ∷ []) =
        call_runs u F Labels Ticks sp.scope names fits (function_named fn names.functions) fn place false t es (trees_code es sp.scope p []) p (p + trees_size types es) (p + (trees_size types es + 1)) [] refl c w.0 k (all-known es z.1) (omega arith)
        (trees_runs u F Labels Ticks sp.scope names fits es (parameters_of (function_named fn names.functions)) p [] w.2 z.1) in
        let row_is : row u F Drop (t ∷ []) ≡ Ok [] = ap (λ r. r >>= λ r. Ok r.1) (any-is t [] (not_void t k)) in
        runs_then u F Labels Ticks (expr_code (node place t (call fn es)) sp.scope p []) (one at Drop) p (p + (trees_size types es + 1)) (p + (trees_size types es + 1 + 1)) [] (t ∷ []) [] run
        (runs_one u F Labels Ticks Drop at (p + (trees_size types es + 1)) (p + (trees_size types es + 1 + 1)) (t ∷ []) [] (omega arith) refl refl row_is)
    dropped-run place t fn es at p false k w z =
        let c : call_rule false (function_named fn names.functions) es ≡ None = or-deep-none (call_rule false (function_named fn names.functions) es) (type_at names Whole (call fn es)) w.1 in
        let run : Run (expr_code (node place t (call fn es)) sp.scope p []) p (p + (trees_size types es + 1)) [] [] =
        void_call_runs u F Labels Ticks sp.scope names fits (function_named fn names.functions) fn place false t es (trees_code es sp.scope p []) p (p + trees_size types es) (p + (trees_size types es + 1)) [] refl c w.0 k (all-known es z.1) (omega arith)
        (trees_runs u F Labels Ticks sp.scope names fits es (parameters_of (function_named fn names.functions)) p [] w.2 z.1) in
        runs_then u F Labels Ticks (expr_code (node place t (call fn es)) sp.scope p []) [] p (p + (trees_size types es + 1)) (p + (trees_size types es + 1 + 0)) [] [] [] run
        (runs_to u F Labels Ticks [] (p + (trees_size types es + 1)) (p + (trees_size types es + 1)) (p + (trees_size types es + 1 + 0)) [] [] (omega arith) (runs_none u F Labels Ticks (p + (trees_size types es + 1)) []))

    value-returned : (o : Option Ty) (w : Ty) → site.returns ≡ o → return_rule o (Some w) ≡ None → is_known w ≡ true → F.ret ≡ w
    value-returned None w r q k = absurd (search (rules, q))
    value-returned (Some t) w r q k =
        let p = or-none (not (is_known t)) (differ t w) (when-none (not (is_known t) || differ t w) rule.WrongType None q).0 in
        m.returns t r ∙ same-unless t w (not-false (is_known t) p.0) k p.1

    nothing-returned : (o : Option Ty) → site.returns ≡ o → return_rule o None ≡ None → row u F Return [] ≡ Ok []
    nothing-returned None r q = absurd (search (rules, q))
    nothing-returned (Some t) r q = returned-none t (m.returns t r) (when-none (is_known t) rule.WrongType None q).0

    break-there : break_rule site ≡ None → site.may_break ≡ true
    break-there q = not-false site.may_break (when-none (not site.may_break) rule.BreakOutside None q).0

    loop-there : continue_rule site ≡ None → site.in_loop ≡ true
    loop-there q = not-false site.in_loop (when-none (not site.in_loop) rule.BreakOutside None q).0

    break-run : (at : At) (p : ℕ) → (l : Loop) × (sp.loop ≡ Some l) × Labels l.end [] × (p + 1 ≤ l.end) → Run (leap at sp.loop (λ l. l.end)) p (p + 1) [] []
    break-run at p l = subst (λ o. Run (leap at o (λ l. l.end)) p (p + 1) [] []) (sym l.1) (leap-run at l.0.end p (p + 1) refl l.2 (λ le. absurd (let far = l.3 in omega (arith, le, far))))

    continue-run : (at : At) (p : ℕ) → (l : Loop) × (sp.loop ≡ Some l) × Labels l.again [] × ((k : ℕ) → suc k ≤ p + 1 → l.again ≤ k → Ticks l.again) → Run (leap at sp.loop (λ l. l.again)) p (p + 1) [] []
    continue-run at p l = subst (λ o. Run (leap at o (λ l. l.again)) p (p + 1) [] []) (sym l.1) (leap-run at l.0.again p (p + 1) refl l.2 (λ le. l.3 p (omega arith) le))

    -- Heads of loops

    small-behind : (x : SmallFormTree) (at : At) (p : ℕ) → sp.at_top ≡ false → Slots F (small_form_code x at sp p) sp.next → small_breaks names site x ≡ None → IsSmallFormWritten x
        → Matches u F (names_with names site (declared_by_small_form x)) site (behind_small_form x sp)
    small-behind (small_declare t x None) at p low s b k =
        declare-matches u F false site.at_top names site sp x t m low refl (sym low ∙ m.top) (undeclared x None b).0 (λ e. absurd (cc)) (λ e. stored-slot (one at (PushDefault t)) sp.at_top (length sp.scope.globals) sp.next sp.next at t refl refl s low) k.0
    small-behind (small_declare t x (Some e)) at p low s b k =
        declare-matches u F false site.at_top names site sp x t m low refl (sym low ∙ m.top) (undeclared x (given_rule t (Some (type_of e))) b).0 (λ e. absurd (cc)) (λ q. stored-slot (expr_code e sp.scope p []) sp.at_top (length sp.scope.globals) sp.next sp.next at t (expr-no-slots e sp.scope p []) refl s low) k.0
    small-behind (small_infer x e) at p low s b k =
        declare-matches u F false site.at_top names site sp x (type_of e) m low refl (sym low ∙ m.top) (undeclared x None b).0 (λ e. absurd (cc)) (λ q. stored-slot (expr_code e sp.scope p []) sp.at_top (length sp.scope.globals) sp.next sp.next at (type_of e) (expr-no-slots e sp.scope p []) refl s low) (written-type e k)
    small-behind (small_assign q e) at p low s b k = m
    small-behind (small_update q o e) at p low s b k = m
    small-behind (small_step x) at p low s b k = m
    small-behind (small_call e) at p low s b k = m

    not-top : sp.at_top ≡ false → (t : Ty) → sp.at_top ≡ true → slice_get u.globals (length sp.scope.globals) ≡ Some t
    not-top low t e = absurd (cc)

    whole-method-run : (a : Tree) (x : List ℕ) (es : Trees) (place at : At) (t : Ty) (p : ℕ) → t ≡ type_at names Whole (method a x es) → breaks names Whole (method a x es) ≡ None → ArePartsWellTyped (method a x es) names Whole → ArePartsWritten (method a x es)
        → Run (call_code (node place t (method a x es)) at sp.scope p) p (p + call_size types (node place t (method a x es))) [] []
    whole-method-run a x es place at t p is b w k =
        method-line-run u F Labels Ticks names site sp m (signature_of (type_of a) x (tree_count es)) a x es place at t p refl is b w.0 w.1 k.0 k.1

    call-run : (e : Tree) (at : At) (p : ℕ) → is_call e ≡ true → IsWellTyped e names Whole → IsCallWritten e → Run (call_code e at sp.scope p) p (p + call_size types e) [] []
    call-run (node place t (call fn es)) at p h w k = dropped-run place t fn es at p (is_known t) refl w k
    call-run (node place t (method a x es)) at p h w k = whole-method-run a x es place at t p w.0 w.1 w.2 k.1
    call-run (node place t (number v)) at p h w k = absurd (search (rules, h))
    call-run (node place t (text v)) at p h w k = absurd (search (rules, h))
    call-run (node place t (truth v)) at p h w k = absurd (search (rules, h))
    call-run (node place t (name v)) at p h w k = absurd (search (rules, h))
    call-run (node place t (group v)) at p h w k = absurd (search (rules, h))
    call-run (node place t (list v)) at p h w k = absurd (search (rules, h))
    call-run (node place t (mapping v)) at p h w k = absurd (search (rules, h))
    call-run (node place t (item a v)) at p h w k = absurd (search (rules, h))
    call-run (node place t (key a v)) at p h w k = absurd (search (rules, h))
    call-run (node place t (prefix o v)) at p h w k = absurd (search (rules, h))
    call-run (node place t (binary a o v)) at p h w k = absurd (search (rules, h))
    call-run (node place t (choice c a v)) at p h w k = absurd (search (rules, h))
    call-run (node place t (dependency a v)) at p h w k = absurd (search (rules, h))

    small-run : (x : SmallFormTree) (at : At) (p : ℕ) → sp.at_top ≡ false → IsProperSmallForm (length u.files) x → Slots F (small_form_code x at sp p) sp.next → IsWellTypedSmallForm x names → small_breaks names site x ≡ None → IsSmallFormWritten x
        → Run (small_form_code x at sp p) p (p + small_form_size types x) [] []
    small-run (small_declare t x None) at p low h s w b k =
        let v : is_void t ≡ false = not_void t (written-known t k.0) in
        runs_does u F Labels Ticks (PushDefault t) at (store_new sp at t) p (p + 2) [] (t ∷ []) [] refl refl (given-is t [] v)
        (store-run sp.at_top (length sp.scope.globals) sp.next at t (p + 1) (p + 2) (omega arith) v (not-top low t) (stored-slot (one at (PushDefault t)) sp.at_top (length sp.scope.globals) sp.next sp.next at t refl refl s))
    small-run (small_declare t x (Some e)) at p low h s w b k =
        let same : t ≡ type_of e = wrong-same t e (written-known t k.0) k.1 (undeclared x (given_rule t (Some (type_of e))) b).1 in
        stored-run e (This t) at t p same refl w k.1 (not-top low t) (stored-slot (expr_code e sp.scope p []) sp.at_top (length sp.scope.globals) sp.next sp.next at t (expr-no-slots e sp.scope p []) refl s)
    small-run (small_infer x e) at p low h s w b k =
        stored-run e Value at (type_of e) p refl refl w k (not-top low (type_of e)) (stored-slot (expr_code e sp.scope p []) sp.at_top (length sp.scope.globals) sp.next sp.next at (type_of e) (expr-no-slots e sp.scope p []) refl s)
    small-run (small_assign q e) at p low h s w b k =
        let z : ℕ = p + suffixes_size types q.suffixes in
        let below : List Ty = steps_below (kinds_of q) [] in
        let kr : is_known (type_of e) ≡ true = known-type e k.1 in
        let kp : is_known (place_ty names q) ≡ true = written-known (place_ty names q) (place-written u F Labels Ticks names site sp m q w.0.1) in
        place-run u F Labels Ticks names site sp m q (expr_code e sp.scope z below) (type_of e) at taken (expr_size types e) 0 p w.0 k.0 refl
        (assign-is (place_ty names q) (type_of e) below (wrong-ty (place_ty names q) (type_of e) kp kr b) (not_void (type_of e) kr))
        (expr_runs u F Labels Ticks sp.scope names fits e (This (place_ty names q)) z below refl w.1 k.1)
    small-run (small_update q o e) at p low h s w b k =
        let z : ℕ = p + suffixes_size types q.suffixes in
        let below : List Ty = steps_below (kinds_of q) [] in
        place-run u F Labels Ticks names site sp m q (expr_code e sp.scope z below) (type_of e) at (change_of o) (expr_size types e) (change_number o) p w.0 k.0 (change-there o)
        (change-is o (place_ty names q) (type_of e) below (place-written u F Labels Ticks names site sp m q w.0.1) (known-type e k.1) b)
        (expr_runs u F Labels Ticks sp.scope names fits e Value z below refl w.1 k.1)
    small-run (small_step x) at p low h s w b k = step-run u F Labels Ticks names site sp m x at p w k b
    small-run (small_call e) at p low h s w b k = call-run e at p h.0 w k

    pub head-behind : (x : Option SmallTree) (p : ℕ) → sp.at_top ≡ false → Slots F (small_code x sp p) sp.next → IsWellTypedSmall x names site → IsSmallWritten x → Matches u F (names_behind_small x names site) site (behind_small x sp)
    head-behind None p low s w k = m
    head-behind (Some x) p low s w k = small-behind x.form x.at p low s w.1 k

    pub head-run : (x : Option SmallTree) (p : ℕ) → sp.at_top ≡ false → IsProperSmall (length u.files) x → Slots F (small_code x sp p) sp.next → IsWellTypedSmall x names site → IsSmallWritten x → Run (small_code x sp p) p (p + maybe_small_size types x) [] []
    head-run None p low h s w k = runs_to u F Labels Ticks [] p p (p + 0) [] [] (omega arith) (runs_none u F Labels Ticks p [])
    head-run (Some x) p low h s w k = small-run x.form x.at p low h.1 s w.0 w.1 k

    pub test-run : (c : Option Tree) (at : At) (p : ℕ) → IsWellTypedMaybe c names → IsMaybeWritten c → maybe_wrong_rule ty.Bool c ≡ None → Run (condition_code c at sp.scope p) p (p + condition_size types c) [] (ty.Bool ∷ [])
    test-run None at p w k b = runs_one u F Labels Ticks (PushBool true) at p (p + 1) [] (ty.Bool ∷ []) refl refl refl (given-is ty.Bool [] bool-solid)
    test-run (Some e) at p w k b = as-run u F Labels Ticks names site sp m e ty.Bool p [] (wrong-same ty.Bool e bool-known k b) w k

    pub line-run : (l : LineTree) (at : At) (n p : ℕ) → IsProperLine (length u.files) l → Slots F (line_code l at sp n p) sp.next → NewGlobal l → IsWellTypedLine l names site → line_breaks names site l ≡ None → IsLineWritten l
        → LineParsThere u l sp n → LoopAt site sp (p + line_size l (known sp.scope)) → Run (line_code l at sp n p) p (p + line_size l (known sp.scope)) [] []
    line-run (declare t x no_right) at n p h s g w b k ps lp =
        let v : is_void t ≡ false = not_void t (written-known t k.0) in
        runs_does u F Labels Ticks (PushDefault t) at (store_new sp at t) p (p + 2) [] (t ∷ []) [] refl refl (given-is t [] v)
        (store-run sp.at_top (length sp.scope.globals) sp.next at t (p + 1) (p + 2) (omega arith) v g (stored-slot (one at (PushDefault t)) sp.at_top (length sp.scope.globals) sp.next sp.next at t refl refl s))
    line-run (declare t x (a_right r)) at n p h s g w b k ps lp =
        let same : t ≡ right_type r = wrong-ty t (right_type r) (written-known t k.0) (written-known (right_type r) (right-written u F Labels Ticks names site sp m r k.1)) (undeclared x (given_rule t (Some (right_type r))) b).1 in
        right-stored r (This t) at t n p same refl w k.1 ps g (stored-slot (right_code r sp n p []) sp.at_top (length sp.scope.globals) sp.next sp.next at t (right-slots r sp n p []) refl s)
    line-run (infer x r) at n p h s g w b k ps lp =
        right-stored r Value at (right_type r) n p refl refl w k ps g (stored-slot (right_code r sp n p []) sp.at_top (length sp.scope.globals) sp.next sp.next at (right_type r) (right-slots r sp n p []) refl s)
    line-run (assign q r) at n p h s g w b k ps lp =
        let z : ℕ = p + suffixes_size types q.suffixes in
        let below : List Ty = steps_below (kinds_of q) [] in
        let kr : is_known (right_type r) ≡ true = written-known (right_type r) (right-written u F Labels Ticks names site sp m r k.1) in
        let kp : is_known (place_ty names q) ≡ true = written-known (place_ty names q) (place-written u F Labels Ticks names site sp m q w.0.1) in
        place-run u F Labels Ticks names site sp m q (right_code r sp n z below) (right_type r) at taken (right_size r (known sp.scope)) 0 p w.0 k.0 refl
        (assign-is (place_ty names q) (right_type r) below (wrong-ty (place_ty names q) (right_type r) kp kr b) (not_void (right_type r) kr))
        (right-run u F Labels Ticks names site sp m r (This (place_ty names q)) n z below refl w.1 k.1 ps)
    line-run (update q o r) at n p h s g w b k ps lp =
        let z : ℕ = p + suffixes_size types q.suffixes in
        let below : List Ty = steps_below (kinds_of q) [] in
        let kr : is_known (right_type r) ≡ true = written-known (right_type r) (right-written u F Labels Ticks names site sp m r k.1) in
        place-run u F Labels Ticks names site sp m q (right_code r sp n z below) (right_type r) at (change_of o) (right_size r (known sp.scope)) (change_number o) p w.0 k.0 (change-there o)
        (change-is o (place_ty names q) (right_type r) below (place-written u F Labels Ticks names site sp m q w.0.1) kr b)
        (right-run u F Labels Ticks names site sp m r Value n z below refl w.1 k.1 ps)
    line-run (step x) at n p h s g w b k ps lp = step-run u F Labels Ticks names site sp m x at p w k b
    line-run (wait None) at n p h s g w b k ps lp = runs_one u F Labels Ticks WaitAll at p (p + 1) [] [] refl refl refl (given-none [])
    line-run (wait (Some e)) at n p h s g w b k ps lp =
        let z : ℕ = p + files_size types e in
        runs_then u F Labels Ticks (files_code e at sp.scope p []) (one at Wait) p z (p + (files_size types e + 1)) [] (ty.List ty.Text ∷ []) []
        (files-run u F Labels Ticks names site sp m e at p [] w k (when-none (lacks (type_of e) (is_files (type_of e))) rule.WrongType None b).0)
        (runs_one u F Labels Ticks Wait at z (p + (files_size types e + 1)) (ty.List ty.Text ∷ []) [] (omega arith) refl refl (take_one (ty.List ty.Text) [] (list-solid ty.Text)))
    line-run (checkpoint None) at n p h s g w b k ps lp = runs_one u F Labels Ticks SaveHere at p (p + 1) [] [] refl refl refl (given-none [])
    line-run (checkpoint (Some e)) at n p h s g w b k ps lp =
        let z : ℕ = p + expr_size types e in
        runs_then u F Labels Ticks (expr_code e sp.scope p []) (one at Save) p z (p + (expr_size types e + 1)) [] (ty.Text ∷ []) []
        (as-run u F Labels Ticks names site sp m e ty.Text p [] (wrong-same ty.Text e text-known k b) w k)
        (runs_one u F Labels Ticks Save at z (p + (expr_size types e + 1)) (ty.Text ∷ []) [] (omega arith) refl refl (take_one ty.Text [] text-solid))
    line-run (act_line (act place f)) at n p h s g w b k ps lp = act-line-run u F Labels Ticks names site sp m f Whole place at n p w.0 w.1 k ps
    line-run (call_line e) at n p h s g w b k ps lp = call-run e at p h.0 w k
    line-run (print e) at n p h s g w b k ps lp = shown-run e (one at Out) at 2 p w k (out-run at (p + expr_size types e + 1) (p + (expr_size types e + 2)) (omega arith))
    line-run (println None) at n p h s g w b k ps lp =
        runs_does u F Labels Ticks (PushText (10 ∷ [])) at (one at Out) p (p + 2) [] (ty.Text ∷ []) [] refl refl (given-is ty.Text [] text-solid) (out-run at (p + 1) (p + 2) (omega arith))
    line-run (println (Some e)) at n p h s g w b k ps lp =
        let q : ℕ = p + expr_size types e + 1 in
        shown-run e (does (PushText (10 ∷ [])) at ∷ does Concat at ∷ does Out at ∷ []) at 4 p w k
        (runs_does u F Labels Ticks (PushText (10 ∷ [])) at (does Concat at ∷ does Out at ∷ []) q (p + (expr_size types e + 4)) (ty.Text ∷ []) (ty.Text ∷ ty.Text ∷ []) [] refl refl (given-is ty.Text (ty.Text ∷ []) text-solid)
        (runs_does u F Labels Ticks Concat at (does Out at ∷ []) (q + 1) (p + (expr_size types e + 4)) (ty.Text ∷ ty.Text ∷ []) (ty.Text ∷ []) [] refl refl (swap_two ty.Text ty.Text ty.Text [] text-solid text-solid text-solid)
        (out-run at (q + 1 + 1) (p + (expr_size types e + 4)) (omega arith))))
    line-run (error e) at n p h s g w b k ps lp = ended-run e Stop ty.Text at p (wrong-same ty.Text e text-known k b) refl refl (take_one ty.Text [] text-solid) Value refl w k
    line-run (exit e) at n p h s g w b k ps lp = ended-run e Exit ty.Int at p (wrong-same ty.Int e int-known k b) refl refl (take_one ty.Int [] int-solid) Value refl w k
    line-run break at n p h s g w b k ps lp = break-run at p (lp.breaks (break-there b))
    line-run continue at n p h s g w b k ps lp = continue-run at p (lp.loop (loop-there b))
    line-run (return no_right) at n p h s g w b k ps lp = ends-run Return at p (p + 1) [] [] refl refl refl (nothing-returned site.returns refl b)
    line-run (return (a_right r)) at n p h s g w b k ps lp =
        let kr : is_known (right_type r) ≡ true = written-known (right_type r) (right-written u F Labels Ticks names site sp m r k) in
        let same : F.ret ≡ right_type r = value-returned site.returns (right_type r) refl b kr in
        let z : ℕ = p + right_size r (known sp.scope) in
        runs_then u F Labels Ticks (right_code r sp n p []) (does Return at ∷ label [] ∷ []) p z (p + (right_size r (known sp.scope) + 1)) [] (right_type r ∷ []) [] (right-run u F Labels Ticks names site sp m r (returned site.returns) n p [] (is-returned site.returns) w k ps)
        (ends-run Return at z (p + (right_size r (known sp.scope) + 1)) (right_type r ∷ []) [] (omega arith) refl refl (return-row (right_type r) same (not_void (right_type r) kr)))
