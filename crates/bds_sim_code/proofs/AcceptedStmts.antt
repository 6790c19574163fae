-- Accepted statements have what their terms ask: names, values, calls and acts in their places.
use Rattle.std.proofs.Common.{◌≡◌, ℕ, ◌+◌, List, [], ◌∷◌, length, Option, Some, None, Bool, true, false, not, ◌&&◌, ◌||◌, refl, sym, ◌∙◌, ap, subst, cond, rules}
use Rattle.std.specs.Prelude.{⊤}
use Rattle.std.specs.List.{AllByRecursion, list_any}
use Rattle.bds_value.specs.declared.methods.Method.{Method}
use Rattle.bds_value.specs.declared.methods.Method.TheVariants as by
use Rattle.bds_value.specs.declared.value.At.{At}
use Rattle.bds_value.specs.declared.value.Ty.{Ty}
use Rattle.bds_value.specs.declared.value.Ty.TheVariants as ty
use Rattle.bds_value.specs.Fields.{is_solid}
use Rattle.bds_value.specs.Methods.{signature_of}
use Rattle.bds_tree.specs.declared.stmt.Command.{Command}
use Rattle.bds_tree.specs.StmtShape.{is_call}
use Rattle.bds_tree.specs.StmtTree.{SuffixTree, at_index, at_key, PlaceTree, StepTree, step_after, step_before, SmallFormTree, small_declare, small_infer, small_assign, small_update, small_step, small_call, SmallTree, SettingFormTree, setting_named, setting_plain, SettingTree, StmtTree, StmtFormTree, LineTree, RightTree, ActFormTree, BlockTree, StmtTrees, stmt, inner_block, empty, line, when, while, for, each, declare, infer, assign, update, step, call_line, print, println, error, exit, break, continue, return, wait, checkpoint, act_line, right_expr, right_act, act, sys, task, dep, goal, par_call, par_block, block, no_stmts, more_stmts, no_stmt, a_stmt, no_right, a_right, switch, CaseTrees, CaseTree, no_cases, more_cases, a_case}
use Rattle.bds_tree.specs.Tree.{Tree, FormTree, Trees, node, text, name, call, item, key, method, dependency, type_of}
use Rattle.bds_code.specs.declared.unit.Unit.{Unit as CodeUnit}
use Rattle.bds_check_names.specs.declared.names.Asked.{Asked}
use Rattle.bds_check_names.specs.declared.names.Asked.TheVariants.{Whole, Value as AnyValue, This}
use Rattle.bds_check_names.specs.declared.names.Head.{Head}
use Rattle.bds_check_names.specs.declared.names.Names.{Names as Checked}
use Rattle.bds_check_names.specs.declared.names.Site.{Site}
use Rattle.bds_check_names.specs.declared.names.Variable.{Variable}
use Rattle.bds_check_names.specs.declared.names.Seen.{Seen}
use Rattle.bds_check_names.specs.declared.rows.Row.{Row}
use Rattle.bds_check_names.specs.Rows.{row_of}
use Rattle.bds_check_names.specs.Scopes.{apart, found, function_named, inner, is_declared, is_missing, is_value, type_named, with_local}
use Rattle.bds_check_names.specs.Slots.{slots, small_slots, case_slots}
use Rattle.bds_check_names.specs.Types.{differ, is_known}
use Rattle.bds_check_rules.specs.Declarations.{declared_by_small_form, names_with, declared_by, declared_by_small}
use Rattle.bds_check_rules.specs.declared.rules.Rule.{Rule}
use Rattle.bds_check_rules.specs.declared.rules.Rule.TheVariants as rule
use Rattle.bds_check_rules.specs.Breaks.{any_argument_differs, call_rule, is_place, is_place_form, method_rule, name_rule}
use Rattle.bds_check_rules.specs.Pieces.{when as broken_if}
use Rattle.bds_check_rules.specs.StmtBreaks.{act_breaks, act_form_type, any_bad_suffix, any_dependency, commands_of, given_rule, is_empty_list, is_wrong_suffix, line_breaks, break_rule, continue_rule, none_seen, place_ty, return_rule, right_type, seen_behind, small_breaks, stepped, twice_rule}
use Rattle.bds_check_rules.specs.Typing.{count, type_at}
use Rattle.bds_check_typing.specs.Walk.{parameters_of}
use Rattle.bds_check_typing.specs.WellTyped.{IsWellTyped, taken_behind}
use Rattle.bds_check_typing.specs.StmtParts.{returned}
use Rattle.bds_check_typing.specs.WellTypedParts.{IsWellTypedMaybe, IsWellTypedSuffix, AreWellTypedSuffixes, IsWellTypedPlace, IsWellTypedStep, IsWellTypedSmallForm, IsWellTypedSmall, IsWellTypedSettingForm, AreWellTypedSettings, AreWellTypedMaybeSettings, names_behind_small}
use Rattle.bds_check_typing.specs.WellTypedStmts.{IsWellTypedStmt, IsWellTypedForm, IsWellTypedLine, IsWellTypedRight, IsWellTypedActForm, IsWellTypedBlock, AreWellTypedStmts, names_behind, AreWellTypedCases, IsWellTypedCase}
use Rattle.bds_check_typing.specs.Known.{IsValueWritten, IsCallWritten, IsMaybeWritten, IsSuffixWritten, IsPlaceWritten, IsStepWritten, IsSmallFormWritten, IsSmallWritten, IsSettingFormWritten, AreSettingsWritten, AreMaybeSettingsWritten, IsStmtWritten, IsFormWritten, IsLineWritten, IsRightWritten, IsActFormWritten, IsBlockWritten, AreStmtsWritten, AreCasesWritten, IsCaseWritten}
use Rattle.bds_check_typing.proofs.Written.{text-written, texts-written, void-unknown, written-known}
use Rattle.bds_check_size.specs.StmtSize.{maybe_settings}
use Rattle.bds_gen_expr.specs.Numbers.{visible_locals}
use Rattle.bds_gen_stmt.specs.FunctionCode.{opening}
use Rattle.bds_gen_expr.specs.declared.scope.Scope.{Scope}
use Rattle.bds_gen_expr.specs.Scope.{with_slot}
use Rattle.bds_gen_flow.proofs.ExprParts.{called, or-deep-none, or-none, when-none, written-type}
use Rattle.bds_gen_flow.proofs.RowEffects.{not_void, unknown-void}
use Rattle.bds_check_typing.specs.Proper.{IsProperSmallForm, IsProperSmall, IsProperLine, IsProperStmt, IsProperRight, IsProperActForm, IsProperStmtForm, IsProperBlock, AreProperStmts, AreProperCases, IsProperCase}
use Rattle.bds_gen_stmt.proofs.LineFlow.{not-false, is-returned}
use Rattle.bds_sim_terms.specs.steps.Stands.{Source}
use Rattle.bds_sim_code.specs.Here.{Here, AllHere}
use Rattle.bds_meaning.specs.OpeningStatements.{behind, behind_small}
use Rattle.bds_sim_code.specs.StmtHere.{scope_behind, next_behind, scope_with, small_scope, Opens, ReturnsHere, Spawnable, Value, SuffixHere, SuffixesHere, PlaceHere, StepsHere, StepsHereForm, MethodHere, CallHere, SettingHere, SettingsHere, CommandsHere, BodyHere, ActHere, LoneActHere, RightHere, LineHere, SmallFormHere, SmallHere, TestHere, StmtHere, FormHere, ParsHere, RightParsHere, FormParsHere, BlockHere, StmtsHere, CasesHere, CaseHere, Leaps, no_leaps, in_loop, in_switch}
use Rattle.bds_sim_code.proofs.InForce.{InForce, local-in-force, visible-in-force, declared-in-force, not-there}
use Rattle.bds_sim_code.proofs.AcceptedMethods.{change-said, method-counted}
use Rattle.bds_sim_code.proofs.AcceptedExprs.{one-type, pieces-known, there-known, name-known, callable, method-gives, expr-here, arguments-here}

abbrev pub IsNoLine : StmtFormTree → Type 0
IsNoLine (line l) = ⊥
IsNoLine _ = ⊤

-- the same site, where `break` and `continue` may stand or not
abbrev pub leaping : Site → Leaps → Site
leaping site b = record site { in_loop = b.continues; may_break = b.breaks }

-- what may stand there may stand here
pub record Covered (b here : Leaps) : Type 0 where
  pub breaks : b.breaks ≡ true → here.breaks ≡ true
  pub continues : b.continues ≡ true → here.continues ≡ true

abbrev pub covered : (b : Leaps) → Covered b b
covered b = record { breaks = λ e. e; continues = λ e. e }

abbrev covered-inside : (b here : Leaps) → Covered b here → Covered (in_switch b) (in_switch here)
covered-inside b here lp = record { breaks = λ e. refl; continues = lp.continues }

module _ (o : Source) (u : CodeUnit) where
  module _ (names : Checked) (sc : Scope) (in_force : InForce o u names sc) where
    pub value-here : (e : Tree) (asked : Asked) → is_value asked ≡ true → IsWellTyped e names asked → IsValueWritten e → Value o u names sc e
    value-here e asked v w k = (one-type e k, expr-here o u names sc in_force e asked v w k)

    pub test-here : (e : Option Tree) → IsWellTypedMaybe e names → IsMaybeWritten e → TestHere o u names sc e
    test-here None w k = tt
    test-here (Some e) w k = value-here e AnyValue refl w k

    -- Places

    suffix-here : (x : SuffixTree) → IsWellTypedSuffix x names → IsSuffixWritten x → SuffixHere o u names sc x
    suffix-here (at_index e) w k = value-here e AnyValue refl w k
    suffix-here (at_key e) w k = value-here e AnyValue refl w k

    suffixes-here : (xs : List SuffixTree) → AreWellTypedSuffixes xs names → AllByRecursion IsSuffixWritten xs → SuffixesHere o u names sc xs
    suffixes-here [] w k = tt
    suffixes-here (x ∷ xs) w k = (suffix-here x w.0 k.0, suffixes-here xs w.1 k.1)

    pub place-here : (q : PlaceTree) → IsWellTypedPlace q names → IsPlaceWritten q → PlaceHere o u names sc q
    place-here q w k =
        let others : Option Rule = broken_if (list_any is_wrong_suffix q.suffixes) rule.WrongType (broken_if (any_bad_suffix (type_named q.name names) q.suffixes) rule.BadItem None) in
        (there-known o u names sc in_force q.name (when-none (is_missing names.finding (found q.name names)) rule.UnknownName others w.1).0, suffixes-here q.suffixes w.0 k)

    step-here : (x : StepTree) → IsWellTypedStep x names → IsStepWritten x → PlaceHere o u names sc (stepped x)
    step-here (step_after q op) w k = place-here q w k
    step-here (step_before op q) w k = place-here q w k

    -- Calls that stand alone

    mutual
      steps-here : (a : Tree) (asked : Asked) → is_place a ≡ true → IsWellTyped a names asked → IsValueWritten a → StepsHere o u names sc a
      steps-here (node at t f) asked p w k = form-steps-here f at t asked p w k

      form-steps-here : (f : FormTree) (at : At) (t : Ty) (asked : Asked) → is_place_form f ≡ true → IsWellTyped (node at t f) names asked → IsValueWritten (node at t f) → StepsHereForm o u names sc f
      form-steps-here (name x) at t asked p w k = name-known o u names sc in_force x (or-deep-none (name_rule names x) (type_named x names) w.1)
      form-steps-here (item a i) at t asked p w k = (steps-here a AnyValue p w.2.0 k.1.0, value-here i AnyValue refl w.2.1 k.1.1)
      form-steps-here (key a i) at t asked p w k = (steps-here a AnyValue p w.2.0 k.1.0, value-here i AnyValue refl w.2.1 k.1.1)
      form-steps-here _ at t asked p w k = absurd (search (rules, p))

    place-asked : (a : Tree) (es : Trees) (k : Row) → k.changes ≡ true → method_rule Whole a (Some k) es ≡ None → is_place a ≡ true
    place-asked a es k c b =
        let last : Option Rule = broken_if (k.changes && is_value Whole) rule.MutatorValue None in
        let third : Option Rule = broken_if (k.changes && not (is_place a)) rule.NotPlace last in
        let second : Option Rule = broken_if (is_value Whole && not k.changes && not (is_known k.gives)) rule.VoidValue third in
        let r1 = when-none (any_argument_differs k.takes es) rule.WrongType second b in
        let r2 = when-none (is_value Whole && not k.changes && not (is_known k.gives)) rule.VoidValue third r1.1 in
        let r3 = (when-none (k.changes && not (is_place a)) rule.NotPlace last r2.1).0 in
        not-false (is_place a) (ap (λ (x : Bool). x && not (is_place a)) (sym c) ∙ r3)

    method-here : (sig : Option Method) (place : At) (t : Ty) (a : Tree) (x : List ℕ) (es : Trees) → signature_of (type_of a) x (count es) ≡ sig → IsWellTyped (node place t (method a x es)) names Whole → IsCallWritten (node place t (method a x es))
        → MethodHere o u names sc sig (node place t (method a x es)) a es
    method-here sig place t a x es e w k = by_signature sig e
      where
        b : method_rule Whole a (row_of (type_of a) x (count es)) es ≡ None
        b = or-deep-none (method_rule Whole a (row_of (type_of a) x (count es)) es) (type_at names Whole (method a x es)) w.1

        arguments : AllHere o u names sc es
        arguments = arguments-here o u names sc in_force es (taken_behind (type_of a) x es) w.2.1 k.1.1

        whole : ((c : ℕ) → signature_of (type_of a) x (count es) ≡ Some (by.Change c) → ⊥) → Here o u names sc (node place t (method a x es))
        whole v = (method-gives o u names sc in_force (signature_of (type_of a) x (count es)) Whole a es x t refl k.1.0 b w.0 v, one-type a k.1.0, expr-here o u names sc in_force a AnyValue refl w.2.0 k.1.0, arguments)

        by_signature : (sig : Option Method) → signature_of (type_of a) x (count es) ≡ sig → MethodHere o u names sc sig (node place t (method a x es)) a es
        by_signature None e = whole (λ c q. absurd (let clash : None ≡ Some (by.Change c) = sym e ∙ q in cc))
        by_signature (Some (by.Plain m)) e = whole (λ c q. absurd (let clash : Some (by.Plain m) ≡ Some (by.Change c) = sym e ∙ q in cc))
        by_signature (Some (by.File m)) e = whole (λ c q. absurd (let clash : Some (by.File m) ≡ Some (by.Change c) = sym e ∙ q in cc))
        by_signature (Some (by.Change m)) e =
            let counted = method-counted o u names sc (type_of a) x (count es) (by.Change m) (written-type a k.1.0) e in
            let said = change-said (type_of a) x (count es) m e in
            let placed : is_place a ≡ true = place-asked a es said.0 said.2 (ap (λ (r : Option Row). method_rule Whole a r es) (sym said.1) ∙ b) in
            (counted.0, counted.1, steps-here a AnyValue placed w.2.0 k.1.0, arguments)

    pub call-here : (e : Tree) → is_call e ≡ true → IsWellTyped e names Whole → IsCallWritten e → CallHere o u names sc e
    call-here (node place t (call x es)) h w k =
        let c : call_rule false (function_named x names.functions) es ≡ None = or-deep-none (call_rule false (function_named x names.functions) es) (type_at names Whole (call x es)) w.1 in
        (callable o u names sc in_force x es t false c w.0, arguments-here o u names sc in_force es (parameters_of (function_named x names.functions)) w.2 k.1)
    call-here (node place t (method a x es)) h w k = method-here (signature_of (type_of a) x (count es)) place t a x es refl w k
    call-here (node place t _) h w k = absurd (search (rules, h))

    -- Calls in threads of their own

    spawnable : (x : List ℕ) (es : Trees) → call_rule false (function_named x names.functions) es ≡ None → Spawnable o u x (count es)
    spawnable x es b = by_head (function_named x names.functions) refl b
      where
        by_head : (h : Option Head) → function_named x names.functions ≡ h → call_rule false h es ≡ None → Spawnable o u x (count es)
        by_head None n b = absurd (search (rules, b))
        by_head (Some h) n b = let there = in_force.calls x h n in record { f = there.f; there = there.there; takes = there.takes ∙ (called false h es b).count }

    -- Options and commands

    setting-here : (f : SettingFormTree) → IsWellTypedSettingForm f names → IsSettingFormWritten f → SettingHere o u names sc f
    setting-here (setting_named x e) w k = value-here e AnyValue refl w k
    setting-here (setting_plain (node at t (dependency a b))) w k = (value-here a AnyValue refl w.2.0 k.1.0, value-here b AnyValue refl w.2.1 k.1.1)
    setting-here (setting_plain (node at t f)) w k = value-here (node at t f) AnyValue refl w k

    settings-here : (xs : List SettingTree) (of_dep : Bool) (seen : Seen) → AreWellTypedSettings xs names of_dep seen → AreSettingsWritten xs → SettingsHere o u names sc xs
    settings-here [] of_dep seen w k = tt
    settings-here (x ∷ xs) of_dep seen w k = (setting-here x.form w.0.0 k.0, settings-here xs of_dep (seen_behind seen x.form) w.1 k.1)

    maybe-settings-here : (os : Option (List SettingTree)) → AreWellTypedMaybeSettings os names → AreMaybeSettingsWritten os → SettingsHere o u names sc (maybe_settings os)
    maybe-settings-here None w k = tt
    maybe-settings-here (Some os) w k = settings-here os false none_seen w k

    commands-here : (cs : List Command) → CommandsHere o u names sc cs
    commands-here [] = tt
    commands-here (c ∷ cs) = (pieces-known o u names sc c.text, commands-here cs)

    body-here : (cs : List Command) → is_empty_list cs ≡ false → BodyHere o u names sc cs
    body-here [] q = absurd (search (rules, q))
    body-here (c ∷ cs) q = commands-here (c ∷ cs)

    -- Acts

    pub act-here : (f : ActFormTree) (asked : Asked) → IsWellTypedActForm f names → act_breaks names asked f ≡ None → IsActFormWritten f → is_solid (act_form_type f) ≡ true → ActHere o u names sc f
    act-here (sys ps) asked w b k v = pieces-known o u names sc ps
    act-here (goal e) asked w b k v = value-here e AnyValue refl w k
    act-here (par_call x es) asked w b k v = (spawnable x es b, arguments-here o u names sc in_force es (parameters_of (function_named x names.functions)) w k)
    act-here (par_block y) asked w b k v = tt
    act-here (task os y) asked w b k v = (maybe-settings-here os w.0 k, body-here (commands_of y) (when-none (is_empty_list (commands_of y)) rule.NoCommand None b).0)
    act-here (dep os y) asked w b k v = absurd (let clash : true ≡ false = sym (written-known ty.Void v) ∙ void-unknown in cc)

    pub lone-act-here : (f : ActFormTree) (asked : Asked) → IsWellTypedActForm f names → act_breaks names asked f ≡ None → IsActFormWritten f → LoneActHere o u names sc f
    lone-act-here (dep os y) asked w b k =
        let last : Option Rule = broken_if (is_value asked) rule.VoidValue None in
        let second : Option Rule = broken_if (is_empty_list (commands_of y)) rule.NoCommand last in
        let r = when-none (not (any_dependency os)) rule.NoDep second b in
        (settings-here os true none_seen w.0 k, body-here (commands_of y) (when-none (is_empty_list (commands_of y)) rule.NoCommand last r.1).0)
    lone-act-here (sys ps) asked w b k = act-here (sys ps) asked w b k text-written
    lone-act-here (goal e) asked w b k = act-here (goal e) asked w b k texts-written
    lone-act-here (par_call x es) asked w b k = act-here (par_call x es) asked w b k text-written
    lone-act-here (par_block y) asked w b k = act-here (par_block y) asked w b k text-written
    lone-act-here (task os y) asked w b k = act-here (task os y) asked w b k text-written

    pub right-here : (r : RightTree) (asked : Asked) → is_value asked ≡ true → IsWellTypedRight r names asked → IsRightWritten r → RightHere o u names sc r
    right-here (right_expr e) asked v w k = value-here e asked v w k
    right-here (right_act (act at f)) asked v w k = act-here f asked w.0 w.1 k.1 k.0

    module _ (site : Site) (b : Leaps) where
      abbrev typed_site : Site
      typed_site = leaping site b

      opens : (x : List ℕ) (others : Option Rule) → site.at_top ≡ false → twice_rule names typed_site x others ≡ None → Opens names site x
      opens x others low q = (low, not-there o u names sc in_force site x low (when-none (is_declared names site x) rule.TwiceDeclared others q).0)

      breaks-here : (loops : Leaps) → Covered b loops → break_rule typed_site ≡ None → loops.breaks ≡ true
      breaks-here loops lp q = lp.breaks (not-false b.breaks (when-none (not b.breaks) rule.BreakOutside None q).0)

      continues-here : (loops : Leaps) → Covered b loops → continue_rule typed_site ≡ None → loops.continues ≡ true
      continues-here loops lp q = lp.continues (not-false b.continues (when-none (not b.continues) rule.BreakOutside None q).0)

      back-nothing : (r : Option Ty) → return_rule r None ≡ None → ReturnsHere r 0
      back-nothing None q = absurd (search (rules, q))
      back-nothing (Some t) q = ap (λ x. cond x 0 1) (unknown-void t (when-none (is_known t) rule.WrongType None q).0)

      back-value : (r : Option Ty) (given : Ty) → return_rule r (Some given) ≡ None → ReturnsHere r 1
      back-value None given q = absurd (search (rules, q))
      back-value (Some t) given q =
          let p = or-none (not (is_known t)) (differ t given) (when-none (not (is_known t) || differ t given) rule.WrongType None q).0 in
          ap (λ x. cond x 0 1) (not_void t (not-false (is_known t) p.0))

      pub line-here : (l : LineTree) (loops : Leaps) → site.at_top ≡ false → Covered b loops → IsProperLine (length u.files) l → IsWellTypedLine l names typed_site → line_breaks names typed_site l ≡ None → IsLineWritten l
          → LineHere o u names sc site loops l
      line-here (declare t x no_right) loops low lp h w q k = opens x None low q
      line-here (declare t x (a_right r)) loops low lp h w q k = (opens x (given_rule t (Some (right_type r))) low q, right-here r (This t) refl w k.1)
      line-here (infer x r) loops low lp h w q k = (opens x None low q, right-here r AnyValue refl w k)
      line-here (assign p r) loops low lp h w q k = (place-here p w.0 k.0, right-here r (This (place_ty names p)) refl w.1 k.1)
      line-here (update p op r) loops low lp h w q k = (place-here p w.0 k.0, right-here r AnyValue refl w.1 k.1)
      line-here (step x) loops low lp h w q k = step-here x w k
      line-here (call_line e) loops low lp h w q k = call-here e h.0 w k
      line-here (print e) loops low lp h w q k = value-here e AnyValue refl w k
      line-here (println None) loops low lp h w q k = tt
      line-here (println (Some e)) loops low lp h w q k = value-here e AnyValue refl w k
      line-here (error e) loops low lp h w q k = value-here e AnyValue refl w k
      line-here (exit e) loops low lp h w q k = value-here e AnyValue refl w k
      line-here break loops low lp h w q k = breaks-here loops lp q
      line-here continue loops low lp h w q k = continues-here loops lp q
      line-here (return no_right) loops low lp h w q k = back-nothing site.returns q
      line-here (return (a_right r)) loops low lp h w q k = (back-value site.returns (right_type r) q, right-here r (returned site.returns) (is-returned site.returns) w k)
      line-here (wait None) loops low lp h w q k = tt
      line-here (wait (Some e)) loops low lp h w q k = value-here e AnyValue refl w k
      line-here (checkpoint None) loops low lp h w q k = tt
      line-here (checkpoint (Some e)) loops low lp h w q k = value-here e AnyValue refl w k
      line-here (act_line (act at f)) loops low lp h w q k = lone-act-here f Whole w.0 w.1 k

      small-form-here : (x : SmallFormTree) → site.at_top ≡ false → IsProperSmallForm (length u.files) x → IsWellTypedSmallForm x names → small_breaks names typed_site x ≡ None → IsSmallFormWritten x → SmallFormHere o u names sc site x
      small-form-here (small_declare t x None) low h w q k = opens x None low q
      small-form-here (small_declare t x (Some e)) low h w q k = (opens x (given_rule t (Some (type_of e))) low q, value-here e (This t) refl w k.1)
      small-form-here (small_infer x e) low h w q k = (opens x None low q, value-here e AnyValue refl w k)
      small-form-here (small_assign p e) low h w q k = (place-here p w.0 k.0, value-here e (This (place_ty names p)) refl w.1 k.1)
      small-form-here (small_update p op e) low h w q k = (place-here p w.0 k.0, value-here e AnyValue refl w.1 k.1)
      small-form-here (small_step x) low h w q k = step-here x w k
      small-form-here (small_call e) low h w q k = call-here e h.0 w k

      pub small-here : (x : Option SmallTree) → site.at_top ≡ false → IsProperSmall (length u.files) x → IsWellTypedSmall x names typed_site → IsSmallWritten x → SmallHere o u names sc site x
      small-here None low h w k = tt
      small-here (Some x) low h w k = small-form-here x.form low h.1 w.0 w.1 k

      -- the names behind

      undeclared : (x : List ℕ) (others : Option Rule) → twice_rule names typed_site x others ≡ None → is_declared names site x ≡ false
      undeclared x others q = (when-none (is_declared names site x) rule.TwiceDeclared others q).0

      pub stmt-behind : (s : StmtTree) (next : ℕ) → site.at_top ≡ false → IsWellTypedStmt s names typed_site → InForce o u (behind names site s) (scope_behind s sc next)
      stmt-behind (stmt at (line (declare t x no_right))) next low w = declared-in-force o u names sc in_force site x t next low (undeclared x None w.1)
      stmt-behind (stmt at (line (declare t x (a_right r)))) next low w = declared-in-force o u names sc in_force site x t next low (undeclared x (given_rule t (Some (right_type r))) w.1)
      stmt-behind (stmt at (line (infer x r))) next low w = declared-in-force o u names sc in_force site x (right_type r) next low (undeclared x None w.1)
      stmt-behind (stmt at (line _)) next low w = in_force
      stmt-behind (stmt at _) next low w = in_force

      pub small-behind : (x : Option SmallTree) (next : ℕ) → site.at_top ≡ false → IsWellTypedSmall x names typed_site → InForce o u (behind_small names site x) (small_scope x sc next)
      small-behind None next low w = in_force
      small-behind (Some x) next low w = by x.form w.1
        where
          by : (f : SmallFormTree) → small_breaks names typed_site f ≡ None → InForce o u (names_with names site (declared_by_small_form f)) (scope_with sc next (declared_by_small_form f))
          by (small_declare t y None) q = declared-in-force o u names sc in_force site y t next low (undeclared y None q)
          by (small_declare t y (Some e)) q = declared-in-force o u names sc in_force site y t next low (undeclared y (given_rule t (Some (type_of e))) q)
          by (small_infer y e) q = declared-in-force o u names sc in_force site y (type_of e) next low (undeclared y None q)
          by _ q = in_force

      same-with : (v : Option Variable) → names_with names typed_site v ≡ names_with names site v
      same-with None = refl
      same-with (Some v) = refl

      pub same-behind : (s : StmtTree) → names_behind s names typed_site ≡ behind names site s
      same-behind s = same-with (declared_by s)

      pub same-small : (x : Option SmallTree) → names_behind_small x names typed_site ≡ behind_small names site x
      same-small x = same-with (declared_by_small x)

  -- Statements, in a function or within another statement

  mutual
    pub stmt-here : (s : StmtTree) (names : Checked) (site : Site) (b : Leaps) (sc : Scope) (next : ℕ) (loops : Leaps) → InForce o u names sc → site.at_top ≡ false → Covered b loops
        → IsProperStmt (length u.files) s → IsWellTypedStmt s names (leaping site b) → IsStmtWritten s → StmtHere o u s names site sc next loops
    stmt-here (stmt at (line l)) names site b sc next loops a low lp h w k = (line-here names sc a site b l loops low lp h.1 w.0 w.1 k, pars-here l names sc site b a h.1 w.0 k)
    stmt-here (stmt at f) names site b sc next loops a low lp h w k = form-here f names site b sc next loops a lp tt h.1 w.0 k

    -- at the top level too, where it is no line
    pub form-here : (f : StmtFormTree) (names : Checked) (site : Site) (b : Leaps) (sc : Scope) (next : ℕ) (loops : Leaps) → InForce o u names sc → Covered b loops → IsNoLine f
        → IsProperStmtForm (length u.files) f → IsWellTypedForm f names (leaping site b) → IsFormWritten f → FormHere o u f names site sc next loops
    form-here (inner_block x) names site b sc next loops a lp n h w k = block-here x names (inner names site) b sc next loops a refl lp h w k
    form-here empty names site b sc next loops a lp n h w k = tt
    form-here (line l) names site b sc next loops a lp n h w k = absurd n
    form-here (when c x no_stmt) names site b sc next loops a lp n h w k =
        (value-here names sc a c AnyValue refl w.0 k.0, stmt-here x names (inner names site) b sc next loops a refl lp h.1 w.1 k.1)
    form-here (when c x (a_stmt y)) names site b sc next loops a lp n h w k = (
      value-here names sc a c AnyValue refl w.0 k.0,
      stmt-here x names (inner names site) b sc next loops a refl lp h.1 w.1 k.1,
      stmt-here y names (inner names site) b sc (next + slots x) loops a refl lp h.2 w.2 k.2,
    )
    form-here (while c x) names site b sc next loops a lp n h w k = (value-here names sc a c AnyValue refl w.0 k.0, stmt-here x names (inner names site) in_loop sc next in_loop a refl (covered in_loop) h.1 w.1 k.1)
    form-here (for first c last x) names site b sc next loops a lp n h w k =
        let within : Checked = behind_small names (inner names site) first in
        let own : Scope = small_scope first sc next in
        let same = same-small names sc a (inner names site) b first in
        let behind_a : InForce o u within own = small-behind names sc a (inner names site) b first next refl w.0 in
        let w1 : IsWellTypedMaybe c within = subst (λ m. IsWellTypedMaybe c m) same w.1 in
        let w2 : IsWellTypedSmall last within (leaping (inner within site) b) = subst (λ m. IsWellTypedSmall last m (leaping (inner m site) b)) same w.2 in
        let w3 : IsWellTypedStmt x within (leaping (inner within site) in_loop) = subst (λ m. IsWellTypedStmt x m (leaping (inner m site) in_loop)) same w.3 in (
          small-here names sc a (inner names site) b first refl h.0 w.0 k.0,
          test-here within own behind_a c w1 k.1,
          stmt-here x within (inner within site) in_loop own (next + small_slots first) in_loop behind_a refl (covered in_loop) h.3 w3 k.3,
          small-here within own behind_a (inner within site) b last refl h.2 w2 k.2,
        )
    form-here (each t x e y) names site b sc next loops a lp n h w k = (
      value-here names sc a e AnyValue refl w.0 k.1,
      stmt-here y (with_local names x t) (inner (with_local names x t) site) in_loop (with_slot sc x t (next + 2)) (next + 2 + 1) in_loop (local-in-force o u names sc a x t (next + 2)) refl (covered in_loop) h.3 w.1 k.2,
    )
    form-here (switch e cs) names site b sc next loops a lp n h w k = (value-here names sc a e AnyValue refl w.0 k.0, cases-here cs names site b sc (next + 1) (in_switch loops) a (covered-inside b loops lp) h.1 w.1 k.1)

    cases-here : (cs : CaseTrees) (names : Checked) (site : Site) (b : Leaps) (sc : Scope) (next : ℕ) (loops : Leaps) → InForce o u names sc → Covered (in_switch b) loops
        → AreProperCases (length u.files) cs → AreWellTypedCases cs names (leaping site b) → AreCasesWritten cs → CasesHere o u cs names site sc next loops
    cases-here no_cases names site b sc next loops a lp h w k = tt
    cases-here (more_cases c cs) names site b sc next loops a lp h w k = (case-here c names site b sc next loops a lp h.0 w.0 k.0, cases-here cs names site b sc (next + case_slots c) loops a lp h.1 w.1 k.1)

    case-here : (c : CaseTree) (names : Checked) (site : Site) (b : Leaps) (sc : Scope) (next : ℕ) (loops : Leaps) → InForce o u names sc → Covered (in_switch b) loops
        → IsProperCase (length u.files) c → IsWellTypedCase c names (leaping site b) → IsCaseWritten c → CaseHere o u c names site sc next loops
    case-here (a_case at l ss) names site b sc next loops a lp h w k = (test-here names sc a l w.0 k.0, stmts-here ss names (inner names site) (in_switch b) sc next loops a refl lp h.2 w.1 k.1)

    -- the `par` blocks of a line
    pub pars-here : (l : LineTree) (names : Checked) (sc : Scope) (site : Site) (b : Leaps) → InForce o u names sc → IsProperLine (length u.files) l → IsWellTypedLine l names (leaping site b) → IsLineWritten l → ParsHere o u l names sc
    pars-here (declare t x no_right) names sc site b a h w k = tt
    pars-here (declare t x (a_right r)) names sc site b a h w k = right-pars-here r (This t) names sc a h.2 w k.1
    pars-here (infer x r) names sc site b a h w k = right-pars-here r AnyValue names sc a h.1 w k
    pars-here (assign p r) names sc site b a h w k = right-pars-here r (This (place_ty names p)) names sc a h.1 w.1 k.1
    pars-here (update p op r) names sc site b a h w k = right-pars-here r AnyValue names sc a h.1 w.1 k.1
    pars-here (return (a_right r)) names sc site b a h w k = right-pars-here r (returned site.returns) names sc a h w k
    pars-here (act_line (act at f)) names sc site b a h w k = form-pars-here f names sc a h.1 w.0 k
    pars-here _ names sc site b a h w k = tt

    pub right-pars-here : (r : RightTree) (asked : Asked) (names : Checked) (sc : Scope) → InForce o u names sc → IsProperRight (length u.files) r → IsWellTypedRight r names asked → IsRightWritten r → RightParsHere o u r names sc
    right-pars-here (right_expr e) asked names sc a h w k = tt
    right-pars-here (right_act (act at f)) asked names sc a h w k = form-pars-here f names sc a h.1 w.0 k.1

    form-pars-here : (f : ActFormTree) (names : Checked) (sc : Scope) → InForce o u names sc → IsProperActForm (length u.files) f → IsWellTypedActForm f names → IsActFormWritten f → FormParsHere o u f names sc
    form-pars-here (par_block y) names sc a h w k =
        block-here y names (apart names) no_leaps (opening sc (visible_locals sc.locals)).scope (length (visible_locals sc.locals) + 8) no_leaps (visible-in-force o u names sc a) refl (covered no_leaps) h w.0 k
    form-pars-here (sys ps) names sc a h w k = tt
    form-pars-here (task os y) names sc a h w k = tt
    form-pars-here (dep os y) names sc a h w k = tt
    form-pars-here (goal e) names sc a h w k = tt
    form-pars-here (par_call x es) names sc a h w k = tt

    pub block-here : (x : BlockTree) (names : Checked) (site : Site) (b : Leaps) (sc : Scope) (next : ℕ) (loops : Leaps) → InForce o u names sc → site.at_top ≡ false → Covered b loops
        → IsProperBlock (length u.files) x → IsWellTypedBlock x names (leaping site b) → IsBlockWritten x → BlockHere o u x names site sc next loops
    block-here (block at ss) names site b sc next loops a low lp h w k = stmts-here ss names site b sc next loops a low lp h.1 w k

    stmts-here : (ss : StmtTrees) (names : Checked) (site : Site) (b : Leaps) (sc : Scope) (next : ℕ) (loops : Leaps) → InForce o u names sc → site.at_top ≡ false → Covered b loops
        → AreProperStmts (length u.files) ss → AreWellTypedStmts ss names (leaping site b) → AreStmtsWritten ss → StmtsHere o u ss names site sc next loops
    stmts-here no_stmts names site b sc next loops a low lp h w k = tt
    stmts-here (more_stmts x xs) names site b sc next loops a low lp h w k =
        let rest : AreWellTypedStmts xs (behind names site x) (leaping site b) = subst (λ m. AreWellTypedStmts xs m (leaping site b)) (same-behind names sc a site b x) w.1 in (
          stmt-here x names site b sc next loops a low lp h.0 w.0 k.0,
          stmts-here xs (behind names site x) site b (scope_behind x sc next) (next_behind x next) loops (stmt-behind names sc a site b x next low w.0) low lp h.1 rest k.1,
        )
