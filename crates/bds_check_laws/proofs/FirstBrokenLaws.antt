-- The walk finds the first broken node.
use Rattle.std.proofs.Common.{◌≡◌, Bool, true, false, not, ◌&&◌, List, [], ◌∷◌, Option, Some, None, ◌⊎◌, inl, inr, is_none, refl, ap, sym, subst, ◌∙◌, if◌then◌else◌, rules}
use Rattle.bds_value.specs.declared.value.At.{At}
use Rattle.bds_value.specs.declared.value.Ty.{Ty}
use Rattle.bds_value.specs.declared.value.Ty.TheVariants as ty
use Rattle.bds_tree.specs.declared.stmt.Command.{Command}
use Rattle.bds_tree.specs.Tree.{Tree, FormTree, Trees, TreePairs, node, number, text, truth, name, call, group, list, mapping, item, key, method, prefix, binary, choice, dependency, none, more, no_pairs, more_pairs, type_of}
use Rattle.bds_tree.specs.StmtTree.{SuffixTree, at_index, at_key, PlaceTree, StepTree, step_after, step_before, SmallFormTree, small_declare, small_infer, small_assign, small_update, small_step, small_call, SmallTree, SettingFormTree, setting_named, setting_plain, SettingTree, StmtTree, StmtFormTree, LineTree, RightTree, ActTree, ActFormTree, BlockTree, StmtTrees, MaybeStmt, MaybeRight, FunctionTree, PartTree, ScriptTree, stmt, inner_block, empty, line, when, while, for, each, declare, infer, assign, update, step, call_line, print, println, error, exit, break, continue, return, wait, checkpoint, act_line, right_expr, right_act, act, sys, task, dep, goal, par_call, par_block, block, no_stmts, more_stmts, no_stmt, a_stmt, no_right, a_right, a_function, an_include, a_statement, CaseTrees, CaseTree, switch, no_cases, more_cases, a_case}
use Rattle.bds_check_names.specs.declared.names.Names.{Names}
use Rattle.bds_check_names.specs.declared.names.Head.{Head}
use Rattle.bds_check_names.specs.declared.names.Variable.{Variable}
use Rattle.bds_check_names.specs.declared.names.Asked.{Asked}
use Rattle.bds_check_names.specs.declared.names.Asked.TheVariants.{Whole, Value, This}
use Rattle.bds_check_names.specs.declared.names.Site.{Site}
use Rattle.bds_check_names.specs.declared.names.Seen.{Seen}
use Rattle.bds_check_names.specs.Rows.{row_of}
use Rattle.bds_check_names.specs.Types.{is_known}
use Rattle.bds_check_names.specs.Scopes.{function_named, with_local, inner, in_loop, apart, top, in_function, in_switch}
use Rattle.bds_check_rules.specs.declared.rules.Rule.{Rule}
use Rattle.bds_check_rules.specs.Pieces.{sys_rule}
use Rattle.bds_check_rules.specs.Typing.{asked_list_item, asked_map_item, count}
use Rattle.bds_check_rules.specs.StmtBreaks.{place_ty, none_seen, seen_behind, commands_of}
use Rattle.bds_check_typing.specs.Walk.{Broken, JudgedTrees, JudgedPairs, first, placed, also, also_pair, judge, judge_form, judge_arguments, judge_items, judge_values, beside, value_beside, items_asked, is_open, no_whole, parameters_of, taken_by}
use Rattle.bds_check_typing.specs.WellTyped.{unknown_types}
use Rattle.bds_check_typing.specs.StmtParts.{judge_maybe, judge_suffix, judge_suffixes, judge_place, judge_step, judge_small_form, judge_small, judge_setting_form, judge_setting, judge_settings, commands_broken, returned}
use Rattle.bds_check_typing.specs.StmtWalk.{judge_stmt, judge_stmt_form, judge_else, judge_line, judge_right, judge_maybe_right, judge_act, judge_act_form, judge_block, judge_stmts, judge_cases, judge_case}
use Rattle.bds_check_typing.specs.WellTypedParts.{names_behind_small}
use Rattle.bds_check_typing.specs.WellTypedStmts.{names_behind}
use Rattle.bds_check_typing.proofs.WellTypedPartLaws.{small-names-kept}
use Rattle.bds_check_typing.proofs.WellTypedStmtLaws.{names-kept}
use Rattle.bds_check_typing.specs.Program.{heads_of, with_head, names_of, first_globals, globals_of, with_parameters, judge_function, judge_part, judge_parts, script_breaks, first_broken}
use Rattle.bds_check_laws.specs.TypedAs.{ArePartsTypedAs}
use Rattle.bds_check_typing.specs.WellTypedScripts.{names_behind_part}
use Rattle.bds_check_laws.specs.FirstBroken.{InOneOf, IsBeside, IsBesideValues, IsFirstIn, IsFirstInForm, IsFirstInArguments, IsFirstInItems, IsFirstInPairs, IsFirstInMaybe, IsFirstInSuffix, IsFirstInSuffixes, IsFirstInPlace, IsFirstInStep, IsFirstInSmallForm, IsFirstInSmall, IsFirstInSettingForm, IsFirstInSetting, IsFirstInSettings, IsFirstInCommands, IsFirstInStmt, IsFirstInStmtForm, IsFirstInElse, IsFirstInLine, IsFirstInRight, IsFirstInMaybeRight, IsFirstInAct, IsFirstInActForm, IsFirstInBlock, IsFirstInStmts, IsFirstInFunction, IsFirstInPart, IsFirstInParts, AreGlobalsBehind, IsFirstBroken, IsFirstInCases, IsFirstInCase}
use Rattle.bds_check_typing.proofs.WellTypedScriptLaws.{part-names-kept}
use Rattle.bds_check_laws.proofs.FirstBrokenParts.{is-beside, only-beside, is-value-beside, only-value-beside, are-globals, only-globals}
use Rattle.bds_check_laws.proofs.TypedAsLaws.{Types, expr-types, form-types, maybe-types, suffix-types, suffixes-types, place-types, small-form-types, small-types, setting-form-types, setting-types, settings-types, stmt-types, stmt-form-types, act-form-types, block-types, part-types, parts-types, case-types}

-- this node is found exactly where it is the first
record Finds (found : Option Broken) (b : Broken) (IsFirst : Type 0) : Type 0 where
  to : found ≡ Some b → IsFirst
  from : IsFirst → found ≡ Some b

itself : {found : Option Broken} {b : Broken} → Finds found b (found ≡ Some b)
itself = record { to = λ q. q; from = λ q. q }

never : {b : Broken} → Finds None b ⊥
never = record { to = λ q. absurd (search (rules, q)); from = λ p. absurd p }

into : {X One : Type 0} {IsTyped Behind : X → Type 0} (x y : Option Broken) (made : X) (b : Broken) →
    (x ≡ Some b → One) → (x ≡ None → IsTyped made) → (y ≡ Some b → Behind made) → first x y ≡ Some b → InOneOf One IsTyped Behind
into None y made b h t k q = inr (made, t refl, k q)
into (Some a) y made b h t k q = inl (h q)

out : {X One : Type 0} {IsTyped Behind : X → Type 0} (x y : Option Broken) (made : X) (b : Broken) →
    (One → x ≡ Some b) → ((z : X) → IsTyped z → (x ≡ None) × (made ≡ z)) → (Behind made → y ≡ Some b) → InOneOf One IsTyped Behind → first x y ≡ Some b
out x y made b h t k (inl o) = ap (λ (z : Option Broken). first z y) (h o)
out {Behind = Behind} x y made b h t k (inr o) = let there : (x ≡ None) × (made ≡ o.0) = t o.0 o.1 in ap (λ (z : Option Broken). first z y) there.0 ∙ k (subst Behind (sym there.1) o.2)

both : {X One : Type 0} {IsTyped Behind : X → Type 0} {x y : Option Broken} {made : X} {b : Broken} → Finds x b One → Types x made IsTyped → Finds y b (Behind made) → Finds (first x y) b (InOneOf One IsTyped Behind)
both {x = x} {y = y} {made = made} {b = b} h t k = record { to = into x y made b h.to t.to k.to; from = out x y made b h.from t.from k.from }

alike : {x y : Option Broken} {b : Broken} {P : Type 0} → x ≡ y → Finds y b P → Finds x b P
alike {b = b} {P = P} e h = subst (λ (z : Option Broken). Finds z b P) (sym e) h

-- of the one thing for which this holds
with-one : {A : Type 0} {found : Option Broken} {b : Broken} (Is Q : A → Type 0) (a : A) → Is a → ((x : A) → Is x → x ≡ a) → Finds found b (Q a) → Finds found b ((x : A) × Is x × Q x)
with-one Is Q a p only h = record { to = λ q. (a, p, h.to q); from = λ o. h.from (subst Q (only o.0 o.1) o.2) }

-- Items

module _ (names : Names) where
  item-next : (e : Tree) (es : Trees) (lone open_here : Bool) (asked : Asked) →
      (if lone && not open_here then also (judge e names Value) (judge_items es names false asked) else also (judge e names asked) (judge_items es names lone asked)) ≡ also (judge e names (if lone && not open_here then Value else asked)) (judge_items es names (lone && open_here) asked)
  item-next e es true true asked = refl
  item-next e es true false asked = refl
  item-next e es false open_here asked = refl

  pair-next : (k v : Tree) (ps : TreePairs) (lone open_here : Bool) (asked : Asked) →
      (if lone && not open_here then also_pair (judge k names Value) (judge v names Value) (judge_values ps names false asked) else also_pair (judge k names Value) (judge v names asked) (judge_values ps names lone asked))
      ≡ also_pair (judge k names Value) (judge v names (if lone && not open_here then Value else asked)) (judge_values ps names (lone && open_here) asked)
  pair-next k v ps true true asked = refl
  pair-next k v ps true false asked = refl
  pair-next k v ps false open_here asked = refl

  unknown-alike : (es : Trees) → judge_items es names false (This ty.Void) ≡ judge_arguments es names (unknown_types es)
  unknown-alike none = refl
  unknown-alike (more e es) = ap (also (judge e names (This ty.Void))) (unknown-alike es)

  behind-alike : (known : Bool) (es : Trees) (ts : List Ty) → (if known then judge_arguments es names ts else judge_items es names false (This ty.Void)) ≡ judge_arguments es names (if known then ts else unknown_types es)
  behind-alike true es ts = refl
  behind-alike false es ts = unknown-alike es

-- Expressions

module _ (b : Broken) where
  mutual
    expr-finds : (e : Tree) (names : Names) (asked : Asked) → Finds (judge e names asked).broken b (IsFirstIn e names asked b)
    expr-finds (node at t f) names asked = both (form-finds f names asked) (form-types f names asked) itself

    form-finds : (f : FormTree) (names : Names) (asked : Asked) → Finds (judge_form f names asked).broken b (IsFirstInForm f names asked b)
    form-finds (number v) names asked = never
    form-finds (text ps) names asked = never
    form-finds (truth v) names asked = never
    form-finds (name x) names asked = never
    form-finds (call f es) names asked = arguments-find es names (parameters_of (function_named f names.functions))
    form-finds (group e) names asked = expr-finds e names (no_whole asked)
    form-finds (list es) names asked =
        let o : Option Ty = asked_list_item asked in
        let a : Asked = beside es names asked in
        with-one (IsBeside es names asked) (λ (x : Asked). IsFirstInItems es names (is_none o) (items_asked o x) b) a (is-beside es names asked) (only-beside es names asked) (items-find es names (is_none o) (items_asked o a))
    form-finds (mapping ps) names asked =
        let o : Option Ty = asked_map_item asked in
        let a : Asked = value_beside ps names asked in
        with-one (IsBesideValues ps names asked) (λ (x : Asked). IsFirstInPairs ps names (is_none o) (items_asked o x) b) a (is-value-beside ps names asked) (only-value-beside ps names asked) (pairs-find ps names (is_none o) (items_asked o a))
    form-finds (item a i) names asked = both (expr-finds a names Value) (expr-types a names Value) (expr-finds i names Value)
    form-finds (key a k) names asked = both (expr-finds a names Value) (expr-types a names Value) (expr-finds k names Value)
    form-finds (method a m es) names asked =
        let t : Ty = type_of (judge a names Value).tree in
        let ts : List Ty = taken_by (row_of t m (count es)) in
        both (expr-finds a names Value) (expr-types a names Value) (alike (ap (λ (j : JudgedTrees). j.broken) (behind-alike names (is_known t) es ts)) (arguments-find es names (if is_known t then ts else unknown_types es)))
    form-finds (prefix o a) names asked = expr-finds a names Value
    form-finds (binary x o y) names asked = both (expr-finds x names Value) (expr-types x names Value) (expr-finds y names Value)
    form-finds (choice c x y) names asked = both (expr-finds c names Value) (expr-types c names Value) (both (expr-finds x names Value) (expr-types x names Value) (expr-finds y names Value))
    form-finds (dependency x y) names asked = both (expr-finds x names Value) (expr-types x names Value) (expr-finds y names Value)

    arguments-find : (es : Trees) (names : Names) (ts : List Ty) → Finds (judge_arguments es names ts).broken b (IsFirstInArguments es names ts b)
    arguments-find none names ts = never
    arguments-find (more e es) names [] = both (expr-finds e names Value) (expr-types e names Value) (arguments-find es names [])
    arguments-find (more e es) names (t ∷ ts) = both (expr-finds e names (This t)) (expr-types e names (This t)) (arguments-find es names ts)

    items-find : (es : Trees) (names : Names) (lone : Bool) (asked : Asked) → Finds (judge_items es names lone asked).broken b (IsFirstInItems es names lone asked b)
    items-find none names lone asked = never
    items-find (more e es) names lone asked =
        alike (ap (λ (j : JudgedTrees). j.broken) (item-next names e es lone (is_open e) asked))
        (both (expr-finds e names (if lone && not (is_open e) then Value else asked)) (expr-types e names (if lone && not (is_open e) then Value else asked)) (items-find es names (lone && is_open e) asked))

    pairs-find : (ps : TreePairs) (names : Names) (lone : Bool) (asked : Asked) → Finds (judge_values ps names lone asked).broken b (IsFirstInPairs ps names lone asked b)
    pairs-find no_pairs names lone asked = never
    pairs-find (more_pairs k v ps) names lone asked =
        alike (ap (λ (j : JudgedPairs). j.broken) (pair-next names k v ps lone (is_open v) asked))
        (both (expr-finds k names Value) (expr-types k names Value)
        (both (expr-finds v names (if lone && not (is_open v) then Value else asked)) (expr-types v names (if lone && not (is_open v) then Value else asked)) (pairs-find ps names (lone && is_open v) asked)))

  -- Expressions in statements

  maybe-finds : (e : Option Tree) (names : Names) → Finds (judge_maybe e names).broken b (IsFirstInMaybe e names b)
  maybe-finds None names = never
  maybe-finds (Some e) names = expr-finds e names Value

  suffix-finds : (s : SuffixTree) (names : Names) → Finds (judge_suffix s names).broken b (IsFirstInSuffix s names b)
  suffix-finds (at_index e) names = expr-finds e names Value
  suffix-finds (at_key e) names = expr-finds e names Value

  suffixes-find : (ss : List SuffixTree) (names : Names) → Finds (judge_suffixes ss names).broken b (IsFirstInSuffixes ss names b)
  suffixes-find [] names = never
  suffixes-find (s ∷ ss) names = both (suffix-finds s names) (suffix-types s names) (suffixes-find ss names)

  place-finds : (p : PlaceTree) (names : Names) → Finds (judge_place p names).broken b (IsFirstInPlace p names b)
  place-finds p names = both (suffixes-find p.suffixes names) (suffixes-types p.suffixes names) itself

  step-finds : (s : StepTree) (names : Names) → Finds (judge_step s names).broken b (IsFirstInStep s names b)
  step-finds (step_after p o) names = place-finds p names
  step-finds (step_before o p) names = place-finds p names

  small-form-finds : (f : SmallFormTree) (names : Names) → Finds (judge_small_form f names).broken b (IsFirstInSmallForm f names b)
  small-form-finds (small_declare t x None) names = never
  small-form-finds (small_declare t x (Some e)) names = expr-finds e names (This t)
  small-form-finds (small_infer x e) names = expr-finds e names Value
  small-form-finds (small_assign p e) names = both (place-finds p names) (place-types p names) (expr-finds e names (This (place_ty names p)))
  small-form-finds (small_update p o e) names = both (place-finds p names) (place-types p names) (expr-finds e names Value)
  small-form-finds (small_step s) names = step-finds s names
  small-form-finds (small_call e) names = expr-finds e names Whole

  small-finds : (s : Option SmallTree) (names : Names) (site : Site) → Finds (judge_small s names site).broken b (IsFirstInSmall s names site b)
  small-finds None names site = never
  small-finds (Some s) names site = both (small-form-finds s.form names) (small-form-types s.form names) itself

  setting-form-finds : (f : SettingFormTree) (names : Names) → Finds (judge_setting_form f names).broken b (IsFirstInSettingForm f names b)
  setting-form-finds (setting_named x e) names = expr-finds e names Value
  setting-form-finds (setting_plain e) names = expr-finds e names Value

  setting-finds : (s : SettingTree) (names : Names) (of_dep : Bool) (seen : Seen) → Finds (judge_setting s names of_dep seen).broken b (IsFirstInSetting s names of_dep seen b)
  setting-finds s names of_dep seen = both (setting-form-finds s.form names) (setting-form-types s.form names) itself

  settings-find : (ss : List SettingTree) (names : Names) (of_dep : Bool) (seen : Seen) → Finds (judge_settings ss names of_dep seen).broken b (IsFirstInSettings ss names of_dep seen b)
  settings-find [] names of_dep seen = never
  settings-find (s ∷ ss) names of_dep seen = both (setting-finds s names of_dep seen) (setting-types s names of_dep seen) (settings-find ss names of_dep (seen_behind seen s.form))

  command-next : {y : Option Broken} {Other : Type 0} (at : At) (r : Option Rule) → Finds y b Other → Finds (first (placed at r) y) b ((placed at r ≡ Some b) ⊎ ((r ≡ None) × Other))
  command-next at None h = record { to = λ q. inr (refl, h.to q); from = λ o. elim o [ inl q ↦ absurd (search (rules, q)) | inr p ↦ h.from p.1 ] }
  command-next at (Some r) h = record { to = λ q. inl q; from = λ o. elim o [ inl q ↦ q | inr p ↦ absurd (let q : Some r ≡ None = p.0 in search (rules, q)) ] }

  commands-find : (cs : List Command) (names : Names) → Finds (commands_broken cs names) b (IsFirstInCommands cs names b)
  commands-find [] names = never
  commands-find (c ∷ cs) names = command-next c.at (sys_rule names c.text) (commands-find cs names)

  -- Statements

  mutual
    stmt-finds : (s : StmtTree) (names : Names) (site : Site) → Finds (judge_stmt s names site).broken b (IsFirstInStmt s names site b)
    stmt-finds (stmt at f) names site = both (stmt-form-finds f names site) (stmt-form-types f names site) itself

    stmt-form-finds : (f : StmtFormTree) (names : Names) (site : Site) → Finds (judge_stmt_form f names site).broken b (IsFirstInStmtForm f names site b)
    stmt-form-finds (inner_block x) names site = block-finds x names (inner names site)
    stmt-form-finds empty names site = never
    stmt-form-finds (line l) names site = line-finds l names site
    stmt-form-finds (when c s other) names site = both (expr-finds c names Value) (expr-types c names Value) (both (stmt-finds s names (inner names site)) (stmt-types s names (inner names site)) (else-finds other names (inner names site)))
    stmt-form-finds (while c s) names site = both (expr-finds c names Value) (expr-types c names Value) (stmt-finds s names (in_loop names site))
    stmt-form-finds (for head c next s) names site =
        let behind : Names = names_behind_small (judge_small head names (inner names site)).small names (inner names site) in
        both (small-finds head names (inner names site)) (small-types head names (inner names site))
        (alike (ap (λ (m : Names). first (judge_maybe c m).broken (first (judge_small next m (inner m site)).broken (judge_stmt s m (in_loop m site)).broken)) (small-names-kept head names (inner names site)))
        (both (maybe-finds c behind) (maybe-types c behind) (both (small-finds next behind (inner behind site)) (small-types next behind (inner behind site)) (stmt-finds s behind (in_loop behind site)))))
    stmt-form-finds (each t x e s) names site =
        let behind : Names = with_local names x t in
        both (expr-finds e names Value) (expr-types e names Value) (stmt-finds s behind (in_loop behind site))
    stmt-form-finds (switch e cs) names site = both (expr-finds e names Value) (expr-types e names Value) (cases-find cs names site)

    cases-find : (cs : CaseTrees) (names : Names) (site : Site) → Finds (judge_cases cs names site).broken b (IsFirstInCases cs names site b)
    cases-find no_cases names site = never
    cases-find (more_cases c cs) names site = both (case-finds c names site) (case-types c names site) (cases-find cs names site)

    case-finds : (c : CaseTree) (names : Names) (site : Site) → Finds (judge_case c names site).broken b (IsFirstInCase c names site b)
    case-finds (a_case at l ss) names site = both (maybe-finds l names) (maybe-types l names) (stmts-find ss names (in_switch names site))

    else-finds : (s : MaybeStmt) (names : Names) (site : Site) → Finds (judge_else s names site).broken b (IsFirstInElse s names site b)
    else-finds no_stmt names site = never
    else-finds (a_stmt s) names site = stmt-finds s names site

    line-finds : (l : LineTree) (names : Names) (site : Site) → Finds (judge_line l names site).broken b (IsFirstInLine l names site b)
    line-finds (declare t x r) names site = maybe-right-finds r names (This t)
    line-finds (infer x r) names site = right-finds r names Value
    line-finds (assign p r) names site = both (place-finds p names) (place-types p names) (right-finds r names (This (place_ty names p)))
    line-finds (update p o r) names site = both (place-finds p names) (place-types p names) (right-finds r names Value)
    line-finds (step s) names site = step-finds s names
    line-finds (call_line e) names site = expr-finds e names Whole
    line-finds (print e) names site = expr-finds e names Value
    line-finds (println e) names site = maybe-finds e names
    line-finds (error e) names site = expr-finds e names Value
    line-finds (exit e) names site = expr-finds e names Value
    line-finds break names site = never
    line-finds continue names site = never
    line-finds (return r) names site = maybe-right-finds r names (returned site.returns)
    line-finds (wait e) names site = maybe-finds e names
    line-finds (checkpoint e) names site = maybe-finds e names
    line-finds (act_line a) names site = act-finds a names Whole

    right-finds : (r : RightTree) (names : Names) (asked : Asked) → Finds (judge_right r names asked).broken b (IsFirstInRight r names asked b)
    right-finds (right_expr e) names asked = expr-finds e names asked
    right-finds (right_act a) names asked = act-finds a names asked

    maybe-right-finds : (r : MaybeRight) (names : Names) (asked : Asked) → Finds (judge_maybe_right r names asked).broken b (IsFirstInMaybeRight r names asked b)
    maybe-right-finds no_right names asked = never
    maybe-right-finds (a_right r) names asked = right-finds r names asked

    act-finds : (a : ActTree) (names : Names) (asked : Asked) → Finds (judge_act a names asked).broken b (IsFirstInAct a names asked b)
    act-finds (act at f) names asked = both (act-form-finds f names) (act-form-types f names) itself

    act-form-finds : (f : ActFormTree) (names : Names) → Finds (judge_act_form f names).broken b (IsFirstInActForm f names b)
    act-form-finds (sys ps) names = never
    act-form-finds (task None y) names = commands-find (commands_of y) names
    act-form-finds (task (Some os) y) names = both (settings-find os names false none_seen) (settings-types os names false none_seen) (commands-find (commands_of y) names)
    act-form-finds (dep os y) names = both (settings-find os names true none_seen) (settings-types os names true none_seen) (commands-find (commands_of y) names)
    act-form-finds (goal e) names = expr-finds e names Value
    act-form-finds (par_call f es) names = arguments-find es names (parameters_of (function_named f names.functions))
    act-form-finds (par_block y) names = both (block-finds y names (apart names)) (block-types y names (apart names)) itself

    block-finds : (x : BlockTree) (names : Names) (site : Site) → Finds (judge_block x names site).broken b (IsFirstInBlock x names site b)
    block-finds (block at ss) names site = stmts-find ss names site

    stmts-find : (ss : StmtTrees) (names : Names) (site : Site) → Finds (judge_stmts ss names site).broken b (IsFirstInStmts ss names site b)
    stmts-find no_stmts names site = never
    stmts-find (more_stmts s ss) names site =
        both (stmt-finds s names site) (stmt-types s names site)
        (alike (ap (λ (m : Names). (judge_stmts ss m site).broken) (names-kept s names site)) (stmts-find ss (names_behind (judge_stmt s names site).stmt names site) site))

  -- Scripts

  function-finds : (f : FunctionTree) (names : Names) (before : List Head) → Finds (judge_function names before f).broken b (IsFirstInFunction f names before b)
  function-finds f names before =
      let inside : Names = with_parameters names f.parameters in
      both (block-finds f.body inside (in_function f.result)) (block-types f.body inside (in_function f.result)) itself

  part-finds : (p : PartTree) (all : Names) (before : List Head) (names : Names) → Finds (judge_part all before names p).broken b (IsFirstInPart p all before names b)
  part-finds (a_function f) all before names = function-finds f all before
  part-finds (an_include i) all before names = never
  part-finds (a_statement s) all before names = stmt-finds s names top

  parts-find : (ps : List PartTree) (all : Names) (before : List Head) (names : Names) → Finds (judge_parts all before names ps).broken b (IsFirstInParts ps all before names b)
  parts-find [] all before names = never
  parts-find (p ∷ ps) all before names =
      let behind : Names = names_behind_part (judge_part all before names p).part names in
      both (part-finds p all before names) (part-types p all before names)
      (alike (ap (λ (m : Names). (judge_parts all (with_head before p) m ps).broken) (part-names-kept p all before names)) (parts-find ps all (with_head before p) behind))

  script-finds : (s : ScriptTree) → Finds (first_broken s) b (IsFirstBroken s b)
  script-finds s =
      let heads : List Head = heads_of s.parts in
      let start : Names = names_of heads first_globals in
      let all : Names = names_of heads (globals_of s.parts) in
      with-one (AreGlobalsBehind heads first_globals s.parts)
      (λ (globals : List Variable). InOneOf (IsFirstInParts s.parts (names_of heads globals) [] start b) (ArePartsTypedAs s.parts (names_of heads globals) [] start) (λ qs. placed s.at (script_breaks qs) ≡ Some b))
      (globals_of s.parts) (are-globals heads first_globals s.parts) (only-globals heads first_globals s.parts) (both (parts-find s.parts all [] start) (parts-types s.parts all [] start) itself)

pub found-is-first : (s : ScriptTree) (b : Broken) → (first_broken s ≡ Some b → IsFirstBroken s b) × (IsFirstBroken s b → first_broken s ≡ Some b)
found-is-first s b = ((script-finds b s).to, (script-finds b s).from)
