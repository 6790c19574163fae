-- The first broken node of a program stands in one of its files.
use Rattle.std.proofs.Common.{◌≡◌, ℕ, ◌<◌, Bool, true, false, ◌&&◌, List, [], ◌∷◌, length, Option, Some, None, inl, inr, is_none, ap, sym, subst, rules}
use Rattle.std.specs.List.{AllByRecursion}
use Rattle.bds_value.specs.declared.value.At.{At}
use Rattle.bds_value.specs.declared.value.Ty.{Ty}
use Rattle.bds_tree.specs.declared.stmt.Command.{Command}
use Rattle.bds_tree.specs.Tree.{Tree, FormTree, Trees, TreePairs, node, number, text, truth, name, call, group, list, mapping, item, key, method, prefix, binary, choice, dependency, none, more, no_pairs, more_pairs, type_of}
use Rattle.bds_tree.specs.StmtTree.{SuffixTree, at_index, at_key, PlaceTree, StepTree, step_after, step_before, SmallFormTree, small_declare, small_infer, small_assign, small_update, small_step, small_call, SmallTree, SettingFormTree, setting_named, setting_plain, SettingTree, StmtTree, StmtFormTree, LineTree, RightTree, ActTree, ActFormTree, BlockTree, StmtTrees, MaybeStmt, MaybeRight, PartTree, ScriptTree, stmt, inner_block, empty, line, when, while, for, each, declare, infer, assign, update, step, call_line, print, println, error, exit, break, continue, return, wait, checkpoint, act_line, right_expr, right_act, act, sys, task, dep, goal, par_call, par_block, block, no_stmts, more_stmts, no_stmt, a_stmt, no_right, a_right, a_function, an_include, a_statement, CaseTrees, CaseTree, switch, no_cases, more_cases, a_case}
use Rattle.bds_check_names.specs.declared.names.Names.{Names}
use Rattle.bds_check_names.specs.declared.names.Head.{Head}
use Rattle.bds_check_names.specs.declared.names.Asked.{Asked}
use Rattle.bds_check_names.specs.declared.names.Asked.TheVariants.{Whole, Value, This}
use Rattle.bds_check_names.specs.declared.names.Site.{Site}
use Rattle.bds_check_names.specs.declared.names.Seen.{Seen}
use Rattle.bds_check_names.specs.Scopes.{function_named, with_local, inner, in_loop, apart, top, in_function, in_switch}
use Rattle.bds_check_rules.specs.declared.rules.Rule.{Rule}
use Rattle.bds_check_rules.specs.Typing.{asked_list_item, asked_map_item}
use Rattle.bds_check_rules.specs.Breaks.{breaks}
use Rattle.bds_check_rules.specs.Pieces.{sys_rule}
use Rattle.bds_check_rules.specs.StmtBreaks.{place_breaks, place_ty, small_breaks, stmt_breaks, none_seen, seen_behind, setting_breaks, commands_of, act_breaks}
use Rattle.bds_check_typing.specs.Walk.{Broken, placed, items_asked, is_open, no_whole, parameters_of}
use Rattle.bds_check_typing.specs.WellTyped.{asked_of_item, taken_behind}
use Rattle.bds_check_typing.specs.StmtParts.{block_at, par_rule, returned}
use Rattle.bds_check_typing.specs.WellTypedParts.{names_behind_small}
use Rattle.bds_check_typing.specs.WellTypedStmts.{names_behind}
use Rattle.bds_check_typing.specs.Program.{heads_of, with_head, names_of, first_globals, with_parameters, with_body, function_breaks, script_breaks, first_broken}
use Rattle.bds_check_typing.specs.Remade.{remade_block}
use Rattle.bds_check_laws.specs.TypedAs.{kept_at, no_type}
use Rattle.bds_check_typing.specs.WellTypedScripts.{names_behind_part}
use Rattle.bds_check_laws.specs.FirstBroken.{InOneOf, IsFirstIn, IsFirstInForm, IsFirstInArguments, IsFirstInItems, IsFirstInPairs, IsFirstInMaybe, IsFirstInSuffix, IsFirstInSuffixes, IsFirstInPlace, IsFirstInStep, IsFirstInSmallForm, IsFirstInSmall, IsFirstInSettingForm, IsFirstInSetting, IsFirstInSettings, IsFirstInCommands, IsFirstInStmt, IsFirstInStmtForm, IsFirstInElse, IsFirstInLine, IsFirstInRight, IsFirstInMaybeRight, IsFirstInAct, IsFirstInActForm, IsFirstInBlock, IsFirstInStmts, IsFirstInPart, IsFirstInParts, IsFirstBroken, IsFirstInCases, IsFirstInCase}
use Rattle.bds_check_typing.specs.Proper.{IsInFile, IsProperExpr, IsProperForm, AreProperExprs, AreProperPairs, IsProperMaybe, IsProperSuffix, IsProperPlace, IsProperStep, IsProperSmallForm, IsProperSmall, IsProperSettingForm, IsProperSetting, IsProperStmt, IsProperStmtForm, IsProperElse, IsProperLine, IsProperRight, IsProperMaybeRight, IsProperAct, IsProperActForm, IsProperBlock, AreProperStmts, IsProperPart, IsProgram, AreProperCases, IsProperCase}
use Rattle.bds_check_typing.specs.Texts.{AreShortPieces}
use Rattle.bds_check_laws.proofs.FirstBrokenLaws.{found-is-first}

either : {X One P : Type 0} {IsTyped Behind : X → Type 0} → (One → P) → ((x : X) → IsTyped x → Behind x → P) → InOneOf One IsTyped Behind → P
either f g (inl o) = f o
either f g (inr o) = g o.0 o.1 o.2

abbrev at_or : At → Option Broken → At
at_or at None = at
at_or at (Some b) = b.at

block-at-kept : (x y : BlockTree) → remade_block kept_at no_type x ≡ remade_block kept_at no_type y → block_at x ≡ block_at y
block-at-kept (block at ss) (block bt ts) e = ap block_at e

-- where there are so many files
module _ (n : ℕ) (b : Broken) where
  placed-in : (at : At) (r : Option Rule) → placed at r ≡ Some b → IsInFile n at → IsInFile n b.at
  placed-in at None q h = absurd (search (rules, q))
  placed-in at (Some r) q h = subst (IsInFile n) (ap (at_or at) q) h

  mutual
    expr-in : (e : Tree) (names : Names) (asked : Asked) → IsProperExpr n e → IsFirstIn e names asked b → IsInFile n b.at
    expr-in (node at t f) names asked h p = either (λ q. form-in f names asked h.1 q) (λ g _ q. placed-in at (breaks names asked g) q h.0) p

    form-in : (f : FormTree) (names : Names) (asked : Asked) → IsProperForm n f → IsFirstInForm f names asked b → IsInFile n b.at
    form-in (number v) names asked h p = absurd p
    form-in (text ps) names asked h p = absurd p
    form-in (truth v) names asked h p = absurd p
    form-in (name x) names asked h p = absurd p
    form-in (call f es) names asked h p = arguments-in es names (parameters_of (function_named f names.functions)) h.1 p
    form-in (group e) names asked h p = expr-in e names (no_whole asked) h p
    form-in (list es) names asked h p = items-in es names (is_none (asked_list_item asked)) (items_asked (asked_list_item asked) p.0) h p.2
    form-in (mapping ps) names asked h p = pairs-in ps names (is_none (asked_map_item asked)) (items_asked (asked_map_item asked) p.0) h p.2
    form-in (item a i) names asked h p = either (λ q. expr-in a names Value h.0 q) (λ _ _ q. expr-in i names Value h.1 q) p
    form-in (key a k) names asked h p = either (λ q. expr-in a names Value h.0 q) (λ _ _ q. expr-in k names Value h.1 q) p
    form-in (method a m es) names asked h p = either (λ q. expr-in a names Value h.1 q) (λ c _ q. arguments-in es names (taken_behind (type_of c) m es) h.2 q) p
    form-in (prefix o a) names asked h p = expr-in a names Value h p
    form-in (binary x o y) names asked h p = either (λ q. expr-in x names Value h.0 q) (λ _ _ q. expr-in y names Value h.1 q) p
    form-in (choice c x y) names asked h p = either (λ q. expr-in c names Value h.0 q) (λ _ _ r. either (λ q. expr-in x names Value h.1 q) (λ _ _ q. expr-in y names Value h.2 q) r) p
    form-in (dependency x y) names asked h p = either (λ q. expr-in x names Value h.0 q) (λ _ _ q. expr-in y names Value h.1 q) p

    arguments-in : (es : Trees) (names : Names) (ts : List Ty) → AreProperExprs n es → IsFirstInArguments es names ts b → IsInFile n b.at
    arguments-in none names ts h p = absurd p
    arguments-in (more e es) names [] h p = either (λ q. expr-in e names Value h.0 q) (λ _ _ q. arguments-in es names [] h.1 q) p
    arguments-in (more e es) names (t ∷ ts) h p = either (λ q. expr-in e names (This t) h.0 q) (λ _ _ q. arguments-in es names ts h.1 q) p

    items-in : (es : Trees) (names : Names) (lone : Bool) (asked : Asked) → AreProperExprs n es → IsFirstInItems es names lone asked b → IsInFile n b.at
    items-in none names lone asked h p = absurd p
    items-in (more e es) names lone asked h p = either (λ q. expr-in e names (asked_of_item lone e asked) h.0 q) (λ _ _ q. items-in es names (lone && is_open e) asked h.1 q) p

    pairs-in : (ps : TreePairs) (names : Names) (lone : Bool) (asked : Asked) → AreProperPairs n ps → IsFirstInPairs ps names lone asked b → IsInFile n b.at
    pairs-in no_pairs names lone asked h p = absurd p
    pairs-in (more_pairs k v ps) names lone asked h p =
        either (λ q. expr-in k names Value h.0 q) (λ _ _ r. either (λ q. expr-in v names (asked_of_item lone v asked) h.1 q) (λ _ _ q. pairs-in ps names (lone && is_open v) asked h.2 q) r) p

  maybe-in : (e : Option Tree) (names : Names) → IsProperMaybe n e → IsFirstInMaybe e names b → IsInFile n b.at
  maybe-in None names h p = absurd p
  maybe-in (Some e) names h p = expr-in e names Value h p

  suffix-in : (s : SuffixTree) (names : Names) → IsProperSuffix n s → IsFirstInSuffix s names b → IsInFile n b.at
  suffix-in (at_index e) names h p = expr-in e names Value h p
  suffix-in (at_key e) names h p = expr-in e names Value h p

  suffixes-in : (ss : List SuffixTree) (names : Names) → AllByRecursion (IsProperSuffix n) ss → IsFirstInSuffixes ss names b → IsInFile n b.at
  suffixes-in [] names h p = absurd p
  suffixes-in (s ∷ ss) names h p = either (λ q. suffix-in s names h.0 q) (λ _ _ q. suffixes-in ss names h.1 q) p

  place-in : (p : PlaceTree) (names : Names) → IsProperPlace n p → IsFirstInPlace p names b → IsInFile n b.at
  place-in p names h f = either (λ q. suffixes-in p.suffixes names h.2 q) (λ ss _ q. placed-in p.at (place_breaks names (record { at = p.at; name = p.name; suffixes = ss })) q h.0) f

  step-in : (s : StepTree) (names : Names) → IsProperStep n s → IsFirstInStep s names b → IsInFile n b.at
  step-in (step_after p o) names h f = place-in p names h f
  step-in (step_before o p) names h f = place-in p names h f

  small-form-in : (f : SmallFormTree) (names : Names) → IsProperSmallForm n f → IsFirstInSmallForm f names b → IsInFile n b.at
  small-form-in (small_declare t x None) names h p = absurd p
  small-form-in (small_declare t x (Some e)) names h p = expr-in e names (This t) h.2 p
  small-form-in (small_infer x e) names h p = expr-in e names Value h.1 p
  small-form-in (small_assign r e) names h p = either (λ q. place-in r names h.0 q) (λ _ _ q. expr-in e names (This (place_ty names r)) h.1 q) p
  small-form-in (small_update r o e) names h p = either (λ q. place-in r names h.0 q) (λ _ _ q. expr-in e names Value h.1 q) p
  small-form-in (small_step s) names h p = step-in s names h p
  small-form-in (small_call e) names h p = expr-in e names Whole h.1 p

  small-in : (s : Option SmallTree) (names : Names) (site : Site) → IsProperSmall n s → IsFirstInSmall s names site b → IsInFile n b.at
  small-in None names site h p = absurd p
  small-in (Some s) names site h p = either (λ q. small-form-in s.form names h.1 q) (λ g _ q. placed-in s.at (small_breaks names site g) q h.0) p

  setting-form-in : (f : SettingFormTree) (names : Names) → IsProperSettingForm n f → IsFirstInSettingForm f names b → IsInFile n b.at
  setting-form-in (setting_named x e) names h p = expr-in e names Value h.1 p
  setting-form-in (setting_plain e) names h p = expr-in e names Value h p

  setting-in : (s : SettingTree) (names : Names) (of_dep : Bool) (seen : Seen) → IsProperSetting n s → IsFirstInSetting s names of_dep seen b → IsInFile n b.at
  setting-in s names of_dep seen h p = either (λ q. setting-form-in s.form names h.1 q) (λ g _ q. placed-in s.at (setting_breaks of_dep seen g) q h.0) p

  settings-in : (ss : List SettingTree) (names : Names) (of_dep : Bool) (seen : Seen) → AllByRecursion (IsProperSetting n) ss → IsFirstInSettings ss names of_dep seen b → IsInFile n b.at
  settings-in [] names of_dep seen h p = absurd p
  settings-in (s ∷ ss) names of_dep seen h p = either (λ q. setting-in s names of_dep seen h.0 q) (λ _ _ q. settings-in ss names of_dep (seen_behind seen s.form) h.1 q) p

  commands-in : (cs : List Command) (names : Names) → AllByRecursion (λ c. IsInFile n c.at × AreShortPieces c.text) cs → IsFirstInCommands cs names b → IsInFile n b.at
  commands-in [] names h p = absurd p
  commands-in (c ∷ cs) names h (inl q) = placed-in c.at (sys_rule names c.text) q h.0.0
  commands-in (c ∷ cs) names h (inr q) = commands-in cs names h.1 q.1

  mutual
    stmt-in : (s : StmtTree) (names : Names) (site : Site) → IsProperStmt n s → IsFirstInStmt s names site b → IsInFile n b.at
    stmt-in (stmt at f) names site h p = either (λ q. stmt-form-in f names site h.1 q) (λ g _ q. placed-in at (stmt_breaks names site g) q h.0) p

    stmt-form-in : (f : StmtFormTree) (names : Names) (site : Site) → IsProperStmtForm n f → IsFirstInStmtForm f names site b → IsInFile n b.at
    stmt-form-in (inner_block x) names site h p = block-in x names (inner names site) h p
    stmt-form-in empty names site h p = absurd p
    stmt-form-in (line l) names site h p = line-in l names site h p
    stmt-form-in (when c s other) names site h p =
        either (λ q. expr-in c names Value h.0 q) (λ _ _ r. either (λ q. stmt-in s names (inner names site) h.1 q) (λ _ _ q. else-in other names (inner names site) h.2 q) r) p
    stmt-form-in (while c s) names site h p = either (λ q. expr-in c names Value h.0 q) (λ _ _ q. stmt-in s names (in_loop names site) h.1 q) p
    stmt-form-in (for first c next s) names site h p =
        either (λ q. small-in first names (inner names site) h.0 q) (λ head _ r.
        let behind : Names = names_behind_small head names (inner names site) in
        either (λ q. maybe-in c behind h.1 q) (λ _ _ t. either (λ q. small-in next behind (inner behind site) h.2 q) (λ _ _ q. stmt-in s behind (in_loop behind site) h.3 q) t) r) p
    stmt-form-in (each t x e s) names site h p =
        let behind : Names = with_local names x t in
        either (λ q. expr-in e names Value h.2 q) (λ _ _ q. stmt-in s behind (in_loop behind site) h.3 q) p
    stmt-form-in (switch e cs) names site h p = either (λ q. expr-in e names Value h.0 q) (λ _ _ q. cases-in cs names site h.1 q) p

    cases-in : (cs : CaseTrees) (names : Names) (site : Site) → AreProperCases n cs → IsFirstInCases cs names site b → IsInFile n b.at
    cases-in no_cases names site h p = absurd p
    cases-in (more_cases c cs) names site h p = either (λ q. case-in c names site h.0 q) (λ _ _ q. cases-in cs names site h.1 q) p

    case-in : (c : CaseTree) (names : Names) (site : Site) → IsProperCase n c → IsFirstInCase c names site b → IsInFile n b.at
    case-in (a_case at l ss) names site h p = either (λ q. maybe-in l names h.1 q) (λ _ _ q. stmts-in ss names (in_switch names site) h.2 q) p

    else-in : (s : MaybeStmt) (names : Names) (site : Site) → IsProperElse n s → IsFirstInElse s names site b → IsInFile n b.at
    else-in no_stmt names site h p = absurd p
    else-in (a_stmt s) names site h p = stmt-in s names site h p

    line-in : (l : LineTree) (names : Names) (site : Site) → IsProperLine n l → IsFirstInLine l names site b → IsInFile n b.at
    line-in (declare t x r) names site h p = maybe-right-in r names (This t) h.2 p
    line-in (infer x r) names site h p = right-in r names Value h.1 p
    line-in (assign q r) names site h p = either (λ f. place-in q names h.0 f) (λ _ _ f. right-in r names (This (place_ty names q)) h.1 f) p
    line-in (update q o r) names site h p = either (λ f. place-in q names h.0 f) (λ _ _ f. right-in r names Value h.1 f) p
    line-in (step s) names site h p = step-in s names h p
    line-in (call_line e) names site h p = expr-in e names Whole h.1 p
    line-in (print e) names site h p = expr-in e names Value h p
    line-in (println e) names site h p = maybe-in e names h p
    line-in (error e) names site h p = expr-in e names Value h p
    line-in (exit e) names site h p = expr-in e names Value h p
    line-in break names site h p = absurd p
    line-in continue names site h p = absurd p
    line-in (return r) names site h p = maybe-right-in r names (returned site.returns) h p
    line-in (wait e) names site h p = maybe-in e names h p
    line-in (checkpoint e) names site h p = maybe-in e names h p
    line-in (act_line a) names site h p = act-in a names Whole h p

    right-in : (r : RightTree) (names : Names) (asked : Asked) → IsProperRight n r → IsFirstInRight r names asked b → IsInFile n b.at
    right-in (right_expr e) names asked h p = expr-in e names asked h p
    right-in (right_act a) names asked h p = act-in a names asked h p

    maybe-right-in : (r : MaybeRight) (names : Names) (asked : Asked) → IsProperMaybeRight n r → IsFirstInMaybeRight r names asked b → IsInFile n b.at
    maybe-right-in no_right names asked h p = absurd p
    maybe-right-in (a_right r) names asked h p = right-in r names asked h p

    act-in : (a : ActTree) (names : Names) (asked : Asked) → IsProperAct n a → IsFirstInAct a names asked b → IsInFile n b.at
    act-in (act at f) names asked h p = either (λ q. act-form-in f names h.1 q) (λ g _ q. placed-in at (act_breaks names asked g) q h.0) p

    act-form-in : (f : ActFormTree) (names : Names) → IsProperActForm n f → IsFirstInActForm f names b → IsInFile n b.at
    act-form-in (sys ps) names h p = absurd p
    act-form-in (task None y) names h p = commands-in (commands_of y) names h.1 p
    act-form-in (task (Some os) y) names h p = either (λ q. settings-in os names false none_seen h.0 q) (λ _ _ q. commands-in (commands_of y) names h.1 q) p
    act-form-in (dep os y) names h p = either (λ q. settings-in os names true none_seen h.0 q) (λ _ _ q. commands-in (commands_of y) names h.1 q) p
    act-form-in (goal e) names h p = expr-in e names Value h p
    act-form-in (par_call f es) names h p = arguments-in es names (parameters_of (function_named f names.functions)) h.1 p
    act-form-in (par_block y) names h p = either (λ q. block-in y names (apart names) h q) (λ z t q. placed-in (block_at z) (par_rule names z) q (block-at-in y z t.0 h)) p

    block-in : (x : BlockTree) (names : Names) (site : Site) → IsProperBlock n x → IsFirstInBlock x names site b → IsInFile n b.at
    block-in (block at ss) names site h p = stmts-in ss names site h.1 p

    stmts-in : (ss : StmtTrees) (names : Names) (site : Site) → AreProperStmts n ss → IsFirstInStmts ss names site b → IsInFile n b.at
    stmts-in no_stmts names site h p = absurd p
    stmts-in (more_stmts s ss) names site h p = either (λ q. stmt-in s names site h.0 q) (λ r _ q. stmts-in ss (names_behind r names site) site h.1 q) p

    block-at-in : (y z : BlockTree) → remade_block kept_at no_type z ≡ remade_block kept_at no_type y → IsProperBlock n y → IsInFile n (block_at z)
    block-at-in (block at ss) z e h = subst (IsInFile n) (sym (block-at-kept z (block at ss) e)) h.0

  part-in : (p : PartTree) (all : Names) (before : List Head) (names : Names) → IsProperPart n p → IsFirstInPart p all before names b → IsInFile n b.at
  part-in (a_function f) all before names h p = either (λ q. block-in f.body (with_parameters all f.parameters) (in_function f.result) h.4 q) (λ z _ q. placed-in f.at (function_breaks before (with_body f z)) q h.0) p
  part-in (an_include i) all before names h p = absurd p
  part-in (a_statement s) all before names h p = stmt-in s names top h p

  parts-in : (ps : List PartTree) (all : Names) (before : List Head) (names : Names) → AllByRecursion (IsProperPart n) ps → IsFirstInParts ps all before names b → IsInFile n b.at
  parts-in [] all before names h p = absurd p
  parts-in (p ∷ ps) all before names h f = either (λ q. part-in p all before names h.0 q) (λ r _ q. parts-in ps all (with_head before p) (names_behind_part r names) h.1 q) f

pub broken-in-file : (s : ScriptTree) (b : Broken) → IsProgram s → first_broken s ≡ Some b → b.at.file < length s.files
broken-in-file s b h q =
    let p : IsFirstBroken s b = (found-is-first s b).0 q in
    let n : ℕ = length s.files in
    either (λ f. parts-in n b s.parts (names_of (heads_of s.parts) p.0) [] (names_of (heads_of s.parts) first_globals) h.parts f) (λ qs _ e. placed-in n b s.at (script_breaks qs) e h.file) p.2
