-- Typing keeps what is asked of a script, and how deep it nests.
use Rattle.std.proofs.Common.{◌≡◌, ℕ, ◌+◌, ◌≤◌, max, Bool, true, false, not, ◌&&◌, List, [], ◌∷◌, length, Option, Some, None, is_none, refl, ap, ap₂, sym, subst, ◌∙◌, if◌then◌else◌}
use Rattle.std.specs.List.{AllByRecursion}
use Rattle.bds_value.specs.declared.value.Ty.{Ty}
use Rattle.bds_value.specs.declared.value.Ty.TheVariants as ty
use Rattle.bds_value.specs.Fields.{nesting}
use Rattle.bds_value.specs.declared.TheConstants.{MAX_NESTING}
use Rattle.bds_tree.specs.Tree.{Tree, FormTree, Trees, TreePairs, node, number, text, truth, name, call, group, list, mapping, item, key, method, prefix, binary, choice, dependency, none, more, no_pairs, more_pairs, type_of}
use Rattle.bds_tree.specs.Shape.{height, form_height, heights, pair_heights}
use Rattle.bds_tree.specs.StmtTree.{SuffixTree, at_index, at_key, PlaceTree, StepTree, step_after, step_before, SmallFormTree, small_declare, small_infer, small_assign, small_update, small_step, small_call, SmallTree, SettingFormTree, setting_named, setting_plain, SettingTree, StmtTree, StmtFormTree, LineTree, RightTree, ActTree, ActFormTree, BlockTree, StmtTrees, MaybeStmt, MaybeRight, PartTree, ScriptTree, stmt, inner_block, empty, line, when, while, for, each, declare, infer, assign, update, step, call_line, print, println, error, exit, break, continue, return, wait, checkpoint, act_line, right_expr, right_act, act, sys, task, dep, goal, par_call, par_block, block, no_stmts, more_stmts, no_stmt, a_stmt, no_right, a_right, a_function, an_include, a_statement, CaseTrees, CaseTree, switch, no_cases, more_cases, a_case}
use Rattle.bds_tree.specs.StmtShape.{is_call, over_type, over_maybe, over_suffixes, over_place, over_step, over_small_form, over_small, over_setting_form, over_settings, stmt_height, over_stmt_form, over_else, over_line, over_right, over_maybe_right, over_act, over_act_form, block_height, over_stmts, parameters_height, part_height, parts_height, over_cases, over_case}
use Rattle.bds_check_names.specs.declared.names.Names.{Names}
use Rattle.bds_check_names.specs.declared.names.Head.{Head}
use Rattle.bds_check_names.specs.declared.names.Site.{Site}
use Rattle.bds_check_names.specs.declared.names.Seen.{Seen}
use Rattle.bds_check_names.specs.declared.names.Asked.{Asked}
use Rattle.bds_check_names.specs.declared.names.Asked.TheVariants.{Whole, Value, This}
use Rattle.bds_check_names.specs.Types.{is_known}
use Rattle.bds_check_names.specs.Rows.{row_of}
use Rattle.bds_check_names.specs.Scopes.{function_named, top, with_local, inner, in_loop, apart, in_function, in_switch}
use Rattle.bds_check_rules.specs.Typing.{asked_list_item, asked_map_item, count}
use Rattle.bds_check_rules.specs.StmtBreaks.{place_ty, none_seen, seen_behind}
use Rattle.bds_check_typing.specs.Walk.{JudgedTrees, JudgedPairs, also, also_pair, judge, judge_form, judge_items, judge_values, judge_arguments, beside, value_beside, items_asked, no_whole, is_open, parameters_of, taken_by}
use Rattle.bds_check_typing.specs.StmtParts.{returned, judge_maybe, judge_suffixes, judge_place, judge_step, judge_small_form, judge_small, judge_setting_form, judge_settings}
use Rattle.bds_check_typing.specs.StmtWalk.{behind_first, judge_stmt, judge_stmt_form, judge_else, judge_line, judge_right, judge_maybe_right, judge_act, judge_act_form, judge_block, judge_stmts, judge_cases, judge_case}
use Rattle.bds_check_typing.specs.Program.{heads_of, with_head, names_of, first_globals, globals_of, with_parameters, judge_part, judge_parts, typed}
use Rattle.bds_check_typing.specs.Proper.{IsProperExpr, IsProperForm, AreProperExprs, AreProperPairs, IsProperMaybe, IsProperSuffix, IsProperPlace, IsProperStep, IsProperSmallForm, IsProperSmall, IsProperSettingForm, IsProperSetting, IsProperStmt, IsProperStmtForm, IsProperElse, IsProperLine, IsProperRight, IsProperMaybeRight, IsProperAct, IsProperActForm, IsProperBlock, AreProperStmts, IsProperPart, IsProgram, AreProperCases, IsProperCase}

call-kept : (e : Tree) (names : Names) (asked : Asked) → is_call (judge e names asked).tree ≡ is_call e
call-kept (node at t (number v)) names asked = refl
call-kept (node at t (text ps)) names asked = refl
call-kept (node at t (truth b)) names asked = refl
call-kept (node at t (name x)) names asked = refl
call-kept (node at t (call f es)) names asked = refl
call-kept (node at t (group e)) names asked = refl
call-kept (node at t (list es)) names asked = refl
call-kept (node at t (mapping ps)) names asked = refl
call-kept (node at t (item a i)) names asked = refl
call-kept (node at t (key a k)) names asked = refl
call-kept (node at t (method a m es)) names asked = refl
call-kept (node at t (prefix o a)) names asked = refl
call-kept (node at t (binary a o b)) names asked = refl
call-kept (node at t (choice c a b)) names asked = refl
call-kept (node at t (dependency a b)) names asked = refl

-- where there are so many files
module _ (n : ℕ) where
  -- what is kept of a tree: it is as proper, and as deep
  abbrev Kept : {X : Type 0} → (X → Type 0) → (X → ℕ) → X → X → Type 0
  Kept IsProper deep a b = (IsProper a → IsProper b) × (deep b ≡ deep a)

  abbrev KeptExpr : Tree → Tree → Type 0
  KeptExpr = Kept (IsProperExpr n) height

  abbrev KeptForm : FormTree → FormTree → Type 0
  KeptForm = Kept (IsProperForm n) form_height

  abbrev KeptExprs : Trees → Trees → Type 0
  KeptExprs = Kept (AreProperExprs n) heights

  abbrev KeptPairs : TreePairs → TreePairs → Type 0
  KeptPairs = Kept (AreProperPairs n) pair_heights

  either-kept : (b : Bool) (x y : JudgedTrees) (es : Trees) → KeptExprs es x.trees → KeptExprs es y.trees → KeptExprs es (if b then x else y).trees
  either-kept true x y es h k = h
  either-kept false x y es h k = k

  either-pairs-kept : (b : Bool) (x y : JudgedPairs) (ps : TreePairs) → KeptPairs ps x.pairs → KeptPairs ps y.pairs → KeptPairs ps (if b then x else y).pairs
  either-pairs-kept true x y ps h k = h
  either-pairs-kept false x y ps h k = k

  one-more : (e d : Tree) (es ds : Trees) → KeptExpr e d → KeptExprs es ds → KeptExprs (more e es) (more d ds)
  one-more e d es ds h k = (λ w. (h.0 w.0, k.0 w.1), ap₂ (λ (x y : ℕ). max (x + 1) y) h.1 k.1)

  one-more-pair : (k c v d : Tree) (ps qs : TreePairs) → KeptExpr k c → KeptExpr v d → KeptPairs ps qs → KeptPairs (more_pairs k v ps) (more_pairs c d qs)
  one-more-pair k c v d ps qs h l m = (λ w. (h.0 w.0, l.0 w.1, m.0 w.2), ap₂ (λ (x y : ℕ). max x y) (ap₂ (λ (x y : ℕ). max (x + 1) (y + 1)) h.1 l.1) m.1)

  mutual
    expr-kept : (e : Tree) (names : Names) (asked : Asked) → KeptExpr e (judge e names asked).tree
    expr-kept (node at t f) names asked = let h : KeptForm f (judge_form f names asked).form = form-kept f names asked in (λ w. (w.0, h.0 w.1), h.1)

    form-kept : (f : FormTree) (names : Names) (asked : Asked) → KeptForm f (judge_form f names asked).form
    form-kept (number v) names asked = (λ w. w, refl)
    form-kept (text ps) names asked = (λ w. w, refl)
    form-kept (truth b) names asked = (λ w. w, refl)
    form-kept (name x) names asked = (λ w. w, refl)
    form-kept (call f es) names asked =
        let k : KeptExprs es (judge_arguments es names (parameters_of (function_named f names.functions))).trees = arguments-kept es names (parameters_of (function_named f names.functions)) in
        (λ w. (w.0, k.0 w.1), k.1)
    form-kept (group e) names asked = let h : KeptExpr e (judge e names (no_whole asked)).tree = expr-kept e names (no_whole asked) in (h.0, ap (λ (x : ℕ). x + 1) h.1)
    form-kept (list es) names asked = items-kept es names (is_none (asked_list_item asked)) (items_asked (asked_list_item asked) (beside es names asked))
    form-kept (mapping ps) names asked = values-kept ps names (is_none (asked_map_item asked)) (items_asked (asked_map_item asked) (value_beside ps names asked))
    form-kept (item a i) names asked =
        let h : KeptExpr a (judge a names Value).tree = expr-kept a names Value in
        let k : KeptExpr i (judge i names Value).tree = expr-kept i names Value in
        (λ w. (h.0 w.0, k.0 w.1), ap₂ (λ (x y : ℕ). max (x + 1) (y + 1)) h.1 k.1)
    form-kept (key a i) names asked =
        let h : KeptExpr a (judge a names Value).tree = expr-kept a names Value in
        let k : KeptExpr i (judge i names Value).tree = expr-kept i names Value in
        (λ w. (h.0 w.0, k.0 w.1), ap₂ (λ (x y : ℕ). max (x + 1) (y + 1)) h.1 k.1)
    form-kept (method a m es) names asked =
        let t : Ty = type_of (judge a names Value).tree in
        let ts : List Ty = taken_by (row_of t m (count es)) in
        let h : KeptExpr a (judge a names Value).tree = expr-kept a names Value in
        let k : KeptExprs es (if is_known t then judge_arguments es names ts else judge_items es names false (This ty.Void)).trees =
        either-kept (is_known t) (judge_arguments es names ts) (judge_items es names false (This ty.Void)) es (arguments-kept es names ts) (items-kept es names false (This ty.Void)) in
        (λ w. (w.0, h.0 w.1, k.0 w.2), ap₂ (λ (x y : ℕ). max (x + 1) y) h.1 k.1)
    form-kept (prefix o a) names asked = let h : KeptExpr a (judge a names Value).tree = expr-kept a names Value in (h.0, ap (λ (x : ℕ). x + 1) h.1)
    form-kept (binary a o b) names asked =
        let h : KeptExpr a (judge a names Value).tree = expr-kept a names Value in
        let k : KeptExpr b (judge b names Value).tree = expr-kept b names Value in
        (λ w. (h.0 w.0, k.0 w.1), ap₂ (λ (x y : ℕ). max (x + 1) (y + 1)) h.1 k.1)
    form-kept (choice c a b) names asked =
        let g : KeptExpr c (judge c names Value).tree = expr-kept c names Value in
        let h : KeptExpr a (judge a names Value).tree = expr-kept a names Value in
        let k : KeptExpr b (judge b names Value).tree = expr-kept b names Value in
        (λ w. (g.0 w.0, h.0 w.1, k.0 w.2), ap₂ (λ (x y : ℕ). max (x + 1) y) g.1 (ap₂ (λ (x y : ℕ). max (x + 1) (y + 1)) h.1 k.1))
    form-kept (dependency a b) names asked =
        let h : KeptExpr a (judge a names Value).tree = expr-kept a names Value in
        let k : KeptExpr b (judge b names Value).tree = expr-kept b names Value in
        (λ w. (h.0 w.0, k.0 w.1), ap₂ (λ (x y : ℕ). max (x + 1) (y + 1)) h.1 k.1)

    arguments-kept : (es : Trees) (names : Names) (ts : List Ty) → KeptExprs es (judge_arguments es names ts).trees
    arguments-kept none names ts = (λ w. w, refl)
    arguments-kept (more e es) names [] = one-more e (judge e names Value).tree es (judge_arguments es names []).trees (expr-kept e names Value) (arguments-kept es names [])
    arguments-kept (more e es) names (t ∷ ts) = one-more e (judge e names (This t)).tree es (judge_arguments es names ts).trees (expr-kept e names (This t)) (arguments-kept es names ts)

    items-kept : (es : Trees) (names : Names) (lone : Bool) (asked : Asked) → KeptExprs es (judge_items es names lone asked).trees
    items-kept none names lone asked = (λ w. w, refl)
    items-kept (more e es) names lone asked =
        either-kept (lone && not (is_open e)) (also (judge e names Value) (judge_items es names false asked)) (also (judge e names asked) (judge_items es names lone asked)) (more e es)
        (one-more e (judge e names Value).tree es (judge_items es names false asked).trees (expr-kept e names Value) (items-kept es names false asked))
        (one-more e (judge e names asked).tree es (judge_items es names lone asked).trees (expr-kept e names asked) (items-kept es names lone asked))

    values-kept : (ps : TreePairs) (names : Names) (lone : Bool) (asked : Asked) → KeptPairs ps (judge_values ps names lone asked).pairs
    values-kept no_pairs names lone asked = (λ w. w, refl)
    values-kept (more_pairs k v ps) names lone asked =
        either-pairs-kept (lone && not (is_open v)) (also_pair (judge k names Value) (judge v names Value) (judge_values ps names false asked)) (also_pair (judge k names Value) (judge v names asked) (judge_values ps names lone asked)) (more_pairs k v ps)
        (one-more-pair k (judge k names Value).tree v (judge v names Value).tree ps (judge_values ps names false asked).pairs (expr-kept k names Value) (expr-kept v names Value) (values-kept ps names false asked))
        (one-more-pair k (judge k names Value).tree v (judge v names asked).tree ps (judge_values ps names lone asked).pairs (expr-kept k names Value) (expr-kept v names asked) (values-kept ps names lone asked))

  over-kept : (e : Tree) (names : Names) (asked : Asked) → height (judge e names asked).tree + 1 ≡ height e + 1
  over-kept e names asked = ap (λ (x : ℕ). x + 1) (expr-kept e names asked).1

  -- Expressions in statements

  maybe-kept : (e : Option Tree) (names : Names) → Kept (IsProperMaybe n) over_maybe e (judge_maybe e names).expr
  maybe-kept None names = (λ w. w, refl)
  maybe-kept (Some e) names = ((expr-kept e names Value).0, over-kept e names Value)

  suffixes-kept : (ss : List SuffixTree) (names : Names) → Kept (AllByRecursion (IsProperSuffix n)) over_suffixes ss (judge_suffixes ss names).suffixes
  suffixes-kept [] names = (λ w. w, refl)
  suffixes-kept (at_index e ∷ ss) names =
      let k : Kept (AllByRecursion (IsProperSuffix n)) over_suffixes ss (judge_suffixes ss names).suffixes = suffixes-kept ss names in
      (λ w. ((expr-kept e names Value).0 w.0, k.0 w.1), ap₂ (λ (x y : ℕ). max x y) (over-kept e names Value) k.1)
  suffixes-kept (at_key e ∷ ss) names =
      let k : Kept (AllByRecursion (IsProperSuffix n)) over_suffixes ss (judge_suffixes ss names).suffixes = suffixes-kept ss names in
      (λ w. ((expr-kept e names Value).0 w.0, k.0 w.1), ap₂ (λ (x y : ℕ). max x y) (over-kept e names Value) k.1)

  place-kept : (p : PlaceTree) (names : Names) → Kept (IsProperPlace n) over_place p (judge_place p names).place
  place-kept p names = let k : Kept (AllByRecursion (IsProperSuffix n)) over_suffixes p.suffixes (judge_suffixes p.suffixes names).suffixes = suffixes-kept p.suffixes names in (λ w. (w.0, w.1, k.0 w.2), k.1)

  step-kept : (s : StepTree) (names : Names) → Kept (IsProperStep n) over_step s (judge_step s names).step
  step-kept (step_after p o) names = place-kept p names
  step-kept (step_before o p) names = place-kept p names

  small-form-kept : (f : SmallFormTree) (names : Names) → Kept (IsProperSmallForm n) over_small_form f (judge_small_form f names).form
  small-form-kept (small_declare t x None) names = (λ w. w, refl)
  small-form-kept (small_declare t x (Some e)) names = (λ w. (w.0, w.1, (expr-kept e names (This t)).0 w.2), ap (λ (x : ℕ). max (over_type t) x) (over-kept e names (This t)))
  small-form-kept (small_infer x e) names = (λ w. (w.0, (expr-kept e names Value).0 w.1), over-kept e names Value)
  small-form-kept (small_assign p e) names =
      (λ w. ((place-kept p names).0 w.0, (expr-kept e names (This (place_ty names p))).0 w.1), ap₂ (λ (x y : ℕ). max x y) (place-kept p names).1 (over-kept e names (This (place_ty names p))))
  small-form-kept (small_update p o e) names = (λ w. ((place-kept p names).0 w.0, (expr-kept e names Value).0 w.1), ap₂ (λ (x y : ℕ). max x y) (place-kept p names).1 (over-kept e names Value))
  small-form-kept (small_step s) names = step-kept s names
  small-form-kept (small_call e) names = (λ w. (call-kept e names Whole ∙ w.0, (expr-kept e names Whole).0 w.1), over-kept e names Whole)

  small-kept : (s : Option SmallTree) (names : Names) (site : Site) → Kept (IsProperSmall n) over_small s (judge_small s names site).small
  small-kept None names site = (λ w. w, refl)
  small-kept (Some s) names site = (λ w. (w.0, (small-form-kept s.form names).0 w.1), (small-form-kept s.form names).1)

  setting-form-kept : (f : SettingFormTree) (names : Names) → Kept (IsProperSettingForm n) over_setting_form f (judge_setting_form f names).form
  setting-form-kept (setting_named x e) names = (λ w. (w.0, (expr-kept e names Value).0 w.1), over-kept e names Value)
  setting-form-kept (setting_plain e) names = ((expr-kept e names Value).0, over-kept e names Value)

  settings-kept : (ss : List SettingTree) (names : Names) (of_dep : Bool) (seen : Seen) → Kept (AllByRecursion (IsProperSetting n)) over_settings ss (judge_settings ss names of_dep seen).settings
  settings-kept [] names of_dep seen = (λ w. w, refl)
  settings-kept (s ∷ ss) names of_dep seen =
      let k : Kept (AllByRecursion (IsProperSetting n)) over_settings ss (judge_settings ss names of_dep (seen_behind seen s.form)).settings = settings-kept ss names of_dep (seen_behind seen s.form) in
      (λ w. ((w.0.0, (setting-form-kept s.form names).0 w.0.1), k.0 w.1), ap₂ (λ (x y : ℕ). max x y) (setting-form-kept s.form names).1 k.1)

  -- Statements

  mutual
    stmt-kept : (s : StmtTree) (names : Names) (site : Site) → Kept (IsProperStmt n) stmt_height s (judge_stmt s names site).stmt
    stmt-kept (stmt at f) names site = (λ w. (w.0, (stmt-form-kept f names site).0 w.1), (stmt-form-kept f names site).1)

    stmt-form-kept : (f : StmtFormTree) (names : Names) (site : Site) → Kept (IsProperStmtForm n) over_stmt_form f (judge_stmt_form f names site).form
    stmt-form-kept (inner_block b) names site = ((block-kept b names (inner names site)).0, ap (λ (x : ℕ). x + 1) (block-kept b names (inner names site)).1)
    stmt-form-kept empty names site = (λ w. w, refl)
    stmt-form-kept (line l) names site = line-kept l names site
    stmt-form-kept (when c then_part else_part) names site = (
      λ w. ((expr-kept c names Value).0 w.0, (stmt-kept then_part names (inner names site)).0 w.1, (else-kept else_part names (inner names site)).0 w.2),
      ap₂ (λ (x y : ℕ). max x y) (over-kept c names Value) (ap₂ (λ (x y : ℕ). max (x + 1) y) (stmt-kept then_part names (inner names site)).1 (else-kept else_part names (inner names site)).1),
    )
    stmt-form-kept (while c s) names site =
        (λ w. ((expr-kept c names Value).0 w.0, (stmt-kept s names (in_loop names site)).0 w.1), ap₂ (λ (x y : ℕ). max x (y + 1)) (over-kept c names Value) (stmt-kept s names (in_loop names site)).1)
    stmt-form-kept (for f c x s) names site =
        let behind : Names = behind_first f names site in (
          λ w. ((small-kept f names (inner names site)).0 w.0, (maybe-kept c behind).0 w.1, (small-kept x behind (inner behind site)).0 w.2, (stmt-kept s behind (in_loop behind site)).0 w.3),
          ap₂ (λ (a b : ℕ). max a b) (small-kept f names (inner names site)).1
              (ap₂ (λ (a b : ℕ). max a b) (maybe-kept c behind).1 (ap₂ (λ (a b : ℕ). max a (b + 1)) (small-kept x behind (inner behind site)).1 (stmt-kept s behind (in_loop behind site)).1)),
        )
    stmt-form-kept (each t x e s) names site =
        let behind : Names = with_local names x t in (
          λ w. (w.0, w.1, (expr-kept e names Value).0 w.2, (stmt-kept s behind (in_loop behind site)).0 w.3),
          ap (λ (a : ℕ). max (over_type t) a) (ap₂ (λ (a b : ℕ). max a (b + 1)) (over-kept e names Value) (stmt-kept s behind (in_loop behind site)).1),
        )
    stmt-form-kept (switch e cs) names site =
        let k : Kept (AreProperCases n) over_cases cs (judge_cases cs names site).cases = cases-kept cs names site in
        (λ w. ((expr-kept e names Value).0 w.0, k.0 w.1), ap₂ (λ (x y : ℕ). max x y) (over-kept e names Value) k.1)

    cases-kept : (cs : CaseTrees) (names : Names) (site : Site) → Kept (AreProperCases n) over_cases cs (judge_cases cs names site).cases
    cases-kept no_cases names site = (λ w. w, refl)
    cases-kept (more_cases c cs) names site =
        (λ w. ((case-kept c names site).0 w.0, (cases-kept cs names site).0 w.1), ap₂ (λ (x y : ℕ). max x y) (case-kept c names site).1 (cases-kept cs names site).1)

    case-kept : (c : CaseTree) (names : Names) (site : Site) → Kept (IsProperCase n) over_case c (judge_case c names site).tree
    case-kept (a_case at l ss) names site =
        let k : Kept (AreProperStmts n) over_stmts ss (judge_stmts ss names (in_switch names site)).stmts = stmts-kept ss names (in_switch names site) in
        (λ w. (w.0, (maybe-kept l names).0 w.1, k.0 w.2), ap₂ (λ (x y : ℕ). max x y) (maybe-kept l names).1 k.1)

    else-kept : (s : MaybeStmt) (names : Names) (site : Site) → Kept (IsProperElse n) over_else s (judge_else s names site).stmt
    else-kept no_stmt names site = (λ w. w, refl)
    else-kept (a_stmt s) names site = ((stmt-kept s names site).0, ap (λ (x : ℕ). x + 1) (stmt-kept s names site).1)

    line-kept : (l : LineTree) (names : Names) (site : Site) → Kept (IsProperLine n) over_line l (judge_line l names site).line
    line-kept (declare t x r) names site = (λ w. (w.0, w.1, (maybe-right-kept r names (This t)).0 w.2), ap (λ (a : ℕ). max (over_type t) a) (maybe-right-kept r names (This t)).1)
    line-kept (infer x r) names site = (λ w. (w.0, (right-kept r names Value).0 w.1), (right-kept r names Value).1)
    line-kept (assign p r) names site =
        (λ w. ((place-kept p names).0 w.0, (right-kept r names (This (place_ty names p))).0 w.1), ap₂ (λ (x y : ℕ). max x y) (place-kept p names).1 (right-kept r names (This (place_ty names p))).1)
    line-kept (update p o r) names site = (λ w. ((place-kept p names).0 w.0, (right-kept r names Value).0 w.1), ap₂ (λ (x y : ℕ). max x y) (place-kept p names).1 (right-kept r names Value).1)
    line-kept (step s) names site = step-kept s names
    line-kept (call_line e) names site = (λ w. (call-kept e names Whole ∙ w.0, (expr-kept e names Whole).0 w.1), over-kept e names Whole)
    line-kept (print e) names site = ((expr-kept e names Value).0, over-kept e names Value)
    line-kept (println e) names site = maybe-kept e names
    line-kept (error e) names site = ((expr-kept e names Value).0, over-kept e names Value)
    line-kept (exit e) names site = ((expr-kept e names Value).0, over-kept e names Value)
    line-kept break names site = (λ w. w, refl)
    line-kept continue names site = (λ w. w, refl)
    line-kept (return r) names site = maybe-right-kept r names (returned site.returns)
    line-kept (wait e) names site = maybe-kept e names
    line-kept (checkpoint e) names site = maybe-kept e names
    line-kept (act_line a) names site = act-kept a names Whole

    right-kept : (r : RightTree) (names : Names) (asked : Asked) → Kept (IsProperRight n) over_right r (judge_right r names asked).right
    right-kept (right_expr e) names asked = ((expr-kept e names asked).0, over-kept e names asked)
    right-kept (right_act a) names asked = act-kept a names asked

    maybe-right-kept : (r : MaybeRight) (names : Names) (asked : Asked) → Kept (IsProperMaybeRight n) over_maybe_right r (judge_maybe_right r names asked).right
    maybe-right-kept no_right names asked = (λ w. w, refl)
    maybe-right-kept (a_right r) names asked = right-kept r names asked

    act-kept : (a : ActTree) (names : Names) (asked : Asked) → Kept (IsProperAct n) over_act a (judge_act a names asked).act
    act-kept (act at f) names asked = (λ w. (w.0, (act-form-kept f names).0 w.1), (act-form-kept f names).1)

    act-form-kept : (f : ActFormTree) (names : Names) → Kept (IsProperActForm n) over_act_form f (judge_act_form f names).form
    act-form-kept (sys ps) names = (λ w. w, refl)
    act-form-kept (task None b) names = (λ w. w, refl)
    act-form-kept (task (Some os) b) names = (λ w. ((settings-kept os names false none_seen).0 w.0, w.1), (settings-kept os names false none_seen).1)
    act-form-kept (dep os b) names = (λ w. ((settings-kept os names true none_seen).0 w.0, w.1), (settings-kept os names true none_seen).1)
    act-form-kept (goal e) names = ((expr-kept e names Value).0, over-kept e names Value)
    act-form-kept (par_call f es) names =
        let k : KeptExprs es (judge_arguments es names (parameters_of (function_named f names.functions))).trees = arguments-kept es names (parameters_of (function_named f names.functions)) in
        (λ w. (w.0, k.0 w.1), k.1)
    act-form-kept (par_block b) names = ((block-kept b names (apart names)).0, ap (λ (x : ℕ). x + 1) (block-kept b names (apart names)).1)

    block-kept : (b : BlockTree) (names : Names) (site : Site) → Kept (IsProperBlock n) block_height b (judge_block b names site).block
    block-kept (block at ss) names site = (λ w. (w.0, (stmts-kept ss names site).0 w.1), (stmts-kept ss names site).1)

    stmts-kept : (ss : StmtTrees) (names : Names) (site : Site) → Kept (AreProperStmts n) over_stmts ss (judge_stmts ss names site).stmts
    stmts-kept no_stmts names site = (λ w. w, refl)
    stmts-kept (more_stmts s ss) names site =
        let behind : Names = (judge_stmt s names site).names in
        (λ w. ((stmt-kept s names site).0 w.0, (stmts-kept ss behind site).0 w.1), ap₂ (λ (x y : ℕ). max (x + 1) y) (stmt-kept s names site).1 (stmts-kept ss behind site).1)

  -- Scripts

  part-kept : (all : Names) (before : List Head) (names : Names) (p : PartTree) → Kept (IsProperPart n) part_height p (judge_part all before names p).part
  part-kept all before names (a_function f) =
      let k : Kept (IsProperBlock n) block_height f.body (judge_block f.body (with_parameters all f.parameters) (in_function f.result)).block = block-kept f.body (with_parameters all f.parameters) (in_function f.result) in
      (λ w. (w.0, w.1, w.2, w.3, k.0 w.4), ap (λ (x : ℕ). max (nesting f.result) (max (parameters_height f.parameters) x)) k.1)
  part-kept all before names (an_include i) = (λ w. w, refl)
  part-kept all before names (a_statement s) = stmt-kept s names top

  parts-kept : (all : Names) (before : List Head) (names : Names) (ps : List PartTree) → Kept (AllByRecursion (IsProperPart n)) parts_height ps (judge_parts all before names ps).parts
  parts-kept all before names [] = (λ w. w, refl)
  parts-kept all before names (p ∷ ps) =
      let behind : Names = (judge_part all before names p).names in
      let k : Kept (AllByRecursion (IsProperPart n)) parts_height ps (judge_parts all (with_head before p) behind ps).parts = parts-kept all (with_head before p) behind ps in
      (λ w. ((part-kept all before names p).0 w.0, k.0 w.1), ap₂ (λ (x y : ℕ). max x y) (part-kept all before names p).1 k.1)

pub program-kept : (source : ScriptTree) → IsProgram source → IsProgram (typed source)
program-kept source p =
    let ps : List PartTree = source.parts in
    let k : Kept (length source.files) (AllByRecursion (IsProperPart (length source.files))) parts_height ps (judge_parts (names_of (heads_of ps) (globals_of ps)) [] (names_of (heads_of ps) first_globals) ps).parts =
    parts-kept (length source.files) (names_of (heads_of ps) (globals_of ps)) [] (names_of (heads_of ps) first_globals) ps in
    record { paths = p.paths; few = p.few; file = p.file; parts = k.0 p.parts; nesting = subst (λ (h : ℕ). h ≤ MAX_NESTING) (sym k.1) p.nesting }
