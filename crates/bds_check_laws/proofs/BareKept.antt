-- Checking changes nothing of a tree but the types of expressions.
use Rattle.std.proofs.Common.{◌≡◌, Bool, true, false, not, ◌&&◌, List, [], ◌∷◌, map, Option, Some, None, is_none, refl, ap, ap₂, ◌∙◌, if◌then◌else◌}
use Rattle.bds_value.specs.declared.value.Ty.{Ty}
use Rattle.bds_value.specs.declared.value.Ty.TheVariants as ty
use Rattle.bds_tree.specs.Tree.{Tree, FormTree, Trees, TreePairs, node, number, text, truth, name, call, group, list, mapping, item, key, method, prefix, binary, choice, dependency, none, more, no_pairs, more_pairs, type_of}
use Rattle.bds_tree.specs.StmtTree.{SuffixTree, at_index, at_key, PlaceTree, StepTree, step_after, step_before, SmallFormTree, small_declare, small_infer, small_assign, small_update, small_step, small_call, SmallTree, SettingFormTree, setting_named, setting_plain, SettingTree, StmtTree, StmtFormTree, LineTree, RightTree, ActTree, ActFormTree, BlockTree, StmtTrees, MaybeStmt, MaybeRight, PartTree, stmt, inner_block, empty, line, when, while, for, each, declare, infer, assign, update, step, call_line, print, println, error, exit, break, continue, return, wait, checkpoint, act_line, right_expr, right_act, act, sys, task, dep, goal, par_call, par_block, block, no_stmts, more_stmts, no_stmt, a_stmt, no_right, a_right, a_function, an_include, a_statement, CaseTrees, CaseTree, switch, no_cases, more_cases, a_case}
use Rattle.bds_check_names.specs.declared.names.Names.{Names}
use Rattle.bds_check_names.specs.declared.names.Head.{Head}
use Rattle.bds_check_names.specs.declared.names.Asked.{Asked}
use Rattle.bds_check_names.specs.declared.names.Asked.TheVariants.{Whole, Value, This}
use Rattle.bds_check_names.specs.declared.names.Site.{Site}
use Rattle.bds_check_names.specs.declared.names.Seen.{Seen}
use Rattle.bds_check_names.specs.Types.{is_known}
use Rattle.bds_check_names.specs.Rows.{row_of}
use Rattle.bds_check_names.specs.Scopes.{function_named, with_local, inner, in_loop, apart, top, in_function, in_switch}
use Rattle.bds_check_rules.specs.Typing.{asked_list_item, asked_map_item, count}
use Rattle.bds_check_rules.specs.StmtBreaks.{place_ty, none_seen, seen_behind}
use Rattle.bds_check_typing.specs.Walk.{JudgedTrees, JudgedPairs, also, also_pair, judge, judge_form, judge_arguments, judge_items, judge_values, beside, value_beside, items_asked, is_open, no_whole, parameters_of, taken_by}
use Rattle.bds_check_typing.proofs.AcceptedValues.{three}
use Rattle.bds_check_typing.specs.StmtParts.{returned, judge_maybe, judge_suffix, judge_suffixes, judge_place, judge_step, judge_small_form, judge_small, judge_setting_form, judge_setting, judge_settings}
use Rattle.bds_check_typing.specs.StmtWalk.{behind_first, judge_stmt, judge_stmt_form, judge_else, judge_line, judge_right, judge_maybe_right, judge_act, judge_act_form, judge_block, judge_stmts, judge_cases, judge_case}
use Rattle.bds_check_typing.specs.Program.{with_head, with_parameters, judge_part, judge_parts}
use Rattle.bds_check_typing.specs.Remade.{option_with}
use Rattle.bds_check_laws.proofs.Bare.{bare_expr, bare_form, bare_exprs, bare_pairs}
use Rattle.bds_check_laws.proofs.BareStmts.{bare_suffix, bare_place, bare_step, bare_small_form, bare_small, bare_setting_form, bare_setting, bare_body, bare_stmt, bare_stmt_form, bare_else, bare_line, bare_right, bare_maybe_right, bare_act, bare_act_form, bare_block, bare_stmts, bare_part, bare_cases, bare_case}

-- Expressions

either-kept : (b : Bool) (x y : JudgedTrees) (es : Trees) → bare_exprs x.trees ≡ bare_exprs es → bare_exprs y.trees ≡ bare_exprs es → bare_exprs (if b then x else y).trees ≡ bare_exprs es
either-kept true x y es h k = h
either-kept false x y es h k = k

either-pairs-kept : (b : Bool) (x y : JudgedPairs) (ps : TreePairs) → bare_pairs x.pairs ≡ bare_pairs ps → bare_pairs y.pairs ≡ bare_pairs ps → bare_pairs (if b then x else y).pairs ≡ bare_pairs ps
either-pairs-kept true x y ps h k = h
either-pairs-kept false x y ps h k = k

mutual
  pub expr-kept : (e : Tree) (names : Names) (asked : Asked) → bare_expr (judge e names asked).tree ≡ bare_expr e
  expr-kept (node at t f) names asked = ap (node at ty.Void) (form-kept f names asked)

  pub form-kept : (f : FormTree) (names : Names) (asked : Asked) → bare_form (judge_form f names asked).form ≡ bare_form f
  form-kept (number v) names asked = refl
  form-kept (text ps) names asked = refl
  form-kept (truth b) names asked = refl
  form-kept (name x) names asked = refl
  form-kept (call f es) names asked = ap (call f) (arguments-kept es names (parameters_of (function_named f names.functions)))
  form-kept (group e) names asked = ap group (expr-kept e names (no_whole asked))
  form-kept (list es) names asked = ap list (items-kept es names (is_none (asked_list_item asked)) (items_asked (asked_list_item asked) (beside es names asked)))
  form-kept (mapping ps) names asked = ap mapping (values-kept ps names (is_none (asked_map_item asked)) (items_asked (asked_map_item asked) (value_beside ps names asked)))
  form-kept (item a i) names asked = ap₂ item (expr-kept a names Value) (expr-kept i names Value)
  form-kept (key a k) names asked = ap₂ key (expr-kept a names Value) (expr-kept k names Value)
  form-kept (method a m es) names asked =
      let t : Ty = type_of (judge a names Value).tree in
      let ts : List Ty = taken_by (row_of t m (count es)) in
      ap₂ (λ x ys. method x m ys) (expr-kept a names Value)
      (either-kept (is_known t) (judge_arguments es names ts) (judge_items es names false (This ty.Void)) es (arguments-kept es names ts) (items-kept es names false (This ty.Void)))
  form-kept (prefix o a) names asked = ap (prefix o) (expr-kept a names Value)
  form-kept (binary a o b) names asked = ap₂ (λ x y. binary x o y) (expr-kept a names Value) (expr-kept b names Value)
  form-kept (choice c a b) names asked = three choice (expr-kept c names Value) (expr-kept a names Value) (expr-kept b names Value)
  form-kept (dependency a b) names asked = ap₂ dependency (expr-kept a names Value) (expr-kept b names Value)

  arguments-kept : (es : Trees) (names : Names) (ts : List Ty) → bare_exprs (judge_arguments es names ts).trees ≡ bare_exprs es
  arguments-kept none names ts = refl
  arguments-kept (more e es) names [] = ap₂ more (expr-kept e names Value) (arguments-kept es names [])
  arguments-kept (more e es) names (t ∷ ts) = ap₂ more (expr-kept e names (This t)) (arguments-kept es names ts)

  items-kept : (es : Trees) (names : Names) (lone : Bool) (asked : Asked) → bare_exprs (judge_items es names lone asked).trees ≡ bare_exprs es
  items-kept none names lone asked = refl
  items-kept (more e es) names lone asked =
      either-kept (lone && not (is_open e)) (also (judge e names Value) (judge_items es names false asked)) (also (judge e names asked) (judge_items es names lone asked)) (more e es)
      (ap₂ more (expr-kept e names Value) (items-kept es names false asked)) (ap₂ more (expr-kept e names asked) (items-kept es names lone asked))

  values-kept : (ps : TreePairs) (names : Names) (lone : Bool) (asked : Asked) → bare_pairs (judge_values ps names lone asked).pairs ≡ bare_pairs ps
  values-kept no_pairs names lone asked = refl
  values-kept (more_pairs k v ps) names lone asked =
      either-pairs-kept (lone && not (is_open v)) (also_pair (judge k names Value) (judge v names Value) (judge_values ps names false asked)) (also_pair (judge k names Value) (judge v names asked) (judge_values ps names lone asked)) (more_pairs k v ps)
      (three more_pairs (expr-kept k names Value) (expr-kept v names Value) (values-kept ps names false asked)) (three more_pairs (expr-kept k names Value) (expr-kept v names asked) (values-kept ps names lone asked))

-- Expressions in statements

pub maybe-kept : (e : Option Tree) (names : Names) → option_with bare_expr (judge_maybe e names).expr ≡ option_with bare_expr e
maybe-kept None names = refl
maybe-kept (Some e) names = ap Some (expr-kept e names Value)

pub suffix-kept : (s : SuffixTree) (names : Names) → bare_suffix (judge_suffix s names).suffix ≡ bare_suffix s
suffix-kept (at_index e) names = ap at_index (expr-kept e names Value)
suffix-kept (at_key e) names = ap at_key (expr-kept e names Value)

pub suffixes-kept : (ss : List SuffixTree) (names : Names) → map bare_suffix (judge_suffixes ss names).suffixes ≡ map bare_suffix ss
suffixes-kept [] names = refl
suffixes-kept (s ∷ ss) names = ap₂ (λ r rs. r ∷ rs) (suffix-kept s names) (suffixes-kept ss names)

pub place-kept : (p : PlaceTree) (names : Names) → bare_place (judge_place p names).place ≡ bare_place p
place-kept p names = ap (λ (ss : List SuffixTree). record { at = p.at; name = p.name; suffixes = ss }) (suffixes-kept p.suffixes names)

step-kept : (s : StepTree) (names : Names) → bare_step (judge_step s names).step ≡ bare_step s
step-kept (step_after p o) names = ap (λ q. step_after q o) (place-kept p names)
step-kept (step_before o p) names = ap (step_before o) (place-kept p names)

-- Heads of loops

pub small-form-kept : (f : SmallFormTree) (names : Names) → bare_small_form (judge_small_form f names).form ≡ bare_small_form f
small-form-kept (small_declare t x None) names = refl
small-form-kept (small_declare t x (Some e)) names = ap (λ d. small_declare t x (Some d)) (expr-kept e names (This t))
small-form-kept (small_infer x e) names = ap (small_infer x) (expr-kept e names Value)
small-form-kept (small_assign p e) names = ap₂ small_assign (place-kept p names) (expr-kept e names (This (place_ty names p)))
small-form-kept (small_update p o e) names = ap₂ (λ q d. small_update q o d) (place-kept p names) (expr-kept e names Value)
small-form-kept (small_step s) names = ap small_step (step-kept s names)
small-form-kept (small_call e) names = ap small_call (expr-kept e names Whole)

pub small-kept : (s : Option SmallTree) (names : Names) (site : Site) → option_with bare_small (judge_small s names site).small ≡ option_with bare_small s
small-kept None names site = refl
small-kept (Some s) names site = ap (λ (f : SmallFormTree). Some (record { at = s.at; form = f })) (small-form-kept s.form names)

-- Options

pub setting-form-kept : (f : SettingFormTree) (names : Names) → bare_setting_form (judge_setting_form f names).form ≡ bare_setting_form f
setting-form-kept (setting_named x e) names = ap (setting_named x) (expr-kept e names Value)
setting-form-kept (setting_plain e) names = ap setting_plain (expr-kept e names Value)

pub setting-kept : (s : SettingTree) (names : Names) (of_dep : Bool) (seen : Seen) → bare_setting (judge_setting s names of_dep seen).setting ≡ bare_setting s
setting-kept s names of_dep seen = ap (λ (f : SettingFormTree). record { at = s.at; form = f }) (setting-form-kept s.form names)

pub settings-kept : (ss : List SettingTree) (names : Names) (of_dep : Bool) (seen : Seen) → map bare_setting (judge_settings ss names of_dep seen).settings ≡ map bare_setting ss
settings-kept [] names of_dep seen = refl
settings-kept (s ∷ ss) names of_dep seen = ap₂ (λ r rs. r ∷ rs) (setting-kept s names of_dep seen) (settings-kept ss names of_dep (seen_behind seen s.form))

-- Statements

mutual
  pub stmt-kept : (s : StmtTree) (names : Names) (site : Site) → bare_stmt (judge_stmt s names site).stmt ≡ bare_stmt s
  stmt-kept (stmt at f) names site = ap (stmt at) (stmt-form-kept f names site)

  pub stmt-form-kept : (f : StmtFormTree) (names : Names) (site : Site) → bare_stmt_form (judge_stmt_form f names site).form ≡ bare_stmt_form f
  stmt-form-kept (inner_block b) names site = ap inner_block (block-kept b names (inner names site))
  stmt-form-kept empty names site = refl
  stmt-form-kept (line l) names site = ap line (line-kept l names site)
  stmt-form-kept (when c then_part else_part) names site = three when (expr-kept c names Value) (stmt-kept then_part names (inner names site)) (else-kept else_part names (inner names site))
  stmt-form-kept (while c s) names site = ap₂ while (expr-kept c names Value) (stmt-kept s names (in_loop names site))
  stmt-form-kept (for f c n s) names site =
      let behind : Names = behind_first f names site in
      ap (λ (h : Option SmallTree). for h (option_with bare_expr (judge_maybe c behind).expr) (option_with bare_small (judge_small n behind (inner behind site)).small) (bare_stmt (judge_stmt s behind (in_loop behind site)).stmt)) (small-kept f names (inner names site))
      ∙ three (for (option_with bare_small f)) (maybe-kept c behind) (small-kept n behind (inner behind site)) (stmt-kept s behind (in_loop behind site))
  stmt-form-kept (each t x e s) names site = ap₂ (each t x) (expr-kept e names Value) (stmt-kept s (with_local names x t) (in_loop (with_local names x t) site))
  stmt-form-kept (switch e cs) names site = ap₂ switch (expr-kept e names Value) (cases-kept cs names site)

  cases-kept : (cs : CaseTrees) (names : Names) (site : Site) → bare_cases (judge_cases cs names site).cases ≡ bare_cases cs
  cases-kept no_cases names site = refl
  cases-kept (more_cases c cs) names site = ap₂ more_cases (case-kept c names site) (cases-kept cs names site)

  pub case-kept : (c : CaseTree) (names : Names) (site : Site) → bare_case (judge_case c names site).tree ≡ bare_case c
  case-kept (a_case at l ss) names site = ap₂ (a_case at) (maybe-kept l names) (stmts-kept ss names (in_switch names site))

  else-kept : (s : MaybeStmt) (names : Names) (site : Site) → bare_else (judge_else s names site).stmt ≡ bare_else s
  else-kept no_stmt names site = refl
  else-kept (a_stmt s) names site = ap a_stmt (stmt-kept s names site)

  line-kept : (l : LineTree) (names : Names) (site : Site) → bare_line (judge_line l names site).line ≡ bare_line l
  line-kept (declare t x r) names site = ap (declare t x) (maybe-right-kept r names (This t))
  line-kept (infer x r) names site = ap (infer x) (right-kept r names Value)
  line-kept (assign p r) names site = ap₂ assign (place-kept p names) (right-kept r names (This (place_ty names p)))
  line-kept (update p o r) names site = ap₂ (λ q d. update q o d) (place-kept p names) (right-kept r names Value)
  line-kept (step s) names site = ap step (step-kept s names)
  line-kept (call_line e) names site = ap call_line (expr-kept e names Whole)
  line-kept (print e) names site = ap print (expr-kept e names Value)
  line-kept (println e) names site = ap println (maybe-kept e names)
  line-kept (error e) names site = ap error (expr-kept e names Value)
  line-kept (exit e) names site = ap exit (expr-kept e names Value)
  line-kept break names site = refl
  line-kept continue names site = refl
  line-kept (return r) names site = ap return (maybe-right-kept r names (returned site.returns))
  line-kept (wait e) names site = ap wait (maybe-kept e names)
  line-kept (checkpoint e) names site = ap checkpoint (maybe-kept e names)
  line-kept (act_line a) names site = ap act_line (act-kept a names Whole)

  pub right-kept : (r : RightTree) (names : Names) (asked : Asked) → bare_right (judge_right r names asked).right ≡ bare_right r
  right-kept (right_expr e) names asked = ap right_expr (expr-kept e names asked)
  right-kept (right_act a) names asked = ap right_act (act-kept a names asked)

  maybe-right-kept : (r : MaybeRight) (names : Names) (asked : Asked) → bare_maybe_right (judge_maybe_right r names asked).right ≡ bare_maybe_right r
  maybe-right-kept no_right names asked = refl
  maybe-right-kept (a_right r) names asked = ap a_right (right-kept r names asked)

  act-kept : (a : ActTree) (names : Names) (asked : Asked) → bare_act (judge_act a names asked).act ≡ bare_act a
  act-kept (act at f) names asked = ap (act at) (act-form-kept f names)

  pub act-form-kept : (f : ActFormTree) (names : Names) → bare_act_form (judge_act_form f names).form ≡ bare_act_form f
  act-form-kept (sys ps) names = refl
  act-form-kept (task None b) names = refl
  act-form-kept (task (Some os) b) names = ap (λ (ss : List SettingTree). task (Some ss) (bare_body b)) (settings-kept os names false none_seen)
  act-form-kept (dep os b) names = ap (λ (ss : List SettingTree). dep ss (bare_body b)) (settings-kept os names true none_seen)
  act-form-kept (goal e) names = ap goal (expr-kept e names Value)
  act-form-kept (par_call f es) names = ap (par_call f) (arguments-kept es names (parameters_of (function_named f names.functions)))
  act-form-kept (par_block b) names = ap par_block (block-kept b names (apart names))

  pub block-kept : (b : BlockTree) (names : Names) (site : Site) → bare_block (judge_block b names site).block ≡ bare_block b
  block-kept (block at ss) names site = ap (block at) (stmts-kept ss names site)

  stmts-kept : (ss : StmtTrees) (names : Names) (site : Site) → bare_stmts (judge_stmts ss names site).stmts ≡ bare_stmts ss
  stmts-kept no_stmts names site = refl
  stmts-kept (more_stmts s ss) names site = ap₂ more_stmts (stmt-kept s names site) (stmts-kept ss (judge_stmt s names site).names site)

-- Parts

pub part-kept : (p : PartTree) (all : Names) (before : List Head) (names : Names) → bare_part (judge_part all before names p).part ≡ bare_part p
part-kept (a_function f) all before names =
    ap (λ (b : BlockTree). a_function (record { at = f.at; result = f.result; name = f.name; parameters = f.parameters; body = b })) (block-kept f.body (with_parameters all f.parameters) (in_function f.result))
part-kept (an_include i) all before names = refl
part-kept (a_statement s) all before names = ap a_statement (stmt-kept s names top)

pub parts-kept : (ps : List PartTree) (all : Names) (before : List Head) (names : Names) → map bare_part (judge_parts all before names ps).parts ≡ map bare_part ps
parts-kept [] all before names = refl
parts-kept (p ∷ ps) all before names = ap₂ (λ q qs. q ∷ qs) (part-kept p all before names) (parts-kept ps all (with_head before p) (judge_part all before names p).names)
