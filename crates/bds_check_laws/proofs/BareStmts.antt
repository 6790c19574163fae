-- The walk looks at no type that an expression has already: statements and parts.
use Rattle.std.proofs.Common.{◌≡◌, Bool, true, false, ◌||◌, List, [], ◌∷◌, map, Option, Some, None, refl, ap, ap₂, ◌∙◌}
use Rattle.bds_value.specs.declared.value.Ty.{Ty}
use Rattle.bds_tree.specs.declared.stmt.Body.{Body}
use Rattle.bds_tree.specs.declared.stmt.Body.TheVariants as body
use Rattle.bds_tree.specs.declared.stmt.Command.{Command}
use Rattle.bds_tree.specs.Tree.{Tree, node, number, text, truth, name, call, group, list, mapping, item, key, method, prefix, binary, choice, dependency}
use Rattle.bds_tree.specs.StmtTree.{SuffixTree, at_index, at_key, PlaceTree, StepTree, step_after, step_before, SmallFormTree, small_declare, small_infer, small_assign, small_update, small_step, small_call, SmallTree, SettingFormTree, setting_named, setting_plain, SettingTree, StmtTree, StmtFormTree, LineTree, RightTree, ActTree, ActFormTree, BlockTree, StmtTrees, MaybeStmt, MaybeRight, FunctionTree, PartTree, stmt, inner_block, empty, line, when, while, for, each, declare, infer, assign, update, step, call_line, print, println, error, exit, break, continue, return, wait, checkpoint, act_line, right_expr, right_act, act, sys, task, dep, goal, par_call, par_block, block, no_stmts, more_stmts, no_stmt, a_stmt, no_right, a_right, a_function, an_include, a_statement, CaseTrees, CaseTree, switch, no_cases, more_cases, a_case}
use Rattle.bds_check_names.specs.declared.names.Names.{Names}
use Rattle.bds_check_names.specs.declared.names.Head.{Head}
use Rattle.bds_check_names.specs.declared.names.Asked.{Asked}
use Rattle.bds_check_names.specs.declared.names.Asked.TheVariants.{Whole, Value, This}
use Rattle.bds_check_names.specs.declared.names.Site.{Site}
use Rattle.bds_check_names.specs.declared.names.Seen.{Seen}
use Rattle.bds_check_names.specs.Scopes.{function_named, type_named, with_local, inner, in_loop, apart, top, in_function, in_switch}
use Rattle.bds_check_rules.specs.StmtBreaks.{into, part_ty, place_ty, none_seen, seen_behind, is_dependency}
use Rattle.bds_check_typing.specs.Walk.{judge, parameters_of}
use Rattle.bds_check_typing.proofs.AcceptedValues.{three}
use Rattle.bds_check_typing.specs.StmtParts.{JudgedSettings, JudgedSmall, JudgedStmt, some_expr, judge_maybe, suffix_with, judge_suffix, also_suffix, judge_suffixes, close_place, judge_place, with_step, judge_step, small_with, small_with_place, small_with_step, judge_small_form, close_small, judge_small, setting_with, judge_setting_form, close_setting, judge_setting, also_setting, judge_settings, body_broken, task_with, dep_with, par_with, par_block_with, close_act, returned, close_stmt}
use Rattle.bds_check_typing.specs.StmtWalk.{goal_with, right_with, right_with_act, some_right, line_with, line_with_maybe, line_with_right, line_with_maybe_right, line_with_place, line_with_step, line_with_act, form_with_block, form_with_line, form_with_branches, form_with_body, form_with_head, some_stmt, also_stmt, block_with, judge_stmt, judge_stmt_form, judge_else, judge_line, judge_right, judge_maybe_right, judge_act, judge_act_form, judge_block, judge_stmts, form_with_cases, case_with, also_case, judge_cases, judge_case}
use Rattle.bds_check_typing.specs.Program.{JudgedPart, with_head, with_parameters, close_function, function_part, statement_part, also_part, judge_part, judge_parts}
use Rattle.bds_check_typing.specs.Remade.{option_with, remade_command, remade_suffix, remade_place, remade_step, remade_small_form, remade_small, remade_setting_form, remade_setting, remade_body, remade_stmt, remade_stmt_form, remade_else, remade_line, remade_right, remade_maybe_right, remade_act, remade_act_form, remade_block, remade_stmts, remade_function, remade_part, remade_cases, remade_case}
use Rattle.bds_check_laws.specs.TypedAs.{kept_at, no_type}
use Rattle.bds_check_laws.proofs.Bare.{bare_expr, expr-bare, arguments-bare}

abbrev pub bare_suffix : SuffixTree → SuffixTree
bare_suffix = remade_suffix kept_at no_type

abbrev pub bare_place : PlaceTree → PlaceTree
bare_place = remade_place kept_at no_type

abbrev pub bare_step : StepTree → StepTree
bare_step = remade_step kept_at no_type

abbrev pub bare_small_form : SmallFormTree → SmallFormTree
bare_small_form = remade_small_form kept_at no_type

abbrev pub bare_small : SmallTree → SmallTree
bare_small = remade_small kept_at no_type

abbrev pub bare_setting_form : SettingFormTree → SettingFormTree
bare_setting_form = remade_setting_form kept_at no_type

abbrev pub bare_setting : SettingTree → SettingTree
bare_setting = remade_setting kept_at no_type

abbrev pub bare_body : Body → Body
bare_body = remade_body kept_at no_type

abbrev pub bare_stmt : StmtTree → StmtTree
bare_stmt = remade_stmt kept_at no_type

abbrev pub bare_stmt_form : StmtFormTree → StmtFormTree
bare_stmt_form = remade_stmt_form kept_at no_type

abbrev pub bare_else : MaybeStmt → MaybeStmt
bare_else = remade_else kept_at no_type

abbrev pub bare_line : LineTree → LineTree
bare_line = remade_line kept_at no_type

abbrev pub bare_right : RightTree → RightTree
bare_right = remade_right kept_at no_type

abbrev pub bare_maybe_right : MaybeRight → MaybeRight
bare_maybe_right = remade_maybe_right kept_at no_type

abbrev pub bare_act : ActTree → ActTree
bare_act = remade_act kept_at no_type

abbrev pub bare_act_form : ActFormTree → ActFormTree
bare_act_form = remade_act_form kept_at no_type

abbrev pub bare_block : BlockTree → BlockTree
bare_block = remade_block kept_at no_type

abbrev pub bare_case : CaseTree → CaseTree
bare_case = remade_case kept_at no_type

abbrev pub bare_cases : CaseTrees → CaseTrees
bare_cases = remade_cases kept_at no_type

abbrev pub bare_stmts : StmtTrees → StmtTrees
bare_stmts = remade_stmts kept_at no_type

abbrev pub bare_function : FunctionTree → FunctionTree
bare_function = remade_function kept_at no_type

abbrev pub bare_part : PartTree → PartTree
bare_part = remade_part kept_at no_type

-- Expressions in statements

pub maybe-bare : (e : Option Tree) (names : Names) → judge_maybe (option_with bare_expr e) names ≡ judge_maybe e names
maybe-bare None names = refl
maybe-bare (Some e) names = ap some_expr (expr-bare names e Value)

pub suffix-bare : (s : SuffixTree) (names : Names) → judge_suffix (bare_suffix s) names ≡ judge_suffix s names
suffix-bare (at_index e) names = ap (suffix_with at_index) (expr-bare names e Value)
suffix-bare (at_key e) names = ap (suffix_with at_key) (expr-bare names e Value)

pub suffixes-bare : (ss : List SuffixTree) (names : Names) → judge_suffixes (map bare_suffix ss) names ≡ judge_suffixes ss names
suffixes-bare [] names = refl
suffixes-bare (s ∷ ss) names = ap₂ also_suffix (suffix-bare s names) (suffixes-bare ss names)

into-bare : (t : Ty) (s : SuffixTree) → into t (bare_suffix s) ≡ into t s
into-bare t (at_index e) = refl
into-bare t (at_key e) = refl

part-ty-bare : (t : Ty) (ss : List SuffixTree) → part_ty t (map bare_suffix ss) ≡ part_ty t ss
part-ty-bare t [] = refl
part-ty-bare t (s ∷ ss) = ap (λ (u : Ty). part_ty u (map bare_suffix ss)) (into-bare t s) ∙ part-ty-bare (into t s) ss

place-ty-bare : (p : PlaceTree) (names : Names) → place_ty names (bare_place p) ≡ place_ty names p
place-ty-bare p names = part-ty-bare (type_named p.name names) p.suffixes

pub place-bare : (p : PlaceTree) (names : Names) → judge_place (bare_place p) names ≡ judge_place p names
place-bare p names = ap (close_place p.at p.name names) (suffixes-bare p.suffixes names)

step-bare : (s : StepTree) (names : Names) → judge_step (bare_step s) names ≡ judge_step s names
step-bare (step_after p o) names = ap (with_step (λ q. step_after q o)) (place-bare p names)
step-bare (step_before o p) names = ap (with_step (step_before o)) (place-bare p names)

-- Heads of loops

pub small-form-bare : (f : SmallFormTree) (names : Names) → judge_small_form (bare_small_form f) names ≡ judge_small_form f names
small-form-bare (small_declare t x None) names = refl
small-form-bare (small_declare t x (Some e)) names = ap (small_with (λ d. small_declare t x (Some d))) (expr-bare names e (This t))
small-form-bare (small_infer x e) names = ap (small_with (small_infer x)) (expr-bare names e Value)
small-form-bare (small_assign p e) names =
    ap (λ (t : Ty). small_with_place small_assign (judge_place (bare_place p) names) (judge (bare_expr e) names (This t))) (place-ty-bare p names)
    ∙ ap₂ (small_with_place small_assign) (place-bare p names) (expr-bare names e (This (place_ty names p)))
small-form-bare (small_update p o e) names = ap₂ (small_with_place (λ q. small_update q o)) (place-bare p names) (expr-bare names e Value)
small-form-bare (small_step s) names = ap small_with_step (step-bare s names)
small-form-bare (small_call e) names = ap (small_with small_call) (expr-bare names e Whole)

pub small-bare : (s : Option SmallTree) (names : Names) (site : Site) → judge_small (option_with bare_small s) names site ≡ judge_small s names site
small-bare None names site = refl
small-bare (Some s) names site = ap (close_small s.at names site) (small-form-bare s.form names)

-- Options and commands

pub setting-form-bare : (f : SettingFormTree) (names : Names) → judge_setting_form (bare_setting_form f) names ≡ judge_setting_form f names
setting-form-bare (setting_named x e) names = ap (setting_with (setting_named x)) (expr-bare names e Value)
setting-form-bare (setting_plain e) names = ap (setting_with setting_plain) (expr-bare names e Value)

dependency-bare : (e : Tree) → is_dependency (bare_expr e) ≡ is_dependency e
dependency-bare (node at t (number v)) = refl
dependency-bare (node at t (text ps)) = refl
dependency-bare (node at t (truth b)) = refl
dependency-bare (node at t (name x)) = refl
dependency-bare (node at t (call f es)) = refl
dependency-bare (node at t (group e)) = refl
dependency-bare (node at t (list es)) = refl
dependency-bare (node at t (mapping ps)) = refl
dependency-bare (node at t (item a i)) = refl
dependency-bare (node at t (key a k)) = refl
dependency-bare (node at t (method a m es)) = refl
dependency-bare (node at t (prefix o a)) = refl
dependency-bare (node at t (binary a o b)) = refl
dependency-bare (node at t (choice c a b)) = refl
dependency-bare (node at t (dependency a b)) = refl

seen-bare : (seen : Seen) (f : SettingFormTree) → seen_behind seen (bare_setting_form f) ≡ seen_behind seen f
seen-bare seen (setting_named x e) = refl
seen-bare seen (setting_plain e) = ap (λ (b : Bool). record { names = seen.names; dependency = seen.dependency || b }) (dependency-bare e)

pub setting-bare : (s : SettingTree) (names : Names) (of_dep : Bool) (seen : Seen) → judge_setting (bare_setting s) names of_dep seen ≡ judge_setting s names of_dep seen
setting-bare s names of_dep seen = ap (close_setting s.at of_dep seen) (setting-form-bare s.form names)

pub settings-bare : (ss : List SettingTree) (names : Names) (of_dep : Bool) (seen : Seen) → judge_settings (map bare_setting ss) names of_dep seen ≡ judge_settings ss names of_dep seen
settings-bare [] names of_dep seen = refl
settings-bare (s ∷ ss) names of_dep seen =
    ap (λ (behind : Seen). also_setting (judge_setting (bare_setting s) names of_dep seen) (judge_settings (map bare_setting ss) names of_dep behind)) (seen-bare seen s.form)
    ∙ ap₂ also_setting (setting-bare s names of_dep seen) (settings-bare ss names of_dep (seen_behind seen s.form))

commands-same : (cs : List Command) → map (remade_command kept_at no_type) cs ≡ cs
commands-same [] = refl
commands-same (c ∷ cs) = ap (λ (ds : List Command). c ∷ ds) (commands-same cs)

pub body-same : (b : Body) → bare_body b ≡ b
body-same (body.Sys c) = refl
body-same (body.Block cs) = ap body.Block (commands-same cs)

-- Statements

mutual
  pub stmt-bare : (s : StmtTree) (names : Names) (site : Site) → judge_stmt (bare_stmt s) names site ≡ judge_stmt s names site
  stmt-bare (stmt at f) names site = ap (close_stmt at names site) (stmt-form-bare f names site)

  pub stmt-form-bare : (f : StmtFormTree) (names : Names) (site : Site) → judge_stmt_form (bare_stmt_form f) names site ≡ judge_stmt_form f names site
  stmt-form-bare (inner_block b) names site = ap form_with_block (block-bare b names (inner names site))
  stmt-form-bare empty names site = refl
  stmt-form-bare (line l) names site = ap form_with_line (line-bare l names site)
  stmt-form-bare (when c then_part else_part) names site =
      three form_with_branches (expr-bare names c Value) (stmt-bare then_part names (inner names site)) (else-bare else_part names (inner names site))
  stmt-form-bare (while c s) names site = ap₂ (form_with_body while) (expr-bare names c Value) (stmt-bare s names (in_loop names site))
  stmt-form-bare (for f c n s) names site =
      let head : JudgedSmall = judge_small f names (inner names site) in
      ap (λ (j : JudgedSmall). form_with_head j (judge_maybe (option_with bare_expr c) j.names) (judge_small (option_with bare_small n) j.names (inner j.names site)) (judge_stmt (bare_stmt s) j.names (in_loop j.names site))) (small-bare f names (inner names site))
      ∙ three (form_with_head head) (maybe-bare c head.names) (small-bare n head.names (inner head.names site)) (stmt-bare s head.names (in_loop head.names site))
  stmt-form-bare (each t x e s) names site = ap₂ (form_with_body (each t x)) (expr-bare names e Value) (stmt-bare s (with_local names x t) (in_loop (with_local names x t) site))
  stmt-form-bare (switch e cs) names site = ap₂ form_with_cases (expr-bare names e Value) (cases-bare cs names site)

  cases-bare : (cs : CaseTrees) (names : Names) (site : Site) → judge_cases (bare_cases cs) names site ≡ judge_cases cs names site
  cases-bare no_cases names site = refl
  cases-bare (more_cases c cs) names site = ap₂ also_case (case-bare c names site) (cases-bare cs names site)

  pub case-bare : (c : CaseTree) (names : Names) (site : Site) → judge_case (bare_case c) names site ≡ judge_case c names site
  case-bare (a_case at l ss) names site = ap₂ (case_with at) (maybe-bare l names) (stmts-bare ss names (in_switch names site))

  else-bare : (s : MaybeStmt) (names : Names) (site : Site) → judge_else (bare_else s) names site ≡ judge_else s names site
  else-bare no_stmt names site = refl
  else-bare (a_stmt s) names site = ap some_stmt (stmt-bare s names site)

  line-bare : (l : LineTree) (names : Names) (site : Site) → judge_line (bare_line l) names site ≡ judge_line l names site
  line-bare (declare t x r) names site = ap (line_with_maybe_right (declare t x)) (maybe-right-bare r names (This t))
  line-bare (infer x r) names site = ap (line_with_right (infer x)) (right-bare r names Value)
  line-bare (assign p r) names site =
      ap (λ (t : Ty). line_with_place assign (judge_place (bare_place p) names) (judge_right (bare_right r) names (This t))) (place-ty-bare p names)
      ∙ ap₂ (line_with_place assign) (place-bare p names) (right-bare r names (This (place_ty names p)))
  line-bare (update p o r) names site = ap₂ (line_with_place (λ q. update q o)) (place-bare p names) (right-bare r names Value)
  line-bare (step s) names site = ap line_with_step (step-bare s names)
  line-bare (call_line e) names site = ap (line_with call_line) (expr-bare names e Whole)
  line-bare (print e) names site = ap (line_with print) (expr-bare names e Value)
  line-bare (println e) names site = ap (line_with_maybe println) (maybe-bare e names)
  line-bare (error e) names site = ap (line_with error) (expr-bare names e Value)
  line-bare (exit e) names site = ap (line_with exit) (expr-bare names e Value)
  line-bare break names site = refl
  line-bare continue names site = refl
  line-bare (return r) names site = ap (line_with_maybe_right return) (maybe-right-bare r names (returned site.returns))
  line-bare (wait e) names site = ap (line_with_maybe wait) (maybe-bare e names)
  line-bare (checkpoint e) names site = ap (line_with_maybe checkpoint) (maybe-bare e names)
  line-bare (act_line a) names site = ap line_with_act (act-bare a names Whole)

  pub right-bare : (r : RightTree) (names : Names) (asked : Asked) → judge_right (bare_right r) names asked ≡ judge_right r names asked
  right-bare (right_expr e) names asked = ap right_with (expr-bare names e asked)
  right-bare (right_act a) names asked = ap right_with_act (act-bare a names asked)

  maybe-right-bare : (r : MaybeRight) (names : Names) (asked : Asked) → judge_maybe_right (bare_maybe_right r) names asked ≡ judge_maybe_right r names asked
  maybe-right-bare no_right names asked = refl
  maybe-right-bare (a_right r) names asked = ap some_right (right-bare r names asked)

  act-bare : (a : ActTree) (names : Names) (asked : Asked) → judge_act (bare_act a) names asked ≡ judge_act a names asked
  act-bare (act at f) names asked = ap (close_act at names asked) (act-form-bare f names)

  pub act-form-bare : (f : ActFormTree) (names : Names) → judge_act_form (bare_act_form f) names ≡ judge_act_form f names
  act-form-bare (sys ps) names = refl
  act-form-bare (task None b) names = ap (λ (x : Body). record { form = task None x; broken = body_broken x names }) (body-same b)
  act-form-bare (task (Some os) b) names =
      ap (λ (x : Body). task_with x (judge_settings (map bare_setting os) names false none_seen) (body_broken x names)) (body-same b)
      ∙ ap (λ (js : JudgedSettings). task_with b js (body_broken b names)) (settings-bare os names false none_seen)
  act-form-bare (dep os b) names =
      ap (λ (x : Body). dep_with x (judge_settings (map bare_setting os) names true none_seen) (body_broken x names)) (body-same b)
      ∙ ap (λ (js : JudgedSettings). dep_with b js (body_broken b names)) (settings-bare os names true none_seen)
  act-form-bare (goal e) names = ap goal_with (expr-bare names e Value)
  act-form-bare (par_call f es) names = ap (par_with f) (arguments-bare names es (parameters_of (function_named f names.functions)))
  act-form-bare (par_block b) names = ap (par_block_with names) (block-bare b names (apart names))

  pub block-bare : (b : BlockTree) (names : Names) (site : Site) → judge_block (bare_block b) names site ≡ judge_block b names site
  block-bare (block at ss) names site = ap (block_with at) (stmts-bare ss names site)

  stmts-bare : (ss : StmtTrees) (names : Names) (site : Site) → judge_stmts (bare_stmts ss) names site ≡ judge_stmts ss names site
  stmts-bare no_stmts names site = refl
  stmts-bare (more_stmts s ss) names site =
      ap (λ (j : JudgedStmt). also_stmt j (judge_stmts (bare_stmts ss) j.names site)) (stmt-bare s names site)
      ∙ ap (also_stmt (judge_stmt s names site)) (stmts-bare ss (judge_stmt s names site).names site)

-- Parts

pub part-bare : (p : PartTree) (all : Names) (before : List Head) (names : Names) → judge_part all before names (bare_part p) ≡ judge_part all before names p
part-bare (a_function f) all before names = ap (λ j. function_part names (close_function before f j)) (block-bare f.body (with_parameters all f.parameters) (in_function f.result))
part-bare (an_include i) all before names = refl
part-bare (a_statement s) all before names = ap statement_part (stmt-bare s names top)

head-bare : (p : PartTree) (heads : List Head) → with_head heads (bare_part p) ≡ with_head heads p
head-bare (a_function f) heads = refl
head-bare (an_include i) heads = refl
head-bare (a_statement s) heads = refl

pub parts-bare : (ps : List PartTree) (all : Names) (before : List Head) (names : Names) → judge_parts all before names (map bare_part ps) ≡ judge_parts all before names ps
parts-bare [] all before names = refl
parts-bare (p ∷ ps) all before names =
    ap (λ (hs : List Head). also_part (judge_part all before names (bare_part p)) (judge_parts all hs (judge_part all before names (bare_part p)).names (map bare_part ps))) (head-bare p before)
    ∙ ap (λ (j : JudgedPart). also_part j (judge_parts all (with_head before p) j.names (map bare_part ps))) (part-bare p all before names)
    ∙ ap (also_part (judge_part all before names p)) (parts-bare ps all (with_head before p) (judge_part all before names p).names)
