-- Numbering the nodes of a part leaves it as deep as it was.
use Rattle.std.proofs.Common.{◌≡◌, ℕ, ◌+◌, max, List, [], ◌∷◌, map, Option, Some, None, refl, ap, ap₂}
use Rattle.bds_value.specs.Fields.{nesting}
use Rattle.bds_tree.specs.Tree.{Tree, FormTree, Trees, TreePairs, node, number, text, truth, name, call, group, list, mapping, item, key, method, prefix, binary, choice, dependency, none, more, no_pairs, more_pairs}
use Rattle.bds_tree.specs.Shape.{height, form_height, heights, pair_heights}
use Rattle.bds_tree.specs.StmtTree.{SuffixTree, at_index, at_key, PlaceTree, StepTree, step_after, step_before, SmallFormTree, small_declare, small_infer, small_assign, small_update, small_step, small_call, SmallTree, SettingFormTree, setting_named, setting_plain, SettingTree, StmtTree, StmtFormTree, LineTree, RightTree, ActTree, ActFormTree, BlockTree, StmtTrees, MaybeStmt, MaybeRight, PartTree, stmt, inner_block, empty, line, when, while, for, each, declare, infer, assign, update, step, call_line, print, println, error, exit, break, continue, return, wait, checkpoint, act_line, right_expr, right_act, act, sys, task, dep, goal, par_call, par_block, block, no_stmts, more_stmts, no_stmt, a_stmt, no_right, a_right, a_function, an_include, a_statement, CaseTrees, CaseTree, switch, no_cases, more_cases, a_case}
use Rattle.bds_tree.specs.StmtShape.{over_type, over_maybe, over_suffixes, over_place, over_step, over_small_form, over_small, over_setting_form, over_settings, over_maybe_settings, stmt_height, over_stmt_form, over_else, over_line, over_right, over_maybe_right, over_act, over_act_form, block_height, over_stmts, parameters_height, part_height, over_cases, over_case}
use Rattle.bds_check_typing.specs.Remade.{option_with, remade_expr, remade_form, remade_exprs, remade_pairs, remade_suffix, remade_place, remade_step, remade_small_form, remade_small, remade_setting_form, remade_setting, remade_stmt, remade_stmt_form, remade_else, remade_line, remade_right, remade_maybe_right, remade_act, remade_act_form, remade_block, remade_stmts, remade_cases, remade_case}
use Rattle.bds_check_typing.specs.Numbered.{in_file, kept_ty, part_in}

one-up : {a b : ℕ} → a ≡ b → a + 1 ≡ b + 1
one-up e = ap (λ (x : ℕ). x + 1) e

deeper : {a b c d : ℕ} → a ≡ b → c ≡ d → max a c ≡ max b d
deeper p q = ap₂ (λ (x y : ℕ). max x y) p q

module _ (file : ℕ) where
  mutual
    expr-as-deep : (e : Tree) → height (remade_expr (in_file file) kept_ty e) ≡ height e
    expr-as-deep (node at t f) = form-as-deep f

    form-as-deep : (f : FormTree) → form_height (remade_form (in_file file) kept_ty f) ≡ form_height f
    form-as-deep (number v) = refl
    form-as-deep (text ps) = refl
    form-as-deep (truth b) = refl
    form-as-deep (name x) = refl
    form-as-deep (call f es) = exprs-as-deep es
    form-as-deep (group e) = one-up (expr-as-deep e)
    form-as-deep (list es) = exprs-as-deep es
    form-as-deep (mapping ps) = pairs-as-deep ps
    form-as-deep (item a i) = deeper (one-up (expr-as-deep a)) (one-up (expr-as-deep i))
    form-as-deep (key a k) = deeper (one-up (expr-as-deep a)) (one-up (expr-as-deep k))
    form-as-deep (method a m es) = deeper (one-up (expr-as-deep a)) (exprs-as-deep es)
    form-as-deep (prefix o a) = one-up (expr-as-deep a)
    form-as-deep (binary a o b) = deeper (one-up (expr-as-deep a)) (one-up (expr-as-deep b))
    form-as-deep (choice c a b) = deeper (one-up (expr-as-deep c)) (deeper (one-up (expr-as-deep a)) (one-up (expr-as-deep b)))
    form-as-deep (dependency a b) = deeper (one-up (expr-as-deep a)) (one-up (expr-as-deep b))

    exprs-as-deep : (es : Trees) → heights (remade_exprs (in_file file) kept_ty es) ≡ heights es
    exprs-as-deep none = refl
    exprs-as-deep (more e es) = deeper (one-up (expr-as-deep e)) (exprs-as-deep es)

    pairs-as-deep : (ps : TreePairs) → pair_heights (remade_pairs (in_file file) kept_ty ps) ≡ pair_heights ps
    pairs-as-deep no_pairs = refl
    pairs-as-deep (more_pairs k v ps) = deeper (deeper (one-up (expr-as-deep k)) (one-up (expr-as-deep v))) (pairs-as-deep ps)

  maybe-as-deep : (e : Option Tree) → over_maybe (option_with (remade_expr (in_file file) kept_ty) e) ≡ over_maybe e
  maybe-as-deep None = refl
  maybe-as-deep (Some e) = one-up (expr-as-deep e)

  suffixes-as-deep : (ss : List SuffixTree) → over_suffixes (map (remade_suffix (in_file file) kept_ty) ss) ≡ over_suffixes ss
  suffixes-as-deep [] = refl
  suffixes-as-deep (at_index e ∷ ss) = deeper (one-up (expr-as-deep e)) (suffixes-as-deep ss)
  suffixes-as-deep (at_key e ∷ ss) = deeper (one-up (expr-as-deep e)) (suffixes-as-deep ss)

  place-as-deep : (p : PlaceTree) → over_place (remade_place (in_file file) kept_ty p) ≡ over_place p
  place-as-deep p = suffixes-as-deep p.suffixes

  step-as-deep : (s : StepTree) → over_step (remade_step (in_file file) kept_ty s) ≡ over_step s
  step-as-deep (step_after p o) = place-as-deep p
  step-as-deep (step_before o p) = place-as-deep p

  small-form-as-deep : (f : SmallFormTree) → over_small_form (remade_small_form (in_file file) kept_ty f) ≡ over_small_form f
  small-form-as-deep (small_declare t x e) = ap (λ (a : ℕ). max (over_type t) a) (maybe-as-deep e)
  small-form-as-deep (small_infer x e) = one-up (expr-as-deep e)
  small-form-as-deep (small_assign p e) = deeper (place-as-deep p) (one-up (expr-as-deep e))
  small-form-as-deep (small_update p o e) = deeper (place-as-deep p) (one-up (expr-as-deep e))
  small-form-as-deep (small_step s) = step-as-deep s
  small-form-as-deep (small_call e) = one-up (expr-as-deep e)

  small-as-deep : (s : Option SmallTree) → over_small (option_with (remade_small (in_file file) kept_ty) s) ≡ over_small s
  small-as-deep None = refl
  small-as-deep (Some s) = small-form-as-deep s.form

  setting-form-as-deep : (f : SettingFormTree) → over_setting_form (remade_setting_form (in_file file) kept_ty f) ≡ over_setting_form f
  setting-form-as-deep (setting_named x e) = one-up (expr-as-deep e)
  setting-form-as-deep (setting_plain e) = one-up (expr-as-deep e)

  settings-as-deep : (ss : List SettingTree) → over_settings (map (remade_setting (in_file file) kept_ty) ss) ≡ over_settings ss
  settings-as-deep [] = refl
  settings-as-deep (s ∷ ss) = deeper (setting-form-as-deep s.form) (settings-as-deep ss)

  maybe-settings-as-deep : (os : Option (List SettingTree)) → over_maybe_settings (option_with (map (remade_setting (in_file file) kept_ty)) os) ≡ over_maybe_settings os
  maybe-settings-as-deep None = refl
  maybe-settings-as-deep (Some ss) = settings-as-deep ss

  mutual
    stmt-as-deep : (s : StmtTree) → stmt_height (remade_stmt (in_file file) kept_ty s) ≡ stmt_height s
    stmt-as-deep (stmt at f) = stmt-form-as-deep f

    stmt-form-as-deep : (f : StmtFormTree) → over_stmt_form (remade_stmt_form (in_file file) kept_ty f) ≡ over_stmt_form f
    stmt-form-as-deep (inner_block b) = one-up (block-as-deep b)
    stmt-form-as-deep empty = refl
    stmt-form-as-deep (line l) = line-as-deep l
    stmt-form-as-deep (when c then_part else_part) = deeper (one-up (expr-as-deep c)) (deeper (one-up (stmt-as-deep then_part)) (else-as-deep else_part))
    stmt-form-as-deep (while c s) = deeper (one-up (expr-as-deep c)) (one-up (stmt-as-deep s))
    stmt-form-as-deep (for first c next s) = deeper (small-as-deep first) (deeper (maybe-as-deep c) (deeper (small-as-deep next) (one-up (stmt-as-deep s))))
    stmt-form-as-deep (each t x e s) = ap (λ (a : ℕ). max (over_type t) a) (deeper (one-up (expr-as-deep e)) (one-up (stmt-as-deep s)))
    stmt-form-as-deep (switch e cs) = deeper (one-up (expr-as-deep e)) (cases-as-deep cs)

    cases-as-deep : (cs : CaseTrees) → over_cases (remade_cases (in_file file) kept_ty cs) ≡ over_cases cs
    cases-as-deep no_cases = refl
    cases-as-deep (more_cases c cs) = deeper (case-as-deep c) (cases-as-deep cs)

    case-as-deep : (c : CaseTree) → over_case (remade_case (in_file file) kept_ty c) ≡ over_case c
    case-as-deep (a_case at l ss) = deeper (maybe-as-deep l) (stmts-as-deep ss)

    else-as-deep : (s : MaybeStmt) → over_else (remade_else (in_file file) kept_ty s) ≡ over_else s
    else-as-deep no_stmt = refl
    else-as-deep (a_stmt s) = one-up (stmt-as-deep s)

    line-as-deep : (l : LineTree) → over_line (remade_line (in_file file) kept_ty l) ≡ over_line l
    line-as-deep (declare t x r) = ap (λ (a : ℕ). max (over_type t) a) (maybe-right-as-deep r)
    line-as-deep (infer x r) = right-as-deep r
    line-as-deep (assign p r) = deeper (place-as-deep p) (right-as-deep r)
    line-as-deep (update p o r) = deeper (place-as-deep p) (right-as-deep r)
    line-as-deep (step s) = step-as-deep s
    line-as-deep (call_line e) = one-up (expr-as-deep e)
    line-as-deep (print e) = one-up (expr-as-deep e)
    line-as-deep (println e) = maybe-as-deep e
    line-as-deep (error e) = one-up (expr-as-deep e)
    line-as-deep (exit e) = one-up (expr-as-deep e)
    line-as-deep break = refl
    line-as-deep continue = refl
    line-as-deep (return r) = maybe-right-as-deep r
    line-as-deep (wait e) = maybe-as-deep e
    line-as-deep (checkpoint e) = maybe-as-deep e
    line-as-deep (act_line a) = act-as-deep a

    right-as-deep : (r : RightTree) → over_right (remade_right (in_file file) kept_ty r) ≡ over_right r
    right-as-deep (right_expr e) = one-up (expr-as-deep e)
    right-as-deep (right_act a) = act-as-deep a

    maybe-right-as-deep : (r : MaybeRight) → over_maybe_right (remade_maybe_right (in_file file) kept_ty r) ≡ over_maybe_right r
    maybe-right-as-deep no_right = refl
    maybe-right-as-deep (a_right r) = right-as-deep r

    act-as-deep : (a : ActTree) → over_act (remade_act (in_file file) kept_ty a) ≡ over_act a
    act-as-deep (act at f) = act-form-as-deep f

    act-form-as-deep : (f : ActFormTree) → over_act_form (remade_act_form (in_file file) kept_ty f) ≡ over_act_form f
    act-form-as-deep (sys ps) = refl
    act-form-as-deep (task os b) = maybe-settings-as-deep os
    act-form-as-deep (dep os b) = settings-as-deep os
    act-form-as-deep (goal e) = one-up (expr-as-deep e)
    act-form-as-deep (par_call f es) = exprs-as-deep es
    act-form-as-deep (par_block b) = one-up (block-as-deep b)

    block-as-deep : (b : BlockTree) → block_height (remade_block (in_file file) kept_ty b) ≡ block_height b
    block-as-deep (block at ss) = stmts-as-deep ss

    stmts-as-deep : (ss : StmtTrees) → over_stmts (remade_stmts (in_file file) kept_ty ss) ≡ over_stmts ss
    stmts-as-deep no_stmts = refl
    stmts-as-deep (more_stmts s ss) = deeper (one-up (stmt-as-deep s)) (stmts-as-deep ss)

  pub part-as-deep : (p : PartTree) → part_height (part_in file p) ≡ part_height p
  part-as-deep (a_function f) = ap (λ (x : ℕ). max (nesting f.result) (max (parameters_height f.parameters) x)) (block-as-deep f.body)
  part-as-deep (an_include i) = refl
  part-as-deep (a_statement s) = stmt-as-deep s
