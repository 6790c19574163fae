-- The parts of a program stay such where their nodes get the number of one of its files.
use Rattle.std.proofs.Common.{◌≡◌, ◌∙◌, refl, ℕ, ◌<◌, List, [], ◌∷◌, map, Option, Some, None}
use Rattle.std.specs.List.{AllByRecursion}
use Rattle.bds_tree.specs.declared.stmt.Body.{Body}
use Rattle.bds_tree.specs.declared.stmt.Body.TheVariants as body
use Rattle.bds_tree.specs.declared.stmt.Command.{Command}
use Rattle.bds_tree.specs.Tree.{Tree, FormTree, Trees, TreePairs, node, number, text, truth, name, call, group, list, mapping, item, key, method, prefix, binary, choice, dependency, none, more, no_pairs, more_pairs}
use Rattle.bds_tree.specs.StmtTree.{SuffixTree, at_index, at_key, PlaceTree, StepTree, step_after, step_before, SmallFormTree, small_declare, small_infer, small_assign, small_update, small_step, small_call, SmallTree, SettingFormTree, setting_named, setting_plain, SettingTree, StmtTree, StmtFormTree, LineTree, RightTree, ActTree, ActFormTree, BlockTree, StmtTrees, MaybeStmt, MaybeRight, PartTree, stmt, inner_block, empty, line, when, while, for, each, declare, infer, assign, update, step, call_line, print, println, error, exit, break, continue, return, wait, checkpoint, act_line, right_expr, right_act, act, sys, task, dep, goal, par_call, par_block, block, no_stmts, more_stmts, no_stmt, a_stmt, no_right, a_right, a_function, an_include, a_statement, CaseTrees, CaseTree, switch, no_cases, more_cases, a_case}
use Rattle.bds_tree.specs.StmtShape.{is_call}
use Rattle.bds_check_typing.specs.Remade.{option_with, remade_expr, remade_form, remade_exprs, remade_pairs, remade_suffix, remade_place, remade_step, remade_small_form, remade_small, remade_setting_form, remade_setting, remade_command, remade_body, remade_stmt, remade_stmt_form, remade_else, remade_line, remade_right, remade_maybe_right, remade_act, remade_act_form, remade_block, remade_stmts, remade_cases, remade_case}
use Rattle.bds_check_typing.specs.Numbered.{in_file, kept_ty, part_in}
use Rattle.bds_check_typing.specs.Texts.{AreShortPieces}
use Rattle.bds_check_typing.specs.Proper.{IsInFile, IsProperExpr, IsProperForm, AreProperExprs, AreProperPairs, IsProperMaybe, IsProperSuffix, IsProperPlace, IsProperStep, IsProperSmallForm, IsProperSmall, IsProperSettingForm, IsProperSetting, AreProperMaybeSettings, IsProperStmt, IsProperStmtForm, IsProperElse, IsProperLine, IsProperRight, IsProperMaybeRight, IsProperAct, IsProperActForm, IsProperBody, IsProperBlock, AreProperStmts, IsProperPart, AreProperCases, IsProperCase}

module _ (m n file : ℕ) (here : file < n) where
  mutual
    expr-numbered : (e : Tree) → IsProperExpr m e → IsProperExpr n (remade_expr (in_file file) kept_ty e)
    expr-numbered (node at t f) h = (here, form-numbered f h.1)

    form-numbered : (f : FormTree) → IsProperForm m f → IsProperForm n (remade_form (in_file file) kept_ty f)
    form-numbered (number v) h = tt
    form-numbered (text ps) h = h
    form-numbered (truth b) h = tt
    form-numbered (name x) h = h
    form-numbered (call f es) h = (h.0, exprs-numbered es h.1)
    form-numbered (group e) h = expr-numbered e h
    form-numbered (list es) h = exprs-numbered es h
    form-numbered (mapping ps) h = pairs-numbered ps h
    form-numbered (item a i) h = (expr-numbered a h.0, expr-numbered i h.1)
    form-numbered (key a k) h = (expr-numbered a h.0, expr-numbered k h.1)
    form-numbered (method a x es) h = (h.0, expr-numbered a h.1, exprs-numbered es h.2)
    form-numbered (prefix o a) h = expr-numbered a h
    form-numbered (binary a o b) h = (expr-numbered a h.0, expr-numbered b h.1)
    form-numbered (choice c a b) h = (expr-numbered c h.0, expr-numbered a h.1, expr-numbered b h.2)
    form-numbered (dependency a b) h = (expr-numbered a h.0, expr-numbered b h.1)

    exprs-numbered : (es : Trees) → AreProperExprs m es → AreProperExprs n (remade_exprs (in_file file) kept_ty es)
    exprs-numbered none h = tt
    exprs-numbered (more e es) h = (expr-numbered e h.0, exprs-numbered es h.1)

    pairs-numbered : (ps : TreePairs) → AreProperPairs m ps → AreProperPairs n (remade_pairs (in_file file) kept_ty ps)
    pairs-numbered no_pairs h = tt
    pairs-numbered (more_pairs k v ps) h = (expr-numbered k h.0, expr-numbered v h.1, pairs-numbered ps h.2)

  call-numbered : (e : Tree) → is_call (remade_expr (in_file file) kept_ty e) ≡ is_call e
  call-numbered (node at t (number v)) = refl
  call-numbered (node at t (text ps)) = refl
  call-numbered (node at t (truth b)) = refl
  call-numbered (node at t (name x)) = refl
  call-numbered (node at t (call f es)) = refl
  call-numbered (node at t (group e)) = refl
  call-numbered (node at t (list es)) = refl
  call-numbered (node at t (mapping ps)) = refl
  call-numbered (node at t (item a i)) = refl
  call-numbered (node at t (key a k)) = refl
  call-numbered (node at t (method a m es)) = refl
  call-numbered (node at t (prefix o a)) = refl
  call-numbered (node at t (binary a o b)) = refl
  call-numbered (node at t (choice c a b)) = refl
  call-numbered (node at t (dependency a b)) = refl

  maybe-numbered : (e : Option Tree) → IsProperMaybe m e → IsProperMaybe n (option_with (remade_expr (in_file file) kept_ty) e)
  maybe-numbered None h = tt
  maybe-numbered (Some e) h = expr-numbered e h

  suffixes-numbered : (ss : List SuffixTree) → AllByRecursion (IsProperSuffix m) ss → AllByRecursion (IsProperSuffix n) (map (remade_suffix (in_file file) kept_ty) ss)
  suffixes-numbered [] h = tt
  suffixes-numbered (at_index e ∷ ss) h = (expr-numbered e h.0, suffixes-numbered ss h.1)
  suffixes-numbered (at_key e ∷ ss) h = (expr-numbered e h.0, suffixes-numbered ss h.1)

  place-numbered : (p : PlaceTree) → IsProperPlace m p → IsProperPlace n (remade_place (in_file file) kept_ty p)
  place-numbered p h = (here, h.1, suffixes-numbered p.suffixes h.2)

  step-numbered : (s : StepTree) → IsProperStep m s → IsProperStep n (remade_step (in_file file) kept_ty s)
  step-numbered (step_after p o) h = place-numbered p h
  step-numbered (step_before o p) h = place-numbered p h

  small-form-numbered : (f : SmallFormTree) → IsProperSmallForm m f → IsProperSmallForm n (remade_small_form (in_file file) kept_ty f)
  small-form-numbered (small_declare t x e) h = (h.0, h.1, maybe-numbered e h.2)
  small-form-numbered (small_infer x e) h = (h.0, expr-numbered e h.1)
  small-form-numbered (small_assign p e) h = (place-numbered p h.0, expr-numbered e h.1)
  small-form-numbered (small_update p o e) h = (place-numbered p h.0, expr-numbered e h.1)
  small-form-numbered (small_step s) h = step-numbered s h
  small-form-numbered (small_call e) h = (call-numbered e ∙ h.0, expr-numbered e h.1)

  small-numbered : (s : Option SmallTree) → IsProperSmall m s → IsProperSmall n (option_with (remade_small (in_file file) kept_ty) s)
  small-numbered None h = tt
  small-numbered (Some s) h = (here, small-form-numbered s.form h.1)

  setting-form-numbered : (f : SettingFormTree) → IsProperSettingForm m f → IsProperSettingForm n (remade_setting_form (in_file file) kept_ty f)
  setting-form-numbered (setting_named x e) h = (h.0, expr-numbered e h.1)
  setting-form-numbered (setting_plain e) h = expr-numbered e h

  settings-numbered : (ss : List SettingTree) → AllByRecursion (IsProperSetting m) ss → AllByRecursion (IsProperSetting n) (map (remade_setting (in_file file) kept_ty) ss)
  settings-numbered [] h = tt
  settings-numbered (s ∷ ss) h = ((here, setting-form-numbered s.form h.0.1), settings-numbered ss h.1)

  maybe-settings-numbered : (os : Option (List SettingTree)) → AreProperMaybeSettings m os → AreProperMaybeSettings n (option_with (map (remade_setting (in_file file) kept_ty)) os)
  maybe-settings-numbered None h = tt
  maybe-settings-numbered (Some ss) h = settings-numbered ss h

  commands-numbered : (cs : List Command) → AllByRecursion (λ c. IsInFile m c.at × AreShortPieces c.text) cs → AllByRecursion (λ c. IsInFile n c.at × AreShortPieces c.text) (map (remade_command (in_file file) kept_ty) cs)
  commands-numbered [] h = tt
  commands-numbered (c ∷ cs) h = ((here, h.0.1), commands-numbered cs h.1)

  body-numbered : (b : Body) → IsProperBody m b → IsProperBody n (remade_body (in_file file) kept_ty b)
  body-numbered (body.Sys c) h = ((here, h.0.1), tt)
  body-numbered (body.Block cs) h = commands-numbered cs h

  mutual
    stmt-numbered : (s : StmtTree) → IsProperStmt m s → IsProperStmt n (remade_stmt (in_file file) kept_ty s)
    stmt-numbered (stmt at f) h = (here, stmt-form-numbered f h.1)

    stmt-form-numbered : (f : StmtFormTree) → IsProperStmtForm m f → IsProperStmtForm n (remade_stmt_form (in_file file) kept_ty f)
    stmt-form-numbered (inner_block b) h = block-numbered b h
    stmt-form-numbered empty h = tt
    stmt-form-numbered (line l) h = line-numbered l h
    stmt-form-numbered (when c then_part else_part) h = (expr-numbered c h.0, stmt-numbered then_part h.1, else-numbered else_part h.2)
    stmt-form-numbered (while c s) h = (expr-numbered c h.0, stmt-numbered s h.1)
    stmt-form-numbered (for first c next s) h = (small-numbered first h.0, maybe-numbered c h.1, small-numbered next h.2, stmt-numbered s h.3)
    stmt-form-numbered (each t x e s) h = (h.0, h.1, expr-numbered e h.2, stmt-numbered s h.3)
    stmt-form-numbered (switch e cs) h = (expr-numbered e h.0, cases-numbered cs h.1)

    cases-numbered : (cs : CaseTrees) → AreProperCases m cs → AreProperCases n (remade_cases (in_file file) kept_ty cs)
    cases-numbered no_cases h = tt
    cases-numbered (more_cases c cs) h = (case-numbered c h.0, cases-numbered cs h.1)

    case-numbered : (c : CaseTree) → IsProperCase m c → IsProperCase n (remade_case (in_file file) kept_ty c)
    case-numbered (a_case at l ss) h = (here, maybe-numbered l h.1, stmts-numbered ss h.2)

    else-numbered : (s : MaybeStmt) → IsProperElse m s → IsProperElse n (remade_else (in_file file) kept_ty s)
    else-numbered no_stmt h = tt
    else-numbered (a_stmt s) h = stmt-numbered s h

    line-numbered : (l : LineTree) → IsProperLine m l → IsProperLine n (remade_line (in_file file) kept_ty l)
    line-numbered (declare t x r) h = (h.0, h.1, maybe-right-numbered r h.2)
    line-numbered (infer x r) h = (h.0, right-numbered r h.1)
    line-numbered (assign p r) h = (place-numbered p h.0, right-numbered r h.1)
    line-numbered (update p o r) h = (place-numbered p h.0, right-numbered r h.1)
    line-numbered (step s) h = step-numbered s h
    line-numbered (call_line e) h = (call-numbered e ∙ h.0, expr-numbered e h.1)
    line-numbered (print e) h = expr-numbered e h
    line-numbered (println e) h = maybe-numbered e h
    line-numbered (error e) h = expr-numbered e h
    line-numbered (exit e) h = expr-numbered e h
    line-numbered break h = tt
    line-numbered continue h = tt
    line-numbered (return r) h = maybe-right-numbered r h
    line-numbered (wait e) h = maybe-numbered e h
    line-numbered (checkpoint e) h = maybe-numbered e h
    line-numbered (act_line a) h = act-numbered a h

    right-numbered : (r : RightTree) → IsProperRight m r → IsProperRight n (remade_right (in_file file) kept_ty r)
    right-numbered (right_expr e) h = expr-numbered e h
    right-numbered (right_act a) h = act-numbered a h

    maybe-right-numbered : (r : MaybeRight) → IsProperMaybeRight m r → IsProperMaybeRight n (remade_maybe_right (in_file file) kept_ty r)
    maybe-right-numbered no_right h = tt
    maybe-right-numbered (a_right r) h = right-numbered r h

    act-numbered : (a : ActTree) → IsProperAct m a → IsProperAct n (remade_act (in_file file) kept_ty a)
    act-numbered (act at f) h = (here, act-form-numbered f h.1)

    act-form-numbered : (f : ActFormTree) → IsProperActForm m f → IsProperActForm n (remade_act_form (in_file file) kept_ty f)
    act-form-numbered (sys ps) h = h
    act-form-numbered (task os b) h = (maybe-settings-numbered os h.0, body-numbered b h.1)
    act-form-numbered (dep os b) h = (settings-numbered os h.0, body-numbered b h.1)
    act-form-numbered (goal e) h = expr-numbered e h
    act-form-numbered (par_call f es) h = (h.0, exprs-numbered es h.1)
    act-form-numbered (par_block b) h = block-numbered b h

    block-numbered : (b : BlockTree) → IsProperBlock m b → IsProperBlock n (remade_block (in_file file) kept_ty b)
    block-numbered (block at ss) h = (here, stmts-numbered ss h.1)

    stmts-numbered : (ss : StmtTrees) → AreProperStmts m ss → AreProperStmts n (remade_stmts (in_file file) kept_ty ss)
    stmts-numbered no_stmts h = tt
    stmts-numbered (more_stmts s ss) h = (stmt-numbered s h.0, stmts-numbered ss h.1)

  pub part-numbered : (p : PartTree) → IsProperPart m p → IsProperPart n (part_in file p)
  part-numbered (a_function f) h = (here, h.1, h.2, h.3, block-numbered f.body h.4)
  part-numbered (an_include i) h = absurd h
  part-numbered (a_statement s) h = stmt-numbered s h
