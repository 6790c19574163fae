-- Before checking all nodes stand in the first file, so its number changes none of them.
use Rattle.std.proofs.Common.{◌≡◌, ◌∙◌, refl, sym, ap, ap₂, subst, ℕ, List, [], ◌∷◌, map, Option, Some, None, false}
use Rattle.std.specs.List.{AllByRecursion, list_any}
use Rattle.bds_value.specs.declared.value.At.{At}
use Rattle.bds_tree.specs.declared.stmt.Body.{Body}
use Rattle.bds_tree.specs.declared.stmt.Body.TheVariants as body
use Rattle.bds_tree.specs.declared.stmt.Command.{Command}
use Rattle.bds_tree.specs.Tree.{Tree, FormTree, Trees, TreePairs, node, number, text, truth, name, call, group, list, mapping, item, key, method, prefix, binary, choice, dependency, none, more, no_pairs, more_pairs}
use Rattle.bds_tree.specs.Shape.{Shaped, IsShapedForm, AreShaped, ArePairsShaped}
use Rattle.bds_tree.specs.StmtTree.{SuffixTree, at_index, at_key, PlaceTree, StepTree, step_after, step_before, SmallFormTree, small_declare, small_infer, small_assign, small_update, small_step, small_call, SmallTree, SettingFormTree, setting_named, setting_plain, SettingTree, StmtTree, StmtFormTree, LineTree, RightTree, ActTree, ActFormTree, BlockTree, StmtTrees, MaybeRight, PartTree, ScriptTree, stmt, inner_block, empty, line, when, while, for, each, declare, infer, assign, update, step, call_line, print, println, error, exit, break, continue, return, wait, checkpoint, act_line, right_expr, right_act, act, sys, task, dep, goal, par_call, par_block, block, no_stmts, more_stmts, no_stmt, a_stmt, no_right, a_right, a_function, an_include, a_statement, CaseTrees, CaseTree, switch, no_cases, more_cases, a_case}
use Rattle.bds_tree.specs.StmtShape.{InFirst, IsMaybeShaped, IsSuffixShaped, IsPlaceShaped, IsStepShaped, IsSmallFormShaped, IsSmallShaped, IsSettingFormShaped, IsSettingShaped, AreMaybeSettingsShaped, IsCommandShaped, IsBodyShaped, IsStmtShaped, IsStmtFormShaped, IsElseShaped, IsLineShaped, IsRightShaped, IsMaybeRightShaped, IsActShaped, IsActFormShaped, IsBlockShaped, AreStmtsShaped, IsPartShaped, AreCasesShaped, IsCaseShaped}
use Rattle.bds_check_typing.specs.Files.{Joins}
use Rattle.bds_check_typing.specs.Numbered.{in_file, kept_ty, part_in}
use Rattle.bds_check_typing.specs.Program.{is_include}
use Rattle.bds_check_typing.specs.Remade.{option_with, remade_expr, remade_form, remade_exprs, remade_pairs, remade_suffix, remade_place, remade_step, remade_small_form, remade_small, remade_setting_form, remade_setting, remade_command, remade_body, remade_stmt, remade_stmt_form, remade_else, remade_line, remade_right, remade_maybe_right, remade_act, remade_act_form, remade_block, remade_stmts, remade_cases, remade_case}

pub at-same : (at : At) → InFirst at → in_file 0 at ≡ at
at-same at h = ap (λ k. record { file = k; line = at.line }) (sym h)

all-same : {X : Type 0} (change : X → X) (P : X → Type 0) → ((x : X) → P x → change x ≡ x) → (xs : List X) → AllByRecursion P xs → map change xs ≡ xs
all-same change P same [] h = refl
all-same change P same (x ∷ xs) h = ap₂ (λ y ys. y ∷ ys) (same x h.0) (all-same change P same xs h.1)

mutual
  expr-same : (e : Tree) → Shaped e → remade_expr (in_file 0) kept_ty e ≡ e
  expr-same (node at t f) h = ap₂ (λ a g. node a t g) (at-same at h.0) (form-same f h.2)

  form-same : (f : FormTree) → IsShapedForm f → remade_form (in_file 0) kept_ty f ≡ f
  form-same (number v) h = refl
  form-same (text ps) h = refl
  form-same (truth b) h = refl
  form-same (name x) h = refl
  form-same (call f es) h = ap (call f) (exprs-same es h)
  form-same (group e) h = ap group (expr-same e h)
  form-same (list es) h = ap list (exprs-same es h)
  form-same (mapping ps) h = ap mapping (pairs-same ps h)
  form-same (item a i) h = ap₂ item (expr-same a h.1) (expr-same i h.2)
  form-same (key a k) h = ap₂ key (expr-same a h.1) (expr-same k h.2)
  form-same (method a x es) h = ap₂ (λ b fs. method b x fs) (expr-same a h.1) (exprs-same es h.2)
  form-same (prefix o a) h = ap (prefix o) (expr-same a h.1)
  form-same (binary a o b) h = ap₂ (λ x y. binary x o y) (expr-same a h.2) (expr-same b h.3)
  form-same (choice c a b) h = ap₂ (λ x y. choice x y (remade_expr (in_file 0) kept_ty b)) (expr-same c h.3) (expr-same a h.4) ∙ ap (choice c a) (expr-same b h.5)
  form-same (dependency a b) h = ap₂ dependency (expr-same a h.2) (expr-same b h.3)

  exprs-same : (es : Trees) → AreShaped es → remade_exprs (in_file 0) kept_ty es ≡ es
  exprs-same none h = refl
  exprs-same (more e es) h = ap₂ more (expr-same e h.0) (exprs-same es h.1)

  pairs-same : (ps : TreePairs) → ArePairsShaped ps → remade_pairs (in_file 0) kept_ty ps ≡ ps
  pairs-same no_pairs h = refl
  pairs-same (more_pairs k v ps) h = ap₂ (λ x y. more_pairs x y (remade_pairs (in_file 0) kept_ty ps)) (expr-same k h.0) (expr-same v h.1) ∙ ap (more_pairs k v) (pairs-same ps h.2)

maybe-same : (e : Option Tree) → IsMaybeShaped e → option_with (remade_expr (in_file 0) kept_ty) e ≡ e
maybe-same None h = refl
maybe-same (Some e) h = ap Some (expr-same e h)

suffix-same : (s : SuffixTree) → IsSuffixShaped s → remade_suffix (in_file 0) kept_ty s ≡ s
suffix-same (at_index e) h = ap at_index (expr-same e h)
suffix-same (at_key e) h = ap at_key (expr-same e h)

place-same : (p : PlaceTree) → IsPlaceShaped p → remade_place (in_file 0) kept_ty p ≡ p
place-same p h = ap₂ (λ a ss. record { at = a; name = p.name; suffixes = ss }) (at-same p.at h.0) (all-same (remade_suffix (in_file 0) kept_ty) IsSuffixShaped suffix-same p.suffixes h.1)

step-same : (s : StepTree) → IsStepShaped s → remade_step (in_file 0) kept_ty s ≡ s
step-same (step_after p o) h = ap (λ q. step_after q o) (place-same p h)
step-same (step_before o p) h = ap (step_before o) (place-same p h)

small-form-same : (f : SmallFormTree) → IsSmallFormShaped f → remade_small_form (in_file 0) kept_ty f ≡ f
small-form-same (small_declare t x e) h = ap (small_declare t x) (maybe-same e h.1)
small-form-same (small_infer x e) h = ap (small_infer x) (expr-same e h)
small-form-same (small_assign p e) h = ap₂ small_assign (place-same p h.0) (expr-same e h.1)
small-form-same (small_update p o e) h = ap₂ (λ q f. small_update q o f) (place-same p h.0) (expr-same e h.1)
small-form-same (small_step s) h = ap small_step (step-same s h)
small-form-same (small_call e) h = ap small_call (expr-same e h.1)

small-same : (s : Option SmallTree) → IsSmallShaped s → option_with (remade_small (in_file 0) kept_ty) s ≡ s
small-same None h = refl
small-same (Some s) h = ap₂ (λ a f. Some (record { at = a; form = f })) (at-same s.at h.0) (small-form-same s.form h.1)

setting-form-same : (f : SettingFormTree) → IsSettingFormShaped f → remade_setting_form (in_file 0) kept_ty f ≡ f
setting-form-same (setting_named x e) h = ap (setting_named x) (expr-same e h)
setting-form-same (setting_plain e) h = ap setting_plain (expr-same e h)

setting-same : (s : SettingTree) → IsSettingShaped s → remade_setting (in_file 0) kept_ty s ≡ s
setting-same s h = ap₂ (λ a f. record { at = a; form = f }) (at-same s.at h.0) (setting-form-same s.form h.1)

settings-same : (ss : List SettingTree) → AllByRecursion IsSettingShaped ss → map (remade_setting (in_file 0) kept_ty) ss ≡ ss
settings-same ss h = all-same (remade_setting (in_file 0) kept_ty) IsSettingShaped setting-same ss h

maybe-settings-same : (ss : Option (List SettingTree)) → AreMaybeSettingsShaped ss → option_with (map (remade_setting (in_file 0) kept_ty)) ss ≡ ss
maybe-settings-same None h = refl
maybe-settings-same (Some ss) h = ap Some (settings-same ss h)

command-same : (c : Command) → IsCommandShaped c → remade_command (in_file 0) kept_ty c ≡ c
command-same c h = ap (λ a. record { at = a; text = c.text }) (at-same c.at h)

body-same : (b : Body) → IsBodyShaped b → remade_body (in_file 0) kept_ty b ≡ b
body-same (body.Sys c) h = ap body.Sys (command-same c h)
body-same (body.Block cs) h = ap body.Block (all-same (remade_command (in_file 0) kept_ty) IsCommandShaped command-same cs h)

mutual
  stmt-same : (s : StmtTree) → IsStmtShaped s → remade_stmt (in_file 0) kept_ty s ≡ s
  stmt-same (stmt at f) h = ap₂ stmt (at-same at h.0) (stmt-form-same f h.1)

  stmt-form-same : (f : StmtFormTree) → IsStmtFormShaped f → remade_stmt_form (in_file 0) kept_ty f ≡ f
  stmt-form-same (inner_block b) h = ap inner_block (block-same b h)
  stmt-form-same empty h = refl
  stmt-form-same (line l) h = ap line (line-same l h)
  stmt-form-same (when c then_part else_part) h = ap₂ (λ x y. when x y (remade_else (in_file 0) kept_ty else_part)) (expr-same c h.0) (stmt-same then_part h.1) ∙ ap (when c then_part) (else-same else_part then_part h.2)
  stmt-form-same (while c s) h = ap₂ while (expr-same c h.0) (stmt-same s h.1)
  stmt-form-same (for first c next s) h =
      ap₂ (λ x y. for x y (option_with (remade_small (in_file 0) kept_ty) next) (remade_stmt (in_file 0) kept_ty s)) (small-same first h.0) (maybe-same c h.1) ∙
      ap₂ (λ x y. for first c x y) (small-same next h.2) (stmt-same s h.3)
  stmt-form-same (each t x e s) h = ap₂ (λ f r. each t x f r) (expr-same e h.1) (stmt-same s h.2)
  stmt-form-same (switch e cs) h = ap₂ switch (expr-same e h.0) (cases-same cs h.1)

  cases-same : (cs : CaseTrees) → AreCasesShaped cs → remade_cases (in_file 0) kept_ty cs ≡ cs
  cases-same no_cases h = refl
  cases-same (more_cases c cs) h = ap₂ more_cases (case-same c h.0) (cases-same cs h.1)

  case-same : (c : CaseTree) → IsCaseShaped c → remade_case (in_file 0) kept_ty c ≡ c
  case-same (a_case at l ss) h = ap₂ (λ a m. a_case a m (remade_stmts (in_file 0) kept_ty ss)) (at-same at h.0) (maybe-same l h.1) ∙ ap (a_case at l) (stmts-same ss h.2)

  else-same : (r then_part : _) → IsElseShaped r then_part → remade_else (in_file 0) kept_ty r ≡ r
  else-same no_stmt then_part h = refl
  else-same (a_stmt s) then_part h = ap a_stmt (stmt-same s h.2)

  line-same : (l : LineTree) → IsLineShaped l → remade_line (in_file 0) kept_ty l ≡ l
  line-same (declare t x r) h = ap (declare t x) (maybe-right-same r h.1)
  line-same (infer x r) h = ap (infer x) (right-same r h)
  line-same (assign p r) h = ap₂ assign (place-same p h.0) (right-same r h.1)
  line-same (update p o r) h = ap₂ (λ q s. update q o s) (place-same p h.0) (right-same r h.1)
  line-same (step s) h = ap step (step-same s h)
  line-same (call_line e) h = ap call_line (expr-same e h.1)
  line-same (print e) h = ap print (expr-same e h)
  line-same (println e) h = ap println (maybe-same e h)
  line-same (error e) h = ap error (expr-same e h)
  line-same (exit e) h = ap exit (expr-same e h)
  line-same break h = refl
  line-same continue h = refl
  line-same (return r) h = ap return (maybe-right-same r h)
  line-same (wait e) h = ap wait (maybe-same e h)
  line-same (checkpoint e) h = ap checkpoint (maybe-same e h)
  line-same (act_line a) h = ap act_line (act-same a h)

  right-same : (r : RightTree) → IsRightShaped r → remade_right (in_file 0) kept_ty r ≡ r
  right-same (right_expr e) h = ap right_expr (expr-same e h)
  right-same (right_act a) h = ap right_act (act-same a h)

  maybe-right-same : (r : MaybeRight) → IsMaybeRightShaped r → remade_maybe_right (in_file 0) kept_ty r ≡ r
  maybe-right-same no_right h = refl
  maybe-right-same (a_right r) h = ap a_right (right-same r h)

  act-same : (a : ActTree) → IsActShaped a → remade_act (in_file 0) kept_ty a ≡ a
  act-same (act at f) h = ap₂ act (at-same at h.0) (act-form-same f h.1)

  act-form-same : (f : ActFormTree) → IsActFormShaped f → remade_act_form (in_file 0) kept_ty f ≡ f
  act-form-same (sys ps) h = refl
  act-form-same (task os b) h = ap₂ task (maybe-settings-same os h.0) (body-same b h.1)
  act-form-same (dep os b) h = ap₂ dep (settings-same os h.0) (body-same b h.1)
  act-form-same (goal e) h = ap goal (expr-same e h)
  act-form-same (par_call f es) h = ap (par_call f) (exprs-same es h)
  act-form-same (par_block b) h = ap par_block (block-same b h)

  block-same : (b : BlockTree) → IsBlockShaped b → remade_block (in_file 0) kept_ty b ≡ b
  block-same (block at ss) h = ap₂ block (at-same at h.0) (stmts-same ss h.1)

  stmts-same : (ss : StmtTrees) → AreStmtsShaped ss → remade_stmts (in_file 0) kept_ty ss ≡ ss
  stmts-same no_stmts h = refl
  stmts-same (more_stmts s ss) h = ap₂ more_stmts (stmt-same s h.0) (stmts-same ss h.1)

part-same : (p : PartTree) → IsPartShaped p → part_in 0 p ≡ p
part-same (a_function f) h = ap₂ (λ a b. a_function (record { at = a; result = f.result; name = f.name; parameters = f.parameters; body = b })) (at-same f.at h.0) (block-same f.body h.3)
part-same (an_include i) h = ap (λ a. an_include (record { at = a; path = i.path })) (at-same i.at h.0)
part-same (a_statement s) h = ap a_statement (stmt-same s h)

-- Parts of the first file without an include are joined as they are.
pub joined-alone : (IsFile : List ℕ → ScriptTree → Type 0) (depth : ℕ) (path : List ℕ) (read : List (List ℕ)) (ps : List PartTree) → AllByRecursion IsPartShaped ps → list_any is_include ps ≡ false → Joins IsFile depth path 0 read ps read ps []
joined-alone IsFile depth path read [] h alone = Joins.end depth path 0 read
joined-alone IsFile depth path read (a_function f ∷ ps) h alone =
    subst (λ (p : PartTree). Joins IsFile depth path 0 read (a_function f ∷ ps) read (p ∷ ps) []) (part-same (a_function f) h.0)
    (Joins.function depth path 0 read f ps read ps [] (joined-alone IsFile depth path read ps h.1 alone))
joined-alone IsFile depth path read (a_statement s ∷ ps) h alone =
    subst (λ (p : PartTree). Joins IsFile depth path 0 read (a_statement s ∷ ps) read (p ∷ ps) []) (part-same (a_statement s) h.0)
    (Joins.statement depth path 0 read s ps read ps [] (joined-alone IsFile depth path read ps h.1 alone))
joined-alone IsFile depth path read (an_include i ∷ ps) h alone = absurd cc
