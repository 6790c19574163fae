-- The size of every statement, with the functions of its `par` blocks, is at most 32 for each node and piece, and one for each local in force at each `par` block.
use Rattle.std.proofs.Common.{◌≤◌, ◌+◌, ◌*◌, ℕ, List, [], ◌∷◌, length, Option, Some, None, Bool, true, false, not, arith, if◌then◌else◌}
use Rattle.std.specs.Prelude.{codes as text_codes}
use Rattle.bds_value.specs.declared.methods.Method.{Method}
use Rattle.bds_value.specs.declared.methods.Method.TheVariants as by
use Rattle.bds_value.specs.declared.value.At.{At}
use Rattle.bds_value.specs.declared.value.Ty.{Ty}
use Rattle.bds_value.specs.Methods.{signature_of}
use Rattle.bds_tree.specs.declared.stmt.Command.{Command}
use Rattle.bds_tree.specs.declared.token.Piece.{Piece}
use Rattle.bds_tree.specs.Tree.{Tree, FormTree, Trees, node, item, key, method, dependency, type_of}
use Rattle.bds_tree.specs.StmtTree.{SuffixTree, at_index, at_key, SettingFormTree, setting_named, setting_plain, SettingTree, SmallFormTree, small_declare, small_infer, small_assign, small_update, small_step, small_call, SmallTree, StmtTree, StmtFormTree, LineTree, RightTree, ActFormTree, BlockTree, StmtTrees, stmt, inner_block, empty, line, when, while, for, each, declare, infer, assign, update, step, call_line, print, println, error, exit, break, continue, return, wait, checkpoint, act_line, right_expr, right_act, act, sys, task, dep, goal, par_call, par_block, block, no_stmts, more_stmts, no_stmt, a_stmt, no_right, a_right, switch, CaseTrees, CaseTree, no_cases, more_cases, a_case}
use Rattle.bds_check_names.specs.Types.{is_known}
use Rattle.bds_check_rules.specs.Typing.{count as tree_count}
use Rattle.bds_check_rules.specs.StmtBreaks.{any_dependency, commands_of, stepped}
use Rattle.bds_check_size.specs.Known.{Known, look, with_known}
use Rattle.bds_check_size.specs.StmtSize.{labels_size, cases_size, known_behind_small, pieces_size, suffixes_size, steps_size, form_steps_size, dropped_size, changed_size, call_size, small_form_size, maybe_small_size, condition_size, plain_form_size, setting_size, settings_size, has_option, has_condition, unless_size, defaults_size, maybe_settings, further_commands_size, commands_size, stmt_size, form_stmt_size, line_size, right_size, act_form_size, dropped_act_form_size, block_size, stmts_size, known_behind}
use Rattle.bds_check_size.specs.ExprSize.{files_size}
use Rattle.bds_check_size.specs.Parts.{parts_of}
use Rattle.bds_check_size.specs.Nodes.{cases_nodes, expr_nodes, form_nodes, maybe_nodes, suffixes_nodes, small_form_nodes, small_nodes, setting_form_nodes, settings_nodes, commands_nodes, stmt_nodes, form_stmt_nodes, line_nodes, right_nodes, act_form_nodes, block_nodes, stmts_nodes}
use Rattle.bds_check_size.proofs.Bounds.{expr-bound, trees-bound, parts-joined, pieces-small, listing-small}
use Rattle.bds_check_size.specs.ParSize.{cases_pars_size, cases_par_locals, in_par, pars_size, form_pars_size, line_pars_size, right_pars_size, act_form_pars_size, block_pars_size, stmts_pars_size, par_locals, form_par_locals, line_par_locals, right_par_locals, act_form_par_locals, block_par_locals, stmts_par_locals}

drop-small : (b : Bool) → (if b then 0 else 1) ≤ 1
drop-small true = omega arith
drop-small false = omega arith

unless-small : (b : Bool) → unless_size b ≤ 2
unless-small true = omega arith
unless-small false = omega arith

asks-small : (b : Bool) → (if b then 0 else 3 + 4) ≤ 7
asks-small true = omega arith
asks-small false = omega arith

module _ (types : List ℕ → Option Ty) where
  files-bound : (e : Tree) → files_size types e ≤ 32 * expr_nodes e + 1
  files-bound e = let a = expr-bound types e in let b = listing-small (type_of e) in omega (arith, a, b)

  pieces-bound : (ps : List Piece) → pieces_size types ps ≤ 6 * length ps + 1
  pieces-bound ps = let a = parts-joined (parts_of types ps) in let b = pieces-small types ps in omega (arith, a, b)

  suffixes-bound : (xs : List SuffixTree) → suffixes_size types xs ≤ 32 * suffixes_nodes xs
  suffixes-bound [] = omega arith
  suffixes-bound (at_index e ∷ xs) = let a = expr-bound types e in let b = suffixes-bound xs in omega (arith, a, b)
  suffixes-bound (at_key e ∷ xs) = let a = expr-bound types e in let b = suffixes-bound xs in omega (arith, a, b)

  mutual
    steps-bound : (e : Tree) → steps_size types e ≤ 32 * expr_nodes e
    steps-bound (node at t f) = let a = form-steps-bound f in omega (arith, a)

    form-steps-bound : (f : FormTree) → form_steps_size types f ≤ 32 * form_nodes f
    form-steps-bound (item a i) = let x = steps-bound a in let y = expr-bound types i in omega (arith, x, y)
    form-steps-bound (key a i) = let x = steps-bound a in let y = expr-bound types i in omega (arith, x, y)
    form-steps-bound _ = omega arith

  dropped-bound : (e : Tree) → dropped_size types e ≤ 32 * expr_nodes e + 1
  dropped-bound e = let a = expr-bound types e in let b = drop-small (not (is_known (type_of e))) in omega (arith, a, b)

  changed-bound : (m : Option Method) (at : At) (t : Ty) (a : Tree) (x : List ℕ) (es : Trees) → changed_size types m (node at t (method a x es)) a es ≤ 32 * expr_nodes (node at t (method a x es)) + 1
  changed-bound (Some (by.Change n)) at t a x es = let h = steps-bound a in let k = trees-bound types es in omega (arith, h, k)
  changed-bound (Some (by.Plain n)) at t a x es = dropped-bound (node at t (method a x es))
  changed-bound (Some (by.File n)) at t a x es = dropped-bound (node at t (method a x es))
  changed-bound None at t a x es = dropped-bound (node at t (method a x es))

  call-bound : (e : Tree) → call_size types e ≤ 32 * expr_nodes e + 1
  call-bound (node at t (method a m es)) = changed-bound (signature_of (type_of a) m (tree_count es)) at t a m es
  call-bound (node at t f) = dropped-bound (node at t f)

  small-form-bound : (x : SmallFormTree) → small_form_size types x ≤ 32 * small_form_nodes x + 2
  small-form-bound (small_declare t x None) = omega arith
  small-form-bound (small_declare t x (Some e)) = let a = expr-bound types e in omega (arith, a)
  small-form-bound (small_infer x e) = let a = expr-bound types e in omega (arith, a)
  small-form-bound (small_assign p e) = let a = suffixes-bound p.suffixes in let b = expr-bound types e in omega (arith, a, b)
  small-form-bound (small_update p o e) = let a = suffixes-bound p.suffixes in let b = expr-bound types e in omega (arith, a, b)
  small-form-bound (small_step x) = let a = suffixes-bound (stepped x).suffixes in omega (arith, a)
  small-form-bound (small_call e) = let a = call-bound e in omega (arith, a)

  small-bound : (x : Option SmallTree) → maybe_small_size types x ≤ 32 * small_nodes x
  small-bound None = omega arith
  small-bound (Some x) = let a = small-form-bound x.form in omega (arith, a)

  condition-bound : (c : Option Tree) → condition_size types c ≤ 32 * maybe_nodes c + 1
  condition-bound None = omega arith
  condition-bound (Some e) = let a = expr-bound types e in omega (arith, a)

  plain-bound : (d : Bool) (at : At) (t : Ty) (f : FormTree) → plain_form_size types d (node at t f) f ≤ 32 * expr_nodes (node at t f) + 11
  plain-bound d at t (dependency a b) = let x = files-bound a in let y = files-bound b in let z = asks-small d in omega (arith, x, y, z)
  plain-bound d at t f = let x = expr-bound types (node at t f) in omega (arith, x)

  setting-bound : (d : Bool) (x : SettingFormTree) → setting_size types d x ≤ 32 * setting_form_nodes x + 11
  setting-bound d (setting_named x e) = let a = expr-bound types e in omega (arith, a)
  setting-bound d (setting_plain (node at t f)) = plain-bound d at t f

  settings-bound : (d : Bool) (xs : List SettingTree) → settings_size types d xs ≤ 32 * settings_nodes xs
  settings-bound d [] = omega arith
  settings-bound d (x ∷ xs) = let a = setting-bound d x.form in let b = settings-bound d xs in omega (arith, a, b)

  further-bound : (cs : List Command) → further_commands_size types cs ≤ 32 * commands_nodes cs
  further-bound [] = omega arith
  further-bound (c ∷ cs) = let a = pieces-bound c.text in let b = further-bound cs in omega (arith, a, b)

  commands-bound : (cs : List Command) → commands_size types cs ≤ 32 * commands_nodes cs
  commands-bound [] = omega arith
  commands-bound (c ∷ cs) = let a = pieces-bound c.text in let b = further-bound cs in omega (arith, a, b)

defaults-bound : (os : List SettingTree) → defaults_size os ≤ 12
defaults-bound os =
    let a = unless-small (any_dependency os) in
    let b = unless-small (has_option (text_codes "cpus") os) in
    let c = unless-small (has_option (text_codes "canFail") os) in
    let d = unless-small (has_option (text_codes "retry") os) in
    let e = unless-small (has_option (text_codes "taskName") os) in
    omega (arith, a, b, c, d, e)

task-choice : (c : Bool) (s m : ℕ) → (if c then 2 + s + 2 + 6 + m + 1 + 1 + 1 else s + 6 + m + 1) ≤ 13 + s + m
task-choice true s m = omega arith
task-choice false s m = omega arith

drops : (f : ActFormTree) → dropped_act_form_size f ≤ 1
drops (dep os b) = omega arith
drops (sys ps) = omega arith
drops (task os b) = omega arith
drops (goal e) = omega arith
drops (par_call f es) = omega arith
drops (par_block b) = omega arith

mutual
  pub stmt-bound : (s : StmtTree) (k : Known) → stmt_size s k + pars_size s k ≤ 32 * stmt_nodes s + par_locals s k
  stmt-bound (stmt at f) k = let a = form-stmt-bound f k in omega (arith, a)

  pub form-stmt-bound : (f : StmtFormTree) (k : Known) → form_stmt_size f k + form_pars_size f k ≤ 32 + 32 * form_stmt_nodes f + form_par_locals f k
  form-stmt-bound (inner_block b) k = let a = block-bound b k in omega (arith, a)
  form-stmt-bound empty k = omega arith
  form-stmt-bound (line l) k = line-bound l k
  form-stmt-bound (when c a no_stmt) k = let x = expr-bound (look k) c in let y = stmt-bound a k in omega (arith, x, y)
  form-stmt-bound (when c a (a_stmt b)) k = let x = expr-bound (look k) c in let y = stmt-bound a k in let z = stmt-bound b k in omega (arith, x, y, z)
  form-stmt-bound (while c s) k = let x = expr-bound (look k) c in let y = stmt-bound s k in omega (arith, x, y)
  form-stmt-bound (for first c next s) k =
      let k1 : Known = known_behind_small first k in
      let a = small-bound (look k) first in
      let b = condition-bound (look k1) c in
      let d = small-bound (look k1) next in
      let y = stmt-bound s k1 in
      omega (arith, a, b, d, y)
  form-stmt-bound (each t x e s) k = let a = expr-bound (look k) e in let y = stmt-bound s (with_known k x t) in omega (arith, a, y)
  form-stmt-bound (switch e cs) k = let a = expr-bound (look k) e in let y = cases-bound cs k in omega (arith, a, y)

  -- a case is a node, so its test has room
  cases-bound : (cs : CaseTrees) (k : Known) → labels_size (look k) cs + cases_size cs k + cases_pars_size cs k ≤ 32 * cases_nodes cs + cases_par_locals cs k
  cases-bound no_cases k = omega arith
  cases-bound (more_cases (a_case at None ss) cs) k = let a = stmts-bound ss k in let b = cases-bound cs k in omega (arith, a, b)
  cases-bound (more_cases (a_case at (Some e) ss) cs) k = let x = expr-bound (look k) e in let a = stmts-bound ss k in let b = cases-bound cs k in omega (arith, x, a, b)

  pub line-bound : (l : LineTree) (k : Known) → line_size l k + line_pars_size l k ≤ 32 + 32 * line_nodes l + line_par_locals l k
  line-bound (declare t x no_right) k = omega arith
  line-bound (declare t x (a_right r)) k = let a = right-bound r k in omega (arith, a)
  line-bound (infer x r) k = let a = right-bound r k in omega (arith, a)
  line-bound (assign p r) k = let a = right-bound r k in let b = suffixes-bound (look k) p.suffixes in omega (arith, a, b)
  line-bound (update p o r) k = let a = right-bound r k in let b = suffixes-bound (look k) p.suffixes in omega (arith, a, b)
  line-bound (step x) k = let b = suffixes-bound (look k) (stepped x).suffixes in omega (arith, b)
  line-bound (call_line e) k = let a = call-bound (look k) e in omega (arith, a)
  line-bound (print e) k = let a = expr-bound (look k) e in omega (arith, a)
  line-bound (println None) k = omega arith
  line-bound (println (Some e)) k = let a = expr-bound (look k) e in omega (arith, a)
  line-bound (error e) k = let a = expr-bound (look k) e in omega (arith, a)
  line-bound (exit e) k = let a = expr-bound (look k) e in omega (arith, a)
  line-bound break k = omega arith
  line-bound continue k = omega arith
  line-bound (return no_right) k = omega arith
  line-bound (return (a_right r)) k = let a = right-bound r k in omega (arith, a)
  line-bound (wait None) k = omega arith
  line-bound (wait (Some e)) k = let a = files-bound (look k) e in omega (arith, a)
  line-bound (checkpoint None) k = omega arith
  line-bound (checkpoint (Some e)) k = let a = expr-bound (look k) e in omega (arith, a)
  line-bound (act_line (act at f)) k = let a = act-form-bound f k in let b = drops f in omega (arith, a, b)

  pub right-bound : (r : RightTree) (k : Known) → right_size r k + right_pars_size r k ≤ 32 * right_nodes r + right_par_locals r k
  right-bound (right_expr e) k = let a = expr-bound (look k) e in omega (arith, a)
  right-bound (right_act (act at f)) k = let a = act-form-bound f k in omega (arith, a)

  act-form-bound : (f : ActFormTree) (k : Known) → act_form_size f k + act_form_pars_size f k ≤ 28 + 32 * act_form_nodes f + act_form_par_locals f k
  act-form-bound (sys ps) k = let a = pieces-bound (look k) ps in omega (arith, a)
  act-form-bound (task os b) k =
      let xs : List SettingTree = maybe_settings os in
      let a = defaults-bound xs in
      let c = settings-bound (look k) false xs in
      let d = commands-bound (look k) (commands_of b) in
      let e = task-choice (has_condition xs) (settings_size (look k) false xs) (commands_size (look k) (commands_of b)) in
      omega (arith, a, c, d, e)
  act-form-bound (dep os b) k =
      let a = defaults-bound os in
      let c = settings-bound (look k) true os in
      let d = commands-bound (look k) (commands_of b) in
      omega (arith, a, c, d)
  act-form-bound (goal e) k = let a = files-bound (look k) e in omega (arith, a)
  act-form-bound (par_call f es) k = let a = trees-bound (look k) es in omega (arith, a)
  act-form-bound (par_block b) k = let a = block-bound b (in_par k) in omega (arith, a)

  pub block-bound : (b : BlockTree) (k : Known) → block_size b k + block_pars_size b k ≤ 32 * block_nodes b + block_par_locals b k
  block-bound (block at ss) k = let a = stmts-bound ss k in omega (arith, a)

  stmts-bound : (ss : StmtTrees) (k : Known) → stmts_size ss k + stmts_pars_size ss k ≤ 32 * stmts_nodes ss + stmts_par_locals ss k
  stmts-bound no_stmts k = omega arith
  stmts-bound (more_stmts s ss) k = let a = stmt-bound s k in let b = stmts-bound ss (known_behind s k) in omega (arith, a, b)
