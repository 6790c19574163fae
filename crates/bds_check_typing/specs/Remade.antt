-- Trees of the same nodes, each with another place, and each expression with another type.
use Rattle.std.specs.Prelude.{Option, Some, None, map}
use Rattle.bds_value.specs.declared.value.At.{At}
use Rattle.bds_value.specs.declared.value.Ty.{Ty}
use Rattle.bds_tree.specs.declared.stmt.Body.{Body}
use Rattle.bds_tree.specs.declared.stmt.Body.TheVariants as body
use Rattle.bds_tree.specs.declared.stmt.Command.{Command}
use Rattle.bds_tree.specs.Tree.{Tree, FormTree, Trees, TreePairs, node, number, text, truth, name, call, group, list, mapping, item, key, method, prefix, binary, choice, dependency, none, more, no_pairs, more_pairs}
use Rattle.bds_tree.specs.StmtTree.{SuffixTree, at_index, at_key, PlaceTree, StepTree, step_after, step_before, SmallFormTree, small_declare, small_infer, small_assign, small_update, small_step, small_call, SmallTree, SettingFormTree, setting_named, setting_plain, SettingTree, StmtTree, StmtFormTree, LineTree, RightTree, ActTree, ActFormTree, BlockTree, StmtTrees, MaybeStmt, MaybeRight, FunctionTree, PartTree, stmt, inner_block, empty, line, when, while, for, each, declare, infer, assign, update, step, call_line, print, println, error, exit, break, continue, return, wait, checkpoint, act_line, right_expr, right_act, act, sys, task, dep, goal, par_call, par_block, block, no_stmts, more_stmts, no_stmt, a_stmt, no_right, a_right, a_function, an_include, a_statement, switch, CaseTrees, CaseTree, no_cases, more_cases, a_case}

abbrev pub option_with : {X : Type 0} → (X → X) → Option X → Option X
option_with f None = None
option_with f (Some x) = Some (f x)

-- with places and types made of those that it has; types that are written stay
module _ (move : At → At) (retype : Ty → Ty) where
  abbrev mutual
    pub remade_expr : Tree → Tree
    remade_expr (node at t f) = node (move at) (retype t) (remade_form f)

    pub remade_form : FormTree → FormTree
    remade_form (number v) = number v
    remade_form (text ps) = text ps
    remade_form (truth b) = truth b
    remade_form (name x) = name x
    remade_form (call f es) = call f (remade_exprs es)
    remade_form (group e) = group (remade_expr e)
    remade_form (list es) = list (remade_exprs es)
    remade_form (mapping ps) = mapping (remade_pairs ps)
    remade_form (item a i) = item (remade_expr a) (remade_expr i)
    remade_form (key a k) = key (remade_expr a) (remade_expr k)
    remade_form (method a m es) = method (remade_expr a) m (remade_exprs es)
    remade_form (prefix o a) = prefix o (remade_expr a)
    remade_form (binary a o b) = binary (remade_expr a) o (remade_expr b)
    remade_form (choice c a b) = choice (remade_expr c) (remade_expr a) (remade_expr b)
    remade_form (dependency a b) = dependency (remade_expr a) (remade_expr b)

    pub remade_exprs : Trees → Trees
    remade_exprs none = none
    remade_exprs (more e es) = more (remade_expr e) (remade_exprs es)

    pub remade_pairs : TreePairs → TreePairs
    remade_pairs no_pairs = no_pairs
    remade_pairs (more_pairs k v ps) = more_pairs (remade_expr k) (remade_expr v) (remade_pairs ps)

  abbrev pub remade_suffix : SuffixTree → SuffixTree
  remade_suffix (at_index e) = at_index (remade_expr e)
  remade_suffix (at_key e) = at_key (remade_expr e)

  abbrev pub remade_place : PlaceTree → PlaceTree
  remade_place p = record { at = move p.at; name = p.name; suffixes = map remade_suffix p.suffixes }

  abbrev pub remade_step : StepTree → StepTree
  remade_step (step_after p o) = step_after (remade_place p) o
  remade_step (step_before o p) = step_before o (remade_place p)

  abbrev pub remade_small_form : SmallFormTree → SmallFormTree
  remade_small_form (small_declare t x e) = small_declare t x (option_with remade_expr e)
  remade_small_form (small_infer x e) = small_infer x (remade_expr e)
  remade_small_form (small_assign p e) = small_assign (remade_place p) (remade_expr e)
  remade_small_form (small_update p o e) = small_update (remade_place p) o (remade_expr e)
  remade_small_form (small_step s) = small_step (remade_step s)
  remade_small_form (small_call e) = small_call (remade_expr e)

  abbrev pub remade_small : SmallTree → SmallTree
  remade_small s = record { at = move s.at; form = remade_small_form s.form }

  abbrev pub remade_setting_form : SettingFormTree → SettingFormTree
  remade_setting_form (setting_named x e) = setting_named x (remade_expr e)
  remade_setting_form (setting_plain e) = setting_plain (remade_expr e)

  abbrev pub remade_setting : SettingTree → SettingTree
  remade_setting s = record { at = move s.at; form = remade_setting_form s.form }

  abbrev pub remade_command : Command → Command
  remade_command c = record { at = move c.at; text = c.text }

  abbrev pub remade_body : Body → Body
  remade_body (body.Sys c) = body.Sys (remade_command c)
  remade_body (body.Block cs) = body.Block (map remade_command cs)

  abbrev mutual
    pub remade_stmt : StmtTree → StmtTree
    remade_stmt (stmt at f) = stmt (move at) (remade_stmt_form f)

    pub remade_stmt_form : StmtFormTree → StmtFormTree
    remade_stmt_form (inner_block b) = inner_block (remade_block b)
    remade_stmt_form empty = empty
    remade_stmt_form (line l) = line (remade_line l)
    remade_stmt_form (when c then_part else_part) = when (remade_expr c) (remade_stmt then_part) (remade_else else_part)
    remade_stmt_form (while c s) = while (remade_expr c) (remade_stmt s)
    remade_stmt_form (for first c next s) = for (option_with remade_small first) (option_with remade_expr c) (option_with remade_small next) (remade_stmt s)
    remade_stmt_form (each t x e s) = each t x (remade_expr e) (remade_stmt s)
    remade_stmt_form (switch e cs) = switch (remade_expr e) (remade_cases cs)

    pub remade_cases : CaseTrees → CaseTrees
    remade_cases no_cases = no_cases
    remade_cases (more_cases c cs) = more_cases (remade_case c) (remade_cases cs)

    pub remade_case : CaseTree → CaseTree
    remade_case (a_case at l ss) = a_case (move at) (option_with remade_expr l) (remade_stmts ss)

    pub remade_else : MaybeStmt → MaybeStmt
    remade_else no_stmt = no_stmt
    remade_else (a_stmt s) = a_stmt (remade_stmt s)

    pub remade_line : LineTree → LineTree
    remade_line (declare t x r) = declare t x (remade_maybe_right r)
    remade_line (infer x r) = infer x (remade_right r)
    remade_line (assign p r) = assign (remade_place p) (remade_right r)
    remade_line (update p o r) = update (remade_place p) o (remade_right r)
    remade_line (step s) = step (remade_step s)
    remade_line (call_line e) = call_line (remade_expr e)
    remade_line (print e) = print (remade_expr e)
    remade_line (println e) = println (option_with remade_expr e)
    remade_line (error e) = error (remade_expr e)
    remade_line (exit e) = exit (remade_expr e)
    remade_line break = break
    remade_line continue = continue
    remade_line (return r) = return (remade_maybe_right r)
    remade_line (wait e) = wait (option_with remade_expr e)
    remade_line (checkpoint e) = checkpoint (option_with remade_expr e)
    remade_line (act_line a) = act_line (remade_act a)

    pub remade_right : RightTree → RightTree
    remade_right (right_expr e) = right_expr (remade_expr e)
    remade_right (right_act a) = right_act (remade_act a)

    pub remade_maybe_right : MaybeRight → MaybeRight
    remade_maybe_right no_right = no_right
    remade_maybe_right (a_right r) = a_right (remade_right r)

    pub remade_act : ActTree → ActTree
    remade_act (act at f) = act (move at) (remade_act_form f)

    pub remade_act_form : ActFormTree → ActFormTree
    remade_act_form (sys ps) = sys ps
    remade_act_form (task os b) = task (option_with (map remade_setting) os) (remade_body b)
    remade_act_form (dep os b) = dep (map remade_setting os) (remade_body b)
    remade_act_form (goal e) = goal (remade_expr e)
    remade_act_form (par_call f es) = par_call f (remade_exprs es)
    remade_act_form (par_block b) = par_block (remade_block b)

    pub remade_block : BlockTree → BlockTree
    remade_block (block at ss) = block (move at) (remade_stmts ss)

    pub remade_stmts : StmtTrees → StmtTrees
    remade_stmts no_stmts = no_stmts
    remade_stmts (more_stmts s ss) = more_stmts (remade_stmt s) (remade_stmts ss)

  abbrev pub remade_function : FunctionTree → FunctionTree
  remade_function f = record { at = move f.at; result = f.result; name = f.name; parameters = f.parameters; body = remade_block f.body }

  abbrev pub remade_part : PartTree → PartTree
  remade_part (a_function f) = a_function (remade_function f)
  remade_part (an_include i) = an_include (record { at = move i.at; path = i.path })
  remade_part (a_statement s) = a_statement (remade_stmt s)
