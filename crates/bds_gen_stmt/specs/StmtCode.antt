-- The code of statements: one equation for each form. No operands are below a statement.
use Rattle.std.specs.Prelude.{ℕ, pos, ◌+◌, true, false, Option, Some, None, List, [], ◌∷◌, ◌++◌}
use Rattle.bds_value.specs.declared.change_numbers.TheConstants.{ASSIGN, ADD}
use Rattle.bds_value.specs.declared.method_numbers.TheConstants.{LIST_SIZE}
use Rattle.bds_value.specs.declared.value.At.{At}
use Rattle.bds_value.specs.declared.value.Ty.{Ty}
use Rattle.bds_value.specs.declared.value.Ty.TheVariants as ty
use Rattle.bds_tree.specs.StmtTree.{StmtTree, StmtFormTree, LineTree, RightTree, ActTree, ActFormTree, BlockTree, StmtTrees, stmt, inner_block, empty, line, when, while, for, each, declare, infer, assign, update, step, call_line, print, println, error, exit, break, continue, return, wait, checkpoint, act_line, right_expr, right_act, act, sys, task, dep, goal, par_call, par_block, block, no_stmts, more_stmts, no_stmt, a_stmt, no_right, a_right, switch, CaseTrees, CaseTree, no_cases, more_cases, a_case}
use Rattle.bds_tree.specs.Tree.{Tree, type_of}
use Rattle.bds_code.specs.declared.instr.Instr.TheVariants.{PushBool, PushInt, PushText, PushDefault, Load, Store, Drop, Show, Concat, Less, Equal, Item, Update, Jump, JumpUnless, Tick, Return, Method as CallMethod, Out, Stop, Exit, Sys, Declare, Goal, Spawn, Wait, WaitAll, Save, SaveHere}
use Rattle.bds_check_names.specs.Slots.{slots, case_slots}
use Rattle.bds_check_rules.specs.Declarations.{declared_by_line}
use Rattle.bds_check_rules.specs.StmtBreaks.{right_type}
use Rattle.bds_check_size.specs.ExprSize.{expr_size}
use Rattle.bds_check_size.specs.Known.{Known, look}
use Rattle.bds_check_size.specs.StmtSize.{suffixes_size, defaults_size, maybe_settings, known_behind_small, maybe_small_size, condition_size, stmt_size, stmts_size, labels_size, label_size, cases_size, case_size}
use Rattle.bds_gen_expr.specs.ExprCode.{pieces_code, expr_code, trees_code, files_code}
use Rattle.bds_gen_expr.specs.Marks.{Mark, does, label, slot, one}
use Rattle.bds_gen_expr.specs.Numbers.{visible_locals}
use Rattle.bds_gen_expr.specs.Scope.{known, function_number, types_in}
use Rattle.bds_gen_expr.specs.declared.scope.Numbered.{Numbered}
use Rattle.bds_gen_expr.specs.declared.scope.Scope.{Scope}
use Rattle.bds_gen_stmt.specs.PlaceCode.{suffixes_code, steps_below, changes_place, kinds_of, change_number, step_code, call_code, small_code, behind_small}
use Rattle.bds_gen_stmt.specs.Spots.{Loop, Spot, inner, in_loop, in_switch, behind_slots, declared_local, spot_with, store_new}
use Rattle.bds_gen_stmt.specs.TaskCode.{defaults_code, settings_code, make_code, task_code}

abbrev pub condition_code : Option Tree → At → Scope → ℕ → List Mark
condition_code None at sc p = one at (PushBool true)
condition_code (Some e) at sc p = expr_code e sc p []

abbrev pub leap : At → Option Loop → (Loop → ℕ) → List Mark
leap at None to = does (Jump 0) at ∷ label [] ∷ []
leap at (Some l) to = does (Jump (to l)) at ∷ label [] ∷ []

abbrev pub loads_code : At → List Numbered → List Mark
loads_code at [] = []
loads_code at (l ∷ ls) = does (Load l.number) at ∷ loads_code at ls

-- the names in force behind a statement, and the next slot there
abbrev pub behind_line : LineTree → Spot → Spot
behind_line l sp = spot_with sp (declared_by_line l)

abbrev pub behind_form : StmtFormTree → StmtTree → Spot → Spot
behind_form (line l) x sp = behind_line l sp
behind_form _ x sp = behind_slots sp (slots x)

abbrev pub behind : StmtTree → Spot → Spot
behind (stmt at f) sp = behind_form f (stmt at f) sp

abbrev mutual
  -- how many `par` blocks stand in it, also within one another
  pub pars : StmtTree → ℕ
  pars (stmt at f) = form_pars f

  pub form_pars : StmtFormTree → ℕ
  form_pars (inner_block b) = block_pars b
  form_pars empty = 0
  form_pars (line l) = line_pars l
  form_pars (when c then_part no_stmt) = pars then_part
  form_pars (when c then_part (a_stmt else_part)) = pars then_part + pars else_part
  form_pars (while c s) = pars s
  form_pars (for first c next s) = pars s
  form_pars (each t x e s) = pars s
  form_pars (switch e cs) = cases_pars cs

  pub cases_pars : CaseTrees → ℕ
  cases_pars no_cases = 0
  cases_pars (more_cases c cs) = case_pars c + cases_pars cs

  pub case_pars : CaseTree → ℕ
  case_pars (a_case at l ss) = stmts_pars ss

  pub line_pars : LineTree → ℕ
  line_pars (declare t x (a_right r)) = right_pars r
  line_pars (infer x r) = right_pars r
  line_pars (assign p r) = right_pars r
  line_pars (update p o r) = right_pars r
  line_pars (return (a_right r)) = right_pars r
  line_pars (act_line a) = act_pars a
  line_pars _ = 0

  pub right_pars : RightTree → ℕ
  right_pars (right_expr e) = 0
  right_pars (right_act a) = act_pars a

  pub act_pars : ActTree → ℕ
  act_pars (act at f) = act_form_pars f

  pub act_form_pars : ActFormTree → ℕ
  act_form_pars (par_block b) = block_pars b + 1
  act_form_pars _ = 0

  pub block_pars : BlockTree → ℕ
  block_pars (block at ss) = stmts_pars ss

  pub stmts_pars : StmtTrees → ℕ
  stmts_pars no_stmts = 0
  stmts_pars (more_stmts s ss) = pars s + stmts_pars ss

-- where the statements of `default` stand, and the end where there is none
abbrev pub default_place : CaseTrees → Known → ℕ → ℕ
default_place no_cases k p = p
default_place (more_cases (a_case at None ss) cs) k p = p
default_place (more_cases (a_case at (Some e) ss) cs) k p = default_place cs k (p + stmts_size ss k)

abbrev mutual
  -- at a place, where this is the number of the next function of a `par` block
  pub stmt_code : StmtTree → Spot → ℕ → ℕ → List Mark
  stmt_code (stmt at f) sp n p = form_stmt_code f at sp n p

  pub form_stmt_code : StmtFormTree → At → Spot → ℕ → ℕ → List Mark
  form_stmt_code (inner_block b) at sp n p = block_code b (inner sp) n p
  form_stmt_code empty at sp n p = []
  form_stmt_code (line l) at sp n p = line_code l at sp n p
  form_stmt_code (when c then_part no_stmt) at sp n p =
      let right = p + expr_size (types_in sp.scope) c + 1 in
      let end = right + stmt_size then_part (known sp.scope) in
      expr_code c sp.scope p [] ++ (does (JumpUnless end) at ∷ (stmt_code then_part (inner sp) n right ++ (label [] ∷ [])))
  form_stmt_code (when c then_part (a_stmt else_part)) at sp n p =
      let right = p + expr_size (types_in sp.scope) c + 1 in
      let other = right + stmt_size then_part (known sp.scope) + 1 in
      let end = other + stmt_size else_part (known sp.scope) in
      expr_code c sp.scope p []
      ++ (does (JumpUnless other) at ∷ (stmt_code then_part (inner sp) n right
      ++ (does (Jump end) at ∷ label [] ∷ (stmt_code else_part (behind_slots (inner sp) (slots then_part)) (n + pars then_part) other ++ (label [] ∷ [])))))
  form_stmt_code (while c s) at sp n p =
      let body = p + 1 + expr_size (types_in sp.scope) c + 1 in
      let end = body + stmt_size s (known sp.scope) + 1 in
      label [] ∷ does Tick at ∷ (expr_code c sp.scope (p + 1) [] ++ (does (JumpUnless end) at ∷ (stmt_code s (in_loop sp p end) n body ++ (does (Jump p) at ∷ label [] ∷ []))))
  form_stmt_code (for first c next s) at sp n p =
      let k = known_behind_small first (known sp.scope) in
      let head = behind_small first (inner sp) in
      let top = p + maybe_small_size (types_in sp.scope) first in
      let body = top + 1 + condition_size (look k) c + 1 in
      let again = body + stmt_size s k in
      let end = again + maybe_small_size (look k) next + 1 in
      small_code first (inner sp) p
      ++ (label [] ∷ does Tick at ∷ (condition_code c at head.scope (top + 1)
      ++ (does (JumpUnless end) at ∷ (stmt_code s (in_loop head again end) n body
      ++ (label [] ∷ (small_code next (behind_slots head (slots s)) again ++ (does (Jump top) at ∷ label [] ∷ [])))))))
  form_stmt_code (each t x e s) at sp n p =
      let list_slot = sp.next in
      let count_slot = sp.next + 1 in
      let own = declared_local (behind_slots (inner sp) 2) x t in
      let top = p + expr_size (types_in sp.scope) e + 3 in
      let body = top + 10 in
      let again = body + stmt_size s (known own.scope) in
      let end = again + 3 in
      expr_code e sp.scope p []
      ++ (slot (ty.List t) ∷ does (Store list_slot) at ∷ does (PushInt (pos 0)) at ∷ slot ty.Int ∷ does (Store count_slot) at
      ∷ label [] ∷ does Tick at ∷ does (Load count_slot) at ∷ does (Load list_slot) at ∷ does (CallMethod LIST_SIZE) at ∷ does Less at ∷ does (JumpUnless end) at
      ∷ does (Load list_slot) at ∷ does (Load count_slot) at ∷ does Item at ∷ slot t ∷ does (Store (sp.next + 2)) at
      ∷ (stmt_code s (in_loop own again end) n body
      ++ (label [] ∷ does (PushInt (pos 1)) at ∷ does (Update false count_slot [] ADD) at ∷ does (Jump top) at ∷ label [] ∷ [])))
  form_stmt_code (switch e cs) at sp n p =
      let k = known sp.scope in
      let tests = p + expr_size (types_in sp.scope) e + 1 in
      let cases = tests + labels_size (types_in sp.scope) cs + 1 in
      let end = cases + cases_size cs k in
      expr_code e sp.scope p []
      ++ (slot (type_of e) ∷ does (Store sp.next) at
      ∷ (labels_code cs at sp.scope sp.next tests cases
      ++ (does (Jump (default_place cs k cases)) at
      ∷ (cases_code cs (in_switch sp end) n cases ++ (label [] ∷ [])))))

  -- the tests of the labels, which stand at a place, against the value in this slot; the statements of the cases stand at another
  pub labels_code : CaseTrees → At → Scope → ℕ → ℕ → ℕ → List Mark
  labels_code no_cases at sc kept p case = []
  labels_code (more_cases c cs) at sc kept p case = label_code c at sc kept p case ++ labels_code cs at sc kept (p + label_size (types_in sc) c) (case + case_size c (known sc))

  pub label_code : CaseTree → At → Scope → ℕ → ℕ → ℕ → List Mark
  label_code (a_case place None ss) at sc kept p case = []
  label_code (a_case place (Some e) ss) at sc kept p case =
      expr_code e sc p []
      ++ (does (Load kept) at ∷ does Equal at ∷ does (JumpUnless (p + (expr_size (types_in sc) e + 4))) at ∷ does (Jump case) at ∷ label [] ∷ [])

  -- the statements of the cases, one behind another
  pub cases_code : CaseTrees → Spot → ℕ → ℕ → List Mark
  cases_code no_cases sp n p = []
  cases_code (more_cases c cs) sp n p = case_code c sp n p ++ cases_code cs (behind_slots sp (case_slots c)) (n + case_pars c) (p + case_size c (known sp.scope))

  pub case_code : CaseTree → Spot → ℕ → ℕ → List Mark
  case_code (a_case place l ss) sp n p = label [] ∷ stmts_code ss sp n p

  pub line_code : LineTree → At → Spot → ℕ → ℕ → List Mark
  line_code (declare t x no_right) at sp n p = does (PushDefault t) at ∷ store_new sp at t
  line_code (declare t x (a_right r)) at sp n p = right_code r sp n p [] ++ store_new sp at t
  line_code (infer x r) at sp n p = right_code r sp n p [] ++ store_new sp at (right_type r)
  line_code (assign q r) at sp n p =
      suffixes_code q.suffixes sp.scope p []
      ++ (right_code r sp n (p + suffixes_size (types_in sp.scope) q.suffixes) (steps_below (kinds_of q) []) ++ changes_place sp.scope at q.name (kinds_of q) ASSIGN)
  line_code (update q o r) at sp n p =
      suffixes_code q.suffixes sp.scope p []
      ++ (right_code r sp n (p + suffixes_size (types_in sp.scope) q.suffixes) (steps_below (kinds_of q) []) ++ changes_place sp.scope at q.name (kinds_of q) (change_number o))
  line_code (step x) at sp n p = step_code x at sp.scope p
  line_code (call_line e) at sp n p = call_code e at sp.scope p
  line_code (print e) at sp n p = expr_code e sp.scope p [] ++ (does Show at ∷ does Out at ∷ [])
  line_code (println None) at sp n p = does (PushText (10 ∷ [])) at ∷ does Out at ∷ []
  line_code (println (Some e)) at sp n p = expr_code e sp.scope p [] ++ (does Show at ∷ does (PushText (10 ∷ [])) at ∷ does Concat at ∷ does Out at ∷ [])
  line_code (error e) at sp n p = expr_code e sp.scope p [] ++ (does Stop at ∷ label [] ∷ [])
  line_code (exit e) at sp n p = expr_code e sp.scope p [] ++ (does Exit at ∷ label [] ∷ [])
  line_code break at sp n p = leap at sp.loop (λ l. l.end)
  line_code continue at sp n p = leap at sp.loop (λ l. l.again)
  line_code (return no_right) at sp n p = does Return at ∷ label [] ∷ []
  line_code (return (a_right r)) at sp n p = right_code r sp n p [] ++ (does Return at ∷ label [] ∷ [])
  line_code (wait None) at sp n p = one at WaitAll
  line_code (wait (Some e)) at sp n p = files_code e at sp.scope p [] ++ one at Wait
  line_code (checkpoint None) at sp n p = one at SaveHere
  line_code (checkpoint (Some e)) at sp n p = expr_code e sp.scope p [] ++ one at Save
  line_code (act_line a) at sp n p = act_code a sp n p [] ++ dropped_act_code a at

  pub right_code : RightTree → Spot → ℕ → ℕ → List Ty → List Mark
  right_code (right_expr e) sp n p s = expr_code e sp.scope p s
  right_code (right_act a) sp n p s = act_code a sp n p s

  pub act_code : ActTree → Spot → ℕ → ℕ → List Ty → List Mark
  act_code (act at f) sp n p s = act_form_code f at sp n p s

  pub act_form_code : ActFormTree → At → Spot → ℕ → ℕ → List Ty → List Mark
  act_form_code (sys ps) at sp n p s = pieces_code sp.scope at ps ++ one at Sys
  act_form_code (task os b) at sp n p s = task_code (maybe_settings os) b at sp.scope sp.first p s
  act_form_code (dep os b) at sp n p s =
      defaults_code os at sp.first ++ (settings_code true os sp.scope sp.first (p + defaults_size os) s ++ make_code Declare b at sp.scope sp.first)
  act_form_code (goal e) at sp n p s = files_code e at sp.scope p s ++ one at Goal
  act_form_code (par_call f es) at sp n p s = trees_code es sp.scope p s ++ one at (Spawn (function_number sp.scope f))
  act_form_code (par_block b) at sp n p s = loads_code at (visible_locals sp.scope.locals) ++ one at (Spawn (n + block_pars b))

  -- only `dep` leaves nothing
  pub dropped_act_code : ActTree → At → List Mark
  dropped_act_code (act place f) at = dropped_form_code f at

  pub dropped_form_code : ActFormTree → At → List Mark
  dropped_form_code (dep os b) at = []
  dropped_form_code _ at = one at Drop

  pub block_code : BlockTree → Spot → ℕ → ℕ → List Mark
  block_code (block at ss) sp n p = stmts_code ss sp n p

  pub stmts_code : StmtTrees → Spot → ℕ → ℕ → List Mark
  stmts_code no_stmts sp n p = []
  stmts_code (more_stmts s ss) sp n p = stmt_code s sp n p ++ stmts_code ss (behind s sp) (n + pars s) (p + stmt_size s (known sp.scope))
