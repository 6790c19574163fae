-- For private contracts alone: statements, in the order of the writing.
use Rattle.std.specs.Prelude.{ℕ, ◌+◌, Bool, true, false, Some, None, List, [], ◌∷◌, ◌++◌, length, Option}
use Rattle.bds_value.specs.declared.change_numbers.TheConstants.{ASSIGN}
use Rattle.bds_value.specs.declared.value.At.{At}
use Rattle.bds_value.specs.declared.value.Ty.{Ty}
use Rattle.bds_tree.specs.StmtTree.{PlaceTree, StmtTree, StmtFormTree, LineTree, RightTree, ActTree, ActFormTree, BlockTree, StmtTrees, stmt, inner_block, empty, line, when, while, for, each, declare, infer, assign, update, step, call_line, print, println, error, exit, break, continue, return, wait, checkpoint, act_line, right_expr, right_act, act, sys, task, dep, goal, par_call, par_block, block, no_stmts, more_stmts, no_stmt, a_stmt, no_right, a_right, switch, CaseTrees, CaseTree, no_cases, more_cases, a_case}
use Rattle.bds_code.specs.declared.instr.Instr.TheVariants.{PushText, PushDefault, Show, Concat, Jump, Return, Out, Stop, Exit, Sys, Goal, Spawn, Wait, WaitAll, Save, SaveHere}
use Rattle.bds_code.specs.declared.unit.Function.{Function}
use Rattle.bds_check_rules.specs.StmtBreaks.{right_type}
use Rattle.bds_check_size.specs.StmtSize.{maybe_settings}
use Rattle.bds_gen_expr.specs.ExprCode.{pieces_code}
use Rattle.bds_gen_expr.specs.Gen.{act as one_more, gen, gen_all}
use Rattle.bds_gen_expr.specs.Marks.{does, label, written}
use Rattle.bds_gen_expr.specs.Scope.{function_number}
use Rattle.bds_gen_expr.specs.declared.scope.Scope.{Scope}
use Rattle.bds_gen_stmt.specs.FunctionCode.{at_of_block}
use Rattle.bds_gen_stmt.specs.PlaceCode.{kinds_of, change_number}
use Rattle.bds_gen_stmt.specs.StmtCode.{dropped_act_code}
use Rattle.bds_gen_stmt_code.specs.Bodies.{before_of, in_body, with_function, with_body, with_variable, entered, left, opened, around_of, closed}
use Rattle.bds_gen_stmt_code.specs.GenLoops.{if_begun, if_test, if_ended, else_begun, else_jump, else_ended, while_begun, while_opened, while_ended, for_begun, for_opened, for_ended, each_begun, each_opened, each_ended}
use Rattle.bds_gen_stmt_code.specs.GenParts.{steps_above, update_of, gen_suffixes, gen_step, gen_call}
use Rattle.bds_gen_stmt_code.specs.GenSwitches.{label_of, jump_to, other_behind, switch_begun, switch_opened, case_begun, switch_ended}
use Rattle.bds_gen_stmt_code.specs.GenTasks.{gen_files, gen_task, gen_rule}
use Rattle.bds_gen_stmt_code.specs.Leaps.{leap_at}
use Rattle.bds_gen_stmt_code.specs.declared.body.Body.{Body}
use Rattle.bds_gen_stmt_code.specs.declared.body.Unfinished.{Unfinished}

-- Lines

abbrev pub leapt : Bool → At → Body → Body
leapt ends at b = record b { function = written b.function (does (Jump 0) at ∷ label [] ∷ []); leaps = b.leaps ++ leap_at (length b.function.code + 0) ends ∷ [] }

-- a line whose parts are expressions alone
abbrev pub gen_simple : LineTree → At → Scope → Function → Function
gen_simple (print e) at sc f = written (gen e sc [] f) (does Show at ∷ does Out at ∷ [])
gen_simple (println None) at sc f = written f (does (PushText (10 ∷ [])) at ∷ does Out at ∷ [])
gen_simple (println (Some e)) at sc f = written (gen e sc [] f) (does Show at ∷ does (PushText (10 ∷ [])) at ∷ does Concat at ∷ does Out at ∷ [])
gen_simple (error e) at sc f = written (gen e sc [] f) (does Stop at ∷ label [] ∷ [])
gen_simple (exit e) at sc f = written (gen e sc [] f) (does Exit at ∷ label [] ∷ [])
gen_simple (wait None) at sc f = one_more f at WaitAll
gen_simple (wait (Some e)) at sc f = one_more (gen_files e at sc [] f) at Wait
gen_simple (checkpoint None) at sc f = one_more f at SaveHere
gen_simple (checkpoint (Some e)) at sc f = one_more (gen e sc [] f) at Save
gen_simple (step x) at sc f = gen_step x at sc f
gen_simple (call_line e) at sc f = gen_call e at sc f
gen_simple _ at sc f = f

-- an act but a `par` block
abbrev pub gen_simple_act : ActFormTree → At → Scope → ℕ → List Ty → Function → Function
gen_simple_act (sys ps) at sc first s f = one_more (written f (pieces_code sc at ps)) at Sys
gen_simple_act (task os b) at sc first s f = gen_task (maybe_settings os) b at sc first s f
gen_simple_act (dep os b) at sc first s f = gen_rule os b at sc first s f
gen_simple_act (goal e) at sc first s f = one_more (gen_files e at sc s f) at Goal
gen_simple_act (par_call x es) at sc first s f = one_more (gen_all es sc s f) at (Spawn (function_number sc x))
gen_simple_act (par_block b) at sc first s f = f

-- The words below stay closed, so that the contracts of the walk stay short.

-- an act but a `par` block
unfoldable pub plain_act : ActFormTree → At → List Ty → Unfinished → Unfinished
plain_act f at s u = with_function u (gen_simple_act f at u.body.scope u.body.first s u.body.function)

-- a line that has no right side and is no act
abbrev pub has_no_right : LineTree → Bool
has_no_right (declare t x (a_right r)) = false
has_no_right (infer x r) = false
has_no_right (assign q r) = false
has_no_right (update q o r) = false
has_no_right (return (a_right r)) = false
has_no_right (act_line a) = false
has_no_right _ = true

unfoldable pub plain_line : LineTree → At → Unfinished → Unfinished
plain_line (declare t x no_right) at u = with_body u (with_variable (in_body u.body (one_more u.body.function at (PushDefault t))) at x t)
plain_line break at u = with_body u (leapt true at u.body)
plain_line continue at u = with_body u (leapt false at u.body)
plain_line (return no_right) at u = with_function u (written u.body.function (does Return at ∷ label [] ∷ []))
plain_line l at u = with_function u (gen_simple l at u.body.scope u.body.function)

-- the steps of a place, and what the place takes
unfoldable pub stepped_to : PlaceTree → Unfinished → Unfinished
stepped_to q u = with_function u (gen_suffixes q.suffixes u.body.scope [] u.body.function)

unfoldable pub taken : PlaceTree → ℕ → At → Unfinished → Unfinished
taken q what at v = with_function v (one_more v.body.function at (update_of v.body.scope q.name (kinds_of q) what))

-- what stands on the right is the value of a new variable, is returned, or is dropped
unfoldable pub declared_with : At → List ℕ → Ty → Unfinished → Unfinished
declared_with at x t v = with_body v (with_variable v.body at x t)

unfoldable pub returned : At → Unfinished → Unfinished
returned at v = with_function v (written v.body.function (does Return at ∷ label [] ∷ []))

unfoldable pub dropped : ActTree → At → Unfinished → Unfinished
dropped a at v = with_function v (written v.body.function (dropped_act_code a at))

-- Statements

unfoldable mutual
  pub gen_stmt : StmtTree → Unfinished → Unfinished
  gen_stmt (stmt at f) u = gen_stmt_form f at u

  pub gen_stmt_form : StmtFormTree → At → Unfinished → Unfinished
  gen_stmt_form (inner_block b) at u = left u (gen_block b (entered u))
  gen_stmt_form empty at u = u
  gen_stmt_form (line l) at u = gen_line l at u
  gen_stmt_form (when c then_part no_stmt) at u =
      let first : Unfinished = if_begun c at u in
      if_ended (if_test c u) (left first (gen_stmt then_part (entered first)))
  gen_stmt_form (when c then_part (a_stmt else_part)) at u =
      let first : Unfinished = if_begun c at u in
      let way : Unfinished = left first (gen_stmt then_part (entered first)) in
      let second : Unfinished = else_begun (if_test c u) at way in
      else_ended (else_jump way) (left second (gen_stmt else_part (entered second)))
  gen_stmt_form (while c s) at u =
      let inside : Unfinished = while_begun c at u in
      while_ended at (while_opened c at u) (left inside (gen_stmt s (entered inside)))
  gen_stmt_form (for first c next s) at u =
      let inside : Unfinished = for_begun first c at u in
      for_ended next at (before_of u.body) (for_opened first c at u) (left inside (gen_stmt s (entered inside)))
  gen_stmt_form (each t x e s) at u =
      let inside : Unfinished = each_begun t x e at u in
      each_ended at (before_of u.body) (each_opened t e at u) (left inside (gen_stmt s (entered inside)))
  gen_stmt_form (switch e cs) at u = switch_ended cs (switch_opened e cs at u) (gen_cases cs (switch_opened e cs at u).jumps (Some (switch_opened e cs at u).other) (switch_begun e cs at u))

  -- each case with the place of its jump, and the one behind all labels while it waits for `default`
  pub gen_cases : CaseTrees → List ℕ → Option ℕ → Unfinished → Unfinished
  gen_cases no_cases jumps other u = u
  gen_cases (more_cases c cs) [] other u = u
  gen_cases (more_cases c cs) (jump ∷ jumps) other u = gen_cases cs jumps (other_behind (label_of c) other) (gen_case c (jump_to (label_of c) jump other) u)

  pub gen_case : CaseTree → Option ℕ → Unfinished → Unfinished
  gen_case (a_case at l ss) jump u =
      let begun : Unfinished = case_begun jump u in
      left begun (gen_stmts ss (entered begun))

  pub gen_line : LineTree → At → Unfinished → Unfinished
  gen_line (declare t x (a_right r)) at u = declared_with at x t (gen_right r [] u)
  gen_line (infer x r) at u = declared_with at x (right_type r) (gen_right r [] u)
  gen_line (assign q r) at u = taken q ASSIGN at (gen_right r (steps_above (kinds_of q) []) (stepped_to q u))
  gen_line (update q o r) at u = taken q (change_number o) at (gen_right r (steps_above (kinds_of q) []) (stepped_to q u))
  gen_line (return (a_right r)) at u = returned at (gen_right r [] u)
  gen_line (act_line a) at u = dropped a at (gen_act a [] u)
  gen_line l at u = plain_line l at u

  pub gen_right : RightTree → List Ty → Unfinished → Unfinished
  gen_right (right_expr e) s u = with_function u (gen e u.body.scope s u.body.function)
  gen_right (right_act a) s u = gen_act a s u

  pub gen_act : ActTree → List Ty → Unfinished → Unfinished
  gen_act (act at f) s u = gen_act_form f at s u

  pub gen_act_form : ActFormTree → At → List Ty → Unfinished → Unfinished
  gen_act_form (par_block b) at s u = closed (around_of u) at (at_of_block b) (gen_block b (opened u))
  gen_act_form f at s u = plain_act f at s u

  pub gen_block : BlockTree → Unfinished → Unfinished
  gen_block (block at ss) u = gen_stmts ss u

  pub gen_stmts : StmtTrees → Unfinished → Unfinished
  gen_stmts no_stmts u = u
  gen_stmts (more_stmts s ss) u = gen_stmts ss (gen_stmt s u)

-- a statement or a block within another
unfoldable pub gen_inner : StmtTree → Unfinished → Unfinished
gen_inner s u = left u (gen_stmt s (entered u))

unfoldable pub gen_within : BlockTree → Unfinished → Unfinished
gen_within b u = left u (gen_block b (entered u))
