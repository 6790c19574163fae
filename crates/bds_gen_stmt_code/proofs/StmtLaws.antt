-- Statements: what is written in order is what their marks write, and what is in force behind them is in force.
use Rattle.std.proofs.Common.{◌≡◌, ◌+◌, ℕ, true, false, None, List, [], ◌∷◌, ◌++◌, length, length-append, reverse, refl, sym, ◌∙◌, ap, ap₂, subst, arith, append_assoc, append-nil, not, if◌then◌else◌, Option, Some}
use Rattle.bds_value.specs.declared.change_numbers.TheConstants.{ASSIGN}
use Rattle.bds_value.specs.declared.value.At.{At}
use Rattle.bds_value.specs.declared.value.Ty.{Ty}
use Rattle.bds_value.specs.declared.value.Ty.TheVariants as ty
use Rattle.bds_tree.specs.StmtTree.{SuffixTree, at_index, at_key, PlaceTree, StmtTree, LineTree, RightTree, ActTree, BlockTree, StmtTrees, stmt, inner_block, empty, line, when, while, for, each, declare, infer, assign, update, step, call_line, print, println, error, exit, break, continue, return, wait, checkpoint, act_line, right_expr, right_act, act, sys, task, dep, goal, par_call, par_block, block, no_stmts, more_stmts, no_stmt, a_stmt, no_right, a_right, switch, CaseTrees, CaseTree, no_cases, more_cases, a_case}
use Rattle.bds_code.specs.UpdateRows.{step_ty}
use Rattle.bds_code.specs.declared.instr.Instr.TheVariants.{PushDefault, Return, Spawn}
use Rattle.bds_code.specs.declared.unit.Function.{Function}
use Rattle.bds_check_names.specs.Slots.{block_slots}
use Rattle.bds_check_names.specs.Types.{known_at}
use Rattle.bds_check_rules.specs.StmtBreaks.{right_type}
use Rattle.bds_check_size.specs.StmtSize.{suffix_size, suffixes_size}
use Rattle.bds_gen_expr.specs.declared.scope.Scope.{Scope}
use Rattle.bds_gen_expr.specs.declared.scope.Numbered.{Numbered}
use Rattle.bds_gen_expr.specs.ExprCode.{expr_code}
use Rattle.bds_gen_expr.specs.Gen.{act as one_more, gen}
use Rattle.bds_gen_expr.specs.Marks.{Mark, does, label, one, slot_count, written}
use Rattle.bds_gen_expr.specs.Numbers.{visible_locals}
use Rattle.bds_gen_expr.specs.Scope.{types_in}
use Rattle.bds_gen_expr.proofs.GenLaws.{gen-is}
use Rattle.bds_gen_expr.proofs.Written.{written-append}
use Rattle.bds_gen_stmt.specs.FunctionCode.{fresh, eight, ending, opening, renumbered, types_of, function_of, at_of_block, right_par_functions, act_par_functions, block_par_functions}
use Rattle.bds_gen_stmt.specs.PlaceCode.{suffixes_code, steps_below, changes_place, kinds_of, change_number}
use Rattle.bds_gen_stmt.specs.Spots.{Spot, inner, declared, store_new}
use Rattle.bds_gen_stmt.specs.StmtCode.{block_pars, loads_code, right_code, act_code, dropped_act_code, block_code}
use Rattle.bds_gen_stmt.proofs.ActCounts.{suffixes-count}
use Rattle.bds_gen_stmt.proofs.Pars.{block-many}
use Rattle.bds_gen_stmt.proofs.StmtCounts.{expr-no-slots, no_slots}
use Rattle.bds_gen_stmt_code.specs.Bodies.{slots_of, spot_of, next_number, place_in, with_function, with_body, with_variable, entered, begun, opened, set_aside, around_of, closed}
use Rattle.bds_gen_stmt_code.specs.GenParts.{steps_above, update_of}
use Rattle.bds_gen_stmt_code.specs.GenStmts.{plain_act, plain_line, stepped_to, taken, declared_with, returned, dropped, gen_stmt, gen_stmt_form, gen_line, gen_right, gen_act, gen_act_form, gen_block, gen_stmts, gen_cases, gen_case}
use Rattle.bds_gen_stmt_code.specs.declared.body.Body.{Body}
use Rattle.bds_gen_stmt_code.specs.declared.body.Unfinished.{Unfinished}
use Rattle.bds_gen_stmt_code.proofs.Led.{in-none}
use Rattle.bds_gen_stmt_code.proofs.Left.{behind_block, block-further, further_spot, went-entered}
use Rattle.bds_gen_stmt_code.proofs.LineLaws.{step-went, call-went, print-went, println-went, error-went, exit-went, wait-went, checkpoint-went, leap-went, variable-went, default-went, sys-went, task-went, dep-went, goal-went, call-act-went}
use Rattle.bds_gen_stmt_code.proofs.PartLaws.{reverse-above, suffixes-are}
use Rattle.bds_gen_stmt_code.proofs.Then.{then_is, place-is}
use Rattle.bds_gen_stmt.proofs.Loops.{at_loop}
use Rattle.bds_gen_stmt_code.proofs.Went.{Went, went-then, went-behind, went-function, slots-written}
use Rattle.bds_gen_stmt_code.proofs.ControlLaws.{StmtWent, StmtsWent, BlockWent, LineWent, RightWent, ActWent, stmts-then, if-went, if-else-went, while-went, for-went, each-went, list-spot}
use Rattle.bds_gen_stmt_code.specs.GenSwitches.{other_behind}
use Rattle.bds_gen_stmt_code.proofs.SwitchJumps.{AreBelow, IsBelow}
use Rattle.bds_gen_stmt_code.proofs.SwitchLaws.{CasesWent, no-cases-went, more-cases-went, switch-went}

suffixes-slots : (xs : List SuffixTree) (sc : Scope) (p : ℕ) (s : List Ty) → slot_count (suffixes_code xs sc p s) ≡ 0
suffixes-slots [] sc p s = refl
suffixes-slots (at_index e ∷ xs) sc p s = no_slots (expr_code e sc p s) (suffixes_code xs sc (p + suffix_size (types_in sc) (at_index e)) (step_ty false ∷ s)) (expr-no-slots e sc p s) (suffixes-slots xs sc (p + suffix_size (types_in sc) (at_index e)) (step_ty false ∷ s))
suffixes-slots (at_key e ∷ xs) sc p s = no_slots (expr_code e sc p s) (suffixes_code xs sc (p + suffix_size (types_in sc) (at_key e)) (step_ty true ∷ s)) (expr-no-slots e sc p s) (suffixes-slots xs sc (p + suffix_size (types_in sc) (at_key e)) (step_ty true ∷ s))

-- Acts and what stands on the right

abbrev around-spot : Body → Spot → ℕ → Spot
around-spot b sp k = record { scope = record sp.scope { locals = b.scope.locals }; next = k; first = b.first; loop = None; at_top = b.at_top }

types-many : (ls : List Numbered) → length (types_of ls) ≡ length ls
types-many [] = refl
types-many (l ∷ ls) = let e = types-many ls in omega (arith, e)

loads-slots : (at : At) (ls : List Numbered) → slot_count (loads_code at ls) ≡ 0
loads-slots at [] = refl
loads-slots at (l ∷ ls) = loads-slots at ls

abbrev opening-at : Scope → List Numbered → ℕ → Spot
opening-at sc ms k = record { scope = record { locals = renumbered ms 0; globals = sc.globals; functions = sc.functions }; next = k + 8; first = k; loop = None; at_top = false }

void-ending : (at : At) → ending ty.Void at ≡ one at Return
void-ending at = ap (λ k. if not k then one at Return else does (PushDefault ty.Void) at ∷ does Return at ∷ []) (ap known_at ty.outs-Void)

par-went : (b : BlockTree) (at : At) (s : List Ty) (u : Unfinished) → ((v : Unfinished) → BlockWent b v) → ActWent (act at (par_block b)) s u
unfolding gen_act gen_act_form opened around_of closed
par-went b at s u ih =
    let sp : Spot = spot_of u.body in
    let n : ℕ = next_number u in
    let ls : List Numbered = visible_locals sp.scope.locals in
    let o0 : Unfinished = opened u in
    let v : Unfinished = gen_block b o0 in
    let a = ih o0 in
    let inside : spot_of o0.body ≡ opening sp.scope ls = ap (opening-at sp.scope ls) (types-many ls) in
    let code : List Mark = block_code b (opening sp.scope ls) n 0 in
    let own : v.body.function ≡ written (begun [] (types_of ls) ty.Void) code = a.is None ∙ ap (λ x. written (begun [] (types_of ls) ty.Void) (block_code b x n 0)) inside in
    let last : List Mark = one (at_of_block b) Return in
    let done : one_more v.body.function (at_of_block b) Return ≡ function_of [] ls ty.Void sp.scope b n =
    then_is (begun [] (types_of ls) ty.Void) v.body.function (one_more v.body.function (at_of_block b) Return) code last own refl ∙ sym (written-append eight (code ++ last) (fresh [] (types_of ls) ty.Void))
    ∙ ap (λ l. written (fresh [] (types_of ls) ty.Void) (eight ++ (code ++ l))) (sym (void-ending (at_of_block b))) in
    let fs : List Function = block_par_functions b (opening sp.scope ls) n in
    let fins : v.finished ≡ u.finished ++ fs = a.finished ∙ ap (λ x. u.finished ++ block_par_functions b x n) inside in
    let number : next_number v ≡ n + block_pars b =
    let l = ap length fins in let m = length-append u.finished fs in let k = block-many b (opening sp.scope ls) n in let c = a.first in omega (arith, l, m, k, c) in
    let f : Function = u.body.function in
    let loads : Function = written f (loads_code at ls) in
    let w : Unfinished = closed (set_aside u.body) at (at_of_block b) v in
    let marks : List Mark = loads_code at ls ++ one at (Spawn (n + block_pars b)) in
    let is : w.body.function ≡ written f marks = then_is f loads w.body.function (loads_code at ls) (one at (Spawn (n + block_pars b))) refl (ap (λ k. one_more loads at (Spawn k)) number) in
    let further = block-further b (spot_of o0.body) refl in
    let kept : spot_of v.body ≡ further_spot (spot_of o0.body) further.more (block_slots b) = a.spot ∙ further.is in
    let next : slots_of w.body.function ≡ sp.next = let l = ap slots_of is in let k = slots-written marks f in let z = no_slots (loads_code at ls) (one at (Spawn (n + block_pars b))) (loads-slots at ls) refl in omega (arith, l, k, z) in
    record {
      new = [];
      leaps = sym (append-nil u.body.leaps);
      low = tt;
      high = tt;
      rising = tt;
      unset = refl;
      is = λ o. in-none o w.body.function ∙ is;
      spot = ap₂ (λ x k. around-spot u.body x k) kept next;
      finished = ap₂ (λ x y. x ++ y ∷ []) fins done ∙ append_assoc u.finished fs (function_of [] ls ty.Void sp.scope b n ∷ []);
      first = a.first;
    }

nothing-went : (at : At) (u : Unfinished) → StmtWent (stmt at empty) u
unfolding gen_stmt gen_stmt_form
nothing-went at u = record {
  new = [];
  leaps = sym (append-nil u.body.leaps);
  low = tt;
  high = tt;
  rising = tt;
  unset = refl;
  is = λ o. in-none o u.body.function;
  spot = ap (list-spot (spot_of u.body)) (let z : (spot_of u.body).next ≡ (spot_of u.body).next + 0 = omega arith in z);
  finished = sym (append-nil u.finished);
  first = refl;
}

none-went : (u : Unfinished) → StmtsWent no_stmts u
unfolding gen_stmts
none-went u = record { new = []; leaps = sym (append-nil u.body.leaps); low = tt; high = tt; rising = tt; unset = refl; is = λ o. in-none o u.body.function; spot = refl; finished = sym (append-nil u.finished); first = refl }

dropped-slots : (a : ActTree) (at : At) → slot_count (dropped_act_code a at) ≡ 0
dropped-slots (act place (dep os b)) at = refl
dropped-slots (act place _) at = refl

-- what is on the right, and what takes it
taken-went : (r : RightTree) (s : List Ty) (at : At) (u : Unfinished) (ms : Scope → List Mark) (sp : Spot) (f : Unfinished → Unfinished) → RightWent r s u → ((v : Unfinished) → spot_of v.body ≡ spot_of u.body → Went (λ o. ms (spot_of u.body).scope) [] sp v (f v))
    → Went (λ o. right_code r (at_loop (spot_of u.body) o) (next_number u) (place_in u) (reverse s) ++ ms (spot_of u.body).scope) (right_par_functions r (spot_of u.body) (next_number u)) sp u (f (gen_right r s u))
taken-went r s at u ms sp f a b =
    let v : Unfinished = gen_right r s u in
    went-behind (λ o. right_code r (at_loop (spot_of u.body) o) (next_number u) (place_in u) (reverse s)) (λ o. ms (spot_of u.body).scope) (right_par_functions r (spot_of u.body) (next_number u)) (spot_of u.body) sp u v (f v) a (b v a.spot)

place-went : (q : PlaceTree) (what : ℕ) (r : RightTree) (at : At) (u : Unfinished) → RightWent r (steps_above (kinds_of q) []) (stepped_to q u)
    → Went (λ o. suffixes_code q.suffixes u.body.scope (place_in u) []
    ++ (right_code r (at_loop (spot_of u.body) o) (next_number u) (place_in u + suffixes_size (types_in u.body.scope) q.suffixes) (steps_below (kinds_of q) []) ++ changes_place u.body.scope at q.name (kinds_of q) what))
    (right_par_functions r (spot_of u.body) (next_number u)) (spot_of u.body) u (taken q what at (gen_right r (steps_above (kinds_of q) []) (stepped_to q u)))
unfolding stepped_to taken
place-went q what r at u a =
    let sp : Spot = spot_of u.body in
    let n : ℕ = next_number u in
    let p : ℕ = place_in u in
    let t : Unfinished = stepped_to q u in
    let steps : List Mark = suffixes_code q.suffixes sp.scope p [] in
    let is = suffixes-are q.suffixes sp.scope [] u.body.function p [] refl refl in
    let w1 = went-function u t.body.function steps sp is (suffixes-slots q.suffixes sp.scope p []) refl in
    let z : ℕ = p + suffixes_size (types_in sp.scope) q.suffixes in
    let far : place_in t ≡ z = place-is u.body.function t.body.function steps p (suffixes_size (types_in sp.scope) q.suffixes) is refl (suffixes-count q.suffixes sp.scope p []) in
    let below : reverse (steps_above (kinds_of q) []) ≡ steps_below (kinds_of q) [] = reverse-above (kinds_of q) [] in
    let v : Unfinished = gen_right r (steps_above (kinds_of q) []) t in
    let ts : List Ty = steps_below (kinds_of q) [] in
    let a1 : Went (λ o. right_code r (at_loop sp o) n (place_in t) (reverse (steps_above (kinds_of q) []))) (right_par_functions r sp n) sp t v =
    subst (λ x. Went (λ o. right_code r (at_loop x o) n (place_in t) (reverse (steps_above (kinds_of q) []))) (right_par_functions r x n) x t v) w1.spot a in
    let a2 : Went (λ o. right_code r (at_loop sp o) n z ts) (right_par_functions r sp n) sp t v =
    subst (λ l. Went (λ o. right_code r (at_loop sp o) n z l) (right_par_functions r sp n) sp t v) below
    (subst (λ k. Went (λ o. right_code r (at_loop sp o) n k (reverse (steps_above (kinds_of q) []))) (right_par_functions r sp n) sp t v) far a1) in
    let w : Unfinished = taken q what at v in
    let same : v.body.scope ≡ sp.scope = ap (λ (x : Spot). x.scope) a2.spot in
    let w3 = went-function v w.body.function (changes_place sp.scope at q.name (kinds_of q) what) sp (ap (λ sc. one_more v.body.function at (update_of sc q.name (kinds_of q) what)) same) refl a2.spot in
    went-then (λ o. steps) (λ o. right_code r (at_loop sp o) n z ts ++ changes_place sp.scope at q.name (kinds_of q) what) [] (right_par_functions r sp n) sp sp u t w w1
    (went-behind (λ o. right_code r (at_loop sp o) n z ts) (λ o. changes_place sp.scope at q.name (kinds_of q) what) (right_par_functions r sp n) sp sp t v w a2 w3)

mutual
  unfolding plain_act plain_line declared_with returned dropped gen_stmt gen_stmt_form gen_line gen_right gen_act gen_act_form gen_block gen_stmts

  pub stmt-went : (s : StmtTree) (u : Unfinished) → StmtWent s u
  stmt-went (stmt at (inner_block b)) u = went-entered (λ o. block_code b (at_loop (inner (spot_of u.body)) o) (next_number u) (place_in u)) (block_par_functions b (inner (spot_of u.body)) (next_number u)) (behind_block b (inner (spot_of u.body))) (block_slots b) u (gen_block b (entered u)) (block-went b (entered u)) (block-further b (inner (spot_of u.body)) refl)
  stmt-went (stmt at empty) u = nothing-went at u
  stmt-went (stmt at (line l)) u = line-went l at u
  stmt-went (stmt at (when c a no_stmt)) u = if-went c a at u (λ t. stmt-went a (entered t))
  stmt-went (stmt at (when c a (a_stmt b))) u = if-else-went c a b at u (λ t. stmt-went a (entered t)) (λ t. stmt-went b (entered t))
  stmt-went (stmt at (while c s)) u = while-went c s at u (λ t. stmt-went s (entered t))
  stmt-went (stmt at (for first c next s)) u = for-went first c next s at u (λ t. stmt-went s (entered t))
  stmt-went (stmt at (each t x e s)) u = each-went t x e s at u (λ v. stmt-went s (entered v))
  stmt-went (stmt at (switch e cs)) u = switch-went e cs at u (λ js other v below open_below. cases-went cs js other v below open_below)

  cases-went : (cs : CaseTrees) (js : List ℕ) (other : Option ℕ) (u : Unfinished) → AreBelow cs js (place_in u) → IsBelow other (place_in u) → CasesWent cs js other u
  cases-went no_cases js other u below open_below = no-cases-went js other u
  cases-went (more_cases c cs) [] other u below open_below = absurd below
  cases-went (more_cases (a_case at l ss) cs) (j ∷ js) other u below open_below =
      more-cases-went at l ss cs j js other u below open_below (λ t. stmts-went ss (entered t)) (λ v b o. cases-went cs js (other_behind l other) v b o)

  line-went : (l : LineTree) (at : At) (u : Unfinished) → LineWent l at u
  line-went (declare t x no_right) at u = default-went u at x t
  line-went (declare t x (a_right r)) at u = taken-went r [] at u (λ sc. store_new (spot_of u.body) at t) (declared (spot_of u.body) x t) (λ v. with_body v (with_variable v.body at x t)) (right-went r [] u) (λ v e. variable-went v at x t (spot_of u.body) e)
  line-went (infer x r) at u = taken-went r [] at u (λ sc. store_new (spot_of u.body) at (right_type r)) (declared (spot_of u.body) x (right_type r)) (λ v. with_body v (with_variable v.body at x (right_type r))) (right-went r [] u) (λ v e. variable-went v at x (right_type r) (spot_of u.body) e)
  line-went (assign q r) at u = place-went q ASSIGN r at u (right-went r (steps_above (kinds_of q) []) (stepped_to q u))
  line-went (update q o r) at u = place-went q (change_number o) r at u (right-went r (steps_above (kinds_of q) []) (stepped_to q u))
  line-went (step x) at u = step-went at u x
  line-went (call_line e) at u = call-went at u e
  line-went (print e) at u = print-went at u e
  line-went (println e) at u = println-went at u e
  line-went (error e) at u = error-went at u e
  line-went (exit e) at u = exit-went at u e
  line-went break at u = leap-went true (λ l. l.end) at u (λ l. refl)
  line-went continue at u = leap-went false (λ l. l.again) at u (λ l. refl)
  line-went (return no_right) at u = went-function u (written u.body.function (does Return at ∷ label [] ∷ [])) (does Return at ∷ label [] ∷ []) (spot_of u.body) refl refl refl
  line-went (return (a_right r)) at u =
      taken-went r [] at u (λ sc. does Return at ∷ label [] ∷ []) (spot_of u.body) (λ v. with_function v (written v.body.function (does Return at ∷ label [] ∷ []))) (right-went r [] u)
      (λ v e. went-function v (written v.body.function (does Return at ∷ label [] ∷ [])) (does Return at ∷ label [] ∷ []) (spot_of u.body) refl refl e)
  line-went (wait e) at u = wait-went at u e
  line-went (checkpoint e) at u = checkpoint-went at u e
  line-went (act_line a) at u =
      let v : Unfinished = gen_act a [] u in
      went-behind (λ o. act_code a (at_loop (spot_of u.body) o) (next_number u) (place_in u) []) (λ o. dropped_act_code a at) (act_par_functions a (spot_of u.body) (next_number u)) (spot_of u.body) (spot_of u.body) u v (with_function v (written v.body.function (dropped_act_code a at))) (act-went a [] u)
      (went-function v (written v.body.function (dropped_act_code a at)) (dropped_act_code a at) (spot_of u.body) refl (dropped-slots a at) (act-went a [] u).spot)

  right-went : (r : RightTree) (s : List Ty) (u : Unfinished) → RightWent r s u
  right-went (right_expr e) s u = went-function u (gen e u.body.scope s u.body.function) (expr_code e u.body.scope (place_in u) (reverse s)) (spot_of u.body) (gen-is e u.body.scope s u.body.function (place_in u) (reverse s) refl refl) (expr-no-slots e u.body.scope (place_in u) (reverse s)) refl
  right-went (right_act a) s u = act-went a s u

  act-went : (a : ActTree) (s : List Ty) (u : Unfinished) → ActWent a s u
  act-went (act at (sys ps)) s u = sys-went ps at s u
  act-went (act at (task os b)) s u = task-went os b at s u
  act-went (act at (dep os b)) s u = dep-went os b at s u
  act-went (act at (goal e)) s u = goal-went e at s u
  act-went (act at (par_call x es)) s u = call-act-went x es at s u
  act-went (act at (par_block b)) s u = par-went b at s u (λ v. block-went b v)

  pub block-went : (b : BlockTree) (u : Unfinished) → BlockWent b u
  block-went (block at ss) u = stmts-went ss u

  stmts-went : (ss : StmtTrees) (u : Unfinished) → StmtsWent ss u
  stmts-went no_stmts u = none-went u
  stmts-went (more_stmts s ss) u = stmts-then s ss u (stmt-went s u) (stmts-went ss (gen_stmt s u))
