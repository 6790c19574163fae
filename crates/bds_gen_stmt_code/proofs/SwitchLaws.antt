-- A `switch`: what is written in order is what its marks write.
use Rattle.std.proofs.Common.{◌≡◌, ◌<◌, ◌+◌, ℕ, Bool, true, false, Option, Some, None, List, [], ◌∷◌, ◌++◌, length, length-append, refl, sym, ◌∙◌, ap, ap₂, subst, arith, append_assoc, append-nil, if◌then◌else◌}
use Rattle.bds_value.specs.declared.value.At.{At}
use Rattle.bds_value.specs.declared.value.Ty.{Ty}
use Rattle.bds_tree.specs.StmtTree.{StmtTrees, CaseTrees, CaseTree, no_cases, more_cases, a_case, stmt, switch}
use Rattle.bds_tree.specs.Tree.{Tree, type_of}
use Rattle.bds_code.specs.declared.instr.Instr.TheVariants.{Store, Jump}
use Rattle.bds_code.specs.declared.unit.Function.{Function}
use Rattle.bds_check_names.specs.Slots.{slots, stmts_slots, cases_slots}
use Rattle.bds_check_rules.specs.StmtBreaks.{any_default}
use Rattle.bds_check_size.specs.ExprSize.{expr_size}
use Rattle.bds_check_size.specs.Known.{Known}
use Rattle.bds_check_size.specs.StmtSize.{labels_size, cases_size, stmts_size}
use Rattle.bds_gen_expr.specs.declared.scope.Scope.{Scope}
use Rattle.bds_gen_expr.specs.ExprCode.{expr_code}
use Rattle.bds_gen_expr.specs.Gen.{act as one_more, gen}
use Rattle.bds_gen_expr.specs.Marks.{Mark, does, label, slot, slot_count, count, written}
use Rattle.bds_gen_expr.specs.Scope.{known, types_in}
use Rattle.bds_gen_expr.proofs.GenLaws.{gen-is}
use Rattle.bds_gen_expr.proofs.Written.{length-written}
use Rattle.bds_gen_stmt.specs.FunctionCode.{par_functions, cases_par_functions, stmts_par_functions}
use Rattle.bds_gen_stmt.specs.Spots.{Loop, Spot, again_of, inner, behind_slots}
use Rattle.bds_gen_stmt.specs.StmtCode.{default_place, stmt_code, labels_code, cases_code, stmts_code, stmts_pars}
use Rattle.bds_gen_stmt.proofs.Pars.{stmts-many}
use Rattle.bds_gen_stmt.proofs.StmtCounts.{expr-no-slots, no_slots}
use Rattle.bds_gen_stmt.proofs.WholeCounts.{whole-stmts-count, cases-count}
use Rattle.bds_gen_stmt.proofs.WholeSlots.{labels-slots}
use Rattle.bds_gen_stmt_code.specs.Bodies.{slots_of, spot_of, next_number, place_in, in_body, with_function, with_body, entered, left}
use Rattle.bds_gen_stmt_code.specs.GenLoops.{in_new_loop}
use Rattle.bds_gen_stmt_code.specs.GenStmts.{gen_stmt, gen_stmt_form, gen_cases, gen_case, gen_stmts}
use Rattle.bds_gen_stmt_code.specs.GenSwitches.{jump_to, other_behind, arrived, kept, compared_all, gen_labels, label_jumps, open_jump, switch_begun, switch_opened, case_begun, switch_ended}
use Rattle.bds_gen_stmt_code.specs.Leaps.{loop_to, led_out, going_on}
use Rattle.bds_gen_stmt_code.specs.declared.body.Body.{Body}
use Rattle.bds_gen_stmt_code.specs.declared.body.Leap.{Leap}
use Rattle.bds_gen_stmt_code.specs.declared.body.Unfinished.{Unfinished}
use Rattle.bds_gen_stmt_code.proofs.Led.{in-none, out-length}
use Rattle.bds_gen_stmt_code.proofs.Left.{behind_stmts, stmts-further, went-entered}
use Rattle.bds_gen_stmt_code.proofs.ControlLaws.{StmtWent, StmtsWent}
use Rattle.bds_gen_stmt_code.proofs.SwitchJumps.{set_jump, IsBelow, set-length, arrived-is, went-set, set_jumps, AreBelow, to-below, behind-below, below-higher, are-higher, sets-length, sets-slots, sets-written, went-sets, went-switch}
use Rattle.bds_gen_stmt_code.proofs.SwitchLabels.{labels_open, jumps_at, labels-are, jumps-are, open-count, open-slots, jumps-below, all-set}
use Rattle.bds_gen_stmt_code.proofs.Then.{then_is, place-is, gen-place}
use Rattle.bds_gen_stmt.proofs.Loops.{at_loop}
use Rattle.bds_gen_stmt_code.proofs.Went.{Went, went-then, went-as, went-behind, went-body, went-function, place-behind, number-behind, slots-written, same-slots}

abbrev spot-next : Spot → ℕ → Spot
spot-next sp n = record sp { next = n }

-- The cases, from a state in which the jumps to them are set

abbrev pub CasesWent : CaseTrees → List ℕ → Option ℕ → Unfinished → Type 0
CasesWent cs js other u =
    Went (λ o. cases_code cs (at_loop (inner (spot_of u.body)) o) (next_number u) (place_in u)) (cases_par_functions cs (inner (spot_of u.body)) (next_number u)) (behind_slots (spot_of u.body) (cases_slots cs))
    (with_function u (set_jumps cs js other (known u.body.scope) (place_in u) u.body.function)) (gen_cases cs js other u)

abbrev CasesFrom : CaseTrees → List ℕ → Option ℕ → Unfinished → Spot → ℕ → ℕ → Type 0
CasesFrom cs js other u s n q =
    Went (λ o. cases_code cs (at_loop (inner s) o) n q) (cases_par_functions cs (inner s) n) (behind_slots s (cases_slots cs)) (with_function u (set_jumps cs js other (known s.scope) q u.body.function)) (gen_cases cs js other u)

cases-from : (cs : CaseTrees) (js : List ℕ) (other : Option ℕ) (u : Unfinished) (s : Spot) (n q : ℕ) → spot_of u.body ≡ s → next_number u ≡ n → place_in u ≡ q → CasesWent cs js other u → CasesFrom cs js other u s n q
cases-from cs js other u s n q e1 e2 e3 a =
    subst (λ k. CasesFrom cs js other u s n k) e3 (subst (λ k. CasesFrom cs js other u s k (place_in u)) e2 (subst (λ x. CasesFrom cs js other u x (next_number u) (place_in u)) e1 a))

pub no-cases-went : (js : List ℕ) (other : Option ℕ) (u : Unfinished) → CasesWent no_cases js other u
unfolding gen_cases
no-cases-went js other u = record {
  new = [];
  leaps = sym (append-nil u.body.leaps);
  low = tt;
  high = tt;
  rising = tt;
  unset = refl;
  is = λ o. in-none o u.body.function;
  spot = ap (spot-next (spot_of u.body)) (let z : (spot_of u.body).next ≡ (spot_of u.body).next + 0 = omega arith in z);
  finished = sym (append-nil u.finished);
  first = refl;
}

-- the statements of a case
case-inside : (ss : StmtTrees) (u : Unfinished) (s : Spot) (n q : ℕ) → spot_of u.body ≡ s → next_number u ≡ n → place_in u ≡ q → StmtsWent ss (entered u)
    → Went (λ o. stmts_code ss (at_loop (inner s) o) n q) (stmts_par_functions ss (inner s) n) (behind_slots s (stmts_slots ss)) u (left u (gen_stmts ss (entered u)))
case-inside ss u s n q e1 e2 e3 h =
    let w : Unfinished = left u (gen_stmts ss (entered u)) in
    let x : Spot = spot_of (entered u).body in
    let a : Went (λ o. stmts_code ss (at_loop x o) (next_number u) (place_in u)) (stmts_par_functions ss x (next_number u)) (behind_slots (spot_of u.body) (stmts_slots ss)) u w =
    went-entered (λ o. stmts_code ss (at_loop x o) (next_number u) (place_in u)) (stmts_par_functions ss x (next_number u)) (behind_stmts ss x) (stmts_slots ss) u (gen_stmts ss (entered u)) h (stmts-further ss x refl) in
    let b : Went (λ o. stmts_code ss (at_loop (inner s) o) (next_number u) (place_in u)) (stmts_par_functions ss (inner s) (next_number u)) (behind_slots s (stmts_slots ss)) u w =
    subst (λ y. Went (λ o. stmts_code ss (at_loop (inner y) o) (next_number u) (place_in u)) (stmts_par_functions ss (inner y) (next_number u)) (behind_slots y (stmts_slots ss)) u w) e1 a in
    let c : Went (λ o. stmts_code ss (at_loop (inner s) o) n (place_in u)) (stmts_par_functions ss (inner s) n) (behind_slots s (stmts_slots ss)) u w =
    subst (λ k. Went (λ o. stmts_code ss (at_loop (inner s) o) k (place_in u)) (stmts_par_functions ss (inner s) k) (behind_slots s (stmts_slots ss)) u w) e2 b in
    subst (λ k. Went (λ o. stmts_code ss (at_loop (inner s) o) n k) (stmts_par_functions ss (inner s) n) (behind_slots s (stmts_slots ss)) u w) e3 c

pub more-cases-went : (at : At) (l : Option Tree) (ss : StmtTrees) (cs : CaseTrees) (j : ℕ) (js : List ℕ) (other : Option ℕ) (u : Unfinished) → AreBelow (more_cases (a_case at l ss) cs) (j ∷ js) (place_in u) → IsBelow other (place_in u)
    → ((t : Unfinished) → StmtsWent ss (entered t)) → ((v : Unfinished) → AreBelow cs js (place_in v) → IsBelow (other_behind l other) (place_in v) → CasesWent cs js (other_behind l other) v) → CasesWent (more_cases (a_case at l ss) cs) (j ∷ js) other u
unfolding gen_cases gen_case case_begun
more-cases-went at l ss cs j js other u below open_below ih jh =
    let s : Spot = spot_of u.body in
    let n : ℕ = next_number u in
    let q : ℕ = place_in u in
    let k : Known = known s.scope in
    let f : Function = u.body.function in
    let jump : Option ℕ = jump_to l j other in
    let other2 : Option ℕ = other_behind l other in
    let q2 : ℕ = q + stmts_size ss k in
    let n2 : ℕ = n + stmts_pars ss in
    let x : Function = set_jump jump q f in
    let u1 : Unfinished = case_begun jump u in
    let here : u1.body.function ≡ written x (label [] ∷ []) = arrived-is jump f q refl in
    let x_long : length x.code ≡ q = set-length jump q f in
    let long : place_in u1 ≡ q = ap (λ (g : Function). length g.code) here ∙ x_long in
    let set : Function → Function = λ g. set_jumps cs js other2 k q2 g in
    let start : Unfinished = with_function u (set x) in
    let below_x : AreBelow cs js (length x.code) = are-higher cs js q (length x.code) (omega (arith, x_long)) below.1 in
    let open_x : IsBelow other2 (length x.code) = below-higher other2 q (length x.code) (omega (arith, x_long)) (behind-below l q other open_below) in
    let begun : set u1.body.function ≡ written (set x) (label [] ∷ []) = ap set here ∙ sets-written cs js other2 k q2 x (label [] ∷ []) below_x open_x in
    let same_slots : slots_of (set x) ≡ slots_of f = sets-slots cs js other2 k q2 x ∙ x-slots jump q f in
    let w1 = went-function start (set u1.body.function) (label [] ∷ []) s begun refl (ap (spot-next s) same_slots) in
    let u1_spot : spot_of u1.body ≡ s = ap (spot-next s) (ap slots_of here ∙ x-slots jump q f) in
    let inside = case-inside ss u1 s n q u1_spot refl long (ih u1) in
    let v : Unfinished = left u1 (gen_stmts ss (entered u1)) in
    let ms : Option Loop → List Mark = λ o. stmts_code ss (at_loop (inner s) o) n q in
    let fs : List Function = stmts_par_functions ss (inner s) n in
    let s2 : Spot = behind_slots s (stmts_slots ss) in
    let below_1 : AreBelow cs js (place_in u1) = are-higher cs js q (place_in u1) (omega (arith, long)) below.1 in
    let open_1 : IsBelow other2 (place_in u1) = below-higher other2 q (place_in u1) (omega (arith, long)) (behind-below l q other open_below) in
    let w2 = went-sets ms fs s2 u1 v cs js other2 k q2 below_1 open_1 inside in
    let far : place_in v ≡ q2 = let e = place-behind ms fs s2 u1 v inside in let c = whole-stmts-count ss (inner s) n q refl in omega (arith, e, c, long) in
    let number : next_number v ≡ n2 = let e = number-behind ms fs s2 u1 v inside in let c = stmts-many ss (inner s) n in omega (arith, e, c) in
    let below_v : AreBelow cs js (place_in v) = are-higher cs js q (place_in v) (omega (arith, far)) below.1 in
    let open_v : IsBelow other2 (place_in v) = below-higher other2 q (place_in v) (omega (arith, far)) (behind-below l q other open_below) in
    let w : Unfinished = gen_cases cs js other2 v in
    let w3 : CasesFrom cs js other2 v s2 n2 q2 = cases-from cs js other2 v s2 n2 q2 inside.spot number far (jh v below_v open_v) in
    let ns : Option Loop → List Mark = λ o. cases_code cs (at_loop (inner s2) o) n2 q2 in
    let gs : List Function = cases_par_functions cs (inner s2) n2 in
    let v2 : Unfinished = with_function v (set v.body.function) in
    let s3 : Spot = behind_slots s2 (cases_slots cs) in
    let rest = went-then ms ns fs gs s2 s3 (with_function u1 (set u1.body.function)) v2 w w2 w3 in
    went-as (λ o. (label [] ∷ []) ++ (ms o ++ ns o)) (λ o. cases_code (more_cases (a_case at l ss) cs) (at_loop (inner s) o) n q) (fs ++ gs) (cases_par_functions (more_cases (a_case at l ss) cs) (inner s) n) s3
    (behind_slots s (cases_slots (more_cases (a_case at l ss) cs))) start w (λ o. refl) refl (ap (spot-next s) (let z : s.next + stmts_slots ss + cases_slots cs ≡ s.next + (stmts_slots ss + cases_slots cs) = omega arith in z))
    (went-then (λ o. label [] ∷ []) (λ o. ms o ++ ns o) [] (fs ++ gs) s s3 start (with_function u1 (set u1.body.function)) w w1 rest)
  where
    x-slots : (o : Option ℕ) (to : ℕ) (f : Function) → slots_of (set_jump o to f) ≡ slots_of f
    x-slots None to f = refl
    x-slots (Some n) to f = refl

-- The whole

open-below : (cs : CaseTrees) (other p : ℕ) → other < p → IsBelow (open_jump cs other) p
open-below cs other p h = by (any_default cs)
  where
    by : (b : Bool) → IsBelow (if b then None else Some other) p
    by true = tt
    by false = h

pub switch-went : (e : Tree) (cs : CaseTrees) (at : At) (u : Unfinished) → ((js : List ℕ) (other : Option ℕ) (v : Unfinished) → AreBelow cs js (place_in v) → IsBelow other (place_in v) → CasesWent cs js other v) → StmtWent (stmt at (switch e cs)) u
unfolding gen_stmt gen_stmt_form switch_begun switch_opened switch_ended
switch-went e cs at u ih =
    let sp : Spot = spot_of u.body in
    let n : ℕ = next_number u in
    let p : ℕ = place_in u in
    let sc : Scope = sp.scope in
    let k : Known = known sc in
    let t : Ty = type_of e in
    -- its value
    let code : List Mark = expr_code e sc p [] in
    let value : Function = gen e sc [] u.body.function in
    let value_is = gen-is e sc [] u.body.function p [] refl refl in
    let u1 : Unfinished = with_function u value in
    let w1 = went-function u value code sp value_is (expr-no-slots e sc p []) refl in
    let own : slots_of value ≡ sp.next = same-slots u.body.function value code value_is (expr-no-slots e sc p []) in
    -- its slot
    let store : List Mark = slot t ∷ does (Store sp.next) at ∷ [] in
    let f1 : Function = kept value at t in
    let f1_is : f1 ≡ written value store = ap (λ m. written value (slot t ∷ does (Store m) at ∷ [])) own in
    let s1 : Spot = behind_slots sp 1 in
    let f1_slots : slots_of f1 ≡ sp.next + 1 = let a = ap slots_of f1_is in let b = slots-written store value in omega (arith, a, b, own) in
    let u2 : Unfinished = with_function u f1 in
    let w2 = went-body u1 (in_body u1.body f1) store s1 f1_is refl (ap (spot-next sp) f1_slots) in
    let tests : ℕ = p + expr_size (types_in sc) e + 1 in
    let f1_place : length f1.code ≡ tests = let a = ap (λ (g : Function). length g.code) f1_is in let b = length-written store value in let c = gen-place e sc [] u.body.function p [] refl refl in omega (arith, a, b, c) in
    -- its labels
    let last : ℕ = tests + labels_size (types_in sc) cs in
    let cases : ℕ = last + 1 in
    let end : ℕ = cases + cases_size cs k in
    let f2 : Function = gen_labels cs at (slots_of value) sc f1 in
    let f2_is : f2 ≡ written f1 (labels_open cs at sp tests) = ap (λ m. gen_labels cs at m sc f1) own ∙ labels-are cs at sp f1 tests f1_place in
    let f3 : Function = one_more f2 at (Jump 0) in
    let all_open : List Mark = labels_open cs at sp tests ++ (does (Jump 0) at ∷ []) in
    let f3_is : f3 ≡ written f1 all_open = then_is f1 f2 f3 (labels_open cs at sp tests) (does (Jump 0) at ∷ []) f2_is refl in
    let js : List ℕ = label_jumps cs at (slots_of value) sc f1 in
    let js_are : js ≡ jumps_at cs sp tests = ap (λ m. label_jumps cs at m sc f1) own ∙ jumps-are cs at sp f1 tests f1_place in
    let opened = open-count cs at sp tests in
    let other : ℕ = length f2.code + 0 in
    let other_is : other ≡ last = let a = ap (λ (g : Function). length g.code) f2_is in let b = length-written (labels_open cs at sp tests) f1 in omega (arith, a, b, f1_place, opened) in
    let v0 : Unfinished = in_new_loop (with_function u f3) in
    let long = length-append f2.code (Jump 0 ∷ []) in
    let v0_place : place_in v0 ≡ cases = omega (arith, long, other_is) in
    let below : AreBelow cs js (place_in v0) = subst (λ l. AreBelow cs l (place_in v0)) (sym js_are) (jumps-below cs sp tests (place_in v0) (omega (arith, v0_place))) in
    let other_below : other < place_in v0 = omega (arith, long) in
    let open_slots = no_slots (labels_open cs at sp tests) (does (Jump 0) at ∷ []) (open-slots cs at sp tests) refl in
    let v0_slots : slots_of f3 ≡ sp.next + 1 = same-slots f1 f3 all_open f3_is open_slots ∙ f1_slots in
    -- its cases
    let v : Unfinished = gen_cases cs js (Some other) v0 in
    let a1 : CasesFrom cs js (Some other) v0 s1 n cases = cases-from cs js (Some other) v0 s1 n cases (ap (spot-next sp) v0_slots) refl v0_place (ih js (Some other) v0 below other_below) in
    let ms : Option Loop → List Mark = λ o. cases_code cs (at_loop (inner s1) o) n cases in
    let fs : List Function = cases_par_functions cs (inner s1) n in
    let s3 : Spot = behind_slots s1 (cases_slots cs) in
    let g : Function = set_jumps cs js (Some other) k cases f3 in
    let g_place : length g.code ≡ cases = sets-length cs js (Some other) k cases f3 ∙ v0_place in
    let here : ℕ = length v.body.function.code + 0 in
    let here_is : here ≡ end = let a = place-behind ms fs s3 (with_function v0 g) v a1 in let c = cases-count cs (inner s1) n cases refl in omega (arith, a, c, g_place) in
    let ug : Unfinished = with_function u g in
    let a2 = went-switch ms fs s3 ug v here a1 in
    let led : Function = led_out here v.body.leaps v.body.function in
    let v2 : Unfinished = with_body v (record v.body { function = led; leaps = u.body.leaps ++ going_on v.body.leaps }) in
    let jump : Option ℕ = open_jump cs other in
    let a3 = went-set (λ o. ms (Some (loop_to (again_of o) here))) fs s3 ug v2 jump here (open-below cs other (place_in ug) (omega (arith, other_is, g_place))) a2 in
    let all : List Mark = labels_code cs at sp.scope sp.next tests cases ++ (does (Jump (default_place cs k cases)) at ∷ []) in
    let set : Function = set_jump jump here g in
    let g_is : g ≡ set_jumps cs (jumps_at cs sp tests) (Some other) k cases (written f1 all_open) = ap₂ (λ l f. set_jumps cs l (Some other) k cases f) js_are f3_is in
    let set_is : set ≡ written f1 all = ap (set_jump jump here) g_is ∙ all-set cs at sp tests cases other here f1 f1_place (sym other_is) (sym here_is) in
    let w3 = went-function u2 set all s1 set_is (no_slots (labels_code cs at sp.scope sp.next tests cases) (does (Jump (default_place cs k cases)) at ∷ []) (labels-slots cs at sp tests cases) refl) w2.spot in
    let us : Unfinished = with_function u set in
    let v3 : Unfinished = with_function v2 (set_jump jump here led) in
    -- its end
    let led_place : length led.code ≡ here = let a = out-length here v.body.leaps v.body.function in omega (arith, a) in
    let w : Unfinished = with_body v (record v.body { function = arrived jump led; leaps = u.body.leaps ++ going_on v.body.leaps }) in
    let w4 = went-function v3 (arrived jump led) (label [] ∷ []) s3 (arrived-is jump led here led_place) refl a3.spot in
    let inside : Option Loop → List Mark = λ o. ms (Some (loop_to (again_of o) here)) in
    let w34 = went-behind inside (λ o. label [] ∷ []) fs s3 s3 us v3 w a3 w4 in
    let w234 = went-then (λ o. all) (λ o. inside o ++ (label [] ∷ [])) [] fs s1 s3 u2 us w w3 w34 in
    let w1234 = went-then (λ o. store) (λ o. all ++ (inside o ++ (label [] ∷ []))) [] fs s1 s3 u1 u2 w w2 w234 in
    let whole = went-then (λ o. code) (λ o. store ++ (all ++ (inside o ++ (label [] ∷ [])))) [] fs sp s3 u u1 w w1 w1234 in
    went-as (λ o. code ++ (store ++ (all ++ (inside o ++ (label [] ∷ []))))) (λ o. stmt_code (stmt at (switch e cs)) (at_loop sp o) n p) fs (par_functions (stmt at (switch e cs)) sp n) s3 (behind_slots sp (slots (stmt at (switch e cs)))) u w
    (λ o.
    ap (λ z. code ++ (store ++ (all ++ (ms (Some (loop_to (again_of o) z)) ++ (label [] ∷ []))))) here_is
    ∙ ap (λ xs. code ++ (store ++ xs)) (append_assoc (labels_code cs at sp.scope sp.next tests cases) (does (Jump (default_place cs k cases)) at ∷ []) (ms (Some (loop_to (again_of o) end)) ++ (label [] ∷ []))))
    refl (ap (spot-next sp) (let z : sp.next + 1 + cases_slots cs ≡ sp.next + (cases_slots cs + 1) = omega arith in z)) whole
