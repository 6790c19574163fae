-- Tests and loops: what is written in order is what their marks write.
use Rattle.std.proofs.Common.{◌≡◌, ◌+◌, ℕ, pos, false, Option, Some, None, List, [], ◌∷◌, ◌++◌, length, length-append, reverse, refl, sym, ◌∙◌, ap, ap₂, subst, arith}
use Rattle.std.proofs.lemmas.List.{length-set}
use Rattle.bds_value.specs.declared.change_numbers.TheConstants.{ADD}
use Rattle.bds_value.specs.declared.method_numbers.TheConstants.{LIST_SIZE}
use Rattle.bds_value.specs.declared.value.At.{At}
use Rattle.bds_value.specs.declared.value.Ty.{Ty}
use Rattle.bds_value.specs.declared.value.Ty.TheVariants as ty
use Rattle.bds_tree.specs.StmtTree.{SmallTree, SmallFormTree, small_declare, small_infer, small_assign, small_update, small_step, small_call, StmtTree, LineTree, RightTree, ActTree, BlockTree, StmtTrees, stmt, when, while, for, each, more_stmts, no_stmt, a_stmt}
use Rattle.bds_tree.specs.Tree.{Tree}
use Rattle.bds_code.specs.declared.instr.Instr.{Instr}
use Rattle.bds_code.specs.declared.instr.Instr.TheVariants.{PushInt, Load, Store, Less, Item, Update, Jump, JumpUnless, Tick, Method as CallMethod}
use Rattle.bds_code.specs.declared.unit.Function.{Function}
use Rattle.bds_check_names.specs.Slots.{slots, small_slots}
use Rattle.bds_check_size.specs.ExprSize.{expr_size}
use Rattle.bds_check_size.specs.Known.{Known, look}
use Rattle.bds_check_size.specs.StmtSize.{maybe_small_size, condition_size, stmt_size, known_behind_small}
use Rattle.bds_gen_expr.specs.declared.scope.Scope.{Scope}
use Rattle.bds_gen_expr.specs.ExprCode.{expr_code}
use Rattle.bds_gen_expr.specs.Gen.{act as one_more, patched, begin_other, gen}
use Rattle.bds_gen_expr.specs.Marks.{Mark, does, label, slot, put, written}
use Rattle.bds_gen_expr.specs.Scope.{known, types_in}
use Rattle.bds_gen_expr.proofs.GenLaws.{gen-is, other-place}
use Rattle.bds_gen_expr.proofs.Written.{written-append, patched-written}
use Rattle.bds_gen_stmt.specs.FunctionCode.{par_functions, line_par_functions, right_par_functions, act_par_functions, block_par_functions, stmts_par_functions}
use Rattle.bds_gen_stmt.specs.PlaceCode.{small_form_code, small_code, behind_small}
use Rattle.bds_gen_stmt.specs.Spots.{Loop, Spot, inner, in_loop, behind_slots, declared_local}
use Rattle.bds_gen_stmt.specs.StmtCode.{behind, behind_line, pars, condition_code, stmt_code, line_code, right_code, act_code, block_code, stmts_code}
use Rattle.bds_gen_stmt.proofs.Pars.{many}
use Rattle.bds_gen_stmt.proofs.StmtCounts.{expr-no-slots}
use Rattle.bds_gen_stmt.proofs.WholeCounts.{whole-stmt-count, small-count, condition-count, known-small}
use Rattle.bds_gen_stmt.proofs.WholeSlots.{condition-slots}
use Rattle.bds_gen_stmt_code.specs.Bodies.{slots_of, spot_of, before_of, next_number, place_in, in_body, with_function, with_body, entered, left}
use Rattle.bds_gen_stmt_code.specs.GenParts.{gen_small}
use Rattle.bds_gen_stmt_code.specs.GenLoops.{gen_condition, tested, topped, in_new_loop, list_begun, list_tested, list_item, list_counted, list_own, loop_closed, if_begun, if_test, if_ended, else_begun, else_jump, else_ended, while_begun, while_opened, while_ended, for_begun, for_opened, for_ended, each_begun, each_opened, each_ended}
use Rattle.bds_gen_stmt_code.specs.GenStmts.{gen_stmt, gen_line, gen_right, gen_act, gen_block, gen_stmts, gen_stmt_form}
use Rattle.bds_gen_stmt_code.specs.Leaps.{loop_to}
use Rattle.bds_gen_stmt_code.specs.declared.body.Body.{Body}
use Rattle.bds_gen_stmt_code.specs.declared.body.Unfinished.{Unfinished}
use Rattle.bds_gen_stmt_code.proofs.Left.{further-slots, further-then, behind_stmts, behind_block, inner-further, local-further, went-left, went-entered, small-further, small-inner, small-loop}
use Rattle.bds_gen_stmt_code.proofs.LoopLaws.{loop-went}
use Rattle.bds_gen_stmt_code.proofs.PartLaws.{local-spot, small-is}
use Rattle.bds_gen_stmt_code.proofs.Then.{place-is, gen-place}
use Rattle.bds_gen_stmt.proofs.Loops.{at_loop, behind-loop}
use Rattle.bds_gen_stmt_code.proofs.Went.{Went, went-then, went-as, went-behind, went-body, went-function, went-turned, place-behind, number-behind, slots-written, same-slots}

abbrev pub StmtWent : StmtTree → Unfinished → Type 0
StmtWent s u = Went (λ o. stmt_code s (at_loop (spot_of u.body) o) (next_number u) (place_in u)) (par_functions s (spot_of u.body) (next_number u)) (behind s (spot_of u.body)) u (gen_stmt s u)

abbrev pub StmtsWent : StmtTrees → Unfinished → Type 0
StmtsWent ss u = Went (λ o. stmts_code ss (at_loop (spot_of u.body) o) (next_number u) (place_in u)) (stmts_par_functions ss (spot_of u.body) (next_number u)) (behind_stmts ss (spot_of u.body)) u (gen_stmts ss u)

abbrev pub BlockWent : BlockTree → Unfinished → Type 0
BlockWent b u = Went (λ o. block_code b (at_loop (spot_of u.body) o) (next_number u) (place_in u)) (block_par_functions b (spot_of u.body) (next_number u)) (behind_block b (spot_of u.body)) u (gen_block b u)

abbrev pub LineWent : LineTree → At → Unfinished → Type 0
LineWent l at u = Went (λ o. line_code l at (at_loop (spot_of u.body) o) (next_number u) (place_in u)) (line_par_functions l (spot_of u.body) (next_number u)) (behind_line l (spot_of u.body)) u (gen_line l at u)

abbrev pub RightWent : RightTree → List Ty → Unfinished → Type 0
RightWent r s u = Went (λ o. right_code r (at_loop (spot_of u.body) o) (next_number u) (place_in u) (reverse s)) (right_par_functions r (spot_of u.body) (next_number u)) (spot_of u.body) u (gen_right r s u)

abbrev pub ActWent : ActTree → List Ty → Unfinished → Type 0
ActWent a s u = Went (λ o. act_code a (at_loop (spot_of u.body) o) (next_number u) (place_in u) (reverse s)) (act_par_functions a (spot_of u.body) (next_number u)) (spot_of u.body) u (gen_act a s u)

-- One statement behind the other

pub stmts-then : (s : StmtTree) (ss : StmtTrees) (u : Unfinished) → StmtWent s u → StmtsWent ss (gen_stmt s u) → StmtsWent (more_stmts s ss) u
unfolding gen_stmts
stmts-then s ss u a b =
    let sp : Spot = spot_of u.body in
    let n : ℕ = next_number u in
    let p : ℕ = place_in u in
    let v : Unfinished = gen_stmt s u in
    let w : Unfinished = gen_stmts ss v in
    let far : place_in v ≡ p + stmt_size s (known sp.scope) =
    let e = place-behind (λ o. stmt_code s (at_loop sp o) n p) (par_functions s sp n) (behind s sp) u v a in let c = whole-stmt-count s sp n p in omega (arith, e, c) in
    let number : next_number v ≡ n + pars s =
    let e = number-behind (λ o. stmt_code s (at_loop sp o) n p) (par_functions s sp n) (behind s sp) u v a in let c = many s sp n in omega (arith, e, c) in
    let b2 : Went (λ o. stmts_code ss (at_loop (behind s sp) o) (next_number v) (place_in v)) (stmts_par_functions ss (behind s sp) (next_number v)) (behind_stmts ss (behind s sp)) v w =
    subst (λ x. Went (λ o. stmts_code ss (at_loop x o) (next_number v) (place_in v)) (stmts_par_functions ss x (next_number v)) (behind_stmts ss x) v w) a.spot b in
    let b3 : Went (λ o. stmts_code ss (at_loop (behind s sp) o) (n + pars s) (place_in v)) (stmts_par_functions ss (behind s sp) (n + pars s)) (behind_stmts ss (behind s sp)) v w =
    subst (λ k. Went (λ o. stmts_code ss (at_loop (behind s sp) o) k (place_in v)) (stmts_par_functions ss (behind s sp) k) (behind_stmts ss (behind s sp)) v w) number b2 in
    let q : ℕ = p + stmt_size s (known sp.scope) in
    let b4 : Went (λ o. stmts_code ss (at_loop (behind s sp) o) (n + pars s) q) (stmts_par_functions ss (behind s sp) (n + pars s)) (behind_stmts ss (behind s sp)) v w =
    subst (λ k. Went (λ o. stmts_code ss (at_loop (behind s sp) o) (n + pars s) k) (stmts_par_functions ss (behind s sp) (n + pars s)) (behind_stmts ss (behind s sp)) v w) far b3 in
    went-as (λ o. stmt_code s (at_loop sp o) n p ++ stmts_code ss (at_loop (behind s sp) o) (n + pars s) q) (λ o. stmts_code (more_stmts s ss) (at_loop sp o) n p) _ (stmts_par_functions (more_stmts s ss) sp n) (behind_stmts ss (behind s sp)) (behind_stmts ss (behind s sp)) u w
    (λ o. ap (λ x. stmt_code s (at_loop sp o) n p ++ stmts_code ss x (n + pars s) q) (sym (behind-loop s sp o))) refl refl
    (went-then (λ o. stmt_code s (at_loop sp o) n p) (λ o. stmts_code ss (at_loop (behind s sp) o) (n + pars s) q) (par_functions s sp n) (stmts_par_functions ss (behind s sp) (n + pars s)) (behind s sp) (behind_stmts ss (behind s sp)) u v w a b4)

-- A statement within another

inner-went : (s : StmtTree) (t : Unfinished) (sp : Spot) (n p : ℕ) → spot_of t.body ≡ sp → next_number t ≡ n → place_in t ≡ p → StmtWent s (entered t)
    → Went (λ o. stmt_code s (at_loop (inner sp) o) n p) (par_functions s (inner sp) n) (behind_slots sp (slots s)) t (left t (gen_stmt s (entered t)))
inner-went s t sp n p e1 e2 e3 h =
    let w : Unfinished = left t (gen_stmt s (entered t)) in
    let x : Spot = spot_of (entered t).body in
    let a : Went (λ o. stmt_code s (at_loop x o) (next_number t) (place_in t)) (par_functions s x (next_number t)) (behind_slots (spot_of t.body) (slots s)) t w =
    went-entered (λ o. stmt_code s (at_loop x o) (next_number t) (place_in t)) (par_functions s x (next_number t)) (behind s x) (slots s) t (gen_stmt s (entered t)) h (inner-further s x refl) in
    let b : Went (λ o. stmt_code s (at_loop (inner sp) o) (next_number t) (place_in t)) (par_functions s (inner sp) (next_number t)) (behind_slots sp (slots s)) t w =
    subst (λ y. Went (λ o. stmt_code s (at_loop (inner y) o) (next_number t) (place_in t)) (par_functions s (inner y) (next_number t)) (behind_slots y (slots s)) t w) e1 a in
    let c : Went (λ o. stmt_code s (at_loop (inner sp) o) n (place_in t)) (par_functions s (inner sp) n) (behind_slots sp (slots s)) t w =
    subst (λ k. Went (λ o. stmt_code s (at_loop (inner sp) o) k (place_in t)) (par_functions s (inner sp) k) (behind_slots sp (slots s)) t w) e2 b in
    subst (λ k. Went (λ o. stmt_code s (at_loop (inner sp) o) n k) (par_functions s (inner sp) n) (behind_slots sp (slots s)) t w) e3 c

test-place : (f : Function) (at : At) (p q : ℕ) → length f.code ≡ p → p + 1 ≡ q → length (tested f at).code ≡ q
test-place f at p q h e = let l = length-append f.code (JumpUnless 0 ∷ []) in omega (arith, l, h, e)

-- `if`

pub if-went : (c : Tree) (a : StmtTree) (at : At) (u : Unfinished) → ((t : Unfinished) → StmtWent a (entered t)) → StmtWent (stmt at (when c a no_stmt)) u
unfolding gen_stmt gen_stmt_form if_begun if_test if_ended
if-went c a at u ih =
    let sp : Spot = spot_of u.body in
    let n : ℕ = next_number u in
    let p : ℕ = place_in u in
    let e : List Mark = expr_code c sp.scope p [] in
    let before : Function = gen c sp.scope [] u.body.function in
    let u1 : Unfinished = with_function u before in
    let w1 = went-function u before e sp (gen-is c sp.scope [] u.body.function p [] refl refl) (expr-no-slots c sp.scope p []) refl in
    let right : ℕ = p + expr_size (types_in sp.scope) c + 1 in
    let t : Unfinished = with_function u (tested before at) in
    let way : Unfinished = left t (gen_stmt a (entered t)) in
    let ms : Option Loop → List Mark = λ o. stmt_code a (at_loop (inner sp) o) n right in
    let fs : List Function = par_functions a (inner sp) n in
    let s2 : Spot = behind_slots sp (slots a) in
    let w = inner-went a t sp n right w1.spot refl (test-place before at (p + expr_size (types_in sp.scope) c) right (gen-place c sp.scope [] u.body.function p [] refl refl) refl) (ih t) in
    let i : Instr = JumpUnless (length way.body.function.code + 0) in
    let w2 = went-turned ms fs s2 u1 way at (JumpUnless 0) i (length before.code) refl w in
    let v2 : Unfinished = with_function way (patched way.body.function (length before.code) i) in
    let v3 : Unfinished = with_function v2 (put v2.body.function (label [])) in
    let w3 = went-function v2 (put v2.body.function (label [])) (label [] ∷ []) s2 refl refl w2.spot in
    let all = went-then (λ o. e) (λ o. (does i at ∷ ms o) ++ (label [] ∷ [])) [] fs sp s2 u u1 v3 w1 (went-behind (λ o. does i at ∷ ms o) (λ o. label [] ∷ []) fs s2 s2 u1 v2 v3 w2 w3) in
    let end : ℕ = right + stmt_size a (known sp.scope) in
    let there : length way.body.function.code + 0 ≡ end =
    let l = place-behind ms fs s2 t way w in let k = whole-stmt-count a (inner sp) n right in
    let r = test-place before at (p + expr_size (types_in sp.scope) c) right (gen-place c sp.scope [] u.body.function p [] refl refl) refl in omega (arith, l, k, r) in
    went-as (λ o. e ++ (does i at ∷ (ms o ++ (label [] ∷ [])))) (λ o. stmt_code (stmt at (when c a no_stmt)) (at_loop sp o) n p) fs fs s2 (behind_slots sp (slots (stmt at (when c a no_stmt)))) u v3
    (λ o. ap (λ k. e ++ (does (JumpUnless k) at ∷ (ms o ++ (label [] ∷ [])))) there) refl (ap (behind_slots sp) (let z : slots a ≡ slots a + 0 = omega arith in z)) all

pub if-else-went : (c : Tree) (a b : StmtTree) (at : At) (u : Unfinished) → ((t : Unfinished) → StmtWent a (entered t)) → ((t : Unfinished) → StmtWent b (entered t)) → StmtWent (stmt at (when c a (a_stmt b))) u
unfolding gen_stmt gen_stmt_form if_begun if_test else_begun else_jump else_ended
if-else-went c a b at u ih jh =
    let sp : Spot = spot_of u.body in
    let n : ℕ = next_number u in
    let p : ℕ = place_in u in
    let e : List Mark = expr_code c sp.scope p [] in
    let before : Function = gen c sp.scope [] u.body.function in
    let u1 : Unfinished = with_function u before in
    let w1 = went-function u before e sp (gen-is c sp.scope [] u.body.function p [] refl refl) (expr-no-slots c sp.scope p []) refl in
    let q : ℕ = p + expr_size (types_in sp.scope) c in
    let right : ℕ = q + 1 in
    let t : Unfinished = with_function u (tested before at) in
    let way : Unfinished = left t (gen_stmt a (entered t)) in
    let ms : Option Loop → List Mark = λ o. stmt_code a (at_loop (inner sp) o) n right in
    let fs : List Function = par_functions a (inner sp) n in
    let s2 : Spot = behind_slots sp (slots a) in
    let there = gen-place c sp.scope [] u.body.function p [] refl refl in
    let begins = test-place before at q right there refl in
    let w = inner-went a t sp n right w1.spot refl begins (ih t) in
    let r2 : ℕ = right + stmt_size a (known sp.scope) in
    let far : place_in way ≡ r2 = let l = place-behind ms fs s2 t way w in let k = whole-stmt-count a (inner sp) n right in omega (arith, l, k, begins) in
    let other : ℕ = r2 + 1 in
    let test : ℕ = length before.code in
    let i : Instr = JumpUnless (place_in way + 1) in
    let w2 = went-turned ms fs s2 u1 way at (JumpUnless 0) i test refl w in
    let v1 : Unfinished = with_function way (patched way.body.function test i) in
    let v0 : Unfinished = with_function v1 (one_more v1.body.function at (Jump 0)) in
    let begun_there : Function = begin_other way.body.function test at [] in
    let second : Unfinished = with_function way begun_there in
    let same : begun_there ≡ written v0.body.function (label [] ∷ []) = patched-written (does (Jump 0) at ∷ label [] ∷ []) way.body.function test i (omega (arith, there, far)) in
    let w3 = went-function v0 begun_there (label [] ∷ []) s2 same refl w2.spot in
    let n2 : ℕ = n + pars a in
    let number : next_number second ≡ n2 = let k = number-behind ms fs s2 t way w in let m = many a (inner sp) n in omega (arith, k, m) in
    let ns : Option Loop → List Mark = λ o. stmt_code b (at_loop (inner s2) o) n2 other in
    let gs : List Function = par_functions b (inner s2) n2 in
    let s3 : Spot = behind_slots s2 (slots b) in
    let last : Unfinished = left second (gen_stmt b (entered second)) in
    let begins2 : place_in second ≡ other = other-place way.body.function test at [] r2 other far refl in
    let x = inner-went b second s2 n2 other w3.spot number begins2 (jh second) in
    let w4 = went-then (λ o. label [] ∷ []) ns [] gs s2 s3 v0 second last w3 x in
    let end : ℕ = other + stmt_size b (known sp.scope) in
    let j : Instr = Jump (place_in last + 0) in
    let jump : ℕ = place_in way in
    let w5 = went-turned (λ o. label [] ∷ ns o) gs s3 v1 last at (Jump 0) j jump (sym (length-set way.body.function.code test i)) w4 in
    let v5 : Unfinished = with_function last (patched last.body.function jump j) in
    let v6 : Unfinished = with_function v5 (put v5.body.function (label [])) in
    let w6 = went-function v5 (put v5.body.function (label [])) (label [] ∷ []) s3 refl refl w5.spot in
    let w56 = went-behind (λ o. does j at ∷ label [] ∷ ns o) (λ o. label [] ∷ []) gs s3 s3 v1 v5 v6 w5 w6 in
    let w26 = went-then (λ o. does i at ∷ ms o) (λ o. (does j at ∷ label [] ∷ ns o) ++ (label [] ∷ [])) fs gs s2 s3 u1 v1 v6 w2 w56 in
    let all = went-then (λ o. e) (λ o. (does i at ∷ ms o) ++ ((does j at ∷ label [] ∷ ns o) ++ (label [] ∷ []))) [] (fs ++ gs) sp s3 u u1 v6 w1 w26 in
    let e1 : place_in way + 1 ≡ other = omega (arith, far) in
    let e2 : place_in last + 0 ≡ end = let l = place-behind ns gs s3 second last x in let k = whole-stmt-count b (inner s2) n2 other in omega (arith, l, k, begins2) in
    went-as (λ o. e ++ (does i at ∷ (ms o ++ (does j at ∷ label [] ∷ (ns o ++ (label [] ∷ [])))))) (λ o. stmt_code (stmt at (when c a (a_stmt b))) (at_loop sp o) n p) (fs ++ gs) (fs ++ gs) s3 (behind_slots sp (slots (stmt at (when c a (a_stmt b))))) u v6
    (λ o. ap₂ (λ k m. e ++ (does (JumpUnless k) at ∷ (ms o ++ (does (Jump m) at ∷ label [] ∷ (ns o ++ (label [] ∷ [])))))) e1 e2)
    refl (ap (λ k. record sp { next = k }) (let z : sp.next + slots a + slots b ≡ sp.next + (slots a + slots b) = omega arith in z)) all

-- Loops

pub while-went : (c : Tree) (s : StmtTree) (at : At) (u : Unfinished) → ((t : Unfinished) → StmtWent s (entered t)) → StmtWent (stmt at (while c s)) u
unfolding gen_stmt gen_stmt_form while_begun while_opened while_ended
while-went c s at u ih =
    let sp : Spot = spot_of u.body in
    let n : ℕ = next_number u in
    let p : ℕ = place_in u in
    let f0 : Function = topped u.body.function at in
    let head : List Mark = label [] ∷ does Tick at ∷ [] in
    let u0 : Unfinished = with_function u f0 in
    let w0 = went-function u f0 head sp refl refl refl in
    let place0 : place_in u0 ≡ p + 1 = place-is u.body.function f0 head p 1 refl refl refl in
    let e : List Mark = expr_code c sp.scope (p + 1) [] in
    let before : Function = gen c sp.scope [] f0 in
    let u1 : Unfinished = with_function u0 before in
    let w1 = went-function u0 before e sp (gen-is c sp.scope [] f0 (p + 1) [] place0 refl) (expr-no-slots c sp.scope (p + 1) []) w0.spot in
    let q : ℕ = p + 1 + expr_size (types_in sp.scope) c in
    let body : ℕ = q + 1 in
    let inside : Unfinished = in_new_loop (with_function u (tested before at)) in
    let way : Unfinished = left inside (gen_stmt s (entered inside)) in
    let ms : Option Loop → List Mark = λ o. stmt_code s (at_loop (inner sp) o) n body in
    let fs : List Function = par_functions s (inner sp) n in
    let s2 : Spot = behind_slots sp (slots s) in
    let begins = test-place before at q body (gen-place c sp.scope [] f0 (p + 1) [] place0 refl) refl in
    let w = inner-went s inside sp n body w1.spot refl begins (ih inside) in
    let end : ℕ = body + stmt_size s (known sp.scope) + 1 in
    let far : length way.body.function.code + 1 ≡ end = let l = place-behind ms fs s2 inside way w in let k = whole-stmt-count s (inner sp) n body in omega (arith, l, k, begins) in
    let w2 = loop-went ms [] fs s2 s2 u1 way way.body at p p (length before.code) end w refl refl w.spot refl far in
    let v : Unfinished = gen_stmt (stmt at (while c s)) u in
    let tail : Option Loop → List Mark = λ o. does (JumpUnless end) at ∷ (ms (Some (loop_to p end)) ++ (does (Jump p) at ∷ label [] ∷ [])) in
    went-then (λ o. head) (λ o. e ++ tail o) [] fs sp s2 u u0 v w0 (went-then (λ o. e) tail [] fs sp s2 u0 u1 v w1 w2)

condition-is : (c : Option Tree) (at : At) (sc : Scope) (g : Function) (p : ℕ) → length g.code ≡ p → gen_condition c at sc g ≡ written g (condition_code c at sc p)
condition-is None at sc g p h = refl
condition-is (Some e) at sc g p h = gen-is e sc [] g p [] h refl

small-form-apart : (x : SmallFormTree) (at : At) (sp : Spot) (o : Option Loop) (p : ℕ) → small_form_code x at (at_loop sp o) p ≡ small_form_code x at sp p
small-form-apart (small_declare t x None) at sp o p = refl
small-form-apart (small_declare t x (Some e)) at sp o p = refl
small-form-apart (small_infer x e) at sp o p = refl
small-form-apart (small_assign q e) at sp o p = refl
small-form-apart (small_update q op e) at sp o p = refl
small-form-apart (small_step x) at sp o p = refl
small-form-apart (small_call e) at sp o p = refl

small-apart : (x : Option SmallTree) (sp : Spot) (o : Option Loop) (p : ℕ) → small_code x (at_loop sp o) p ≡ small_code x sp p
small-apart None sp o p = refl
small-apart (Some x) sp o p = small-form-apart x.form x.at sp o p

pub for-went : (first : Option SmallTree) (c : Option Tree) (next : Option SmallTree) (s : StmtTree) (at : At) (u : Unfinished) → ((t : Unfinished) → StmtWent s (entered t)) → StmtWent (stmt at (for first c next s)) u
unfolding gen_stmt gen_stmt_form before_of for_begun for_opened for_ended
for-went first c next s at u ih =
    let sp : Spot = spot_of u.body in
    let n : ℕ = next_number u in
    let p : ℕ = place_in u in
    let head : Body = gen_small first u.body in
    let hp : Spot = behind_small first sp in
    let small = small-is first u.body p refl in
    let m0 : List Mark = small_code first (inner sp) p in
    let u0 : Unfinished = with_body u head in
    let w0 = went-body u head m0 hp small.function small.leaps small.spot in
    let top : ℕ = p + maybe_small_size (types_in sp.scope) first in
    let place0 : place_in u0 ≡ top = place-is u.body.function head.function m0 p (maybe_small_size (types_in sp.scope) first) small.function refl (small-count first (inner sp) p) in
    let g0 : Function = topped head.function at in
    let m1 : List Mark = label [] ∷ does Tick at ∷ [] in
    let u1 : Unfinished = with_function u0 g0 in
    let w1 = went-function u0 g0 m1 hp refl refl w0.spot in
    let place1 : place_in u1 ≡ top + 1 = place-is head.function g0 m1 top 1 refl place0 refl in
    let before : Function = gen_condition c at head.scope g0 in
    let same : head.scope ≡ hp.scope = ap (λ (x : Spot). x.scope) small.spot in
    let m2 : List Mark = condition_code c at hp.scope (top + 1) in
    let is2 : before ≡ written g0 m2 = condition-is c at head.scope g0 (top + 1) place1 ∙ ap (λ sc. written g0 (condition_code c at sc (top + 1))) same in
    let u2 : Unfinished = with_function u1 before in
    let w2 = went-function u1 before m2 hp is2 (condition-slots c at hp.scope (top + 1)) w1.spot in
    let k : Known = known_behind_small first (known sp.scope) in
    let known_there : known hp.scope ≡ k = known-small first sp in
    let size : ℕ = condition_size (look (known hp.scope)) c in
    let q : ℕ = top + 1 + size in
    let place2 : length before.code ≡ q = place-is g0 before m2 (top + 1) size is2 place1 (condition-count c at hp.scope (top + 1)) in
    let body : ℕ = q + 1 in
    let inside : Unfinished = in_new_loop (with_body u (in_body head (tested before at))) in
    let way : Unfinished = left inside (gen_stmt s (entered inside)) in
    let ms : Option Loop → List Mark = λ o. stmt_code s (at_loop (inner hp) o) n body in
    let fs : List Function = par_functions s (inner hp) n in
    let s2 : Spot = behind_slots hp (slots s) in
    let begins = test-place before at q body place2 refl in
    let w = inner-went s inside hp n body w2.spot refl begins (ih inside) in
    let again : ℕ = body + stmt_size s (known hp.scope) in
    let far : place_in way ≡ again = let l = place-behind ms fs s2 inside way w in let z = whole-stmt-count s (at_loop (inner hp) None) n body in omega (arith, l, z, begins) in
    let wb : Body = in_body way.body (put way.body.function (label [])) in
    let more = small-is next wb again far in
    let behind_it : Body = gen_small next wb in
    let m3 : List Mark = small_code next (inner s2) again in
    let is3 : behind_it.function ≡ written way.body.function (label [] ∷ m3) = more.function ∙ ap (λ x. written wb.function (small_code next (inner x) again)) w.spot in
    let s3 : Spot = behind_small next s2 in
    let spot3 : spot_of behind_it ≡ s3 = more.spot ∙ ap (behind_small next) w.spot in
    let size3 : ℕ = maybe_small_size (types_in hp.scope) next in
    let end : ℕ = again + size3 + 1 in
    let far3 : length behind_it.function.code + 1 ≡ end = let l = place-is way.body.function behind_it.function (label [] ∷ m3) again size3 is3 far (small-count next (inner s2) again) in omega (arith, l) in
    let w3 = loop-went ms (label [] ∷ m3) fs s2 s3 u2 way behind_it at (length head.function.code) (place_in way) (length before.code) end w is3 more.leaps spot3 refl far3 in
    let v : Unfinished = with_body way (loop_closed behind_it at (length head.function.code) (place_in way) (length before.code) head.leaps) in
    let tail : ℕ → ℕ → Option Loop → List Mark = λ x y o. does (JumpUnless end) at ∷ (ms (Some (loop_to y end)) ++ ((label [] ∷ m3) ++ (does (Jump x) at ∷ label [] ∷ []))) in
    let here : Option Loop → List Mark = tail (length head.function.code) (place_in way) in
    let all = went-then (λ o. m0) (λ o. m1 ++ (m2 ++ here o)) [] fs hp s3 u u0 v w0 (went-then (λ o. m1) (λ o. m2 ++ here o) [] fs hp s3 u0 u1 v w1 (went-then (λ o. m2) here [] fs hp s3 u1 u2 v w2 w3)) in
    let further = further-then sp hp s3 (small_slots first) (slots s + small_slots next) (small-further first sp) (further-then hp s2 s3 (slots s) (small_slots next) (further-slots hp (slots s)) (small-further next s2)) in
    let done = went-left (λ o. m0 ++ (m1 ++ (m2 ++ here o))) fs s3 (small_slots first + (slots s + small_slots next)) u v all further in
    let whole : Unfinished = gen_stmt (stmt at (for first c next s)) u in
    let body_of : Known → ℕ = λ kn. top + 1 + condition_size (look kn) c + 1 in
    let again_of : Known → ℕ = λ kn. body_of kn + stmt_size s kn in
    let said : List Mark → Spot → Known → List Mark → List Mark = λ f x kn z.
    f ++ (m1 ++ (condition_code c at x.scope (top + 1) ++ (does (JumpUnless (again_of kn + maybe_small_size (look kn) next + 1)) at
    ∷ (stmt_code s (in_loop x (again_of kn) (again_of kn + maybe_small_size (look kn) next + 1)) n (body_of kn) ++ (label [] ∷ (z ++ (does (Jump top) at ∷ label [] ∷ []))))))) in
    let y : Spot = behind_small first (inner sp) in
    let next_code : Spot → Known → List Mark = λ x kn. small_code next (behind_slots x (slots s)) (again_of kn) in
    let turned : inner hp ≡ y = sym (small-inner first sp) in
    went-as (λ o. m0 ++ (m1 ++ (m2 ++ here o))) (λ o. stmt_code (stmt at (for first c next s)) (at_loop sp o) n p) fs (par_functions (stmt at (for first c next s)) sp n)
    (behind_slots sp (small_slots first + (slots s + small_slots next))) (behind_slots sp (slots (stmt at (for first c next s)))) u whole
    (λ o. ap₂ (λ a b. m0 ++ (m1 ++ (m2 ++ tail a b o))) place0 far
    ∙ ap (λ kn. said m0 (inner hp) kn (next_code (inner hp) kn)) known_there
    ∙ ap (λ x. said m0 x k (next_code x k)) turned
    ∙ ap₂ (λ f z. said f (at_loop y o) k z) (sym (small-apart first (inner sp) o p)) (sym (small-apart next (behind_slots y (slots s)) o (again_of k)))
    ∙ ap (λ x. said (small_code first (inner (at_loop sp o)) p) x k (next_code x k)) (sym (small-loop first (inner sp) o)))
    (ap (λ x. par_functions s x n) turned)
    (ap (behind_slots sp) (let z : small_slots first + (slots s + small_slots next) ≡ small_slots first + (small_slots next + slots s) = omega arith in z)) done

abbrev pub list-spot : Spot → ℕ → Spot
list-spot sp n = record sp { next = n }

pub each-went : (t : Ty) (x : List ℕ) (e : Tree) (s : StmtTree) (at : At) (u : Unfinished) → ((v : Unfinished) → StmtWent s (entered v)) → StmtWent (stmt at (each t x e s)) u
unfolding gen_stmt gen_stmt_form before_of each_begun each_opened each_ended
each-went t x e s at u ih =
    let sp : Spot = spot_of u.body in
    let n : ℕ = next_number u in
    let p : ℕ = place_in u in
    let es : List Mark = expr_code e sp.scope p [] in
    let listed : Function = gen e sp.scope [] u.body.function in
    let u0 : Unfinished = with_function u listed in
    let is0 = gen-is e sp.scope [] u.body.function p [] refl refl in
    let w0 = went-function u listed es sp is0 (expr-no-slots e sp.scope p []) refl in
    let q : ℕ = p + expr_size (types_in sp.scope) e in
    let place0 = gen-place e sp.scope [] u.body.function p [] refl refl in
    let list : ℕ = slots_of listed in
    let same : list ≡ sp.next = same-slots u.body.function listed es is0 (expr-no-slots e sp.scope p []) in
    let m1 : ℕ → List Mark = λ l. slot (ty.List t) ∷ does (Store l) at ∷ does (PushInt (pos 0)) at ∷ slot ty.Int ∷ does (Store (l + 1)) at ∷ [] in
    let m2 : ℕ → List Mark = λ l. label [] ∷ does Tick at ∷ does (Load (l + 1)) at ∷ does (Load l) at ∷ does (CallMethod LIST_SIZE) at ∷ does Less at ∷ [] in
    let m3 : ℕ → ℕ → List Mark = λ l i. does (Load l) at ∷ does (Load (l + 1)) at ∷ does Item at ∷ slot t ∷ does (Store i) at ∷ [] in
    let m4 : ℕ → List Mark = λ l. label [] ∷ does (PushInt (pos 1)) at ∷ does (Update false (l + 1) [] ADD) at ∷ [] in
    let begun_list : Function = list_begun listed at t in
    let before : Function = list_tested begun_list at list (list + 1) in
    let is1 : before ≡ written listed (m1 list ++ m2 list) = sym (written-append (m1 list) (m2 list) listed) in
    let next2 : slots_of before ≡ sp.next + 2 = let l = slots-written (m1 list ++ m2 list) listed in omega (arith, l, same) in
    let s1 : Spot = behind_slots sp 2 in
    let u1 : Unfinished = with_body u0 (in_body u0.body before) in
    let w1 = went-body u0 (in_body u0.body before) (m1 list ++ m2 list) s1 is1 refl (ap (list-spot sp) next2) in
    let top : ℕ = q + 3 in
    let place1 : length begun_list.code ≡ top = place-is listed begun_list (m1 list) q 3 refl place0 refl in
    let place2 : length before.code ≡ top + 5 = place-is begun_list before (m2 list) top 5 refl place1 refl in
    let t1 : Unfinished = in_new_loop (with_function u1 (tested before at)) in
    let inside : Unfinished = in_new_loop (with_body u (list_own (in_body u.body listed) at t x)) in
    let item : Function = list_item (tested before at) at list (list + 1) in
    let m0 : List Mark = does (Load list) at ∷ does (Load (list + 1)) at ∷ does Item at ∷ [] in
    let own : Spot = declared_local s1 x t in
    let spot1 : spot_of inside.body ≡ own = local-spot t1.body item m0 at x t refl refl ∙ ap (λ k. declared_local (list-spot sp k) x t) next2 in
    let i : ℕ = slots_of item in
    let w2 = went-body t1 inside.body (m3 list i) own refl refl spot1 in
    let far2 : place_in inside ≡ top + 10 =
    let r = test-place before at (top + 5) (top + 6) place2 (let z : top + 5 + 1 ≡ top + 6 = omega arith in z) in
    let l = place-is (tested before at) inside.body.function (m3 list i) (top + 6) 4 refl r refl in omega (arith, l) in
    let body : ℕ = top + 10 in
    let way : Unfinished = left inside (gen_stmt s (entered inside)) in
    let ms : Option Loop → List Mark = λ o. stmt_code s (at_loop (inner own) o) n body in
    let fs : List Function = par_functions s (inner own) n in
    let s2 : Spot = behind_slots own (slots s) in
    let w3 = inner-went s inside own n body spot1 refl far2 (ih inside) in
    let w23 = went-then (λ o. m3 list i) ms [] fs own s2 t1 inside way w2 w3 in
    let again : ℕ = body + stmt_size s (known own.scope) in
    let far : place_in way ≡ again = let l = place-behind ms fs s2 inside way w3 in let k = whole-stmt-count s (inner own) n body in omega (arith, l, k, far2) in
    let b : Body = in_body way.body (list_counted way.body.function at (list + 1)) in
    let end : ℕ = again + 3 in
    let far4 : length b.function.code + 1 ≡ end = let l = place-is way.body.function b.function (m4 list) again 2 refl far refl in omega (arith, l) in
    let w4 = loop-went (λ o. m3 list i ++ ms o) (m4 list) fs s2 s2 u1 way b at (length begun_list.code + 0) (place_in way + 0) (length before.code) end w23 refl refl w3.spot refl far4 in
    let v : Unfinished = with_body way (loop_closed b at (length begun_list.code + 0) (place_in way + 0) (length before.code) u.body.leaps) in
    let said : ℕ → ℕ → ℕ → ℕ → List Mark = λ l k a j.
    es ++ (m1 l ++ (m2 l ++ (does (JumpUnless end) at ∷ (m3 l k ++ (stmt_code s (in_loop own a end) n body ++ (m4 l ++ (does (Jump j) at ∷ label [] ∷ []))))))) in
    let here : Option Loop → List Mark = λ o. does (JumpUnless end) at ∷ ((m3 list i ++ ms (Some (loop_to (place_in way + 0) end))) ++ (m4 list ++ (does (Jump (length begun_list.code + 0)) at ∷ label [] ∷ []))) in
    let all = went-then (λ o. es) (λ o. (m1 list ++ m2 list) ++ here o) [] fs sp s2 u u0 v w0 (went-then (λ o. m1 list ++ m2 list) here [] fs s1 s2 u0 u1 v w1 w4) in
    let further = further-then sp own s2 3 (slots s) (further-then sp s1 own 2 1 (further-slots sp 2) (local-further s1 x t)) (further-slots own (slots s)) in
    let done = went-left (λ o. es ++ ((m1 list ++ m2 list) ++ here o)) fs s2 (3 + slots s) u v all further in
    let whole : Unfinished = gen_stmt (stmt at (each t x e s)) u in
    let item_slot : i ≡ sp.next + 2 = next2 in
    let e_again : place_in way + 0 ≡ again = omega (arith, far) in
    let e_top : length begun_list.code + 0 ≡ top = omega (arith, place1) in
    went-as (λ o. es ++ ((m1 list ++ m2 list) ++ here o)) (λ o. stmt_code (stmt at (each t x e s)) (at_loop sp o) n p) fs fs
    (behind_slots sp (3 + slots s)) (behind_slots sp (slots (stmt at (each t x e s)))) u whole
    (λ o. ap₂ (λ l k. said l k (place_in way + 0) (length begun_list.code + 0)) same item_slot ∙ ap₂ (λ a j. said sp.next (sp.next + 2) a j) e_again e_top)
    refl (ap (behind_slots sp) (let z : 3 + slots s ≡ slots s + 3 = omega arith in z)) done
