-- Lines and acts that have no statements within.
use Rattle.std.proofs.Common.{◌≡◌, ◌+◌, ℕ, Bool, true, false, Option, Some, None, List, [], ◌∷◌, ◌++◌, length, length-append, reverse, refl, sym, ◌∙◌, ap, arith, append-nil, if◌then◌else◌}
use Rattle.bds_value.specs.declared.value.At.{At}
use Rattle.bds_value.specs.declared.value.Ty.{Ty}
use Rattle.bds_tree.specs.StmtTree.{LineTree, step, call_line, print, println, error, exit, wait, checkpoint, ActFormTree, sys, task, dep, goal, par_call, act, StepTree, SettingTree}
use Rattle.bds_tree.specs.Tree.{Tree, Trees}
use Rattle.bds_tree.specs.declared.stmt.Body.{Body as AnyCommands}
use Rattle.bds_tree.specs.declared.token.Piece.{Piece}
use Rattle.bds_code.specs.declared.instr.Instr.TheVariants.{PushText, PushDefault, Show, Concat, Jump, Out, Stop, Exit, Sys, Goal, Spawn, Wait, Save, Store, StoreGlobal}
use Rattle.bds_code.specs.declared.unit.Function.{Function}
use Rattle.bds_check_size.specs.StmtSize.{maybe_settings}
use Rattle.bds_gen_expr.specs.ExprCode.{expr_code, files_code, trees_code, pieces_code}
use Rattle.bds_gen_expr.specs.Gen.{act as one_more, patched, gen, gen_all}
use Rattle.bds_gen_expr.specs.Marks.{Mark, does, label, slot, one, slot_count, written}
use Rattle.bds_gen_expr.specs.Scope.{function_number, with_one_global}
use Rattle.bds_gen_expr.proofs.GenLaws.{gen-is, all-is}
use Rattle.bds_gen_expr.proofs.Written.{patched-written, patched-act}
use Rattle.bds_gen_stmt.specs.Spots.{Loop, Spot, declared, declared_local, store_new}
use Rattle.bds_gen_stmt.specs.StmtCode.{leap, line_code, act_form_code}
use Rattle.bds_gen_stmt.proofs.WholeSlots.{line-slots, act-slots}
use Rattle.bds_gen_stmt_code.specs.Bodies.{slots_of, spot_of, place_in, next_number, in_body, with_function, with_body, with_variable}
use Rattle.bds_gen_stmt_code.specs.GenStmts.{leapt, gen_simple, gen_simple_act}
use Rattle.bds_gen_stmt_code.specs.GenTasks.{gen_files}
use Rattle.bds_gen_stmt_code.specs.Leaps.{leap_at}
use Rattle.bds_gen_stmt_code.specs.declared.body.Body.{Body}
use Rattle.bds_gen_stmt_code.specs.declared.body.Unfinished.{Unfinished}
use Rattle.bds_gen_stmt_code.proofs.PartLaws.{step-is, call-is}
use Rattle.bds_gen_stmt_code.proofs.TaskLaws.{files-are, task-is, rule-is}
use Rattle.bds_gen_stmt_code.proofs.Then.{then_is}
use Rattle.bds_gen_stmt_code.proofs.Led.{led_in}
use Rattle.bds_gen_stmt.proofs.Loops.{at_loop}
use Rattle.bds_gen_stmt_code.proofs.Went.{Went, went-body, went-function, slots-written}

no-more : (n k : ℕ) → n ≡ n + k → k ≡ 0
no-more n k e = omega (arith, e)

-- a line that writes marks alone
simple-went : (l : LineTree) (at : At) (u : Unfinished) → gen_simple l at u.body.scope u.body.function ≡ written u.body.function (line_code l at (spot_of u.body) (next_number u) (place_in u))
    → (spot_of u.body).next ≡ (spot_of u.body).next + slot_count (line_code l at (spot_of u.body) (next_number u) (place_in u))
    → Went (λ o. line_code l at (spot_of u.body) (next_number u) (place_in u)) [] (spot_of u.body) u (with_function u (gen_simple l at u.body.scope u.body.function))
simple-went l at u is s =
    went-function u (gen_simple l at u.body.scope u.body.function) (line_code l at (spot_of u.body) (next_number u) (place_in u)) (spot_of u.body) is
    (no-more (spot_of u.body).next (slot_count (line_code l at (spot_of u.body) (next_number u) (place_in u))) s) refl

-- an expression and marks behind it
value-is : (e : Tree) (u : Unfinished) (k : Function) (ms : List Mark) → k ≡ written (gen e u.body.scope [] u.body.function) ms → k ≡ written u.body.function (expr_code e u.body.scope (place_in u) [] ++ ms)
value-is e u k ms h = then_is u.body.function (gen e u.body.scope [] u.body.function) k (expr_code e u.body.scope (place_in u) []) ms (gen-is e u.body.scope [] u.body.function (place_in u) [] refl refl) h

abbrev LineWent : LineTree → At → Unfinished → Type 0
LineWent l at u = Went (λ o. line_code l at (at_loop (spot_of u.body) o) (next_number u) (place_in u)) [] (spot_of u.body) u (with_function u (gen_simple l at u.body.scope u.body.function))

pub step-went : (at : At) (u : Unfinished) (x : StepTree) → LineWent (step x) at u
step-went at u x = simple-went (step x) at u (step-is x at u.body.scope u.body.function (place_in u) refl) (line-slots (step x) at (spot_of u.body) (next_number u) (place_in u))

pub call-went : (at : At) (u : Unfinished) (e : Tree) → LineWent (call_line e) at u
call-went at u e = simple-went (call_line e) at u (call-is e at u.body.scope u.body.function (place_in u) refl) (line-slots (call_line e) at (spot_of u.body) (next_number u) (place_in u))

pub print-went : (at : At) (u : Unfinished) (e : Tree) → LineWent (print e) at u
print-went at u e = simple-went (print e) at u (value-is e u (gen_simple (print e) at u.body.scope u.body.function) (does Show at ∷ does Out at ∷ []) refl) (line-slots (print e) at (spot_of u.body) (next_number u) (place_in u))

pub println-went : (at : At) (u : Unfinished) (e : Option Tree) → LineWent (println e) at u
println-went at u None = simple-went (println None) at u refl (line-slots (println None) at (spot_of u.body) (next_number u) (place_in u))
println-went at u (Some e) =
    simple-went (println (Some e)) at u (value-is e u (gen_simple (println (Some e)) at u.body.scope u.body.function) (does Show at ∷ does (PushText (10 ∷ [])) at ∷ does Concat at ∷ does Out at ∷ []) refl)
    (line-slots (println (Some e)) at (spot_of u.body) (next_number u) (place_in u))

pub error-went : (at : At) (u : Unfinished) (e : Tree) → LineWent (error e) at u
error-went at u e = simple-went (error e) at u (value-is e u (gen_simple (error e) at u.body.scope u.body.function) (does Stop at ∷ label [] ∷ []) refl) (line-slots (error e) at (spot_of u.body) (next_number u) (place_in u))

pub exit-went : (at : At) (u : Unfinished) (e : Tree) → LineWent (exit e) at u
exit-went at u e = simple-went (exit e) at u (value-is e u (gen_simple (exit e) at u.body.scope u.body.function) (does Exit at ∷ label [] ∷ []) refl) (line-slots (exit e) at (spot_of u.body) (next_number u) (place_in u))

pub wait-went : (at : At) (u : Unfinished) (e : Option Tree) → LineWent (wait e) at u
wait-went at u None = simple-went (wait None) at u refl (line-slots (wait None) at (spot_of u.body) (next_number u) (place_in u))
wait-went at u (Some e) =
    simple-went (wait (Some e)) at u
    (then_is u.body.function (gen_files e at u.body.scope [] u.body.function) (gen_simple (wait (Some e)) at u.body.scope u.body.function) (files_code e at u.body.scope (place_in u) []) (one at Wait) (files-are e at u.body.scope [] u.body.function (place_in u) [] refl refl) refl)
    (line-slots (wait (Some e)) at (spot_of u.body) (next_number u) (place_in u))

pub checkpoint-went : (at : At) (u : Unfinished) (e : Option Tree) → LineWent (checkpoint e) at u
checkpoint-went at u None = simple-went (checkpoint None) at u refl (line-slots (checkpoint None) at (spot_of u.body) (next_number u) (place_in u))
checkpoint-went at u (Some e) = simple-went (checkpoint (Some e)) at u (value-is e u (gen_simple (checkpoint (Some e)) at u.body.scope u.body.function) (one at Save) refl) (line-slots (checkpoint (Some e)) at (spot_of u.body) (next_number u) (place_in u))

-- A jump out of a loop, or to where it goes on

unset-jump : (f : Function) (at : At) → patched (written f (does (Jump 0) at ∷ label [] ∷ [])) (length f.code + 0) (Jump 0) ≡ written f (does (Jump 0) at ∷ label [] ∷ [])
unset-jump f at =
    let long = length-append f.code (Jump 0 ∷ []) in
    let here : length f.code + 0 ≡ length f.code = omega arith in
    patched-written (label [] ∷ []) (one_more f at (Jump 0)) (length f.code + 0) (Jump 0) (omega (arith, long))
    ∙ ap (λ g. written g (label [] ∷ [])) (ap (λ k. patched (one_more f at (Jump 0)) k (Jump 0)) here ∙ patched-act f at (Jump 0) (Jump 0))

pub leap-went : (ends : Bool) (to : Loop → ℕ) (at : At) (u : Unfinished) → ((l : Loop) → (if ends then l.end else l.again) ≡ to l)
    → Went (λ o. leap at o to) [] (spot_of u.body) u (with_body u (leapt ends at u.body))
leap-went ends to at u e =
    let f : Function = u.body.function in
    let long = length-append f.code (Jump 0 ∷ []) in
    record {
      new = leap_at (length f.code + 0) ends ∷ [];
      leaps = refl;
      low = (omega arith, tt);
      high = (omega (arith, long), tt);
      rising = (tt, tt);
      unset = to-none ends;
      is = set;
      spot = refl;
      finished = sym (append-nil u.finished);
      first = refl;
    }
  where
    to-none : (b : Bool) → patched (written u.body.function (does (Jump 0) at ∷ label [] ∷ [])) (length u.body.function.code + 0) (Jump (if b then 0 else 0)) ≡ written u.body.function (does (Jump 0) at ∷ label [] ∷ [])
    to-none true = unset-jump u.body.function at
    to-none false = unset-jump u.body.function at

    set : (o : Option Loop) → led_in o (leap_at (length u.body.function.code + 0) ends ∷ []) (written u.body.function (does (Jump 0) at ∷ label [] ∷ [])) ≡ written u.body.function (leap at o to)
    set None = refl
    set (Some l) =
        let f : Function = u.body.function in
        let long = length-append f.code (Jump 0 ∷ []) in
        let there : ℕ = if ends then l.end else l.again in
        let here : length f.code + 0 ≡ length f.code = omega arith in
        patched-written (label [] ∷ []) (one_more f at (Jump 0)) (length f.code + 0) (Jump there) (omega (arith, long))
        ∙ ap (λ g. written g (label [] ∷ [])) (ap (λ k. patched (one_more f at (Jump 0)) k (Jump there)) here ∙ patched-act f at (Jump 0) (Jump there))
        ∙ ap (λ k. written f (does (Jump k) at ∷ label [] ∷ [])) (e l)

-- A new variable

variable-next : (b : Bool) (g i : ℕ) (at : At) (t : Ty) (f : Function) → i ≡ slots_of f → slots_of (written f (if b then one at (StoreGlobal g) else slot t ∷ does (Store i) at ∷ [])) ≡ (if b then i else i + 1)
variable-next true g i at t f e = sym e
variable-next false g i at t f e = let l = slots-written (slot t ∷ does (Store i) at ∷ []) f in omega (arith, l, e)

spot-of-variable : (b : Bool) (sp : Spot) (x : List ℕ) (t : Ty) (n : ℕ) → sp.at_top ≡ b → n ≡ (if b then sp.next else sp.next + 1) → record sp { scope = (declared sp x t).scope; next = n } ≡ declared sp x t
spot-of-variable b sp x t n e h = ap (λ k. record sp { scope = (declared sp x t).scope; next = k }) h ∙ by sp.at_top e
  where
    by : (c : Bool) → c ≡ b
        → record sp { scope = (if c then record sp { scope = with_one_global sp.scope x t (length sp.scope.globals) } else declared_local sp x t).scope; next = (if b then sp.next else sp.next + 1) }
        ≡ (if c then record sp { scope = with_one_global sp.scope x t (length sp.scope.globals) } else declared_local sp x t)
    by true q = ap (λ d. record sp { scope = with_one_global sp.scope x t (length sp.scope.globals); next = (if d then sp.next else sp.next + 1) }) (sym q)
    by false q = ap (λ d. record sp { scope = (declared_local sp x t).scope; next = (if d then sp.next else sp.next + 1) }) (sym q)

variable-spot : (b : Body) (at : At) (x : List ℕ) (t : Ty) → spot_of (with_variable b at x t) ≡ declared (spot_of b) x t
variable-spot b at x t = spot-of-variable b.at_top (spot_of b) x t (slots_of (with_variable b at x t).function) refl (variable-next b.at_top (length b.scope.globals) (slots_of b.function) at t b.function refl)

pub variable-went : (u : Unfinished) (at : At) (x : List ℕ) (t : Ty) (sp : Spot) → spot_of u.body ≡ sp → Went (λ o. store_new sp at t) [] (declared sp x t) u (with_body u (with_variable u.body at x t))
variable-went u at x t sp e =
    went-body u (with_variable u.body at x t) (store_new sp at t) (declared sp x t) (ap (λ s. written u.body.function (store_new s at t)) e) refl (variable-spot u.body at x t ∙ ap (λ s. declared s x t) e)

pub default-went : (u : Unfinished) (at : At) (x : List ℕ) (t : Ty) → Went (λ o. does (PushDefault t) at ∷ store_new (spot_of u.body) at t) [] (declared (spot_of u.body) x t) u (with_body u (with_variable (in_body u.body (one_more u.body.function at (PushDefault t))) at x t))
default-went u at x t =
    went-body u (with_variable (in_body u.body (one_more u.body.function at (PushDefault t))) at x t) (does (PushDefault t) at ∷ store_new (spot_of u.body) at t) (declared (spot_of u.body) x t) refl refl
    (variable-spot (in_body u.body (one_more u.body.function at (PushDefault t))) at x t)

-- Acts but `par` blocks

abbrev ActWent : ActFormTree → At → List Ty → Unfinished → Type 0
ActWent f at s u = Went (λ o. act_form_code f at (at_loop (spot_of u.body) o) (next_number u) (place_in u) (reverse s)) [] (spot_of u.body) u (with_function u (gen_simple_act f at u.body.scope u.body.first s u.body.function))

act-went : (f : ActFormTree) (at : At) (s : List Ty) (u : Unfinished) → gen_simple_act f at u.body.scope u.body.first s u.body.function ≡ written u.body.function (act_form_code f at (spot_of u.body) (next_number u) (place_in u) (reverse s))
    → Went (λ o. act_form_code f at (spot_of u.body) (next_number u) (place_in u) (reverse s)) [] (spot_of u.body) u (with_function u (gen_simple_act f at u.body.scope u.body.first s u.body.function))
act-went f at s u is =
    went-function u (gen_simple_act f at u.body.scope u.body.first s u.body.function) (act_form_code f at (spot_of u.body) (next_number u) (place_in u) (reverse s)) (spot_of u.body) is
    (act-slots (act at f) (spot_of u.body) (next_number u) (place_in u) (reverse s)) refl

pub sys-went : (ps : List Piece) (at : At) (s : List Ty) (u : Unfinished) → ActWent (sys ps) at s u
sys-went ps at s u =
    let f : Function = u.body.function in
    act-went (sys ps) at s u (then_is f (written f (pieces_code u.body.scope at ps)) (one_more (written f (pieces_code u.body.scope at ps)) at Sys) (pieces_code u.body.scope at ps) (one at Sys) refl refl)

pub task-went : (os : Option (List SettingTree)) (b : AnyCommands) (at : At) (s : List Ty) (u : Unfinished) → ActWent (task os b) at s u
task-went os b at s u = act-went (task os b) at s u (task-is (maybe_settings os) b at u.body.scope u.body.first s u.body.function (place_in u) (reverse s) refl refl)

pub dep-went : (os : List SettingTree) (b : AnyCommands) (at : At) (s : List Ty) (u : Unfinished) → ActWent (dep os b) at s u
dep-went os b at s u = act-went (dep os b) at s u (rule-is os b at u.body.scope u.body.first s u.body.function (place_in u) (reverse s) refl refl)

pub goal-went : (e : Tree) (at : At) (s : List Ty) (u : Unfinished) → ActWent (goal e) at s u
goal-went e at s u =
    let f : Function = u.body.function in
    act-went (goal e) at s u (then_is f (gen_files e at u.body.scope s f) (one_more (gen_files e at u.body.scope s f) at Goal) (files_code e at u.body.scope (place_in u) (reverse s)) (one at Goal) (files-are e at u.body.scope s f (place_in u) (reverse s) refl refl) refl)

pub call-act-went : (x : List ℕ) (es : Trees) (at : At) (s : List Ty) (u : Unfinished) → ActWent (par_call x es) at s u
call-act-went x es at s u =
    let f : Function = u.body.function in
    act-went (par_call x es) at s u
    (then_is f (gen_all es u.body.scope s f) (gen_simple_act (par_call x es) at u.body.scope u.body.first s f) (trees_code es u.body.scope (place_in u) (reverse s)) (one at (Spawn (function_number u.body.scope x))) (all-is es u.body.scope s f (place_in u) (reverse s) refl refl) refl)
