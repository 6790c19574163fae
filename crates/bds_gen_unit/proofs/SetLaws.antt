-- Lines whose global words set: what is on the right is written into another function, of which only the functions of `par` blocks stay.
use Rattle.std.proofs.Common.{◌≡◌, ◌+◌, ℕ, Bool, true, false, Option, Some, None, List, [], ◌∷◌, ◌++◌, length, length-append, if◌then◌else◌, refl, sym, ap, ◌∙◌, arith}
use Rattle.bds_value.specs.declared.value.At.{At}
use Rattle.bds_value.specs.declared.value.Ty.{Ty}
use Rattle.bds_value.specs.declared.value.Value.{Value, out-Value}
use Rattle.bds_value.specs.declared.value.Value.TheOpen.{Value-F}
use Rattle.bds_code.specs.declared.instr.Instr.{Instr}
use Rattle.bds_code.specs.declared.instr.Instr.TheVariants.{MakeList, Store, StoreGlobal}
use Rattle.bds_code.specs.declared.unit.Function.{Function}
use Rattle.bds_tree.specs.declared.stmt.Block.{Block, out-Block, fold_out-Block}
use Rattle.bds_tree.specs.declared.stmt.Stmt.{Stmt, fold_out-Stmt}
use Rattle.bds_tree.specs.StmtView.{act_form_step, line_step, right_step, stmt_form_step, act_step, block_step, stmt_step, stmt_of, block_of, case_step}
use Rattle.bds_tree.specs.StmtTree.{StmtTree, StmtFormTree, LineTree, RightTree, ActTree, ActFormTree, BlockTree, stmt, line, for, declare, infer, right_expr, right_act, act as an_act, sys, task, dep, goal, par_call, par_block, no_right, a_right, CaseTree}
use Rattle.bds_check_rules.specs.StmtBreaks.{right_type}
use Rattle.bds_check_size.specs.ScriptSize.{Settings, set_for, declared_type}
use Rattle.bds_gen_expr.specs.Gen.{act}
use Rattle.bds_gen_expr.specs.Marks.{Mark, does, label, slot, one, put, written, slot_count}
use Rattle.bds_gen_expr.specs.Scope.{with_one_global}
use Rattle.bds_gen_expr.proofs.Written.{written-append, params-is}
use Rattle.bds_gen_stmt.specs.FunctionCode.{at_of_block, par_functions, right_par_functions}
use Rattle.bds_gen_stmt.specs.Spots.{Spot, declared_local}
use Rattle.bds_gen_stmt.specs.StmtCode.{behind as spot_behind}
use Rattle.bds_gen_stmt.specs.UnitCode.{items_code, value_code_at, value_code, line_or_value_code}
use Rattle.bds_gen_stmt.proofs.StmtCounts.{no_slots}
use Rattle.bds_gen_stmt_code.specs.Bodies.{spot_of, slots_of, next_number, place_in, with_function}
use Rattle.bds_gen_stmt_code.specs.Written.{StmtWritten}
use Rattle.bds_gen_stmt_code.specs.declared.body.Unfinished.{Unfinished}
use Rattle.bds_gen_unit.specs.Tops.{SetWritten, TopWritten, at_of, names_global, set_in}

line-names : (ss : Settings) (at : At) (l : LineTree) (v : Value) → set_for ss l ≡ Some v → names_global (stmt at (line l)) ≡ true
line-names ss at (declare t x r) v e = refl
line-names ss at (infer x r) v e = refl
line-names ss at _ v e = absurd (cc)

pub set-names : (ss : Settings) (s : StmtTree) (v : Value) → set_in ss s ≡ Some v → names_global s ≡ true
set-names ss (stmt at (line l)) v e = line-names ss at l v e
set-names ss (stmt at _) v e = absurd (cc)

-- In another function another slot is next

abbrev with-next : Spot → ℕ → Spot
with-next sp n = record sp { next = n }

right-elsewhere : (r : RightTree) (sp : Spot) (m n : ℕ) → right_par_functions r (with-next sp m) n ≡ right_par_functions r sp n
right-elsewhere (right_expr e) sp m n = refl
right-elsewhere (right_act (an_act at (sys ps))) sp m n = refl
right-elsewhere (right_act (an_act at (task o b))) sp m n = refl
right-elsewhere (right_act (an_act at (dep o b))) sp m n = refl
right-elsewhere (right_act (an_act at (goal e))) sp m n = refl
right-elsewhere (right_act (an_act at (par_call f es))) sp m n = refl
right-elsewhere (right_act (an_act at (par_block b))) sp m n = refl

-- the functions of `par` blocks on the right are the same there
pars-elsewhere : (s : StmtTree) (sp : Spot) (m n : ℕ) → names_global s ≡ true → par_functions s (with-next sp m) n ≡ par_functions s sp n
pars-elsewhere (stmt at (line (declare t x no_right))) sp m n h = refl
pars-elsewhere (stmt at (line (declare t x (a_right r)))) sp m n h = right-elsewhere r sp m n
pars-elsewhere (stmt at (line (infer x r))) sp m n h = right-elsewhere r sp m n
pars-elsewhere (stmt at (line _)) sp m n h = absurd (cc)
pars-elsewhere (stmt at _) sp m n h = absurd (cc)

global-elsewhere : (b : Bool) (sp : Spot) (m : ℕ) (x : List ℕ) (t : Ty) → b ≡ true →
    with-next (if b then record (with-next sp m) { scope = with_one_global sp.scope x t (length sp.scope.globals) } else declared_local (with-next sp m) x t) sp.next
    ≡ (if b then record sp { scope = with_one_global sp.scope x t (length sp.scope.globals) } else declared_local sp x t)
global-elsewhere true sp m x t e = refl
global-elsewhere false sp m x t e = absurd (cc)

-- and behind the line the same is in force but for the slot, since a global needs none
behind-elsewhere : (s : StmtTree) (sp : Spot) (m : ℕ) → sp.at_top ≡ true → names_global s ≡ true → with-next (spot_behind s (with-next sp m)) sp.next ≡ spot_behind s sp
behind-elsewhere (stmt at (line (declare t x r))) sp m e h = global-elsewhere sp.at_top sp m x t e
behind-elsewhere (stmt at (line (infer x r))) sp m e h = global-elsewhere sp.at_top sp m x (right_type r) e
behind-elsewhere (stmt at (line _)) sp m e h = absurd (cc)
behind-elsewhere (stmt at _) sp m e h = absurd (cc)

-- Nor does the value need one

pub locals-many : (ms : List Mark) (f : Function) → length (written f ms).locals ≡ length f.locals + slot_count ms
locals-many [] f = omega arith
locals-many (does i at ∷ ms) f = locals-many ms (put f (does i at))
locals-many (label s ∷ ms) f = locals-many ms (put f (label s))
locals-many (slot t ∷ ms) f =
    let a = length-append f.locals (t ∷ []) in
    let b : length (written f (slot t ∷ ms)).locals ≡ length (f.locals ++ t ∷ []) + slot_count ms = locals-many ms (put f (slot t)) in
    omega (arith, a, b)

items-slots : (at : At) (vs : List Value) → slot_count (items_code at vs) ≡ 0
items-slots at [] = refl
items-slots at (v ∷ vs) = items-slots at vs

value-slots : (at : At) (w : Value-F Value) → slot_count (value_code_at at w) ≡ 0
value-slots at (Value-F.Bool b) = refl
value-slots at (Value-F.Int n) = refl
value-slots at (Value-F.Text t) = refl
value-slots at (Value-F.List t vs) = no_slots (items_code at vs) (one at (MakeList t (length vs))) (items-slots at vs) refl
value-slots at (Value-F.Map t ps) = refl

same-slots : (f : Function) (v : Value) (at : At) (i : Instr) → slots_of (written f (value_code at v ++ one at i)) ≡ slots_of f
same-slots f v at i =
    let ms = value_code at v ++ one at i in
    let none : slot_count ms ≡ 0 = no_slots (value_code at v) (one at i) (value-slots at (out-Value v)) refl in
    let many = locals-many ms f in
    let ps : length (written f ms).params ≡ length f.params = ap length (params-is ms f) in
    omega (arith, none, many, ps)

-- The whole

-- where what is on the right was written into another function
pub set-written : (v : Value) (s : StmtTree) (a t b : Unfinished) (f g h : Function) (at : At) (n : ℕ) → a.body.at_top ≡ true → names_global s ≡ true → t ≡ with_function a t.body.function → StmtWritten s t b
    → f ≡ a.body.function → at ≡ at_of s → n ≡ length a.body.scope.globals → g ≡ written f (value_code at v) → h ≡ act g at (StoreGlobal n) → SetWritten v s a (with_function b h)
set-written v s a t b f g h at n top names et w ef ea en eg eh =
    let sp = spot_of a.body in
    let m = slots_of t.body.function in
    let set = value_code (at_of s) v in
    let function : h ≡ written a.body.function (set ++ one (at_of s) (StoreGlobal (length a.body.scope.globals))) =
    eh ∙ ap (λ k. act g at (StoreGlobal k)) en ∙ ap (λ x. act x at (StoreGlobal (length a.body.scope.globals))) (eg ∙ ap (λ x. written x (value_code at v)) ef)
    ∙ ap (λ x. act (written a.body.function (value_code x v)) x (StoreGlobal (length a.body.scope.globals))) ea
    ∙ sym (written-append set (one (at_of s) (StoreGlobal (length a.body.scope.globals))) a.body.function) in
    let slots : slots_of h ≡ sp.next = ap slots_of function ∙ same-slots a.body.function v (at_of s) (StoreGlobal (length a.body.scope.globals)) in
    let elsewhere : spot_of t.body ≡ with-next sp m = ap (λ (x : Unfinished). spot_of x.body) et in
    let line_behind : spot_of b.body ≡ spot_behind s (with-next sp m) = w.spot ∙ ap (spot_behind s) elsewhere in
    record {
      function = function;
      spot = ap (λ k. with-next (spot_of b.body) k) slots ∙ ap (λ q. with-next q sp.next) line_behind ∙ behind-elsewhere s sp m top names;
      finished = w.finished
          ∙ ap (λ (x : Unfinished). x.finished ++ par_functions s (spot_of x.body) (next_number x)) et
          ∙ ap (λ fs. a.finished ++ fs) (pars-elsewhere s sp m (next_number a) names);
      first = w.first ∙ ap (λ (x : Unfinished). x.first) et;
    }

stored : (b : Bool) (a : Unfinished) (at : At) (t : Ty) → b ≡ true → (if b then one at (StoreGlobal (length a.body.scope.globals)) else slot t ∷ does (Store (slots_of a.body.function)) at ∷ []) ≡ one at (StoreGlobal (length a.body.scope.globals))
stored true a at t e = refl
stored false a at t e = absurd (cc)

line-set : (ss : Settings) (at : At) (l : LineTree) (v : Value) (a c : Unfinished) → a.body.at_top ≡ true → set_for ss l ≡ Some v → SetWritten v (stmt at (line l)) a c → TopWritten ss (stmt at (line l)) a c
line-set ss at l v a c top e w = record {
  function = w.function ∙ ap (λ ms. written a.body.function (value_code at v ++ ms)) (sym (stored a.body.at_top a at (declared_type l) top))
      ∙ ap (λ o. written a.body.function (line_or_value_code o l at (spot_of a.body) (next_number a) (place_in a))) (sym e);
  spot = w.spot;
  finished = w.finished;
  first = w.first;
}

pub top-set : (ss : Settings) (s : StmtTree) (v : Value) (a c : Unfinished) → a.body.at_top ≡ true → set_in ss s ≡ Some v → SetWritten v s a c → TopWritten ss s a c
top-set ss (stmt at (line l)) v a c top e w = line-set ss at l v a c top e w
top-set ss (stmt at _) v a c top e w = absurd (cc)

-- where words set nothing there
pub top-plain : (ss : Settings) (s : StmtTree) (a b : Unfinished) → set_in ss s ≡ None → StmtWritten s a b → TopWritten ss s a b
top-plain ss (stmt at (line l)) a b e w = record {
  function = w.function ∙ ap (λ o. written a.body.function (line_or_value_code o l at (spot_of a.body) (next_number a) (place_in a))) (sym e);
  spot = w.spot;
  finished = w.finished;
  first = w.first;
}
top-plain ss (stmt at _) a b e w = record { function = w.function; spot = w.spot; finished = w.finished; first = w.first }

-- what code sees of a statement, and of a block

pub at_is : (s : Stmt) → s.at ≡ at_of (stmt_of s)
at_is s = sym (ap at_of (fold_out-Stmt ActFormTree LineTree RightTree StmtFormTree ActTree BlockTree CaseTree StmtTree act_form_step line_step right_step stmt_form_step act_step block_step case_step stmt_step s))

pub block_at_is : (b : Block) → (out-Block b).at ≡ at_of_block (block_of b)
block_at_is b = sym (ap at_of_block (fold_out-Block ActFormTree LineTree RightTree StmtFormTree ActTree BlockTree CaseTree StmtTree act_form_step line_step right_step stmt_form_step act_step block_step case_step stmt_step b))
