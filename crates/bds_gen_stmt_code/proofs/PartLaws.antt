-- Places, calls and parts of a `for`: what is written in order is what their marks write.
use Rattle.std.proofs.Common.{◌≡◌, ◌+◌, ℕ, pos, Bool, true, false, not, Option, Some, None, List, [], ◌∷◌, ◌++◌, length, reverse, refl, ◌∙◌, ap, ap₂, arith, if◌then◌else◌}
use Rattle.bds_value.specs.Methods.{signature_of}
use Rattle.bds_value.specs.declared.change_numbers.TheConstants.{ASSIGN}
use Rattle.bds_value.specs.declared.methods.Method.{Method}
use Rattle.bds_value.specs.declared.methods.Method.TheVariants as by
use Rattle.bds_value.specs.declared.value.At.{At}
use Rattle.bds_value.specs.declared.value.Ty.{Ty}
use Rattle.bds_tree.specs.Tree.{Tree, FormTree, Trees, node, item, key, method, type_of}
use Rattle.bds_tree.specs.StmtTree.{SuffixTree, at_index, at_key, PlaceTree, StepTree, SmallFormTree, small_declare, small_infer, small_assign, small_update, small_step, small_call, SmallTree}
use Rattle.bds_code.specs.UpdateRows.{step_ty}
use Rattle.bds_code.specs.declared.instr.Instr.TheVariants.{PushInt, PushDefault, Drop, Store}
use Rattle.bds_code.specs.declared.unit.Function.{Function}
use Rattle.bds_check_names.specs.Types.{is_known}
use Rattle.bds_check_rules.specs.StmtBreaks.{stepped}
use Rattle.bds_check_rules.specs.Typing.{count as tree_count}
use Rattle.bds_check_size.specs.StmtSize.{suffix_size, suffixes_size, steps_size}
use Rattle.bds_gen_expr.specs.declared.scope.Scope.{Scope}
use Rattle.bds_gen_expr.specs.ExprCode.{expr_code, trees_code}
use Rattle.bds_gen_expr.specs.Gen.{act, gen, gen_all}
use Rattle.bds_gen_expr.specs.Marks.{Mark, does, slot, one, slot_count, written}
use Rattle.bds_gen_expr.specs.Scope.{types_in, with_slot}
use Rattle.bds_gen_expr.proofs.GenLaws.{gen-is, all-is, longer}
use Rattle.bds_gen_stmt.specs.PlaceCode.{kind_of, suffix_code, suffixes_code, steps_below, changes_place, kinds_of, change_number, step_number, step_op_of, step_code, steps_code, form_steps_code, steps_of, variable_of, dropped_code, changed_code, call_code, small_form_code, small_code, behind_small_form, behind_small}
use Rattle.bds_gen_stmt.specs.Spots.{Spot, inner, declared_local}
use Rattle.bds_gen_stmt.proofs.ActCounts.{suffix-count, suffixes-count, steps-count}
use Rattle.bds_gen_stmt.proofs.StmtCounts.{expr-no-slots}
use Rattle.bds_gen_stmt.proofs.WholeSlots.{small-slots}
use Rattle.bds_gen_stmt_code.specs.Bodies.{slots_of, spot_of, in_body, with_local}
use Rattle.bds_gen_stmt_code.specs.GenParts.{steps_above, gen_suffix, gen_suffixes, gen_step, gen_change, gen_steps, gen_form_steps, gen_dropped, gen_changed, gen_call, gen_small_form, gen_small}
use Rattle.bds_gen_stmt_code.specs.declared.body.Body.{Body}
use Rattle.bds_gen_stmt_code.proofs.Then.{then_is, place-is}
use Rattle.bds_gen_stmt_code.proofs.Went.{slots-written, same-slots, same-spot}

pub reverse-above : (ks : List Bool) (s : List Ty) → reverse (steps_above ks s) ≡ steps_below ks (reverse s)
reverse-above [] s = refl
reverse-above (k ∷ ks) s = reverse-above ks (s ++ step_ty k ∷ []) ∙ ap (steps_below ks) (longer s (step_ty k))

-- Places

suffix-is : (x : SuffixTree) (sc : Scope) (shape : List Ty) (g : Function) (p : ℕ) (s : List Ty) → length g.code ≡ p → reverse shape ≡ s → gen_suffix x sc shape g ≡ written g (suffix_code x sc p s)
suffix-is (at_index e) sc shape g p s h r = gen-is e sc shape g p s h r
suffix-is (at_key e) sc shape g p s h r = gen-is e sc shape g p s h r

pub suffixes-are : (xs : List SuffixTree) (sc : Scope) (shape : List Ty) (g : Function) (p : ℕ) (s : List Ty) → length g.code ≡ p → reverse shape ≡ s → gen_suffixes xs sc shape g ≡ written g (suffixes_code xs sc p s)
suffixes-are [] sc shape g p s h r = refl
suffixes-are (x ∷ xs) sc shape g p s h r =
    let first = suffix-is x sc shape g p s h r in
    let q : ℕ = p + suffix_size (types_in sc) x in
    let f : Function = gen_suffix x sc shape g in
    let place = place-is g f (suffix_code x sc p s) p (suffix_size (types_in sc) x) first h (suffix-count x sc p s) in
    let rest = suffixes-are xs sc (shape ++ step_ty (kind_of x) ∷ []) f q (step_ty (kind_of x) ∷ s) place (longer shape (step_ty (kind_of x)) ∙ ap (λ l. step_ty (kind_of x) ∷ l) r) in
    then_is g f (gen_suffixes xs sc (shape ++ step_ty (kind_of x) ∷ []) f) (suffix_code x sc p s) (suffixes_code xs sc q (step_ty (kind_of x) ∷ s)) first rest

pub step-is : (x : StepTree) (at : At) (sc : Scope) (g : Function) (p : ℕ) → length g.code ≡ p → gen_step x at sc g ≡ written g (step_code x at sc p)
step-is x at sc g p h =
    then_is g (gen_suffixes (stepped x).suffixes sc [] g) (gen_step x at sc g) (suffixes_code (stepped x).suffixes sc p [])
    (does (PushInt (pos 1)) at ∷ changes_place sc at (stepped x).name (kinds_of (stepped x)) (step_number (step_op_of x))) (suffixes-are (stepped x).suffixes sc [] g p [] h refl) refl

pub change-is : (q : PlaceTree) (what : ℕ) (e : Tree) (at : At) (sc : Scope) (g : Function) (p : ℕ) → length g.code ≡ p
    → gen_change q what e at sc g ≡ written g (suffixes_code q.suffixes sc p [] ++ (expr_code e sc (p + suffixes_size (types_in sc) q.suffixes) (steps_below (kinds_of q) []) ++ changes_place sc at q.name (kinds_of q) what))
change-is q what e at sc g p h =
    let f : Function = gen_suffixes q.suffixes sc [] g in
    let z : ℕ = p + suffixes_size (types_in sc) q.suffixes in
    let first = suffixes-are q.suffixes sc [] g p [] h refl in
    let place = place-is g f (suffixes_code q.suffixes sc p []) p (suffixes_size (types_in sc) q.suffixes) first h (suffixes-count q.suffixes sc p []) in
    let value : Function = gen e sc (steps_above (kinds_of q) []) f in
    let second = gen-is e sc (steps_above (kinds_of q) []) f z (steps_below (kinds_of q) []) place (reverse-above (kinds_of q) []) in
    then_is g f (gen_change q what e at sc g) (suffixes_code q.suffixes sc p []) (expr_code e sc z (steps_below (kinds_of q) []) ++ changes_place sc at q.name (kinds_of q) what) first
    (then_is f value (gen_change q what e at sc g) (expr_code e sc z (steps_below (kinds_of q) [])) (changes_place sc at q.name (kinds_of q) what) second refl)

-- Calls

further-is : (a i : Tree) (sc : Scope) (shape : List Ty) (g : Function) (p : ℕ) (s : List Ty) → length g.code ≡ p → reverse shape ≡ s → gen_steps a sc shape g ≡ written g (steps_code a sc p s)
    → gen i sc (steps_above (steps_of a) shape) (gen_steps a sc shape g) ≡ written g (steps_code a sc p s ++ expr_code i sc (p + steps_size (types_in sc) a) (steps_below (steps_of a) s))
further-is a i sc shape g p s h r first =
    let f : Function = gen_steps a sc shape g in
    let q : ℕ = p + steps_size (types_in sc) a in
    let place = place-is g f (steps_code a sc p s) p (steps_size (types_in sc) a) first h (steps-count a sc p s) in
    then_is g f (gen i sc (steps_above (steps_of a) shape) f) (steps_code a sc p s) (expr_code i sc q (steps_below (steps_of a) s)) first
    (gen-is i sc (steps_above (steps_of a) shape) f q (steps_below (steps_of a) s) place (reverse-above (steps_of a) shape ∙ ap (steps_below (steps_of a)) r))

mutual
  pub steps-are : (e : Tree) (sc : Scope) (shape : List Ty) (g : Function) (p : ℕ) (s : List Ty) → length g.code ≡ p → reverse shape ≡ s → gen_steps e sc shape g ≡ written g (steps_code e sc p s)
  steps-are (node at t f) sc shape g p s h r = form-steps-are f sc shape g p s h r

  form-steps-are : (f : FormTree) (sc : Scope) (shape : List Ty) (g : Function) (p : ℕ) (s : List Ty) → length g.code ≡ p → reverse shape ≡ s → gen_form_steps f sc shape g ≡ written g (form_steps_code f sc p s)
  form-steps-are (item a i) sc shape g p s h r = further-is a i sc shape g p s h r (steps-are a sc shape g p s h r)
  form-steps-are (key a i) sc shape g p s h r = further-is a i sc shape g p s h r (steps-are a sc shape g p s h r)
  form-steps-are _ sc shape g p s h r = refl

dropped-is : (e : Tree) (at : At) (sc : Scope) (g : Function) (p : ℕ) → length g.code ≡ p → gen_dropped e at sc g ≡ written g (dropped_code e at sc p)
dropped-is e at sc g p h = by (is_known (type_of e))
  where
    first : gen e sc [] g ≡ written g (expr_code e sc p [])
    first = gen-is e sc [] g p [] h refl

    by : (b : Bool) → (if b then act (gen e sc [] g) at Drop else gen e sc [] g) ≡ written g (expr_code e sc p [] ++ (if not b then [] else one at Drop))
    by true = then_is g (gen e sc [] g) (act (gen e sc [] g) at Drop) (expr_code e sc p []) (one at Drop) first refl
    by false = then_is g (gen e sc [] g) (gen e sc [] g) (expr_code e sc p []) [] first refl

changed-is : (m : Option Method) (e a : Tree) (es : Trees) (at : At) (sc : Scope) (g : Function) (p : ℕ) → length g.code ≡ p → gen_changed m e a es at sc g ≡ written g (changed_code m e a es at sc p)
changed-is (Some (by.Change n)) e a es at sc g p h =
    let first = steps-are a sc [] g p [] h refl in
    let f : Function = gen_steps a sc [] g in
    let q : ℕ = p + steps_size (types_in sc) a in
    let place = place-is g f (steps_code a sc p []) p (steps_size (types_in sc) a) first h (steps-count a sc p []) in
    let args : Function = gen_all es sc (steps_above (steps_of a) []) f in
    let second = all-is es sc (steps_above (steps_of a) []) f q (steps_below (steps_of a) []) place (reverse-above (steps_of a) []) in
    then_is g f (gen_changed (Some (by.Change n)) e a es at sc g) (steps_code a sc p []) (trees_code es sc q (steps_below (steps_of a) []) ++ changes_place sc at (variable_of a) (steps_of a) n) first
    (then_is f args (gen_changed (Some (by.Change n)) e a es at sc g) (trees_code es sc q (steps_below (steps_of a) [])) (changes_place sc at (variable_of a) (steps_of a) n) second refl)
changed-is (Some (by.Plain n)) e a es at sc g p h = dropped-is e at sc g p h
changed-is (Some (by.File n)) e a es at sc g p h = dropped-is e at sc g p h
changed-is None e a es at sc g p h = dropped-is e at sc g p h

pub call-is : (e : Tree) (at : At) (sc : Scope) (g : Function) (p : ℕ) → length g.code ≡ p → gen_call e at sc g ≡ written g (call_code e at sc p)
call-is (node place t (method a m es)) at sc g p h = changed-is (signature_of (type_of a) m (tree_count es)) (node place t (method a m es)) a es at sc g p h
call-is (node place t f) at sc g p h = dropped-is (node place t f) at sc g p h

-- Locals

pub local-is : (b : Body) (g : Function) (ms : List Mark) (at : At) (x : List ℕ) (t : Ty) → g ≡ written b.function ms → slot_count ms ≡ 0
    → (with_local (in_body b g) at x t).function ≡ written b.function (ms ++ (slot t ∷ does (Store (slots_of b.function)) at ∷ []))
local-is b g ms at x t e h =
    ap (λ n. written g (slot t ∷ does (Store n) at ∷ [])) (same-slots b.function g ms e h)
    ∙ then_is b.function g (written g (slot t ∷ does (Store (slots_of b.function)) at ∷ [])) ms (slot t ∷ does (Store (slots_of b.function)) at ∷ []) e refl

abbrev spot-here : Spot → List ℕ → Ty → ℕ → ℕ → Spot
spot-here sp x t n k = record sp { scope = with_slot sp.scope x t n; next = k }

pub local-spot : (b : Body) (g : Function) (ms : List Mark) (at : At) (x : List ℕ) (t : Ty) → g ≡ written b.function ms → slot_count ms ≡ 0
    → spot_of (with_local (in_body b g) at x t) ≡ declared_local (spot_of b) x t
local-spot b g ms at x t e h =
    let same = same-slots b.function g ms e h in
    let l = slots-written (slot t ∷ does (Store (slots_of g)) at ∷ []) g in
    ap₂ (λ n k. spot-here (spot_of b) x t n k) same (omega (arith, l, same))

-- Parts of a `for`

pub record SmallIs (x : Option SmallTree) (b : Body) (p : ℕ) : Type 0 where
  pub function : (gen_small x b).function ≡ written b.function (small_code x (inner (spot_of b)) p)
  pub spot : spot_of (gen_small x b) ≡ behind_small x (spot_of b)
  pub leaps : (gen_small x b).leaps ≡ b.leaps

small-form-is : (x : SmallFormTree) (at : At) (b : Body) (p : ℕ) → length b.function.code ≡ p → (gen_small_form x at b).function ≡ written b.function (small_form_code x at (inner (spot_of b)) p)
small-form-is (small_declare t x None) at b p h = refl
small-form-is (small_declare t x (Some e)) at b p h = local-is b (gen e b.scope [] b.function) (expr_code e b.scope p []) at x t (gen-is e b.scope [] b.function p [] h refl) (expr-no-slots e b.scope p [])
small-form-is (small_infer x e) at b p h = local-is b (gen e b.scope [] b.function) (expr_code e b.scope p []) at x (type_of e) (gen-is e b.scope [] b.function p [] h refl) (expr-no-slots e b.scope p [])
small-form-is (small_assign q e) at b p h = change-is q ASSIGN e at b.scope b.function p h
small-form-is (small_update q o e) at b p h = change-is q (change_number o) e at b.scope b.function p h
small-form-is (small_step x) at b p h = step-is x at b.scope b.function p h
small-form-is (small_call e) at b p h = call-is e at b.scope b.function p h

abbrev small_at : At → SmallFormTree → SmallTree
small_at at f = record { at = at; form = f }

value-is : (x : List ℕ) (t : Ty) (e : Tree) (at : At) (b : Body) → spot_of (with_local (in_body b (gen e b.scope [] b.function)) at x t) ≡ declared_local (spot_of b) x t
value-is x t e at b =
    let p : ℕ = length b.function.code in
    local-spot b (gen e b.scope [] b.function) (expr_code e b.scope p []) at x t (gen-is e b.scope [] b.function p [] refl refl) (expr-no-slots e b.scope p [])

small-form-spot : (x : SmallFormTree) (at : At) (b : Body) → spot_of (gen_small_form x at b) ≡ behind_small_form x (spot_of b)
small-form-spot (small_declare t x None) at b = local-spot b (act b.function at (PushDefault t)) (one at (PushDefault t)) at x t refl refl
small-form-spot (small_declare t x (Some e)) at b = value-is x t e at b
small-form-spot (small_infer x e) at b = value-is x (type_of e) e at b
small-form-spot (small_assign q e) at b =
    let p : ℕ = length b.function.code in
    let is = change-is q ASSIGN e at b.scope b.function p refl in
    same-spot b (gen_change q ASSIGN e at b.scope b.function) (small_form_code (small_assign q e) at (inner (spot_of b)) p) is (small-slots (Some (small_at at (small_assign q e))) (inner (spot_of b)) p refl)
small-form-spot (small_update q o e) at b =
    let p : ℕ = length b.function.code in
    let is = change-is q (change_number o) e at b.scope b.function p refl in
    same-spot b (gen_change q (change_number o) e at b.scope b.function) (small_form_code (small_update q o e) at (inner (spot_of b)) p) is (small-slots (Some (small_at at (small_update q o e))) (inner (spot_of b)) p refl)
small-form-spot (small_step x) at b =
    let p : ℕ = length b.function.code in
    same-spot b (gen_step x at b.scope b.function) (step_code x at b.scope p) (step-is x at b.scope b.function p refl) (small-slots (Some (small_at at (small_step x))) (inner (spot_of b)) p refl)
small-form-spot (small_call e) at b =
    let p : ℕ = length b.function.code in
    same-spot b (gen_call e at b.scope b.function) (call_code e at b.scope p) (call-is e at b.scope b.function p refl) (small-slots (Some (small_at at (small_call e))) (inner (spot_of b)) p refl)

small-form-leaps : (x : SmallFormTree) (at : At) (b : Body) → (gen_small_form x at b).leaps ≡ b.leaps
small-form-leaps (small_declare t x None) at b = refl
small-form-leaps (small_declare t x (Some e)) at b = refl
small-form-leaps (small_infer x e) at b = refl
small-form-leaps (small_assign q e) at b = refl
small-form-leaps (small_update q o e) at b = refl
small-form-leaps (small_step x) at b = refl
small-form-leaps (small_call e) at b = refl

pub small-is : (x : Option SmallTree) (b : Body) (p : ℕ) → length b.function.code ≡ p → SmallIs x b p
small-is None b p h = record { function = refl; spot = refl; leaps = refl }
small-is (Some x) b p h = record { function = small-form-is x.form x.at b p h; spot = small-form-spot x.form x.at b; leaps = small-form-leaps x.form x.at b }
