-- Rows on whole numbers, one after the other.
use Rattle.std.proofs.Common.{◌≡◌, ◌+◌, ℕ, zero, suc, List, [], ◌∷◌, ◌++◌, length, slice_get, slice_set, nat_le, cond}
use Rattle.std.proofs.Common.{if◌then◌else◌, Bool, true, false, Option, Some, None, Ok, IsSome, refl, ap, ◌∙◌, subst}
use Rattle.std.proofs.Common.{arith, nat_eq, ◌-◌}
use Rattle.std.proofs.lemmas.Grind.{common_steps}
use Rattle.bds_value.specs.declared.value.Value.{Value}
use Rattle.bds_value.specs.declared.value.Value.TheVariants as value
use Rattle.bds_value.specs.Options.{◌>>=◌}
use Rattle.bds_value.specs.Readers.{as_bool, bool_at}
use Rattle.bds_code.specs.declared.instr.Instr.{Instr}
use Rattle.bds_code.specs.declared.instr.Instr.TheVariants.{Load, LoadGlobal, PushInt, PushText, Store, StoreGlobal}
use Rattle.bds_code.specs.declared.instr.Instr.TheVariants.{Update, Jump, JumpUnless, Tick, Add, Sub, Mul, Equal}
use Rattle.bds_code.specs.declared.instr.Instr.TheVariants.{NotEqual, Less, LessEqual, Greater, GreaterEqual}
use Rattle.bds_code.specs.declared.unit.Function.{Function}
use Rattle.bds_code.specs.declared.unit.Unit.{Unit as CodeUnit}
use Rattle.bds_code_frames.specs.Stack.{Call, Stack, beside as found_beside, moved, with_ops, with_place, with_slots}
use Rattle.bds_machine.specs.declared.point.Point.TheVariants.{Spent}
use Rattle.bds_machine.specs.Calls.{Step, On, Leaves, branches, goes, jumps, ticks}
use Rattle.bds_machine_values.specs.Faults.{Outcome, and_then, finishes}
use Rattle.bds_machine_values.specs.Values.{counts}
use Rattle.bds_machine.specs.Looks.{pushes, is_variable, is_operand}
use Rattle.bds_machine_values.specs.Operands.{taken_all}
use Rattle.bds_machine.specs.Running.{rows, further}
use Rattle.bds_machine.specs.Stretches.{computed, is_sink, sunk, with_pushed, IsOf, Runs, Leads, LeadsOn}
use Rattle.bds_machine_values.specs.Worked.{beside}
use Rattle.bds_machine.specs.Table.{onward, row}
use Rattle.bds_machine_values.specs.Updates.{operand_counts, variable, assigned, updated, path_of, value_changed}
use Rattle.bds_machine.proofs.LastLooks.{at_call, behind_push, bound, counted, push_rows, step_at, variable_there}
use Rattle.bds_machine.proofs.Strides.{first_there, one_row}

operand_pushes : (i : Instr) (g : List Value) (s : Stack) (v : Value) → pushes i g s ≡ Some v
    → is_operand (Some i) ≡ true
operand_pushes (Load k) g s v e = refl
operand_pushes (LoadGlobal k) g s v e = refl
operand_pushes (PushInt n) g s v e = refl
operand_pushes (PushText x) g s v e = refl
operand_pushes i g s v e = absurd (cc)

same_pushed : (i : Instr) (g : List Value) (vs : List Value) (place : ℕ) (c : Call) (below : Stack)
    → pushes i g (with_pushed vs place (c ∷ below)) ≡ pushes i g (c ∷ below)
same_pushed (Load k) g vs place c below = refl
same_pushed (LoadGlobal k) g vs place c below = refl
same_pushed (PushInt n) g vs place c below = refl
same_pushed (PushText x) g vs place c below = refl
same_pushed i g vs place c below = refl

taken_none : (c : Call) (below : Stack) → taken_all 0 (c ∷ below) ≡ Some ([], c ∷ below)
taken_none c below =
    let few : nat_le 0 (length c.ops) ≡ true = grind (arith, common_steps) in
    ap (λ b. cond b (Some ([], c ∷ below)) None) few

taken_one : (v : Value) (c : Call) (below : Stack)
    → taken_all 1 (with_ops (v ∷ c.ops) c ∷ below) ≡ Some (v ∷ [], c ∷ below)
taken_one v c below =
    let few : nat_le 1 (length (v ∷ c.ops)) ≡ true = grind (arith, common_steps) in
    ap (λ b. cond b (Some (v ∷ [], c ∷ below)) None) few

-- what becomes of a variable behind the operands of its change
abbrev pub behind_args : Bool → ℕ → ℕ → List Value → Option (List Value × Stack) → Outcome (List Value × Stack)
behind_args scope slot what g o =
    o >>= λ args.
    taken_all 0 args.1 >>= λ steps.
    path_of [] steps.0 >>= λ path.
    variable scope slot g steps.1 >>= λ v.
    and_then (value_changed what path v args.0) (λ new. assigned scope slot new g steps.1)

abbrev behind_path : Bool → ℕ → ℕ → List Value → Value → Option (List Value × Stack) → Outcome (List Value × Stack)
behind_path scope slot what g v o =
    o >>= λ steps.
    path_of [] steps.0 >>= λ path.
    variable scope slot g steps.1 >>= λ old.
    and_then (value_changed what path old (v ∷ [])) (λ new. assigned scope slot new g steps.1)

update_is : (scope : Bool) (slot what : ℕ) (v : Value) (g : List Value) (place : ℕ) (c : Call) (below : Stack)
    → counts 1 (slice_get operand_counts what) ≡ true
    → updated scope slot [] what g (with_ops (v ∷ c.ops) (with_place place c) ∷ below) ≡ sunk
    (Update scope slot [] what) v place g (c ∷ below)
update_is false slot what v g place c below h =
    ap (λ o. o >>= λ n. behind_args false slot what g (taken_all n (with_ops (v ∷ c.ops) (with_place place c) ∷ below)))
    (counted 1 (slice_get operand_counts what) h)
    ∙ ap (behind_args false slot what g) (taken_one v (with_place place c) below)
    ∙ ap (behind_path false slot what g v) (taken_none (with_place place c) below)
update_is true slot what v g place c below h =
    ap (λ o. o >>= λ n. behind_args true slot what g (taken_all n (with_ops (v ∷ c.ops) (with_place place c) ∷ below)))
    (counted 1 (slice_get operand_counts what) h)
    ∙ ap (behind_args true slot what g) (taken_one v (with_place place c) below)
    ∙ ap (behind_path true slot what g v) (taken_none (with_place place c) below)

module _ (u : CodeUnit) (f : Function) (g : List Value) (t : ℕ) where
  op_row : (i : Instr) (a b v : Value) (c : Call) (below : Stack) → computed i a b ≡ Some (Ok v)
      → row u f i c.place g (with_ops (b ∷ a ∷ c.ops) c ∷ below) t ≡ Some
      (On g (with_ops (v ∷ c.ops) (with_place (c.place + 1) c) ∷ below) t)
  op_row Add a b v c below e =
      ap (λ o. onward f c.place (beside g (finishes o (with_place (c.place + 1) c ∷ below))) t (λ x. On x.0 x.1 t)) e
  op_row Sub a b v c below e =
      ap (λ o. onward f c.place (beside g (finishes o (with_place (c.place + 1) c ∷ below))) t (λ x. On x.0 x.1 t)) e
  op_row Mul a b v c below e =
      ap (λ o. onward f c.place (beside g (finishes o (with_place (c.place + 1) c ∷ below))) t (λ x. On x.0 x.1 t)) e
  op_row Equal a b v c below e =
      ap (λ o. onward f c.place (beside g (finishes o (with_place (c.place + 1) c ∷ below))) t (λ x. On x.0 x.1 t)) e
  op_row NotEqual a b v c below e =
      ap (λ o. onward f c.place (beside g (finishes o (with_place (c.place + 1) c ∷ below))) t (λ x. On x.0 x.1 t)) e
  op_row Less a b v c below e =
      ap (λ o. onward f c.place (beside g (finishes o (with_place (c.place + 1) c ∷ below))) t (λ x. On x.0 x.1 t)) e
  op_row LessEqual a b v c below e =
      ap (λ o. onward f c.place (beside g (finishes o (with_place (c.place + 1) c ∷ below))) t (λ x. On x.0 x.1 t)) e
  op_row Greater a b v c below e =
      ap (λ o. onward f c.place (beside g (finishes o (with_place (c.place + 1) c ∷ below))) t (λ x. On x.0 x.1 t)) e
  op_row GreaterEqual a b v c below e =
      ap (λ o. onward f c.place (beside g (finishes o (with_place (c.place + 1) c ∷ below))) t (λ x. On x.0 x.1 t)) e
  op_row i a b v c below e = absurd (cc)

  stored_row : (o : Option Value) (p : ℕ) (s : Stack)
      → onward f p (beside g (found_beside o s >>= λ old. Some (Ok old.1))) t (λ x. On x.0 x.1 t) ≡ onward
      {X = List Value × Stack} f p (found_beside o s >>= λ old. Some (Ok (g, old.1))) t (λ x. On x.0 x.1 t)
  stored_row None p s = refl
  stored_row (Some old) p s = refl

  tested_row : (o : Option Bool) (to p : ℕ) (c : Call) (below : Stack)
      → ((o >>= λ b. Some (b, with_place (p + 1) c ∷ below)) >>= λ (b : Bool × Stack). branches b.0 to g b.1 t)
      ≡ onward {X = List Value
      × Stack} f p (o >>= λ b. moved (if b then p + 1 else to) (c ∷ below) >>= λ s. Some (Ok (g, s))) t
      (λ x. On x.0 x.1 t)
  tested_row None to p c below = refl
  tested_row (Some true) to p c below = refl
  tested_row (Some false) to p c below = refl

  sink_row : (i : Instr) (v : Value) (p : ℕ) (c : Call) (below : Stack) → is_sink i ≡ true
      → row u f i p g (with_ops (v ∷ c.ops) (with_place p c) ∷ below) t ≡ onward f p (sunk i v (p + 1) g (c ∷ below)) t
      (λ x. On x.0 x.1 t)
  sink_row (Store k) v p c below h =
      stored_row (slice_get c.slots k) p (with_slots (slice_set c.slots k v) (with_place (p + 1) c) ∷ below)
  sink_row (StoreGlobal k) v p c below h = refl
  sink_row (JumpUnless to) v p c below h = tested_row (as_bool v) to p c below
  sink_row (Update scope slot [] what) v p c below h = ap (λ (o : Outcome (List Value
      × Stack)). onward f p o t (λ x. On x.0 x.1 t)) (update_is scope slot what v g (p + 1) c below h)
  sink_row i v p c below h = absurd (cc)

  pub pushed_rows : (n place : ℕ) (i : Instr) (v : Value) (vs : List Value) (s : Stack) → IsOf u f s
      → slice_get f.code place ≡ Some i → pushes i g s ≡ Some v
      → rows u (suc n) g (with_pushed vs place s) t ≡ rows u n g (with_pushed (v ∷ vs) (place + 1) s) t
  pushed_rows n place i v vs [] of here e = absurd of
  pushed_rows n place i v vs (c ∷ below) of here e =
      let call = with_ops (vs ++ c.ops) (with_place place c) in
      push_rows u f g t n i call below of here (operand_pushes i g (c ∷ below) v e)
      ∙ ap (λ o. o >>= λ v. rows u n g (behind_push v call ∷ below) t) (same_pushed i g vs place c below ∙ e)

  pub operated_rows : (n place : ℕ) (i : Instr) (a b v : Value) (vs : List Value) (s : Stack) → IsOf u f s
      → slice_get f.code place ≡ Some i → computed i a b ≡ Some (Ok v)
      → rows u (suc n) g (with_pushed (b ∷ a ∷ vs) place s) t ≡ rows u n g (with_pushed (v ∷ vs) (place + 1) s) t
  operated_rows n place i a b v vs [] of here e = absurd of
  operated_rows n place i a b v vs (c ∷ below) of here e =
      ap (λ o. o >>= λ x. further x (rows u n))
      (at_call u f g t i (with_ops (b ∷ a ∷ vs ++ c.ops) (with_place place c)) below of here
      ∙ op_row i a b v (with_ops (vs ++ c.ops) (with_place place c)) below e)

  sunk_row : (place : ℕ) (i : Instr) (v : Value) (s : Stack) → IsOf u f s → slice_get f.code place ≡ Some i
      → is_sink i ≡ true
      → rows u 1 g (with_pushed (v ∷ []) place s) t ≡ onward f place (sunk i v (place + 1) g s) t (λ x. On x.0 x.1 t)
  sunk_row place i v [] of here h = absurd of
  sunk_row place i v (c ∷ below) of here h =
      one_row u g (with_pushed (v ∷ []) place (c ∷ below)) t
      ∙ at_call u f g t i (with_ops (v ∷ c.ops) (with_place place c)) below of here ∙ sink_row i v place c below h

  there_onward : (place : ℕ) (o : Outcome (List Value × Stack)) → IsSome (onward f place o t (λ x. On x.0 x.1 t))
      → IsSome o
  there_onward place None h = h
  there_onward place (Some r) h = refl

  variable_row : (place : ℕ) (i : Instr) (vs : List Value) (s : Stack) → IsOf u f s → slice_get f.code place ≡ Some i
      → is_variable i ≡ true → IsSome (rows u 1 g (with_pushed vs place s) t) → IsSome (pushes i g s)
  variable_row place i vs [] of here is fine = absurd of
  variable_row place i vs (c ∷ below) of here is fine =
      let call = with_ops (vs ++ c.ops) (with_place place c) in
      subst IsSome (same_pushed i g vs place c below)
      (variable_there u f g t i place (call ∷ below) is (subst IsSome (at_call u f g t i call below of here)
      (first_there u 0 g (call ∷ below) t fine)))

module _ (f : Function) (place : ℕ) (i : Instr) (g : List Value) (s : Stack) (here : slice_get f.code place ≡ Some i)
  where
    -- a variable that comes next is there
    pub variable_here : (vs : List Value) → Runs f place vs g s → is_variable i ≡ true → IsSome (pushes i g s)
    variable_here vs r is = variable_row r.unit f g r.ticks place i vs s r.call here is (r.fine 1)

    pub push_runs : (v : Value) (vs : List Value) → pushes i g s ≡ Some v → Runs f place vs g s
        → Runs f (place + 1) (v ∷ vs) g s
    push_runs v vs e r = record {
      unit = r.unit;
      ticks = r.ticks;
      call = r.call;
      fine = λ n. subst IsSome (pushed_rows r.unit f g r.ticks n place i v vs s r.call here e) (r.fine (suc n));
    }

    pub push_leads : (v : Value) (vs : List Value) (g' : List Value) (s' : Stack) → pushes i g s ≡ Some v
        → Leads f (place + 1) (v ∷ vs) g s g' s' → Leads f place vs g s g' s'
    push_leads v vs g' s' e l u t of =
        let far = l u t of in (suc far.0, pushed_rows u f g t (suc far.0) place i v vs s of here e ∙ far.1)

    pub operator_runs : (a b v : Value) → computed i a b ≡ Some (Ok v) → Runs f place (b ∷ a ∷ []) g s
        → Runs f (place + 1) (v ∷ []) g s
    operator_runs a b v e r = record {
      unit = r.unit;
      ticks = r.ticks;
      call = r.call;
      fine = λ n. subst IsSome (operated_rows r.unit f g r.ticks n place i a b v [] s r.call here e) (r.fine (suc n));
    }

    pub operator_leads : (a b v : Value) (g' : List Value) (s' : Stack) → computed i a b ≡ Some (Ok v)
        → Leads f (place + 1) (v ∷ []) g s g' s' → Leads f place (b ∷ a ∷ []) g s g' s'
    operator_leads a b v g' s' e l u t of =
        let far = l u t of in (suc far.0, operated_rows u f g t (suc far.0) place i a b v [] s of here e ∙ far.1)

    pub sink_there : (v : Value) → Runs f place (v ∷ []) g s → is_sink i ≡ true → IsSome (sunk i v (place + 1) g s)
    sink_there v r is = there_onward r.unit f g r.ticks place (sunk i v (place + 1) g s)
        (subst IsSome (sunk_row r.unit f g r.ticks place i v s r.call here is) (r.fine 1))

    pub sink_leads : (v : Value) (g' : List Value) (s' : Stack) → is_sink i ≡ true
        → sunk i v (place + 1) g s ≡ Some (Ok (g', s')) → Leads f place (v ∷ []) g s g' s'
    sink_leads v g' s' is e u t of = (
      zero,
      sunk_row u f g t place i v s of here is
          ∙ ap (λ (o : Outcome (List Value × Stack)). onward f place o t (λ x. On x.0 x.1 t)) e,
    )

pub branch_sunk : (i : Instr) (to : ℕ) (b : Bool) (next : ℕ) (s s' : Stack) → i ≡ JumpUnless to
    → moved (if b then next else to) s ≡ Some s'
    → (is_sink i ≡ true) × ((g : List Value) → sunk i (value.Bool b) next g s ≡ Some (Ok (g, s')))
branch_sunk i to b next s s' is e = (
  ap is_sink is,
  λ g. ap (λ i. sunk i (value.Bool b) next g s) is
      ∙ ap (λ v. bool_at v >>= λ b. moved (if b then next else to) s >>= λ s. Some (Ok (g, s))) (value.outs-Bool b)
      ∙ ap (λ o. o >>= λ s. Some (Ok (g, s))) e,
)

-- where there are rows, there is an instruction
pub code_there : (f : Function) (place : ℕ) (vs g : List Value) (s : Stack) → Runs f place vs g s
    → IsSome (slice_get f.code place)
code_there f place vs g [] r = absurd r.call
code_there f place vs g (c ∷ below) r =
    let s = with_pushed vs place (c ∷ below) in
    bound (slice_get f.code place) (λ i. row r.unit f i place g s r.ticks)
    (subst IsSome (step_at r.unit f g r.ticks c.function place s refl r.call)
    (first_there r.unit 0 g s r.ticks (r.fine 1)))

-- a call of a function can go to another place
pub runs_moved : (f : Function) (place : ℕ) (vs g : List Value) (s : Stack) (to : ℕ) → Runs f place vs g s
    → IsSome (moved to s)
runs_moved f place vs g [] to r = absurd r.call
runs_moved f place vs g (c ∷ below) to r = refl

module _ (f : Function) (place : ℕ) (i : Instr) (g : List Value) (t : ℕ) (here : slice_get f.code place ≡ Some i) where
  pub jump_leads : (to : ℕ) (s s' : Stack) → i ≡ Jump to → moved to s ≡ Some s' → LeadsOn f place g s t g s' t
  jump_leads to [] s' is e u of = absurd of
  jump_leads to (c ∷ below) s' is e u of =
      let call = with_place place c in (
        zero,
        one_row u g (call ∷ below) t ∙ at_call u f g t i call below of here
            ∙ ap (λ i. row u f i place g (call ∷ below) t) is ∙ ap (λ o. o >>= goes g t) e,
      )

  counted_on : (b : Bool) (r s s' : Stack) (t' : ℕ) (go : Option Step)
      → cond b (Some (Leaves Spent g s t)) go ≡ Some (On g s' t')
      → cond b (Some (Leaves Spent g r t)) go ≡ Some (On g s' t')
  counted_on true r s s' t' go e = absurd (cc)
  counted_on false r s s' t' go e = e

  pub tick_leads : (s s' : Stack) (t' : ℕ) → i ≡ Tick
      → ticks g s t (λ left. jumps (place + 1) g s left) ≡ Some (On g s' t') → LeadsOn f place g s t g s' t'
  tick_leads [] s' t' is e u of = absurd of
  tick_leads (c ∷ below) s' t' is e u of =
      let call = with_place place c in (
        zero,
        one_row u g (call ∷ below) t ∙ at_call u f g t i call below of here
            ∙ ap (λ i. row u f i place g (call ∷ below) t) is
            ∙ counted_on (nat_eq t 0) (call ∷ below) (c ∷ below) s' t' (jumps (place + 1) g (c ∷ below) (t - 1)) e,
      )
