-- A stretch that ends with its number in a slot, or as the last operand.
use Rattle.std.proofs.Common.{◌≡◌, ◌+◌, ℕ, zero, List, [], ◌∷◌, slice_get, slice_set}
use Rattle.std.proofs.Common.{Option, Some, None, Ok, IsSome, refl, sym, ap, ◌∙◌, subst}
use Rattle.bds_value.specs.declared.value.Value.{Value}
use Rattle.bds_code.specs.declared.instr.Instr.{Instr}
use Rattle.bds_code.specs.declared.unit.Function.{Function}
use Rattle.bds_code_frames.specs.declared.frame.Frame.{Frame}
use Rattle.bds_code_frames.specs.Stack.{Stack, stack, beside, moved, pushed, slot_at, swapped, with_ops, with_place}
use Rattle.bds_code_frames.specs.Stack.{with_slots}
use Rattle.bds_machine.specs.Calls.{On}
use Rattle.bds_machine.specs.Stretches.{computed, with_pushed, Runs, Leads, Pushes}
use Rattle.bds_machine.proofs.Stretching.{operated_rows}

-- a call with a further operand can go to another place
pub pushed_moved : (v : Value) (next : ℕ) (s mid : Stack) → pushed v s ≡ Some mid → IsSome (moved next mid)
pushed_moved v next [] mid e = absurd (cc)
pushed_moved v next (c ∷ below) mid e =
    let same : with_ops (v ∷ c.ops) c ∷ below ≡ mid = cc in subst (λ s. IsSome (moved next s)) same refl

pub rest_is : (v : Value) (next : ℕ) (s mid s' : Stack) → pushed v s ≡ Some mid → moved next mid ≡ Some s'
    → s' ≡ with_pushed (v ∷ []) next s
rest_is v next [] mid s' e m = absurd (cc)
rest_is v next (c ∷ below) mid s' e m =
    let same : with_ops (v ∷ c.ops) c ∷ below ≡ mid = cc in
    let there : moved next (with_ops (v ∷ c.ops) c ∷ below) ≡ Some s' = ap (moved next) same ∙ m in
    let is : with_place next (with_ops (v ∷ c.ops) c) ∷ below ≡ s' = cc in
    sym is

pub there_pushed : (f : Function) (place : ℕ) (vs g : List Value) (s : Stack) (v : Value) → Runs f place vs g s
    → IsSome (pushed v s)
there_pushed f place vs g [] v r = absurd r.call
there_pushed f place vs g (c ∷ below) v r = refl

-- a slot that can get a value is there
pub slot_there : (slot : ℕ) (v : Value) (s : Stack) → IsSome (swapped slot v s) → IsSome (slot_at slot s)
slot_there slot v [] h = absurd (cc)
slot_there slot v (c ∷ below) h =
    from (slice_get c.slots slot) (with_slots (slice_set c.slots slot v) c ∷ below) h
  where
    from : (o : Option Value) (s : Stack) → IsSome (beside o s) → IsSome o
    from None s h = absurd (cc)
    from (Some old) s h = refl

-- where nothing was changed before, all is as it was but for the operand and the place
rested : (v : Value) (next : ℕ) (g g' : List Value) (fs mid : List Frame) (s' : Stack) (t : ℕ) → (g' ≡ g) × (mid ≡ fs)
    → s' ≡ with_pushed (v ∷ []) next (stack mid)
    → Some (On g (with_pushed (v ∷ []) next (stack fs)) t) ≡ Some (On g' s' t)
rested v next g g' fs mid s' t kept e =
    ap (λ g. Some (On g (with_pushed (v ∷ []) next (stack fs)) t)) (sym kept.0)
    ∙ ap (λ fs. Some (On g' (with_pushed (v ∷ []) next (stack fs)) t)) (sym kept.1)
    ∙ ap (λ s. Some (On g' s t)) (sym e)

-- what is pushed stays as the last operand
pub pushes_rests : (f : Function) (place next : ℕ) (g g' : List Value) (fs mid : List Frame) (s' : Stack) (v : Value)
    → Pushes f place g (stack fs) v next → (g' ≡ g) × (mid ≡ fs) → s' ≡ with_pushed (v ∷ []) next (stack mid)
    → Leads f place [] g (stack fs) g' s'
pushes_rests f place next g g' fs mid s' v p kept e u t of =
    let near = p u t [] 0 of in
    (near.0, near.1 ∙ rested v next g g' fs mid s' t kept e)

-- and so does what an operator gives
pub operator_rests : (f : Function) (place : ℕ) (i : Instr) (g g' : List Value) (fs mid : List Frame) (s' : Stack)
    (a b v : Value) → slice_get f.code place ≡ Some i → computed i a b ≡ Some (Ok v) → (g' ≡ g) × (mid ≡ fs)
    → s' ≡ with_pushed (v ∷ []) (place + 1) (stack mid) → Leads f place (b ∷ a ∷ []) g (stack fs) g' s'
operator_rests f place i g g' fs mid s' a b v here gives kept e u t of = (
  zero,
  operated_rows u f g t zero place i a b v [] (stack fs) of here gives
      ∙ rested v (place + 1) g g' fs mid s' t kept e,
)
