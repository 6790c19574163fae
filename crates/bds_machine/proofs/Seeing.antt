-- What is there where the rows are that load a value and look at it.
use Rattle.std.proofs.Common.{◌≡◌, ◌+◌, ℕ, List, [], ◌∷◌, slice_get, true, Option, Some, None, Result, Ok, Err, IsSome, refl, ap, ◌∙◌, subst}
use Rattle.bds_value.specs.declared.faults.RunFault.{RunFault}
use Rattle.bds_value.specs.declared.value.Value.{Value}
use Rattle.bds_value.specs.Options.{◌>>=◌}
use Rattle.bds_code.specs.declared.instr.Instr.{Instr}
use Rattle.bds_code.specs.declared.unit.Function.{Function}
use Rattle.bds_code_frames.specs.Stack.{Stack, place_of, moved, popped}
use Rattle.bds_machine_values.specs.declared.faults.RowFault.{RowFault}
use Rattle.bds_machine_values.specs.declared.faults.RowFault.TheVariants.{Fault}
use Rattle.bds_machine.specs.declared.looks.Look.{Look}
use Rattle.bds_machine.specs.declared.looks.Look.TheVariants as look
use Rattle.bds_machine.specs.declared.point.Point.TheVariants as point
use Rattle.bds_machine.specs.Calls.{Step, On, Ends, stops}
use Rattle.bds_machine_values.specs.Faults.{Outcome, Answers, finishes}
use Rattle.bds_machine.specs.Looks.{pushes, is_operand, looks, seen, goes_behind, looked, looked_far, looked_last, worked_rows, Ran}
use Rattle.bds_machine_values.specs.Worked.{beside}
use Rattle.bds_machine.specs.Table.{onward}
use Rattle.bds_machine.proofs.Anywhere.{onward_any}
use Rattle.bds_machine.proofs.LastLooks.{bound}

pub some_value : {X : Type 0} (o : Option X) → IsSome o → (x : X) × (o ≡ Some x)
some_value None h = absurd (cc)
some_value (Some x) h = (x, refl)

pub look_there : (n : ℕ) (o : Option Instr) → looks n o ≡ true → IsSome o
look_there n None h = absurd (cc)
look_there n (Some i) h = refl

pub operand_there : (o : Option Instr) → is_operand o ≡ true → IsSome o
operand_there None h = absurd (cc)
operand_there (Some i) h = refl

bind_any : {X Y Z : Type 0} (o : Option X) (go : X → Option Y) (go' : X → Option Z) → ((x : X) → IsSome (go x) → IsSome (go' x)) → IsSome (o >>= go) → IsSome (o >>= go')
bind_any None go go' each h = absurd (cc)
bind_any (Some x) go go' each h = each x h

module _ (f : Function) (last : ℕ) (g : List Value) (s : Stack) (t : ℕ) where
  abbrev after : Option Stack → Outcome Value → Option Step
  after m o = onward f last (beside g (m >>= finishes o)) t (λ x. On x.0 x.1 t)

  given_some : (m : Option Stack) (o : Outcome Value) → IsSome (after m o) → IsSome o
  given_some None o h = absurd (cc)
  given_some (Some s') None h = absurd (cc)
  given_some (Some s') (Some r) h = refl

  -- what is looked at gives something
  pub given_there : (o : Outcome Value) → IsSome (goes_behind f last o g s t) → IsSome o
  given_there o h = given_some (moved (last + 1) s) o h

  moved_some : (m : Option Stack) (o : Outcome Value) → IsSome (after m o) → IsSome m
  moved_some None o h = absurd (cc)
  moved_some (Some s') o h = refl

  some_call : (s : Stack) → IsSome (moved (last + 1) s) → IsSome (place_of s)
  some_call [] h = absurd (cc)
  some_call (c ∷ below) h = refl

  pub call_there : (o : Outcome Value) → IsSome (goes_behind f last o g s t) → IsSome (place_of s)
  call_there o h = some_call s (moved_some (moved (last + 1) s) o h)

  faulty : (m : Option Stack) (e : RunFault) → IsSome (after m (Some (Err e))) → IsSome (slice_get f.lines last)
  faulty None e h = absurd (cc)
  faulty (Some s') e h = bound (slice_get f.lines last) (λ at. Some (Ends (point.Stop e at) t)) h

  -- a fault has a line
  pub line_there : (o : Outcome Value) (given : Result Value RowFault) → Answers o given → IsSome (goes_behind f last o g s t) → (e : RunFault) → given ≡ Err (Fault e) → IsSome (slice_get f.lines last)
  line_there o given answers h e is =
      let fault : o ≡ Some (Err e) = subst (Answers o) is answers in
      faulty (moved (last + 1) s) e (subst (λ o. IsSome (goes_behind f last o g s t)) fault h)

module _ (f : Function) (i : Instr) (at : ℕ) (g : List Value) (s : Stack) where
  last_any : (last : ℕ) (s : Stack) (t t' : ℕ) → IsSome (looked_last f i last g s t) → IsSome (looked_last f i last g s t')
  last_any last s t t' h =
      bind_any (popped s) (λ r. pushes i g r.1 >>= λ v. slice_get f.code last >>= λ k. goes_behind f last (seen k v (r.0 ∷ [])) g r.1 t)
      (λ r. pushes i g r.1 >>= λ v. slice_get f.code last >>= λ k. goes_behind f last (seen k v (r.0 ∷ [])) g r.1 t')
      (λ r. bind_any (pushes i g r.1) (λ v. slice_get f.code last >>= λ k. goes_behind f last (seen k v (r.0 ∷ [])) g r.1 t)
      (λ v. slice_get f.code last >>= λ k. goes_behind f last (seen k v (r.0 ∷ [])) g r.1 t')
      (λ v. bind_any (slice_get f.code last) (λ k. goes_behind f last (seen k v (r.0 ∷ [])) g r.1 t) (λ k. goes_behind f last (seen k v (r.0 ∷ [])) g r.1 t')
      (λ k. onward_any f last (beside g (moved (last + 1) r.1 >>= finishes (seen k v (r.0 ∷ [])))) t t' (λ x. On x.0 x.1 t) (λ x. On x.0 x.1 t')))) h

  pub far_any : (last : ℕ) (o : Option (Result Stack (ℕ × RunFault))) (t t' : ℕ) → IsSome (looked_far f i last g t o) → IsSome (looked_far f i last g t' o)
  far_any last None t t' h = h
  far_any last (Some (Ok s)) t t' h = last_any last s t t' h
  far_any last (Some (Err (place, e))) t t' h =
      bind_any (slice_get f.lines place) (λ at. Some (Ends (point.Stop e at) t)) (λ at. Some (Ends (point.Stop e at) t')) (λ at h. refl) h

  pub looked_any : (l : Look) (t t' : ℕ) → IsSome (looked l f i at g s t) → IsSome (looked l f i at g s t')
  looked_any look.Alone t t' h =
      bind_any (pushes i g s) (λ v. slice_get f.code (at + 1) >>= λ j. goes_behind f (at + 1) (seen j v []) g s t) (λ v. slice_get f.code (at + 1) >>= λ j. goes_behind f (at + 1) (seen j v []) g s t')
      (λ v. bind_any (slice_get f.code (at + 1)) (λ j. goes_behind f (at + 1) (seen j v []) g s t) (λ j. goes_behind f (at + 1) (seen j v []) g s t')
      (λ j. onward_any f (at + 1) (beside g (moved (at + 1 + 1) s >>= finishes (seen j v []))) t t' (λ x. On x.0 x.1 t) (λ x. On x.0 x.1 t'))) h
  looked_any look.With t t' h =
      bind_any (pushes i g s)
      (λ v. slice_get f.code (at + 1) >>= λ j. pushes j g s >>= λ x. slice_get f.code (at + 1 + 1) >>= λ k. goes_behind f (at + 1 + 1) (seen k v (x ∷ [])) g s t)
      (λ v. slice_get f.code (at + 1) >>= λ j. pushes j g s >>= λ x. slice_get f.code (at + 1 + 1) >>= λ k. goes_behind f (at + 1 + 1) (seen k v (x ∷ [])) g s t')
      (λ v. bind_any (slice_get f.code (at + 1))
      (λ j. pushes j g s >>= λ x. slice_get f.code (at + 1 + 1) >>= λ k. goes_behind f (at + 1 + 1) (seen k v (x ∷ [])) g s t)
      (λ j. pushes j g s >>= λ x. slice_get f.code (at + 1 + 1) >>= λ k. goes_behind f (at + 1 + 1) (seen k v (x ∷ [])) g s t')
      (λ j. bind_any (pushes j g s)
      (λ x. slice_get f.code (at + 1 + 1) >>= λ k. goes_behind f (at + 1 + 1) (seen k v (x ∷ [])) g s t)
      (λ x. slice_get f.code (at + 1 + 1) >>= λ k. goes_behind f (at + 1 + 1) (seen k v (x ∷ [])) g s t')
      (λ x. bind_any (slice_get f.code (at + 1 + 1)) (λ k. goes_behind f (at + 1 + 1) (seen k v (x ∷ [])) g s t) (λ k. goes_behind f (at + 1 + 1) (seen k v (x ∷ [])) g s t')
      (λ k. onward_any f (at + 1 + 1) (beside g (moved (at + 1 + 1 + 1) s >>= finishes (seen k v (x ∷ [])))) t t' (λ x. On x.0 x.1 t) (λ x. On x.0 x.1 t'))))) h
  looked_any (look.Far k) t t' h =
      bind_any (pushes i g s) (λ v. looked_far f i (at + 1 + k) g t (worked_rows f k (at + 1) g s)) (λ v. looked_far f i (at + 1 + k) g t' (worked_rows f k (at + 1) g s))
      (λ v. far_any (at + 1 + k) (worked_rows f k (at + 1) g s) t t') h

  pub value_there : (l : Look) (t : ℕ) → IsSome (looked l f i at g s t) → IsSome (pushes i g s)
  value_there look.Alone t h = bound (pushes i g s) (λ v. slice_get f.code (at + 1) >>= λ j. goes_behind f (at + 1) (seen j v []) g s t) h
  value_there look.With t h =
      bound (pushes i g s) (λ v. slice_get f.code (at + 1) >>= λ j. pushes j g s >>= λ x. slice_get f.code (at + 1 + 1) >>= λ k. goes_behind f (at + 1 + 1) (seen k v (x ∷ [])) g s t) h
  value_there (look.Far k) t h = bound (pushes i g s) (λ v. looked_far f i (at + 1 + k) g t (worked_rows f k (at + 1) g s)) h

  module _ (t : ℕ) (j : Instr) (next : slice_get f.code (at + 1) ≡ Some j) where
    pub alone_is : (v : Value) → pushes i g s ≡ Some v → looked look.Alone f i at g s t ≡ goes_behind f (at + 1) (seen j v []) g s t
    alone_is v value =
        ap (λ o. o >>= λ v. slice_get f.code (at + 1) >>= λ j. goes_behind f (at + 1) (seen j v []) g s t) value
        ∙ ap (λ o. o >>= λ j. goes_behind f (at + 1) (seen j v []) g s t) next

    by_value : (v : Value) → pushes i g s ≡ Some v
        → looked look.With f i at g s t ≡ (pushes j g s >>= λ x. slice_get f.code (at + 1 + 1) >>= λ k. goes_behind f (at + 1 + 1) (seen k v (x ∷ [])) g s t)
    by_value v value =
        ap (λ o. o >>= λ v. slice_get f.code (at + 1) >>= λ j. pushes j g s >>= λ x. slice_get f.code (at + 1 + 1) >>= λ k. goes_behind f (at + 1 + 1) (seen k v (x ∷ [])) g s t) value
        ∙ ap (λ o. o >>= λ j. pushes j g s >>= λ x. slice_get f.code (at + 1 + 1) >>= λ k. goes_behind f (at + 1 + 1) (seen k v (x ∷ [])) g s t) next

    pub above_there : IsSome (looked look.With f i at g s t) → IsSome (pushes j g s)
    above_there h = from (pushes i g s) refl
      where
        from : (o : Option Value) → pushes i g s ≡ o → IsSome (pushes j g s)
        from None e =
            let none : IsSome {T = Value} None = subst IsSome e (value_there look.With t h) in
            absurd (cc)
        from (Some v) e = bound (pushes j g s) (λ x. slice_get f.code (at + 1 + 1) >>= λ k. goes_behind f (at + 1 + 1) (seen k v (x ∷ [])) g s t) (subst IsSome (by_value v e) h)

    pub with_is : (v x : Value) (k : Instr) → pushes i g s ≡ Some v → pushes j g s ≡ Some x → slice_get f.code (at + 1 + 1) ≡ Some k
        → looked look.With f i at g s t ≡ goes_behind f (at + 1 + 1) (seen k v (x ∷ [])) g s t
    with_is v x k value above last =
        by_value v value
        ∙ ap (λ o. o >>= λ x. slice_get f.code (at + 1 + 1) >>= λ k. goes_behind f (at + 1 + 1) (seen k v (x ∷ [])) g s t) above
        ∙ ap (λ o. o >>= λ k. goes_behind f (at + 1 + 1) (seen k v (x ∷ [])) g s t) last

module _ (f : Function) (i : Instr) (last : ℕ) (g : List Value) where
  pub operand_last : (s : Stack) (t : ℕ) → IsSome (looked_last f i last g s t) → IsSome (popped s)
  operand_last s t h = bound (popped s) (λ r. pushes i g r.1 >>= λ v. slice_get f.code last >>= λ k. goes_behind f last (seen k v (r.0 ∷ [])) g r.1 t) h

  module _ (s s' : Stack) (x : Value) (taken : popped s ≡ Some (x, s')) (t : ℕ) where
    taken_is : looked_last f i last g s t ≡ (pushes i g s' >>= λ v. slice_get f.code last >>= λ k. goes_behind f last (seen k v (x ∷ [])) g s' t)
    taken_is = ap (λ o. o >>= λ r. pushes i g r.1 >>= λ v. slice_get f.code last >>= λ k. goes_behind f last (seen k v (r.0 ∷ [])) g r.1 t) taken

    pub value_last : IsSome (looked_last f i last g s t) → IsSome (pushes i g s')
    value_last h = bound (pushes i g s') (λ v. slice_get f.code last >>= λ k. goes_behind f last (seen k v (x ∷ [])) g s' t) (subst IsSome taken_is h)

    pub last_is : (v : Value) (k : Instr) → pushes i g s' ≡ Some v → slice_get f.code last ≡ Some k → looked_last f i last g s t ≡ goes_behind f last (seen k v (x ∷ [])) g s' t
    last_is v k value code =
        taken_is ∙ ap (λ o. o >>= λ v. slice_get f.code last >>= λ k. goes_behind f last (seen k v (x ∷ [])) g s' t) value
        ∙ ap (λ o. o >>= λ k. goes_behind f last (seen k v (x ∷ [])) g s' t) code

  pub far_there : (t : ℕ) (o : Option (Result Stack (ℕ × RunFault))) → IsSome (looked_far f i last g t o) → IsSome o
  far_there t None h = absurd (cc)
  far_there t (Some r) h = refl

  pub far_ok : (t : ℕ) (o : Option (Result Stack (ℕ × RunFault))) (s : Stack) → o ≡ Some (Ok s) → looked_far f i last g t o ≡ looked_last f i last g s t
  far_ok t o s e = ap (looked_far f i last g t) e

  pub far_line : (t : ℕ) (o : Option (Result Stack (ℕ × RunFault))) (s : Stack) (place : ℕ) (fault : RowFault) (e : RunFault) → Ran o s (Err (place, fault)) → fault ≡ Fault e
      → IsSome (looked_far f i last g t o) → IsSome (slice_get f.lines place)
  far_line t o s place fault e ran is h =
      let told : o ≡ Some (Err (place, e)) = subst (λ fault. Ran o s (Err (place, fault))) is ran in
      bound (slice_get f.lines place) (λ at. Some (Ends (point.Stop e at) t)) (subst (λ o. IsSome (looked_far f i last g t o)) told h)

  pub far_stops : (t : ℕ) (o : Option (Result Stack (ℕ × RunFault))) (s : Stack) (place : ℕ) (fault : RowFault) (e : RunFault) → Ran o s (Err (place, fault)) → fault ≡ Fault e
      → looked_far f i last g t o ≡ stops f place e t
  far_stops t o s place fault e ran is =
      let told : o ≡ Some (Err (place, e)) = subst (λ fault. Ran o s (Err (place, fault))) is ran in
      ap (looked_far f i last g t) told

-- a look far ahead, where its value is there
pub far_is : (f : Function) (i : Instr) (k at : ℕ) (g : List Value) (s : Stack) (t t' : ℕ) → IsSome (looked (look.Far k) f i at g s t)
    → looked (look.Far k) f i at g s t' ≡ looked_far f i (at + 1 + k) g t' (worked_rows f k (at + 1) g s)
far_is f i k at g s t t' h = from (pushes i g s) (looked_far f i (at + 1 + k) g t (worked_rows f k (at + 1) g s)) (looked_far f i (at + 1 + k) g t' (worked_rows f k (at + 1) g s)) h
  where
    from : (o : Option Value) (x y : Option Step) → IsSome (o >>= λ v. x) → (o >>= λ v. y) ≡ y
    from None x y h = absurd (cc)
    from (Some v) x y h = refl
