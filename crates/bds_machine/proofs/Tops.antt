-- Rows that begin with a value that is the last operand already.
use Rattle.std.proofs.Common.{◌≡◌, ◌+◌, ◌-◌, ◌<◌, ℕ, ℤ, suc, List, [], ◌∷◌, ◌++◌, length, map, reverse, slice_get, Bool}
use Rattle.std.proofs.Common.{true, false, Some, None, Ok, IsSome, refl, sym, ap, ◌∙◌, subst, arith}
use Rattle.std.proofs.lemmas.List.{append-nil, append_assoc, get_or_push, length-append, reverse-append}
use Rattle.std.proofs.lemmas.List.{reverse-reverse}
use Rattle.std.proofs.lemmas.Option.{slice_get-get_or}
use Rattle.bds_value.specs.declared.value.Value.{Value}
use Rattle.bds_value.specs.declared.value.Value.TheVariants as value
use Rattle.bds_value.specs.Options.{◌>>=◌}
use Rattle.bds_code.specs.declared.instr.Instr.{Instr}
use Rattle.bds_code.specs.declared.instr.Instr.TheVariants.{Store, StoreGlobal, Update, JumpUnless}
use Rattle.bds_code.specs.declared.unit.Function.{Function}
use Rattle.bds_code.specs.declared.unit.Unit.{Unit as CodeUnit}
use Rattle.bds_code_frames.specs.declared.frame.Frame.{Frame}
use Rattle.bds_code_frames.specs.Laid.{values_of}
use Rattle.bds_code_frames.specs.Stack.{Call, Stack, call_of, popped, popped_of, stack, with_ops, with_place}
use Rattle.bds_machine_values.specs.Faults.{Outcome, and_then}
use Rattle.bds_machine_values.specs.Operands.{taken_all}
use Rattle.bds_machine_values.specs.Updates.{operand_counts, variable, value_changed}
use Rattle.bds_machine.specs.Calls.{Step, On}
use Rattle.bds_machine.specs.Running.{rows}
use Rattle.bds_machine.specs.Stretches.{is_sink, settled, sunk, with_pushed, IsOf, Runs, Leads}
use Rattle.bds_machine.specs.Table.{onward, row}
use Rattle.bds_machine.proofs.LastLooks.{at_call, bound, counted}
use Rattle.bds_machine.proofs.Seeing.{some_value}
use Rattle.bds_machine.proofs.Strides.{first_there}
use Rattle.bds_machine.proofs.Stretching.{behind_args}

-- what is the last operand
popped_rest : (ops : List Value) (c : Call) (below : Stack) (v : Value) (s : Stack)
    → popped_of ops c below ≡ Some (v, s)
    → (ws : List Value) × (ops ≡ v ∷ ws) × (s ≡ with_ops ws c ∷ below)
popped_rest [] c below v s e = absurd (cc)
popped_rest (w ∷ ws) c below v s e =
    let pair : (w, with_ops ws c ∷ below) ≡ (v, s) = cc in
    (ws, ap (λ (x : Value × Stack). x.0 ∷ ws) pair, sym (ap (λ (x : Value × Stack). x.1) pair))

values_end : (fs : List Frame) (f : Frame) → values_of (fs ++ f ∷ []) ≡ values_of fs ++ (f.slots ++ f.operands)
values_end [] f = append-nil (f.slots ++ f.operands)
values_end (x ∷ fs) f =
    ap (λ us. (x.slots ++ x.operands) ++ us) (values_end fs f)
    ∙ sym (append_assoc (x.slots ++ x.operands) (values_of fs) (f.slots ++ f.operands))

ends_with : (xs : List Value) (v : Value) → slice_get (xs ++ v ∷ []) (length (xs ++ v ∷ []) - 1) ≡ Some v
ends_with xs v =
    let long : length (xs ++ v ∷ []) ≡ length xs + 1 = length-append xs (v ∷ []) in
    let before : length (xs ++ v ∷ []) - 1 ≡ length xs = omega (arith, long) in
    let within : length xs < length (xs ++ v ∷ []) = omega (arith, long) in
    ap (slice_get (xs ++ v ∷ [])) before ∙ slice_get-get_or (xs ++ v ∷ []) (length xs) v within
    ∙ ap (λ x. Some x) (get_or_push xs v v (length xs) refl)

last_of : (gs fs : List Frame) (v : Value) (s : Stack) → reverse fs ≡ gs → popped (map call_of gs) ≡ Some (v, s)
    → slice_get (values_of fs) (length (values_of fs) - 1) ≡ Some v
last_of [] fs v s e p = absurd (cc)
last_of (f ∷ gs) fs v s e p =
    let rest = popped_rest (reverse f.operands) (call_of f) (map call_of gs) v s p in
    let ops : f.operands ≡ reverse rest.0 ++ v ∷ [] =
    sym (reverse-reverse f.operands) ∙ ap reverse rest.1 ∙ reverse-append (v ∷ []) rest.0 in
    let back : fs ≡ reverse gs ++ f ∷ [] = sym (reverse-reverse fs) ∙ ap reverse e ∙ reverse-append (f ∷ []) gs in
    let front = values_of (reverse gs) ++ (f.slots ++ reverse rest.0) in
    let all : values_of fs ≡ front ++ v ∷ [] =
    ap values_of back ∙ values_end (reverse gs) f ∙ ap (λ os. values_of (reverse gs) ++ (f.slots ++ os)) ops
    ∙ ap (λ us. values_of (reverse gs) ++ us) (sym (append_assoc f.slots (reverse rest.0) (v ∷ [])))
    ∙ sym (append_assoc (values_of (reverse gs)) (f.slots ++ reverse rest.0) (v ∷ [])) in
    subst (λ vs. slice_get vs (length vs - 1) ≡ Some v) (sym all) (ends_with front v)

-- it is the last of all values
pub last_value : (fs : List Frame) (v : Value) (s : Stack) → popped (stack fs) ≡ Some (v, s)
    → slice_get (values_of fs) (length (values_of fs) - 1) ≡ Some v
last_value fs v s p = last_of (reverse fs) fs v s refl p

module _ (v : Value) (s s1 : Stack) (taken : popped s ≡ Some (v, s1)) where
  popped_pushed : (at : ℕ) → with_pushed (v ∷ []) at s1 ≡ with_pushed [] at s
  popped_pushed at = from s taken
    where
      from : (s : Stack) → popped s ≡ Some (v, s1) → with_pushed (v ∷ []) at s1 ≡ with_pushed [] at s
      from [] e = absurd (cc)
      from (c ∷ below) e =
          let r = popped_rest c.ops c below v s1 e in
          ap (with_pushed (v ∷ []) at) r.2 ∙ ap (λ ops. with_ops ops (with_place at c) ∷ below) (sym r.1)

  same_function : (u : CodeUnit) (f : Function) → IsOf u f s → IsOf u f s1
  same_function u f of = from s of taken
    where
      from : (s : Stack) → IsOf u f s → popped s ≡ Some (v, s1) → IsOf u f s1
      from [] of e = absurd of
      from (c ∷ below) of e = let r = popped_rest c.ops c below v s1 e in subst (IsOf u f) (sym r.2) of

  -- a variable is as before
  pub popped_variable : (scope : Bool) (slot : ℕ) (g : List Value) → variable scope slot g s1 ≡ variable scope slot g s
  popped_variable true slot g = refl
  popped_variable false slot g = from s taken
    where
      from : (s : Stack) → popped s ≡ Some (v, s1) → variable false slot g s1 ≡ variable false slot g s
      from [] e = absurd (cc)
      from (c ∷ below) e = let r = popped_rest c.ops c below v s1 e in ap (variable false slot g) r.2

  module _ (f : Function) (at : ℕ) (g : List Value) where
    pub last_runs : Runs f at [] g s → Runs f at (v ∷ []) g s1
    last_runs r = record {
      unit = r.unit;
      ticks = r.ticks;
      call = same_function r.unit f r.call;
      fine = λ n. subst (λ s. IsSome (rows r.unit n g s r.ticks)) (sym (popped_pushed at)) (r.fine n);
    }

    pub last_leads : (g' : List Value) (s' : Stack) → Leads f at (v ∷ []) g s1 g' s' → Leads f at [] g s g' s'
    last_leads g' s' l u t of =
        let far = l u t (same_function u f of) in
        (far.0, ap (λ s. rows u (suc far.0) g s t) (sym (popped_pushed at)) ∙ far.1)

  -- a change of a variable by it
  pub last_updates : (scope : Bool) (slot what : ℕ) (n old new : ℤ) (next : ℕ) (g : List Value) → v ≡ value.Int n
      → variable scope slot g s ≡ Some (value.Int old)
      → value_changed what [] (value.Int old) (value.Int n ∷ []) ≡ Some (Ok (value.Int new))
      → sunk (Update scope slot [] what) v next g s1 ≡ settled scope slot (value.Int new) next g s1
  last_updates scope slot what n old new next g is held changed =
      ap (λ v. sunk (Update scope slot [] what) v next g s1) is
      ∙ ap (λ o. o >>= λ old. and_then (value_changed what [] old (value.Int n ∷ []))
      (λ new. settled scope slot new next g s1)) (popped_variable scope slot g ∙ held)
      ∙ ap (λ o. and_then o (λ new. settled scope slot new next g s1)) changed

-- where a row takes the last operand there is one
module _ (u : CodeUnit) (f : Function) (g : List Value) (t : ℕ) where
  empty_row : (i : Instr) (p : ℕ) (c : Call) (below : Stack) → is_sink i ≡ true
      → row u f i p g (with_ops [] (with_place p c) ∷ below) t ≡ None
  empty_row (Store k) p c below h = refl
  empty_row (StoreGlobal k) p c below h = refl
  empty_row (JumpUnless to) p c below h = refl
  empty_row (Update scope slot [] what) p c below h =
      ap (λ (o : Outcome (List Value × Stack)). onward f p o t (λ x. On x.0 x.1 t))
      (ap (λ o. o >>= λ n. behind_args scope slot what g (taken_all n (with_ops [] (with_place (p + 1) c) ∷ below)))
      (counted 1 (slice_get operand_counts what) h))
  empty_row i p c below h = absurd (cc)

  popped_there : (i : Instr) (p : ℕ) (c : Call) (below : Stack) (ops : List Value) → c.ops ≡ ops → is_sink i ≡ true
      → IsSome (row u f i p g (with_ops c.ops (with_place p c) ∷ below) t) → IsSome (popped_of c.ops c below)
  popped_there i p c below [] e h fine =
      let none : IsSome {T = Step} None = subst IsSome (ap (λ ops. row u f i p g (with_ops ops (with_place p c) ∷ below)
      t) e ∙ empty_row i p c below h) fine in
      absurd (cc)
  popped_there i p c below (w ∷ ws) e h fine = subst (λ ops. IsSome (popped_of ops c below)) (sym e) refl

pub sink_popped : (f : Function) (at : ℕ) (i : Instr) (g : List Value) (s : Stack) → slice_get f.code at ≡ Some i
    → is_sink i ≡ true → Runs f at [] g s → IsSome (popped s)
sink_popped f at i g [] here h r = absurd r.call
sink_popped f at i g (c ∷ below) here h r =
    let call = with_ops c.ops (with_place at c) in
    popped_there r.unit f g r.ticks i at c below c.ops refl h
    (subst IsSome (at_call r.unit f g r.ticks i call below r.call here)
    (first_there r.unit 0 g (call ∷ below) r.ticks (r.fine 1)))

-- a variable that is changed by the last operand is there
pub variable_by_last : (s : Stack) (scope : Bool) (slot what next : ℕ) (g : List Value) → IsSome (popped s)
    → ((v : Value) (s1 : Stack) → popped s ≡ Some (v, s1) → IsSome (sunk (Update scope slot [] what) v next g s1))
    → IsSome (variable scope slot g s)
variable_by_last s scope slot what next g some there =
    let r = some_value (popped s) some in
    let v = r.0.0 in
    let s1 = r.0.1 in
    subst IsSome (popped_variable v s s1 r.1 scope slot g)
    (bound (variable scope slot g s1) (λ old. and_then (value_changed what [] old (v ∷ []))
    (λ new. settled scope slot new next g s1)) (there v s1 r.1))

pub same_stack : (s s1 s2 : Stack) (v w : Value) → popped s ≡ Some (v, s1) → popped s ≡ Some (w, s2) → s1 ≡ s2
same_stack s s1 s2 v w e f = let pair : (v, s1) ≡ (w, s2) = cc in ap (λ (x : Value × Stack). x.1) pair
