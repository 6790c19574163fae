-- The last rows of a look at a value, and those that push one.
use Rattle.std.proofs.Common.{◌≡◌, ◌+◌, ℕ, suc, ℤ, List, [], ◌∷◌, length, slice_get, nat_le, cond, true, Option, Some, None, Ok, Err, IsSome, refl, ap, ◌∙◌, subst, arith}
use Rattle.std.proofs.lemmas.Grind.{common_steps}
use Rattle.bds_value.specs.declared.value.Place.TheVariants as place
use Rattle.bds_value.specs.declared.value.Value.{Value}
use Rattle.bds_value.specs.Options.{◌>>=◌}
use Rattle.bds_value.specs.Readers.{as_int, as_text}
use Rattle.bds_code.specs.declared.instr.Instr.{Instr}
use Rattle.bds_code.specs.declared.instr.Instr.TheVariants.{Load, LoadGlobal, PushInt, PushText, Item, Key, Method}
use Rattle.bds_code.specs.declared.unit.Function.{Function}
use Rattle.bds_code.specs.declared.unit.Unit.{Unit as CodeUnit}
use Rattle.bds_code_frames.specs.Stack.{Call, Stack, place_of, popped, with_ops, with_place}
use Rattle.bds_machine.specs.declared.point.Point.TheVariants as point
use Rattle.bds_machine.specs.Calls.{On, Ends}
use Rattle.bds_machine_values.specs.Faults.{Outcome, finishes}
use Rattle.bds_machine_values.specs.Values.{counts, argument_counts, loaded, part_given}
use Rattle.bds_machine.specs.Looks.{pushes, is_variable, is_operand, looks, seen, goes_behind}
use Rattle.bds_machine_values.specs.Operands.{taken_all}
use Rattle.bds_machine_values.specs.Results.{called, part_of}
use Rattle.bds_machine.specs.Running.{rows, further}
use Rattle.bds_machine_values.specs.Worked.{beside}
use Rattle.bds_machine.specs.Table.{onward, row, step}

-- the newest call behind an instruction that pushes a value
abbrev pub behind_push : Value → Call → Call
behind_push v c = with_ops (v ∷ c.ops) (with_place (c.place + 1) c)

pub variable_pushes : (i : Instr) → is_variable i ≡ true → is_operand (Some i) ≡ true
variable_pushes (Load k) h = refl
variable_pushes (LoadGlobal k) h = refl
variable_pushes i h = absurd (cc)

pub counted : (n : ℕ) (o : Option ℕ) → counts n o ≡ true → o ≡ Some n
counted n None h = absurd (cc)
counted n (Some k) h = let same : k ≡ n = grind (arith, common_steps) in ap Some same

pub bound : {X Y : Type 0} (o : Option X) (go : X → Option Y) → IsSome (o >>= go) → IsSome o
bound None go h = absurd (cc)
bound (Some x) go h = refl

none_taken : (v : Value) (c : Call) (below : Stack) → taken_all 0 (with_ops (v ∷ c.ops) c ∷ below) ≡ Some ([], with_ops (v ∷ c.ops) c ∷ below)
none_taken v c below =
    let few : nat_le 0 (length (v ∷ c.ops)) ≡ true = grind (arith, common_steps) in
    ap (λ b. cond b (Some ([], with_ops (v ∷ c.ops) c ∷ below)) None) few

one_taken : (v x : Value) (c : Call) (below : Stack) → taken_all 1 (with_ops (x ∷ v ∷ c.ops) c ∷ below) ≡ Some (x ∷ [], with_ops (v ∷ c.ops) c ∷ below)
one_taken v x c below =
    let few : nat_le 1 (length (x ∷ v ∷ c.ops)) ≡ true = grind (arith, common_steps) in
    ap (λ b. cond b (Some (x ∷ [], with_ops (v ∷ c.ops) c ∷ below)) None) few

-- a method of a value below no operands or one
abbrev pub method_then : ℕ → Option (List Value × Stack) → Outcome Stack
method_then m o = o >>= λ args. popped args.1 >>= λ receiver. finishes (called m receiver.0 args.0) receiver.1

pub method_alone : (m : ℕ) (v : Value) (c : Call) (below : Stack) (o : Option ℕ) → o ≡ Some 0
    → (o >>= λ n. method_then m (taken_all n (with_ops (v ∷ c.ops) c ∷ below))) ≡ finishes (called m v []) (c ∷ below)
method_alone m v c below o e =
    ap (λ (o : Option ℕ). o >>= λ n. method_then m (taken_all n (with_ops (v ∷ c.ops) c ∷ below))) e ∙ ap (method_then m) (none_taken v c below)

method_with : (m : ℕ) (v x : Value) (c : Call) (below : Stack) (o : Option ℕ) → o ≡ Some 1
    → (o >>= λ n. method_then m (taken_all n (with_ops (x ∷ v ∷ c.ops) c ∷ below))) ≡ finishes (called m v (x ∷ [])) (c ∷ below)
method_with m v x c below o e =
    ap (λ (o : Option ℕ). o >>= λ n. method_then m (taken_all n (with_ops (x ∷ v ∷ c.ops) c ∷ below))) e ∙ ap (method_then m) (one_taken v x c below)

module _ (u : CodeUnit) (f : Function) (g : List Value) (t : ℕ) where
  pub at_call : (i : Instr) (c : Call) (below : Stack) → slice_get u.functions c.function ≡ Some f → slice_get f.code c.place ≡ Some i → step u g (c ∷ below) t ≡ row u f i c.place g (c ∷ below) t
  unfolding step
  at_call i c below there at =
      ap (λ o. o >>= λ f. slice_get f.code c.place >>= λ i. row u f i c.place g (c ∷ below) t) there
      ∙ ap (λ o. o >>= λ i. row u f i c.place g (c ∷ below) t) at

  -- a step is the row of the instruction at the place
  pub step_at : (number at : ℕ) (s : Stack) → place_of s ≡ Some (number, at) → slice_get u.functions number ≡ Some f → step u g s t ≡ (slice_get f.code at >>= λ i. row u f i at g s t)
  unfolding step
  step_at number at s stands there =
      ap (λ o. o >>= λ (at : ℕ × ℕ). slice_get u.functions at.0 >>= λ f. slice_get f.code at.1 >>= λ i. row u f i at.1 g s t) stands
      ∙ ap (λ o. o >>= λ f. slice_get f.code at >>= λ i. row u f i at g s t) there

  loaded_row : (o : Option Value) (p : ℕ) (c : Call) (below : Stack)
      → onward f p (beside g (loaded o (with_place (p + 1) c ∷ below))) t (λ x. On x.0 x.1 t) ≡ (o >>= λ v. Some (On g (with_ops (v ∷ c.ops) (with_place (p + 1) c) ∷ below) t))
  loaded_row None p c below = refl
  loaded_row (Some v) p c below = refl

  push_row : (i : Instr) (c : Call) (below : Stack) → is_operand (Some i) ≡ true → row u f i c.place g (c ∷ below) t ≡ (pushes i g (c ∷ below) >>= λ v. Some (On g (behind_push v c ∷ below) t))
  push_row (Load k) c below h = loaded_row (slice_get c.slots k) c.place c below
  push_row (LoadGlobal k) c below h = loaded_row (slice_get g k) c.place c below
  push_row (PushInt n) c below h = refl
  push_row (PushText x) c below h = refl
  push_row i c below h = absurd (cc)

  -- where the row of a variable is there, so is its value
  pub variable_there : (i : Instr) (p : ℕ) (s : Stack) → is_variable i ≡ true → IsSome (row u f i p g s t) → IsSome (pushes i g s)
  variable_there (Load k) p [] h e = absurd (cc)
  variable_there (Load k) p (c ∷ below) h e = bound (slice_get c.slots k) (λ v. Some (On g (with_ops (v ∷ c.ops) (with_place (p + 1) c) ∷ below) t)) (subst IsSome (loaded_row (slice_get c.slots k) p c below) e)
  variable_there (LoadGlobal k) p [] h e = absurd (cc)
  variable_there (LoadGlobal k) p (c ∷ below) h e = bound (slice_get g k) (λ v. Some (On g (with_ops (v ∷ c.ops) (with_place (p + 1) c) ∷ below) t)) (subst IsSome (loaded_row (slice_get g k) p c below) e)
  variable_there i p s h e = absurd (cc)

  further_pushed : (n : ℕ) (o : Option Value) (c : Call) (below : Stack)
      → ((o >>= λ v. Some (On g (behind_push v c ∷ below) t)) >>= λ x. further x (rows u n)) ≡ (o >>= λ v. rows u n g (behind_push v c ∷ below) t)
  further_pushed n None c below = refl
  further_pushed n (Some v) c below = refl

  pub push_rows : (n : ℕ) (i : Instr) (c : Call) (below : Stack) → slice_get u.functions c.function ≡ Some f → slice_get f.code c.place ≡ Some i → is_operand (Some i) ≡ true
      → rows u (suc n) g (c ∷ below) t ≡ (pushes i g (c ∷ below) >>= λ v. rows u n g (behind_push v c ∷ below) t)
  push_rows n i c below there at h =
      ap (λ o. o >>= λ x. further x (rows u n)) (at_call i c below there at ∙ push_row i c below h) ∙ further_pushed n (pushes i g (c ∷ below)) c below

  alone_row : (j : Instr) (v : Value) (c : Call) (below : Stack) → looks 0 (Some j) ≡ true → row u f j c.place g (with_ops (v ∷ c.ops) c ∷ below) t ≡ goes_behind f c.place (seen j v []) g (c ∷ below) t
  alone_row (Method m) v c below h =
      ap (λ o. onward f c.place (beside g o) t (λ x. On x.0 x.1 t)) (method_alone m v (with_place (c.place + 1) c) below (slice_get argument_counts m) (counted 0 (slice_get argument_counts m) h))
  alone_row Item v c below h = absurd (cc)
  alone_row Key v c below h = absurd (cc)
  alone_row j v c below h = absurd (cc)

  item_row : (o : Option ℤ) (v : Value) (p : ℕ) (c : Call) (below : Stack) →
      onward f p (beside g ((o >>= λ n. Some (n, with_ops (v ∷ c.ops) c ∷ below)) >>= λ (i : ℤ × Stack). part_given (place.Index i.0) i.1)) t (λ x. On x.0 x.1 t)
      ≡ onward f p (beside g (finishes (o >>= λ i. part_of (place.Index i) v) (c ∷ below))) t (λ x. On x.0 x.1 t)
  item_row None v p c below = refl
  item_row (Some n) v p c below = refl

  key_row : (o : Option (List ℕ)) (v : Value) (p : ℕ) (c : Call) (below : Stack) →
      onward f p (beside g ((o >>= λ n. Some (n, with_ops (v ∷ c.ops) c ∷ below)) >>= λ (k : List ℕ × Stack). part_given (place.Key k.0) k.1)) t (λ x. On x.0 x.1 t)
      ≡ onward f p (beside g (finishes (o >>= λ k. part_of (place.Key k) v) (c ∷ below))) t (λ x. On x.0 x.1 t)
  key_row None v p c below = refl
  key_row (Some n) v p c below = refl

  with_row : (j : Instr) (v x : Value) (c : Call) (below : Stack) → looks 1 (Some j) ≡ true → row u f j c.place g (with_ops (x ∷ v ∷ c.ops) c ∷ below) t ≡ goes_behind f c.place (seen j v (x ∷ [])) g (c ∷ below) t
  with_row (Method m) v x c below h =
      ap (λ o. onward f c.place (beside g o) t (λ x. On x.0 x.1 t)) (method_with m v x (with_place (c.place + 1) c) below (slice_get argument_counts m) (counted 1 (slice_get argument_counts m) h))
  with_row Item v x c below h = item_row (as_int x) v c.place (with_place (c.place + 1) c) below
  with_row Key v x c below h = key_row (as_text x) v c.place (with_place (c.place + 1) c) below
  with_row j v x c below h = absurd (cc)

  -- a row that goes on or ends the program is so alone
  settled : {X : Type 0} (p : ℕ) (o : Outcome X) (go : X → List Value × Stack) → (onward f p o t (λ x. On (go x).0 (go x).1 t) >>= λ x. further x (rows u 0)) ≡ onward f p o t (λ x. On (go x).0 (go x).1 t)
  settled p None go = refl
  settled p (Some (Ok x)) go = refl
  settled p (Some (Err e)) go = elim (slice_get f.lines p) as (λ o. ((o >>= λ at. Some (Ends (point.Stop e at) t)) >>= λ x. further x (rows u 0)) ≡ (o >>= λ at. Some (Ends (point.Stop e at) t))) [ None ↦ refl | Some at ↦ refl ]

  abbrev pub there_in : Call → Type 0
  there_in c = slice_get u.functions c.function ≡ Some f

  pub last_alone : (o : Option Instr) (v : Value) (c : Call) (below : Stack) → there_in c → slice_get f.code c.place ≡ o → looks 0 o ≡ true
      → rows u 1 g (with_ops (v ∷ c.ops) c ∷ below) t ≡ (o >>= λ j. goes_behind f c.place (seen j v []) g (c ∷ below) t)
  last_alone None v c below there at h = absurd (cc)
  last_alone (Some j) v c below there at h =
      ap (λ o. o >>= λ x. further x (rows u 0)) (at_call j (with_ops (v ∷ c.ops) c) below there at ∙ alone_row j v c below h)
      ∙ settled c.place (beside g (finishes (seen j v []) (with_place (c.place + 1) c ∷ below))) (λ x. x)

  pub last_with : (o : Option Instr) (v x : Value) (c : Call) (below : Stack) → there_in c → slice_get f.code c.place ≡ o → looks 1 o ≡ true
      → rows u 1 g (with_ops (x ∷ v ∷ c.ops) c ∷ below) t ≡ (o >>= λ k. goes_behind f c.place (seen k v (x ∷ [])) g (c ∷ below) t)
  last_with None v x c below there at h = absurd (cc)
  last_with (Some k) v x c below there at h =
      ap (λ o. o >>= λ x. further x (rows u 0)) (at_call k (with_ops (x ∷ v ∷ c.ops) c) below there at ∙ with_row k v x c below h)
      ∙ settled c.place (beside g (finishes (seen k v (x ∷ [])) (with_place (c.place + 1) c ∷ below))) (λ x. x)

  pub middle : (o : Option Instr) (v : Value) (c : Call) (below : Stack) → there_in c → slice_get f.code c.place ≡ o → is_operand o ≡ true → looks 1 (slice_get f.code (c.place + 1)) ≡ true
      → rows u 2 g (with_ops (v ∷ c.ops) c ∷ below) t ≡ (o >>= λ j. pushes j g (c ∷ below) >>= λ x. slice_get f.code (c.place + 1) >>= λ k. goes_behind f (c.place + 1) (seen k v (x ∷ [])) g (c ∷ below) t)
  middle None v c below there at is h = absurd (cc)
  middle (Some j) v c below there at is h =
      push_rows 1 j (with_ops (v ∷ c.ops) c) below there at is
      ∙ ap (λ o. o >>= λ x. rows u 1 g (behind_push x (with_ops (v ∷ c.ops) c) ∷ below) t) (same j) ∙ by_operand (pushes j g (c ∷ below))
    where
      same : (j : Instr) → pushes j g (with_ops (v ∷ c.ops) c ∷ below) ≡ pushes j g (c ∷ below)
      same (Load k) = refl
      same (LoadGlobal k) = refl
      same (PushInt n) = refl
      same (PushText x) = refl
      same i = refl

      by_operand : (o : Option Value) → (o >>= λ x. rows u 1 g (behind_push x (with_ops (v ∷ c.ops) c) ∷ below) t) ≡ (o >>= λ x. slice_get f.code (c.place + 1) >>= λ k. goes_behind f (c.place + 1) (seen k v (x ∷ [])) g (c ∷ below) t)
      by_operand None = refl
      by_operand (Some x) = last_with (slice_get f.code (c.place + 1)) v x (with_place (c.place + 1) c) below there refl h
