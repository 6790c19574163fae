-- Rows that push a number: of a variable, of the code, or one that is seen in a list.
use Rattle.std.proofs.Common.{◌≡◌, ◌+◌, ℕ, suc, ℤ, List, [], ◌∷◌, ◌++◌, slice_get, true, Option, Some, None, Ok, IsSome, refl, ap, ◌∙◌, subst}
use Rattle.bds_value.specs.declared.method_numbers.TheConstants.{LIST_SIZE}
use Rattle.bds_value.specs.declared.value.Place.TheVariants.{Index}
use Rattle.bds_value.specs.declared.value.Value.{Value, out-Value}
use Rattle.bds_value.specs.declared.value.Value.TheVariants as value
use Rattle.bds_value.specs.Options.{◌>>=◌}
use Rattle.bds_value.specs.Path.{child, fault_at, item_of, onward as gone_on}
use Rattle.bds_value.specs.Readers.{int_at}
use Rattle.bds_value.specs.RunFaults.{put_fault}
use Rattle.bds_value.specs.Value.{type_of}
use Rattle.bds_lib.specs.Call.{method_of}
use Rattle.bds_lib.specs.RunFaults.{lib_fault}
use Rattle.bds_code.specs.declared.instr.Instr.{Instr}
use Rattle.bds_code.specs.declared.instr.Instr.TheVariants.{Item, Method}
use Rattle.bds_code.specs.declared.unit.Function.{Function}
use Rattle.bds_code.specs.declared.unit.Unit.{Unit as CodeUnit}
use Rattle.bds_code_frames.specs.Stack.{Call, Stack, with_ops, with_place}
use Rattle.bds_machine.specs.Calls.{Step, On}
use Rattle.bds_machine_values.specs.Faults.{Outcome, outcome, finishes}
use Rattle.bds_machine_values.specs.Values.{counts, argument_counts, part_given}
use Rattle.bds_machine.specs.Looks.{pushes}
use Rattle.bds_machine_values.specs.Results.{called, part_of}
use Rattle.bds_machine.specs.Running.{rows, further}
use Rattle.bds_machine.specs.Stretches.{with_pushed, IsOf, Runs, Leads, Pushes, IsSize, IsItem, IsIndexed}
use Rattle.bds_machine_values.specs.Worked.{beside}
use Rattle.bds_machine.specs.Table.{onward, row}
use Rattle.bds_machine_values.specs.Typing.{is_row, leads}
use Rattle.bds_machine_values.proofs.Applied.{there_where}
use Rattle.bds_machine.proofs.LastLooks.{at_call, counted, method_alone}
use Rattle.bds_machine.proofs.Strides.{first_there}
use Rattle.bds_machine.proofs.Stretching.{pushed_rows}

module _ (u : CodeUnit) (f : Function) (g : List Value) (t : ℕ) where
  -- a row that goes on with this outcome as the last operand
  abbrev given : ℕ → Outcome Value → Stack → Option Step
  given p o s = onward f p (beside g (finishes o s)) t (λ x. On x.0 x.1 t)

  size_row : (m : ℕ) (a : Value) (c : Call) (below : Stack) → counts 0 (slice_get argument_counts m) ≡ true
      → row u f (Method m) c.place g (with_ops (a ∷ c.ops) c ∷ below) t ≡ given c.place (called m a []) (with_place (c.place + 1) c ∷ below)
  size_row m a c below alone =
      ap (λ o. onward f c.place (beside g o) t (λ x. On x.0 x.1 t)) (method_alone m a (with_place (c.place + 1) c) below (slice_get argument_counts m) (counted 0 (slice_get argument_counts m) alone))

  item_row : (k : ℤ) (a : Value) (c : Call) (below : Stack) → row u f Item c.place g (with_ops (value.Int k ∷ a ∷ c.ops) c ∷ below) t ≡ given c.place (part_of (Index k) a) (with_place (c.place + 1) c ∷ below)
  item_row k a c below =
      ap (λ v. onward f c.place (beside g ((int_at v >>= λ n. Some (n, with_ops (a ∷ c.ops) (with_place (c.place + 1) c) ∷ below)) >>= λ (i : ℤ × Stack). part_given (Index i.0) i.1)) t (λ x. On x.0 x.1 t)) (value.outs-Int k)

  there_given : (p : ℕ) (o : Outcome Value) (s : Stack) → IsSome (given p o s) → IsSome o
  there_given p None s h = h
  there_given p (Some r) s h = refl

  row_here : (i : Instr) (c : Call) (below : Stack) → slice_get u.functions c.function ≡ Some f → slice_get f.code c.place ≡ Some i → IsSome (rows u 1 g (c ∷ below) t) → IsSome (row u f i c.place g (c ∷ below) t)
  row_here i c below of here fine = subst IsSome (at_call u f g t i c below of here) (first_there u 0 g (c ∷ below) t fine)

  size_there : (place m : ℕ) (a : Value) (vs : List Value) (s : Stack) → IsOf u f s → slice_get f.code place ≡ Some (Method m) → counts 0 (slice_get argument_counts m) ≡ true
      → IsSome (rows u 1 g (with_pushed (a ∷ vs) place s) t) → IsSome (called m a [])
  size_there place m a vs [] of here alone fine = absurd of
  size_there place m a vs (c ∷ below) of here alone fine =
      let call = with_ops (vs ++ c.ops) (with_place place c) in
      there_given place (called m a []) (with_place (place + 1) call ∷ below) (subst IsSome (size_row m a call below alone) (row_here (Method m) (with_ops (a ∷ vs ++ c.ops) call) below of here fine))

  item_there : (place : ℕ) (k : ℤ) (a : Value) (vs : List Value) (s : Stack) → IsOf u f s → slice_get f.code place ≡ Some Item → IsSome (rows u 1 g (with_pushed (value.Int k ∷ a ∷ vs) place s) t) → IsSome (part_of (Index k) a)
  item_there place k a vs [] of here fine = absurd of
  item_there place k a vs (c ∷ below) of here fine =
      let call = with_ops (vs ++ c.ops) (with_place place c) in
      there_given place (part_of (Index k) a) (with_place (place + 1) call ∷ below) (subst IsSome (item_row k a call below) (row_here Item (with_ops (value.Int k ∷ a ∷ vs ++ c.ops) call) below of here fine))

  size_rows : (n place m : ℕ) (a v : Value) (vs : List Value) (s : Stack) → IsOf u f s → slice_get f.code place ≡ Some (Method m) → counts 0 (slice_get argument_counts m) ≡ true → called m a [] ≡ Some (Ok v)
      → rows u (suc n) g (with_pushed (a ∷ vs) place s) t ≡ rows u n g (with_pushed (v ∷ vs) (place + 1) s) t
  size_rows n place m a v vs [] of here alone e = absurd of
  size_rows n place m a v vs (c ∷ below) of here alone e =
      let call = with_ops (vs ++ c.ops) (with_place place c) in
      ap (λ o. o >>= λ x. further x (rows u n))
      (at_call u f g t (Method m) (with_ops (a ∷ vs ++ c.ops) call) below of here ∙ size_row m a call below alone ∙ ap (λ o. given place o (with_place (place + 1) call ∷ below)) e)

  item_rows : (n place : ℕ) (k : ℤ) (a v : Value) (vs : List Value) (s : Stack) → IsOf u f s → slice_get f.code place ≡ Some Item → part_of (Index k) a ≡ Some (Ok v)
      → rows u (suc n) g (with_pushed (value.Int k ∷ a ∷ vs) place s) t ≡ rows u n g (with_pushed (v ∷ vs) (place + 1) s) t
  item_rows n place k a v vs [] of here e = absurd of
  item_rows n place k a v vs (c ∷ below) of here e =
      let call = with_ops (vs ++ c.ops) (with_place place c) in
      ap (λ o. o >>= λ x. further x (rows u n))
      (at_call u f g t Item (with_ops (value.Int k ∷ a ∷ vs ++ c.ops) call) below of here ∙ item_row k a call below ∙ ap (λ o. given place o (with_place (place + 1) call ∷ below)) e)

module _ (f : Function) (place : ℕ) (i : Instr) (here : slice_get f.code place ≡ Some i) where
  pub size_seen : (a v : Value) (g vs : List Value) (s : Stack) (m : ℕ) → i ≡ Method m → m ≡ LIST_SIZE → method_of m a [] ≡ Ok v → Runs f place (a ∷ vs) g s → IsSize f place a v
  size_seen a v g vs s m is size e r =
      let alone : counts 0 (slice_get argument_counts m) ≡ true = ap (λ m. counts 0 (slice_get argument_counts m)) size in
      let there = size_there r.unit f g r.ticks place m a vs s r.call (here ∙ ap Some is) alone (r.fine 1) in
      record { method = m; there = here ∙ ap Some is; alone = alone; gives = there_where (is_row m (type_of a) []) (outcome lib_fault (method_of m a [])) there ∙ ap (outcome lib_fault) e }

  pub item_seen : (a v : Value) (k : ℤ) (g vs : List Value) (s : Stack) → i ≡ Item → child (Index k) (out-Value a) ≡ Some v → Runs f place (value.Int k ∷ a ∷ vs) g s → IsItem f place a k v
  item_seen a v k g vs s is e r =
      let there = item_there r.unit f g r.ticks place k a vs s r.call (here ∙ ap Some is) (r.fine 1) in
      record {
        there = here ∙ ap Some is;
        gives = there_where (leads (Index k ∷ []) (type_of a)) (outcome put_fault (item_of (Index k ∷ []) a)) there ∙ ap (λ o. outcome put_fault (gone_on o (fault_at (Index k) (out-Value a)) (item_of []))) e;
      }

  module _ (g : List Value) (s : Stack) where
    pub push_one : (v : Value) → pushes i g s ≡ Some v → Pushes f place g s v (place + 1)
    push_one v e u t vs n of = (n, pushed_rows u f g t n place i v vs s of here e)

    pub push_size : (a v : Value) → pushes i g s ≡ Some a → IsSize f (place + 1) a v → Pushes f place g s v (place + 1 + 1)
    push_size a v e z u t vs n of = (suc n, pushed_rows u f g t (suc n) place i a vs s of here e ∙ size_rows u f g t n (place + 1) z.method a v vs s of z.there z.alone z.gives)

    pub push_item : (a v : Value) → pushes i g s ≡ Some a → IsIndexed f (place + 1) a g s v → Pushes f place g s v (place + 1 + 1 + 1)
    push_item a v e z u t vs n of = (
      suc (suc n),
      pushed_rows u f g t (suc (suc n)) place i a vs s of here e ∙ pushed_rows u f g t (suc n) (place + 1) z.instr (value.Int z.index) (a ∷ vs) s of z.there z.pushed
          ∙ item_rows u f g t n (place + 1 + 1) z.index a v vs s of z.item.there z.item.gives,
    )

module _ (f : Function) (place next : ℕ) (g : List Value) (s : Stack) (v : Value) (p : Pushes f place g s v next) (vs : List Value) where
  pub pushes_runs : Runs f place vs g s → Runs f next (v ∷ vs) g s
  pushes_runs r = record { unit = r.unit; ticks = r.ticks; call = r.call; fine = λ n. let far = p r.unit r.ticks vs n r.call in subst IsSome far.1 (r.fine (suc far.0)) }

  pub pushes_leads : (g' : List Value) (s' : Stack) → Leads f next (v ∷ vs) g s g' s' → Leads f place vs g s g' s'
  pushes_leads g' s' l u t of =
      let far = l u t of in
      let near = p u t vs (suc far.0) of in
      (near.0, near.1 ∙ far.1)
