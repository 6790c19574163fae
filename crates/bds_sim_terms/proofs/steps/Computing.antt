-- What values are made into: the machine's outcome, where it is there, is the source's.
use Rattle.std.proofs.Common.{◌≡◌, ℕ, ◌+◌, Bool, true, false, not, cond, List, [], ◌∷◌, ◌++◌, map, length, reverse, Option, Some, None, IsSome, Result, Ok, Err, slice_get, nat_le, neg_ℤ, refl, sym, ap, ◌∙◌, subst, arith, append_assoc}
use Rattle.std.proofs.lemmas.List.{reverse-append}
use Rattle.std.specs.Int.{int_wrap, w64}
use Rattle.bds_value.specs.declared.TheConstants.{MAX_ITEMS}
use Rattle.bds_value.specs.declared.faults.PutFault.{PutFault}
use Rattle.bds_value.specs.declared.faults.PutFault.TheVariants as put_fault
use Rattle.bds_lib.specs.Call.{method_of}
use Rattle.bds_lib.specs.Change.{change_of}
use Rattle.bds_lib.specs.declared.faults.LibFault.{LibFault}
use Rattle.bds_lib.specs.declared.faults.LibFault.TheVariants as lib_fault
use Rattle.bds_value.specs.declared.value.Place.{Place}
use Rattle.bds_value.specs.declared.value.Place.TheVariants.{Index, Key}
use Rattle.bds_value.specs.declared.value.Ty.{Ty}
use Rattle.bds_value.specs.declared.value.Value.{Value, out-Value}
use Rattle.bds_value.specs.declared.value.Value.TheVariants as value
use Rattle.bds_value.specs.Operators.{short_text}
use Rattle.bds_value.specs.Path.{item_of}
use Rattle.bds_value.specs.Text.{text_of, piece_of}
use Rattle.bds_value.specs.Value.{type_of}
use Rattle.bds_tree.specs.declared.expr.PrefixOp.TheVariants as sign
use Rattle.bds_value.specs.declared.faults.RunFault.{RunFault}
use Rattle.bds_value.specs.declared.faults.RunFault.TheVariants.{TooLong}
use Rattle.bds_code.specs.declared.instr.Instr.{Instr}
use Rattle.bds_code.specs.declared.instr.Instr.TheVariants as instr
use Rattle.bds_code.specs.declared.unit.Function.{Function}
use Rattle.bds_code.specs.declared.unit.Unit.{Unit as CodeUnit}
use Rattle.bds_code_frames.specs.Stack.{Call as Running, Stack}
use Rattle.bds_machine.specs.Calls.{Step, On}
use Rattle.bds_machine_values.specs.Faults.{Outcome, outcome}
use Rattle.bds_value.specs.RunFaults.{op_fault as as_fault, put_fault as as_put_fault}
use Rattle.bds_lib.specs.RunFaults.{lib_fault as as_lib_fault}
use Rattle.bds_machine_values.specs.Literals.{Pairs, paired, with_pairs, short_map}
use Rattle.bds_value.specs.Options.{◌>>=◌}
use Rattle.bds_value.specs.Readers.{as_bool, as_int, as_text}
use Rattle.bds_machine_values.specs.Operands.{taken_all}
use Rattle.bds_machine_values.specs.Results.{applied, part_of, called, mutated}
use Rattle.bds_machine_values.specs.Worked.{beside}
use Rattle.bds_machine.specs.Table.{onward, row}
use Rattle.bds_machine_values.specs.Typing.{leads, is_row, is_change_row}
use Rattle.bds_machine_values.specs.Values.{argument_counts}
use Rattle.bds_meaning.specs.Computed.{computed, pairs_of}
use Rattle.bds_schedule.specs.Faults.{outcome as source_outcome}
use Rattle.bds_value.specs.RunFaults.{put_fault as source_put_fault}
use Rattle.bds_lib.specs.RunFaults.{lib_fault as source_lib_fault}
use Rattle.bds_meaning.specs.Term.{Computation, Prefixed, Operated, Shown, Pieced, ItemTaken, KeyTaken, MethodCalled, ListMade, MapMade}
use Rattle.bds_value.specs.Readers.{is_true, number_in, text_in}
use Rattle.bds_sim_terms.specs.steps.Stands.{IsCode}
use Rattle.bds_sim_terms.proofs.steps.Pairing.{pairs_are}
use Rattle.bds_sim.proofs.Reading.{bool_read, number_read, text_read}
use Rattle.bds_sim_terms.proofs.steps.Slots.{split}
use Rattle.bds_sim_terms.proofs.steps.Rows.{frame, finishing, outcome_told, applied_told, operator_row, taken_front}

-- an outcome is the source's, where it is there
abbrev pub Tells : Outcome Value → Result Value RunFault → Type 0
Tells o r = IsSome o → o ≡ Some r

pub put_told : (r : Result Value PutFault) → Tells (outcome as_put_fault r) (source_outcome source_put_fault r)
put_told (Ok v) h = refl
put_told (Err (put_fault.NoIndex i n)) h = refl
put_told (Err (put_fault.NoKey k)) h = refl
put_told (Err (put_fault.TooLong n)) h = refl
put_told (Err put_fault.NoMemory) h = absurd (cc h)

part_told : (p : Place) (v : Value) → Tells (part_of p v) (source_outcome source_put_fault (item_of (p ∷ []) v))
part_told p v h = go (leads (p ∷ []) (type_of v)) h
  where
    go : (b : Bool) → IsSome (cond b (outcome as_put_fault (item_of (p ∷ []) v)) None) → cond b (outcome as_put_fault (item_of (p ∷ []) v)) None ≡ Some (source_outcome source_put_fault (item_of (p ∷ []) v))
    go true h = put_told (item_of (p ∷ []) v) h
    go false h = absurd (cc h)

-- an outcome of what is read of a value
abbrev pub read_as : {X : Type 0} → Option X → (X → Outcome Value) → Outcome Value
read_as o make = o >>= make

module _ (u : CodeUnit) (f : Function) (fn pc : ℕ) (g slots : List Value) (below : Stack) (t : ℕ) where
  abbrev finishes_at : List Value → Outcome Value → Option Step
  finishes_at ops o = finishing f pc g (frame fn (pc + 1) slots ops) below t o

  blank_row : (x : Value) (ops : List Value) → row u f instr.Blank pc g (frame fn pc slots (x ∷ ops) ∷ below) t ≡ finishes_at ops (outcome as_fault (short_text (piece_of x)))
  blank_row x ops = refl

  show_row : (x : Value) (ops : List Value) → row u f instr.Show pc g (frame fn pc slots (x ∷ ops) ∷ below) t ≡ finishes_at ops (outcome as_fault (short_text (text_of x)))
  show_row x ops = refl

  abbrev with_rest : {X : Type 0} → List Value → Option X → Option (X × Stack)
  with_rest ops o = o >>= λ x. Some (x, frame fn (pc + 1) slots ops ∷ below)

  -- a row that reads its last operand
  read_row : {X : Type 0} (ops : List Value) (make : X → Outcome Value) (o : Option X)
      → onward f pc (beside g (with_rest ops o >>= λ r. Rattle.bds_machine_values.specs.Faults.finishes (make r.0) r.1)) t (λ x. On x.0 x.1 t) ≡ finishes_at ops (read_as o make)
  read_row ops make None = refl
  read_row ops make (Some x) = refl

  neg_row : (x : Value) (ops : List Value) → row u f instr.Neg pc g (frame fn pc slots (x ∷ ops) ∷ below) t ≡ finishes_at ops (read_as (as_int x) (λ n. Some (Ok (value.Int (int_wrap w64 (neg_ℤ n))))))
  neg_row x ops = read_row ops (λ n. Some (Ok (value.Int (int_wrap w64 (neg_ℤ n))))) (as_int x)

  not_row : (x : Value) (ops : List Value) → row u f instr.Not pc g (frame fn pc slots (x ∷ ops) ∷ below) t ≡ finishes_at ops (read_as (as_bool x) (λ b. Some (Ok (value.Bool (not b)))))
  not_row x ops = read_row ops (λ b. Some (Ok (value.Bool (not b)))) (as_bool x)

  -- a row that reads its last operand, with one more below it
  read_two : {X : Type 0} (v : Value) (ops : List Value) (make : X → Value → Outcome Value) (o : Option X)
      → onward f pc (beside g (with_rest (v ∷ ops) o >>= λ r. Rattle.bds_code_frames.specs.Stack.popped r.1 >>= λ q. Rattle.bds_machine_values.specs.Faults.finishes (make r.0 q.0) q.1)) t (λ x. On x.0 x.1 t) ≡ finishes_at ops (read_as o (λ x. make x v))
  read_two v ops make None = refl
  read_two v ops make (Some x) = refl

  item_row : (i l : Value) (ops : List Value) → row u f instr.Item pc g (frame fn pc slots (i ∷ l ∷ ops) ∷ below) t ≡ finishes_at ops (read_as (as_int i) (λ n. part_of (Index n) l))
  item_row i l ops = read_two l ops (λ n v. part_of (Index n) v) (as_int i)

  key_row : (k m : Value) (ops : List Value) → row u f instr.Key pc g (frame fn pc slots (k ∷ m ∷ ops) ∷ below) t ≡ finishes_at ops (read_as (as_text k) (λ s. part_of (Key s) m))
  key_row k m ops = read_two m ops (λ s v. part_of (Key s) v) (as_text k)

  abbrev list_outcome : Ty → ℕ → List Value → Outcome Value
  list_outcome ty n items = cond (nat_le n MAX_ITEMS) (Some (Ok (value.List ty items))) (Some (Err (TooLong n)))

  abbrev list_step : Ty → ℕ → Option (List Value × Stack) → Bool → Option Step
  list_step ty n o b = onward f pc (beside g (cond b (o >>= λ r. Rattle.bds_machine_values.specs.Faults.gives (value.List ty r.0) r.1) (Some (Err (TooLong n))))) t (λ x. On x.0 x.1 t)

  list_row : (ty : Ty) (us ops : List Value) (n : ℕ) → length us ≡ n → row u f (instr.MakeList ty n) pc g (frame fn pc slots (us ++ ops) ∷ below) t ≡ finishes_at ops (list_outcome ty n (reverse us))
  list_row ty us ops n e = ap (λ o. list_step ty n o (nat_le n MAX_ITEMS)) (taken_front fn (pc + 1) n slots us ops below e) ∙ go (nat_le n MAX_ITEMS)
    where
      go : (b : Bool) → list_step ty n (Some (reverse us, frame fn (pc + 1) slots ops ∷ below)) b ≡ finishes_at ops (cond b (Some (Ok (value.List ty (reverse us)))) (Some (Err (TooLong n))))
      go true = refl
      go false = refl

-- what was read is what the source takes
read_told : {X : Type 0} (o : Option X) (make : X → Outcome Value) (x : X) (r : Result Value RunFault) → ((y : X) → o ≡ Some y → y ≡ x) → Tells (make x) r → Tells (read_as o make) r
read_told None make x r same h some = absurd (cc some)
read_told (Some y) make x r same h some = let e = same y refl in ap make e ∙ h (subst (λ y. IsSome (make y)) e some)

list_told : (ty : Ty) (n : ℕ) (items : List Value) → length items ≡ n → cond (nat_le n MAX_ITEMS) (Some (Ok (value.List ty items))) (Some (Err (TooLong n))) ≡ Some (Rattle.bds_meaning.specs.Computed.list_made ty items)
list_told ty n items e = ap (λ n. cond (nat_le n MAX_ITEMS) (Some (Ok (value.List ty items))) (Some (Err (TooLong n)))) (sym e) ∙ go (nat_le (length items) MAX_ITEMS)
  where
    go : (b : Bool) → cond b (Some (Ok (value.List ty items))) (Some (Err (TooLong (length items)))) ≡ Some (cond b (Ok (value.List ty items)) (Err (TooLong (length items))))
    go true = refl
    go false = refl

-- the outcome of a computation with these operands
pub record Computes (comp : Computation) (us : List Value) (i : Instr) : Type 0 where
  pub outcome : Outcome Value
  pub row_is : (u : CodeUnit) (f : Function) (fn pc : ℕ) (g slots ops : List Value) (below : Stack) (t : ℕ) → row u f i pc g (frame fn pc slots (us ++ ops) ∷ below) t ≡ finishing f pc g (frame fn (pc + 1) slots ops) below t outcome
  pub told : IsSome outcome → outcome ≡ Some (computed comp us)

lib_told : (r : Result Value LibFault) → Tells (outcome as_lib_fault r) (source_outcome source_lib_fault r)
lib_told (Ok v) h = refl
lib_told (Err (lib_fault.NoIndex i n)) h = refl
lib_told (Err (lib_fault.TooLong n)) h = refl
lib_told (Err (lib_fault.NotANumber s)) h = refl
lib_told (Err lib_fault.NoMemory) h = absurd (cc h)

called_told : (m : ℕ) (receiver : Value) (args : List Value) → Tells (called m receiver args) (source_outcome source_lib_fault (method_of m receiver args))
called_told m receiver args h = go (is_row m (type_of receiver) (map type_of args)) h
  where
    go : (b : Bool) → IsSome (cond b (outcome as_lib_fault (method_of m receiver args)) None) → cond b (outcome as_lib_fault (method_of m receiver args)) None ≡ Some (source_outcome source_lib_fault (method_of m receiver args))
    go true h = lib_told (method_of m receiver args) h
    go false h = absurd (cc h)

pub mutated_told : (m : ℕ) (part : Value) (args : List Value) → Tells (mutated m part args) (source_outcome source_lib_fault (change_of m part args))
mutated_told m part args h = go (is_change_row m (type_of part) (map type_of args)) h
  where
    go : (b : Bool) → IsSome (cond b (outcome as_lib_fault (change_of m part args)) None) → cond b (outcome as_lib_fault (change_of m part args)) None ≡ Some (source_outcome source_lib_fault (change_of m part args))
    go true h = lib_told (change_of m part args) h
    go false h = absurd (cc h)

module _ (u : CodeUnit) (f : Function) (fn pc : ℕ) (g slots : List Value) (below : Stack) (t : ℕ) where
  abbrev method_args : ℕ → Option (List Value × Stack) → Option Step
  method_args m o = onward f pc (beside g (o >>= λ args. Rattle.bds_code_frames.specs.Stack.popped args.1 >>= λ receiver. Rattle.bds_machine_values.specs.Faults.finishes (called m receiver.0 args.0) receiver.1)) t (λ x. On x.0 x.1 t)

  abbrev method_count : ℕ → Stack → Option ℕ → Option Step
  method_count m s o = onward f pc (beside g (o >>= λ n. taken_all n s >>= λ args. Rattle.bds_code_frames.specs.Stack.popped args.1 >>= λ receiver. Rattle.bds_machine_values.specs.Faults.finishes (called m receiver.0 args.0) receiver.1)) t (λ x. On x.0 x.1 t)

  pub method_row : (m k : ℕ) (args ops : List Value) (receiver : Value) → slice_get argument_counts m ≡ Some k → length args ≡ k → row u f (instr.Method m) pc g (frame fn pc slots (args ++ (receiver ∷ ops)) ∷ below) t ≡ finishing f pc g (frame fn (pc + 1) slots ops) below t (called m receiver (reverse args))
  method_row m k args ops receiver counts e =
      ap (method_count m (frame fn (pc + 1) slots (args ++ (receiver ∷ ops)) ∷ below)) counts ∙ ap (method_args m) (taken_front fn (pc + 1) k slots args (receiver ∷ ops) below e)

-- a method of the first operand
method_computes : (m k : ℕ) (us : List Value) → slice_get argument_counts m ≡ Some k → length us ≡ k + 1 → Computes (MethodCalled m) us (instr.Method m)
method_computes m k us counts e = let s = split us k 1 e in go s.args s.steps s.few s.rest s.is
  where
    go : (args steps : List Value) → length args ≡ k → length steps ≡ 1 → us ≡ args ++ steps → Computes (MethodCalled m) us (instr.Method m)
    go args [] few q is = absurd (omega (arith, q))
    go args (x ∷ y ∷ steps) few q is = absurd (omega (arith, q))
    go args (receiver ∷ []) few q is =
        let turned : reverse us ≡ receiver ∷ reverse args = ap reverse is ∙ reverse-append args (receiver ∷ []) in record {
          outcome = called m receiver (reverse args);
          row_is = λ u f fn pc g slots ops below t.
              ap (λ l. row u f (instr.Method m) pc g (frame fn pc slots l ∷ below) t) (ap (λ l. l ++ ops) is ∙ append_assoc args (receiver ∷ []) ops)
              ∙ method_row u f fn pc g slots below t m k args ops receiver counts few;
          told = λ h. called_told m receiver (reverse args) h ∙ ap (λ l. Some (Rattle.bds_meaning.specs.Computed.method_called m l)) (sym turned);
        }

module _ (u : CodeUnit) (f : Function) (fn pc : ℕ) (g slots : List Value) (below : Stack) (t : ℕ) where
  abbrev map_pairs : Ty → List Value → Option Pairs → Option Step
  map_pairs ty ops o = onward f pc (beside g (o >>= λ ps. Rattle.bds_machine_values.specs.Faults.finishes (short_map ty (with_pairs [] ps)) (frame fn (pc + 1) slots ops ∷ below))) t (λ x. On x.0 x.1 t)

  abbrev map_taken : Ty → Option (List Value × Stack) → Option Step
  map_taken ty o = onward f pc (beside g (o >>= λ r. paired r.0 >>= λ ps. Rattle.bds_machine_values.specs.Faults.finishes (short_map ty (with_pairs [] ps)) r.1)) t (λ x. On x.0 x.1 t)

  pairs_row : (ty : Ty) (ops : List Value) (o : Option Pairs) → map_pairs ty ops o ≡ finishing f pc g (frame fn (pc + 1) slots ops) below t (o >>= λ ps. short_map ty (with_pairs [] ps))
  pairs_row ty ops None = refl
  pairs_row ty ops (Some ps) = refl

  map_row : (ty : Ty) (k : ℕ) (us ops : List Value) → length us ≡ k + k → row u f (instr.MakeMap ty k) pc g (frame fn pc slots (us ++ ops) ∷ below) t ≡ finishing f pc g (frame fn (pc + 1) slots ops) below t (paired (reverse us) >>= λ ps. short_map ty (with_pairs [] ps))
  map_row ty k us ops e = ap (map_taken ty) (taken_front fn (pc + 1) (k + k) slots us ops below e) ∙ pairs_row ty ops (paired (reverse us))

short_told : (ty : Ty) (ps : Pairs) → short_map ty ps ≡ Some (Rattle.bds_meaning.specs.Computed.map_made ty ps)
short_told ty ps = go (nat_le (length ps) MAX_ITEMS)
  where
    go : (b : Bool) → cond b (Some (Ok (value.Map ty ps))) (Some (Err (TooLong (length ps)))) ≡ Some (cond b (Ok (value.Map ty ps)) (Err (TooLong (length ps))))
    go true = refl
    go false = refl

map_computes : (ty : Ty) (k : ℕ) (us : List Value) → length us ≡ k + k → Computes (MapMade ty) us (instr.MakeMap ty k)
map_computes ty k us e = record {
  outcome = paired (reverse us) >>= λ ps. short_map ty (with_pairs [] ps);
  row_is = λ u f fn pc g slots ops below t. map_row u f fn pc g slots below t ty k us ops e;
  told = go (paired (reverse us)) refl;
}
  where
    go : (o : Option Pairs) → paired (reverse us) ≡ o → IsSome (o >>= λ ps. short_map ty (with_pairs [] ps)) → (o >>= λ ps. short_map ty (with_pairs [] ps)) ≡ Some (computed (MapMade ty) us)
    go None q h = absurd (cc h)
    go (Some ps) q h = ap (short_map ty) (pairs_are us ps q) ∙ short_told ty (pairs_of us)

module _ (i : Instr) where
  one : (P : List Value → Type 0) (us : List Value) → length us ≡ 1 → ((x : Value) → P (x ∷ [])) → P us
  one P [] e h = absurd (omega (arith, e))
  one P (x ∷ []) e h = h x
  one P (x ∷ y ∷ us) e h = absurd (omega (arith, e))

  two : (P : List Value → Type 0) (us : List Value) → length us ≡ 2 → ((y x : Value) → P (y ∷ x ∷ [])) → P us
  two P [] e h = absurd (omega (arith, e))
  two P (x ∷ []) e h = absurd (omega (arith, e))
  two P (y ∷ x ∷ []) e h = h y x
  two P (x ∷ y ∷ z ∷ us) e h = absurd (omega (arith, e))

  pub computes : (comp : Computation) (n : ℕ) (us : List Value) → IsCode comp n i → length us ≡ n → Computes comp us i
  computes (Prefixed sign.Neg) n us c e = one (λ us. Computes (Prefixed sign.Neg) us i) us (e ∙ c.0) λ x. subst (Computes (Prefixed sign.Neg) (x ∷ [])) (sym c.1) (record {
    outcome = read_as (as_int x) (λ n. Some (Ok (value.Int (int_wrap w64 (neg_ℤ n)))));
    row_is = λ u f fn pc g slots ops below t. neg_row u f fn pc g slots below t x ops;
    told = read_told (as_int x) (λ n. Some (Ok (value.Int (int_wrap w64 (neg_ℤ n))))) (number_in x) (computed (Prefixed sign.Neg) (x ∷ [])) (λ y q. sym (number_read (out-Value x) y q)) (λ h. refl);
  })
  computes (Prefixed sign.Not) n us c e = one (λ us. Computes (Prefixed sign.Not) us i) us (e ∙ c.0) λ x. subst (Computes (Prefixed sign.Not) (x ∷ [])) (sym c.1) (record {
    outcome = read_as (as_bool x) (λ b. Some (Ok (value.Bool (not b))));
    row_is = λ u f fn pc g slots ops below t. not_row u f fn pc g slots below t x ops;
    told = read_told (as_bool x) (λ b. Some (Ok (value.Bool (not b)))) (is_true x) (computed (Prefixed sign.Not) (x ∷ [])) (λ y q. sym (bool_read (out-Value x) y q)) (λ h. refl);
  })
  computes (Operated o) n us c e = two (λ us. Computes (Operated o) us i) us (e ∙ c.0) λ y x. subst (Computes (Operated o) (y ∷ x ∷ [])) (sym c.1) (record {
    outcome = applied o x y;
    row_is = λ u f fn pc g slots ops below t. operator_row u f fn pc g slots below t o x y ops;
    told = applied_told o x y;
  })
  computes Shown n us c e = one (λ us. Computes Shown us i) us (e ∙ c.0) λ x. subst (Computes Shown (x ∷ [])) (sym c.1) (record {
    outcome = outcome as_fault (short_text (text_of x));
    row_is = λ u f fn pc g slots ops below t. show_row u f fn pc g slots below t x ops;
    told = outcome_told (short_text (text_of x));
  })
  computes Pieced n us c e = one (λ us. Computes Pieced us i) us (e ∙ c.0) λ x. subst (Computes Pieced (x ∷ [])) (sym c.1) (record {
    outcome = outcome as_fault (short_text (piece_of x));
    row_is = λ u f fn pc g slots ops below t. blank_row u f fn pc g slots below t x ops;
    told = outcome_told (short_text (piece_of x));
  })
  computes ItemTaken n us c e = two (λ us. Computes ItemTaken us i) us (e ∙ c.0) λ y x. subst (Computes ItemTaken (y ∷ x ∷ [])) (sym c.1) (record {
    outcome = read_as (as_int y) (λ n. part_of (Index n) x);
    row_is = λ u f fn pc g slots ops below t. item_row u f fn pc g slots below t y x ops;
    told = read_told (as_int y) (λ n. part_of (Index n) x) (number_in y) (computed ItemTaken (y ∷ x ∷ [])) (λ z q. sym (number_read (out-Value y) z q)) (part_told (Index (number_in y)) x);
  })
  computes KeyTaken n us c e = two (λ us. Computes KeyTaken us i) us (e ∙ c.0) λ y x. subst (Computes KeyTaken (y ∷ x ∷ [])) (sym c.1) (record {
    outcome = read_as (as_text y) (λ s. part_of (Key s) x);
    row_is = λ u f fn pc g slots ops below t. key_row u f fn pc g slots below t y x ops;
    told = read_told (as_text y) (λ s. part_of (Key s) x) (text_in y) (computed KeyTaken (y ∷ x ∷ [])) (λ z q. sym (text_read (out-Value y) z q)) (part_told (Key (text_in y)) x);
  })
  computes (ListMade ty) n us c e = subst (Computes (ListMade ty) us) (sym c) (record {
    outcome = cond (nat_le n MAX_ITEMS) (Some (Ok (value.List ty (reverse us)))) (Some (Err (TooLong n)));
    row_is = λ u f fn pc g slots ops below t. list_row u f fn pc g slots below t ty us ops n e;
    told = λ h. list_told ty n (reverse us) (Rattle.std.proofs.lemmas.List.length-reverse us ∙ e);
  })
  computes (MethodCalled m) n us c e = subst (Computes (MethodCalled m) us) (sym c.3) (method_computes m c.0 us c.1 (e ∙ c.2))
  computes (MapMade ty) n us c e = subst (Computes (MapMade ty) us) (sym c.2) (map_computes ty c.0 us (e ∙ c.1))
