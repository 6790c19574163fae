-- Rows that make an operand above a value don't touch it, so that they may run without it.
use Rattle.std.proofs.Common.{◌≡◌, ◌<◌, ◌+◌, ◌-◌, ℕ, zero, suc, List, [], ◌∷◌, ◌++◌, length, slice_get, nat_le, cond, Bool, true, false, Option, Some, None, Result, Ok, Err, IsSome, refl, sym, ap, ◌∙◌, subst, arith}
use Rattle.bds_value.specs.declared.faults.RunFault.{RunFault}
use Rattle.bds_value.specs.declared.value.At.{At}
use Rattle.bds_value.specs.declared.value.Op.{Op}
use Rattle.bds_value.specs.declared.value.Op.TheVariants as op
use Rattle.bds_value.specs.declared.value.Value.{Value}
use Rattle.bds_value.specs.declared.value.Value.TheVariants as value
use Rattle.bds_value.specs.Operators.{short_text}
use Rattle.bds_value.specs.Options.{◌>>=◌}
use Rattle.bds_value.specs.RunFaults.{op_fault}
use Rattle.bds_value.specs.Text.{text_of, piece_of}
use Rattle.bds_code.specs.declared.instr.Instr.{Instr}
use Rattle.bds_code.specs.declared.instr.Instr.TheVariants.{Load, LoadGlobal, PushInt, PushText, Show, Blank, Add, Sub, Mul, Div, Rem, Concat, Method}
use Rattle.bds_code.specs.declared.unit.Function.{Function}
use Rattle.bds_code.specs.declared.unit.Unit.{Unit as CodeUnit}
use Rattle.bds_code_frames.specs.Stack.{Call, Stack, with_ops, with_place}
use Rattle.bds_machine.specs.declared.point.Point.TheVariants as point
use Rattle.bds_machine.specs.Calls.{Step, On, Ends}
use Rattle.bds_machine_values.specs.declared.faults.RowFault.{RowFault}
use Rattle.bds_machine_values.specs.declared.faults.RowFault.TheVariants.{Fault, NoMemory}
use Rattle.bds_machine_values.specs.Faults.{Outcome, Leaves, outcome, finishes}
use Rattle.bds_machine_values.specs.Values.{counts, argument_counts, loaded}
use Rattle.bds_machine.specs.Looks.{pushes, is_variable, looks, above, above_behind, seen, goes_behind, at_place, worked_rows, Ran, looked_last, looked_far}
use Rattle.bds_machine_values.specs.Results.{applied, called}
use Rattle.bds_machine.specs.Running.{rows, further}
use Rattle.bds_machine_values.specs.Worked.{beside, worked}
use Rattle.bds_machine.specs.Table.{onward, row}
use Rattle.bds_machine.proofs.LastLooks.{counted, method_alone, at_call, last_with}
use Rattle.bds_machine_values.proofs.Taking.{full}

-- the newest call at a place, with these operands
abbrev pub call_with : Call → ℕ → List Value → Call
call_with c p ops = with_ops ops (with_place p c)

-- a row that takes some of the first operands and makes one, whatever stands behind these
record Makes (i : Instr) (g : List Value) (c : Call) (below : Stack) (xs : List Value) (m : ℕ) : Type 0 where
  rest : List Value
  made : Outcome Value
  count : length rest + 1 ≡ m
  works : (q : ℕ) (ops : List Value) → worked i g (call_with c q (xs ++ ops) ∷ below) ≡ finishes made (call_with c q (rest ++ ops) ∷ below)

loaded_is : (o : Option Value) (s : Stack) → loaded o s ≡ finishes (o >>= λ v. Some (Ok v)) s
loaded_is None s = refl
loaded_is (Some v) s = refl

same_number : (a b : ℕ) → Some a ≡ Some b → a ≡ b
same_number a b e = cc

taken_one : (xs : List Value) (m : ℕ) → cond (nat_le 1 (length xs)) (Some (length xs)) None ≡ Some m → (a : Value) × (rest : List Value) × (xs ≡ a ∷ rest) × (length rest + 1 ≡ m)
taken_one [] m e = absurd (cc)
taken_one (a ∷ rest) m e = let same = (full (nat_le 1 (length (a ∷ rest))) (length (a ∷ rest)) m e).1 in (a, rest, refl, omega (arith, same))

taken_two : (xs : List Value) (m : ℕ) → cond (nat_le 2 (length xs)) (Some (length xs - 1)) None ≡ Some m → (b : Value) × (a : Value) × (rest : List Value) × (xs ≡ b ∷ a ∷ rest) × (length rest + 1 ≡ m)
taken_two [] m e = absurd (cc)
taken_two (b ∷ []) m e = absurd (cc)
taken_two (b ∷ a ∷ rest) m e = let same = (full (nat_le 2 (length (b ∷ a ∷ rest))) (length (b ∷ a ∷ rest) - 1) m e).1 in (b, a, rest, refl, omega (arith, same))

if_counted : (b : Bool) (o : Option ℕ) (m : ℕ) → cond b o None ≡ Some m → (b ≡ true) × (o ≡ Some m)
if_counted true o m e = (refl, e)
if_counted false o m e = absurd (cc)

module _ (g : List Value) (c : Call) (below : Stack) (xs : List Value) (m : ℕ) where
  operated_makes : (i : Instr) (o : Op) → ((a b : Value) (rest : List Value) (q : ℕ) (ops : List Value) → worked i g (call_with c q (b ∷ a ∷ rest ++ ops) ∷ below) ≡ finishes (applied o a b) (call_with c q (rest ++ ops) ∷ below))
      → cond (nat_le 2 (length xs)) (Some (length xs - 1)) None ≡ Some m → Makes i g c below xs m
  operated_makes i o works e =
      let t = taken_two xs m e in
      record {
        rest = t.2;
        made = applied o t.1 t.0;
        count = t.4;
        works = λ q ops. ap (λ xs. worked i g (call_with c q (xs ++ ops) ∷ below)) t.3 ∙ works t.1 t.0 t.2 q ops;
      }

  row_makes : (i : Instr) → above (length xs) i ≡ Some m → Makes i g c below xs m
  row_makes (Load k) e = record { rest = xs; made = slice_get c.slots k >>= λ v. Some (Ok v); count = same_number (length xs + 1) m e; works = λ q ops. loaded_is (slice_get c.slots k) (call_with c q (xs ++ ops) ∷ below) }
  row_makes (LoadGlobal k) e = record { rest = xs; made = slice_get g k >>= λ v. Some (Ok v); count = same_number (length xs + 1) m e; works = λ q ops. loaded_is (slice_get g k) (call_with c q (xs ++ ops) ∷ below) }
  row_makes (PushInt n) e = record { rest = xs; made = Some (Ok (value.Int n)); count = same_number (length xs + 1) m e; works = λ q ops. refl }
  row_makes (PushText x) e = record { rest = xs; made = Some (Ok (value.Text x)); count = same_number (length xs + 1) m e; works = λ q ops. refl }
  row_makes Show e =
      let t = taken_one xs m e in
      record {
        rest = t.1;
        made = outcome op_fault (short_text (text_of t.0));
        count = t.3;
        works = λ q ops. ap (λ xs. worked Show g (call_with c q (xs ++ ops) ∷ below)) t.2;
      }
  row_makes Blank e =
      let t = taken_one xs m e in
      record {
        rest = t.1;
        made = outcome op_fault (short_text (piece_of t.0));
        count = t.3;
        works = λ q ops. ap (λ xs. worked Blank g (call_with c q (xs ++ ops) ∷ below)) t.2;
      }
  row_makes (Method k) e =
      let r = if_counted (counts 0 (slice_get argument_counts k)) (cond (nat_le 1 (length xs)) (Some (length xs)) None) m e in
      let t = taken_one xs m r.1 in
      record {
        rest = t.1;
        made = called k t.0 [];
        count = t.3;
        works = λ q ops. ap (λ xs. worked (Method k) g (call_with c q (xs ++ ops) ∷ below)) t.2
            ∙ method_alone k t.0 (call_with c q (t.1 ++ ops)) below (slice_get argument_counts k) (counted 0 (slice_get argument_counts k) r.0);
      }
  row_makes Add e = operated_makes Add op.Add (λ a b rest q ops. refl) e
  row_makes Sub e = operated_makes Sub op.Sub (λ a b rest q ops. refl) e
  row_makes Mul e = operated_makes Mul op.Mul (λ a b rest q ops. refl) e
  row_makes Div e = operated_makes Div op.Div (λ a b rest q ops. refl) e
  row_makes Rem e = operated_makes Rem op.Rem (λ a b rest q ops. refl) e
  row_makes Concat e = operated_makes Concat op.Concat (λ a b rest q ops. refl) e
  row_makes i e = absurd (cc)

module _ (u : CodeUnit) (f : Function) (g : List Value) (t : ℕ) where
  plain_row : (i : Instr) (n m : ℕ) (c : Call) (below : Stack) → above n i ≡ Some m
      → row u f i c.place g (c ∷ below) t ≡ onward f c.place (beside g (worked i g (with_place (c.place + 1) c ∷ below))) t (λ x. On x.0 x.1 t)
  plain_row (Load k) n m c below e = refl
  plain_row (LoadGlobal k) n m c below e = refl
  plain_row (PushInt k) n m c below e = refl
  plain_row (PushText k) n m c below e = refl
  plain_row Show n m c below e = refl
  plain_row Blank n m c below e = refl
  plain_row (Method k) n m c below e = refl
  plain_row Add n m c below e = refl
  plain_row Sub n m c below e = refl
  plain_row Mul n m c below e = refl
  plain_row Div n m c below e = refl
  plain_row Rem n m c below e = refl
  plain_row Concat n m c below e = refl
  plain_row i n m c below e = absurd (cc)

  bound_is : {X Y : Type 0} (o : Option X) (go : X → Option Y) (y : Y) → (o >>= go) ≡ Some y → (x : X) × (o ≡ Some x) × (go x ≡ Some y)
  bound_is None go y e = absurd (cc)
  bound_is (Some x) go y e = (x, refl, e)

  stopped : (p : ℕ) (e : RunFault) (k : ℕ) (o : Option At) → ((o >>= λ at. Some (Ends (point.Stop e at) t)) >>= λ x. further x (rows u k)) ≡ (o >>= λ at. Some (Ends (point.Stop e at) t))
  stopped p e k None = refl
  stopped p e k (Some at) = refl

  module _ (i : Instr) (c : Call) (below : Stack) (v : Value) (q last : ℕ) (there : slice_get u.functions c.function ≡ Some f) (held : pushes i g (c ∷ below) ≡ Some v) (variable : is_variable i ≡ true) where
    value_still : (i : Instr) (ops : List Value) → is_variable i ≡ true → pushes i g (call_with c q ops ∷ below) ≡ pushes i g (c ∷ below)
    value_still (Load k) ops h = refl
    value_still (LoadGlobal k) ops h = refl
    value_still j ops h = absurd (cc)

    last_row : (p n : ℕ) (xs base : List Value) → length xs ≡ n → Some n ≡ Some 1 → looks 1 (slice_get f.code p) ≡ true
        → rows u 1 g (call_with c p (xs ++ v ∷ base) ∷ below) t ≡ looked_last f i p g (call_with c q (xs ++ base) ∷ below) t
    last_row p n [] base count one h = absurd (let one = same_number n 1 one in omega (arith, count, one))
    last_row p n (x ∷ y ∷ xs) base count one h = absurd (let one = same_number n 1 one in omega (arith, count, one))
    last_row p n (x ∷ []) base count one h =
        last_with u f g t (slice_get f.code p) v x (call_with c p base) below there refl h
        ∙ ap (λ o. o >>= λ v. slice_get f.code p >>= λ k. goes_behind f p (seen k v (x ∷ [])) g (call_with c q base ∷ below) t) (sym (value_still i base variable ∙ held))

    far_from : (k p n : ℕ) (xs base : List Value) → length xs ≡ n → above_behind f k p n ≡ Some 1 → last ≡ p + k → looks 1 (slice_get f.code last) ≡ true
        → rows u (suc k) g (call_with c p (xs ++ v ∷ base) ∷ below) t ≡ looked_far f i last g t (worked_rows f k p g (call_with c q (xs ++ base) ∷ below))
    far_from zero p n xs base count after sum h =
        let here : last ≡ p = omega (arith, sum) in
        last_row p n xs base count after (subst (λ k. looks 1 (slice_get f.code k) ≡ true) here h)
        ∙ ap (λ k. looked_last f i k g (call_with c q (xs ++ base) ∷ below) t) (sym here)
    far_from (suc k) p n xs base count after sum h =
        let j = bound_is (slice_get f.code p) (λ i. above n i >>= λ m. above_behind f k (p + 1) m) 1 after in
        let m = bound_is (above n j.0) (λ m. above_behind f k (p + 1) m) 1 j.2 in
        let makes = row_makes g c below xs m.0 j.0 (ap (λ n. above n j.0) count ∙ m.1) in
        let further_on = λ (o : Option Step). o >>= λ x. further x (rows u (suc k)) in
        let more : last ≡ (p + 1) + k = omega (arith, sum) in
        ap further_on (at_call u f g t j.0 (call_with c p (xs ++ v ∷ base)) below there j.1 ∙ plain_row j.0 n m.0 (call_with c p (xs ++ v ∷ base)) below m.1)
        ∙ ap (λ o. further_on (onward f p (beside g o) t (λ x. On x.0 x.1 t))) (makes.works (p + 1) (v ∷ base))
        ∙ by_made k p makes.rest base makes.made (λ w. far_from k (p + 1) m.0 (w ∷ makes.rest) base (let count = makes.count in omega (arith, count)) m.2 more h)
        ∙ ap (λ o. looked_far f i last g t (at_place p o (worked_rows f k (p + 1) g))) (sym (makes.works q base))
        ∙ ap (λ o. looked_far f i last g t (o >>= λ i. at_place p (worked i g (call_with c q (xs ++ base) ∷ below)) (worked_rows f k (p + 1) g))) (sym j.1)
      where
        by_made : (k p : ℕ) (rest base : List Value) (o : Outcome Value)
            → ((w : Value) → rows u (suc k) g (call_with c (p + 1) (w ∷ rest ++ v ∷ base) ∷ below) t ≡ looked_far f i last g t (worked_rows f k (p + 1) g (call_with c q (w ∷ rest ++ base) ∷ below)))
            → (onward f p (beside g (finishes o (call_with c (p + 1) (rest ++ v ∷ base) ∷ below))) t (λ x. On x.0 x.1 t) >>= λ x. further x (rows u (suc k)))
            ≡ looked_far f i last g t (at_place p (finishes o (call_with c q (rest ++ base) ∷ below)) (worked_rows f k (p + 1) g))
        by_made k p rest base None each = refl
        by_made k p rest base (Some (Ok w)) each = each w
        by_made k p rest base (Some (Err e)) each = stopped p e (suc k) (slice_get f.lines p)

    pub far_rows : (k p n : ℕ) (xs base : List Value) → length xs ≡ n → last ≡ p + k → above_behind f k p n ≡ Some 1 → looks 1 (slice_get f.code last) ≡ true
        → rows u (suc k) g (call_with c p (xs ++ v ∷ base) ∷ below) t ≡ looked_far f i last g t (worked_rows f k p g (call_with c q (xs ++ base) ∷ below))
    far_rows k p n xs base count sum after h = far_from k p n xs base count after sum h

-- rows on the newest call alone, one after the other
pub rows_split : (f : Function) (count from k : ℕ) (g : List Value) (s s' : Stack) → k < count → worked_rows f count from g s ≡ worked_rows f (count - k) (from + k) g s'
    → worked_rows f count from g s ≡ (slice_get f.code (from + k) >>= λ i. at_place (from + k) (worked i g s') (worked_rows f (count - (k + 1)) (from + (k + 1)) g))
rows_split f count from k g s s' l e =
    let more : count - k ≡ suc (count - (k + 1)) = omega (arith, l) in
    let next : (from + k) + 1 ≡ from + (k + 1) = omega arith in
    e ∙ ap (λ n. worked_rows f n (from + k) g s') more
    ∙ ap (λ p. slice_get f.code (from + k) >>= λ i. at_place (from + k) (worked i g s') (worked_rows f (count - (k + 1)) p g)) next

pub row_there : (p : ℕ) (o : Outcome Stack) (go : Stack → Option (Result Stack (ℕ × RunFault))) → IsSome (at_place p o go) → IsSome o
row_there p None go h = absurd (cc)
row_there p (Some r) go h = refl

pub ran_fault : (given : Option (Result Stack (ℕ × RunFault))) (p : ℕ) (o : Outcome Stack) (go : Stack → Option (Result Stack (ℕ × RunFault))) (s : Stack) (fault : RowFault)
    → given ≡ at_place p o go → Leaves o s (Err fault) → Ran given s (Err (p, fault))
ran_fault given p o go s (Fault e) same h = same ∙ ap (λ o. at_place p o go) h
ran_fault given p o go s NoMemory same h = tt

-- as many operands stand above behind more rows
pub above_first : (f : Function) (at n m : ℕ) → above_behind f n (at + 1 + 0) 0 ≡ Some m → above_behind f (0 + n) (at + 1) 0 ≡ Some m
above_first f at n m h =
    let none : 0 + n ≡ n = omega arith in
    let here : at + 1 + 0 ≡ at + 1 = omega arith in
    ap (λ k. above_behind f k (at + 1) 0) none ∙ ap (λ p. above_behind f n p 0) (sym here) ∙ h

abbrev pub Sofar : Function → ℕ → ℕ → ℕ → Type 0
Sofar f at k depth = (n m : ℕ) → above_behind f n (at + 1 + k) depth ≡ Some m → above_behind f (k + n) (at + 1) 0 ≡ Some m

pub above_next : (f : Function) (at k depth deeper : ℕ) (i : Instr) → Sofar f at k depth → slice_get f.code (at + 1 + k) ≡ Some i → above depth i ≡ Some deeper → Sofar f at (k + 1) deeper
above_next f at k depth deeper i before code more n m h =
    let next : at + 1 + (k + 1) ≡ (at + 1 + k) + 1 = omega arith in
    let count : (k + 1) + n ≡ k + suc n = omega arith in
    ap (λ k. above_behind f k (at + 1) 0) count
    ∙ before (suc n) m (ap (λ o. o >>= λ i. above depth i >>= λ m. above_behind f n (at + 1 + k + 1) m) code ∙ ap (λ o. o >>= λ m. above_behind f n (at + 1 + k + 1) m) more ∙ ap (λ p. above_behind f n p deeper) (sym next) ∙ h)

pub above_end : (f : Function) (at k depth : ℕ) → Sofar f at k depth → depth ≡ 1 → above_behind f k (at + 1) 0 ≡ Some 1
above_end f at k depth before one =
    let all : k ≡ k + 0 = omega arith in
    ap (λ k. above_behind f k (at + 1) 0) all ∙ before 0 1 (ap (λ n. Some n) one)
