-- The rows of the table, where a live thread comes to them.
use Rattle.std.proofs.Common.{◌≡◌, ℕ, suc, ◌+◌, ◌-◌, Bool, true, false, cond, List, [], ◌∷◌, ◌++◌, map, length, reverse, take, drop, Option, Some, None, IsSome, is_some, Result, Ok, Err, slice_get, slice_set, nat_lt, nat_le, nat_eq, refl, sym, ap, ◌∙◌, subst, arith, length-append}
use Rattle.bds_value.specs.declared.faults.OpFault.{OpFault}
use Rattle.bds_value.specs.declared.faults.OpFault.TheVariants as op_fault
use Rattle.bds_value.specs.declared.value.At.{At}
use Rattle.bds_value.specs.declared.value.Op.{Op}
use Rattle.bds_value.specs.declared.value.Op.TheVariants as op
use Rattle.bds_value.specs.declared.value.Ty.{Ty}
use Rattle.bds_value.specs.declared.value.Value.{Value, out-Value}
use Rattle.bds_value.specs.declared.value.Value.TheVariants as value
use Rattle.bds_value.specs.declared.value.Value.TheOpen.{Value-F}
use Rattle.bds_value.specs.Operators.{binary_of, short_text}
use Rattle.bds_value.specs.Text.{text_of}
use Rattle.bds_value.specs.Value.{default_of, type_of}
use Rattle.bds_value.specs.declared.faults.RunFault.TheVariants as run
use Rattle.bds_host.specs.declared.asks.Ask.TheVariants as ask
use Rattle.bds_code.specs.declared.instr.Instr.{Instr}
use Rattle.bds_code.specs.declared.instr.Instr.TheVariants as instr
use Rattle.bds_code.specs.declared.unit.Function.{Function}
use Rattle.bds_code.specs.declared.unit.Unit.{Unit as CodeUnit}
use Rattle.bds_value.specs.Types.{is_void}
use Rattle.bds_code_frames.specs.Stack.{Call as Running, Stack, call_at, popped, entered, closed}
use Rattle.bds_machine.specs.declared.point.Point.{Point}
use Rattle.bds_machine.specs.declared.point.Point.TheVariants as point
use Rattle.bds_machine.specs.Calls.{Step, On, Leaves, Ends, goes, stops, ticks, with_defaults, enters, back}
use Rattle.bds_machine_values.specs.Faults.{Outcome, outcome, and_then, finishes}
use Rattle.bds_value.specs.RunFaults.{op_fault as as_fault}
use Rattle.bds_value.specs.Options.{◌>>=◌}
use Rattle.bds_value.specs.Readers.{bool_at, text_at}
use Rattle.bds_value.specs.Readers.{as_bool, as_text}
use Rattle.bds_machine_values.specs.Operands.{taken_all}
use Rattle.bds_machine_values.specs.Results.{applied, put_at}
use Rattle.bds_machine_values.specs.Updates.{path_of, variable, value_changed, assigned}
use Rattle.bds_value.specs.declared.TheConstants.{MAX_CALLS}
use Rattle.bds_machine_values.specs.Worked.{beside}
use Rattle.bds_machine.specs.Table.{onward, row}
use Rattle.bds_machine_values.specs.Typing.{takes as takes_types, suits}
use Rattle.bds_schedule.specs.Faults.{outcome as source_outcome}
use Rattle.bds_value.specs.RunFaults.{op_fault as source_fault}
use Rattle.bds_sim.proofs.Reading.{truth_at}
use Rattle.bds_value.specs.Readers.{is_true, text_in as words_of}
use Rattle.bds_sim.proofs.Reading.{words_at}
use Rattle.bds_sim_terms.specs.steps.Stands.{operator_code, results, IsPush}

-- a call at a place, with these slots and operands
abbrev pub frame : ℕ → ℕ → List Value → List Value → Running
frame function place slots ops = record { function = function; place = place; slots = slots; ops = ops }

-- a row that gives a value or has a fault
abbrev pub finishing : Function → ℕ → List Value → Running → Stack → ℕ → Outcome Value → Option Step
finishing f pc g c below t o = onward f pc (beside g (finishes o (c ∷ below))) t (λ x. On x.0 x.1 t)

pub some_outcome : (f : Function) (pc : ℕ) (g : List Value) (c : Running) (below : Stack) (t : ℕ) (o : Outcome Value) → IsSome (finishing f pc g c below t o) → IsSome o
some_outcome f pc g c below t None h = h
some_outcome f pc g c below t (Some r) h = refl

-- an outcome that is there is what the source tells
pub outcome_told : (r : Result Value OpFault) → IsSome (outcome as_fault r) → outcome as_fault r ≡ Some (source_outcome source_fault r)
outcome_told (Ok v) h = refl
outcome_told (Err op_fault.ZeroDivisor) h = refl
outcome_told (Err (op_fault.TooLong n)) h = refl
outcome_told (Err op_fault.NoMemory) h = absurd (cc h)

pub applied_told : (o : Op) (x y : Value) → IsSome (applied o x y) → applied o x y ≡ Some (source_outcome source_fault (binary_of o x y))
applied_told o x y h = go (takes_types o (type_of x) (type_of y)) h
  where
    go : (b : Bool) → IsSome (cond b (outcome as_fault (binary_of o x y)) None) → cond b (outcome as_fault (binary_of o x y)) None ≡ Some (source_outcome source_fault (binary_of o x y))
    go true h = outcome_told (binary_of o x y) h
    go false h = absurd (cc h)

some_left : (t : ℕ) → nat_eq (suc t) 0 ≡ false
some_left t = grind arith

one_less : (t : ℕ) → suc t - 1 ≡ t
one_less t = omega arith

-- a tick, where one is left
pub ticks_on : (g : List Value) (s : Stack) (t : ℕ) (go : ℕ → Option Step) → ticks g s (suc t) go ≡ go t
ticks_on g s t go = ap (λ b. cond b (Some (Leaves point.Spent g s (suc t))) (go (suc t - 1))) (some_left t) ∙ ap go (one_less t)

-- the operands of a form, and those below them
pub take_front : (vs base : List Value) → take (length vs) (vs ++ base) ≡ vs
take_front [] base = refl
take_front (v ∷ vs) base = ap (λ l. v ∷ l) (take_front vs base)

pub drop_front : (vs base : List Value) → drop (length vs) (vs ++ base) ≡ base
drop_front [] base = refl
drop_front (v ∷ vs) base = drop_front vs base

few : (vs base : List Value) → nat_le (length vs) (length (vs ++ base)) ≡ true
few vs base = grind (arith, length-append vs base)

pub entered_front : (f fn pc n : ℕ) (slots vs base : List Value) (below : Stack) → length vs ≡ n → entered f n (frame fn pc slots (vs ++ base) ∷ below) ≡ Some (call_at f (reverse vs) ∷ frame fn pc slots base ∷ below)
entered_front f fn pc n slots vs base below e =
    ap (λ n. entered f n (frame fn pc slots (vs ++ base) ∷ below)) (sym e)
    ∙ ap (λ b. cond b (Some (call_at f (reverse (take (length vs) (vs ++ base))) ∷ frame fn pc slots (drop (length vs) (vs ++ base)) ∷ below)) None) (few vs base)
    ∙ ap (λ l. Some (call_at f (reverse l) ∷ frame fn pc slots (drop (length vs) (vs ++ base)) ∷ below)) (take_front vs base)
    ∙ ap (λ l. Some (call_at f (reverse vs) ∷ frame fn pc slots l ∷ below)) (drop_front vs base)

pub taken_front : (fn pc n : ℕ) (slots vs base : List Value) (below : Stack) → length vs ≡ n → taken_all n (frame fn pc slots (vs ++ base) ∷ below) ≡ Some (reverse vs, frame fn pc slots base ∷ below)
taken_front fn pc n slots vs base below e =
    ap (λ n. taken_all n (frame fn pc slots (vs ++ base) ∷ below)) (sym e)
    ∙ ap (λ b. cond b (Some (reverse (take (length vs) (vs ++ base)), frame fn pc slots (drop (length vs) (vs ++ base)) ∷ below)) None) (few vs base)
    ∙ ap (λ l. Some (reverse l, frame fn pc slots (drop (length vs) (vs ++ base)) ∷ below)) (take_front vs base)
    ∙ ap (λ l. Some (reverse vs, frame fn pc slots l ∷ below)) (drop_front vs base)

module _ (u : CodeUnit) (f : Function) (fn pc : ℕ) (g slots : List Value) (below : Stack) (t : ℕ) where
  pub operator_row : (o : Op) (x y : Value) (ops : List Value) → row u f (operator_code o) pc g (frame fn pc slots (y ∷ x ∷ ops) ∷ below) t ≡ finishing f pc g (frame fn (pc + 1) slots ops) below t (applied o x y)
  operator_row op.Add x y ops = refl
  operator_row op.Sub x y ops = refl
  operator_row op.Mul x y ops = refl
  operator_row op.Div x y ops = refl
  operator_row op.Rem x y ops = refl
  operator_row op.Equal x y ops = refl
  operator_row op.NotEqual x y ops = refl
  operator_row op.Less x y ops = refl
  operator_row op.LessEqual x y ops = refl
  operator_row op.Greater x y ops = refl
  operator_row op.GreaterEqual x y ops = refl
  operator_row op.Concat x y ops = refl
  operator_row op.ListAdd x y ops = refl
  operator_row op.ListCat x y ops = refl

  pub shown_row : (x : Value) (ops : List Value) → row u f instr.Show pc g (frame fn pc slots (x ∷ ops) ∷ below) t ≡ finishing f pc g (frame fn (pc + 1) slots ops) below t (outcome as_fault (short_text (text_of x)))
  shown_row x ops = refl

  pushes : (v w : Value) (ops : List Value) → w ≡ v → Some (On g (frame fn (pc + 1) slots (v ∷ ops) ∷ below) t) ≡ Some (On g (frame fn (pc + 1) slots (w ∷ ops) ∷ below) t)
  pushes v w ops e = ap (λ v. Some (On g (frame fn (pc + 1) slots (v ∷ ops) ∷ below) t)) (sym e)

  abbrev default_step : Ty → List Value → Bool → Option Step
  default_step ty ops b = onward f pc (beside g (cond b None (Some (Ok (frame fn (pc + 1) slots (default_of ty ∷ ops) ∷ below))))) t (λ x. On x.0 x.1 t)

  default_row : (ty : Ty) (v : Value) (ops : List Value) → v ≡ default_of ty → (b : Bool) → IsSome (default_step ty ops b) → default_step ty ops b ≡ Some (On g (frame fn (pc + 1) slots (v ∷ ops) ∷ below) t)
  default_row ty v ops e true h = absurd (cc h)
  default_row ty v ops e false h = pushes (default_of ty) v ops e

  pub push_row : (i : Instr) (v : Value) (ops : List Value) → IsPush i v → IsSome (row u f i pc g (frame fn pc slots ops ∷ below) t)
      → row u f i pc g (frame fn pc slots ops ∷ below) t ≡ Some (On g (frame fn (pc + 1) slots (v ∷ ops) ∷ below) t)
  push_row (instr.PushBool b) v ops e h = pushes (value.Bool b) v ops e
  push_row (instr.PushInt n) v ops e h = pushes (value.Int n) v ops e
  push_row (instr.PushText s) v ops e h = pushes (value.Text s) v ops e
  push_row (instr.PushDefault ty) v ops e h = default_row ty v ops e (is_void ty) h
  push_row _ v ops e h = absurd e

  pub load_row : (i : ℕ) (v : Value) (ops : List Value) → slice_get slots i ≡ Some v → row u f (instr.Load i) pc g (frame fn pc slots ops ∷ below) t ≡ Some (On g (frame fn (pc + 1) slots (v ∷ ops) ∷ below) t)
  load_row i v ops e = ap (λ o. onward f pc (beside g (o >>= λ v. Some (Ok (frame fn (pc + 1) slots (v ∷ ops) ∷ below)))) t (λ x. On x.0 x.1 t)) e

  abbrev global_step : List Value → Option Value → Option Step
  global_step ops o = onward f pc (beside g (o >>= λ v. Some (Ok (frame fn (pc + 1) slots (v ∷ ops) ∷ below)))) t (λ x. On x.0 x.1 t)

  -- a global that is read is there
  load_there : (ops : List Value) (i : ℕ) (o : Option Value) → slice_get g i ≡ o → IsSome (global_step ops o) → (v : Value) × (slice_get g i ≡ Some v) × (global_step ops o ≡ Some (On g (frame fn (pc + 1) slots (v ∷ ops) ∷ below) t))
  load_there ops i None e h = absurd (cc h)
  load_there ops i (Some v) e h = (v, e, refl)

  pub global_row : (i : ℕ) (ops : List Value) → IsSome (row u f (instr.LoadGlobal i) pc g (frame fn pc slots ops ∷ below) t)
      → (v : Value) × (slice_get g i ≡ Some v) × (row u f (instr.LoadGlobal i) pc g (frame fn pc slots ops ∷ below) t ≡ Some (On g (frame fn (pc + 1) slots (v ∷ ops) ∷ below) t))
  global_row i ops h = load_there ops i (slice_get g i) refl h

  -- a slot that is read is there
  slot_there : (ops : List Value) (i : ℕ) (o : Option Value) → slice_get slots i ≡ o → IsSome (global_step ops o) → (v : Value) × (slice_get slots i ≡ Some v)
  slot_there ops i None e h = absurd (cc h)
  slot_there ops i (Some v) e h = (v, e)

  pub slot_read : (i : ℕ) (ops : List Value) → IsSome (row u f (instr.Load i) pc g (frame fn pc slots ops ∷ below) t) → (v : Value) × (slice_get slots i ≡ Some v)
  slot_read i ops h = slot_there ops i (slice_get slots i) refl h

  abbrev store_step : ℕ → Value → List Value → Option Value → Option Step
  store_step i v ops o = onward f pc (beside g (Rattle.bds_code_frames.specs.Stack.beside o (frame fn (pc + 1) (slice_set slots i v) ops ∷ below) >>= λ old. Some (Ok old.1))) t (λ x. On x.0 x.1 t)

  store_there : (i : ℕ) (v : Value) (ops : List Value) (o : Option Value) → slice_get slots i ≡ o → IsSome (store_step i v ops o) → IsSome (slice_get slots i) × (store_step i v ops o ≡ Some (On g (frame fn (pc + 1) (slice_set slots i v) ops ∷ below) t))
  store_there i v ops None e h = absurd (cc h)
  store_there i v ops (Some w) e h = (ap is_some e, refl)

  pub store_row : (i : ℕ) (v : Value) (ops : List Value) → IsSome (row u f (instr.Store i) pc g (frame fn pc slots (v ∷ ops) ∷ below) t)
      → IsSome (slice_get slots i) × (row u f (instr.Store i) pc g (frame fn pc slots (v ∷ ops) ∷ below) t ≡ Some (On g (frame fn (pc + 1) (slice_set slots i v) ops ∷ below) t))
  store_row i v ops h = store_there i v ops (slice_get slots i) refl h

  pub drop_row : (v : Value) (ops : List Value) → row u f instr.Drop pc g (frame fn pc slots (v ∷ ops) ∷ below) t ≡ Some (On g (frame fn (pc + 1) slots ops ∷ below) t)
  drop_row v ops = refl

  -- a condition that is read is a bool
  condition_read : (v : Value-F Value) (b : Bool) → bool_at v ≡ Some b → truth_at v ≡ b
  condition_read (Value-F.Bool a) b e = cc e
  condition_read (Value-F.Int n) b e = absurd (cc e)
  condition_read (Value-F.Text s) b e = absurd (cc e)
  condition_read (Value-F.List ty vs) b e = absurd (cc e)
  condition_read (Value-F.Map ty vs) b e = absurd (cc e)

  abbrev pub branch : Bool → ℕ → List Value → Option Step
  branch true to ops = Some (On g (frame fn (pc + 1) slots ops ∷ below) t)
  branch false to ops = Some (On g (frame fn to slots ops ∷ below) t)

  abbrev pub with_rest : {X : Type 0} → List Value → Option X → Option (X × Stack)
  with_rest ops o = o >>= λ x. Some (x, frame fn (pc + 1) slots ops ∷ below)

  abbrev branch_step : ℕ → List Value → Option Bool → Option Step
  branch_step to ops o = with_rest ops o >>= λ b. Rattle.bds_machine.specs.Calls.branches b.0 to g b.1 t

  branch_is : (b : Bool) (to : ℕ) (ops : List Value) → branch_step to ops (Some b) ≡ branch b to ops
  branch_is true to ops = refl
  branch_is false to ops = refl

  branch_there : (to : ℕ) (v : Value) (ops : List Value) (o : Option Bool) → as_bool v ≡ o → IsSome (branch_step to ops o) → branch_step to ops o ≡ branch (is_true v) to ops
  branch_there to v ops None e h = absurd (cc h)
  branch_there to v ops (Some b) e h = branch_is b to ops ∙ ap (λ b. branch b to ops) (sym (condition_read (out-Value v) b e))

  pub branch_row : (to : ℕ) (v : Value) (ops : List Value) → IsSome (row u f (instr.JumpUnless to) pc g (frame fn pc slots (v ∷ ops) ∷ below) t)
      → row u f (instr.JumpUnless to) pc g (frame fn pc slots (v ∷ ops) ∷ below) t ≡ branch (is_true v) to ops
  branch_row to v ops h = branch_there to v ops (as_bool v) refl h

  -- a text that is read is one
  text_read : (v : Value-F Value) (s : List ℕ) → text_at v ≡ Some s → s ≡ words_at v
  text_read (Value-F.Bool a) s e = absurd (cc e)
  text_read (Value-F.Int n) s e = absurd (cc e)
  text_read (Value-F.Text a) s e = cc e
  text_read (Value-F.List ty vs) s e = absurd (cc e)
  text_read (Value-F.Map ty vs) s e = absurd (cc e)

  abbrev pub text_step : (List ℕ → Point) → List Value → Option (List ℕ) → Option Step
  text_step makes ops o = onward f pc (with_rest ops o >>= λ r. Rattle.bds_machine.specs.Points.leaves (makes r.0) r.1) t (λ x. Leaves x.0 g x.1 t)

  pub text_there : (makes : List ℕ → Point) (v : Value) (ops : List Value) (o : Option (List ℕ)) → as_text v ≡ o → IsSome (text_step makes ops o) → text_step makes ops o ≡ Some (Leaves (makes (words_of v)) g (frame fn (pc + 1) slots ops ∷ below) t)
  text_there makes v ops None e h = absurd (cc h)
  text_there makes v ops (Some s) e h = ap (λ s. Some (Leaves (makes s) g (frame fn (pc + 1) slots ops ∷ below) t)) (text_read (out-Value v) s e)

  pub out_row : (v : Value) (ops : List Value) → IsSome (row u f instr.Out pc g (frame fn pc slots (v ∷ ops) ∷ below) t)
      → row u f instr.Out pc g (frame fn pc slots (v ∷ ops) ∷ below) t ≡ Some (Leaves (point.Asks (ask.Out (words_of v))) g (frame fn (pc + 1) slots ops ∷ below) t)
  out_row v ops h = text_there (λ s. point.Asks (ask.Out s)) v ops (as_text v) refl h

  pub sys_row : (v : Value) (ops : List Value) → IsSome (row u f instr.Sys pc g (frame fn pc slots (v ∷ ops) ∷ below) t)
      → row u f instr.Sys pc g (frame fn pc slots (v ∷ ops) ∷ below) t ≡ Some (Leaves (point.Asks (ask.Sys (words_of v))) g (frame fn (pc + 1) slots ops ∷ below) t)
  sys_row v ops h = text_there (λ s. point.Asks (ask.Sys s)) v ops (as_text v) refl h

  pub save_row : (ops : List Value) → row u f instr.SaveHere pc g (frame fn pc slots ops ∷ below) t ≡ Some (Leaves (point.Save None) g (frame fn (pc + 1) slots ops ∷ below) t)
  save_row ops = refl

  pub tick_row : (ops : List Value) → row u f instr.Tick pc g (frame fn pc slots ops ∷ below) (suc t) ≡ Some (On g (frame fn (pc + 1) slots ops ∷ below) t)
  tick_row ops = ticks_on g (frame fn pc slots ops ∷ below) t (λ left. Some (On g (frame fn (pc + 1) slots ops ∷ below) left))

  pub spent_row : (ops : List Value) → row u f instr.Tick pc g (frame fn pc slots ops ∷ below) 0 ≡ Some (Leaves point.Spent g (frame fn pc slots ops ∷ below) 0)
  spent_row ops = refl

  -- a call that isn't too deep, and one that is
  pub call_row : (n : ℕ) (callee : Function) (vs ops : List Value) → slice_get u.functions n ≡ Some callee → length vs ≡ length callee.params → nat_lt (suc (length below)) MAX_CALLS ≡ true
      → row u f (instr.Call n) pc g (frame fn pc slots (vs ++ ops) ∷ below) (suc t) ≡ Some (On g (frame n 0 (reverse vs ++ map default_of callee.locals) [] ∷ frame fn (pc + 1) slots ops ∷ below) t)
  call_row n callee vs ops there len deep =
      let s : Stack = frame fn pc slots (vs ++ ops) ∷ below in
      let go : ℕ → Option Step = λ t. slice_get u.functions n >>= λ callee. enters n callee (pc + 1) s >>= goes g t in
      ap (λ b. cond b (ticks g s (suc t) go) (stops f pc run.CallsTooDeep (suc t))) deep
      ∙ ticks_on g s t go
      ∙ ap (λ o. o >>= λ callee. enters n callee (pc + 1) s >>= goes g t) there
      ∙ ap (λ o. (o >>= with_defaults callee.locals) >>= goes g t) (entered_front n fn (pc + 1) (length callee.params) slots vs ops below len)

  callee_there : (n : ℕ) (s : Stack) (o : Option Function) → slice_get u.functions n ≡ o → IsSome (o >>= λ callee. enters n callee (pc + 1) s >>= goes g t) → (callee : Function) × (slice_get u.functions n ≡ Some callee)
  callee_there n s None e h = absurd (cc h)
  callee_there n s (Some callee) e h = (callee, e)

  -- a function that is called is there
  pub called_there : (n : ℕ) (ops : List Value) → nat_lt (suc (length below)) MAX_CALLS ≡ true → IsSome (row u f (instr.Call n) pc g (frame fn pc slots ops ∷ below) (suc t)) → (callee : Function) × (slice_get u.functions n ≡ Some callee)
  called_there n ops deep h =
      let s : Stack = frame fn pc slots ops ∷ below in
      let go : ℕ → Option Step = λ t. slice_get u.functions n >>= λ callee. enters n callee (pc + 1) s >>= goes g t in
      let e : row u f (instr.Call n) pc g s (suc t) ≡ go t = ap (λ b. cond b (ticks g s (suc t) go) (stops f pc run.CallsTooDeep (suc t))) deep ∙ ticks_on g s t go in
      callee_there n s (slice_get u.functions n) refl (subst IsSome e h)

  pub call_spent : (n : ℕ) (ops : List Value) → nat_lt (suc (length below)) MAX_CALLS ≡ true → row u f (instr.Call n) pc g (frame fn pc slots ops ∷ below) 0 ≡ Some (Leaves point.Spent g (frame fn pc slots ops ∷ below) 0)
  call_spent n ops deep = ap (λ b. cond b (Some (Leaves point.Spent g (frame fn pc slots ops ∷ below) 0)) (stops f pc run.CallsTooDeep 0)) deep

  pub deep_row : (n : ℕ) (line : At) (ops : List Value) → nat_lt (suc (length below)) MAX_CALLS ≡ false → slice_get f.lines pc ≡ Some line
      → row u f (instr.Call n) pc g (frame fn pc slots ops ∷ below) t ≡ Some (Ends (point.Stop run.CallsTooDeep line) t)
  deep_row n line ops deep e =
      let s : Stack = frame fn pc slots ops ∷ below in
      ap (λ b. cond b (ticks g s t (λ t. slice_get u.functions n >>= λ callee. enters n callee (pc + 1) s >>= goes g t)) (stops f pc run.CallsTooDeep t)) deep
      ∙ ap (λ o. o >>= λ at. Some (Ends (point.Stop run.CallsTooDeep at) t)) e

  abbrev taken_with : Bool → Stack → Option (Option Value × Stack)
  taken_with b s = cond b (Some (None, s)) (popped s >>= λ r. Some (Some r.0, r.1))

  abbrev returns_with : Bool → Stack → Option Step
  returns_with b s = taken_with b s >>= λ r. closed r.1 >>= λ below. back r.0 g below t

  returned_to : (b : Bool) (vs ops : List Value) (fn' pc' : ℕ) (slots' ops' : List Value) (below' : Stack) → length vs ≡ cond b 0 1
      → returns_with b (frame fn pc slots (vs ++ ops) ∷ frame fn' pc' slots' ops' ∷ below') ≡ Some (On g (frame fn' pc' slots' (vs ++ ops') ∷ below') t)
  returned_to true [] ops fn' pc' slots' ops' below' e = refl
  returned_to false (v ∷ []) ops fn' pc' slots' ops' below' e = refl
  returned_to true (v ∷ vs) ops fn' pc' slots' ops' below' e = absurd (omega (arith, e))
  returned_to false [] ops fn' pc' slots' ops' below' e = absurd (omega (arith, e))
  returned_to false (v ∷ w ∷ vs) ops fn' pc' slots' ops' below' e = absurd (omega (arith, e))

  pub return_row : (vs ops : List Value) (fn' pc' : ℕ) (slots' ops' : List Value) (below' : Stack) → length vs ≡ results f.ret → below ≡ frame fn' pc' slots' ops' ∷ below'
      → row u f instr.Return pc g (frame fn pc slots (vs ++ ops) ∷ below) t ≡ Some (On g (frame fn' pc' slots' (vs ++ ops') ∷ below') t)
  return_row vs ops fn' pc' slots' ops' below' e b = ap (λ b. returns_with (is_void f.ret) (frame fn pc slots (vs ++ ops) ∷ b)) b ∙ returned_to (is_void f.ret) vs ops fn' pc' slots' ops' below' e

  returned_last : (b : Bool) (vs ops : List Value) → length vs ≡ cond b 0 1 → returns_with b (frame fn pc slots (vs ++ ops) ∷ []) ≡ Some (Leaves point.Finished g [] t)
  returned_last true [] ops e = refl
  returned_last false (v ∷ []) ops e = refl
  returned_last true (v ∷ vs) ops e = absurd (omega (arith, e))
  returned_last false [] ops e = absurd (omega (arith, e))
  returned_last false (v ∷ w ∷ vs) ops e = absurd (omega (arith, e))

  -- the oldest call ends its thread
  pub last_return : (vs ops : List Value) → length vs ≡ results f.ret → below ≡ [] → row u f instr.Return pc g (frame fn pc slots (vs ++ ops) ∷ below) t ≡ Some (Leaves point.Finished g [] t)
  last_return vs ops e b = ap (λ b. returns_with (is_void f.ret) (frame fn pc slots (vs ++ ops) ∷ b)) b ∙ returned_last (is_void f.ret) vs ops e

  -- the new value of a whole variable
  abbrev put_step : Bool → Value → (Value → Outcome (List Value × Stack)) → Option Step
  put_step b v go = onward f pc (and_then (cond b (Some (Ok v)) None) go) t (λ x. On x.0 x.1 t)

  put_there : (b : Bool) (v : Value) (go : Value → Outcome (List Value × Stack)) → IsSome (put_step b v go) → put_step b v go ≡ onward f pc (go v) t (λ x. On x.0 x.1 t)
  put_there true v go h = refl
  put_there false v go h = absurd (cc h)

  abbrev from_args : Bool → ℕ → Option (List Value × Stack) → Outcome (List Value × Stack)
  from_args scope i o = o >>= λ args. taken_all 0 args.1 >>= λ steps. path_of [] steps.0 >>= λ path. variable scope i g steps.1 >>= λ v. and_then (value_changed 0 path v args.0) (λ new. assigned scope i new g steps.1)

  abbrev from_variable : Bool → ℕ → Value → List Value → Option Value → Option Step
  from_variable scope i v ops o = onward f pc (o >>= λ old. and_then (put_at [] old v) (λ new. assigned scope i new g (frame fn (pc + 1) slots ops ∷ below))) t (λ x. On x.0 x.1 t)

  -- what an update of a whole variable comes to
  update_row : (scope : Bool) (i : ℕ) (v : Value) (ops : List Value) → row u f (instr.Update scope i [] 0) pc g (frame fn pc slots (v ∷ ops) ∷ below) t ≡ from_variable scope i v ops (variable scope i g (frame fn (pc + 1) slots ops ∷ below))
  update_row scope i v ops =
      ap (λ o. onward f pc (from_args scope i o) t (λ x. On x.0 x.1 t)) (taken_front fn (pc + 1) 1 slots (v ∷ []) ops below refl)
      ∙ ap (λ o. onward f pc (o >>= λ steps. path_of [] steps.0 >>= λ path. variable scope i g steps.1 >>= λ old. and_then (value_changed 0 path old (v ∷ [])) (λ new. assigned scope i new g steps.1)) t (λ x. On x.0 x.1 t)) (taken_front fn (pc + 1) 0 slots [] ops below refl)

  abbrev local_step : ℕ → Value → List Value → Option Value → Outcome (List Value × Stack)
  local_step i v ops o = Rattle.bds_code_frames.specs.Stack.beside o (frame fn (pc + 1) (slice_set slots i v) ops ∷ below) >>= λ old. Some (Ok (g, old.1))

  abbrev global_put : ℕ → Value → List Value → Option Value → Outcome (List Value × Stack)
  global_put i v ops o = o >>= λ old. Some (Ok (slice_set g i v, frame fn (pc + 1) slots ops ∷ below))

  local_there : (i : ℕ) (v : Value) (ops : List Value) (o : Option Value) → slice_get slots i ≡ o → IsSome (from_variable false i v ops o) → IsSome (slice_get slots i) × (from_variable false i v ops o ≡ Some (On g (frame fn (pc + 1) (slice_set slots i v) ops ∷ below) t))
  local_there i v ops None e h = absurd (cc h)
  local_there i v ops (Some old) e h = (
    ap is_some e,
    put_there (suits [] (type_of old) (type_of v)) v (λ new. assigned false i new g (frame fn (pc + 1) slots ops ∷ below)) h
        ∙ ap (λ o. onward f pc (local_step i v ops o) t (λ x. On x.0 x.1 t)) e,
  )

  pub local_row : (i : ℕ) (v : Value) (ops : List Value) → IsSome (row u f (instr.Update false i [] 0) pc g (frame fn pc slots (v ∷ ops) ∷ below) t)
      → IsSome (slice_get slots i) × (row u f (instr.Update false i [] 0) pc g (frame fn pc slots (v ∷ ops) ∷ below) t ≡ Some (On g (frame fn (pc + 1) (slice_set slots i v) ops ∷ below) t))
  local_row i v ops h =
      let e = update_row false i v ops in
      let r = local_there i v ops (slice_get slots i) refl (subst IsSome e h) in
      (r.0, e ∙ r.1)

  global_there : (i : ℕ) (v : Value) (ops : List Value) (o : Option Value) → slice_get g i ≡ o → IsSome (from_variable true i v ops o) → from_variable true i v ops o ≡ Some (On (slice_set g i v) (frame fn (pc + 1) slots ops ∷ below) t)
  global_there i v ops None e h = absurd (cc h)
  global_there i v ops (Some old) e h =
      put_there (suits [] (type_of old) (type_of v)) v (λ new. assigned true i new g (frame fn (pc + 1) slots ops ∷ below)) h
      ∙ ap (λ o. onward f pc (global_put i v ops o) t (λ x. On x.0 x.1 t)) e

  pub global_put_row : (i : ℕ) (v : Value) (ops : List Value) → IsSome (row u f (instr.Update true i [] 0) pc g (frame fn pc slots (v ∷ ops) ∷ below) t)
      → row u f (instr.Update true i [] 0) pc g (frame fn pc slots (v ∷ ops) ∷ below) t ≡ Some (On (slice_set g i v) (frame fn (pc + 1) slots ops ∷ below) t)
  global_put_row i v ops h =
      let e = update_row true i v ops in
      e ∙ global_there i v ops (slice_get g i) refl (subst IsSome e h)
