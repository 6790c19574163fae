-- For private contracts alone: a value that is loaded only to be looked at.
use Rattle.std.specs.Prelude.{ℕ, zero, suc, ◌+◌, ◌-◌, ◌<◌, List, [], ◌∷◌, slice_get, nat_eq, nat_le, cond, Bool, true, false, Option, Some, None, Result, Ok, Err, ⊤, ◌≡◌}
use Rattle.bds_value.specs.declared.faults.RunFault.{RunFault}
use Rattle.bds_value.specs.declared.value.Place.TheVariants as places
use Rattle.bds_value.specs.declared.value.Value.{Value}
use Rattle.bds_value.specs.declared.value.Value.TheVariants as value
use Rattle.bds_value.specs.Options.{◌>>=◌}
use Rattle.bds_value.specs.Readers.{as_int, as_text}
use Rattle.bds_code.specs.declared.instr.Instr.{Instr}
use Rattle.bds_code.specs.declared.instr.Instr.TheVariants.{Load, LoadGlobal, PushInt, PushText, Show, Blank, Add, Sub, Mul, Div, Rem, Concat, Item, Key, Method}
use Rattle.bds_code.specs.declared.unit.Function.{Function}
use Rattle.bds_code_frames.specs.Stack.{Stack, moved, popped, slot_at}
use Rattle.bds_machine.specs.declared.looks.Look.{Look}
use Rattle.bds_machine.specs.declared.looks.Look.TheVariants as look
use Rattle.bds_machine_values.specs.declared.faults.RowFault.{RowFault}
use Rattle.bds_machine_values.specs.declared.faults.RowFault.TheVariants.{Fault, NoMemory}
use Rattle.bds_machine.specs.Calls.{Step, On, stops}
use Rattle.bds_machine_values.specs.Faults.{Outcome, finishes}
use Rattle.bds_machine_values.specs.Results.{called, part_of}
use Rattle.bds_machine_values.specs.Worked.{beside, worked}
use Rattle.bds_machine.specs.Table.{onward}
use Rattle.bds_machine_values.specs.Values.{argument_counts, counts}

-- the value that an instruction pushes: that of a variable, or one that stands in it
abbrev pub pushes : Instr → List Value → Stack → Option Value
pushes (Load i) g s = slot_at i s
pushes (LoadGlobal i) g s = slice_get g i
pushes (PushInt n) g s = Some (value.Int n)
pushes (PushText t) g s = Some (value.Text t)
pushes _ g s = None

abbrev pub is_variable : Instr → Bool
is_variable (Load i) = true
is_variable (LoadGlobal i) = true
is_variable _ = false

abbrev pub is_operand : Option Instr → Bool
is_operand (Some (Load i)) = true
is_operand (Some (LoadGlobal i)) = true
is_operand (Some (PushInt n)) = true
is_operand (Some (PushText t)) = true
is_operand _ = false

-- whether an instruction looks at a value below so many operands
abbrev pub looks : ℕ → Option Instr → Bool
looks n (Some Item) = nat_eq n 1
looks n (Some Key) = nat_eq n 1
looks n (Some (Method m)) = counts n (slice_get argument_counts m)
looks n _ = false

-- how many operands stand above a value behind a row that makes one of some of them; None for rows that may not stand before a look
abbrev pub above : ℕ → Instr → Option ℕ
above n (Load i) = Some (n + 1)
above n (LoadGlobal i) = Some (n + 1)
above n (PushInt k) = Some (n + 1)
above n (PushText t) = Some (n + 1)
above n Show = cond (nat_le 1 n) (Some n) None
above n Blank = cond (nat_le 1 n) (Some n) None
above n (Method m) = cond (counts 0 (slice_get argument_counts m)) (cond (nat_le 1 n) (Some n) None) None
above n Add = cond (nat_le 2 n) (Some (n - 1)) None
above n Sub = cond (nat_le 2 n) (Some (n - 1)) None
above n Mul = cond (nat_le 2 n) (Some (n - 1)) None
above n Div = cond (nat_le 2 n) (Some (n - 1)) None
above n Rem = cond (nat_le 2 n) (Some (n - 1)) None
above n Concat = cond (nat_le 2 n) (Some (n - 1)) None
above n _ = None

-- and so behind several rows from a place
abbrev pub above_behind : Function → ℕ → ℕ → ℕ → Option ℕ
above_behind f zero place n = Some n
above_behind f (suc k) place n = slice_get f.code place >>= λ i. above n i >>= λ m. above_behind f k (place + 1) m

-- how the value is looked at that an instruction at a place loads
abbrev pub IsAhead : Look → Function → Instr → ℕ → Type 0
IsAhead look.Alone f i at = (is_variable i ≡ true) × (looks 0 (slice_get f.code (at + 1)) ≡ true)
IsAhead look.With f i at = (is_variable i ≡ true) × (is_operand (slice_get f.code (at + 1)) ≡ true) × (looks 1 (slice_get f.code (at + 1 + 1)) ≡ true)
IsAhead (look.Far k) f i at = (is_variable i ≡ true) × (above_behind f k (at + 1) 0 ≡ Some 1) × (looks 1 (slice_get f.code (at + 1 + k)) ≡ true) × (k < 256)

-- what an instruction gives that looks at a value below these operands
abbrev pub seen : Instr → Value → List Value → Outcome Value
seen Item v (x ∷ []) = as_int x >>= λ i. part_of (places.Index i) v
seen Key v (x ∷ []) = as_text x >>= λ k. part_of (places.Key k) v
seen (Method m) v args = called m v args
seen _ v args = None

-- what it gives below the operand that another instruction pushes, if that is there
abbrev pub seen_by : Instr → Value → Option Value → Outcome Value
seen_by k v None = None
seen_by k v (Some x) = seen k v (x ∷ [])

-- the newest call goes on behind a place with a value
abbrev pub goes_behind : Function → ℕ → Outcome Value → List Value → Stack → ℕ → Option Step
goes_behind f last o g s t = onward f last (beside g (moved (last + 1) s >>= finishes o)) t (λ x. On x.0 x.1 t)

abbrev pub at_place : ℕ → Outcome Stack → (Stack → Option (Result Stack (ℕ × RunFault))) → Option (Result Stack (ℕ × RunFault))
at_place place None go = None
at_place place (Some (Ok s)) go = go s
at_place place (Some (Err e)) go = Some (Err (place, e))

-- so many rows from a place, which change the newest call alone, up to a fault with its place
abbrev pub worked_rows : Function → ℕ → ℕ → List Value → Stack → Option (Result Stack (ℕ × RunFault))
worked_rows f zero place g s = Some (Ok s)
worked_rows f (suc k) place g s = slice_get f.code place >>= λ i. at_place place (worked i g s) (worked_rows f k (place + 1) g)

abbrev pub Ran : Option (Result Stack (ℕ × RunFault)) → Stack → Result (Unit {0}) (ℕ × RowFault) → Type 0
Ran given new (Ok _) = given ≡ Some (Ok new)
Ran given new (Err (place, Fault e)) = given ≡ Some (Err (place, e))
Ran given new (Err (place, NoMemory)) = ⊤

-- looks at a variable's value by the instruction at a place, with the last operand
abbrev pub looked_last : Function → Instr → ℕ → List Value → Stack → ℕ → Option Step
looked_last f i last g s t = popped s >>= λ r. pushes i g r.1 >>= λ v. slice_get f.code last >>= λ k. goes_behind f last (seen k v (r.0 ∷ [])) g r.1 t

abbrev pub looked_far : Function → Instr → ℕ → List Value → ℕ → Option (Result Stack (ℕ × RunFault)) → Option Step
looked_far f i last g t None = None
looked_far f i last g t (Some (Ok s)) = looked_last f i last g s t
looked_far f i last g t (Some (Err (place, e))) = stops f place e t

-- what the rows lead to that load a value and look at it
abbrev pub looked : Look → Function → Instr → ℕ → List Value → Stack → ℕ → Option Step
looked look.Alone f i at g s t =
    pushes i g s >>= λ v.
    slice_get f.code (at + 1) >>= λ j.
    goes_behind f (at + 1) (seen j v []) g s t
looked look.With f i at g s t =
    pushes i g s >>= λ v.
    slice_get f.code (at + 1) >>= λ j.
    pushes j g s >>= λ x.
    slice_get f.code (at + 1 + 1) >>= λ k.
    goes_behind f (at + 1 + 1) (seen k v (x ∷ [])) g s t
looked (look.Far k) f i at g s t = pushes i g s >>= λ v. looked_far f i (at + 1 + k) g t (worked_rows f k (at + 1) g s)
