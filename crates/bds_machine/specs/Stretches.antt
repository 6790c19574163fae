-- For private contracts alone: rows on whole numbers that are taken in one go, without the operands between them.
use Rattle.std.specs.Prelude.{ℕ, ℤ, suc, ◌+◌, List, [], ◌∷◌, ◌++◌, slice_get, if◌then◌else◌, Bool, true, false, Some}
use Rattle.std.specs.Prelude.{None, Ok, IsSome, option_map, ◌≡◌, ◌≢◌, ◌≤◌}
use Rattle.bds_value.specs.declared.value.Op.TheVariants as op
use Rattle.bds_value.specs.declared.value.Place.TheVariants.{Index}
use Rattle.bds_value.specs.declared.value.Value.{Value}
use Rattle.bds_value.specs.declared.value.Value.TheVariants as value
use Rattle.bds_value.specs.Options.{◌>>=◌}
use Rattle.bds_value.specs.Readers.{as_bool}
use Rattle.bds_code.specs.declared.instr.Instr.{Instr}
use Rattle.bds_code.specs.declared.instr.Instr.TheVariants.{Item, Method, Store, StoreGlobal, Update, JumpUnless, Add}
use Rattle.bds_code.specs.declared.instr.Instr.TheVariants.{Sub, Mul, Equal, NotEqual, Less, LessEqual, Greater}
use Rattle.bds_code.specs.declared.instr.Instr.TheVariants.{GreaterEqual}
use Rattle.bds_code.specs.declared.unit.Function.{Function}
use Rattle.bds_code.specs.declared.unit.Unit.{Unit as CodeUnit}
use Rattle.bds_code_frames.specs.Stack.{Stack, moved, place_of, with_ops, with_place}
use Rattle.bds_verify.specs.Threads.{AreLive}
use Rattle.bds_machine.specs.Calls.{On}
use Rattle.bds_machine_values.specs.Faults.{Outcome, and_then}
use Rattle.bds_machine_values.specs.Values.{counts, argument_counts}
use Rattle.bds_machine.specs.Looks.{pushes}
use Rattle.bds_machine_values.specs.Results.{applied, called, part_of}
use Rattle.bds_machine.specs.Running.{rows}
use Rattle.bds_machine.specs.Weight.{weight}
use Rattle.bds_machine_values.specs.Updates.{operand_counts, variable, assigned, value_changed}

-- what an instruction gives of the last two operands
abbrev pub computed : Instr → Value → Value → Outcome Value
computed Add a b = applied op.Add a b
computed Sub a b = applied op.Sub a b
computed Mul a b = applied op.Mul a b
computed Equal a b = applied op.Equal a b
computed NotEqual a b = applied op.NotEqual a b
computed Less a b = applied op.Less a b
computed LessEqual a b = applied op.LessEqual a b
computed Greater a b = applied op.Greater a b
computed GreaterEqual a b = applied op.GreaterEqual a b
computed _ a b = None

-- a variable gets a value, and the newest call goes to a place
abbrev pub settled : Bool → ℕ → Value → ℕ → List Value → Stack → Outcome (List Value × Stack)
settled scope slot v next g s = moved next s >>= λ s. assigned scope slot v g s

-- whether an instruction takes the last operand alone
abbrev pub is_sink : Instr → Bool
is_sink (Store i) = true
is_sink (StoreGlobal i) = true
is_sink (Update scope slot [] what) = counts 1 (slice_get operand_counts what)
is_sink (JumpUnless to) = true
is_sink _ = false

-- what an instruction does with the last operand, from which it goes on with the next place
abbrev pub sunk : Instr → Value → ℕ → List Value → Stack → Outcome (List Value × Stack)
sunk (Store i) v next g s = settled false i v next g s
sunk (StoreGlobal i) v next g s = settled true i v next g s
sunk (Update scope slot [] what) v next g s = variable scope slot g s >>= λ old. and_then
    (value_changed what [] old (v ∷ [])) (λ new. settled scope slot new next g s)
sunk (JumpUnless to) v next g s = as_bool v >>= λ b. moved (if b then next else to) s >>= λ s. Some (Ok (g, s))
sunk _ v next g s = None

-- the newest call at a place, with further operands
abbrev pub with_pushed : List Value → ℕ → Stack → Stack
with_pushed vs place [] = []
with_pushed vs place (c ∷ below) = with_ops (vs ++ c.ops) (with_place place c) ∷ below

-- the newest call goes to a place
abbrev pub GoesTo : ℕ → Stack → Stack → Type 0
GoesTo place s s' = place_of s' ≡ option_map (λ (p : ℕ × ℕ). (p.0, place)) (place_of s)

-- the newest call is one of this function
abbrev pub IsOf : CodeUnit → Function → Stack → Type 0
IsOf u f [] = ⊥
IsOf u f (c ∷ below) = slice_get u.functions c.function ≡ Some f

-- there are rows from a place on, with further operands
pub record Runs (f : Function) (place : ℕ) (vs g : List Value) (s : Stack) : Type 0 where
  pub unit : CodeUnit
  pub ticks : ℕ
  pub call : IsOf unit f s
  pub fine : (n : ℕ) → IsSome (rows unit n g (with_pushed vs place s) ticks)

-- and these rows lead to other globals and frames
abbrev pub Leads : Function → ℕ → List Value → List Value → Stack → List Value → Stack → Type 0
Leads f place vs g s g' s' =
    (u : CodeUnit) (t : ℕ) → IsOf u f s → (k : ℕ) × (rows u (suc k) g (with_pushed vs place s) t ≡ Some (On g' s' t))

-- the row at a place gives this value of the one that is the last operand
pub record IsSize (f : Function) (place : ℕ) (a v : Value) : Type 0 where
  pub method : ℕ
  pub there : slice_get f.code place ≡ Some (Method method)
  pub alone : counts 0 (slice_get argument_counts method) ≡ true
  pub gives : called method a [] ≡ Some (Ok v)

-- the row at a place gives this value at an index of the one below the last operand
pub record IsItem (f : Function) (place : ℕ) (a : Value) (index : ℤ) (v : Value) : Type 0 where
  pub there : slice_get f.code place ≡ Some Item
  pub gives : part_of (Index index) a ≡ Some (Ok v)

-- the rows from a place on push an index, and give this value there of the one that is the last operand
pub record IsIndexed (f : Function) (place : ℕ) (a : Value) (g : List Value) (s : Stack) (v : Value) : Type 0 where
  pub instr : Instr
  pub index : ℤ
  pub there : slice_get f.code place ≡ Some instr
  pub pushed : pushes instr g s ≡ Some (value.Int index)
  pub item : IsItem f (place + 1) a index v

-- the rows from a place on push a value, whatever comes behind them at the other place
abbrev pub Pushes : Function → ℕ → List Value → Stack → Value → ℕ → Type 0
Pushes f place g s v next =
    (u : CodeUnit) (t : ℕ) (vs : List Value) (n : ℕ) → IsOf u f s
    → (m : ℕ) × (rows u (suc m) g (with_pushed vs place s) t ≡ rows u n g (with_pushed (v ∷ vs) next s) t)

-- rows, none or more, lead from globals, frames and ticks to those of a valid thread
pub record Came (u : CodeUnit) (g : List Value) (s : Stack) (t : ℕ) (g' : List Value) (s' : Stack) (t' : ℕ) : Type 0
  where
    pub reaches : (k : ℕ) → (j : ℕ) × (rows u j g s t ≡ rows u k g' s' t')
    pub live : AreLive u g' s'
    pub some : s' ≢ []
    pub less : weight u s' t' ≤ weight u s t

-- and so with the ticks that are left, from the newest call at a place
abbrev pub LeadsOn : Function → ℕ → List Value → Stack → ℕ → List Value → Stack → ℕ → Type 0
LeadsOn f place g s t g' s' t' =
    (u : CodeUnit) → IsOf u f s → (k : ℕ) × (rows u (suc k) g (with_pushed [] place s) t ≡ Some (On g' s' t'))
