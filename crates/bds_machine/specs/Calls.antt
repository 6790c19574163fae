-- The rows that go elsewhere: jumps, calls and returns.
use Rattle.std.specs.Prelude.{ℕ, ◌+◌, ◌-◌, List, [], ◌∷◌, ◌++◌, map, length, slice_get, cond, nat_eq, nat_lt, Bool, true, false, Option, Some, None}
use Rattle.bds_value.specs.declared.TheConstants.{MAX_CALLS}
use Rattle.bds_value.specs.declared.value.Ty.{Ty}
use Rattle.bds_value.specs.declared.value.Value.{Value}
use Rattle.bds_value.specs.Value.{default_of}
use Rattle.bds_value.specs.Types.{is_void}
use Rattle.bds_value.specs.declared.faults.RunFault.{RunFault}
use Rattle.bds_value.specs.declared.faults.RunFault.TheVariants.{CallsTooDeep}
use Rattle.bds_value.specs.Options.{◌>>=◌}
use Rattle.bds_value.specs.Readers.{as_bool}
use Rattle.bds_code.specs.declared.unit.Function.{Function}
use Rattle.bds_code.specs.declared.unit.Unit.{Unit as CodeUnit}
use Rattle.bds_code_frames.specs.Stack.{Stack, moved, pushed, popped, entered, closed, with_slots}
use Rattle.bds_machine.specs.declared.point.Point.{Point}
use Rattle.bds_machine.specs.declared.point.Point.TheVariants as point
use Rattle.bds_machine_values.specs.Operands.{taken_as}

-- what a row does to a thread: it goes on with these globals, frames and ticks, leaves the machine with them at a point, or ends the program
pub data Step : Type 0 where
  On : List Value → Stack → ℕ → Step
  Leaves : Point → List Value → Stack → ℕ → Step
  Ends : Point → ℕ → Step

abbrev pub goes : List Value → ℕ → Stack → Option Step
goes g t s = Some (On g s t)

abbrev pub jumps : ℕ → List Value → Stack → ℕ → Option Step
jumps to g s t = moved to s >>= goes g t

-- a fault, at the line of an instruction
abbrev pub stops : Function → ℕ → RunFault → ℕ → Option Step
stops f place e t = slice_get f.lines place >>= λ at. Some (Ends (point.Stop e at) t)

-- one tick, where one is left
abbrev pub ticks : List Value → Stack → ℕ → (ℕ → Option Step) → Option Step
ticks g s t go = cond (nat_eq t 0) (Some (Leaves point.Spent g s t)) (go (t - 1))

abbrev pub branches : Bool → ℕ → List Value → Stack → ℕ → Option Step
branches true to g s t = goes g t s
branches false to g s t = jumps to g s t

-- takes the last operand: goes on where it is true, and else jumps
abbrev pub tested : ℕ → List Value → Stack → ℕ → Option Step
tested to g s t = taken_as as_bool s >>= λ b. branches b.0 to g b.1 t

-- the newest call with further slots, which hold the defaults of their types
abbrev pub with_defaults : List Ty → Stack → Option Stack
with_defaults tys [] = None
with_defaults tys (c ∷ below) = Some (with_slots (c.slots ++ map default_of tys) c ∷ below)

-- a call of a function, with its arguments and locals; the caller is left at a place
abbrev pub enters : ℕ → Function → ℕ → Stack → Option Stack
enters n callee place s = moved place s >>= λ s. entered n (length callee.params) s >>= with_defaults callee.locals

-- a call by the instruction at a place; one that is too deep counts no tick
abbrev pub calls : CodeUnit → Function → ℕ → ℕ → List Value → Stack → ℕ → Option Step
calls u f n place g s t =
    cond (nat_lt (length s) MAX_CALLS)
    (ticks g s t (λ t. slice_get u.functions n >>= λ callee. enters n callee (place + 1) s >>= goes g t))
    (stops f place CallsTooDeep t)

abbrev pub received : Option Value → Stack → Option Stack
received None s = Some s
received (Some v) s = pushed v s

-- hands a result to the caller; without a caller the thread's code has ended
abbrev pub back : Option Value → List Value → Stack → ℕ → Option Step
back v g [] t = Some (Leaves point.Finished g [] t)
back v g s t = received v s >>= goes g t

-- the result of a function that has one
abbrev pub result_taken : Ty → Stack → Option (Option Value × Stack)
result_taken ret s = cond (is_void ret) (Some (None, s)) (popped s >>= λ r. Some (Some r.0, r.1))

abbrev pub returns : Ty → List Value → Stack → ℕ → Option Step
returns ret g s t = result_taken ret s >>= λ r. closed r.1 >>= λ below. back r.0 g below t
