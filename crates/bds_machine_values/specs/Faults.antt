-- What a row comes to: a result or a fault of the run; None where something that it reads isn't there, or isn't of a type that it takes.
use Rattle.std.specs.Prelude.{Option, Some, None, Result, Ok, Err, ⊤, ◌≡◌}
use Rattle.bds_value.specs.declared.faults.RunFault.{RunFault}
use Rattle.bds_value.specs.declared.value.Value.{Value}
use Rattle.bds_value.specs.Options.{◌>>=◌}
use Rattle.bds_code_frames.specs.Stack.{Stack, pushed}
use Rattle.bds_machine_values.specs.declared.faults.RowFault.{RowFault}
use Rattle.bds_machine_values.specs.declared.faults.RowFault.TheVariants.{Fault, NoMemory}

abbrev pub Outcome : Type 0 → Type 0
Outcome X = Option (Result X RunFault)

abbrev pub outcome : {X F : Type 0} → (F → Option RunFault) → Result X F → Outcome X
outcome fault (Ok x) = Some (Ok x)
outcome fault (Err e) = fault e >>= λ e. Some (Err e)

-- goes on with a result
abbrev pub and_then : {X Y : Type 0} → Outcome X → (X → Outcome Y) → Outcome Y
and_then None go = None
and_then (Some (Ok x)) go = go x
and_then (Some (Err e)) go = Some (Err e)

-- goes on with this value as the last operand
abbrev pub gives : Value → Stack → Outcome Stack
gives v s = pushed v s >>= λ s. Some (Ok s)

-- a result as the last operand
abbrev pub finishes : Outcome Value → Stack → Outcome Stack
finishes r s = and_then r (λ v. gives v s)

-- what a call answers whose result has this outcome; want of memory is free
abbrev pub Answers : {X : Type 0} → Outcome X → Result X RowFault → Type 0
Answers given (Ok x) = given ≡ Some (Ok x)
Answers given (Err (Fault e)) = given ≡ Some (Err e)
Answers given (Err NoMemory) = ⊤

-- what a call answers that leaves this behind
abbrev pub Leaves : {X : Type 0} → Outcome X → X → Result (Unit {0}) RowFault → Type 0
Leaves given new (Ok _) = given ≡ Some (Ok new)
Leaves given new (Err (Fault e)) = given ≡ Some (Err e)
Leaves given new (Err NoMemory) = ⊤

-- this fault, where it is none of want of memory
abbrev pub IsFaultOf : Option RunFault → RowFault → Type 0
IsFaultOf given (Fault e) = given ≡ Some e
IsFaultOf given NoMemory = ⊤
