-- A row that goes on keeps the types of a thread.
use Rattle.std.specs.Prelude.{List, ◌∷◌, ◌≡◌, ◌⊎◌, Bool, true, false, Some, Ok, Err}
use Rattle.bds_value.specs.declared.faults.RunFault.{RunFault}
use Rattle.bds_value.specs.declared.value.Ty.{Ty}
use Rattle.bds_value.specs.declared.value.Value.{Value}
use Rattle.bds_code.specs.declared.instr.Instr.{Instr}
use Rattle.bds_code.specs.declared.instr.Instr.TheVariants.{Jump, JumpUnless, Tick, Call as Calls, Return, FileRead, FileWrite, FileRemove, FileStamp, Out, Stop, Exit, Sys, OutOfDate, NewTask, Declare, Goal, Spawn, Wait, WaitAll, Save, SaveHere}
use Rattle.bds_code.specs.declared.unit.Function.{Function}
use Rattle.bds_code.specs.declared.unit.Unit.{Unit as CodeUnit}
use Rattle.bds_code_frames.specs.Stack.{Call, Stack}
use Rattle.bds_verify.specs.Threads.{IsCall, Typed}
use Rattle.bds_machine_values.specs.Faults.{Outcome}

-- an instruction that goes on with the next place, and asks nothing
abbrev pub goes_on : Instr → Bool
goes_on (Jump to) = false
goes_on (JumpUnless to) = false
goes_on Tick = false
goes_on (Calls g) = false
goes_on Return = false
goes_on FileRead = false
goes_on FileWrite = false
goes_on FileRemove = false
goes_on (FileStamp q) = false
goes_on Out = false
goes_on Stop = false
goes_on Exit = false
goes_on Sys = false
goes_on OutOfDate = false
goes_on NewTask = false
goes_on Declare = false
goes_on Goal = false
goes_on (Spawn g) = false
goes_on Wait = false
goes_on WaitAll = false
goes_on Save = false
goes_on SaveHere = false
goes_on _ = true

-- another call in place of one, with these operands
pub record Kept (f : Function) (next : List Ty) (c d : Call) : Type 0 where
  pub function : d.function ≡ c.function
  pub place : d.place ≡ c.place
  pub call : IsCall f next d

-- a row has a result that keeps the types, or a fault
abbrev pub FitsRow : CodeUnit → Function → List Ty → Call → Stack → Outcome (List Value × Stack) → Type 0
FitsRow u f next c below o = ((e : RunFault) × (o ≡ Some (Err e))) ⊎ ((g : List Value) × (d : Call) × (o ≡ Some (Ok (g, d ∷ below))) × Typed g u.globals × Kept f next c d)
