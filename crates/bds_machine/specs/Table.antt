-- What each instruction does to the globals, the frames and the ticks of a thread. None: something that it names or takes isn't there, or isn't of a type that it takes.
use Rattle.std.specs.Prelude.{ℕ, ◌+◌, List, slice_get, Option, Some, None, Ok, Err}
use Rattle.bds_value.specs.declared.value.Value.{Value}
use Rattle.bds_value.specs.Statuses.{status_of}
use Rattle.bds_value.specs.declared.faults.RunFault.TheVariants.{Error}
use Rattle.bds_value.specs.Options.{◌>>=◌}
use Rattle.bds_value.specs.Readers.{as_int, as_text}
use Rattle.bds_code.specs.declared.instr.Instr.{Instr}
use Rattle.bds_code.specs.declared.instr.Instr.TheVariants.{Jump, JumpUnless, Tick, Call, Return, FileRead, FileWrite, FileRemove, FileStamp, Out, Stop, Exit, Sys, OutOfDate, NewTask, Declare, Goal, Spawn, Wait, WaitAll, Save, SaveHere}
use Rattle.bds_code.specs.declared.unit.Function.{Function}
use Rattle.bds_code.specs.declared.unit.Unit.{Unit as CodeUnit}
use Rattle.bds_code_frames.specs.Stack.{Stack, place_of, moved}
use Rattle.bds_machine.specs.declared.point.Point.TheVariants as point
use Rattle.bds_machine_values.specs.Operands.{taken_as}
use Rattle.bds_machine_values.specs.Faults.{Outcome}
use Rattle.bds_machine_values.specs.Worked.{changed}
use Rattle.bds_machine.specs.Points.{asked}
use Rattle.bds_machine.specs.Calls.{Step, On, Leaves, Ends, jumps, stops, ticks, tested, calls, returns}

-- with the fault of a row at its line
abbrev pub onward : {X : Type 0} → Function → ℕ → Outcome X → ℕ → (X → Step) → Option Step
onward f place None t go = None
onward f place (Some (Ok x)) t go = Some (go x)
onward f place (Some (Err e)) t go = stops f place e t

-- a row that goes on
abbrev pub changes : Function → Instr → ℕ → List Value → Stack → ℕ → Option Step
changes f i place g s t = onward f place (changed i g s) t (λ x. On x.0 x.1 t)

-- a row that waits for an answer
abbrev pub asks : CodeUnit → Function → Instr → ℕ → List Value → Stack → ℕ → Option Step
asks u f i place g s t = onward f place (asked u i s) t (λ x. Leaves x.0 g x.1 t)

abbrev pub exits : Stack → ℕ → Option Step
exits s t = taken_as as_int s >>= λ n. Some (Ends (point.Exit (status_of n.0)) t)

-- the program ends with a message
abbrev pub fails : Function → ℕ → Stack → ℕ → Option Step
fails f place s t = taken_as as_text s >>= λ text. stops f place (Error text.0) t

-- an instruction other than Jump, Tick, Call and Return; the newest call stands behind it already
abbrev pub behind : CodeUnit → Function → Instr → ℕ → List Value → Stack → ℕ → Option Step
behind u f (JumpUnless to) p g s t = tested to g s t
behind u f Stop p g s t = fails f p s t
behind u f Exit p g s t = exits s t
behind u f FileRead p g s t = asks u f FileRead p g s t
behind u f FileWrite p g s t = asks u f FileWrite p g s t
behind u f FileRemove p g s t = asks u f FileRemove p g s t
behind u f (FileStamp q) p g s t = asks u f (FileStamp q) p g s t
behind u f Out p g s t = asks u f Out p g s t
behind u f Sys p g s t = asks u f Sys p g s t
behind u f OutOfDate p g s t = asks u f OutOfDate p g s t
behind u f NewTask p g s t = asks u f NewTask p g s t
behind u f Declare p g s t = asks u f Declare p g s t
behind u f Goal p g s t = asks u f Goal p g s t
behind u f (Spawn n) p g s t = asks u f (Spawn n) p g s t
behind u f Wait p g s t = asks u f Wait p g s t
behind u f WaitAll p g s t = asks u f WaitAll p g s t
behind u f Save p g s t = asks u f Save p g s t
behind u f SaveHere p g s t = asks u f SaveHere p g s t
behind u f i p g s t = changes f i p g s t

-- an instruction at a place
abbrev pub row : CodeUnit → Function → Instr → ℕ → List Value → Stack → ℕ → Option Step
row u f (Jump to) p g s t = jumps to g s t
row u f Tick p g s t = ticks g s t (λ left. jumps (p + 1) g s left)
row u f (Call n) p g s t = calls u f n p g s t
row u f Return p g s t = returns f.ret g s t
row u f i p g s t = moved (p + 1) s >>= λ s. behind u f i p g s t

-- the instruction at the place of the newest call
unfoldable pub step : CodeUnit → List Value → Stack → ℕ → Option Step
step u g s t = place_of s >>= λ at. slice_get u.functions at.0 >>= λ f. slice_get f.code at.1 >>= λ i. row u f i at.1 g s t
