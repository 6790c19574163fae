-- What a thread awaits that has left the machine.
use Rattle.std.specs.Prelude.{ℕ, ◌+◌, List, [], ◌∷◌, map, slice_get, Bool, true, false, Option, Some, None, Ok, ◌≡◌, ⊤}
use Rattle.bds_value.specs.declared.value.Ty.{Ty}
use Rattle.bds_value.specs.declared.value.Ty.TheVariants as ty
use Rattle.bds_value.specs.declared.value.Value.{Value}
use Rattle.bds_value.specs.declared.value.Value.TheVariants as value
use Rattle.bds_host.specs.declared.asks.Ask.{Ask}
use Rattle.bds_host.specs.declared.asks.Ask.TheVariants as ask
use Rattle.bds_code.specs.declared.instr.Instr.{Instr}
use Rattle.bds_code.specs.declared.instr.Instr.TheVariants.{FileRead, FileWrite, FileRemove, FileStamp, Out, Sys, OutOfDate, NewTask, Declare, Goal, Spawn, Wait, WaitAll, Save, SaveHere}
use Rattle.bds_code.specs.declared.unit.Function.{Function}
use Rattle.bds_code.specs.declared.unit.Unit.{Unit as CodeUnit}
use Rattle.bds_code.specs.Row.{answers, row}
use Rattle.bds_code_frames.specs.declared.frame.Frame.{Frame}
use Rattle.bds_code_frames.specs.declared.thread.Thread.{Thread}
use Rattle.bds_code_frames.specs.Stack.{Call, Stack, stack, place_of}
use Rattle.bds_verify.specs.Threads.{Holds, IsCall, AreLive, IsThread}
use Rattle.bds_machine.specs.declared.point.Answer.{Answer}
use Rattle.bds_machine.specs.declared.point.Answer.TheVariants as answer
use Rattle.bds_machine.specs.declared.point.Point.{Point}
use Rattle.bds_machine.specs.declared.point.Point.TheVariants as point
use Rattle.bds_machine.specs.Calls.{received}
use Rattle.bds_machine.specs.Points.{asked}

-- the type of what an instruction awaits, Void where that is nothing; None where it awaits no answer
abbrev pub awaited : Instr → Option Ty
awaited FileRead = Some ty.Text
awaited FileWrite = Some ty.Void
awaited FileRemove = Some ty.Void
awaited (FileStamp question) = slice_get answers question
awaited Out = Some ty.Void
awaited Sys = Some ty.Text
awaited OutOfDate = Some ty.Bool
awaited NewTask = Some ty.Text
awaited Declare = Some ty.Void
awaited Goal = Some (ty.List ty.Text)
awaited (Spawn f) = Some ty.Text
awaited Wait = Some ty.Void
awaited WaitAll = Some ty.Void
awaited Save = Some ty.Void
awaited SaveHere = Some ty.Void
awaited _ = None

-- the value that an answer pushes
abbrev pub value_of : Answer → Option Value
value_of answer.Nothing = None
value_of (answer.Bool b) = Some (value.Bool b)
value_of (answer.Int n) = Some (value.Int n)
value_of (answer.Text t) = Some (value.Text t)
value_of (answer.Texts ts) = Some (value.List ty.Text (map value.Text ts))

-- a value of a type within the limits, or none for Void
abbrev pub IsAnswer : Option Value → Ty → Type 0
IsAnswer None t = t ≡ ty.Void
IsAnswer (Some v) t = Holds v t

-- the type of the answer to an ask; None for a stamp, where the question decides
abbrev pub ask_ty : Ask → Option Ty
ask_ty (ask.Read path) = Some ty.Text
ask_ty (ask.Write path text) = Some ty.Void
ask_ty (ask.Remove path) = Some ty.Void
ask_ty (ask.Out text) = Some ty.Void
ask_ty (ask.Sys command) = Some ty.Text
ask_ty _ = None

-- the type of the answer at a point, Void where that is nothing; None where the point doesn't tell it
abbrev pub point_ty : Point → Option Ty
point_ty (point.Asks a) = ask_ty a
point_ty (point.Old outs ins) = Some ty.Bool
point_ty (point.Task task) = Some ty.Text
point_ty (point.Declare rule) = Some ty.Void
point_ty (point.Goal files) = Some (ty.List ty.Text)
point_ty (point.Spawn f args) = Some ty.Text
point_ty (point.Wait ids) = Some ty.Void
point_ty point.WaitAll = Some ty.Void
point_ty (point.Save path) = Some ty.Void
point_ty _ = None

-- an answer of the type that a point tells
pub record FitsPoint (p : Point) (a : Answer) : Type 0 where
  pub type : Ty
  pub told : point_ty p ≡ Some type
  pub answer : IsAnswer (value_of a) type

abbrev pub with_frames : List Frame → Thread → Thread
with_frames frames t = record { parent = t.parent; status = t.status; globals = t.globals; frames = frames }

-- the newest call stands behind an instruction that awaits an answer, and the thread is valid once it has it
pub record AwaitsAnswer (u : CodeUnit) (t : Thread) (type : Ty) : Type 0 where
  pub function : ℕ
  pub at : ℕ
  pub f : Function
  pub instruction : Instr
  pub stands : place_of (stack t.frames) ≡ Some (function, at + 1)
  pub there : slice_get u.functions function ≡ Some f
  pub code : slice_get f.code at ≡ Some instruction
  pub awaits : awaited instruction ≡ Some type
  pub valid : (v : Option Value) → IsAnswer v type → (frames : List Frame) → received v (stack t.frames) ≡ Some (stack frames) → IsThread u (with_frames frames t)

-- whether a thread awaits an answer at a point
abbrev pub is_awaited : Point → Bool
is_awaited (point.Exit code) = false
is_awaited (point.Stop e at) = false
is_awaited point.Finished = false
is_awaited point.Spent = false
is_awaited _ = true

-- a thread that an instruction has left at a point, with operands that its row takes
pub record IsLeft (u : CodeUnit) (p : Point) (t : Thread) : Type 0 where
  pub type : Ty
  pub awaits : AwaitsAnswer u t type
  pub call : Call
  pub below : Stack
  pub shape : List Ty
  pub next : List Ty
  pub typed : IsCall awaits.f shape call
  pub taken : row u awaits.f awaits.instruction shape ≡ Ok next
  pub asks : asked u awaits.instruction (call ∷ below) ≡ Some (Ok (p, stack t.frames))

-- a thread whose code has ended has no frames, and one without a tick left is valid as it was
abbrev pub IsAtRest : CodeUnit → Point → Thread → Type 0
IsAtRest u point.Finished t = (t.frames ≡ []) × AreLive u t.globals []
IsAtRest u point.Spent t = IsThread u t
IsAtRest u p t = ⊤

-- what a thread is behind an answer
pub record IsGiven (u : CodeUnit) (v : Option Value) (old new : Thread) : Type 0 where
  pub frames : received v (stack old.frames) ≡ Some (stack new.frames)
  pub rest : new ≡ with_frames new.frames old
  pub valid : IsThread u new
