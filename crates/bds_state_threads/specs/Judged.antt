-- What of a thread isn't valid for a unit: the thread's own part, or one of its frames.
use Rattle.std.specs.Prelude.{ℕ, ◌+◌, ◌<◌, ◌≤◌, ◌≡◌, ◌≢◌, List, [], ◌++◌, length, reverse, slice_get, Option, Some, None, Result, Ok, Err, ⊤}
use Rattle.bds_value.specs.declared.TheConstants.{MAX_CALLS}
use Rattle.bds_value.specs.declared.ids.Status.{Status}
use Rattle.bds_value.specs.declared.ids.Status.TheVariants.{Ready, Waiting, Ended}
use Rattle.bds_value.specs.declared.value.Ty.{Ty}
use Rattle.bds_value.specs.declared.value.Value.{Value}
use Rattle.bds_code.specs.declared.instr.Instr.TheVariants as instr
use Rattle.bds_code.specs.declared.unit.Function.{Function}
use Rattle.bds_code.specs.Operands.{given}
use Rattle.bds_code.specs.declared.unit.Unit.{Unit as CodeUnit}
use Rattle.bds_code_frames.specs.declared.frame.Frame.{Frame}
use Rattle.bds_code_frames.specs.declared.thread.Thread.{Thread}
use Rattle.bds_code_frames.specs.Stack.{call_of}
use Rattle.bds_verify.specs.Threads.{Shapes, AreAllShapes, Stands, Waits, IsThread, Typed}
use Rattle.bds_state_threads.specs.declared.judge.ThreadFault.{ThreadFault}
use Rattle.bds_state_threads.specs.declared.judge.ThreadFault.TheVariants as fault

module _ (u : CodeUnit) where
  -- what a thread is besides each of its frames
  abbrev pub HasOwn : Status → List Value → List Frame → Type 0
  HasOwn Ready globals frames = Typed globals u.globals × (frames ≢ []) × (length frames ≤ MAX_CALLS)
  HasOwn (Waiting ids) globals frames = Typed globals u.globals × (length frames ≤ MAX_CALLS)
  HasOwn Ended globals frames = (globals ≡ []) × (frames ≡ [])

  abbrev pub IsOwn : Thread → Type 0
  IsOwn t = HasOwn t.status t.globals t.frames

  -- the newest frame stands at a place with its operands; one before another waits for that one's result
  abbrev pub FitsUnder : Shapes u → Option Frame → Frame → Type 0
  FitsUnder shapes None x = Stands u shapes (reverse (shapes x.function x.place)) (call_of x) []
  FitsUnder shapes (Some next) x = Waits u shapes next.function (call_of x)

  -- a frame by its number, the oldest first
  pub record IsFrame (frames : List Frame) (n : ℕ) (x : Frame) : Type 0 where
    pub shapes : Shapes u
    pub judged : AreAllShapes u shapes
    pub fits : FitsUnder shapes (slice_get frames (n + 1)) x

  pub record IsFirstBad (frames : List Frame) (n : ℕ) : Type 0 where
    pub x : Frame
    pub there : slice_get frames n ≡ Some x
    pub bad : IsFrame frames n x → ⊥
    pub before : (k : ℕ) (y : Frame) → k < n → slice_get frames k ≡ Some y → IsFrame frames k y

  -- the first thing that isn't valid; the thread's own part comes before its frames
  abbrev pub IsThreadFault : Thread → ThreadFault → Type 0
  IsThreadFault t fault.Thread = IsOwn t → ⊥
  IsThreadFault t (fault.Frame n) = IsOwn t × IsFirstBad t.frames n
  IsThreadFault t fault.NoMemory = ⊤

  -- what a judge answers of frames
  abbrev pub JudgesFrames : List Frame → Result (Unit {0}) ThreadFault → Type 0
  JudgesFrames frames (Ok x) = (n : ℕ) (x : Frame) → slice_get frames n ≡ Some x → IsFrame frames n x
  JudgesFrames frames (Err (fault.Frame n)) = IsFirstBad frames n
  JudgesFrames frames (Err fault.Thread) = ⊥
  JudgesFrames frames (Err fault.NoMemory) = ⊤

  -- and of a thread
  abbrev pub JudgesThread : Thread → Result (Unit {0}) ThreadFault → Type 0
  JudgesThread t (Ok x) = IsThread u t
  JudgesThread t (Err e) = IsThreadFault t e

-- a frame of these parts
abbrev pub frame_of : ℕ → ℕ → List Value → List Value → Frame
frame_of function place slots operands = record { function = function; place = place; slots = slots; operands = operands }

-- the function of a frame that is there
abbrev pub number_of : Option Frame → Option ℕ
number_of None = None
number_of (Some x) = Some x.function

-- a place behind a call of a function
pub record IsCalledFrom (f : Function) (place callee : ℕ) : Type 0 where
  pub at : ℕ
  pub behind : place ≡ at + 1
  pub calls : slice_get f.code at ≡ Some (instr.Call callee)

-- operands that with a result behind them have the types of a place, each the last one at its end
pub record HasRest (operands : List Value) (shape : List Ty) (ret : Ty) : Type 0 where
  pub rest : List Ty
  pub result : reverse shape ≡ given ret ++ rest
  pub typed : Typed (reverse operands) rest

-- a place of a function, and values of its parameters and locals
pub record IsIn (f : Function) (place : ℕ) (values : List Value) : Type 0 where
  pub within : place < length f.code
  pub slots : Typed values (f.params ++ f.locals)

module _ (u : CodeUnit) where
  -- a place behind a call of a function, with the operands of the place before its result is there
  pub record IsCaller (f : Function) (callee place : ℕ) (operands : List Value) (shape : List Ty) : Type 0 where
    pub g : Function
    pub there : slice_get u.functions callee ≡ Some g
    pub called : IsCalledFrom f place callee
    pub rest : HasRest operands shape g.ret

  -- the operands of the newest frame, or of one before a frame of another function
  abbrev pub HasOperands : Function → Option ℕ → ℕ → List Value → List Ty → Type 0
  HasOperands f None place operands shape = Typed operands shape
  HasOperands f (Some callee) place operands shape = IsCaller f callee place operands shape

  -- a frame of these parts where it belongs
  pub record IsPlaced (shapes : Shapes u) (next : Option ℕ) (x : Frame) : Type 0 where
    pub f : Function
    pub there : slice_get u.functions x.function ≡ Some f
    pub inside : IsIn f x.place x.slots
    pub operands : HasOperands f next x.place x.operands (shapes x.function x.place)
