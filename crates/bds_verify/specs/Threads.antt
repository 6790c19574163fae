-- When a thread is valid for a unit: what it holds has the types that the unit gives its places.
use Rattle.std.specs.Prelude.{ℕ, ◌+◌, ◌<◌, ◌≤◌, ◌≡◌, ◌≢◌, List, [], ◌∷◌, ◌++◌, length, reverse, slice_get, Some, ⊤}
use Rattle.bds_value.specs.declared.TheConstants.{MAX_CALLS}
use Rattle.bds_value.specs.declared.value.Ty.{Ty}
use Rattle.bds_value.specs.declared.value.Value.{Value}
use Rattle.bds_value.specs.Fields.{IsValueTy}
use Rattle.bds_value.specs.Spelling.{IsWithinLimits}
use Rattle.bds_value.specs.Value.{type_of, IsWellFormed}
use Rattle.bds_code_frames.specs.declared.frame.Frame.{Frame}
use Rattle.bds_value.specs.declared.ids.Status.{Status}
use Rattle.bds_value.specs.declared.ids.Status.TheVariants.{Ready, Waiting, Ended}
use Rattle.bds_code_frames.specs.declared.thread.Thread.{Thread}
use Rattle.bds_code_frames.specs.Stack.{Call, Stack, stack}
use Rattle.bds_code.specs.declared.instr.Instr.TheVariants as instr
use Rattle.bds_code.specs.declared.unit.Function.{Function}
use Rattle.bds_code.specs.declared.unit.Unit.{Unit as CodeUnit}
use Rattle.bds_code.specs.Operands.{given}
use Rattle.bds_verify.specs.Verified.{AreShapes}

-- a value of a type, well formed and within the limits of a file
pub record Holds (v : Value) (t : Ty) : Type 0 where
  pub type : type_of v ≡ t
  pub formed : IsWellFormed v
  pub limits : IsWithinLimits v
  pub nests : IsValueTy t

-- values of these types
abbrev pub Typed : List Value → List Ty → Type 0
Typed [] [] = ⊤
Typed (v ∷ vs) (t ∷ ts) = Holds v t × Typed vs ts
Typed _ _ = ⊥

-- a call whose slots have the types of parameters and locals, and whose operands have these, the last first
pub record IsCall (f : Function) (shape : List Ty) (c : Call) : Type 0 where
  pub slots : Typed c.slots (f.params ++ f.locals)
  pub ops : Typed c.ops shape

module _ (u : CodeUnit) where
  -- the types of the operands at each place of each function, the last operand at the end
  abbrev pub Shapes : Type 0
  Shapes = ℕ → ℕ → List Ty

  abbrev pub AreAllShapes : Shapes → Type 0
  AreAllShapes shapes = (n : ℕ) (f : Function) → slice_get u.functions n ≡ Some f → AreShapes u f (shapes n)

  -- an older call: it stands behind its call of a function, and has the operands of its place once that function's result is there
  pub record Waits (shapes : Shapes) (callee : ℕ) (c : Call) : Type 0 where
    pub f : Function
    pub g : Function
    pub at : ℕ
    pub there : slice_get u.functions c.function ≡ Some f
    pub callee_there : slice_get u.functions callee ≡ Some g
    pub behind : c.place ≡ at + 1
    pub calls : slice_get f.code at ≡ Some (instr.Call callee)
    pub within : c.place < length f.code
    pub rest : List Ty
    pub result : reverse (shapes c.function c.place) ≡ given g.ret ++ rest
    pub call : IsCall f rest c

  -- the calls below one of a function, the newest first
  abbrev pub AreBelow : Shapes → ℕ → Stack → Type 0
  AreBelow shapes callee [] = ⊤
  AreBelow shapes callee (c ∷ below) = Waits shapes callee c × AreBelow shapes c.function below

  -- the newest call with these operands, and those below it
  pub record Stands (shapes : Shapes) (shape : List Ty) (c : Call) (below : Stack) : Type 0 where
    pub f : Function
    pub there : slice_get u.functions c.function ≡ Some f
    pub within : c.place < length f.code
    pub call : IsCall f shape c
    pub chain : AreBelow shapes c.function below

  -- the newest call has the operands of its place
  abbrev pub AreCalls : Shapes → Stack → Type 0
  AreCalls shapes [] = ⊤
  AreCalls shapes (c ∷ below) = Stands shapes (reverse (shapes c.function c.place)) c below

  -- the globals and calls of a thread that hasn't ended
  pub record AreLive (globals : List Value) (s : Stack) : Type 0 where
    pub shapes : Shapes
    pub judged : AreAllShapes shapes
    pub globals_typed : Typed globals u.globals
    pub calls : AreCalls shapes s
    pub few : length s ≤ MAX_CALLS

  abbrev pub HasParts : Status → List Value → List Frame → Type 0
  HasParts Ready globals frames = AreLive globals (stack frames) × (frames ≢ [])
  HasParts (Waiting ids) globals frames = AreLive globals (stack frames)
  HasParts Ended globals frames = (globals ≡ []) × (frames ≡ [])

  -- a thread that is valid by itself: an ended one holds nothing, and a ready one has a frame
  abbrev pub IsThread : Thread → Type 0
  IsThread t = HasParts t.status t.globals t.frames
