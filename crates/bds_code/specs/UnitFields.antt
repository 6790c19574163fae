-- Which units may be in a file.
use Rattle.std.specs.Prelude.{◌≡◌, ℕ, ◌<◌, ◌≤◌, ◌^◌, List, length, Option, None, nat_lt, FitsSigned, ⊤}
use Rattle.std.specs.Int.{w64}
use Rattle.std.specs.List.{All}
use Rattle.bds_value.specs.declared.TheConstants.{MAX_COUNT, MAX_TEXT, MAX_CODE}
use Rattle.bds_value.specs.declared.value.At.{At}
use Rattle.bds_value.specs.declared.value.Ty.{Ty}
use Rattle.bds_value.specs.Fields.{AreFieldTexts, AreFieldTypes, IsFieldTy, RisesFrom}
use Rattle.bds_code.specs.declared.instr.Instr.{Instr}
use Rattle.bds_code.specs.declared.instr.Instr.TheVariants.{PushInt, PushText, PushDefault, Load, Store, LoadGlobal, StoreGlobal, MakeList, MakeMap, Update, Jump, JumpUnless, Call, Method, FileStamp, Spawn}
use Rattle.bds_code.specs.declared.unit.Function.{Function}
use Rattle.bds_code.specs.declared.unit.Unit.{Unit as CodeUnit}

-- texts, types and counts of an instruction are within the limits of a file
abbrev pub IsFieldInstr : Instr → Type 0
IsFieldInstr (PushText t) = length t ≤ MAX_TEXT
IsFieldInstr (PushDefault t) = IsFieldTy t
IsFieldInstr (MakeList t n) = IsFieldTy t
IsFieldInstr (MakeMap t n) = IsFieldTy t
IsFieldInstr (Update scope slot kinds what) = length kinds ≤ MAX_COUNT
IsFieldInstr _ = ⊤

abbrev pub IsFieldLabel : ℕ × List Ty → Type 0
IsFieldLabel l = AreFieldTypes l.1

-- a function that may be in a file
pub record IsFieldFunction (f : Function) : Type 0 where
  pub name : length f.name ≤ MAX_TEXT
  pub params : AreFieldTypes f.params
  pub locals : AreFieldTypes f.locals
  pub ret : IsFieldTy f.ret
  pub size : length f.code ≤ MAX_CODE
  pub code : All IsFieldInstr f.code
  pub targets : length f.labels ≤ MAX_COUNT
  pub labels : All IsFieldLabel f.labels
  pub rises : RisesFrom nat_lt (λ (l : ℕ × List Ty). l.0) None f.labels
  pub lines : length f.lines ≡ length f.code

-- a unit that may be in a file
pub record IsFieldUnit (u : CodeUnit) : Type 0 where
  pub files : AreFieldTexts u.files
  pub globals : AreFieldTypes u.globals
  pub count : length u.functions ≤ MAX_COUNT
  pub functions : All IsFieldFunction u.functions

-- the numbers have the bits that those of a unit in memory have
abbrev pub NumbersFit : Instr → Type 0
NumbersFit (PushInt n) = FitsSigned w64 n
NumbersFit (Load i) = i < 2 ^ 16
NumbersFit (Store i) = i < 2 ^ 16
NumbersFit (LoadGlobal i) = i < 2 ^ 16
NumbersFit (StoreGlobal i) = i < 2 ^ 16
NumbersFit (MakeList t n) = n < 2 ^ 32
NumbersFit (MakeMap t n) = n < 2 ^ 32
NumbersFit (Update scope slot kinds what) = (slot < 2 ^ 16) × (what < 2 ^ 8)
NumbersFit (Jump to) = to < 2 ^ 32
NumbersFit (JumpUnless to) = to < 2 ^ 32
NumbersFit (Call f) = f < 2 ^ 32
NumbersFit (Method m) = m < 2 ^ 8
NumbersFit (FileStamp q) = q < 2 ^ 8
NumbersFit (Spawn f) = f < 2 ^ 32
NumbersFit _ = ⊤

abbrev pub LineFits : At → Type 0
LineFits a = (a.file < 2 ^ 32) × (a.line < 2 ^ 32)

pub record FunctionFits (f : Function) : Type 0 where
  pub code : All NumbersFit f.code
  pub labels : All (λ (l : ℕ × List Ty). l.0 < 2 ^ 32) f.labels
  pub lines : All LineFits f.lines

abbrev pub UnitFits : CodeUnit → Type 0
UnitFits u = All FunctionFits u.functions
