-- The one pass over the code of a function: the list that comes to each place, and what is wrong there.
use Rattle.std.specs.Prelude.{ℕ, zero, suc, ◌+◌, ◌<◌, ◌&&◌, ◌||◌, nat_eq, nat_lt, List, [], ◌∷◌, length, slice_get, cond, Bool, true, false, Option, Some, None, Result, Ok, Err, ⊤, ◌≡◌}
use Rattle.bds_value.specs.declared.value.Ty.{Ty}
use Rattle.bds_value.specs.Types.{same_ty}
use Rattle.bds_code.specs.declared.instr.Instr.{Instr}
use Rattle.bds_code.specs.declared.instr.Instr.TheVariants.{Tick}
use Rattle.bds_code.specs.declared.unit.Function.{Function}
use Rattle.bds_code.specs.declared.unit.Unit.{Unit as CodeUnit}
use Rattle.bds_code.specs.declared.effects.EffectFault.{EffectFault}
use Rattle.bds_code.specs.declared.effects.EffectFault.TheVariants as effect
use Rattle.bds_verify.specs.Verified.{label_at, goes_on, target, after, IsVerified, VerifiedUnit}
use Rattle.bds_verify.specs.Whole.{is_whole, is_whole_unit}
use Rattle.bds_verify.specs.declared.places.Kind.{Kind}
use Rattle.bds_verify.specs.declared.places.Kind.TheVariants.{Needs, Differs, Number, NoTick, NoLabel, RunsOff, Shape}
use Rattle.bds_verify.specs.declared.places.CheckFault.{CheckFault}
use Rattle.bds_verify.specs.declared.places.CheckFault.TheVariants.{Bad, NoMemory}
use Rattle.bds_verify.specs.declared.places.CodeFault.{CodeFault}
use Rattle.bds_verify.specs.declared.places.CodeFault.TheVariants as code
use Rattle.bds_verify.specs.declared.units.VerifyFault.{VerifyFault}
use Rattle.bds_verify.specs.declared.units.VerifyFault.TheVariants as unit

abbrev pub same_tys : List Ty → List Ty → Bool
same_tys [] [] = true
same_tys (t ∷ ts) (u ∷ us) = same_ty t u && same_tys ts us
same_tys _ _ = false

-- the first of two faults
abbrev pub or_else : Option Kind → Option Kind → Option Kind
or_else (Some k) later = Some k
or_else None later = later

-- the list at a place, from the one that is declared there and the one that comes
abbrev pub shape_of : Option (List Ty) → Option (List Ty) → List Ty
shape_of (Some declared) come = declared
shape_of None (Some came) = came
shape_of None None = []

abbrev pub differs : Option (List Ty) → Option (List Ty) → Option Kind
differs (Some declared) (Some came) = cond (same_tys came declared) None (Some (Differs came declared))
differs _ _ = None

abbrev pub row_fault : EffectFault → List Ty → Kind
row_fault (effect.Number n) shape = Number n
row_fault _ shape = Needs shape

abbrev pub is_tick : Option Instr → Bool
is_tick (Some Tick) = true
is_tick _ = false

module _ (f : Function) where
  abbrev pub no_tick : ℕ → ℕ → Option Kind
  no_tick place to = cond (nat_lt place to || is_tick (slice_get f.code to)) None (Some (NoTick to))

  abbrev pub to_label : Option (List Ty) → ℕ → ℕ → List Ty → Option Kind
  to_label None place to next = Some NoLabel
  to_label (Some declared) place to next = or_else (no_tick place to) (differs (Some declared) (Some next))

  abbrev pub jump_fault : Option ℕ → ℕ → List Ty → Option Kind
  jump_fault None place next = None
  jump_fault (Some to) place next = to_label (label_at f.labels to) place to next

  abbrev pub ended : Option (List Ty) → ℕ → Option Kind
  ended (Some declared) place = None
  ended None place = cond (nat_eq (place + 1) (length f.code)) None (Some RunsOff)

  abbrev pub runs_off : Bool → ℕ → Option Kind
  runs_off true place = cond (nat_lt (place + 1) (length f.code)) None (Some RunsOff)
  runs_off false place = ended (label_at f.labels (place + 1)) place

  abbrev pub judged : Instr → ℕ → List Ty → Result (List Ty) EffectFault → Option Kind
  judged i place shape (Err e) = Some (row_fault e shape)
  judged i place shape (Ok next) = or_else (jump_fault (target i) place next) (runs_off (goes_on i) place)

  abbrev pub kept : Bool → Result (List Ty) EffectFault → Option (List Ty)
  kept true (Ok next) = Some next
  kept _ _ = None

module _ (u : CodeUnit) (f : Function) where
  abbrev pub judge_at : Option Instr → ℕ → List Ty → Option Kind
  judge_at None place shape = None
  judge_at (Some i) place shape = judged f i place shape (after u f i shape)

  abbrev pub onward_at : Option Instr → List Ty → Option (List Ty)
  onward_at None shape = None
  onward_at (Some i) shape = kept f (goes_on i) (after u f i shape)

  -- the first thing that is wrong at a place to which a list comes
  abbrev pub judge : ℕ → Option (List Ty) → Option Kind
  judge place come = or_else (differs (label_at f.labels place) come) (judge_at (slice_get f.code place) place (shape_of (label_at f.labels place) come))

  -- the list that comes to the next place
  abbrev pub onward : ℕ → Option (List Ty) → Option (List Ty)
  onward place come = onward_at (slice_get f.code place) (shape_of (label_at f.labels place) come)

  -- the list that comes to a place
  abbrev pub comes : ℕ → Option (List Ty)
  comes zero = Some []
  comes (suc n) = onward n (comes n)

  -- the list at a place
  abbrev pub shape_at : ℕ → List Ty
  shape_at n = shape_of (label_at f.labels n) (comes n)

  -- what is wrong at a place
  unfoldable pub fault_at : ℕ → Option Kind
  fault_at n = judge n (comes n)

-- what a part of a check answers: what is wrong, or else the value, unless memory runs out
abbrev pub Checks : {X : Type 0} → Option Kind → X → Result X CheckFault → Type 0
Checks bad value (Err NoMemory) = ⊤
Checks bad value (Ok x) = (bad ≡ None) × (x ≡ value)
Checks bad value (Err (Bad kind)) = bad ≡ Some kind

abbrev pub ChecksOnly : Option Kind → Result (Unit {0}) CheckFault → Type 0
ChecksOnly bad (Err NoMemory) = ⊤
ChecksOnly bad (Ok x) = bad ≡ None
ChecksOnly bad (Err (Bad kind)) = bad ≡ Some kind

-- what a row's fault is called here
abbrev pub IsRowFault : EffectFault → List Ty → CheckFault → Type 0
IsRowFault effect.NoMemory shape fault = fault ≡ NoMemory
IsRowFault e shape NoMemory = ⊤
IsRowFault e shape fault = fault ≡ Bad (row_fault e shape)

-- the first place at which something is wrong, and what
pub record IsFirst (u : CodeUnit) (f : Function) (at : ℕ) (kind : Kind) : Type 0 where
  pub place : at < length f.code
  pub fault : fault_at u f at ≡ Some kind
  pub before : (k : ℕ) → k < at → fault_at u f k ≡ None

abbrev pub FirstFault : CodeUnit → Function → Result (Unit {0}) CodeFault → Type 0
FirstFault u f (Err code.NoMemory) = ⊤
FirstFault u f (Ok x) = (k : ℕ) → k < length f.code → fault_at u f k ≡ None
FirstFault u f (Err (code.Bad at kind)) = IsFirst u f at kind

abbrev pub at_place : ℕ → CheckFault → CodeFault
at_place n (Bad kind) = code.Bad n kind
at_place n NoMemory = code.NoMemory

-- the first thing that is wrong with a function
pub data IsCodeFault (u : CodeUnit) (f : Function) : ℕ → Kind → Type 0 where
  Unwhole : is_whole u f ≡ false → IsCodeFault u f 0 Shape
  At : (at : ℕ) (kind : Kind) → is_whole u f ≡ true → IsFirst u f at kind → IsCodeFault u f at kind

abbrev pub Verifies : CodeUnit → Function → Result (Unit {0}) CodeFault → Type 0
Verifies u f (Err code.NoMemory) = ⊤
Verifies u f (Ok x) = IsVerified u f
Verifies u f (Err (code.Bad at kind)) = IsCodeFault u f at kind

pub record IsFirstFault (u : CodeUnit) (function at : ℕ) (kind : Kind) : Type 0 where
  pub there : (f : Function) × (slice_get u.functions function ≡ Some f) × IsCodeFault u f at kind
  pub before : (k : ℕ) (g : Function) → k < function → slice_get u.functions k ≡ Some g → IsVerified u g

-- what a check of all functions answers, unless memory runs out
abbrev pub VerifiesFunctions : CodeUnit → Result (Unit {0}) VerifyFault → Type 0
VerifiesFunctions u (Err unit.NoMemory) = ⊤
VerifiesFunctions u (Ok x) = (n : ℕ) (f : Function) → slice_get u.functions n ≡ Some f → IsVerified u f
VerifiesFunctions u (Err (unit.Bad function at kind)) = IsFirstFault u function at kind

-- the first thing that is wrong with a unit
pub data IsUnitFault (u : CodeUnit) : ℕ → ℕ → Kind → Type 0 where
  OfUnit : is_whole_unit u ≡ false → IsUnitFault u 0 0 Shape
  OfFunction : (function at : ℕ) (kind : Kind) → is_whole_unit u ≡ true → IsFirstFault u function at kind → IsUnitFault u function at kind

-- what a check of a unit answers, unless memory runs out
abbrev pub VerifiesUnit : CodeUnit → Result (Unit {0}) VerifyFault → Type 0
VerifiesUnit u (Err unit.NoMemory) = ⊤
VerifiesUnit u (Ok x) = VerifiedUnit u
VerifiesUnit u (Err (unit.Bad function at kind)) = IsUnitFault u function at kind

abbrev pub at_function : ℕ → CodeFault → VerifyFault
at_function n (code.Bad at kind) = unit.Bad n at kind
at_function n code.NoMemory = unit.NoMemory

-- an answer, unless memory runs out
abbrev pub OrMemory : {X : Type 0} → Result X VerifyFault → Type 0
OrMemory (Ok x) = ⊤
OrMemory (Err unit.NoMemory) = ⊤
OrMemory (Err _) = ⊥
