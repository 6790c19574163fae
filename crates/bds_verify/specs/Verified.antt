-- When a unit is verified.
use Rattle.std.specs.Prelude.{ℕ, ◌+◌, ◌<◌, ◌≤◌, ◌⊎◌, nat_eq, List, [], ◌∷◌, length, slice_get, reverse, cond, Bool, true, false, Option, Some, None, IsSome, Result, Ok, Err, ◌≡◌}
use Rattle.bds_value.specs.declared.value.Ty.{Ty}
use Rattle.bds_code.specs.declared.instr.Instr.{Instr}
use Rattle.bds_code.specs.declared.instr.Instr.TheVariants.{Jump, JumpUnless, Return, Stop, Exit, Tick}
use Rattle.bds_code.specs.declared.unit.Function.{Function}
use Rattle.bds_code.specs.declared.unit.Unit.{Unit as CodeUnit}
use Rattle.bds_code.specs.declared.effects.EffectFault.{EffectFault}
use Rattle.bds_code.specs.Row.{row}
use Rattle.bds_verify.specs.Whole.{is_whole, is_whole_unit}

-- the list that is declared at a place
abbrev pub label_at : List (ℕ × List Ty) → ℕ → Option (List Ty)
label_at [] n = None
label_at (l ∷ ls) n = cond (nat_eq l.0 n) (Some l.1) (label_at ls n)

-- whether the code goes on with the next place
abbrev pub goes_on : Instr → Bool
goes_on (Jump to) = false
goes_on Return = false
goes_on Stop = false
goes_on Exit = false
goes_on _ = true

abbrev pub target : Instr → Option ℕ
target (Jump to) = Some to
target (JumpUnless to) = Some to
target _ = None

abbrev pub turned : Result (List Ty) EffectFault → Result (List Ty) EffectFault
turned (Ok s) = Ok (reverse s)
turned (Err e) = Err e

-- the list of operand types behind an instruction, the last operand at the end
abbrev pub after : CodeUnit → Function → Instr → List Ty → Result (List Ty) EffectFault
after u f i shape = turned (row u f i (reverse shape))

module _ (u : CodeUnit) (f : Function) (shapes : ℕ → List Ty) where
  -- an instruction at a place, and the list behind it
  pub record IsFine (place : ℕ) (i : Instr) (next : List Ty) : Type 0 where
    pub effect : after u f i (shapes place) ≡ Ok next
    pub jump : (to : ℕ) → target i ≡ Some to → (label_at f.labels to ≡ Some next) × (to ≤ place → slice_get f.code to ≡ Some Tick)
    pub falls : goes_on i ≡ true → (place + 1 < length f.code) × (shapes (place + 1) ≡ next)
    pub ends : goes_on i ≡ false → (place + 1 ≡ length f.code) ⊎ IsSome (label_at f.labels (place + 1))

  -- one list of operand types for each place
  pub record AreShapes : Type 0 where
    pub start : shapes 0 ≡ []
    pub labels : (n : ℕ) (declared : List Ty) → n < length f.code → label_at f.labels n ≡ Some declared → shapes n ≡ declared
    pub each : (n : ℕ) (i : Instr) → slice_get f.code n ≡ Some i → (next : List Ty) × IsFine n i next

pub record IsVerified (u : CodeUnit) (f : Function) : Type 0 where
  pub whole : is_whole u f ≡ true
  pub shapes : (shapes : ℕ → List Ty) × AreShapes u f shapes

pub record VerifiedUnit (u : CodeUnit) : Type 0 where
  pub whole : is_whole_unit u ≡ true
  pub functions : (n : ℕ) (f : Function) → slice_get u.functions n ≡ Some f → IsVerified u f
