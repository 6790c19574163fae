-- What calls that judge operands answer.
use Rattle.std.specs.Prelude.{ℕ, ◌-◌, ◌<◌, ◌≤◌, ◌≡◌, List, ◌++◌, length, reverse, take, Result, Ok, Err, ⊤, Option, Some, None}
use Rattle.std.specs.Option.{option_to_list}
use Rattle.bds_value.specs.declared.value.Ty.{Ty}
use Rattle.bds_code.specs.declared.effects.EffectFault.{EffectFault}
use Rattle.bds_code.specs.declared.effects.EffectFault.TheVariants.{Needs, Number, NoMemory}
use Rattle.bds_code.specs.declared.operands.Exchange.{Exchange}

-- what is left is so many of the first operands
abbrev pub KeepsShape : Result (List Ty) EffectFault → List Ty → Result ℕ EffectFault → Type 0
KeepsShape expected shape (Ok n) = (expected ≡ Ok (reverse (take n shape))) × (n ≤ length shape)
KeepsShape expected shape (Err e) = expected ≡ Err e

-- the last of so many operands is taken
abbrev pub TakesLast : Result (Ty × List Ty) EffectFault → List Ty → ℕ → Option Ty → Type 0
TakesLast expected shape count (Some t) = (expected ≡ Ok (t, reverse (take (count - 1) shape))) × (0 < count)
TakesLast expected shape count None = expected ≡ Err Needs

-- the type inside a list or map
abbrev pub TakesItem : Result Ty EffectFault → Option Ty → Type 0
TakesItem expected (Some t) = expected ≡ Ok t
TakesItem expected None = expected ≡ Err Needs

-- what becomes of the operands, unless memory runs out
abbrev pub Swaps : Result (List Ty) EffectFault → List Ty → Result Exchange EffectFault → Type 0
Swaps expected shape (Ok s) = (expected ≡ Ok (option_to_list s.gives ++ reverse (take s.keeps shape))) × (s.keeps ≤ length shape)
Swaps expected shape (Err NoMemory) = ⊤
Swaps expected shape (Err e) = expected ≡ Err e

-- so many operands are kept and these are given, unless memory runs out
abbrev pub GivesTypes : List Ty → ℕ → Result Exchange EffectFault → Type 0
GivesTypes types keeps (Ok s) = (option_to_list s.gives ≡ types) × (s.keeps ≡ keeps)
GivesTypes types keeps (Err NoMemory) = ⊤
GivesTypes types keeps (Err e) = ⊥

-- what a call that changes the types of the operands answers and leaves, unless memory runs out
abbrev pub ChangesShape : Result (List Ty) EffectFault → List Ty → List Ty → Result (Unit {0}) EffectFault → Type 0
ChangesShape expected old new (Ok _) = expected ≡ Ok (reverse new)
ChangesShape expected old new (Err NoMemory) = new ≡ old
ChangesShape expected old new (Err e) = (expected ≡ Err e) × (new ≡ old)

-- so many of the first operands stay, and at most one is put behind them
abbrev pub LeavesFront : List Ty → List Ty → Type 0
LeavesFront old new = (keeps : ℕ) × (gives : Option Ty) × (keeps ≤ length old)
    × (new ≡ take keeps old ++ option_to_list gives)
