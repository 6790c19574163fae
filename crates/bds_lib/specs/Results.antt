-- What a method may answer.
use Rattle.std.specs.Prelude.{◌≡◌, ℕ, ◌-◌, ◌^◌, ℤ, pos, List, min, Bool, true, false, Result, Ok, Err}
use Rattle.bds_value.specs.declared.value.Ty.{Ty}
use Rattle.bds_value.specs.declared.value.Value.{Value}
use Rattle.bds_value.specs.declared.value.Value.TheVariants as value
use Rattle.bds_value.specs.Results.{OrWant}
use Rattle.bds_value.specs.TextResult.{text_within, list_within}
use Rattle.bds_lib.specs.declared.faults.LibFault.{LibFault}
use Rattle.bds_lib.specs.declared.faults.LibFault.TheVariants.{TooLong, NoMemory}

-- a count as a number of 64 bits with a sign, or the greatest such number where the count is greater
abbrev pub counted : ℕ → ℤ
counted n = pos (min n (2 ^ 63 - 1))

-- a text within the limit, else the length that it would need
abbrev pub short_text : List ℕ → Result Value LibFault
short_text = text_within TooLong

-- a list within the limit, else the length that it would need
abbrev pub short_list : Ty → List Value → Result Value LibFault
short_list = list_within TooLong

-- what a receiver and arguments have that are of no row
abbrev pub no_row : Result Value LibFault
no_row = Ok (value.Bool false)

abbrev pub is_want : LibFault → Bool
is_want NoMemory = true
is_want _ = false

-- what a call answers, unless memory runs out
abbrev pub OrNoMemory : Result Value LibFault → Result Value LibFault → Type 0
OrNoMemory = OrWant is_want

-- what a call leaves that changes a value: the value as it should be, and as it was after a fault
abbrev pub Changes : {X : Type 0} → Result X LibFault → X → X → Result (Unit {0}) LibFault → Type 0
Changes given old new (Ok _) = given ≡ Ok new
Changes given old new (Err NoMemory) = new ≡ old
Changes given old new (Err fault) = (given ≡ Err fault) × (new ≡ old)
