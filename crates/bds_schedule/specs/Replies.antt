-- What the replies of the outside give.
use Rattle.std.specs.Prelude.{ℕ, Bool, true, false, not, ◌||◌, List, [], ◌∷◌, length, nat_eq, nat_lt, pos, cond, Ok, Err}
use Rattle.bds_value.specs.declared.TheConstants.{MAX_TEXT}
use Rattle.bds_value.specs.declared.value.Stamp.{Stamp}
use Rattle.bds_value.specs.declared.value.Value.{Value}
use Rattle.bds_value.specs.declared.value.Value.TheVariants as value
use Rattle.bds_value.specs.TextResult.{held}
use Rattle.bds_lib.specs.Results.{counted}
use Rattle.bds_host.specs.declared.asks.Ask.{Ask}
use Rattle.bds_host.specs.declared.asks.Ask.TheVariants.{Read, Sys}
use Rattle.bds_host.specs.declared.asks.Reply.{Reply}
use Rattle.bds_host.specs.declared.asks.Reply.TheVariants.{Bytes, Missing, SysDone, Stamp as Stamped}
use Rattle.bds_value.specs.declared.faults.RunFault.TheVariants.{TooLong, NoFile, SysFailed}
use Rattle.bds_schedule.specs.Faults.{Outcome}
use Rattle.bds_schedule.specs.Requests.{Question, IsThere, IsEmpty, SizeOf}

-- a text within the limit
abbrev pub text_given : List ℕ → Outcome (List Value)
text_given text = cond (nat_lt MAX_TEXT (length text)) (Err (TooLong (held (length text)))) (Ok (value.Text text ∷ []))

abbrev pub command_given : ℕ → List ℕ → Outcome (List Value)
command_given code out = cond (nat_eq code 0) (text_given out) (Err (SysFailed code))

-- the values that a reply gives, or the fault that comes with it
abbrev pub values_given : Ask → Reply → Outcome (List Value)
values_given (Read path) (Bytes text) = text_given text
values_given (Read path) Missing = Err (NoFile path)
values_given (Sys command) (SysDone code out) = command_given code out
values_given ask reply = Ok []

-- the stamp in a reply
abbrev pub stamp_in : Reply → Stamp
stamp_in (Stamped there size time) = record { there = there; size = size; time = time }
stamp_in reply = record { there = false; size = 0; time = pos 0 }

-- what a stamp says to a question; the size of what isn't there is 0
abbrev pub answer_to : Question → Stamp → Value
answer_to IsThere s = value.Bool s.there
answer_to IsEmpty s = value.Bool (not s.there || nat_eq s.size 0)
answer_to SizeOf s = value.Int (counted s.size)

-- a command is a point of scheduling, and no other contact is
abbrev pub is_point : Ask → Bool
is_point (Sys command) = true
is_point _ = false
