-- Which replies fit an ask.
use Rattle.std.specs.Prelude.{ℕ, List, Bool, true, false, ◌&&◌, nat_eq, ℤ, pos, negsuc}
use Rattle.std.specs.List.{list_any}
use Rattle.bds_host.specs.declared.asks.Ask.{Ask}
use Rattle.bds_host.specs.declared.asks.Ask.TheVariants.{Read, Stamp, Write, Remove, Out, Err, Sys, Start, Next, Save}
use Rattle.bds_host.specs.declared.asks.Reply.{Reply}
use Rattle.bds_host.specs.declared.asks.Reply.TheVariants.{Bytes, Missing, Stamp as Stamped, Done, SysDone, Started, Run, Ended, Fault, NoRoom}

-- whether a number is in a list
abbrev pub has : List ℕ → ℕ → Bool
has xs k = list_any (λ x. nat_eq x k) xs

abbrev pub is_zero : ℤ → Bool
is_zero (pos n) = nat_eq n 0
is_zero (negsuc _) = false

-- size and time are 0 where nothing is there
abbrev pub is_stamp : Bool → ℕ → ℤ → Bool
is_stamp true _ _ = true
is_stamp false size time = nat_eq size 0 && is_zero time

-- the replies to each kind of ask, besides Fault and NoRoom
abbrev pub answers : Ask → Reply → Bool
answers (Read _) (Bytes _) = true
answers (Read _) Missing = true
answers (Stamp _) (Stamped there size time) = is_stamp there size time
answers (Remove _) Done = true
answers (Remove _) Missing = true
answers (Write _ _) Done = true
answers (Out _) Done = true
answers (Err _) Done = true
answers (Save _ _) Done = true
answers (Sys _) (SysDone _ _) = true
answers (Start _ _ _) Started = true
answers (Next ready _) (Run k) = has ready k
answers (Next _ running) (Ended task _) = has running task
answers _ _ = false

abbrev pub fits : Ask → Reply → Bool
fits _ Fault = true
fits _ NoRoom = true
fits ask reply = answers ask reply
