-- How single asks come out.
use Rattle.std.specs.Prelude.{ℕ, List, Option, Some, None, Result, Ok, Err}
use Rattle.bds_host.specs.declared.asks.Ask.{Ask}
use Rattle.bds_host.specs.declared.asks.Ask.TheVariants.{Read}
use Rattle.bds_host.specs.declared.asks.Reply.TheVariants.{Bytes, Missing, Done, Fault as Faulted}
use Rattle.bds_host.specs.Host.{Log, Answered, FoundNoRoom}
use Rattle.bds_app_run.specs.declared.stop.Stop.{Stop}
use Rattle.bds_app_run.specs.declared.stop.Stop.TheVariants.{Fault, NoMemory}

-- an ask that Done answers: it was so answered, or by a fault, or there was no memory
abbrev pub IsAskDone : Ask → Log → Log → Result Unit Stop → Type 0
IsAskDone ask before after (Ok _) = Answered before after ask Done
IsAskDone ask before after (Err Fault) = Answered before after ask Faulted
IsAskDone ask before after (Err NoMemory) = FoundNoRoom before after ask

-- what the read of a file showed: its bytes, or none where it is missing
abbrev pub IsRead : List ℕ → Log → Log → Result (Option (List ℕ)) Stop → Type 0
IsRead path before after (Ok (Some bytes)) = Answered before after (Read path) (Bytes bytes)
IsRead path before after (Ok None) = Answered before after (Read path) Missing
IsRead path before after (Err Fault) = Answered before after (Read path) Faulted
IsRead path before after (Err NoMemory) = FoundNoRoom before after (Read path)
