-- For private contracts alone: how asks that are made again come out.
use Rattle.std.specs.Prelude.{◌≡◌, List, ◌∷◌, ◌++◌, Bool, true, false, Result, Ok, Err}
use Rattle.bds_host.specs.declared.asks.Ask.{Ask}
use Rattle.bds_host.specs.Host.{Log}
use Rattle.bds_replay.specs.declared.log.LogFault.{LogFault}
use Rattle.bds_replay.specs.declared.log.LogFault.TheVariants as log
use Rattle.bds_app_run.specs.Asks.{IsAskDone}
use Rattle.bds_app_run.specs.declared.stop.Stop.{Stop}
use Rattle.bds_app_log.specs.Replays.{all_done, is_printed}

-- an ask was made again where it prints something, and else none
abbrev pub IsDoneWhere : Bool → Ask → Log → Log → Result Unit Stop → Type 0
IsDoneWhere true ask before after result = IsAskDone ask before after result
IsDoneWhere false ask before after result = (after ≡ before) × (result ≡ Ok tt)

abbrev pub IsPrinted : Ask → Log → Log → Result Unit Stop → Type 0
IsPrinted ask before after result = IsDoneWhere (is_printed ask) ask before after result

-- behind some of these asks, which were done, the next one came out so
pub record StopsAt (asks : List Ask) (before after : Log) (stop : Stop) : Type 0 where
  pub first : List Ask
  pub ask : Ask
  pub rest : List Ask
  pub is : asks ≡ first ++ ask ∷ rest
  pub comes : IsAskDone ask (before ++ all_done first) after (Err stop)

-- these asks were done, or some of them
abbrev pub AreDone : List Ask → Log → Log → Result Unit Stop → Type 0
AreDone asks before after (Ok _) = after ≡ before ++ all_done asks
AreDone asks before after (Err stop) = StopsAt asks before after stop

-- bytes weren't read as a log for want of memory
abbrev pub is_want : LogFault → Bool
is_want log.NoMemory = true
is_want _ = false
