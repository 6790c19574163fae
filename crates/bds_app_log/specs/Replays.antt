-- The replay of a log.
use Rattle.std.specs.Prelude.{◌≡◌, ◌≢◌, ◌⊎◌, ℕ, List, [], ◌∷◌, ◌++◌, Bool, true, false, map}
use Rattle.std.specs.List.{filter}
use Rattle.bds_host.specs.declared.asks.Ask.{Ask}
use Rattle.bds_host.specs.declared.asks.Ask.TheVariants.{Out, Err, Read}
use Rattle.bds_host.specs.declared.asks.Reply.{Reply}
use Rattle.bds_host.specs.declared.asks.Reply.TheVariants.{Bytes, Missing, Done, Fault as Faulted}
use Rattle.bds_host.specs.declared.faults.Fault.{Fault}
use Rattle.bds_host.specs.declared.faults.Fault.TheVariants as fault
use Rattle.bds_host.specs.Host.{Log, Answered, FoundNoRoom}
use Rattle.bds_schedule.specs.Determined.{asks_of}
use Rattle.bds_replay.specs.Loading.{IsLogOf}
use Rattle.bds_replay.specs.Replayed.{IsReplayed}
use Rattle.bds_replay.specs.declared.log.Log.{Log as ReplyLog}
use Rattle.bds_app_run.specs.Telling.{TellsDevice, TellsFault}
use Rattle.bds_app_run.specs.declared.outcome.Outcome.{Outcome}
use Rattle.bds_app_run.specs.declared.outcome.Outcome.TheVariants.{BadFile, Device, NoMemory, Ticks}
use Rattle.bds_app_run.specs.Jobs.{DoesJob}
use Rattle.bds_app_log.specs.Logged.{is_logged}

abbrev pub is_printed : Ask → Bool
is_printed (Out text) = true
is_printed (Err text) = true
is_printed _ = false

-- what was asked to be printed, in order
abbrev pub printed_in : Log → List Ask
printed_in log = filter is_printed (asks_of log)

-- asks that were done, one behind the other
abbrev pub all_done : List Ask → Log
all_done asks = map (λ ask. (ask, Done)) asks

-- what was printed is printed again, and then this is the answer
pub data PrintsAgain (asks : List Ask) (came : Outcome) (before after : Log) : Outcome → Type 0 where
  printed : after ≡ before ++ all_done asks → PrintsAgain asks came before after came
  faulted : (first rest : List Ask) (ask : Ask) (log : Log) (answer : Outcome) → asks ≡ first ++ ask ∷ rest
      → Answered (before ++ all_done first) log ask Faulted → TellsDevice log after answer
      → PrintsAgain asks came before after answer
  no_memory : (first rest : List Ask) (ask : Ask) → asks ≡ first ++ ask ∷ rest
      → FoundNoRoom (before ++ all_done first) after ask
      → PrintsAgain asks came before after NoMemory

-- the file of a path was read, and its bytes are those of this log
pub record HoldsLog (path : List ℕ) (l : ReplyLog) (before after : Log) : Type 0 where
  pub bytes : List ℕ
  pub read : Answered before after (Read path) (Bytes bytes)
  pub is : IsLogOf bytes l

-- it is missing, or its bytes are those of no log, which is told by this fault
pub data HoldsNoLog (path : List ℕ) (before after : Log) : Fault → Type 0 where
  missing : Answered before after (Read path) Missing → HoldsNoLog path before after (fault.Missing path)
  not_loadable : (bytes : List ℕ) → Answered before after (Read path) (Bytes bytes)
      → ((l : ReplyLog) → IsLogOf bytes l → ⊥)
      → HoldsNoLog path before after (fault.NotLoadable path)

-- the job of a log was done again over its replies, of which these are left
pub record IsDoneAgain (l : ReplyLog) (inner : Log) (left : List Reply) (came : Outcome) : Type 0 where
  pub does : DoesJob l.job [] inner came
  pub replayed : IsReplayed l.replies (record { left = left; log = inner })

-- it came to no end of which a log is kept, or not by all replies
abbrev pub IsUnlike : Outcome → List Reply → Type 0
IsUnlike came left = ((came ≡ Device) ⊎ (came ≡ Ticks)) ⊎ ((is_logged came ≡ true) × (left ≢ []))

-- where the job of a log comes again to an end of which a log is kept, by all replies, what it printed is printed, and
-- its answer is the answer; else nothing of it is printed
pub data ReplaysJob (path : List ℕ) (l : ReplyLog) (before after : Log) : Outcome → Type 0 where
  alike : (inner : Log) (came answer : Outcome) → IsDoneAgain l inner [] came → is_logged came ≡ true
      → PrintsAgain (printed_in inner) came before after answer → ReplaysJob path l before after answer
  unlike : (inner : Log) (left : List Reply) (came answer : Outcome) → IsDoneAgain l inner left came
      → IsUnlike came left
      → TellsFault (fault.NotLoadable path) BadFile before after answer → ReplaysJob path l before after answer
  no_memory : after ≡ before → ReplaysJob path l before after NoMemory

-- a log is read and replayed; of the outside nothing else is asked but what is printed
pub data ReplaysLog (path : List ℕ) (before after : Log) : Outcome → Type 0 where
  held : (l : ReplyLog) (log : Log) (answer : Outcome) → HoldsLog path l before log → ReplaysJob path l log after answer
      → ReplaysLog path before after answer
  bad_file : (f : Fault) (log : Log) (answer : Outcome) → HoldsNoLog path before log f
      → TellsFault f BadFile log after answer
      → ReplaysLog path before after answer
  unread : (log : Log) (answer : Outcome) → Answered before log (Read path) Faulted → TellsDevice log after answer
      → ReplaysLog path before after answer
  -- there was no memory to read it, or for its log
  no_room : FoundNoRoom before after (Read path) → ReplaysLog path before after NoMemory
  unloaded : (bytes : List ℕ) → Answered before after (Read path) (Bytes bytes) → ReplaysLog path before after NoMemory
