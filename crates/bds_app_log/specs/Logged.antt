-- A job whose log is written.
use Rattle.std.specs.Prelude.{◌≡◌, ◌⊎◌, ℕ, List, [], ◌∷◌, ◌++◌, Bool, true, false}
use Rattle.bds_host.specs.declared.asks.Ask.{Ask}
use Rattle.bds_host.specs.declared.asks.Ask.TheVariants.{Write}
use Rattle.bds_host.specs.declared.asks.Reply.{Reply}
use Rattle.bds_host.specs.declared.asks.Reply.TheVariants.{Done, Fault, NoRoom}
use Rattle.bds_host.specs.Asks.{fits}
use Rattle.bds_host.specs.Host.{Log, Answered, FoundNoRoom}
use Rattle.bds_replay.specs.Loading.{IsLogOf}
use Rattle.bds_replay.specs.Recorded.{replies_of}
use Rattle.bds_replay.specs.declared.log.Job.{Job}
use Rattle.bds_replay.specs.declared.log.Log.{Log as ReplyLog}
use Rattle.bds_app_run.specs.Telling.{TellsDevice}
use Rattle.bds_app_run.specs.declared.outcome.Outcome.{Outcome}
use Rattle.bds_app_run.specs.declared.outcome.Outcome.TheVariants.{Ended, Refused, BadFile, NoMemory}
use Rattle.bds_app_run.specs.Jobs.{DoesJob}

-- the answers of which a log is kept
abbrev pub is_logged : Outcome → Bool
is_logged (Ended status) = true
is_logged Refused = true
is_logged BadFile = true
is_logged _ = false

-- the log of a job that was given the replies of these pairs
abbrev pub log_of : Job → Log → ReplyLog
log_of j pairs = record { job = j; replies = replies_of pairs }

-- bytes are written to the file of a path, and then this is the answer of what came before
pub data Writes (path bytes : List ℕ) (came : Outcome) (before after : Log) : Outcome → Type 0 where
  written : Answered before after (Write path bytes) Done → Writes path bytes came before after came
  faulted : (log : Log) (answer : Outcome) → Answered before log (Write path bytes) Fault → TellsDevice log after answer
      → Writes path bytes came before after answer
  no_memory : FoundNoRoom before after (Write path bytes) → Writes path bytes came before after NoMemory

-- there was no memory to make an ask, or to keep its reply
abbrev pub IsUnkept : Ask → Log → Log → Type 0
IsUnkept ask before after = (after ≡ before)
    ⊎ ((reply : Reply) × ((fits ask reply ≡ true) × (after ≡ before ++ (ask, reply) ∷ [])))

-- a job is done; where it ended, was refused, or its file was bad, its log is written behind all that it asked
pub data LogsJob (j : Job) (path : List ℕ) (before after : Log) : Outcome → Type 0 where
  logged : (pairs : Log) (bytes : List ℕ) (came answer : Outcome) → DoesJob j before (before ++ pairs) came
      → is_logged came ≡ true
      → IsLogOf bytes (log_of j pairs) → Writes path bytes came (before ++ pairs) after answer
      → LogsJob j path before after answer
  -- there was no memory for the bytes
  unspelled : (came : Outcome) → DoesJob j before after came → is_logged came ≡ true
      → LogsJob j path before after NoMemory
  unlogged : (answer : Outcome) → DoesJob j before after answer → is_logged answer ≡ false
      → LogsJob j path before after answer
  -- the job stopped at an ask for want of memory
  lost : (pairs : Log) (ask : Ask) → DoesJob j before (before ++ (pairs ++ (ask, NoRoom) ∷ [])) NoMemory
      → IsUnkept ask (before ++ pairs) after → LogsJob j path before after NoMemory

-- For private contracts alone: what a host that stores replies has come to, and the replies that it has stored
pub data RecordsJob (j : Job) (before after : Log) (replies : List Reply) : Outcome → Type 0 where
  kept : (pairs : Log) (came : Outcome) → DoesJob j before (before ++ pairs) came → after ≡ before ++ pairs
      → replies ≡ replies_of pairs
      → RecordsJob j before after replies came
  lost : (pairs : Log) (ask : Ask) → DoesJob j before (before ++ (pairs ++ (ask, NoRoom) ∷ [])) NoMemory
      → IsUnkept ask (before ++ pairs) after → RecordsJob j before after replies NoMemory

-- a log is written where the answer is one of which a log is kept
pub data WritesIfLogged (l : ReplyLog) (path : List ℕ) (came : Outcome) (before after : Log) : Outcome → Type 0 where
  written : (bytes : List ℕ) (answer : Outcome) → is_logged came ≡ true → IsLogOf bytes l
      → Writes path bytes came before after answer
      → WritesIfLogged l path came before after answer
  unspelled : is_logged came ≡ true → after ≡ before → WritesIfLogged l path came before after NoMemory
  unlogged : is_logged came ≡ false → after ≡ before → WritesIfLogged l path came before after came
