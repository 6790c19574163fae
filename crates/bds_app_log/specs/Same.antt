-- What was written of a job is replayed as that job.
use Rattle.std.specs.Prelude.{◌≡◌, ℕ, List, [], ◌∷◌, ◌++◌, true, ⊤}
use Rattle.bds_host.specs.declared.asks.Ask.{Ask}
use Rattle.bds_host.specs.declared.asks.Ask.TheVariants.{Read}
use Rattle.bds_host.specs.declared.asks.Reply.TheVariants.{Bytes}
use Rattle.bds_host.specs.Host.{Log, faults}
use Rattle.bds_front.specs.Unique.{IsLikeAsk}
use Rattle.bds_replay.specs.Loading.{IsLogOf}
use Rattle.bds_replay.specs.declared.log.Job.{Job}
use Rattle.bds_app_run.specs.declared.outcome.Outcome.{Outcome}
use Rattle.bds_app_run.specs.declared.outcome.Outcome.TheVariants.{NoMemory}
use Rattle.bds_app_run.specs.Jobs.{DoesJob}
use Rattle.bds_app_log.specs.Logged.{is_logged, log_of}
use Rattle.bds_app_log.specs.Replays.{all_done, printed_in}

-- the same asks in the same order, but for the line in a message on a text that spells no script
abbrev pub AreAlike : List Ask → List Ask → Type 0
AreAlike [] [] = ⊤
AreAlike (a ∷ asks) (b ∷ others) = IsLikeAsk a b × AreAlike asks others
AreAlike _ _ = ⊥

-- the answer is that of a job, and what is asked are the asks by which it printed, each of which is done; or there was
-- no memory
pub data IsSame (came : Outcome) (pairs rest : Log) : Outcome → Type 0 where
  same : (asks : List Ask) → rest ≡ all_done asks → AreAlike asks (printed_in pairs) → IsSame came pairs rest came
  no_memory : IsSame came pairs rest NoMemory

-- where what was read is the log of a job with the replies of these pairs, by which it came to an end of which a log is
-- kept, and
-- no reply behind is a fault
abbrev pub IsReplayedTheSame : List ℕ → Log → Log → Outcome → Type 0
IsReplayedTheSame path before after answer =
    (j : Job) (start pairs : Log) (came : Outcome) → DoesJob j start (start ++ pairs) came → is_logged came ≡ true
    → (bytes : List ℕ) → IsLogOf bytes (log_of j pairs)
    → (rest : Log) → after ≡ before ++ (Read path, Bytes bytes) ∷ rest → faults rest ≡ 0 → IsSame came pairs rest answer
