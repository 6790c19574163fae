-- A job over a farm: what is asked of the farm, and what the farm asks of the host around which it stands.
use Rattle.std.specs.Prelude.{◌≡◌, ◌∷◌, ◌++◌, ℕ, List, []}
use Rattle.bds_host.specs.declared.asks.Ask.{Ask}
use Rattle.bds_host.specs.declared.asks.Reply.TheVariants.{NoRoom}
use Rattle.bds_host.specs.Host.{Log}
use Rattle.bds_farm.specs.Farm.{FarmRun, Queue}
use Rattle.bds_farm.specs.Farming.{IsBegun, insides_of, pairs_of}
use Rattle.bds_farm.specs.Ends.{Turns}
use Rattle.bds_replay.specs.declared.log.Job.{Job}
use Rattle.bds_app_run.specs.declared.outcome.Outcome.{Outcome}
use Rattle.bds_app_run.specs.Jobs.{DoesJob, SavesIfScript}

-- IsFarmed submit poll before after log: this log is that of a farm's turns, and what they asked inside was added to
-- the log of the host; or the last ask of the farm found no memory, with the first asks of what is asked inside for it
pub data IsFarmed (submit poll : List ℕ) (before after log : Log) : Type 0 where
  whole : (ts : Turns submit poll) (q : Queue) → FarmRun submit poll ts q → log ≡ pairs_of submit poll ts
      → after ≡ before ++ insides_of submit poll ts → IsFarmed submit poll before after log
  lacked : (ts : Turns submit poll) (q : Queue) (ask : Ask) (asked : Log) → FarmRun submit poll ts q
      → IsBegun submit poll q ask asked → log ≡ pairs_of submit poll ts ++ (ask, NoRoom) ∷ []
      → after ≡ before ++ (insides_of submit poll ts ++ asked)
      → IsFarmed submit poll before after log

pub record FarmsJob (job : Job) (submit poll : List ℕ) (before after : Log) (answer : Outcome) : Type 0 where
  -- what was asked of the farm, which had no log before
  pub log : Log
  pub does : DoesJob job [] log answer
  pub saves : SavesIfScript job [] log
  pub farmed : IsFarmed submit poll before after log
