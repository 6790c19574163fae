-- Where asks have found room.
use Rattle.std.specs.Prelude.{◌≡◌, ◌≢◌, [], ◌∷◌, ◌++◌}
use Rattle.std.specs.List.{AllByRecursion}
use Rattle.bds_host.specs.declared.asks.Ask.{Ask}
use Rattle.bds_host.specs.declared.asks.Reply.{Reply}
use Rattle.bds_host.specs.declared.asks.Reply.TheVariants.{NoRoom}
use Rattle.bds_host.specs.Host.{Log}
use Rattle.bds_app_run.specs.declared.outcome.Outcome.{Outcome}
use Rattle.bds_app_run.specs.declared.outcome.Outcome.TheVariants.{NoMemory}

abbrev pub HaveRoom : Log → Type 0
HaveRoom pairs = AllByRecursion (λ (p : Ask × Reply). p.1 ≢ NoRoom) pairs

-- each ask that was added has found room, or each but the last, and then there was no memory
pub data FoundRoom (before after : Log) : Outcome → Type 0 where
  all : (pairs : Log) (answer : Outcome) → HaveRoom pairs → after ≡ before ++ pairs → FoundRoom before after answer
  but_last : (pairs : Log) (ask : Ask) → HaveRoom pairs → after ≡ before ++ (pairs ++ (ask, NoRoom) ∷ [])
      → FoundRoom before after NoMemory
