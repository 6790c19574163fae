-- A script that is run where nothing is done outside: all that is asked, with the replies, and the answer.
use Rattle.std.specs.Prelude.{◌≡◌, ◌<◌, ◌⊎◌, ◌++◌, ℕ, List, [], ⊤}
use Rattle.std.specs.List.{All}
use Rattle.bds_host.specs.declared.asks.Ask.{Ask}
use Rattle.bds_host.specs.declared.asks.Ask.TheVariants.{Next}
use Rattle.bds_host.specs.declared.asks.Reply.{Reply}
use Rattle.bds_host.specs.Host.{Log, faults}
use Rattle.bds_dry.specs.Dry.{IsDry, IsPassedPair}
use Rattle.bds_app_run.specs.Commands.{RunsScript}
use Rattle.bds_app_run.specs.declared.call.Call.{Call}
use Rattle.bds_app_run.specs.declared.outcome.Outcome.{Outcome}
use Rattle.bds_app_run.specs.declared.outcome.Outcome.TheVariants.{Device, NoMemory}

-- what was asked of a host over which nothing is done, with its replies, is told to the one inside as the table says
abbrev pub IsToldInside : Log → Log → Log → Type 0
IsToldInside before after own = IsDry before (record { inner = after; log = own })

-- a script is run over a host over which nothing is done, whose log begins empty
pub record DriesScript (c : Call) (before after : Log) (answer : Outcome) : Type 0 where
  pub own : Log
  pub runs : RunsScript c [] own answer
  pub dry : IsToldInside before after own

-- nothing reached the outside but reads, stamps and what is printed
pub record HasPassed (before after : Log) : Type 0 where
  pub pairs : Log
  pub grown : after ≡ before ++ pairs
  pub passed : All IsPassedPair pairs

-- the answer is a fault of the device exactly where a reply was one, but for want of memory
pub record IsDeviceAnswer (before after : Log) (answer : Outcome) : Type 0 where
  pub told : answer ≡ Device → faults before < faults after
  pub only : faults before < faults after → (answer ≡ Device) ⊎ (answer ≡ NoMemory)

-- Which asks a run makes

abbrev pub NamesOneOf : List ℕ → List ℕ → Type 0
NamesOneOf [] [] = ⊥
NamesOneOf _ _ = ⊤

-- whoever is asked what comes next is told of a ready thread or of a running task
abbrev pub NamesOne : Ask → Type 0
NamesOne (Next ready running) = NamesOneOf ready running
NamesOne _ = ⊤

abbrev pub NamesOnePair : Ask × Reply → Type 0
NamesOnePair p = NamesOne p.0
