-- A history was lived event by event, and comes to rest in one configuration.
use Rattle.std.specs.Prelude.{◌≡◌, ◌++◌}
use Rattle.bds_meaning.specs.History.{History, Lives, LivesIn}
use Rattle.bds_meaning.specs.Run.{Program, Conf}
use Rattle.bds_meaning_laws.specs.Histories.{IsOpening}
use Rattle.bds_meaning_laws.specs.Jobs.{KeepsLaws}

-- a history leads to a configuration in which each of the laws is kept
pub record LivesByTheLaws (program : Program) (first : Conf) (h : History) : Type 0 where
  pub at : Conf
  pub lives : Lives program first h at
  pub keeps : KeepsLaws program first at h

-- so each history does behind each of its events
abbrev pub LawsHoldBehindEachEvent : Type 0
LawsHoldBehindEachEvent = (program : Program) (first c : Conf) (before behind : History) → IsOpening first → Lives program first (before ++ behind) c → LivesByTheLaws program first before

-- where no further step can be taken without an ask, a restart or a tick, is determined by the history
abbrev pub HistoriesLiveInOne : Type 0
HistoriesLiveInOne = (program : Program) (first c d : Conf) (h : History) → LivesIn program first h c → LivesIn program first h d → c ≡ d
