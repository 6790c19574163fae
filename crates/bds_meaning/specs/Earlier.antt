-- In each history a task needs earlier tasks alone.
use Rattle.std.specs.Prelude.{◌≡◌, []}
use Rattle.bds_meaning.specs.History.{History, Lives}
use Rattle.bds_meaning.specs.Run.{Program, Conf}
use Rattle.bds_schedule.specs.Earlier.{NeedEarlier}

-- wherever a history leads that opened without tasks
abbrev pub NeedsAreEarlier : Program → Type 0
NeedsAreEarlier program = (start c : Conf) (h : History) → start.tasks ≡ [] → Lives program start h c → NeedEarlier c.tasks
