-- What replies determine: a run is a function of them.
use Rattle.std.specs.Prelude.{◌≡◌, ℕ, zero, suc, List, [], ◌∷◌, ◌++◌, Option, Some, None}
use Rattle.bds_value.specs.Options.{◌>>=◌}
use Rattle.bds_host.specs.declared.asks.Ask.{Ask}
use Rattle.bds_host.specs.declared.asks.Reply.{Reply}
use Rattle.bds_host.specs.Host.{Log}
use Rattle.bds_meaning.specs.Run.{Program, Conf, Moves, Runs, source_move}
use Rattle.bds_schedule.specs.Stages.{End}
use Rattle.bds_schedule.specs.Steps.{Step, Goes, Asks, Ends}
use Rattle.bds_schedule.specs.Determined.{AreSameAsks, IsSameStep, asks_of, replies_of}

-- a configuration, the replies that are left, and what was asked
pub record Walked : Type 0 where
  pub at : Conf
  pub left : List Reply
  pub asked : List Ask

module _ (program : Program) where
  -- a configuration has one next step
  abbrev pub HasOneNext : Type 0
  HasOneNext = (c : Conf) (s t : Step Conf End) → Moves program c s → Moves program c t → IsSameStep s t

  abbrev pub answered : Walked → Ask → (Reply → Conf) → List Reply → Option Walked
  answered w ask next [] = None
  answered w ask next (r ∷ rs) = Some (record { at = next r; left = rs; asked = w.asked ++ ask ∷ [] })

  abbrev pub stepped : Walked → Step Conf End → Option Walked
  stepped w (Goes c) = Some (record { at = c; left = w.left; asked = w.asked })
  stepped w (Asks ask next) = answered w ask next w.left
  stepped w (Ends end) = None

  -- where so many steps lead under these replies
  abbrev pub walked : ℕ → Conf → List Reply → Option Walked
  walked zero c replies = Some (record { at = c; left = replies; asked = [] })
  walked (suc n) c replies = walked n c replies >>= λ w. stepped w (source_move program [] w.at)

  -- the replies of a run and the number of its steps give what it asks and where it leads
  pub record IsWalked (from : Conf) (pairs : Log) (to : Conf) : Type 0 where
    pub steps : ℕ
    pub asked : List Ask
    pub same : AreSameAsks asked (asks_of pairs)
    pub walked : (rest : List Reply) → walked steps from (replies_of pairs ++ rest) ≡ Some (record { at = to; left = rest; asked = asked })

  abbrev pub IsFunctionOfReplies : Type 0
  IsFunctionOfReplies = (from to : Conf) (pairs : Log) → Runs program from pairs to → IsWalked from pairs to
