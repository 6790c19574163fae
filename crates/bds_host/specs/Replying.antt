-- A host that answers given replies.
use Rattle.std.specs.Prelude.{List, [], ◌∷◌, ◌++◌, ◌≡◌, ◌⊎◌, if◌then◌else◌, drop}
use Rattle.bds_host.specs.declared.asks.Ask.{Ask}
use Rattle.bds_host.specs.declared.asks.Reply.{Reply}
use Rattle.bds_host.specs.declared.asks.Reply.TheVariants.{Fault, NoRoom}
use Rattle.bds_host.specs.Asks.{fits}
use Rattle.bds_host.specs.Host.{Log}

-- the replies that are left, and what was asked and replied
pub record Replying : Type 0 where
  pub left : List Reply
  pub log : Log

-- the reply to an ask: the first that is left, and Fault where there is none or it doesn't fit
abbrev pub reply_to : Ask → List Reply → Reply
reply_to _ [] = Fault
reply_to ask (reply ∷ _) = if fits ask reply then reply else Fault

-- want of memory uses up a reply too, and leaves the log as it was or adds this ask with NoRoom
abbrev pub IsUsed : Replying → Replying → Ask → Type 0
IsUsed before after ask =
    (after ≡ record { left = drop 1 before.left; log = before.log }) ⊎ (after ≡ record { left = drop 1 before.left; log = before.log ++ (ask, NoRoom) ∷ [] })
