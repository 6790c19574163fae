-- A host that answers given replies.
use Rattle.std.specs.Prelude.{◌≡◌, List, [], ◌∷◌, ◌++◌, if◌then◌else◌, drop, Result, Ok, Err}
use Rattle.bds_value.specs.declared.listed.NoMemory.{NoMemory}
use Rattle.bds_host.specs.declared.asks.Ask.{Ask}
use Rattle.bds_host.specs.declared.asks.Reply.{Reply}
use Rattle.bds_host.specs.declared.asks.Reply.TheVariants.{Fault}
use Rattle.bds_host.specs.Asks.{answers}
use Rattle.bds_host.specs.Host.{Log}
use Rattle.bds_replay.specs.Recorded.{replies_of}

-- the replies that are left, and what was asked and replied
pub record Replaying : Type 0 where
  pub left : List Reply
  pub log : Log

-- the reply to an ask: the first that is left, and Fault where there is none or it answers no such ask
abbrev pub replayed_reply : Ask → List Reply → Reply
replayed_reply ask [] = Fault
replayed_reply ask (reply ∷ _) = if answers ask reply then reply else Fault

-- the replies in the log are the first of the given ones, in order, up to the first ask that none of them answers
pub data IsReplayed (given : List Reply) (r : Replaying) : Type 0 where
  so_far : given ≡ replies_of r.log ++ r.left → IsReplayed given r
  broken : (first rest : Log) (ask : Ask) (unused : List Reply) → r.log ≡ first ++ (ask, Fault) ∷ rest
      → given ≡ replies_of first ++ unused → replayed_reply ask unused ≡ Fault → IsReplayed given r

-- what an ask leaves
abbrev pub ReplaysTo : Ask → Replaying → Replaying → Result Reply NoMemory → Type 0
ReplaysTo ask before after (Ok reply) =
    (reply ≡ replayed_reply ask before.left)
    × (after ≡ record { left = drop 1 before.left; log = before.log ++ (ask, reply) ∷ [] })
ReplaysTo ask before after (Err _) = after ≡ before
