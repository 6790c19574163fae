-- A host that stores the replies of another.
use Rattle.std.specs.Prelude.{List, [], ◌∷◌, ◌++◌, ◌≡◌, ◌⊎◌, map, true, Result, Ok, Err}
use Rattle.bds_value.specs.declared.listed.NoMemory.{NoMemory}
use Rattle.bds_host.specs.declared.asks.Ask.{Ask}
use Rattle.bds_host.specs.declared.asks.Reply.{Reply}
use Rattle.bds_host.specs.declared.asks.Reply.TheVariants.{NoRoom}
use Rattle.bds_host.specs.Asks.{fits}
use Rattle.bds_host.specs.Host.{Log}

-- the log of the host that is asked, the replies that are stored, and the own log
pub record Recording : Type 0 where
  pub inner : Log
  pub replies : List Reply
  pub log : Log

abbrev pub replies_of : Log → List Reply
replies_of log = map (λ p. p.1) log

-- what the inner host was asked for the pairs of the own log, and replied: AreAskedFor own inner
pub data AreAskedFor : Log → Log → Type 0 where
  none : AreAskedFor [] []
  kept : (own inner : Log) (p : Ask × Reply) → AreAskedFor own inner → AreAskedFor (own ++ p ∷ []) (inner ++ p ∷ [])
  -- there was no memory for the reply, or none to ask at all
  lost : (own inner : Log) (ask : Ask) (reply : Reply) → AreAskedFor own inner → fits ask reply ≡ true
      → AreAskedFor (own ++ (ask, NoRoom) ∷ []) (inner ++ (ask, reply) ∷ [])
  unasked : (own inner : Log) (ask : Ask) → AreAskedFor own inner → AreAskedFor (own ++ (ask, NoRoom) ∷ []) inner

-- behind what its log was at the start, the inner host was asked what is in the own log, and the replies are those of
-- the own log; up to the first want of memory
pub data IsRecorded (start : Log) (r : Recording) : Type 0 where
  all : r.inner ≡ start ++ r.log → r.replies ≡ replies_of r.log → IsRecorded start r
  up_to : (first more rest : Log) (ask : Ask) → r.log ≡ first ++ (ask, NoRoom) ∷ rest
      → r.inner ≡ start ++ (first ++ more)
      → AreAskedFor ((ask, NoRoom) ∷ rest) more → IsRecorded start r

-- there was no memory to ask, or for the reply
pub record IsLost (ask : Ask) (before after : Recording) : Type 0 where
  pub more : Log
  pub inner : after.inner ≡ before.inner ++ more
  pub asked : AreAskedFor ((ask, NoRoom) ∷ []) more
  pub log : after.log ≡ before.log ++ (ask, NoRoom) ∷ []

-- what an ask stores
abbrev pub StoresTo : Ask → Recording → Recording → Result Reply NoMemory → Type 0
StoresTo ask before after (Ok reply) =
    after ≡ record {
      inner = before.inner ++ (ask, reply) ∷ [];
      replies = before.replies ++ reply ∷ [];
      log = before.log ++ (ask, reply) ∷ [];
    }
StoresTo ask before after (Err _) = (after ≡ before) ⊎ IsLost ask before after
