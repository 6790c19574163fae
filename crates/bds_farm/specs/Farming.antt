-- The farm's own log and that of the host around which it stands.
use Rattle.std.specs.Prelude.{ℕ, List, [], ◌∷◌, ◌++◌, ◌≡◌, ◌⊎◌, map, Result, Ok, Err}
use Rattle.std.specs.List.{flat_map}
use Rattle.bds_value.specs.declared.listed.NoMemory.{NoMemory}
use Rattle.bds_host.specs.declared.asks.Ask.{Ask}
use Rattle.bds_host.specs.declared.asks.Reply.{Reply}
use Rattle.bds_host.specs.declared.asks.Reply.TheVariants.{NoRoom}
use Rattle.bds_host.specs.Host.{Log}
use Rattle.bds_farm.specs.Farm.{FarmRun, FarmTurn, Queue, Turn}

-- what is known, the log of the host that is asked, and the own log
pub record Farming : Type 0 where
  pub queue : Queue
  pub inner : Log
  pub log : Log

-- these are the first of some pairs, or none of them; the last ask among them may have another reply
pub data IsFront (pairs : Log) : Log → Type 0 where
  none : IsFront pairs []
  some : (front rest : Log) (ask : Ask) (reply other : Reply) → pairs ≡ front ++ (ask, other) ∷ rest
      → IsFront pairs (front ++ (ask, reply) ∷ [])

module _ (submit poll : List ℕ) where
  abbrev pub pairs_of : List (Turn submit poll) → Log
  pairs_of ts = map (λ (t : Turn submit poll). (t.ask, t.reply)) ts

  abbrev pub insides_of : List (Turn submit poll) → Log
  insides_of ts = flat_map (λ (t : Turn submit poll). t.inside) ts

  -- this was asked inside for an ask up to a want of memory: the first asks of one of its turns, or none
  pub record IsBegun (q : Queue) (ask : Ask) (asked : Log) : Type 0 where
    pub reply : Reply
    pub inside : Log
    pub after : Queue
    pub turn : FarmTurn submit poll q ask reply inside after
    pub front : IsFront inside asked

  -- the own log is that of turns, and the inner one behind its start is what they asked inside; up to the first want of
  -- memory
  pub data IsFarm (start : Log) (r : Farming) : Type 0 where
    all : (ts : List (Turn submit poll)) → FarmRun submit poll ts r.queue → r.log ≡ pairs_of ts
        → r.inner ≡ start ++ insides_of ts → IsFarm start r
    lost : (ts : List (Turn submit poll)) (q : Queue) (asked more rest : Log) (ask : Ask) → FarmRun submit poll ts q
        → IsBegun q ask asked → r.log ≡ pairs_of ts ++ (ask, NoRoom) ∷ rest
        → r.inner ≡ start ++ (insides_of ts ++ (asked ++ more)) → (rest ≡ [] → more ≡ []) → IsFarm start r

  -- what an ask leaves
  pub record HasTurned (ask : Ask) (before after : Farming) (reply : Reply) : Type 0 where
    pub inside : Log
    pub turn : FarmTurn submit poll before.queue ask reply inside after.queue
    pub inner : after.inner ≡ before.inner ++ inside
    pub log : after.log ≡ before.log ++ (ask, reply) ∷ []

  pub record IsLost (ask : Ask) (before after : Farming) : Type 0 where
    pub asked : Log
    pub begun : IsBegun before.queue ask asked
    pub inner : after.inner ≡ before.inner ++ asked
    pub log : after.log ≡ before.log ++ (ask, NoRoom) ∷ []

  abbrev pub TurnsTo : Ask → Farming → Farming → Result Reply NoMemory → Type 0
  TurnsTo ask before after (Ok reply) = HasTurned ask before after reply
  TurnsTo ask before after (Err _) = (after ≡ before) ⊎ IsLost ask before after
