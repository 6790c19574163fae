-- A host over which nothing is done outside: what it asks of the host around which it stands, and its own replies.
use Rattle.std.specs.Prelude.{ℕ, List, [], ◌∷◌, ◌++◌, ◌≡◌, ◌≢◌, ◌⊎◌, true, Bool, if◌then◌else◌, codes, Result, Ok, Err}
use Rattle.std.specs.Prelude.{⊤, min}
use Rattle.std.specs.List.{All, flat_map, reduce}
use Rattle.bds_value.specs.declared.listed.NoMemory.{NoMemory}
use Rattle.bds_host.specs.declared.asks.Ask.{Ask}
use Rattle.bds_host.specs.declared.asks.Ask.TheVariants.{Read, Stamp, Write, Remove, Out, Err as Tells, Sys, Start}
use Rattle.bds_host.specs.declared.asks.Ask.TheVariants.{Next, Save}
use Rattle.bds_host.specs.declared.asks.Reply.{Reply}
use Rattle.bds_host.specs.declared.asks.Reply.TheVariants.{Done, SysDone, Started, Fault, NoRoom}
use Rattle.bds_host.specs.Asks.{fits}
use Rattle.bds_host.specs.Auto.{next_reply}
use Rattle.bds_host.specs.Host.{Log, Answered, FoundNoRoom}
use Rattle.bds_around.specs.Names.{task_name}

-- the log of the host that is asked, and the own log
pub record Drying : Type 0 where
  pub inner : Log
  pub log : Log

-- what is told in place of a start, and of a command
abbrev pub task_line : ℕ → List ℕ → List ℕ
task_line task cmd = task_name task ++ codes ": " ++ cmd ++ codes "\n"

abbrev pub sys_line : List ℕ → List ℕ
sys_line cmd = codes "sys: " ++ cmd ++ codes "\n"

-- the reply inside, where something is told in place of an act
abbrev pub told_reply : Reply → Reply
told_reply Fault = Fault
told_reply _ = Done

-- what is asked inside for an ask with its reply
abbrev pub asked_inside : Ask → Reply → Log
asked_inside (Read path) r = (Read path, r) ∷ []
asked_inside (Stamp path) r = (Stamp path, r) ∷ []
asked_inside (Out text) r = (Out text, r) ∷ []
asked_inside (Tells text) r = (Tells text, r) ∷ []
asked_inside (Start task attempt cmd) r = (Out (task_line task cmd), told_reply r) ∷ []
asked_inside (Sys cmd) r = (Out (sys_line cmd), told_reply r) ∷ []
asked_inside (Write path text) r = []
asked_inside (Remove path) r = []
asked_inside (Save path image) r = []
asked_inside (Next ready running) r = []

abbrev pub inside : Ask × Reply → Log
inside p = asked_inside p.0 p.1

-- the own replies: those to a read, a stamp and what is printed are the inner ones
abbrev pub IsDryReply : Ask → Reply → Type 0
IsDryReply (Start task attempt cmd) r = (r ≡ Started) ⊎ (r ≡ Fault)
IsDryReply (Sys cmd) r = (r ≡ SysDone 0 []) ⊎ (r ≡ Fault)
IsDryReply (Write path text) r = r ≡ Done
IsDryReply (Remove path) r = r ≡ Done
IsDryReply (Save path image) r = r ≡ Done
IsDryReply (Next ready running) r = r ≡ next_reply (reduce min ready) (reduce min running)
IsDryReply (Read path) r = ⊤
IsDryReply (Stamp path) r = ⊤
IsDryReply (Out text) r = ⊤
IsDryReply (Tells text) r = ⊤

abbrev pub IsDryPair : Ask × Reply → Type 0
IsDryPair p = IsDryReply p.0 p.1

-- an ask that may reach the inner host
abbrev pub IsPassed : Ask → Type 0
IsPassed (Read path) = ⊤
IsPassed (Stamp path) = ⊤
IsPassed (Out text) = ⊤
IsPassed (Tells text) = ⊤
IsPassed _ = ⊥

abbrev pub IsPassedPair : Ask × Reply → Type 0
IsPassedPair p = IsPassed p.0

-- these pairs inside are the image of the own log, up to the first want of memory
pub data IsImage (pairs own : Log) : Type 0 where
  all : pairs ≡ flat_map inside own → All IsDryPair own → IsImage pairs own
  lost : (first more rest : Log) (ask : Ask) → own ≡ first ++ (ask, NoRoom) ∷ rest
      → pairs ≡ flat_map inside first ++ more → All IsDryPair first → IsImage pairs own

-- the inner log behind its start is the image of the own one; nothing else ever reaches the inner host than reads,
-- stamps and what is printed
pub record IsDry (start : Log) (r : Drying) : Type 0 where
  pub pairs : Log
  pub grown : r.inner ≡ start ++ pairs
  pub passed : All IsPassedPair pairs
  pub image : IsImage pairs r.log

-- what an ask does inside, and its reply

pub record Replies (ask : Ask) (before after : Log) (reply : Reply) : Type 0 where
  pub grown : after ≡ before ++ asked_inside ask reply
  pub is : IsDryReply ask reply
  pub fitting : fits ask reply ≡ true
  pub told : reply ≢ NoRoom

-- there was no memory
pub record Lost (before after : Log) : Type 0 where
  pub more : Log
  pub grown : after ≡ before ++ more
  pub passed : All IsPassedPair more

abbrev pub Dries : Ask → Log → Log → Result Reply NoMemory → Type 0
Dries ask before after (Ok reply) = Replies ask before after reply
Dries ask before after (Err _) = Lost before after

-- For private contracts alone: a line was told, or there was a fault
abbrev pub IsTold : List ℕ → Log → Log → Result Bool NoMemory → Type 0
IsTold line before after (Ok told) = Answered before after (Out line) (if told then Done else Fault)
IsTold line before after (Err _) = FoundNoRoom before after (Out line)

-- For private contracts alone: an ask for which nothing is asked inside
abbrev pub IsAlone : Ask → Type 0
IsAlone (Write path text) = ⊤
IsAlone (Remove path) = ⊤
IsAlone (Save path image) = ⊤
IsAlone (Next ready running) = ⊤
IsAlone _ = ⊥

-- what an ask leaves
pub record IsLost (ask : Ask) (before after : Drying) : Type 0 where
  pub inner : Lost before.inner after.inner
  pub log : after.log ≡ before.log ++ (ask, NoRoom) ∷ []

pub record HasReplied (ask : Ask) (before after : Drying) (reply : Reply) : Type 0 where
  pub inner : Replies ask before.inner after.inner reply
  pub log : after.log ≡ before.log ++ (ask, reply) ∷ []

abbrev pub DriesTo : Ask → Drying → Drying → Result Reply NoMemory → Type 0
DriesTo ask before after (Ok reply) = HasReplied ask before after reply
DriesTo ask before after (Err _) = (after ≡ before) ⊎ IsLost ask before after
