-- For private contracts alone: what is asked inside.
use Rattle.std.specs.Prelude.{ℕ, ◌≡◌, ◌≢◌, ◌⊎◌, ◌∷◌, [], ◌++◌, Bool, true, false, List, Option, Some, None}
use Rattle.std.specs.Prelude.{if◌then◌else◌, length, Result, Ok, Err, ⊤}
use Rattle.bds_value.specs.declared.listed.NoMemory.{NoMemory}
use Rattle.bds_host.specs.declared.asks.Ask.{Ask}
use Rattle.bds_host.specs.declared.asks.Ask.TheVariants.{Write, Sys}
use Rattle.bds_host.specs.declared.asks.Reply.{Reply}
use Rattle.bds_host.specs.declared.asks.Reply.TheVariants.{Done, SysDone, Started, Ended, Fault, NoRoom}
use Rattle.bds_host.specs.Asks.{fits}
use Rattle.bds_host.specs.Host.{Log, Answered, FoundNoRoom}
use Rattle.bds_farm.specs.Farm.{AreOthers, FarmTurn, Gives, LearnsLines, Polls, Queue, file_of, lines, submitted}
use Rattle.bds_farm.specs.Farming.{IsBegun}
use Rattle.bds_farm.specs.declared.known.Known.{Known}

abbrev pub queue_of : Known → Queue
queue_of k = record { last = k.last; open_ends = k.open_ends.items; ends = k.ends.items }

-- a file was written, or there was a fault
abbrev pub IsWritten : ℕ → ℕ → List ℕ → Log → Log → Result Bool NoMemory → Type 0
IsWritten task attempt cmd before after (Ok done) =
    Answered before after (Write (file_of task attempt) cmd) (if done then Done else Fault)
IsWritten task attempt cmd before after (Err _) = FoundNoRoom before after (Write (file_of task attempt) cmd)

-- a command was run, with its code and what it printed, or there was a fault
abbrev pub IsRun : List ℕ → Log → Log → Result (Option (ℕ × List ℕ)) NoMemory → Type 0
IsRun text before after (Ok (Some p)) = Answered before after (Sys text) (SysDone p.0 p.1)
IsRun text before after (Ok None) = Answered before after (Sys text) Fault
IsRun text before after (Err _) = FoundNoRoom before after (Sys text)

-- the same without what it printed
abbrev pub IsCoded : List ℕ → Log → Log → Result (Option ℕ) NoMemory → Type 0
IsCoded text before after (Ok (Some code)) = (out : List ℕ) × Answered before after (Sys text) (SysDone code out)
IsCoded text before after (Ok None) = Answered before after (Sys text) Fault
IsCoded text before after (Err _) = FoundNoRoom before after (Sys text)

-- an attempt is entered where the code of its submission is 0
abbrev pub Enters : ℕ → ℕ → ℕ → Queue → Queue → Result Reply NoMemory → Type 0
Enters task attempt code q q' (Ok r) =
    ((r ≡ Started) × (code ≡ 0) × (q' ≡ submitted task attempt q)) ⊎ ((r ≡ Fault) × (code ≢ 0) × (q' ≡ q))
Enters task attempt code q q' (Err _) = ⊤

-- what a command has printed is learnt where its code is 0
abbrev pub LearnsOut : ℕ → List ℕ → Queue → Queue → Result Bool NoMemory → Type 0
LearnsOut code out q q' (Ok true) = (code ≡ 0) × LearnsLines q (lines out) q'
LearnsOut code out q q' (Ok false) = (code ≢ 0) × (q' ≡ q)
LearnsOut code out q q' (Err _) = ⊤

module _ (submit poll : List ℕ) where
  pub record TurnInside (ask : Ask) (q q' : Queue) (before after : Log) (reply : Reply) : Type 0 where
    pub inside : Log
    pub grown : after ≡ before ++ inside
    pub turn : FarmTurn submit poll q ask reply inside q'
    pub fitting : fits ask reply ≡ true
    pub told : reply ≢ NoRoom

  -- as far as there was memory
  pub record LostInside (ask : Ask) (q : Queue) (before after : Log) : Type 0 where
    pub asked : Log
    pub grown : after ≡ before ++ asked
    pub begun : IsBegun submit poll q ask asked

  abbrev pub Inside : Ask → Queue → Queue → Log → Log → Result Reply NoMemory → Type 0
  Inside ask q q' before after (Ok reply) = TurnInside ask q q' before after reply
  Inside ask q q' before after (Err _) = LostInside ask q before after

-- one question for ends
module _ (poll : List ℕ) where
  pub record HasLearnt (q q' : Queue) (before after : Log) : Type 0 where
    pub out : List ℕ
    pub grown : after ≡ before ++ (Sys poll, SysDone 0 out) ∷ []
    pub learns : LearnsLines q (lines out) q'

  pub data HasFailed (q q' : Queue) (before after : Log) : Type 0 where
    faulted : after ≡ before ++ (Sys poll, Fault) ∷ [] → q' ≡ q → HasFailed q q' before after
    coded : (code : ℕ) (out : List ℕ) → code ≢ 0 → after ≡ before ++ (Sys poll, SysDone code out) ∷ [] → q' ≡ q
        → HasFailed q q' before after

  -- nothing was learnt, for want of memory
  pub data LostPoll (before after : Log) : Type 0 where
    unasked : after ≡ before → LostPoll before after
    unlearnt : (r : Reply) → after ≡ before ++ (Sys poll, r) ∷ [] → LostPoll before after

  abbrev pub PollsOnce : Queue → Queue → Log → Log → Result Bool NoMemory → Type 0
  PollsOnce q q' before after (Ok true) = HasLearnt q q' before after
  PollsOnce q q' before after (Ok false) = HasFailed q q' before after
  PollsOnce q q' before after (Err _) = LostPoll before after

  -- an end is given, or there is none and it is asked once
  pub data HasAnswered (running : List ℕ) (q q' : Queue) (before after : Log) : Reply → Type 0 where
    given : (task code : ℕ) → Gives running q task code q' → after ≡ before
        → HasAnswered running q q' before after (Ended task code)
    failed : AreOthers running q.ends → HasFailed q q' before after → HasAnswered running q q' before after Fault

  pub record HasAsked (running : List ℕ) (q q' : Queue) (before after : Log) : Type 0 where
    pub others : AreOthers running q.ends
    pub learnt : HasLearnt q q' before after

  pub record LostStep (running : List ℕ) (q : Queue) (before after : Log) : Type 0 where
    pub others : AreOthers running q.ends
    pub lost : LostPoll before after

  abbrev pub PollStep : List ℕ → Queue → Queue → Log → Log → Result (Option Reply) NoMemory → Type 0
  PollStep running q q' before after (Ok (Some r)) = HasAnswered running q q' before after r
  PollStep running q q' before after (Ok None) = HasAsked running q q' before after
  PollStep running q q' before after (Err _) = LostStep running q before after

  -- behind the last question
  pub data LastEnd (running : List ℕ) (q q' : Queue) : Reply → Type 0 where
    last_given : (task code : ℕ) → Gives running q task code q' → LastEnd running q q' (Ended task code)
    last_none : AreOthers running q.ends → q' ≡ q → LastEnd running q q' Fault

  -- it was asked so often
  pub record HasPolled (running : List ℕ) (from q : Queue) (before after : Log) (count : ℕ) : Type 0 where
    pub inside : Log
    pub grown : after ≡ before ++ inside
    pub polls : Polls poll running from inside q
    pub many : length inside ≡ count
