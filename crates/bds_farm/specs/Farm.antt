-- A host whose tasks are run elsewhere: by one command of the user they are submitted, by another it is asked for their
-- ends.
use Rattle.std.specs.Prelude.{ℕ, ◌≡◌, ◌≢◌, ◌<◌, ◌≤◌, Bool, true, false, not, ◌&&◌, ◌==◌, nat_eq, List, [], ◌∷◌, ◌++◌}
use Rattle.std.specs.Prelude.{Option, Some, None, codes, decimal, filter, length, if◌then◌else◌, slice_get, take, drop}
use Rattle.std.specs.Prelude.{◌-◌, ⊤}
use Rattle.std.specs.List.{AllByRecursion, list_any}
use Rattle.bds_host.specs.declared.asks.Ask.{Ask}
use Rattle.bds_host.specs.declared.asks.Ask.TheVariants.{Write, Sys, Start, Next}
use Rattle.bds_host.specs.declared.asks.Reply.{Reply}
use Rattle.bds_host.specs.declared.asks.Reply.TheVariants.{Done, SysDone, Started, Run, Ended, Fault}
use Rattle.bds_host.specs.Asks.{has}
use Rattle.bds_host.specs.Host.{Log}
use Rattle.bds_around.specs.Names.{task_name}
use Rattle.bds_around.specs.Turns.{turn_of}

-- Texts

-- an attempt of a task by name, and the file of its command
abbrev pub name_of : ℕ → ℕ → List ℕ
name_of task attempt = task_name task ++ (codes "." ++ decimal attempt)

abbrev pub file_of : ℕ → ℕ → List ℕ
file_of task attempt = codes "bds-" ++ name_of task attempt ++ codes ".sh"

abbrev pub submit_text : List ℕ → ℕ → ℕ → List ℕ
submit_text submit task attempt = submit ++ codes " " ++ file_of task attempt ++ codes " " ++ name_of task attempt

-- the line that tells its end
abbrev pub end_line : ℕ → ℕ → ℕ → List ℕ
end_line task attempt code = task_name task ++ ((codes "." ++ decimal attempt) ++ (codes " " ++ decimal code))

-- the lines of a text: each line end ends one, and what is behind the last is one too
abbrev pub lines_from : List ℕ → List ℕ → List (List ℕ)
lines_from line [] = line ∷ []
lines_from line (b ∷ bs) = if b == 10 then line ∷ lines_from [] bs else lines_from (line ++ b ∷ []) bs

abbrev pub lines : List ℕ → List (List ℕ)
lines text = lines_from [] text

-- What is known of the tasks

-- a task with its attempt, or with the code of its end
abbrev pub Entry : Type 0
Entry = ℕ × ℕ

-- the thread that went on last; the submissions of which no end was learnt, none that was followed by another of its
-- task; the ends that were
-- learnt and not given, the oldest first
pub record Queue : Type 0 where
  pub last : Option ℕ
  pub open_ends : List Entry
  pub ends : List Entry

abbrev pub empty : Queue
empty = record { last = None; open_ends = []; ends = [] }

abbrev pub is_of : ℕ → Entry → Bool
is_of task e = nat_eq e.0 task

abbrev pub without : ℕ → List Entry → List Entry
without task es = filter (λ e. not (is_of task e)) es

abbrev pub is_open : ℕ → ℕ → Queue → Bool
is_open task attempt q = list_any (λ e. nat_eq e.0 task && nat_eq e.1 attempt) q.open_ends

-- an attempt is submitted: nothing is known any more of those before it
abbrev pub submitted : ℕ → ℕ → Queue → Queue
submitted task attempt q =
    record { last = q.last; open_ends = (task, attempt) ∷ without task q.open_ends; ends = without task q.ends }

-- its end is learnt
abbrev pub learnt : ℕ → ℕ → Queue → Queue
learnt task code q = record { last = q.last; open_ends = without task q.open_ends; ends = q.ends ++ (task, code) ∷ [] }

-- For private contracts alone: the end of which of these submissions a line tells
abbrev pub IsToldBy : List Entry → List ℕ → Option Entry → Type 0
IsToldBy es line (Some e) =
    (attempt : ℕ)
    × ((list_any (λ (f : Entry). nat_eq f.0 e.0 && nat_eq f.1 attempt) es ≡ true) × (line ≡ end_line e.0 attempt e.1)
    × (e.1 ≤ 255))
IsToldBy es line None =
    (task attempt code : ℕ) → code ≤ 255 → line ≡ end_line task attempt code
    → list_any (λ (f : Entry). nat_eq f.0 task && nat_eq f.1 attempt) es ≡ false

-- what a line teaches: an end of an open submission, or nothing
pub data LearnsLine (line : List ℕ) (q : Queue) : Queue → Type 0 where
  learns : (task attempt code : ℕ) → code ≤ 255 → line ≡ end_line task attempt code → is_open task attempt q ≡ true
      → LearnsLine line q (learnt task code q)
  skips : ((task attempt code : ℕ) → code ≤ 255 → line ≡ end_line task attempt code → is_open task attempt q ≡ false)
      → LearnsLine line q q

-- what lines teach, one behind the other
pub data LearnsLines (q : Queue) : List (List ℕ) → Queue → Type 0 where
  none : LearnsLines q [] q
  one_more : (ls : List (List ℕ)) (line : List ℕ) (before after : Queue) → LearnsLines q ls before
      → LearnsLine line before after → LearnsLines q (ls ++ line ∷ []) after

abbrev pub line_at : List ℕ → ℕ → ℕ → List ℕ
line_at text start end_at = take (end_at - start) (drop start text)

-- For private contracts alone: the lines of a text before one that was read so far, with what is behind, have been
-- learnt
pub record Halfway (from : Queue) (text line rest : List ℕ) (now : Queue) : Type 0 where
  pub above : List (List ℕ)
  pub learnt : LearnsLines from above now
  pub split : lines text ≡ above ++ lines_from line rest

-- no end of a running task is there
abbrev pub AreOthers : List ℕ → List Entry → Type 0
AreOthers running ends = AllByRecursion (λ (e : Entry). has running e.0 ≡ false) ends

-- For private contracts alone: the place of the first of them
abbrev pub IsPlace : List ℕ → List Entry → Option ℕ → Type 0
IsPlace running ends (Some i) =
    (e : Entry) × ((slice_get ends i ≡ Some e) × (has running e.0 ≡ true) × AreOthers running (take i ends))
IsPlace running ends None = AreOthers running ends

abbrev pub GivesOr : List ℕ → List Entry → List Entry → Option Entry → Type 0
GivesOr running before after (Some e) =
    (older younger : List Entry)
    × ((before ≡ older ++ e ∷ younger) × AreOthers running older × (has running e.0 ≡ true)
    × (after ≡ older ++ younger))
GivesOr running before after None = AreOthers running before × (after ≡ before)

-- the oldest end of a running task is given: Gives running q task code after
pub record Gives (running : List ℕ) (q : Queue) (task code : ℕ) (after : Queue) : Type 0 where
  pub older : List Entry
  pub younger : List Entry
  pub is : q.ends ≡ older ++ (task, code) ∷ younger
  pub others : AreOthers running older
  pub runs : has running task ≡ true
  pub left : after ≡ record { last = q.last; open_ends = q.open_ends; ends = older ++ younger }

-- Asks

abbrev pub IsOther : Ask → Type 0
IsOther (Start task attempt cmd) = ⊥
IsOther (Next ready running) = ⊥
IsOther _ = ⊤

-- the command that asks for ends was run as long as none of a running task was there, and what it printed was learnt
module _ (poll : List ℕ) (running : List ℕ) (from : Queue) where
  pub data Polls : Log → Queue → Type 0 where
    not_yet : Polls [] from
    once_more : (inside : Log) (q after : Queue) (out : List ℕ) → Polls inside q → AreOthers running q.ends
        → LearnsLines q (lines out) after
        → Polls (inside ++ (Sys poll, SysDone 0 out) ∷ []) after

  -- a task runs, and so far no end of one that runs is there
  pub record FindsNone (inside : Log) (now : Queue) : Type 0 where
    pub some : running ≢ []
    pub polls : Polls inside now
    pub others : AreOthers running now.ends

-- how often it is asked for an end at most
abbrev pub most_polls : ℕ
most_polls = 100000

module _ (submit poll : List ℕ) where
  abbrev pub write_ask : ℕ → ℕ → List ℕ → Ask
  write_ask task attempt cmd = Write (file_of task attempt) cmd

  abbrev pub submit_ask : ℕ → ℕ → Ask
  submit_ask task attempt = Sys (submit_text submit task attempt)

  -- FarmTurn q ask reply inside after: what an ask asks inside, its reply, and what is known then
  pub data FarmTurn (q : Queue) : Ask → Reply → Log → Queue → Type 0 where
    passes : (ask : Ask) (reply : Reply) → IsOther ask → FarmTurn q ask reply ((ask, reply) ∷ []) q
    submits : (task attempt : ℕ) (cmd out : List ℕ) →
        FarmTurn q (Start task attempt cmd) Started
        ((write_ask task attempt cmd, Done) ∷ (submit_ask task attempt, SysDone 0 out) ∷ []) (submitted task attempt q)
    unwritten : (task attempt : ℕ) (cmd : List ℕ) →
        FarmTurn q (Start task attempt cmd) Fault ((write_ask task attempt cmd, Fault) ∷ []) q
    unasked : (task attempt : ℕ) (cmd : List ℕ) →
        FarmTurn q (Start task attempt cmd) Fault
        ((write_ask task attempt cmd, Done) ∷ (submit_ask task attempt, Fault) ∷ []) q
    refused : (task attempt code : ℕ) (cmd out : List ℕ) → code ≢ 0 →
        FarmTurn q (Start task attempt cmd) Fault
        ((write_ask task attempt cmd, Done) ∷ (submit_ask task attempt, SysDone code out) ∷ []) q
    turns : (ready running : List ℕ) (k : ℕ) → turn_of q.last ready ≡ Some k →
        FarmTurn q (Next ready running) (Run k) [] (record { last = Some k; open_ends = q.open_ends; ends = q.ends })
    ended : (running : List ℕ) (inside : Log) (now after : Queue) (task code : ℕ) → Polls poll running q inside now
        → length inside ≤ most_polls → Gives running now task code after →
        FarmTurn q (Next [] running) (Ended task code) inside after
    nothing_runs : FarmTurn q (Next [] []) Fault [] q
    poll_faults : (running : List ℕ) (inside : Log) (after : Queue) → FindsNone poll running q inside after
        → length inside < most_polls →
        FarmTurn q (Next [] running) Fault (inside ++ (Sys poll, Fault) ∷ []) after
    poll_fails : (running : List ℕ) (inside : Log) (after : Queue) (code : ℕ) (out : List ℕ)
        → FindsNone poll running q inside after
        → length inside < most_polls → code ≢ 0 →
        FarmTurn q (Next [] running) Fault (inside ++ (Sys poll, SysDone code out) ∷ []) after
    too_often : (running : List ℕ) (inside : Log) (after : Queue) → FindsNone poll running q inside after
        → length inside ≡ most_polls →
        FarmTurn q (Next [] running) Fault inside after

  -- an ask with its reply, and what was asked inside for it
  pub record Turn : Type 0 where
    pub ask : Ask
    pub reply : Reply
    pub inside : Log

  pub data FarmRun : List Turn → Queue → Type 0 where
    begins : FarmRun [] empty
    goes_on : (ts : List Turn) (q after : Queue) (t : Turn) → FarmRun ts q → FarmTurn q t.ask t.reply t.inside after
        → FarmRun (ts ++ t ∷ []) after
