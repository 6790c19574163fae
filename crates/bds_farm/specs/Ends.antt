-- The law of ends: each has a line behind the last submission of its task, and no submission has two.
use Rattle.std.specs.Prelude.{ℕ, ◌≡◌, Bool, false, nat_eq, List, ◌∷◌, ◌++◌}
use Rattle.std.specs.List.{AllByRecursion, flat_map}
use Rattle.bds_host.specs.declared.asks.Ask.{Ask}
use Rattle.bds_host.specs.declared.asks.Ask.TheVariants.{Sys, Start, Next}
use Rattle.bds_host.specs.declared.asks.Reply.{Reply}
use Rattle.bds_host.specs.declared.asks.Reply.TheVariants.{SysDone, Started, Ended}
use Rattle.bds_host.specs.Host.{Log}
use Rattle.bds_farm.specs.Farm.{Turn, FarmRun, Queue, lines, end_line}

-- whether an ask with its reply is a submission of a task
abbrev pub submits : ℕ → Ask → Reply → Bool
submits task (Start n attempt cmd) Started = nat_eq n task
submits task _ _ = false

-- or an end of it
abbrev pub ends : ℕ → Ask → Reply → Bool
ends task (Next ready running) (Ended n code) = nat_eq n task
ends task _ _ = false

module _ (submit poll : List ℕ) where
  abbrev pub Turns : Type 0
  Turns = List (Turn submit poll)

  abbrev pub IsQuiet : ℕ → Turn submit poll → Type 0
  IsQuiet task t = (submits task t.ask t.reply ≡ false) × (ends task t.ask t.reply ≡ false)

  -- the last submission of a task among turns, of which no end was given
  pub record LastSubmission (task attempt : ℕ) (ts : Turns) : Type 0 where
    pub before : Turns
    pub turn : Turn submit poll
    pub since : Turns
    pub is : ts ≡ before ++ turn ∷ since
    pub cmd : List ℕ
    pub ask : turn.ask ≡ Start task attempt cmd
    pub reply : turn.reply ≡ Started
    pub quiet : AllByRecursion (IsQuiet task) since

  -- an answer to a question for ends has this line
  pub record IsTold (line : List ℕ) (pairs : Log) : Type 0 where
    pub out : List ℕ
    pub front : Log
    pub back : Log
    pub asked : pairs ≡ front ++ (Sys poll, SysDone 0 out) ∷ back
    pub above : List (List ℕ)
    pub below : List (List ℕ)
    pub there : lines out ≡ above ++ line ∷ below

  -- an end was learnt: its line was told behind the last submission of its task, of which no end was given before
  pub record IsLearnt (task code : ℕ) (ts : Turns) (now : Log) : Type 0 where
    pub attempt : ℕ
    pub submission : LastSubmission task attempt ts
    pub told : IsTold (end_line task attempt code)
        (flat_map (λ (t : Turn submit poll). t.inside) submission.since ++ now)

  -- of each end that is given
  abbrev pub EndsAreLearnt : Type 0
  EndsAreLearnt =
      (before after : Turns) (t : Turn submit poll) (q : Queue) (task code : ℕ)
      → FarmRun submit poll (before ++ t ∷ after) q → t.reply ≡ Ended task code → (ready running : List ℕ)
      → t.ask ≡ Next ready running →
      IsLearnt task code before t.inside
