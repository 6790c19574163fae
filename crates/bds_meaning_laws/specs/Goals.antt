-- What becomes of a goal in every history.
use Rattle.std.specs.Prelude.{◌≡◌, ◌⊎◌, ◌↔◌, ℕ, ◌+◌, false, List, [], ◌∷◌, ◌++◌, length, slice_get, Some, ⊤}
use Rattle.bds_value.specs.declared.value.At.{At}
use Rattle.bds_value.specs.declared.value.Stamp.{Stamp}
use Rattle.bds_value.specs.declared.value.Value.{Value}
use Rattle.bds_host.specs.declared.asks.Ask.TheVariants.{Stamp as Stamping}
use Rattle.bds_host.specs.declared.asks.Reply.{Reply}
use Rattle.bds_host.specs.declared.asks.Reply.TheVariants.{Stamp as Stamped}
use Rattle.bds_host.specs.declared.faults.Fault.{Fault}
use Rattle.bds_tasks.specs.declared.task.Task.{Task}
use Rattle.bds_tasks.specs.declared.task.TaskNew.{TaskNew}
use Rattle.bds_tasks.specs.declared.task.TaskState.TheVariants.{Waits}
use Rattle.bds_rules.specs.declared.rule.Rule.{Rule}
use Rattle.bds_goal.specs.Chains.{In, is_in}
use Rattle.bds_goal.specs.Goals.{IsPlan, IsPlanned, IsReach, stamp_in}
use Rattle.bds_goal.specs.Needs.{rule_at}
use Rattle.bds_meaning.specs.Acts.{Code}
use Rattle.bds_schedule.specs.Configuration.{Ready, Thread, failed, lives, stopping, turn_of}
use Rattle.bds_meaning.specs.History.{History, Lives, pair}
use Rattle.bds_schedule.specs.Requests.{Achieves, Needs}
use Rattle.bds_meaning.specs.Run.{Program, Conf, Moves}
use Rattle.bds_schedule.specs.Stages.{End}
use Rattle.bds_schedule.specs.Steps.{Step, Goes, Asks, Ends}
use Rattle.bds_meaning.specs.Threads.{thread_step}
use Rattle.bds_schedule.specs.Turns.{ids_from, task_of_rule}
use Rattle.bds_schedule.specs.Values.{of_texts}
use Rattle.bds_meaning_laws.specs.Histories.{IsOpening}

-- it is the turn of thread k, which comes to a goal with these targets and goes on with its value; so many stamps are there
pub record IsAtGoal (program : Program) (c : Conf) (k : ℕ) (stamps : List Stamp) (targets : List (List ℕ)) (next : List Value → Code) : Type 0 where
  pub turn : c.mode ≡ turn_of k stamps
  pub thread : Thread Code
  pub there : slice_get c.threads k ≡ Some thread
  pub code : Code
  pub ready : thread.life ≡ Ready code
  pub at : At
  pub needs : thread_step program.functions code ≡ Needs at (Achieves targets) next

-- these files were asked for in this order, and these are their stamps
abbrev pub stamped : List (List ℕ) → List Stamp → History
stamped (file ∷ files) (s ∷ stamps) = pair (Stamping file) (Stamped s.there s.size s.time) ∷ stamped files stamps
stamped _ _ = []

-- each stands once
abbrev pub IsOnce : List ℕ → Type 0
IsOnce [] = ⊤
IsOnce (n ∷ ns) = (is_in ns n ≡ false) × IsOnce ns

-- a new task, which waits and wasn't tried
pub record IsNew (made : TaskNew) (task : Task) : Type 0 where
  pub made_so : task.made ≡ made
  pub untried : task.attempt ≡ 0
  pub waits : task.state ≡ Waits

-- one new task of thread k for each of these rules, in their order
abbrev pub AreTasksOf : ℕ → List Rule → List ℕ → List Task → Type 0
AreTasksOf k rules [] [] = ⊤
AreTasksOf k rules (n ∷ ns) (task ∷ tasks) = IsNew (task_of_rule k (rule_at rules n)) task × AreTasksOf k rules ns tasks
AreTasksOf _ _ _ _ = ⊥

-- the goal has come to its value. The last that was asked for are the stamps of all files that it reaches; with these, just the rules that are due
-- and not busy are planned, each once and behind those that it needs, and for each there is one task more. The value is their ids
pub record IsAchieved (c : Conf) (h : History) (k : ℕ) (targets : List (List ℕ)) (next : List Value → Code) (d : Conf) : Type 0 where
  pub before : History
  pub files : List (List ℕ)
  pub reach : IsReach c.rules targets files
  pub stamps : List Stamp
  pub each : length stamps ≡ length files
  pub asked : h ≡ before ++ stamped files stamps
  pub planned : List ℕ
  pub plan : IsPlan c.rules targets (stamp_in files stamps) c.tasks planned
  pub once : IsOnce planned
  pub just : (n : ℕ) → In planned n ↔ IsPlanned c.rules targets (stamp_in files stamps) c.tasks n
  pub new : List Task
  pub made : AreTasksOf k c.rules planned new
  pub tasks : d.tasks ≡ c.tasks ++ new
  pub thread : Thread Code
  pub goes_on : slice_get d.threads k ≡ Some (lives (Ready (next (of_texts (ids_from (length c.tasks + 1) planned) ∷ []))) thread)

-- the goal has failed: the run stops, and no task is made
pub record IsGivenUp (c d : Conf) : Type 0 where
  pub fault : Fault
  pub stops : d.mode ≡ stopping (failed fault)
  pub tasks : d.tasks ≡ c.tasks

-- a step of a goal: it comes to its value, it fails, or something is asked for it and no task is made
abbrev pub IsGoalStep : Conf → History → ℕ → List (List ℕ) → (List Value → Code) → Step Conf End → Type 0
IsGoalStep c h k targets next (Goes d) = IsAchieved c h k targets next d ⊎ IsGivenUp c d
IsGoalStep c h k targets next (Asks ask behind) = (reply : Reply) → (behind reply).tasks ≡ c.tasks
IsGoalStep c h k targets next (Ends end) = ⊥

-- each step of each goal to which the history has come
abbrev pub GoalsAreKept : Program → Conf → History → Type 0
GoalsAreKept program c h =
    (k : ℕ) (stamps : List Stamp) (targets : List (List ℕ)) (next : List Value → Code) → IsAtGoal program c k stamps targets next
    → (s : Step Conf End) → Moves program c s → IsGoalStep c h k targets next s

-- in each history
abbrev pub GoalsMakeTheirPlan : Type 0
GoalsMakeTheirPlan = (program : Program) (first c : Conf) (h : History) → IsOpening first → Lives program first h c → GoalsAreKept program c h
