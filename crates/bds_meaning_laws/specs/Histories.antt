-- Laws of the tasks in every history.
use Rattle.std.specs.Prelude.{◌≡◌, ◌≤◌, ◌⊎◌, ◌↔◌, ◌||◌, ℕ, true, false, List, [], ◌∷◌, ◌++◌, Some}
use Rattle.std.specs.List.{AllByRecursion, list_any}
use Rattle.bds_host.specs.declared.asks.Ask.TheVariants.{Start, Next}
use Rattle.bds_host.specs.declared.asks.Reply.{Reply}
use Rattle.bds_host.specs.declared.asks.Reply.TheVariants.{Ended}
use Rattle.bds_tasks.specs.declared.task.Task.{Task}
use Rattle.bds_tasks.specs.declared.task.TaskNew.{TaskNew}
use Rattle.bds_tasks.specs.declared.task.TaskEnd.TheVariants.{Well}
use Rattle.bds_tasks.specs.Ends.{end_of}
use Rattle.bds_tasks.specs.Starts.{in_use}
use Rattle.bds_tasks.specs.Tasks.{passes, running, runs, task_at}
use Rattle.bds_tree.specs.StmtTree.{ScriptTree}
use Rattle.bds_schedule.specs.Configuration.{at_point, done}
use Rattle.bds_meaning.specs.History.{History, Lives, pair}
use Rattle.bds_meaning.specs.Opening.{opening}
use Rattle.bds_meaning.specs.Run.{Program, Conf}
use Rattle.bds_meaning.specs.Variables.{Bindings}
use Rattle.bds_meaning_laws.specs.Events.{attempt_in, cpus_in, ends, runs_in, starts}

-- the task of a number; they are numbered from 1
pub record IsTask (tasks : List Task) (n : ℕ) (task : Task) : Type 0 where
  pub low : 1 ≤ n
  pub there : task_at tasks n ≡ Some task

-- this attempt of a task ends well with this code: it is 0, or the task may fail and has no attempt left
abbrev pub IsGoodEnd : TaskNew → ℕ → ℕ → Type 0
IsGoodEnd made attempt code = (code ≡ 0) ⊎ ((made.can_fail ≡ true) × (made.retry ≤ attempt))

-- just such an end the table of tasks calls good
abbrev pub GoodEndsAreWell : Type 0
GoodEndsAreWell = (task : Task) (code : ℕ) → IsGoodEnd task.made task.attempt code ↔ (end_of code task ≡ Well)

-- task n has ended well, and since then it has neither started nor ended
pub record HasEndedWell (made : TaskNew) (n : ℕ) (h : History) : Type 0 where
  pub before : History
  pub ready : List ℕ
  pub running : List ℕ
  pub code : ℕ
  pub behind : History
  pub split : h ≡ before ++ pair (Next ready running) (Ended n code) ∷ behind
  pub good : IsGoodEnd made (attempt_in n before) code
  pub since : list_any (λ e. starts n e || ends n e) behind ≡ false

-- task n is there and has ended well
pub record IsMet (tasks : List Task) (h : History) (n : ℕ) : Type 0 where
  pub task : Task
  pub there : IsTask tasks n task
  pub ended : HasEndedWell task.made n h

-- task n is there, and each task that it needs has ended well
pub record HasItsNeeds (tasks : List Task) (h : History) (n : ℕ) : Type 0 where
  pub task : Task
  pub there : IsTask tasks n task
  pub needs : AllByRecursion (IsMet tasks h) task.needs

-- a task starts only behind the good ends of all that it needs
abbrev pub StartsBehindNeeds : List Task → History → Type 0
StartsBehindNeeds tasks h =
    (before behind : History) (n attempt : ℕ) (command : List ℕ) (reply : Reply)
    → h ≡ before ++ pair (Start n attempt command) reply ∷ behind → HasItsNeeds tasks before n

-- task n, which is there, ends with this code behind these events: if that is a good end, none of the later events starts it
pub record IsLastIfGood (tasks : List Task) (before : History) (n code : ℕ) (behind : History) : Type 0 where
  pub task : Task
  pub there : IsTask tasks n task
  pub none : IsGoodEnd task.made (attempt_in n before) code → list_any (starts n) behind ≡ false

-- a task that has ended well doesn't start again
abbrev pub GoodEndsAreLast : List Task → History → Type 0
GoodEndsAreLast tasks h =
    (before behind : History) (ready running : List ℕ) (n code : ℕ)
    → h ≡ before ++ pair (Next ready running) (Ended n code) ∷ behind → IsLastIfGood tasks before n code behind

-- the running tasks take no more processors than there are
abbrev pub TasksHaveRoom : Conf → Type 0
TasksHaveRoom c = in_use c.cpus c.tasks ≤ c.cpus

-- where the run is done with a status, no task runs
abbrev pub NoneRunsAtEnd : Conf → Type 0
NoneRunsAtEnd c = (status : ℕ) → c.mode ≡ done status → running c.tasks ≡ []

-- a history tells how many processors there are, and which tasks run
pub record IsTold (first : Conf) (h : History) (c : Conf) : Type 0 where
  pub cpus : c.cpus ≡ cpus_in first.cpus h
  pub running : (n : ℕ) → 1 ≤ n → passes (λ t. runs t.state) c.tasks n ≡ runs_in n h

-- where a run opens: at a point, without tasks
pub record IsOpening (c : Conf) : Type 0 where
  pub at : c.mode ≡ at_point
  pub tasks : c.tasks ≡ []

abbrev pub ScriptsOpenSo : Type 0
ScriptsOpenSo = (path : List ℕ) (cpus budget : ℕ) (settings : Bindings) (args : List (List ℕ)) (script : ScriptTree) → IsOpening (opening path cpus budget settings args script)

-- a law of each history, restarts among it, and of the configuration to which it leads
abbrev pub InEachHistory : (History → Conf → Type 0) → Type 0
InEachHistory Law = (program : Program) (first c : Conf) (h : History) → IsOpening first → Lives program first h c → Law h c

abbrev pub TasksStartBehindNeeds : Type 0
TasksStartBehindNeeds = InEachHistory (λ h c. StartsBehindNeeds c.tasks h)

abbrev pub GoodEndsStay : Type 0
GoodEndsStay = InEachHistory (λ h c. GoodEndsAreLast c.tasks h)

abbrev pub TasksFit : Type 0
TasksFit = InEachHistory (λ h c. TasksHaveRoom c)

abbrev pub RunsEndAtRest : Type 0
RunsEndAtRest = InEachHistory (λ h c. NoneRunsAtEnd c)

abbrev pub HistoriesTell : Type 0
HistoriesTell = (program : Program) (first c : Conf) (h : History) → IsOpening first → Lives program first h c → IsTold first h c
