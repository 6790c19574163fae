-- Which lists of tasks a table holds.
use Rattle.std.specs.Prelude.{◌≡◌, ℕ, ◌+◌, ◌<◌, ◌≤◌, true, List, [], ◌∷◌, ◌++◌, length, nat_lt, Result, Ok, Err, None, ⊤, Bool, ◌&&◌, nat_le, if◌then◌else◌, Option, Some}
use Rattle.std.specs.List.{AllByRecursion, list_all}
use Rattle.bds_value.specs.declared.TheConstants.{MAX_CPUS, MAX_RETRY, MAX_TASKS, MAX_TEXT}
use Rattle.bds_value.specs.Fields.{AreFieldTexts, RisesFrom}
use Rattle.bds_tasks.specs.declared.task.AddFault.{AddFault}
use Rattle.bds_tasks.specs.declared.task.AddFault.TheVariants.{TooMany, NoMemory}
use Rattle.bds_tasks.specs.declared.task.TaskNew.{TaskNew}
use Rattle.bds_tasks.specs.declared.task.TaskState.{TaskState}
use Rattle.bds_tasks.specs.declared.task.TaskState.TheVariants.{Cancelled}
use Rattle.bds_tasks.specs.declared.task.Task.{Task}
use Rattle.bds_tasks.specs.TaskFields.{AreFieldTasks}
use Rattle.bds_tasks.specs.Tasks.{passes, is_bad, added}

-- what a task may be made of
pub record IsLegal (new : TaskNew) : Type 0 where
  pub command : length new.command ≤ MAX_TEXT
  pub name : length new.name ≤ MAX_TEXT
  pub outs : AreFieldTexts new.outs
  pub ins : AreFieldTexts new.ins
  pub some_cpus : 1 ≤ new.cpus
  pub cpus : new.cpus ≤ MAX_CPUS
  pub retry : new.retry ≤ MAX_RETRY

-- a cancelled task names an earlier one, with a bad end
abbrev pub IsBlamed : (ℕ → Type 0) → ℕ → TaskState → Type 0
IsBlamed Bad i (Cancelled n) = (1 ≤ n) × (n ≤ i) × Bad n
IsBlamed Bad i _ = ⊤

-- a task behind i others; it needs earlier ones, in rising order
pub record IsSound (Bad : ℕ → Type 0) (i : ℕ) (t : Task) : Type 0 where
  pub made : IsLegal t.made
  pub attempt : t.attempt ≤ t.made.retry
  pub rises : RisesFrom nat_lt (λ (n : ℕ). n) None t.needs
  pub needs : AllByRecursion (λ n. (1 ≤ n) × (n ≤ i)) t.needs
  pub blamed : IsBlamed Bad i t.state

abbrev pub AreSound : (ℕ → Type 0) → ℕ → List Task → Type 0
AreSound Bad i [] = ⊤
AreSound Bad i (t ∷ ts) = IsSound Bad i t × AreSound Bad (i + 1) ts

abbrev pub EndedBadly : List Task → ℕ → Type 0
EndedBadly ts n = passes is_bad ts n ≡ true

-- the tasks of a table
pub record AreTasks (ts : List Task) : Type 0 where
  pub count : length ts ≤ MAX_TASKS
  pub sound : AreSound (EndedBadly ts) 0 ts

-- task n is the first of a list that isn't sound where it stands
pub record IsFirstUnfit (ts : List Task) (n : ℕ) : Type 0 where
  pub before : List Task
  pub task : Task
  pub behind : List Task
  pub split : ts ≡ before ++ task ∷ behind
  pub number : n ≡ length before + 1
  pub sound : AreSound (EndedBadly ts) 0 before
  pub unsound : IsSound (EndedBadly ts) (length before) task → ⊥

-- a task was added; or there are as many as there may be, or no memory, and all is as before
abbrev pub Adds : TaskNew → List Task → List Task → Result ℕ AddFault → Type 0
Adds task old new (Ok n) = (length old < MAX_TASKS) × (new ≡ added old task) × (n ≡ length old + 1)
Adds task old new (Err (TooMany n)) = (length old ≡ MAX_TASKS) × (n ≡ length old) × (new ≡ old)
Adds task old new (Err NoMemory) = (length old < MAX_TASKS) × (new ≡ old)

abbrev pub is_between : ℕ → ℕ → Bool
is_between i n = nat_le 1 n && nat_le n i

abbrev pub is_blamed : List Task → ℕ → TaskState → Bool
is_blamed ts i (Cancelled n) = is_between i n && passes is_bad ts n
is_blamed ts i _ = true

-- of these tasks, one may stand behind i others
abbrev pub is_fit : List Task → ℕ → Task → Bool
is_fit ts i t =
    nat_le 1 t.made.cpus
    && (nat_le t.made.cpus MAX_CPUS && (nat_le t.made.retry MAX_RETRY && (nat_le t.attempt t.made.retry && (list_all (is_between i) t.needs && is_blamed ts i t.state))))

abbrev pub unfit_from : List Task → ℕ → List Task → Option ℕ
unfit_from all i [] = None
unfit_from all i (t ∷ ts) = if is_fit all i t then unfit_from all (i + 1) ts else Some (i + 1)

-- the first task that may not stand where it does
abbrev pub first_unfit : List Task → Option ℕ
first_unfit ts = unfit_from ts 0 ts

-- of the tasks of a file none is unfit only where they are those of a table; else it is the first that isn't sound
pub record TellsUnfit (ts : List Task) : Type 0 where
  pub none : first_unfit ts ≡ None → AreTasks ts
  pub first : (n : ℕ) → first_unfit ts ≡ Some n → IsFirstUnfit ts n

abbrev pub UnfitAreTold : Type 0
UnfitAreTold = (ts : List Task) → AreFieldTasks ts → TellsUnfit ts
