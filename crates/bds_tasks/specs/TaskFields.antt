-- The bytes of tasks in a file.
use Rattle.std.specs.Prelude.{ℕ, ◌<◌, ◌≤◌, ◌^◌, List, [], ◌∷◌, ◌++◌, length, nat_lt, slice_get, Option, Some, None, Ok, Err, ⊤}
use Rattle.std.specs.List.{All}
use Rattle.bds_value.specs.declared.TheConstants.{MAX_COUNT, MAX_TASKS, MAX_TEXT}
use Rattle.bds_value.specs.declared.faults.FieldFault.TheVariants.{BadTag}
use Rattle.bds_value.specs.Fields.{AreFieldTexts, RisesFrom}
use Rattle.bds_value.specs.Reading.{◌>>=◌, Reader, read_map, byte_at, bool_at, u32_at, text_at, texts_at, list_at, rising_at}
use Rattle.bds_value.specs.Spelling.{u8_field, bool_field, u32_field, text_field, texts_field, list_field}
use Rattle.bds_tasks.specs.declared.task.Task.{Task}
use Rattle.bds_tasks.specs.declared.task.TaskNew.{TaskNew}
use Rattle.bds_tasks.specs.declared.task.TaskState.{TaskState}
use Rattle.bds_tasks.specs.declared.task.TaskState.TheVariants.{Waits, Runs, Ended, Cancelled}

abbrev pub made_at : Reader TaskNew
made_at i =
    u32_at i >>= λ maker.
    text_at maker.1 >>= λ command.
    text_at command.1 >>= λ name.
    texts_at name.1 >>= λ outs.
    texts_at outs.1 >>= λ ins.
    u32_at ins.1 >>= λ cpus.
    bool_at cpus.1 >>= λ can_fail.
    u32_at can_fail.1 >>= λ retry.
    Ok (record { maker = maker.0; command = command.0; name = name.0; outs = outs.0; ins = ins.0; cpus = cpus.0; can_fail = can_fail.0; retry = retry.0 }, retry.1)

-- a number, behind a lesser one
abbrev pub number_of : ℕ → Reader ℕ
number_of n i = Ok (n, i)

abbrev pub needs_at : Reader (List ℕ)
needs_at = rising_at MAX_COUNT nat_lt u32_at number_of

-- a state without a number
abbrev pub bare : TaskState → Reader TaskState
bare s i = Ok (s, i)

-- a state with a number
abbrev pub with_one : (ℕ → TaskState) → Reader ℕ → Reader TaskState
with_one f r i = read_map f (r i)

-- how a state goes on behind its tag, by the tags
abbrev pub state_readers : List (Reader TaskState)
state_readers = bare Waits ∷ bare Runs ∷ with_one Ended byte_at ∷ with_one Cancelled u32_at ∷ []

abbrev pub go_on : Option (Reader TaskState) → ℕ → ℕ → Reader TaskState
go_on None at tag i = Err (BadTag at tag)
go_on (Some r) at tag i = r i

abbrev pub state_of : ℕ → ℕ → Reader TaskState
state_of at tag i = go_on (slice_get state_readers tag) at tag i

abbrev pub state_at : Reader TaskState
state_at i = byte_at i >>= λ b. state_of i.at b.0 b.1

abbrev pub task_read : Reader Task
task_read i =
    made_at i >>= λ made.
    u32_at made.1 >>= λ attempt.
    needs_at attempt.1 >>= λ needs.
    state_at needs.1 >>= λ state.
    Ok (record { made = made.0; needs = needs.0; attempt = attempt.0; state = state.0 }, state.1)

abbrev pub tasks_at : Reader (List Task)
tasks_at = list_at MAX_TASKS task_read

abbrev pub files_field : TaskNew → List ℕ
files_field t = texts_field t.outs ++ texts_field t.ins

abbrev pub head_field : TaskNew → List ℕ
head_field t = u32_field t.maker ++ (text_field t.command ++ text_field t.name)

abbrev pub numbers_field : TaskNew → List ℕ
numbers_field t = u32_field t.cpus ++ (bool_field t.can_fail ++ u32_field t.retry)

abbrev pub made_field : TaskNew → List ℕ
made_field t = head_field t ++ (files_field t ++ numbers_field t)

abbrev pub needs_field : List ℕ → List ℕ
needs_field = list_field u32_field

abbrev pub tag : TaskState → ℕ
tag Waits = 0
tag Runs = 1
tag (Ended code) = 2
tag (Cancelled n) = 3

-- what stands behind the tag
abbrev pub code_field : TaskState → List ℕ
code_field Waits = []
code_field Runs = []
code_field (Ended code) = u8_field code
code_field (Cancelled n) = u32_field n

abbrev pub state_field : TaskState → List ℕ
state_field s = tag s ∷ code_field s

abbrev pub going_field : Task → List ℕ
going_field t = u32_field t.attempt ++ (needs_field t.needs ++ state_field t.state)

abbrev pub task_field : Task → List ℕ
task_field t = made_field t.made ++ going_field t

abbrev pub tasks_field : List Task → List ℕ
tasks_field = list_field task_field

-- a task that may be in a file

abbrev pub IsFieldState : TaskState → Type 0
IsFieldState (Ended code) = code < 2 ^ 8
IsFieldState (Cancelled n) = n < 2 ^ 32
IsFieldState _ = ⊤

pub record IsFieldNew (t : TaskNew) : Type 0 where
  pub maker : t.maker < 2 ^ 32
  pub command : length t.command ≤ MAX_TEXT
  pub name : length t.name ≤ MAX_TEXT
  pub outs : AreFieldTexts t.outs
  pub ins : AreFieldTexts t.ins
  pub cpus : t.cpus < 2 ^ 32
  pub retry : t.retry < 2 ^ 32

pub record AreFieldNeeds (ns : List ℕ) : Type 0 where
  pub count : length ns ≤ MAX_COUNT
  pub rises : RisesFrom nat_lt (λ (n : ℕ). n) None ns
  pub each : All (λ n. n < 2 ^ 32) ns

pub record IsFieldTask (t : Task) : Type 0 where
  pub made : IsFieldNew t.made
  pub attempt : t.attempt < 2 ^ 32
  pub needs : AreFieldNeeds t.needs
  pub state : IsFieldState t.state

pub record AreFieldTasks (ts : List Task) : Type 0 where
  pub count : length ts ≤ MAX_TASKS
  pub each : All IsFieldTask ts

-- a task whose texts and lists are within the limits of a file
pub record IsLimited (t : Task) : Type 0 where
  pub command : length t.made.command ≤ MAX_TEXT
  pub name : length t.made.name ≤ MAX_TEXT
  pub outs : AreFieldTexts t.made.outs
  pub ins : AreFieldTexts t.made.ins
  pub needs : length t.needs ≤ MAX_COUNT

pub record AreLimited (ts : List Task) : Type 0 where
  pub count : length ts ≤ MAX_TASKS
  pub each : All IsLimited ts
