-- What becomes of the run by what a thread is given: definitions for private contracts.
use Rattle.std.specs.Prelude.{◌≡◌, ℕ, ◌+◌, ◌<◌, Bool, true, false, List, [], ◌∷◌, ◌++◌, fold, length, Option, Some, None, Result, Ok, Err, unwrap_or, ⊤}
use Rattle.bds_value.specs.declared.TheConstants.{MAX_RULES, MAX_TASKS}
use Rattle.bds_value.specs.declared.ids.Id.{Id}
use Rattle.bds_value.specs.declared.listed.NoMemory.{NoMemory}
use Rattle.bds_value.specs.declared.value.At.{At}
use Rattle.bds_value.specs.declared.value.Stamp.{Stamp}
use Rattle.bds_value.specs.declared.value.Ty.{Ty}
use Rattle.bds_value.specs.declared.value.Value.{Value}
use Rattle.bds_value.specs.declared.faults.RunFault.{RunFault}
use Rattle.bds_value.specs.declared.faults.RunFault.TheVariants as run
use Rattle.bds_host.specs.declared.asks.Ask.{Ask}
use Rattle.bds_host.specs.declared.asks.Ask.TheVariants as ask
use Rattle.bds_host.specs.Host.{Log}
use Rattle.bds_code.specs.declared.unit.Unit.{Unit as CodeUnit}
use Rattle.bds_code_frames.specs.declared.thread.Thread.{Thread}
use Rattle.bds_code_frames.specs.Stack.{stack}
use Rattle.bds_machine.specs.Answers.{IsGiven, point_ty}
use Rattle.bds_machine.specs.declared.point.Point.{Point}
use Rattle.bds_rules.specs.declared.rule.Rule.{Rule}
use Rattle.bds_rules.specs.declared.rule.RuleFault.{RuleFault}
use Rattle.bds_rules.specs.declared.rule.RuleFault.TheVariants as rule_fault
use Rattle.bds_rules.specs.Makers.{made_already}
use Rattle.bds_tasks.specs.declared.task.AddFault.{AddFault}
use Rattle.bds_tasks.specs.declared.task.AddFault.TheVariants as add_fault
use Rattle.bds_tasks.specs.declared.task.Task.{Task}
use Rattle.bds_tasks.specs.declared.task.TaskNew.{TaskNew}
use Rattle.bds_tasks.specs.Tasks.{added}
use Rattle.bds_goal.specs.Needs.{rule_at}
use Rattle.bds_schedule.specs.Faults.{Outcome}
use Rattle.bds_schedule.specs.Ids.{task_id}
use Rattle.bds_schedule.specs.Stages.{checkpoint_of}
use Rattle.bds_schedule.specs.Turns.{ids_from, task_of_rule}
use Rattle.bds_schedule.specs.Values.{of_texts}
use Rattle.bds_sim.specs.Threads as sim
use Rattle.bds_sim.specs.Row.{left, line_behind, no_line, row_step}
use Rattle.bds_state.specs.Changes.{HasSpawned}
use Rattle.bds_state.specs.Keeping.{waiting, with_thread}
use Rattle.bds_state.specs.Parts.{Parts, with_rules, with_tasks}
use Rattle.bds_engine_stages.specs.declared.stage.Stage.{Stage}
use Rattle.bds_engine_stages.specs.declared.stage.Stage.TheVariants as stage
use Rattle.bds_engine_stages.specs.declared.stop.Halt.{Halt}
use Rattle.bds_engine_stages.specs.declared.stop.Halt.TheVariants as halt
use Rattle.bds_engine_stages.specs.Held.{FailsSo, GoesBack, IsOut, before_row}
use Rattle.bds_engine_stages.specs.Steps.{CallLeadsTo}

-- the place of the instruction that a thread has left
abbrev pub at_of : CodeUnit → Thread → At
at_of u t = unwrap_or (line_behind u (stack t.frames)) no_line

-- a thread is out at a point whose answer has this type
pub record Awaits (s : Parts) (k : ℕ) (t : Thread) (type : Ty) : Type 0 where
  pub point : Point
  pub out : IsOut s k point t
  pub told : point_ty point ≡ Some type

-- the run stops by a fault where the thread has left the machine
abbrev pub Breaks : Parts → Thread → RunFault → Parts → Result Stage Halt → Type 0
Breaks s t f s' r = (s' ≡ s) × FailsSo s (at_of s.unit t) f r

-- a thread goes on with one value or none, or the run stops by a fault
abbrev pub Gives : Parts → ℕ → Thread → Stage → Parts → Result Stage Halt → Outcome (List Value) → Type 0
Gives s k t g s' r (Ok []) = GoesBack k None t s s' g r
Gives s k t g s' r (Ok (v ∷ [])) = GoesBack k (Some v) t s s' g r
Gives s k t g s' r (Ok (v ∷ w ∷ vs)) = ⊥
Gives s k t g s' r (Err f) = Breaks s t f s' r

-- from the row on, with these stamps, a call that asks nothing reaches this
abbrev pub FromStamps : Parts → ℕ → Thread → Point → List Stamp → Parts → Result Stage Halt → Type 0
FromStamps s k t p stamps s' r =
    (log : Log) (cpus budget used : ℕ) (m : sim.Parts) → row_step s.unit m ≡ left s.unit p t.globals (stack t.frames) → CallLeadsTo s cpus budget (before_row s cpus budget used k m stamps) log log s' used r

-- the tasks with those of rules, in this order
abbrev pub with_planned : ℕ → List Rule → List Task → List ℕ → List Task
with_planned k rules tasks ns = fold (λ ts n. added ts (task_of_rule k (rule_at rules n))) tasks ns

-- the rules of a plan become tasks where there is room, and their ids are given
abbrev pub MakesPlan : Parts → ℕ → Thread → List ℕ → Parts → Result Stage Halt → Bool → Type 0
MakesPlan s k t ns s' r true = GoesBack k (Some (of_texts (ids_from (length s.tasks + 1) ns))) t (with_tasks (with_planned k s.rules s.tasks ns) s) s' stage.Point r
MakesPlan s k t ns s' r false = Breaks s t run.TooManyTasks s' r

-- an ask whose reply gives no value
abbrev pub TellsNothing : Ask → Type 0
TellsNothing (ask.Write path text) = ⊤
TellsNothing (ask.Remove path) = ⊤
TellsNothing (ask.Out text) = ⊤
TellsNothing _ = ⊥

-- a thread has what it awaits, and waits for these
pub record IsWaiting (k : ℕ) (ids : List Id) (t : Thread) (old new : Parts) : Type 0 where
  pub next : Thread
  pub given : IsGiven old.unit None t next
  pub parts : new ≡ with_thread k (waiting ids next) old

abbrev pub WaitsThen : ℕ → List Id → Thread → Parts → Parts → Result Stage Halt → Type 0
WaitsThen k ids t old new (Ok g) = (g ≡ stage.Point) × IsWaiting k ids t old new
WaitsThen k ids t old new (Err halt.Spent) = ⊥
WaitsThen k ids t old new (Err halt.NoMemory) = ⊤

-- a task was added; or there are as many as there may be, or no memory, and all is as before
abbrev pub AddsTask : TaskNew → Parts → Parts → Result ℕ AddFault → Type 0
AddsTask task old new (Ok n) = (length old.tasks < MAX_TASKS) × (new ≡ with_tasks (added old.tasks task) old) × (n ≡ length old.tasks + 1)
AddsTask task old new (Err (add_fault.TooMany n)) = (length old.tasks ≡ MAX_TASKS) × (new ≡ old)
AddsTask task old new (Err add_fault.NoMemory) = (length old.tasks < MAX_TASKS) × (new ≡ old)

-- a rule was declared; or another makes a file of it, or there are as many as there may be, or no memory, and all is as before
abbrev pub AddsRule : Rule → Parts → Parts → Result ℕ RuleFault → Type 0
AddsRule rule old new (Ok n) = (made_already old.rules rule.outs ≡ None) × (length old.rules < MAX_RULES) × (new ≡ with_rules (old.rules ++ rule ∷ []) old)
AddsRule rule old new (Err (rule_fault.TwoRules file n)) = (made_already old.rules rule.outs ≡ Some (file, n)) × (new ≡ old)
AddsRule rule old new (Err (rule_fault.TooMany n)) = (made_already old.rules rule.outs ≡ None) × (length old.rules ≡ MAX_RULES) × (new ≡ old)
AddsRule rule old new (Err rule_fault.NoMemory) = new ≡ old

-- a rule becomes a task of a thread, and this is its id
abbrev pub AddsRuleTask : ℕ → ℕ → Parts → Parts → Result (List ℕ) NoMemory → Type 0
AddsRuleTask k n old new (Ok id) = (new ≡ with_tasks (added old.tasks (task_of_rule k (rule_at old.rules n))) old) × (id ≡ task_id (length old.tasks + 1))
AddsRuleTask k n old new (Err e) = ⊤

-- rules become tasks of a thread, and these are their ids; where there is no memory, some have become tasks
abbrev pub AddsPlan : ℕ → List ℕ → Parts → Parts → Result (List (List ℕ)) NoMemory → Type 0
AddsPlan k ns old new (Ok ids) = (new ≡ with_tasks (with_planned k old.rules old.tasks ns) old) × (ids ≡ ids_from (length old.tasks + 1) ns)
AddsPlan k ns old new (Err e) = ⊤

-- a thread that another made was added
abbrev pub BeginsThread : ℕ → ℕ → List Value → Parts → Parts → Result Stage Halt → Type 0
BeginsThread maker function args old new (Ok g) = (g ≡ stage.Point) × HasSpawned maker function args old new
BeginsThread maker function args old new (Err halt.Spent) = ⊥
BeginsThread maker function args old new (Err halt.NoMemory) = ⊤

abbrev pub path_or : List ℕ → Option (List ℕ) → List ℕ
path_or script (Some path) = path
path_or script None = checkpoint_of script
