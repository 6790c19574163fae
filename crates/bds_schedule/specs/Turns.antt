-- The turn of a thread: what becomes of the run by what the thread does next.
use Rattle.std.specs.Prelude.{ℕ, ◌+◌, Bool, true, false, List, [], ◌∷◌, ◌++◌, length, take, drop, fold, nat_lt, nat_le, slice_get, Option, Some, None, Ok, Err}
use Rattle.bds_value.specs.declared.TheConstants.{MAX_THREADS, MAX_TASKS, MAX_RULES}
use Rattle.bds_value.specs.declared.value.At.{At}
use Rattle.bds_value.specs.declared.value.Stamp.{Stamp}
use Rattle.bds_value.specs.declared.value.Value.{Value}
use Rattle.bds_value.specs.declared.value.Value.TheVariants as value
use Rattle.bds_host.specs.declared.asks.Ask.{Ask}
use Rattle.bds_host.specs.declared.asks.Ask.TheVariants.{Stamp as Stamping, Save}
use Rattle.bds_value.specs.declared.faults.RunFault.{RunFault}
use Rattle.bds_value.specs.declared.faults.RunFault.TheVariants as run
use Rattle.bds_tasks.specs.declared.task.Task.{Task}
use Rattle.bds_tasks.specs.declared.task.TaskNew.{TaskNew}
use Rattle.bds_tasks.specs.declared.task.Waited.{Waited}
use Rattle.bds_tasks.specs.declared.task.Waited.TheVariants.{Not, Well, Failed}
use Rattle.bds_tasks.specs.Tasks.{added, pending_makes}
use Rattle.bds_rules.specs.declared.rule.Rule.{Rule}
use Rattle.bds_rules.specs.Makers.{made_already}
use Rattle.bds_rules.specs.OutOfDate.{out_of_date}
use Rattle.std.specs.List.{list_any}
use Rattle.bds_goal.specs.Needs.{rule_at}
use Rattle.bds_goal.specs.Reach.{reach, has_cycle}
use Rattle.bds_goal.specs.Plan.{unmade, plan}
use Rattle.bds_schedule.specs.Configuration.{Life, Ready, Waits, Closes, Ended, Thread, Configuration, at_point, turn_of, stopping, exited, task_failed, in_mode, with_threads, with_tasks, with_rules, count_tick, becomes}
use Rattle.bds_schedule.specs.Faults.{Outcome}
use Rattle.bds_schedule.specs.Ids.{Id, task_id, thread_id, ids_of}
use Rattle.bds_schedule.specs.Replies.{values_given, stamp_in as stamp_given, answer_to, is_point}
use Rattle.bds_schedule.specs.Requests.{Request, Contacts, Inspects, Compares, MakesTask, Declares, Achieves, Spawns, AwaitsIds, AwaitsAll, Saves, ThreadAct, GoesOn, Needs, Stops, Quits, Finishes}
use Rattle.bds_schedule.specs.Stages.{Spent, Move, asking, fails, checkpoint_of}
use Rattle.bds_schedule.specs.Steps.{Goes, Ends}
use Rattle.bds_schedule.specs.Requests.{Question}
use Rattle.bds_schedule.specs.Values.{of_texts}
use Rattle.bds_schedule.specs.Waiting.{wait_state, made_by}

-- a task of this thread
abbrev pub made_in : ℕ → TaskNew → TaskNew
made_in k t = record { maker = k; command = t.command; name = t.name; outs = t.outs; ins = t.ins; cpus = t.cpus; can_fail = t.can_fail; retry = t.retry }

-- the task of a rule
abbrev pub task_of_rule : ℕ → Rule → TaskNew
task_of_rule k r = record { maker = k; command = r.command; name = r.name; outs = r.outs; ins = r.ins; cpus = r.cpus; can_fail = r.can_fail; retry = r.retry }

-- the ids of so many tasks from number n on
abbrev pub ids_from : ℕ → List ℕ → List (List ℕ)
ids_from n [] = []
ids_from n (r ∷ rs) = task_id n ∷ ids_from (n + 1) rs

module _ {S : Type 0} where
  -- thread k goes on so in its turn
  abbrev pub goes_on : ℕ → Configuration S → S → Configuration S
  goes_on k c s = becomes k (Ready s) (turn_of k []) c

  -- thread k has come to a point
  abbrev pub comes : ℕ → Configuration S → S → Configuration S
  comes k c s = becomes k (Ready s) at_point c

  abbrev pub goes_by : Bool → ℕ → Configuration S → S → Configuration S
  goes_by true k c s = comes k c s
  goes_by false k c s = goes_on k c s

  -- the stamp of a file is asked for
  abbrev pub stamped : ℕ → List Stamp → Configuration S → List ℕ → Move S
  stamped k stamps c file = asking c (Stamping file) (λ reply. in_mode (turn_of k (stamps ++ stamp_given reply ∷ [])) c)

  -- the next file is asked for, if there is one, and else the step goes on with the stamps
  abbrev pub with_stamps : ℕ → List Stamp → Configuration S → Option (List ℕ) → Configuration S → Move S
  with_stamps k stamps c (Some file) behind = stamped k stamps c file
  with_stamps k stamps c None behind = Goes behind

  -- the stamps of the first files come before those of the second
  abbrev pub is_old : Configuration S → List (List ℕ) → List (List ℕ) → List Stamp → Bool
  is_old c outs ins stamps = out_of_date (take (length outs) stamps) (drop (length outs) stamps) (list_any (pending_makes c.tasks) (outs ++ ins))

  abbrev pub compared : ℕ → List Stamp → Configuration S → List (List ℕ) → List (List ℕ) → (List Value → S) → Move S
  compared k stamps c outs ins next =
      with_stamps k stamps c (slice_get (outs ++ ins) (length stamps)) (goes_on k c (next (value.Bool (is_old c outs ins stamps) ∷ [])))

  -- what is asked of a file
  abbrev pub inspected : ℕ → Configuration S → Question → List ℕ → (List Value → S) → Move S
  inspected k c question file next = asking c (Stamping file) (λ reply. goes_on k c (next (answer_to question (stamp_given reply) ∷ [])))

  -- the tasks of these rules, in this order
  abbrev pub tasks_planned : ℕ → Configuration S → List ℕ → List Task
  tasks_planned k c rules = fold (λ tasks r. added tasks (task_of_rule k (rule_at c.rules r))) c.tasks rules

  abbrev pub path_in : Configuration S → Option (List ℕ) → List ℕ
  path_in c (Some path) = path
  path_in c None = checkpoint_of c.path

  -- a wait that was chosen: where it failed the program stops, and the thread waits still
  abbrev pub over : Configuration S → Waited → Configuration S → Move S
  over c (Failed n code) behind = Goes (in_mode (stopping (task_failed n code)) c)
  over c Well behind = Goes behind
  over c Not behind = Goes (in_mode at_point c)

  -- a step that counts a tick, if the budget has one left
  abbrev pub ticked : Bool → ℕ → Configuration S → S → Move S
  ticked true k c s = Goes (goes_on k (count_tick c) s)
  ticked false k c s = Ends Spent

-- the path of each file of the program
module _ {S : Type 0} (files : List (List ℕ)) where
  -- thread k goes on with what it is given, or the program fails
  abbrev pub given : Bool → ℕ → Configuration S → At → (List Value → S) → Outcome (List Value) → Configuration S
  given point k c at next (Ok vs) = goes_by point k c (next vs)
  given point k c at next (Err f) = fails files c at f

  abbrev pub contacted : ℕ → Configuration S → At → Ask → (List Value → S) → Move S
  contacted k c at ask next = asking c ask (λ reply. given (is_point ask) k c at next (values_given ask reply))

  -- where there is room, the run goes on so, and else it fails
  abbrev pub where_room : Bool → Configuration S → At → RunFault → Configuration S → Move S
  where_room true c at f behind = Goes behind
  where_room false c at f behind = Goes (fails files c at f)

  -- one more task of thread k
  abbrev pub task_made : ℕ → Configuration S → At → TaskNew → (List Value → S) → Move S
  task_made k c at task next =
      where_room (nat_lt (length c.tasks) MAX_TASKS) c at run.TooManyTasks
      (comes k (with_tasks (added c.tasks (made_in k task)) c) (next (value.Text (task_id (length c.tasks + 1)) ∷ [])))

  -- one more rule, where none makes its files already
  abbrev pub declared_if : Option (List ℕ × ℕ) → ℕ → Configuration S → At → Rule → (List Value → S) → Move S
  declared_if (Some p) k c at rule next = Goes (fails files c at (run.TwoRules p.0 p.1))
  declared_if None k c at rule next =
      where_room (nat_lt (length c.rules) MAX_RULES) c at run.TooManyRules (goes_on k (with_rules (c.rules ++ rule ∷ []) c) (next []))

  abbrev pub planned : ℕ → Configuration S → At → List ℕ → (List Value → S) → Move S
  planned k c at rules next =
      where_room (nat_le (length c.tasks + length rules) MAX_TASKS) c at run.TooManyTasks
      (comes k (with_tasks (tasks_planned k c rules) c) (next (of_texts (ids_from (length c.tasks + 1) rules) ∷ [])))

  -- where no file that is missing is left without a maker
  abbrev pub planned_if : Option (List ℕ) → ℕ → List Stamp → Configuration S → At → List (List ℕ) → (List Value → S) → Move S
  planned_if (Some file) k stamps c at targets next = Goes (fails files c at (run.NoRule file))
  planned_if None k stamps c at targets next = planned k c at (plan c.rules targets stamps c.tasks) next

  abbrev pub reached : Option (List ℕ) → ℕ → List Stamp → Configuration S → At → List (List ℕ) → (List Value → S) → Move S
  reached (Some file) k stamps c at targets next = stamped k stamps c file
  reached None k stamps c at targets next = planned_if (unmade c.rules targets stamps c.tasks) k stamps c at targets next

  -- a goal: the stamp of each file that it reaches is asked for, and then its plan becomes tasks
  abbrev pub achieved : Bool → ℕ → List Stamp → Configuration S → At → List (List ℕ) → (List Value → S) → Move S
  achieved true k stamps c at targets next = Goes (fails files c at (run.Cycle []))
  achieved false k stamps c at targets next = reached (slice_get (reach c.rules targets) (length stamps)) k stamps c at targets next

  -- one more thread, made by thread k
  abbrev pub spawned : ℕ → Configuration S → At → S → (List Value → S) → Move S
  spawned k c at begins next =
      where_room (nat_lt (length c.threads) MAX_THREADS) c at run.TooManyThreads
      (comes k (with_threads (c.threads ++ record { parent = k; life = Ready begins } ∷ []) c) (next (value.Text (thread_id (length c.threads)) ∷ [])))

  -- thread k waits for these
  abbrev pub awaited : ℕ → Configuration S → At → (List Value → S) → Outcome (List Id) → Move S
  awaited k c at next (Ok ids) = Goes (becomes k (Waits ids (next [])) at_point c)
  awaited k c at next (Err f) = Goes (fails files c at f)

-- the path of each file, the bytes that a state is saved as, and what a thread does next
module _ {S : Type 0} (files : List (List ℕ)) (image : Configuration S → List ℕ) (step : S → ThreadAct S) where
  -- the state that is saved has thread k behind its statement, at a point
  abbrev pub saved_as : ℕ → Configuration S → List ℕ → Configuration S → Move S
  saved_as k c path behind = asking c (Save path (image behind)) (λ reply. behind)

  -- thread k needs something
  abbrev pub requested : ℕ → List Stamp → Configuration S → At → Request S → (List Value → S) → Move S
  requested k stamps c at (Contacts ask) next = contacted files k c at ask next
  requested k stamps c at (Inspects question file) next = inspected k c question file next
  requested k stamps c at (Compares outs ins) next = compared k stamps c outs ins next
  requested k stamps c at (MakesTask task) next = task_made files k c at task next
  requested k stamps c at (Declares rule) next = declared_if files (made_already c.rules rule.outs) k c at rule next
  requested k stamps c at (Achieves targets) next = achieved files (has_cycle c.rules targets) k stamps c at targets next
  requested k stamps c at (Spawns begins) next = spawned files k c at begins next
  requested k stamps c at (AwaitsIds texts) next = awaited files k c at next (ids_of (length c.tasks) (length c.threads) texts)
  requested k stamps c at AwaitsAll next = Goes (becomes k (Waits (made_by c k) (next [])) at_point c)
  requested k stamps c at (Saves path) next = saved_as k c (path_in c path) (comes k c (next []))

  -- what thread k does next is a step of the run
  abbrev pub taken : ℕ → List Stamp → Configuration S → ThreadAct S → Move S
  taken k stamps c (GoesOn false s) = Goes (goes_on k c s)
  taken k stamps c (GoesOn true s) = ticked (nat_lt c.used c.budget) k c s
  taken k stamps c (Needs at request next) = requested k stamps c at request next
  taken k stamps c (Stops at f) = Goes (fails files c at f)
  taken k stamps c (Quits status) = Goes (in_mode (stopping (exited status)) c)
  taken k stamps c (Finishes s) = Goes (becomes k (Closes (made_by c k) s) at_point c)

  abbrev pub turn_in : ℕ → List Stamp → Configuration S → Life S → Move S
  turn_in k stamps c (Ready s) = taken k stamps c (step s)
  turn_in k stamps c (Waits ids s) = over c (wait_state c ids) (goes_on k c s)
  turn_in k stamps c (Closes ids s) = over c (wait_state c ids) (becomes k Ended at_point c)
  turn_in k stamps c Ended = Goes (in_mode at_point c)

  abbrev pub turn_at : ℕ → List Stamp → Configuration S → Option (Thread S) → Move S
  turn_at k stamps c (Some t) = turn_in k stamps c t.life
  turn_at k stamps c None = Goes (in_mode at_point c)

  -- the turn of thread k
  abbrev pub turn : ℕ → List Stamp → Configuration S → Move S
  turn k stamps c = turn_at k stamps c (slice_get c.threads k)
