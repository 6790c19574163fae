-- What keeps a state valid: one law for each change that a run makes.
use Rattle.std.specs.Prelude.{◌≡◌, ◌≢◌, ℕ, ◌<◌, ◌≤◌, true, List, [], ◌∷◌, ◌++◌, length, map, slice_get, slice_set, Some}
use Rattle.std.specs.Prelude.{None}
use Rattle.std.specs.List.{All}
use Rattle.bds_value.specs.declared.TheConstants.{MAX_COUNT, MAX_RULES, MAX_TASKS, MAX_THREADS}
use Rattle.bds_value.specs.declared.ids.Id.{Id}
use Rattle.bds_value.specs.declared.ids.Status.TheVariants.{Ready, Waiting, Ended}
use Rattle.bds_code_frames.specs.declared.thread.Thread.{Thread}
use Rattle.bds_code_frames.specs.Counts.{IsCounted}
use Rattle.bds_rules.specs.declared.rule.Rule.{Rule}
use Rattle.bds_rules.specs.Makers.{made_already}
use Rattle.bds_rules.specs.Own as rules
use Rattle.bds_tasks.specs.declared.task.Task.{Task}
use Rattle.bds_tasks.specs.declared.task.TaskNew.{TaskNew}
use Rattle.bds_tasks.specs.Ends.{ended}
use Rattle.bds_tasks.specs.Sound.{AreTasks, IsLegal}
use Rattle.bds_tasks.specs.Starts.{started}
use Rattle.bds_tasks.specs.Tasks.{added, passes, revived_task, runs, waits}
use Rattle.bds_verify.specs.Threads.{IsThread}
use Rattle.bds_state.specs.Parts.{Parts, with_rules, with_tasks, with_threads}
use Rattle.bds_state.specs.Valid.{AreThere, IsCountedThread, IsMade, IsThere, IsThreadOf, IsValid}

-- thread n has this in place of what it had
abbrev pub with_thread : ℕ → Thread → Parts → Parts
with_thread n t s = with_threads (slice_set s.threads n t) s

-- a thread that waits for these, that goes on, and that has ended

abbrev pub waiting : List Id → Thread → Thread
waiting ids t = record { parent = t.parent; status = Waiting ids; globals = t.globals; frames = t.frames }

abbrev pub going_on : Thread → Thread
going_on t = record { parent = t.parent; status = Ready; globals = t.globals; frames = t.frames }

abbrev pub at_end : Thread → Thread
at_end t = record { parent = t.parent; status = Ended; globals = []; frames = [] }

-- thread n, which is there, may change so
pub record KeepsThread (s : Parts) (n : ℕ) (t : Thread) : Type 0 where
  -- it ran on with the same maker and status
  pub ran : (next : Thread) → next.parent ≡ t.parent → next.status ≡ t.status → All IsCounted next.frames
      → IsThread s.unit next → IsValid (with_thread n next s)
  -- it waits for tasks and threads that are there
  pub waits : (ids : List Id) → t.status ≢ Ended → length ids ≤ MAX_COUNT
      → All (IsThere (length s.tasks) (length s.threads)) ids → IsValid (with_thread n (waiting ids t) s)
  pub goes_on : t.status ≢ Ended → t.frames ≢ [] → IsValid (with_thread n (going_on t) s)
  pub ends : IsValid (with_thread n (at_end t) s)

pub record StaysValid (s : Parts) : Type 0 where
  -- any valid thread may stand in a thread's place
  pub replaced : (n : ℕ) (t : Thread) → IsThreadOf (length s.tasks) (length s.threads) s.unit n t
      → IsValid (with_thread n t s)
  pub changed : (n : ℕ) (t : Thread) → slice_get s.threads n ≡ Some t → KeepsThread s n t
  -- one more thread, of a maker that is there
  pub thread_added : (t : Thread) → length s.threads < MAX_THREADS → t.parent < length s.threads
      → AreThere (length s.tasks) (length s.threads) t.status → IsCountedThread t → IsThread s.unit t
      → IsValid (with_threads (s.threads ++ t ∷ []) s)
  -- any tasks of a table of makers that are there, no fewer than before
  pub tasks_changed : (ts : List Task) → AreTasks ts → All (IsMade (length s.threads)) ts → length s.tasks ≤ length ts
      → IsValid (with_tasks ts s)
  pub task_added : (new : TaskNew) → length s.tasks < MAX_TASKS → IsLegal new → new.maker < length s.threads
      → IsValid (with_tasks (added s.tasks new) s)
  pub task_started : (n : ℕ) → passes (λ t. waits t.state) s.tasks n ≡ true → IsValid (with_tasks (started n s.tasks) s)
  pub task_ended : (n code : ℕ) → 1 ≤ n → passes (λ t. runs t.state) s.tasks n ≡ true
      → IsValid (with_tasks (ended n code s.tasks) s)
  pub tasks_revived : IsValid (with_tasks (map revived_task s.tasks) s)
  pub rule_declared : (r : Rule) → length s.rules < MAX_RULES → made_already s.rules r.outs ≡ None → rules.IsLegal r
      → IsValid (with_rules (s.rules ++ r ∷ []) s)
