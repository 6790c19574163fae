-- What of a state isn't valid: the first thread, frame, task or rule.
use Rattle.std.specs.Prelude.{◌≡◌, ℕ, ◌-◌, ◌<◌, ◌≤◌, List, length, slice_get, take, Option, Some, None, ⊤}
use Rattle.std.specs.List.{All}
use Rattle.bds_code.specs.declared.unit.Unit.{Unit as CodeUnit}
use Rattle.bds_code_frames.specs.declared.thread.Thread.{Thread}
use Rattle.bds_rules.specs.declared.rule.Rule.{Rule}
use Rattle.bds_rules.specs.Makers.{made_already, rule_at}
use Rattle.bds_rules.specs.Own as rules
use Rattle.bds_state.specs.declared.judge.StateFault.{StateFault}
use Rattle.bds_state.specs.declared.judge.StateFault.TheVariants.{BadThread, BadFrame, BadTask, BadRule, NoMemory}
use Rattle.bds_state.specs.Parts.{Parts}
use Rattle.bds_state.specs.Valid.{AreThere, AreThreads, HasParent, IsMade, IsThreadOf}
use Rattle.bds_state_threads.specs.Judged.{IsFirstBad, IsOwn}
use Rattle.bds_tasks.specs.declared.task.Task.{Task}
use Rattle.bds_tasks.specs.Sound.{AreTasks, EndedBadly, IsSound}
use Rattle.bds_tasks.specs.Tasks.{task_at}

module _ (u : CodeUnit) (tasks threads : ℕ) where
  -- what thread n is besides each of its frames
  pub record IsOwnOf (n : ℕ) (t : Thread) : Type 0 where
    pub parent : HasParent n t.parent
    pub ids : AreThere tasks threads t.status
    pub own : IsOwn u t

  -- it isn't that; or there is no main thread
  abbrev pub IsBadOwn : ℕ → Option Thread → Type 0
  IsBadOwn n None = n ≡ 0
  IsBadOwn n (Some t) = IsOwnOf n t → ⊥

-- the threads below n are valid
abbrev pub AreThreadsBelow : CodeUnit → ℕ → List Thread → ℕ → Type 0
AreThreadsBelow u tasks ts n =
    (k : ℕ) (t : Thread) → k < n → slice_get ts k ≡ Some t → IsThreadOf tasks (length ts) u k t

pub record IsBadThread (u : CodeUnit) (tasks : ℕ) (ts : List Thread) (n : ℕ) : Type 0 where
  pub before : AreThreadsBelow u tasks ts n
  pub bad : IsBadOwn u tasks (length ts) n (slice_get ts n)

pub record IsBadFrame (u : CodeUnit) (tasks : ℕ) (ts : List Thread) (n i : ℕ) : Type 0 where
  pub before : AreThreadsBelow u tasks ts n
  pub thread : Thread
  pub there : slice_get ts n ≡ Some thread
  pub own : IsOwnOf u tasks (length ts) n thread
  pub frame : IsFirstBad u thread.frames i

-- task n, from 1, of these, where there are so many threads
pub record IsTaskOf (threads : ℕ) (ts : List Task) (n : ℕ) (t : Task) : Type 0 where
  pub made : IsMade threads t
  pub sound : IsSound (EndedBadly ts) (n - 1) t

pub record IsBadTask (threads : ℕ) (ts : List Task) (n : ℕ) : Type 0 where
  pub number : 1 ≤ n
  pub task : Task
  pub there : task_at ts n ≡ Some task
  pub bad : IsTaskOf threads ts n task → ⊥
  pub before : (k : ℕ) (t : Task) → 1 ≤ k → k < n → task_at ts k ≡ Some t → IsTaskOf threads ts k t

-- rule n, from 1, of these
pub record IsRuleOf (rs : List Rule) (n : ℕ) (r : Rule) : Type 0 where
  pub legal : rules.IsLegal r
  pub own : made_already (take (n - 1) rs) r.outs ≡ None

pub record IsBadRule (rs : List Rule) (n : ℕ) : Type 0 where
  pub number : 1 ≤ n
  pub rule : Rule
  pub there : rule_at rs n ≡ Some rule
  pub bad : IsRuleOf rs n rule → ⊥
  pub before : (k : ℕ) (r : Rule) → 1 ≤ k → k < n → rule_at rs k ≡ Some r → IsRuleOf rs k r

-- the first thing of a state with a verified unit that isn't valid: threads with their frames come before tasks, and
-- these before rules
abbrev pub IsStateFault : Parts → StateFault → Type 0
IsStateFault s (BadThread n) = IsBadThread s.unit (length s.tasks) s.threads n
IsStateFault s (BadFrame n i) = IsBadFrame s.unit (length s.tasks) s.threads n i
IsStateFault s (BadTask n) = AreThreads s.unit (length s.tasks) s.threads × IsBadTask (length s.threads) s.tasks n
IsStateFault s (BadRule n) = AreThreads s.unit (length s.tasks) s.threads × AreTasks s.tasks
    × All (IsMade (length s.threads)) s.tasks × IsBadRule s.rules n
IsStateFault s NoMemory = ⊤
