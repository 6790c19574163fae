-- For private contracts alone: what the judges of threads, tasks and rules tell.
use Rattle.std.specs.Prelude.{◌≡◌, ℕ, ◌<◌, ◌≤◌, List, Option, Some, None, Result, Ok, Err, min, ⊤}
use Rattle.std.specs.List.{All}
use Rattle.bds_code.specs.declared.unit.Unit.{Unit as CodeUnit}
use Rattle.bds_code_frames.specs.declared.thread.Thread.{Thread}
use Rattle.bds_rules.specs.declared.rule.Rule.{Rule}
use Rattle.bds_state.specs.declared.judge.StateFault.{StateFault}
use Rattle.bds_state.specs.declared.judge.StateFault.TheVariants.{BadThread, BadFrame, BadTask, BadRule, NoMemory}
use Rattle.bds_state.specs.Judged.{IsBadFrame, IsBadRule, IsBadTask, IsBadThread, IsOwnOf}
use Rattle.bds_state.specs.Valid.{AreThreads, IsMade, IsThreadOf}
use Rattle.bds_state_threads.specs.Judged.{IsFirstBad}
use Rattle.bds_tasks.specs.declared.task.Task.{Task}
use Rattle.bds_tasks.specs.Sound.{AreTasks}
use Rattle.bds_tasks.specs.Tasks.{task_at}

-- of thread n, where there are so many tasks and threads
abbrev pub JudgesThreadOf : CodeUnit → ℕ → ℕ → ℕ → Thread → Result (Unit {0}) StateFault → Type 0
JudgesThreadOf u tasks threads n t (Ok x) = IsThreadOf tasks threads u n t
JudgesThreadOf u tasks threads n t (Err (BadThread k)) = (k ≡ n) × (IsOwnOf u tasks threads n t → ⊥)
JudgesThreadOf u tasks threads n t (Err (BadFrame k i)) =
    (k ≡ n) × IsOwnOf u tasks threads n t × IsFirstBad u t.frames i
JudgesThreadOf u tasks threads n t (Err (BadTask k)) = ⊥
JudgesThreadOf u tasks threads n t (Err (BadRule k)) = ⊥
JudgesThreadOf u tasks threads n t (Err NoMemory) = ⊤

-- of threads, where there are so many tasks
abbrev pub JudgesThreadsOf : CodeUnit → ℕ → List Thread → Result (Unit {0}) StateFault → Type 0
JudgesThreadsOf u tasks ts (Ok x) = AreThreads u tasks ts
JudgesThreadsOf u tasks ts (Err (BadThread n)) = IsBadThread u tasks ts n
JudgesThreadsOf u tasks ts (Err (BadFrame n i)) = IsBadFrame u tasks ts n i
JudgesThreadsOf u tasks ts (Err (BadTask k)) = ⊥
JudgesThreadsOf u tasks ts (Err (BadRule k)) = ⊥
JudgesThreadsOf u tasks ts (Err NoMemory) = ⊤

pub record IsUnmade (threads : ℕ) (ts : List Task) (n : ℕ) : Type 0 where
  pub number : 1 ≤ n
  pub task : Task
  pub there : task_at ts n ≡ Some task
  pub bad : IsMade threads task → ⊥
  pub before : (k : ℕ) (t : Task) → 1 ≤ k → k < n → task_at ts k ≡ Some t → IsMade threads t

-- the first task that none of so many threads made
abbrev pub IsFirstUnmade : ℕ → List Task → Option ℕ → Type 0
IsFirstUnmade threads ts None = All (IsMade threads) ts
IsFirstUnmade threads ts (Some n) = IsUnmade threads ts n

abbrev pub earlier : ℕ → Option ℕ → ℕ
earlier n None = n
earlier n (Some m) = min n m

-- of tasks, where there are so many threads
abbrev pub IsTaskFault : ℕ → List Task → StateFault → Type 0
IsTaskFault threads ts (BadTask n) = IsBadTask threads ts n
IsTaskFault threads ts _ = ⊥

-- of rules, where the tasks are valid, or of tasks; or there was no memory
abbrev pub IsTableFault : ℕ → List Task → List Rule → StateFault → Type 0
IsTableFault threads ts rs (BadTask n) = IsBadTask threads ts n
IsTableFault threads ts rs (BadRule n) = AreTasks ts × All (IsMade threads) ts × IsBadRule rs n
IsTableFault threads ts rs NoMemory = ⊤
IsTableFault threads ts rs _ = ⊥

-- of rules, or there was no memory
abbrev pub IsRuleFault : List Rule → StateFault → Type 0
IsRuleFault rs (BadRule n) = IsBadRule rs n
IsRuleFault rs NoMemory = ⊤
IsRuleFault rs _ = ⊥
