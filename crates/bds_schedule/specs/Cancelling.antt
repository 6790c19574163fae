-- Which tasks a bad end cancels: those that wait and are reached from it through needs.
use Rattle.std.specs.Prelude.{◌≡◌, ℕ, true, false, List, [], ◌∷◌, Some, ⊤}
use Rattle.std.specs.List.{AllByRecursion}
use Rattle.bds_tasks.specs.declared.task.Task.{Task}
use Rattle.bds_tasks.specs.declared.task.TaskState.TheVariants.{Cancelled}
use Rattle.bds_tasks.specs.Ends.{is_by, cancelled_behind}
use Rattle.bds_tasks.specs.Tasks.{in_state, task_at, waits}
use Rattle.bds_goal.specs.Chains.{In}
use Rattle.bds_schedule.specs.Earlier.{NeedEarlier}

-- the tasks, and the one that ended
module _ (tasks : List Task) (n : ℕ) where
  -- that one, and each task that waits and needs one of these
  pub data IsLost : ℕ → Type 0 where
    itself : IsLost n
    needing : (m k : ℕ) (t : Task) → task_at tasks m ≡ Some t → waits t.state ≡ true → In t.needs k → IsLost k → IsLost m

  -- it waits, and needs one that is lost
  pub record IsHit (t : Task) : Type 0 where
    pub waiting : waits t.state ≡ true
    pub number : ℕ
    pub needed : In t.needs number
    pub lost : IsLost number

  -- a task that is hit becomes cancelled, and each other stays as it is
  abbrev pub IsJudged : Task → Task → Type 0
  IsJudged t u = (IsHit t → u ≡ in_state (Cancelled n) t) × ((IsHit t → ⊥) → u ≡ t)

  abbrev pub AreJudged : List Task → List Task → Type 0
  AreJudged [] [] = ⊤
  AreJudged (t ∷ ts) (u ∷ us) = IsJudged t u × AreJudged ts us
  AreJudged _ _ = ⊥

-- no task is cancelled yet by an end of task n
abbrev pub HasCancelledNone : ℕ → List Task → Type 0
HasCancelledNone n tasks = AllByRecursion (λ t. is_by n t.state ≡ false) tasks

-- one pass through the tasks finds them all
abbrev pub CancelsLost : Type 0
CancelsLost = (n : ℕ) (tasks : List Task) → NeedEarlier tasks → HasCancelledNone n tasks → AreJudged tasks n tasks (cancelled_behind n [] tasks)
