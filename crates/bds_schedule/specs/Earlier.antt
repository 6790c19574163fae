-- Which tasks a task needs: earlier ones alone.
use Rattle.std.specs.Prelude.{ℕ, ◌+◌, ◌≤◌, List, ◌∷◌, map, ⊤, []}
use Rattle.std.specs.List.{AllByRecursion}
use Rattle.bds_tasks.specs.declared.task.Task.{Task}

abbrev pub needs_of : List Task → List (List ℕ)
needs_of tasks = map (λ (t : Task). t.needs) tasks

-- behind i tasks, each needs some of those before it
abbrev pub AreEarlier : ℕ → List (List ℕ) → Type 0
AreEarlier i [] = ⊤
AreEarlier i (needs ∷ others) = AllByRecursion (λ n. (1 ≤ n) × (n ≤ i)) needs × AreEarlier (i + 1) others

abbrev pub NeedEarlier : List Task → Type 0
NeedEarlier tasks = AreEarlier 0 (needs_of tasks)
