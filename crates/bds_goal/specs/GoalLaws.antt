-- What a run computes for a goal is what the goal reaches, as a set, and whether a cycle of rules is in it.
use Rattle.std.specs.Prelude.{◌≡◌, ℕ, List, true, false, Some, None, Ok, Err}
use Rattle.bds_value.specs.declared.value.Stamp.{Stamp}
use Rattle.bds_rules.specs.declared.rule.Rule.{Rule}
use Rattle.bds_tasks.specs.declared.task.Task.{Task}
use Rattle.bds_goal.specs.Goals.{Reaches, IsCycleOf, PlansBy}
use Rattle.bds_goal.specs.Plan.{plan, unmade}
use Rattle.bds_goal.specs.declared.faults.PlanFault.TheVariants.{NoRule}
use Rattle.bds_goal.specs.Reach.{reach, has_cycle}

abbrev pub ReachIsComputed : Type 0
ReachIsComputed =
    (rules : List Rule) (targets : List (List ℕ))
    → (has_cycle rules targets ≡ false → Reaches rules targets (Ok (reach rules targets)))
    × (has_cycle rules targets ≡ true → (chain : List ℕ) × IsCycleOf rules targets chain)

-- where there is no cycle, the plan; or the first file that can't be made
abbrev pub PlanIsComputed : Type 0
PlanIsComputed =
    (rules : List Rule) (targets : List (List ℕ)) (stamps : List Stamp) (tasks : List Task) → has_cycle rules targets ≡ false
    → (unmade rules targets stamps tasks ≡ None → PlansBy rules targets stamps tasks (Ok (plan rules targets stamps tasks)))
    × ((file : List ℕ) → unmade rules targets stamps tasks ≡ Some file → PlansBy rules targets stamps tasks (Err (NoRule file)))
