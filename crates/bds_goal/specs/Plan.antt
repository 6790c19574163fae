-- Iterations that compute what the relations of Goals say: which rules become tasks, and in which order.
use Rattle.std.specs.Prelude.{ℕ, zero, suc, Bool, not, ◌&&◌, ◌||◌, List, [], ◌∷◌, length, Option, Some, None, filter, map, find, nat_eq}
use Rattle.std.specs.List.{list_any}
use Rattle.bds_value.specs.declared.value.Stamp.{Stamp}
use Rattle.bds_rules.specs.declared.rule.Rule.{Rule}
use Rattle.bds_rules.specs.Makers.{is_among}
use Rattle.bds_rules.specs.OutOfDate.{out_of_date}
use Rattle.bds_tasks.specs.declared.task.Task.{Task}
use Rattle.bds_tasks.specs.Tasks.{pending_makes}
use Rattle.bds_goal.specs.Goals.{stamp_in}
use Rattle.bds_goal.specs.Needs.{rule_at, needs, leading_to}
use Rattle.bds_goal.specs.Reach.{files_of, rules_reached, reach}

-- the rules, the targets, the stamps of the files that are reached, and the tasks
module _ (rules : List Rule) (targets : List (List ℕ)) (stamps : List Stamp) (tasks : List Task) where
  abbrev pub stamp_of : List ℕ → Stamp
  stamp_of file = stamp_in (reach rules targets) stamps file

  abbrev pub stamps_of : List (List ℕ) → List Stamp
  stamps_of files = map stamp_of files

  abbrev pub any_pending : List (List ℕ) → Bool
  any_pending files = list_any (pending_makes tasks) files

  -- the outputs of a rule are out of date against its inputs
  abbrev pub is_old : ℕ → Bool
  is_old n =
      let r : Rule = rule_at rules n in
      out_of_date (stamps_of r.outs) (stamps_of r.ins) (any_pending (files_of r))

  -- the rules that are old, and those that need one of them, over any number of rules
  abbrev pub due : List ℕ
  due = leading_to rules (rules_reached rules targets) (filter is_old (rules_reached rules targets))

  -- a pending task makes an output of the rule
  abbrev pub is_busy : ℕ → Bool
  is_busy n = any_pending (rule_at rules n).outs

  -- a file is missing, and neither a rule nor a pending task makes it
  abbrev pub is_unmade : List ℕ → Bool
  is_unmade file =
      not (stamp_of file).there && not (list_any (λ n. is_among (rule_at rules n).outs file) (rules_reached rules targets) || pending_makes tasks file)

  -- the least such file
  abbrev pub unmade : Option (List ℕ)
  unmade = find is_unmade (reach rules targets)

  -- the rule needs none that is left
  abbrev pub is_free : List ℕ → ℕ → Bool
  is_free left n = not (list_any (needs rules n) left)

  abbrev pub without : ℕ → List ℕ → List ℕ
  without n left = filter (λ m. not (nat_eq m n)) left

  abbrev pub behind : Option ℕ → List ℕ → (List ℕ → List ℕ) → List ℕ
  behind None left rest = []
  behind (Some n) left rest = n ∷ rest (without n left)

  -- the least of those left whose needed rules are placed, and so on, so many times
  abbrev pub placed : ℕ → List ℕ → List ℕ
  placed zero left = []
  placed (suc k) left = behind (find (is_free left) left) left (placed k)

  -- those that are due and not busy, each behind those that it needs
  abbrev pub plan : List ℕ
  plan = placed (length rules) (filter (λ n. not (is_busy n)) due)
