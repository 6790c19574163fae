-- For private contracts alone: marks for the rules that are old, and for those that are planned; the files that nothing makes.
use Rattle.std.specs.Prelude.{ℕ, ◌+◌, Bool, false, not, ◌&&◌, ◌++◌, List, [], ◌∷◌, map, is_some, find, Option}
use Rattle.std.specs.List.{list_any}
use Rattle.bds_value.specs.declared.value.Stamp.{Stamp}
use Rattle.bds_rules.specs.declared.rule.Rule.{Rule}
use Rattle.bds_rules.specs.Makers.{maker}
use Rattle.bds_rules.specs.OutOfDate.{out_of_date}
use Rattle.bds_tasks.specs.declared.task.Task.{Task}
use Rattle.bds_tasks.specs.Tasks.{pending_makes}
use Rattle.bds_goal.specs.Marks.{is_marked}

module _ (stamp : List ℕ → Stamp) (tasks : List Task) where
  abbrev pub is_old : Rule → Bool
  is_old r = out_of_date (map stamp r.outs) (map stamp r.ins) (list_any (pending_makes tasks) (r.ins ++ r.outs))

  -- of the rules that are marked those that are old, where the first has this number
  abbrev pub old_from : List Bool → ℕ → List Rule → List Bool
  old_from marks n [] = []
  old_from marks n (r ∷ rs) = (is_marked marks n && is_old r) ∷ old_from marks (n + 1) rs

  abbrev pub old_marks : List Bool → List Rule → List Bool
  old_marks marks rules = false ∷ old_from marks 1 rules

  -- it is missing, and neither a rule nor a pending task makes it
  abbrev pub is_unmade : List Rule → List ℕ → Bool
  is_unmade rules file = not (stamp file).there && (not (is_some (maker rules file)) && not (pending_makes tasks file))

  abbrev pub first_unmade : List Rule → List (List ℕ) → Option (List ℕ)
  first_unmade rules files = find (is_unmade rules) files

module _ (tasks : List Task) where
  -- of the rules that are marked those that are due and not busy
  abbrev pub planned_from : List Bool → List Bool → ℕ → List Rule → List Bool
  planned_from marks due n [] = []
  planned_from marks due n (r ∷ rs) = (is_marked marks n && (is_marked due n && not (list_any (pending_makes tasks) r.outs))) ∷ planned_from marks due (n + 1) rs

  abbrev pub planned_marks : List Bool → List Bool → List Rule → List Bool
  planned_marks marks due rules = false ∷ planned_from marks due 1 rules
