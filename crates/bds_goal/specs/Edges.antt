-- For private contracts alone: which rules a rule needs, by the files that they make. The place 0 is empty, since rules count from 1.
use Rattle.std.specs.Prelude.{◌≡◌, ℕ, ◌+◌, ◌↔◌, Bool, true, List, [], ◌∷◌, ◌++◌, length, Option, Some, None}
use Rattle.bds_rules.specs.declared.rule.Rule.{Rule}
use Rattle.bds_rules.specs.Makers.{maker}
use Rattle.bds_goal.specs.Goals.{Needs, ReachedRule}
use Rattle.bds_goal.specs.Marks.{Edge, Marked}
use Rattle.std.specs.List.{slice_set}

abbrev pub number_of : Option ℕ → List ℕ
number_of (Some n) = n ∷ []
number_of None = []

-- the rules that make these files
abbrev pub makers_of : List Rule → List (List ℕ) → List ℕ
makers_of rules [] = []
makers_of rules (f ∷ files) = number_of (maker rules f) ++ makers_of rules files

abbrev pub edges_from : List Rule → List Rule → List (List ℕ)
edges_from rules [] = []
edges_from rules (r ∷ rs) = makers_of rules r.ins ∷ edges_from rules rs

-- for each rule those that make its inputs
abbrev pub edges : List Rule → List (List ℕ)
edges rules = [] ∷ edges_from rules rules

-- each rule leads to those that it needs
pub record AreEdges (rules : List Rule) (es : List (List ℕ)) : Type 0 where
  pub long : length es ≡ length rules + 1
  pub same : (r s : ℕ) → Edge es r s ↔ Needs rules r s

abbrev pub with_maker : Option ℕ → List Bool → List Bool
with_maker (Some n) marks = slice_set marks n true
with_maker None marks = marks

-- the rules that make these files are marked, too
abbrev pub with_makers : List Rule → List (List ℕ) → List Bool → List Bool
with_makers rules [] marks = marks
with_makers rules (f ∷ files) marks = with_makers rules files (with_maker (maker rules f) marks)

-- the rules that a goal reaches are marked
pub record AreWanted (rules : List Rule) (targets : List (List ℕ)) (marks : List Bool) : Type 0 where
  pub long : length marks ≡ length rules + 1
  pub each : (n : ℕ) → Marked marks n ↔ ReachedRule rules targets n
