-- Iterations that compute what the relations of Goals say: the files and rules that a goal reaches.
use Rattle.std.specs.Prelude.{ℕ, Bool, ◌||◌, List, [], ◌∷◌, ◌++◌, length, filter, fold, flat_map, if◌then◌else◌}
use Rattle.std.specs.List.{list_any}
use Rattle.std.specs.Str.{bytes_eq}
use Rattle.bds_value.specs.Order.{is_before}
use Rattle.bds_rules.specs.declared.rule.Rule.{Rule}
use Rattle.bds_goal.specs.Chains.{is_in}
use Rattle.bds_goal.specs.Needs.{meet, rule_at, numbers, repeated, is_on_cycle}

-- the files of a rule
abbrev pub files_of : Rule → List (List ℕ)
files_of r = r.ins ++ r.outs

-- these rules, and those that make a file of one of them
abbrev pub with_makers : List Rule → List ℕ → List ℕ
with_makers rules some = filter (λ r. is_in some r || list_any (λ s. meet (rule_at rules r).outs (files_of (rule_at rules s))) some) (numbers rules)

-- the rules that make a target, and so on
abbrev pub rules_reached : List Rule → List (List ℕ) → List ℕ
rules_reached rules targets = repeated (with_makers rules) (length rules) (filter (λ r. meet (rule_at rules r).outs targets) (numbers rules))

-- files in rising order with one more, each once
abbrev pub with_file : List (List ℕ) → List ℕ → List (List ℕ)
with_file [] f = f ∷ []
with_file (g ∷ gs) f = if bytes_eq g f then g ∷ gs else (if is_before f g then f ∷ g ∷ gs else g ∷ with_file gs f)

abbrev pub rising : List (List ℕ) → List (List ℕ)
rising files = fold with_file [] files

-- the targets, and all inputs and outputs of each rule that makes one of these files
abbrev pub reach : List Rule → List (List ℕ) → List (List ℕ)
reach rules targets = rising (targets ++ flat_map (λ r. files_of (rule_at rules r)) (rules_reached rules targets))

-- a chain of rules that are reached leads from a rule to itself
abbrev pub has_cycle : List Rule → List (List ℕ) → Bool
has_cycle rules targets = list_any (is_on_cycle rules (rules_reached rules targets)) (rules_reached rules targets)
