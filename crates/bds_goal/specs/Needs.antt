-- Iterations that compute what the relations of Goals say: which rules need which.
use Rattle.std.specs.Prelude.{ℕ, zero, suc, ◌+◌, ◌-◌, Bool, false, ◌||◌, ◌&&◌, List, [], ◌∷◌, length, slice_get, nat_eq, filter, unwrap_or}
use Rattle.std.specs.List.{list_any}
use Rattle.bds_rules.specs.declared.rule.Rule.{Rule}
use Rattle.bds_rules.specs.Makers.{is_among}
use Rattle.bds_goal.specs.Chains.{is_in}

-- two lists have a file in common
abbrev pub meet : List (List ℕ) → List (List ℕ) → Bool
meet files others = list_any (is_among others) files

abbrev pub no_rule : Rule
no_rule = record { outs = []; ins = []; cpus = 1; can_fail = false; retry = 0; name = []; command = [] }

-- the rule of a number from 1
abbrev pub rule_at : List Rule → ℕ → Rule
rule_at rules n = unwrap_or (slice_get rules (n - 1)) no_rule

-- an input of the first rule is an output of the second
abbrev pub needs : List Rule → ℕ → ℕ → Bool
needs rules r s = meet (rule_at rules r).ins (rule_at rules s).outs

abbrev pub numbers_from : ℕ → List Rule → List ℕ
numbers_from n [] = []
numbers_from n (r ∷ rules) = n ∷ numbers_from (n + 1) rules

-- the numbers of all rules, in rising order
abbrev pub numbers : List Rule → List ℕ
numbers rules = numbers_from 1 rules

-- a change, so many times
abbrev pub repeated : {X : Type 0} → (X → X) → ℕ → X → X
repeated change zero x = x
repeated change (suc n) x = change (repeated change n x)

-- these rules, and those of a list that need one of them
abbrev pub with_needing : List Rule → List ℕ → List ℕ → List ℕ
with_needing rules all some = filter (λ r. list_any (λ s. nat_eq r s || needs rules r s) some) all

-- these rules, and those of a list from which a chain of rules of it, each needing the next, leads to one of them
abbrev pub leading_to : List Rule → List ℕ → List ℕ → List ℕ
leading_to rules all some = repeated (with_needing rules all) (length all) some

-- a chain of rules of a list leads from a rule to itself
abbrev pub is_on_cycle : List Rule → List ℕ → ℕ → Bool
is_on_cycle rules all r = list_any (λ s. needs rules r s && is_in (leading_to rules all (r ∷ [])) s) all
