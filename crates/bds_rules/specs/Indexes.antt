-- For calls of other crates and private contracts: an index in which the rule that makes a file is found without a search.
use Rattle.std.specs.Prelude.{◌≡◌, ◌&&◌, ℕ, Bool, true, not, nat_le, is_some, List, [], ◌∷◌, Option, Some, None, Vec, if◌then◌else◌}
use Rattle.std.specs.Global.{Global}
use Rattle.std.specs.Map.{lookup}
use Rattle.std.specs.Str.{bytes_eq}
use Rattle.bds_value.specs.declared.TheConstants.{MAX_CPUS, MAX_RETRY}
use Rattle.bds_rules.specs.declared.rule.Rule.{Rule}
use Rattle.bds_rules.specs.Makers.{is_among, maker}
use Rattle.bds_rules.specs.Own.{first_unfit}

-- the number of a file
abbrev pub number_in : List (Vec ℕ Global × ℕ) → List ℕ → Option ℕ
number_in es x = lookup (λ k. bytes_eq x k.items) es

-- the number n, for one file
abbrev pub number_of_one : List ℕ → List ℕ → ℕ → Option ℕ
number_of_one x file n = if bytes_eq x file then Some n else None

-- the number n, for each of these files
abbrev pub number_if : List (List ℕ) → ℕ → List ℕ → Option ℕ
number_if files n x = if is_among files x then Some n else None

-- each file has the number of the least rule that makes it
abbrev pub AreMakers : List Rule → List (Vec ℕ Global × ℕ) → Type 0
AreMakers rules es = (x : List ℕ) → number_in es x ≡ maker rules x

-- none of these files has a number
abbrev pub are_new : List (Vec ℕ Global × ℕ) → List (List ℕ) → Bool
are_new es [] = true
are_new es (f ∷ files) = not (is_some (number_in es f)) && are_new es files

-- a rule may stand behind those that an index knows
abbrev pub is_fit_in : List (Vec ℕ Global × ℕ) → Rule → Bool
is_fit_in es r = nat_le 1 r.cpus && (nat_le r.cpus MAX_CPUS && (nat_le r.retry MAX_RETRY && are_new es r.outs))

-- the first unfit rule; where there is none, the index has the files of all
pub record IsJudged (rules : List Rule) (es : List (Vec ℕ Global × ℕ)) (n : Option ℕ) : Type 0 where
  pub first : n ≡ first_unfit rules
  pub makers : n ≡ None → AreMakers rules es
