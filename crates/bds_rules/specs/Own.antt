-- Which lists of rules a table holds.
use Rattle.std.specs.Prelude.{◌≡◌, ℕ, Bool, not, ◌&&◌, nat_le, is_some, Option, if◌then◌else◌, ◌+◌, ◌<◌, ◌≤◌, List, [], ◌∷◌, ◌++◌, length, Result, Ok, Err, Some, None, ⊤}
use Rattle.std.specs.List.{AllByRecursion}
use Rattle.bds_value.specs.declared.TheConstants.{MAX_CPUS, MAX_RETRY, MAX_RULES, MAX_TEXT}
use Rattle.bds_value.specs.Fields.{AreFieldTexts}
use Rattle.bds_rules.specs.declared.rule.Rule.{Rule}
use Rattle.bds_rules.specs.declared.rule.RuleFault.{RuleFault}
use Rattle.bds_rules.specs.declared.rule.RuleFault.TheVariants.{TwoRules, TooMany, NoMemory}
use Rattle.bds_rules.specs.declared.rule.RulesFault.{RulesFault}
use Rattle.bds_rules.specs.declared.rule.RulesFault.TheVariants.{Unfit, NoMemory as OutOfMemory}
use Rattle.bds_rules.specs.Makers.{made_already}
use Rattle.bds_rules.specs.RuleFields.{AreFieldRules}

-- what a rule may be made of
pub record IsLegal (r : Rule) : Type 0 where
  pub outs : AreFieldTexts r.outs
  pub ins : AreFieldTexts r.ins
  pub some_cpus : 1 ≤ r.cpus
  pub cpus : r.cpus ≤ MAX_CPUS
  pub retry : r.retry ≤ MAX_RETRY
  pub name : length r.name ≤ MAX_TEXT
  pub command : length r.command ≤ MAX_TEXT

-- behind some rules, none makes a file that one before it makes
abbrev pub AreOwn : List Rule → List Rule → Type 0
AreOwn before [] = ⊤
AreOwn before (r ∷ rules) = (made_already before r.outs ≡ None) × AreOwn (before ++ r ∷ []) rules

-- the rules of a table
pub record AreRules (rules : List Rule) : Type 0 where
  pub count : length rules ≤ MAX_RULES
  pub legal : AllByRecursion IsLegal rules
  pub own : AreOwn [] rules

-- rule n is the first of a list that may not stand where it does: those before it are the rules of a table, and it isn't legal, or makes a file that one of them makes
pub record IsFirstUnfit (rules : List Rule) (n : ℕ) : Type 0 where
  pub before : List Rule
  pub rule : Rule
  pub behind : List Rule
  pub split : rules ≡ before ++ rule ∷ behind
  pub number : n ≡ length before + 1
  pub fit : AreRules before
  pub unfit : IsLegal rule → made_already before rule.outs ≡ None → ⊥

-- it tells of a rule that makes a file already, unless there was no memory
abbrev pub NamesMaker : List ℕ → ℕ → RuleFault → Type 0
NamesMaker file n (TwoRules f m) = (f ≡ file) × (m ≡ n)
NamesMaker file n (TooMany m) = ⊥
NamesMaker file n NoMemory = ⊤

-- a rule was declared; or another makes a file of it, or there are as many as there may be, or no memory, and all is as before
abbrev pub Declares : Rule → List Rule → List Rule → Result ℕ RuleFault → Type 0
Declares rule old new (Ok n) = (made_already old rule.outs ≡ None) × (length old < MAX_RULES) × (new ≡ old ++ rule ∷ []) × (n ≡ length old + 1)
Declares rule old new (Err (TwoRules file n)) = (made_already old rule.outs ≡ Some (file, n)) × (new ≡ old)
Declares rule old new (Err (TooMany n)) = (made_already old rule.outs ≡ None) × (length old ≡ MAX_RULES) × (n ≡ length old) × (new ≡ old)
Declares rule old new (Err NoMemory) = (made_already old rule.outs ≡ None → length old < MAX_RULES) × (new ≡ old)

-- a rule may stand behind these
abbrev pub is_fit : List Rule → Rule → Bool
is_fit before r = nat_le 1 r.cpus && (nat_le r.cpus MAX_CPUS && (nat_le r.retry MAX_RETRY && not (is_some (made_already before r.outs))))

abbrev pub unfit_behind : List Rule → List Rule → Option ℕ
unfit_behind before [] = None
unfit_behind before (r ∷ rules) = if is_fit before r then unfit_behind (before ++ r ∷ []) rules else Some (length before + 1)

-- the first rule that may not stand behind those before it
abbrev pub first_unfit : List Rule → Option ℕ
first_unfit rules = unfit_behind [] rules

-- rules are no table: one is unfit, or there was no memory
abbrev pub IsRulesFault : List Rule → RulesFault → Type 0
IsRulesFault rules (Unfit n) = first_unfit rules ≡ Some n
IsRulesFault rules OutOfMemory = ⊤

-- of the rules of a file none is unfit only where they are those of a table; else it is the first that is
pub record TellsUnfit (rules : List Rule) : Type 0 where
  pub none : first_unfit rules ≡ None → AreRules rules
  pub first : (n : ℕ) → first_unfit rules ≡ Some n → IsFirstUnfit rules n

abbrev pub UnfitAreTold : Type 0
UnfitAreTold = (rules : List Rule) → AreFieldRules rules → TellsUnfit rules
