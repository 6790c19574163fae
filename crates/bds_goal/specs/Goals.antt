-- What a goal reaches and plans, as sets and lists of rules. Rules are numbered from 1.
use Rattle.std.specs.Prelude.{◌≡◌, ℕ, zero, suc, ◌+◌, Option, Some, None, true, false, List, [], ◌∷◌, ◌++◌, slice_get, unwrap_or, option_map, Result, Ok, Err, ◌↔◌, map, pos, if◌then◌else◌, ⊤}
use Rattle.std.specs.List.{list_any}
use Rattle.std.specs.Str.{bytes_eq}
use Rattle.bds_value.specs.Order.{is_before}
use Rattle.bds_value.specs.declared.value.Stamp.{Stamp}
use Rattle.bds_rules.specs.declared.rule.Rule.{Rule}
use Rattle.bds_rules.specs.Makers.{is_among}
use Rattle.bds_rules.specs.OutOfDate.{out_of_date}
use Rattle.bds_tasks.specs.declared.task.Task.{Task}
use Rattle.bds_tasks.specs.Tasks.{pending_makes}
use Rattle.bds_goal.specs.Chains.{In, IsCycle, IsOrder, Leads}
use Rattle.bds_goal.specs.declared.faults.FilesFault.{FilesFault}
use Rattle.bds_goal.specs.declared.faults.FilesFault.TheVariants as files_fault
use Rattle.bds_goal.specs.declared.faults.PlanFault.{PlanFault}
use Rattle.bds_goal.specs.declared.faults.PlanFault.TheVariants as plan_fault

-- the files of the rule of a number, where it is there
abbrev pub files_at : (Rule → List (List ℕ)) → List Rule → ℕ → List (List ℕ)
files_at which rules zero = []
files_at which rules (suc i) = unwrap_or (option_map which (slice_get rules i)) []

abbrev pub outputs : List Rule → ℕ → List (List ℕ)
outputs rules n = files_at (λ r. r.outs) rules n

abbrev pub inputs : List Rule → ℕ → List (List ℕ)
inputs rules n = files_at (λ r. r.ins) rules n

abbrev pub Makes : List Rule → ℕ → List ℕ → Type 0
Makes rules n file = is_among (outputs rules n) file ≡ true

abbrev pub Takes : List Rule → ℕ → List ℕ → Type 0
Takes rules n file = is_among (inputs rules n) file ≡ true

-- the file is an input or an output of the rule
abbrev pub NamesFile : List Rule → ℕ → List ℕ → Type 0
NamesFile rules n file = is_among (inputs rules n ++ outputs rules n) file ≡ true

-- an input of the first is an output of the second
pub record Needs (rules : List Rule) (r s : ℕ) : Type 0 where
  pub file : List ℕ
  pub takes : Takes rules r file
  pub makes : Makes rules s file

-- the least set of files that holds the targets and, with a file that a rule makes, all files of that rule
pub data Reached (rules : List Rule) (targets : List (List ℕ)) : List ℕ → Type 0 where
  target : (file : List ℕ) → is_among targets file ≡ true → Reached rules targets file
  with : (n : ℕ) (made file : List ℕ) → Reached rules targets made → Makes rules n made → NamesFile rules n file → Reached rules targets file

-- the rule makes a file that is reached
pub record ReachedRule (rules : List Rule) (targets : List (List ℕ)) (n : ℕ) : Type 0 where
  pub file : List ℕ
  pub makes : Makes rules n file
  pub reached : Reached rules targets file

-- each comes before the next, so that each stands once
abbrev pub Rises : List (List ℕ) → Type 0
Rises [] = ⊤
Rises (f ∷ []) = ⊤
Rises (f ∷ g ∷ fs) = (is_before f g ≡ true) × Rises (g ∷ fs)

-- these are the files that are reached, each once, in rising order
pub record IsReach (rules : List Rule) (targets files : List (List ℕ)) : Type 0 where
  pub rises : Rises files
  pub set : (file : List ℕ) → (is_among files file ≡ true) ↔ Reached rules targets file

-- a chain of rules that are reached, of which each needs the next and the last the first
pub record IsCycleOf (rules : List Rule) (targets : List (List ℕ)) (chain : List ℕ) : Type 0 where
  pub cycle : IsCycle (Needs rules) chain
  pub reached : (n : ℕ) → In chain n → ReachedRule rules targets n

-- no chain of rules that are reached leads back to its first
abbrev pub HasNoCycle : List Rule → List (List ℕ) → Type 0
HasNoCycle rules targets = (chain : List ℕ) → IsCycleOf rules targets chain → ⊥

-- the files that a goal reaches, or a cycle
abbrev pub Reaches : List Rule → List (List ℕ) → Result (List (List ℕ)) FilesFault → Type 0
Reaches rules targets (Ok files) = IsReach rules targets files × HasNoCycle rules targets
Reaches rules targets (Err (files_fault.Cycle chain)) = IsCycleOf rules targets chain
Reaches rules targets (Err files_fault.NoMemory) = ⊤

abbrev pub nothing_there : Stamp
nothing_there = record { there = false; size = 0; time = pos 0 }

-- the place of a file, where the first has this place
abbrev pub place_from : ℕ → List (List ℕ) → List ℕ → Option ℕ
place_from i [] file = None
place_from i (f ∷ files) file = if bytes_eq f file then Some i else place_from (i + 1) files file

abbrev pub stamp_at : List Stamp → Option ℕ → Stamp
stamp_at stamps None = nothing_there
stamp_at stamps (Some i) = unwrap_or (slice_get stamps i) nothing_there

-- the stamp of a file among stamps that stand in the order of these files
abbrev pub stamp_in : List (List ℕ) → List Stamp → List ℕ → Stamp
stamp_in files stamps file = stamp_at stamps (place_from 0 files file)

-- the rules, the targets, what is known of each file, and the tasks
module _ (rules : List Rule) (targets : List (List ℕ)) (stamp : List ℕ → Stamp) (tasks : List Task) where
  -- its outputs are out of date against its inputs
  abbrev pub IsOld : ℕ → Type 0
  IsOld n = out_of_date (map stamp (outputs rules n)) (map stamp (inputs rules n)) (list_any (pending_makes tasks) (inputs rules n ++ outputs rules n)) ≡ true

  -- it is reached, and a list of rules, each needing the next, leads from it to an old one
  pub record IsDue (n : ℕ) : Type 0 where
    pub reached : ReachedRule rules targets n
    pub leads : Leads (Needs rules) IsOld n

  -- a pending task makes an output of it
  abbrev pub IsBusy : ℕ → Type 0
  IsBusy n = list_any (pending_makes tasks) (outputs rules n) ≡ true

  -- it is due and not busy
  pub record IsPlanned (n : ℕ) : Type 0 where
    pub due : IsDue n
    pub free : IsBusy n → ⊥

  -- those that are planned, each once: the next is always the least of which each needed rule that is planned has its place
  abbrev pub IsPlan : List ℕ → Type 0
  IsPlan ns = IsOrder (Needs rules) IsPlanned ns

  -- it is missing, and neither a rule nor a pending task makes it
  pub record IsUnmade (file : List ℕ) : Type 0 where
    pub reached : Reached rules targets file
    pub missing : (stamp file).there ≡ false
    pub no_rule : (n : ℕ) → Makes rules n file → ⊥
    pub no_task : pending_makes tasks file ≡ false

  -- it is the least such file
  pub record IsFirstUnmade (file : List ℕ) : Type 0 where
    pub unmade : IsUnmade file
    pub least : (other : List ℕ) → IsUnmade other → is_before other file ≡ false

  -- the plan, where each file that is reached can be made; or the first that can't
  abbrev pub Plans : Result (List ℕ) PlanFault → Type 0
  Plans (Ok ns) = IsPlan ns × ((file : List ℕ) → IsUnmade file → ⊥)
  Plans (Err (plan_fault.NoRule file)) = IsFirstUnmade file
  Plans (Err plan_fault.NoMemory) = ⊤

-- the same with stamps in the order of the files that are reached
abbrev pub PlansBy : List Rule → List (List ℕ) → List Stamp → List Task → Result (List ℕ) PlanFault → Type 0
PlansBy rules targets stamps tasks result = (files : List (List ℕ)) → IsReach rules targets files → Plans rules targets (stamp_in files stamps) tasks result
