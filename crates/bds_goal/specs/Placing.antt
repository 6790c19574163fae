-- For private contracts alone: how far numbers are placed, and how far a walk among those that are left is.
use Rattle.std.specs.Prelude.{◌≡◌, ℕ, ◌+◌, ◌<◌, ◌≤◌, Bool, true, false, ◌&&◌, not, nat_eq, List, [], ◌∷◌, length, Option, Some, None, Result, Ok, Err, ⊤}
use Rattle.bds_goal.specs.Chains.{is_in, In, AllLeadOn, Follow, IsOrder}
use Rattle.bds_goal.specs.Marks.{Edge, IsCycleIn, Marked, is_marked, may_go}
use Rattle.bds_goal.specs.declared.faults.FilesFault.{FilesFault}
use Rattle.bds_goal.specs.declared.faults.FilesFault.TheVariants.{Cycle, NoMemory}

-- these are the numbers below a start that may go
pub record AreFreed (edges : List (List ℕ)) (left : List Bool) (start : ℕ) (freed : List ℕ) : Type 0 where
  pub each : (n : ℕ) → n < start → is_in freed n ≡ may_go edges left n
  pub below : (n : ℕ) → In freed n → n < start

-- the least number that may go was taken out of those that were set free, if it was one of them; or none may go
abbrev pub Takes : List (List ℕ) → List Bool → List ℕ → List ℕ → Option ℕ → Type 0
Takes edges left old new None = (n : ℕ) → may_go edges left n ≡ false
Takes edges left old new (Some n) = (may_go edges left n ≡ true) × ((m : ℕ) → may_go edges left m ≡ true → n ≤ m) × ((m : ℕ) → is_in new m ≡ is_in old m && not (nat_eq m n))

-- these are placed, those are left, and those of them that may go below a start are at hand
pub record Placing (edges : List (List ℕ)) (todo left : List Bool) (placed : List ℕ) (start : ℕ) (freed : List ℕ) : Type 0 where
  pub long : length left ≡ length todo
  pub follow : Follow (Edge edges) (Marked todo) [] placed
  pub rest : (n : ℕ) → is_marked left n ≡ is_marked todo n && not (is_in placed n)
  pub free : AreFreed edges left start freed

-- the least number from a start on that may go
abbrev pub IsNext : List (List ℕ) → List Bool → ℕ → Option ℕ → Type 0
IsNext edges left start None = (n : ℕ) → start ≤ n → may_go edges left n ≡ false
IsNext edges left start (Some n) = (may_go edges left n ≡ true) × ((m : ℕ) → start ≤ m → m < n → may_go edges left m ≡ false)

-- these are placed, those are left, and none of them may go
pub record IsStuck (edges : List (List ℕ)) (todo left : List Bool) (placed : List ℕ) : Type 0 where
  pub start : ℕ
  pub freed : List ℕ
  pub placing : Placing edges todo left placed start freed
  pub none : (n : ℕ) → may_go edges left n ≡ false

-- a walk from one that is left to the next that it leads to, which is here now
pub record Walking (edges : List (List ℕ)) (left seen : List Bool) (path : List ℕ) (here : ℕ) : Type 0 where
  pub long : length seen ≡ length left
  pub there : Marked left here
  pub trail : AllLeadOn (Edge edges) path here
  pub among : (n : ℕ) → In path n → Marked left n
  pub passed : (n : ℕ) → Marked seen n → In path n

-- the numbers in their order, or a cycle among them
abbrev pub Orders : List (List ℕ) → List Bool → Result (List ℕ) FilesFault → Type 0
Orders edges todo (Ok ns) = IsOrder (Edge edges) (Marked todo) ns
Orders edges todo (Err (Cycle chain)) = IsCycleIn edges todo chain
Orders edges todo (Err NoMemory) = ⊤

abbrev pub marked : List Bool → ℕ
marked [] = 0
marked (true ∷ marks) = marked marks + 1
marked (false ∷ marks) = marked marks
