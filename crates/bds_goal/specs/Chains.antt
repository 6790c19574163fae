-- Lists of numbers of which each leads to the next, and the order in which numbers are placed.
use Rattle.std.specs.Prelude.{◌≡◌, ℕ, ◌≤◌, Bool, true, false, List, [], ◌∷◌, ◌++◌, nat_eq, ⊤}
use Rattle.std.specs.List.{list_any}

-- a number is one of these
abbrev pub is_in : List ℕ → ℕ → Bool
is_in ns n = list_any (nat_eq n) ns

abbrev pub In : List ℕ → ℕ → Type 0
In ns n = is_in ns n ≡ true

abbrev pub IsChain : (ℕ → ℕ → Type 0) → ℕ → List ℕ → Type 0
IsChain Next r [] = ⊤
IsChain Next r (s ∷ ns) = Next r s × IsChain Next s ns

abbrev pub last_of : ℕ → List ℕ → ℕ
last_of r [] = r
last_of r (s ∷ ns) = last_of s ns

-- a list of numbers, each leading to the next, leads from this one to a goal
pub record Leads (Next : ℕ → ℕ → Type 0) (Goal : ℕ → Type 0) (r : ℕ) : Type 0 where
  pub by : List ℕ
  pub each : IsChain Next r by
  pub ends : Goal (last_of r by)

abbrev pub first_or : ℕ → List ℕ → ℕ
first_or n [] = n
first_or n (r ∷ rs) = r

-- each of these leads to the next, and the last to n
abbrev pub AllLeadOn : (ℕ → ℕ → Type 0) → List ℕ → ℕ → Type 0
AllLeadOn Next [] n = ⊤
AllLeadOn Next (r ∷ rs) n = Next r (first_or n rs) × AllLeadOn Next rs n

-- each leads to the next, and the last to the first
abbrev pub IsCycle : (ℕ → ℕ → Type 0) → List ℕ → Type 0
IsCycle Next [] = ⊥
IsCycle Next (r ∷ rs) = AllLeadOn Next (r ∷ rs) r

module _ (Next : ℕ → ℕ → Type 0) (Todo : ℕ → Type 0) where
  -- it is to be placed, isn't placed, and leads to none that is to be placed and isn't
  pub record MayFollow (placed : List ℕ) (n : ℕ) : Type 0 where
    pub todo : Todo n
    pub new : is_in placed n ≡ false
    pub free : (s : ℕ) → Next n s → Todo s → In placed s

  -- behind those that are placed, each of these is the least that may follow
  abbrev pub Follow : List ℕ → List ℕ → Type 0
  Follow placed [] = ⊤
  Follow placed (n ∷ ns) = MayFollow placed n × ((m : ℕ) → MayFollow placed m → n ≤ m) × Follow (placed ++ n ∷ []) ns

  -- each is the least that may follow those before it, and all that are to be placed are there
  pub record IsOrder (ns : List ℕ) : Type 0 where
    pub follow : Follow [] ns
    pub all : (n : ℕ) → Todo n → In ns n
