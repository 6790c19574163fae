-- For private contracts alone: how a list of types lies in chunks, which other lists may hold, too.
use Rattle.std.specs.Prelude.{ℕ, ◌+◌, ◌*◌, ◌≤◌, ◌≡◌, ◌⊎◌, ◌^◌, ◌++◌, List, [], length, take, Option, Some, None}
use Rattle.std.specs.List.{All, flat_map}
use Rattle.bds_value.specs.declared.value.Ty.{Ty}

-- the types of chunks, one behind the other
abbrev pub flat : List (List Ty) → List Ty
flat chunks = flat_map (λ c. c) chunks

-- the chunks, where there are any
abbrev pub held : Option (List (List Ty)) → List (List Ty)
held None = []
held (Some chunks) = chunks

-- so many types of the chunks, and those of the top behind them
abbrev pub laid : List (List Ty) → ℕ → List Ty → List Ty
laid chunks below top = take below (flat chunks) ++ top

-- that many types fill whole chunks
abbrev pub IsWhole : ℕ → Type 0
IsWhole n = (m : ℕ) × (n ≡ 32 * m)

abbrev pub IsFull : List Ty → Type 0
IsFull chunk = length chunk ≡ 32

pub record AreLaid (chunks : List (List Ty)) (below : ℕ) (top : List Ty) : Type 0 where
  pub full : All IsFull chunks
  pub within : below ≤ length (flat chunks)
  pub whole : (top ≡ []) ⊎ IsWhole below
  pub short : length top ≤ 32
  pub few : below ≤ 2 ^ 63 + 32
