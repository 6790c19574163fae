-- The first of a list of numbers that is at most another, found from above: over each two numbers stands the less, over
-- those again, up to one.
use Rattle.std.specs.Prelude.{◌≡◌, ◌<◌, ◌≤◌, ℕ, zero, suc, ◌/◌, min, List, [], ◌∷◌, Option, Some, None, length, get_or, slice_set}
use Rattle.std.specs.Prelude.{nat_le, option_map, if◌then◌else◌, drop, ⊤}
use Rattle.std.specs.List.{AllByRecursion}

-- the place of the first of these that is at most a number
abbrev pub place : ℕ → List ℕ → Option ℕ
place most [] = None
place most (n ∷ ns) = if nat_le n most then Some 0 else option_map suc (place most ns)

-- the same from a place on
abbrev pub place_from : ℕ → ℕ → List ℕ → Option ℕ
place_from zero most ns = place most ns
place_from (suc at) most [] = None
place_from (suc at) most (n ∷ ns) = option_map suc (place_from at most ns)

-- there is a number at a place, which is above another
abbrev pub IsLarge : ℕ → ℕ → List ℕ → Type 0
IsLarge at most ns = (at < length ns) × (most < get_or ns at 0)

-- the less of each two
abbrev pub halved : List ℕ → List ℕ
halved [] = []
halved (a ∷ []) = a ∷ []
halved (a ∷ b ∷ ns) = min a b ∷ halved ns

-- over a list stand those that are halved from it, one over the other, up to one number or none
abbrev pub AreAbove : List ℕ → List (List ℕ) → Type 0
AreAbove ns [] = length ns ≤ 1
AreAbove ns (ms ∷ rest) = (ms ≡ halved ns) × AreAbove ms rest

-- the less of two numbers of a list, which stand over place k of the halved one
abbrev pub pair_at : List ℕ → ℕ → ℕ
pair_at ns k = get_or (halved ns) k 0

-- what stands over a list of which place k was changed
abbrev pub raised : ℕ → List ℕ → List (List ℕ) → List (List ℕ)
raised k ns [] = []
raised k ns (ms ∷ rest) =
    slice_set ms (k / 2) (pair_at ns (k / 2)) ∷ raised (k / 2) (slice_set ms (k / 2) (pair_at ns (k / 2))) rest

-- more than any number that is looked for
abbrev pub NEVER : ℕ
NEVER = 4294967295

-- what stands behind so many is that
abbrev pub AreNever : ℕ → List ℕ → Type 0
AreNever count ns = (count ≤ length ns) × AllByRecursion (λ n. n ≡ NEVER) (drop count ns)

-- as many as if they were halved
abbrev pub AreLong : List ℕ → List (List ℕ) → Type 0
AreLong ns [] = ⊤
AreLong ns (ms ∷ rest) = (length ms ≡ length (halved ns)) × AreLong ms rest
