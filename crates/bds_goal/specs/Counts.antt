-- For private contracts alone: of those that a number leads to, how many are left.
use Rattle.std.specs.Prelude.{◌≡◌, ℕ, suc, ◌-◌, Bool, true, false, ◌&&◌, List, [], ◌∷◌, get_or, nat_eq, slice_set}
use Rattle.std.specs.Prelude.{if◌then◌else◌}
use Rattle.bds_goal.specs.Marks.{edges_of, is_marked}

abbrev pub one_if : Bool → ℕ
one_if true = 1
one_if false = 0

-- how many of these are marked
abbrev pub count_in : List Bool → List ℕ → ℕ
count_in marks [] = 0
count_in marks (n ∷ ns) = if is_marked marks n then suc (count_in marks ns) else count_in marks ns

-- of each number, how many of those that it leads to are left
abbrev pub AreCounts : List (List ℕ) → List Bool → List ℕ → Type 0
AreCounts edges left counts = (n : ℕ) → get_or counts n 0 ≡ count_in left (edges_of edges n)

-- by these counts it is left, and leads to none that is
abbrev pub goes : List Bool → List ℕ → ℕ → Bool
goes left counts n = is_marked left n && nat_eq (get_or counts n 0) 0

-- the counts, of which those of these numbers are less by one
abbrev pub lowered : List ℕ → List ℕ → List ℕ
lowered [] counts = counts
lowered (n ∷ ns) counts = lowered ns (slice_set counts n (get_or counts n 0 - 1))
