-- For private contracts alone: how far marks are spread.
use Rattle.std.specs.Prelude.{◌≡◌, ℕ, ◌+◌, Bool, true, false, not, ◌&&◌, ◌||◌, List, [], ◌∷◌, ◌++◌, length, nat_eq, nat_lt, slice_set, if◌then◌else◌}
use Rattle.bds_goal.specs.Chains.{In, Leads, is_in}
use Rattle.bds_goal.specs.Marks.{Back, Edge, Marked, is_marked}

-- how many aren't marked
abbrev pub unmarked : List Bool → ℕ
unmarked [] = 0
unmarked (true ∷ marks) = unmarked marks
unmarked (false ∷ marks) = unmarked marks + 1

abbrev pub one_if : Bool → ℕ → List ℕ
one_if true i = i ∷ []
one_if false i = []

-- the numbers that are marked, where the first has this number
abbrev pub marked_from : ℕ → List Bool → List ℕ
marked_from i [] = []
marked_from i (b ∷ marks) = one_if b i ++ marked_from (i + 1) marks

-- it is there, and isn't marked
abbrev pub is_new : List Bool → ℕ → Bool
is_new marks i = nat_lt i (length marks) && not (is_marked marks i)

abbrev pub marked_if : Bool → ℕ → List Bool → List Bool
marked_if b i marks = if b then slice_set marks i true else marks

abbrev pub put_if : Bool → ℕ → List ℕ → List ℕ
put_if b i ahead = if b then ahead ++ i ∷ [] else ahead

-- the marks behind a visit of each of these
abbrev pub all_marked : List ℕ → List Bool → List Bool
all_marked [] marks = marks
all_marked (i ∷ is) marks = all_marked is (marked_if (is_new marks i) i marks)

-- the numbers that are to be followed behind it
abbrev pub all_ahead : List ℕ → List Bool → List ℕ → List ℕ
all_ahead [] marks ahead = ahead
all_ahead (i ∷ is) marks ahead = all_ahead is (marked_if (is_new marks i) i marks) (put_if (is_new marks i) i ahead)

-- all that is marked but those that are to be followed has marked what it leads to
pub record Spreading (edges : List (List ℕ)) (start marks : List Bool) (ahead : List ℕ) : Type 0 where
  pub long : length marks ≡ length start
  pub lead : (k : ℕ) → Marked marks k → Leads (Back edges) (Marked start) k
  pub grows : (k : ℕ) → Marked start k → Marked marks k
  pub there : (k : ℕ) → In ahead k → Marked marks k
  pub done : (k j : ℕ) → Marked marks k → is_in ahead k ≡ false → Edge edges k j → Marked marks j

-- the same but for one, of which these are left to be marked
pub record Following (edges : List (List ℕ)) (start marks : List Bool) (ahead : List ℕ) (i : ℕ) (js : List ℕ) : Type 0 where
  pub long : length marks ≡ length start
  pub lead : (k : ℕ) → Marked marks k → Leads (Back edges) (Marked start) k
  pub grows : (k : ℕ) → Marked start k → Marked marks k
  pub there : (k : ℕ) → In ahead k → Marked marks k
  pub here : Marked marks i
  pub from : (j : ℕ) → In js j → Edge edges i j
  pub done : (k j : ℕ) → Marked marks k → is_in ahead k ≡ false → Edge edges k j → is_marked marks j || (nat_eq k i && is_in js j) ≡ true
