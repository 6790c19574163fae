-- For private contracts alone: where numbers lead to, as lists, and sets of numbers, as marks.
use Rattle.std.specs.Prelude.{◌≡◌, ℕ, ◌<◌, Bool, true, false, ◌&&◌, not, List, [], ◌∷◌, ◌++◌, length, nat_eq, nat_lt}
use Rattle.std.specs.Prelude.{slice_get, slice_set, unwrap_or, if◌then◌else◌}
use Rattle.std.specs.BTreeSet.{insert_key}
use Rattle.std.specs.List.{list_any}
use Rattle.std.specs.Ordering.{nat_cmp}
use Rattle.bds_goal.specs.Chains.{is_in, In, IsCycle, Leads}
use Rattle.bds_tasks.specs.Kept.{times}

abbrev pub edges_of : List (List ℕ) → ℕ → List ℕ
edges_of edges i = unwrap_or (slice_get edges i) []

abbrev pub leads_to : List (List ℕ) → ℕ → ℕ → Bool
leads_to edges i j = is_in (edges_of edges i) j

abbrev pub Edge : List (List ℕ) → ℕ → ℕ → Type 0
Edge edges i j = leads_to edges i j ≡ true

abbrev pub is_marked : List Bool → ℕ → Bool
is_marked marks i = unwrap_or (slice_get marks i) false

abbrev pub Marked : List Bool → ℕ → Type 0
Marked marks i = is_marked marks i ≡ true

-- just those are marked that lead to one which was
pub record IsClosed (edges : List (List ℕ)) (old new : List Bool) : Type 0 where
  pub lead : (i : ℕ) → Marked new i → Leads (Edge edges) (Marked old) i
  pub all : (i : ℕ) → Leads (Edge edges) (Marked old) i → Marked new i

-- the second leads to the first
abbrev pub Back : List (List ℕ) → ℕ → ℕ → Type 0
Back edges i j = Edge edges j i

-- just those are marked to which one leads that was
pub record IsSpread (edges : List (List ℕ)) (old new : List Bool) : Type 0 where
  pub lead : (i : ℕ) → Marked new i → Leads (Back edges) (Marked old) i
  pub all : (i : ℕ) → Leads (Back edges) (Marked old) i → Marked new i

-- it is one of those that are left, and leads to none of them
abbrev pub may_go : List (List ℕ) → List Bool → ℕ → Bool
may_go edges left n = is_marked left n && not (list_any (is_marked left) (edges_of edges n))

-- the lists lead the other way, each to a number as often as that leads to it
pub record IsReversed (edges users : List (List ℕ)) : Type 0 where
  pub long : length users ≡ length edges
  pub same : (i j : ℕ) → j < length edges → leads_to users j i ≡ leads_to edges i j
  pub often : (i j : ℕ) → j < length edges → times i (edges_of users j) ≡ times j (edges_of edges i)

-- i is put behind those that lead to j
abbrev pub with_user : ℕ → ℕ → List (List ℕ) → List (List ℕ)
with_user i j users = slice_set users j (edges_of users j ++ i ∷ [])

abbrev pub with_users : ℕ → List ℕ → List (List ℕ) → List (List ℕ)
with_users i [] users = users
with_users i (j ∷ js) users = with_users i js (with_user i j users)

abbrev pub insert_if : Bool → ℕ → List ℕ → List ℕ
insert_if true u keys = insert_key nat_cmp keys u
insert_if false u keys = keys

-- those of these, below a start, that go are put in
abbrev pub freed_with : (ℕ → Bool) → ℕ → List ℕ → List ℕ → List ℕ
freed_with goes start [] keys = keys
freed_with goes start (u ∷ us) keys = freed_with goes start us (insert_if (nat_lt u start && goes u) u keys)

-- from the first that is n on
abbrev pub cut : ℕ → List ℕ → List ℕ
cut n [] = []
cut n (m ∷ ms) = if nat_eq n m then m ∷ ms else cut n ms

-- the first of these that is marked
abbrev pub first_marked : List Bool → List ℕ → ℕ
first_marked marks [] = 0
first_marked marks (n ∷ ns) = if is_marked marks n then n else first_marked marks ns

-- a cycle of numbers that are marked
pub record IsCycleIn (edges : List (List ℕ)) (todo : List Bool) (chain : List ℕ) : Type 0 where
  pub cycle : IsCycle (Edge edges) chain
  pub among : (n : ℕ) → In chain n → Marked todo n

-- so many lists, which lead nowhere
pub record AreEmpty (count : ℕ) (lists : List (List ℕ)) : Type 0 where
  pub long : length lists ≡ count
  pub none : (i j : ℕ) → leads_to lists i j ≡ false
  pub never : (i j : ℕ) → times j (edges_of lists i) ≡ 0

-- the numbers below i are put behind those that they lead to
pub record Reversing (edges users : List (List ℕ)) (i : ℕ) : Type 0 where
  pub long : length users ≡ length edges
  pub same : (k j : ℕ) → j < length edges → leads_to users j k ≡ (nat_lt k i && leads_to edges k j)
  pub often : (k j : ℕ) → j < length edges
      → times k (edges_of users j) ≡ (if nat_lt k i then times j (edges_of edges k) else 0)

abbrev pub cut_where : Bool → ℕ → List ℕ → List ℕ
cut_where true n ms = ms
cut_where false n ms = cut n ms
