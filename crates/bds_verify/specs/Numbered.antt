-- For private contracts alone: lists of types by number, and what a pass knows of the list that comes.
use Rattle.std.specs.Prelude.{ℕ, zero, suc, nat_eq, ◌<◌, ◌≤◌, ◌⊎◌, ◌&&◌, Bool, false, List, [], ◌∷◌, ◌++◌, length}
use Rattle.std.specs.Prelude.{slice_get, get_or, reverse, take, Option, Some, None, ◌≡◌}
use Rattle.bds_value.specs.declared.value.Ty.{Ty}
use Rattle.bds_value.specs.Types.{same_ty}
use Rattle.bds_verify.specs.Verified.{label_at}
use Rattle.bds_verify.specs.declared.numbers.Numbers.{Numbers}

-- lists by number: that of the number before, with a type behind it
abbrev pub Nodes : Type 0
Nodes = List (ℕ × Ty)

-- the node of a number; 0 has none
abbrev pub node_at : Nodes → ℕ → Option (ℕ × Ty)
node_at nodes zero = None
node_at nodes (suc k) = slice_get nodes k

abbrev pub is_this : Option (ℕ × Ty) → ℕ → Ty → Bool
is_this None before t = false
is_this (Some node) before t = nat_eq node.0 before && same_ty node.1 t

abbrev pub before_of : Option (ℕ × Ty) → ℕ
before_of None = 0
before_of (Some node) = node.0

-- the list of a number, the last type first
unfoldable pub IsListOf : Nodes → ℕ → List Ty → Type 0
IsListOf nodes n [] = n ≡ 0
IsListOf nodes n (t ∷ ts) = (before : ℕ) × (node_at nodes n ≡ Some (before, t)) × IsListOf nodes before ts

-- each number has the list that it had
abbrev pub Keeps : Nodes → Nodes → Type 0
Keeps old new = (n : ℕ) (ts : List Ty) → IsListOf old n ts → IsListOf new n ts

-- one more node, and its number
abbrev pub IsAdded : Nodes → Nodes → ℕ → ℕ → Ty → Type 0
IsAdded old new n before t = (new ≡ old ++ (before, t) ∷ []) × (n ≡ length new)

-- one number is that of the list of another with a type behind it
abbrev pub LeadsOne : Nodes → Nodes → ℕ → ℕ → Ty → Type 0
LeadsOne old new before n t = Keeps old new × (node_at new n ≡ Some (before, t))

-- one number is that of the list of another with these types behind it
abbrev pub Leads : Nodes → Nodes → ℕ → ℕ → List Ty → Type 0
Leads old new before n types =
    Keeps old new × ((ts : List Ty) → IsListOf old before ts → IsListOf new n (reverse types ++ ts))

-- the number of so many of the first types
abbrev pub IsFront : Nodes → ℕ → ℕ → List Ty → Type 0
IsFront nodes n count shape = (count ≤ length shape) × IsListOf nodes n (reverse (take count shape))

-- what is noted at a place; 0 where nothing is
abbrev pub noted_at : List ℕ → ℕ → ℕ
noted_at numbers place = get_or numbers place 0

-- one more number is noted
abbrev pub IsNoted : List ℕ → List ℕ → ℕ → ℕ → Type 0
IsNoted old new place n = (at : ℕ) → ((at ≡ place) × (noted_at new at ≡ n)) ⊎ (noted_at new at ≡ noted_at old at)

-- the list of a label has the number that is noted at its place
abbrev pub AreDeclared : Nodes → List (ℕ × List Ty) → List ℕ → Type 0
AreDeclared nodes labels numbers = (place : ℕ) (declared : List Ty) → label_at labels place ≡ Some declared
    → 0 < noted_at numbers place → IsListOf nodes (noted_at numbers place) (reverse declared)

abbrev pub Knows : List (ℕ × List Ty) → Numbers → List Ty → Type 0
Knows labels k shape = IsFront k.lists.nodes k.number k.length shape × AreDeclared k.lists.nodes labels k.labels

-- of a list that may come
abbrev pub KnowsAny : List (ℕ × List Ty) → Numbers → Option (List Ty) → Type 0
KnowsAny labels k (Some shape) = Knows labels k shape
KnowsAny labels k None = AreDeclared k.lists.nodes labels k.labels
