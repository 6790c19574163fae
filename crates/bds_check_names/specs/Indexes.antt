-- How a function and a local are found by name without a search.
use Rattle.std.specs.Prelude.{ℕ, zero, suc, ◌+◌, Bool, List, [], ◌∷◌, ◌++◌, map, Option, Some, None, ◌≡◌, Vec, slice_get, if◌then◌else◌}
use Rattle.std.specs.Global.{Global}
use Rattle.std.specs.Map.{lookup}
use Rattle.std.specs.Option.{option_map, unwrap_or}
use Rattle.std.specs.Str.{bytes_eq}
use Rattle.bds_value.specs.declared.value.Ty.{Ty}
use Rattle.bds_check_names.specs.declared.names.Head.{Head}
use Rattle.bds_check_names.specs.declared.names.Variable.{Variable}
use Rattle.bds_check_names.specs.declared.locals.Local.{Local}

-- the place of the first function of a name, where the first of these has this place
abbrev pub first_place : List ℕ → List Head → ℕ → Option ℕ
first_place x [] n = None
first_place x (h ∷ hs) n = (if bytes_eq x h.name then Some n else first_place x hs (n + 1))

abbrev pub place_in : List (Vec ℕ Global × ℕ) → List ℕ → Option ℕ
place_in es x = lookup (λ k. bytes_eq x k.items) es

-- the table gives each name the place of the first function that has it
abbrev pub IsIndex : List Head → List (Vec ℕ Global × ℕ) → Type 0
IsIndex hs es = (x : List ℕ) → place_in es x ≡ first_place x hs 0

abbrev pub place_if : List ℕ → List ℕ → ℕ → Option ℕ
place_if x y n = if bytes_eq x y then Some n else None

-- Places of locals are counted from 1, and 0 stands where there is none

abbrev pub place_or_none : List (Vec ℕ Global × ℕ) → List ℕ → ℕ
place_or_none es x = unwrap_or (place_in es x) 0

-- the place in a list with one more variable in front, which may be of the name too
abbrev pub behind_one : Bool → ℕ → ℕ
behind_one named zero = if named then 1 else 0
behind_one named (suc n) = suc (suc n)

-- the place of the last variable of a name
abbrev pub last_place : List ℕ → List Variable → ℕ
last_place x [] = 0
last_place x (v ∷ vs) = behind_one (bytes_eq x v.name) (last_place x vs)

abbrev pub variables_of : List Local → List Variable
variables_of ls = map (λ l. l.variable) ls

-- each local knows the place of the last one of its name before it
abbrev pub AreLinked : List Variable → List Local → Type 0
AreLinked before [] = Unit {0}
AreLinked before (l ∷ ls) = (l.earlier ≡ last_place l.variable.name before) × AreLinked (before ++ l.variable ∷ []) ls

abbrev pub first_of_name : ℕ → ℕ
first_of_name zero = 1
first_of_name (suc n) = 0

-- how many locals have none of their name before them
abbrev pub count_first : List Local → ℕ
count_first [] = 0
count_first (l ∷ ls) = first_of_name l.earlier + count_first ls

-- the table gives each name the place of its last local
abbrev pub IsLastIndex : List Variable → List (Vec ℕ Global × ℕ) → Type 0
IsLastIndex vs es = (x : List ℕ) → place_or_none es x ≡ last_place x vs

pub record IsIndexed (ls : List Local) (last : List (Vec ℕ Global × ℕ)) (visible : ℕ) : Type 0 where
  pub last_places : IsLastIndex (variables_of ls) last
  pub linked : AreLinked [] ls
  pub counted : visible ≡ count_first ls

-- the type of the variable at a place
abbrev pub type_at : List Variable → ℕ → Option Ty
type_at vs zero = None
type_at vs (suc n) = option_map (λ v. v.ty) (slice_get vs n)
