-- The parts of a path.
use Rattle.std.specs.Prelude.{ℕ, ◌+◌, zero, suc, List, [], ◌∷◌, ◌++◌, take, drop, Option, Some, None, is_some, if◌then◌else◌}
use Rattle.bds_lib.specs.Searching.{last_place}

abbrev pub slash : List ℕ
slash = 47 ∷ []

abbrev pub dot : List ℕ
dot = 46 ∷ []

abbrev pub behind_place : List ℕ → List ℕ → Option ℕ → List ℕ
behind_place s other None = other
behind_place s other (Some i) = drop (i + 1) s

-- what stands behind the last slash
abbrev pub base_name : List ℕ → List ℕ
base_name s = behind_place s s (last_place slash s)

-- what stands before a slash at a place
abbrev pub folder_at : List ℕ → Option ℕ → List ℕ
folder_at s None = dot
folder_at s (Some zero) = slash
folder_at s (Some (suc i)) = take (suc i) s

-- what stands before the last slash, or a slash where nothing does, or a dot where there is no slash
abbrev pub dir_name : List ℕ → List ℕ
dir_name s = folder_at s (last_place slash s)

-- what stands behind the last dot of the base name
abbrev pub ext_name : List ℕ → List ℕ
ext_name s = behind_place (base_name s) [] (last_place dot (base_name s))

abbrev pub before_place : List ℕ → Option ℕ → List ℕ
before_place s None = s
before_place s (Some i) = take i s

-- the path without the last dot and what follows it, where the base name has a dot
abbrev pub remove_ext : List ℕ → List ℕ
remove_ext s = if is_some (last_place dot (base_name s)) then before_place s (last_place dot s) else s

abbrev pub swap_ext : List ℕ → List ℕ → List ℕ
swap_ext s e = remove_ext s ++ dot ++ e
