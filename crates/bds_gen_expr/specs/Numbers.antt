-- Variables and functions with their numbers, and which of a name counts.
use Rattle.std.specs.Prelude.{ℕ, suc, Option, Some, None, List, [], ◌∷◌, map, if◌then◌else◌}
use Rattle.std.specs.Str.{bytes_eq}
use Rattle.bds_value.specs.declared.value.Ty.{Ty}
use Rattle.bds_check_names.specs.declared.names.Variable.{Variable}
use Rattle.bds_check_names.specs.Scopes.{variable, any_named}
use Rattle.bds_gen_expr.specs.declared.scope.Callee.{Callee}
use Rattle.bds_gen_expr.specs.declared.scope.Numbered.{Numbered}

abbrev pub numbered : List ℕ → Ty → ℕ → Numbered
numbered x t n = record { variable = variable x t; number = n }

abbrev pub callee : List ℕ → ℕ → Callee
callee x n = record { name = x; number = n }

abbrev pub variables_of : List Numbered → List Variable
variables_of ns = map (λ n. n.variable) ns

-- the number of the last variable of a name, or else what was found before
abbrev pub last_number : List ℕ → List Numbered → Option ℕ → Option ℕ
last_number x [] found = found
last_number x (n ∷ ns) found = last_number x ns (if bytes_eq x n.variable.name then Some n.number else found)

-- the number of the first variable of a name
abbrev pub first_number : List ℕ → List Numbered → Option ℕ
first_number x [] = None
first_number x (n ∷ ns) = if bytes_eq x n.variable.name then Some n.number else first_number x ns

-- the number of the first function of a name
abbrev pub first_callee : List ℕ → List Callee → Option ℕ
first_callee x [] = None
first_callee x (c ∷ cs) = if bytes_eq x c.name then Some c.number else first_callee x cs

-- those that no later one of their name hides, in their order
abbrev pub visible_locals : List Numbered → List Numbered
visible_locals [] = []
visible_locals (n ∷ ns) = if any_named n.variable.name (variables_of ns) then visible_locals ns else n ∷ visible_locals ns

-- From lists of names

-- each name with its type, numbered from here on
abbrev pub numbered_from : ℕ → List (List ℕ) → List Ty → List Numbered
numbered_from n (x ∷ xs) (t ∷ ts) = numbered x t n ∷ numbered_from (suc n) xs ts
numbered_from n _ _ = []

abbrev pub callees_from : ℕ → List (List ℕ) → List Callee
callees_from n [] = []
callees_from n (x ∷ xs) = callee x n ∷ callees_from (suc n) xs
