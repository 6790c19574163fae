-- For private contracts alone: how a variable and a function are found by name without a search.
use Rattle.std.specs.Prelude.{ℕ, zero, suc, List, [], ◌∷◌, Vec, Option, Some, None, ◌≡◌, map, slice_get, if◌then◌else◌}
use Rattle.std.specs.Global.{Global}
use Rattle.std.specs.Option.{option_map}
use Rattle.std.specs.Str.{bytes_eq}
use Rattle.bds_value.specs.declared.value.Ty.{Ty}
use Rattle.bds_check_names.specs.Indexes.{place_in}
use Rattle.bds_gen_expr.specs.declared.scope.Callee.{Callee}
use Rattle.bds_gen_expr.specs.declared.scope.Numbered.{Numbered}
use Rattle.bds_gen_expr.specs.Numbers.{numbered}

-- the place of the first of a name, where the first of these has this place
abbrev pub first_place : List ℕ → List (List ℕ) → ℕ → Option ℕ
first_place x [] n = None
first_place x (y ∷ ys) n = (if bytes_eq x y then Some n else first_place x ys (suc n))

-- the table gives each name the place of the first that has it
abbrev pub IsFirstIndex : List (List ℕ) → List (Vec ℕ Global × ℕ) → Type 0
IsFirstIndex ys es = (x : List ℕ) → place_in es x ≡ first_place x ys 0

abbrev pub names_of : List Numbered → List (List ℕ)
names_of ns = map (λ n. n.variable.name) ns

abbrev pub callee_names : List Callee → List (List ℕ)
callee_names cs = map (λ c. c.name) cs

-- the number at a place that is counted from 1, and none at 0
abbrev pub number_at_place : List Numbered → ℕ → Option ℕ
number_at_place ns zero = None
number_at_place ns (suc n) = option_map (λ m. m.number) (slice_get ns n)

-- a local with the type of a slot, if there is one
abbrev pub named_slot : List ℕ → Option Ty → ℕ → List Numbered
named_slot x None n = []
named_slot x (Some t) n = numbered x t n ∷ []
