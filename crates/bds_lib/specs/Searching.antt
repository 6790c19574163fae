-- Where a text stands in another, and the pieces between.
use Rattle.std.specs.Prelude.{◌≡◌, ℕ, zero, suc, ◌+◌, ◌++◌, map, ℤ, negsuc, List, [], ◌∷◌, length, take, drop, ◌==◌, Bool, Option, Some, None, if◌then◌else◌}
use Rattle.std.specs.List.{starts_with, ends_with}
use Rattle.bds_value.specs.declared.value.Value.{Value}
use Rattle.bds_value.specs.declared.value.Value.TheVariants as value
use Rattle.bds_lib.specs.Results.{counted}

abbrev pub begins_with : List ℕ → List ℕ → Bool
begins_with t s = starts_with (λ a b. a == b) s t

abbrev pub closes_with : List ℕ → List ℕ → Bool
closes_with t s = ends_with (λ a b. a == b) s t

-- the first place at which t stands in s, where s itself stands at place i
abbrev pub first_from : ℕ → List ℕ → List ℕ → Option ℕ
first_from i t [] = if begins_with t [] then Some i else None
first_from i t (x ∷ s) = if begins_with t (x ∷ s) then Some i else first_from (i + 1) t s

abbrev pub first_place : List ℕ → List ℕ → Option ℕ
first_place t s = first_from 0 t s

-- the last place below n at which t stands in s
abbrev pub last_below : ℕ → List ℕ → List ℕ → Option ℕ
last_below zero t s = None
last_below (suc n) t s = if begins_with t (drop n s) then Some n else last_below n t s

abbrev pub last_place : List ℕ → List ℕ → Option ℕ
last_place t s = last_below (suc (length s)) t s

-- a place as a number, or -1 where there is none
abbrev pub place_number : Option ℕ → ℤ
place_number None = negsuc 0
place_number (Some i) = counted i

-- what stands before a t that begins at a place, and then what go gives of what follows it
abbrev pub cut_at : List ℕ → List ℕ → Option ℕ → (List ℕ → List (List ℕ)) → List (List ℕ)
cut_at t s None go = s ∷ []
cut_at t s (Some i) go = take i s ∷ go (drop (length t) (drop i s))

-- the pieces of s between the t's, cut n times at most
abbrev pub cut : ℕ → List ℕ → List ℕ → List (List ℕ)
cut zero t s = s ∷ []
cut (suc n) t s = cut_at t s (first_place t s) (cut n t)

-- the pieces between the t's, from the left without overlap; one piece where t is empty
abbrev pub pieces : List ℕ → List ℕ → List (List ℕ)
pieces [] s = s ∷ []
pieces (c ∷ t) s = cut (length s) (c ∷ t) s

-- items hold the pieces but the last
abbrev pub Splits : List ℕ → List ℕ → List Value → List ℕ → Type 0
Splits t s items last = (ps : List (List ℕ)) × (items ≡ map value.Text ps) × (pieces t s ≡ ps ++ last ∷ [])

-- the pieces without a last one that is empty
abbrev pub without_empty_end : List (List ℕ) → List (List ℕ)
without_empty_end [] = []
without_empty_end ([] ∷ []) = []
without_empty_end (p ∷ ps) = p ∷ without_empty_end ps

-- the lines that a line end closes, and a last one that isn't empty
abbrev pub lines : List ℕ → List (List ℕ)
lines s = without_empty_end (pieces (10 ∷ []) s)
