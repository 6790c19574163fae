-- What holds of all rows of a table of methods holds of the one that is found by its name.
use Rattle.std.proofs.Common.{◌≡◌, ℕ, List, [], ◌∷◌, Option, Some, Bool, true, false, ◌&&◌, refl, arith, if◌then◌else◌, rules}
use Rattle.std.specs.Prelude.{◌==◌}
use Rattle.std.specs.List.{AllByRecursion}
use Rattle.std.specs.Str.{bytes_eq}
use Rattle.std.proofs.lemmas.Grind.{common_steps}
use Rattle.bds_value.specs.declared.methods.MethodRow.{MethodRow}
use Rattle.bds_value.specs.Methods as methods
use Rattle.bds_value.specs.Methods.{Row as NamedRow, find_in}

same_count : (a b : Bool) → (a && b) ≡ true → b ≡ true
same_count true b h = h
same_count false b h = absurd (search (rules, h))

equal : (a b : ℕ) → (a == b) ≡ true → a ≡ b
equal a b h = grind (arith, common_steps)

-- a row of which that holds, with so many arguments and what it says
abbrev pub Finds : (NamedRow → Type 0) → ℕ → MethodRow → Type 0
Finds P n y = (r : NamedRow) × P r × (methods.row_of r ≡ y) × (r.count ≡ n)

found-choice : {P : NamedRow → Type 0} (b : Bool) (n : ℕ) (r : NamedRow) (o : Option MethodRow) (y : MethodRow) → (b ≡ true → r.count ≡ n) → P r → (o ≡ Some y → Finds P n y) → (if b then Some (methods.row_of r) else o) ≡ Some y → Finds P n y
found-choice true n r o y c h k e = (r, h, some-same (methods.row_of r) y e, c refl)
  where
    some-same : (x y : MethodRow) → Some x ≡ Some y → x ≡ y
    some-same x y e = cc
found-choice false n r o y c h k e = k e

pub found-row : {P : NamedRow → Type 0} (rows : List NamedRow) (x : List ℕ) (n : ℕ) (y : MethodRow) → AllByRecursion P rows → find_in methods.row_of rows x n ≡ Some y → Finds P n y
found-row [] x n y h e = absurd (cc)
found-row (r ∷ rows) x n y h e =
    found-choice (bytes_eq r.name x && (r.count == n)) n r (find_in methods.row_of rows x n) y (λ q. equal r.count n (same_count (bytes_eq r.name x) (r.count == n) q)) h.0 (λ q. found-row rows x n y h.1 q) e
