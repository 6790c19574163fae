-- Rows that stand before others.
use Rattle.std.proofs.Common.{◌≡◌, ℕ, List, [], ◌∷◌, ◌++◌, ◌==◌, Bool, true, false, Option, Some, None, cond, refl, ◌&&◌}
use Rattle.std.specs.Option.{option_map}
use Rattle.std.specs.Str.{bytes_eq}
use Rattle.bds_value.specs.declared.methods.MethodRow.{MethodRow}
use Rattle.bds_value.specs.declared.methods.Method.{Method}
use Rattle.bds_value.specs.Methods.{Row, row_of, find_in, find_row, same_method, row_in}

abbrev pub or_else : Option MethodRow → Option MethodRow → Option MethodRow
or_else (Some m) other = Some m
or_else None other = other

pub find_row-append : (xs ys : List Row) (name : List ℕ) (count : ℕ) (found : Option MethodRow) → found ≡ find_in row_of xs name count → find_in row_of (xs ++ ys) name count ≡ or_else found (find_in row_of ys name count)
find_row-append [] ys name count found e = rw e refl
find_row-append (x ∷ xs) ys name count found e = by_test (find_row-append xs ys name count found) (bytes_eq x.name name && (x.count == count)) refl
  where
    by_test : (found ≡ find_in row_of xs name count → find_in row_of (xs ++ ys) name count ≡ or_else found (find_in row_of ys name count)) → (b : Bool) → (bytes_eq x.name name && (x.count == count)) ≡ b
        → cond (bytes_eq x.name name && (x.count == count)) (Some (row_of x)) (find_in row_of (xs ++ ys) name count) ≡ or_else found (find_in row_of ys name count)
    by_test again true t = let h : found ≡ Some (row_of x) = rw t at e in rw (t, h) refl
    by_test again false t = let h : found ≡ find_in row_of xs name count = rw t at e in rw t (again h)

-- the method of the row that is found
pub method_of-row : (rows : List Row) (name : List ℕ) (count : ℕ) → option_map (λ (r : MethodRow). r.method) (find_in row_of rows name count) ≡ find_row rows name count
method_of-row [] name count = refl
method_of-row (r ∷ rows) name count = by_test (bytes_eq r.name name && (r.count == count)) (method_of-row rows name count)
  where
    by_test : (b : Bool) → option_map (λ (r : MethodRow). r.method) (find_in row_of rows name count) ≡ find_row rows name count
        → option_map (λ (r : MethodRow). r.method) (cond b (Some (row_of r)) (find_in row_of rows name count)) ≡ cond b (Some r.method) (find_row rows name count)
    by_test true h = refl
    by_test false h = h

pub row_in-append : (xs ys : List Row) (wanted : Method) (found : Option MethodRow) → found ≡ row_in xs wanted → row_in (xs ++ ys) wanted ≡ or_else found (row_in ys wanted)
row_in-append [] ys wanted found e = rw e refl
row_in-append (x ∷ xs) ys wanted found e = by_test (row_in-append xs ys wanted found) (same_method x.method wanted) refl
  where
    by_test : (found ≡ row_in xs wanted → row_in (xs ++ ys) wanted ≡ or_else found (row_in ys wanted)) → (b : Bool) → same_method x.method wanted ≡ b
        → cond (same_method x.method wanted) (Some (row_of x)) (row_in (xs ++ ys) wanted) ≡ or_else found (row_in ys wanted)
    by_test again true t = let h : found ≡ Some (row_of x) = rw t at e in rw (t, h) refl
    by_test again false t = let h : found ≡ row_in xs wanted = rw t at e in rw t (again h)
