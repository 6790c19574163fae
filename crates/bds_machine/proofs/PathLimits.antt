-- Parts of values within the limits are within them, and so are values with a new part.
use Rattle.std.proofs.Common.{◌≡◌, ◌≤◌, ◌<◌, ◌+◌, ℕ, ℤ, zero, suc, pos, negsuc, List, [], ◌∷◌, length, slice_get, slice_set, Bool, true, false, cond, Option, Some, None, Result, Ok, Err, nat_lt, refl, ap, arith}
use Rattle.std.specs.Prelude.{⊤}
use Rattle.std.specs.List.{AllByRecursion}
use Rattle.std.specs.Str.{bytes_eq}
use Rattle.std.proofs.lemmas.Grind.{common_steps}
use Rattle.bds_value.specs.declared.TheConstants.{MAX_TEXT, MAX_ITEMS}
use Rattle.bds_value.specs.declared.faults.PutFault.{PutFault}
use Rattle.bds_value.specs.declared.faults.PutFault.TheVariants.{NoIndex, NoKey, TooLong, NoMemory}
use Rattle.bds_value.specs.declared.value.Place.{Place}
use Rattle.bds_value.specs.declared.value.Place.TheVariants.{Index, Key}
use Rattle.bds_value.specs.declared.value.Ty.{Ty}
use Rattle.bds_value.specs.declared.value.Value.{Value, out-Value}
use Rattle.bds_value.specs.declared.value.Value.TheVariants as value
use Rattle.bds_value.specs.declared.value.Value.TheOpen.{Value-F}
use Rattle.bds_value.specs.Results.{result_map}
use Rattle.bds_value.specs.Order.{is_before}
use Rattle.bds_value.specs.Path.{at_index, at_key, child, fault_at, onward, item_of, nat_of, put_index, set_key, insert_key, add_key, replace_key, put_key, put_step, put_in}
use Rattle.bds_value.specs.Spelling.{IsWithinHere, IsWithinLimits}
use Rattle.bds_value.specs.TextResult.{held}
use Rattle.bds_value.proofs.Every.{every-List, every-Map}
use Rattle.bds_value.proofs.FormedLaws.{value_cases}

abbrev pub Pairs : Type 0
Pairs = List (List ℕ × Value)

-- a result that is so, or a fault of the run
abbrev pub IsShortBy : {X : Type 0} → (X → Type 0) → Result X PutFault → Type 0
IsShortBy P (Ok x) = P x
IsShortBy P (Err NoMemory) = ⊥
IsShortBy P (Err e) = ⊤

abbrev pub IsShort : Result Value PutFault → Type 0
IsShort = IsShortBy IsWithinLimits

-- items and pairs within the limits, not too many

abbrev pub Few : List Value → Type 0
Few items = (length items ≤ MAX_ITEMS) × AllByRecursion IsWithinLimits items

abbrev pub IsPair : List ℕ × Value → Type 0
IsPair p = (length p.0 ≤ MAX_TEXT) × IsWithinLimits p.1

abbrev pub FewPairs : Pairs → Type 0
FewPairs ps = (length ps ≤ MAX_ITEMS) × AllByRecursion IsPair ps

pub joined : (ps : Pairs) → AllByRecursion {X = List ℕ × Value} (λ p. length p.0 ≤ MAX_TEXT) ps → AllByRecursion {X = List ℕ × Value} (λ p. IsWithinLimits p.1) ps → AllByRecursion IsPair ps
joined [] a b = tt
joined (p ∷ ps) a b = ((a.0, b.0), joined ps a.1 b.1)

pub keys_of : (ps : Pairs) → AllByRecursion IsPair ps → AllByRecursion {X = List ℕ × Value} (λ p. length p.0 ≤ MAX_TEXT) ps
keys_of [] h = tt
keys_of (p ∷ ps) h = (h.0.0, keys_of ps h.1)

pub values_of : (ps : Pairs) → AllByRecursion IsPair ps → AllByRecursion {X = List ℕ × Value} (λ p. IsWithinLimits p.1) ps
values_of [] h = tt
values_of (p ∷ ps) h = (h.0.1, values_of ps h.1)

pub list_limits : (t : Ty) (items : List Value) → Few items → IsWithinLimits (value.List t items)
list_limits t items h = (every-List IsWithinHere t items).1 h

pub map_limits : (t : Ty) (ps : Pairs) → FewPairs ps → IsWithinLimits (value.Map t ps)
map_limits t ps h = (every-Map IsWithinHere t ps).1 ((h.0, keys_of ps h.1), values_of ps h.1)

-- the parts of a value are within the limits
abbrev pub PartsShort : Value-F Value → Type 0
PartsShort (Value-F.List t items) = Few items
PartsShort (Value-F.Map t ps) = FewPairs ps
PartsShort _ = ⊤

pub parts_short : (v : Value) → IsWithinLimits v → PartsShort (out-Value v)
parts_short = value_cases (λ v. IsWithinLimits v → PartsShort (out-Value v))
    (λ b h. rw (value.outs-Bool b) tt)
    (λ n h. rw (value.outs-Int n) tt)
    (λ s h. rw (value.outs-Text s) tt)
    (λ t items h. rw (value.outs-List t items) ((every-List IsWithinHere t items).0 h))
    (λ t ps h. let both = (every-Map IsWithinHere t ps).0 h in rw (value.outs-Map t ps) (both.0.0, joined ps both.0.1 both.1))

-- where something is found, it is so
abbrev pub IfFound : {X : Type 0} → (X → Type 0) → Option X → Type 0
IfFound P None = ⊤
IfFound P (Some x) = P x

module _ {X : Type 0} (P : X → Type 0) where
  pub all_get : (xs : List X) (i : ℕ) → AllByRecursion P xs → IfFound P (slice_get xs i)
  all_get [] i h = tt
  all_get (x ∷ xs) zero h = h.0
  all_get (x ∷ xs) (suc i) h = all_get xs i h.1

  pub all_at : (i : ℤ) (xs : List X) → AllByRecursion P xs → IfFound P (at_index i xs)
  all_at (pos i) xs h = all_get xs i h
  all_at (negsuc i) xs h = tt

  pub all_set : (xs : List X) (i : ℕ) (y : X) → AllByRecursion P xs → P y → AllByRecursion P (slice_set xs i y)
  all_set [] i y h k = tt
  all_set (x ∷ xs) zero y h k = (k, h.1)
  all_set (x ∷ xs) (suc i) y h k = (h.0, all_set xs i y h.1 k)

  pub length-slice_set : (xs : List X) (i : ℕ) (y : X) → length (slice_set xs i y) ≡ length xs
  length-slice_set [] i y = refl
  length-slice_set (x ∷ xs) zero y = refl
  length-slice_set (x ∷ xs) (suc i) y = ap suc (length-slice_set xs i y)

found_key : (b : Bool) (v : Value) (o : Option Value) → IsWithinLimits v → IfFound IsWithinLimits o → IfFound IsWithinLimits (cond b (Some v) o)
found_key true v o h k = h
found_key false v o h k = k

all_key : (k : List ℕ) (ps : Pairs) → AllByRecursion IsPair ps → IfFound IsWithinLimits (at_key k ps)
all_key k [] h = tt
all_key k (p ∷ ps) h = found_key (bytes_eq p.0 k) p.1 (at_key k ps) h.0.1 (all_key k ps h.1)

child_short : (p : Place) (x : Value-F Value) → PartsShort x → IfFound IsWithinLimits (child p x)
child_short (Index i) (Value-F.List t items) h = all_at IsWithinLimits i items h.1
child_short (Index i) (Value-F.Map t ps) h = tt
child_short (Index i) (Value-F.Bool b) h = tt
child_short (Index i) (Value-F.Int n) h = tt
child_short (Index i) (Value-F.Text s) h = tt
child_short (Key k) (Value-F.Map t ps) h = all_key k ps h.1
child_short (Key k) (Value-F.List t items) h = tt
child_short (Key k) (Value-F.Bool b) h = tt
child_short (Key k) (Value-F.Int n) h = tt
child_short (Key k) (Value-F.Text s) h = tt

onward_short : {X : Type 0} (P : X → Type 0) (o : Option Value) (p : Place) (x : Value-F Value) (go : Value → Result X PutFault) → IfFound IsWithinLimits o → ((w : Value) → IsWithinLimits w → IsShortBy P (go w)) → IsShortBy P (onward o (fault_at p x) go)
onward_short P None (Index i) x go h k = tt
onward_short P None (Key i) x go h k = tt
onward_short P (Some w) p x go h k = k w h

-- a part of a value within the limits is within them
pub item_short : (path : List Place) (v : Value) → IsWithinLimits v → IsShort (item_of path v)
item_short [] v h = h
item_short (p ∷ ps) v h = onward_short IsWithinLimits (child p (out-Value v)) p (out-Value v) (item_of ps) (child_short p (out-Value v) (parts_short v h)) (λ w k. item_short ps w k)

-- the keys of a path are within the limit
abbrev pub IsStep : Place → Type 0
IsStep (Index i) = ⊤
IsStep (Key k) = length k ≤ MAX_TEXT

mapped_short : {X Y : Type 0} (P : X → Type 0) (Q : Y → Type 0) (f : X → Y) (r : Result X PutFault) → ((x : X) → P x → Q (f x)) → IsShortBy P r → IsShortBy Q (result_map f r)
mapped_short P Q f (Ok x) k h = k x h
mapped_short P Q f (Err (NoIndex i n)) k h = tt
mapped_short P Q f (Err (NoKey s)) k h = tt
mapped_short P Q f (Err (TooLong n)) k h = tt
mapped_short P Q f (Err NoMemory) k h = absurd h

index_found : (i : ℤ) (items : List Value) (o : Option Value) (go : Value → Result Value PutFault) → Few items → IfFound IsWithinLimits o → ((w : Value) → IsWithinLimits w → IsShort (go w))
    → IsShortBy Few (onward o (NoIndex i (length items)) (λ x. result_map (λ y. slice_set items (nat_of i) y) (go x)))
index_found i items None go h k again = tt
index_found i items (Some x) go h k again = mapped_short IsWithinLimits Few (λ y. slice_set items (nat_of i) y) (go x)
    (λ y l. (let e = length-slice_set IsWithinLimits items (nat_of i) y in let few = h.0 in omega arith, all_set IsWithinLimits items (nat_of i) y h.1 l)) (again x k)

index_short : (i : ℤ) (items : List Value) (go : Value → Result Value PutFault) → Few items → ((w : Value) → IsWithinLimits w → IsShort (go w)) → IsShortBy Few (put_index i items go)
index_short i items go h again = index_found i items (at_index i items) go h (all_at IsWithinLimits i items h.1) again

set_short : (k : List ℕ) (y : Value) (ps : Pairs) → IsWithinLimits y → AllByRecursion IsPair ps → AllByRecursion IsPair (set_key k y ps)
set_short k y [] h all = tt
set_short k y (p ∷ ps) h all = by_test (bytes_eq p.0 k) (set_short k y ps h all.1)
  where
    by_test : (b : Bool) → AllByRecursion IsPair (set_key k y ps) → AllByRecursion IsPair (cond b ((p.0, y) ∷ ps) (p ∷ set_key k y ps))
    by_test true again = ((all.0.0, h), all.1)
    by_test false again = (all.0, again)

length-set_key : (k : List ℕ) (y : Value) (ps : Pairs) → length (set_key k y ps) ≡ length ps
length-set_key k y [] = refl
length-set_key k y (p ∷ ps) = by_test (bytes_eq p.0 k) (length-set_key k y ps)
  where
    by_test : (b : Bool) → length (set_key k y ps) ≡ length ps → length {A = List ℕ × Value} (cond b ((p.0, y) ∷ ps) (p ∷ set_key k y ps)) ≡ suc (length ps)
    by_test true e = refl
    by_test false e = ap suc e

insert_short : (k : List ℕ) (y : Value) (ps : Pairs) → length k ≤ MAX_TEXT → IsWithinLimits y → AllByRecursion IsPair ps → AllByRecursion IsPair (insert_key k y ps)
insert_short k y [] l h all = ((l, h), tt)
insert_short k y (p ∷ ps) l h all = by_test (is_before p.0 k) (insert_short k y ps l h all.1)
  where
    by_test : (b : Bool) → AllByRecursion IsPair (insert_key k y ps) → AllByRecursion IsPair (cond b (p ∷ insert_key k y ps) ((k, y) ∷ p ∷ ps))
    by_test true again = (all.0, again)
    by_test false again = ((l, h), all)

length-insert_key : (k : List ℕ) (y : Value) (ps : Pairs) → length (insert_key k y ps) ≡ suc (length ps)
length-insert_key k y [] = refl
length-insert_key k y (p ∷ ps) = by_test (is_before p.0 k) (length-insert_key k y ps)
  where
    by_test : (b : Bool) → length (insert_key k y ps) ≡ suc (length ps) → length {A = List ℕ × Value} (cond b (p ∷ insert_key k y ps) ((k, y) ∷ p ∷ ps)) ≡ suc (suc (length ps))
    by_test true e = ap suc e
    by_test false e = refl

add_short : (k : List ℕ) (new : Value) (ps : Pairs) (rest : List Place) → length k ≤ MAX_TEXT → IsWithinLimits new → FewPairs ps → IsShortBy FewPairs (add_key k new ps rest)
add_short k new ps (p ∷ rest) l h all = tt
add_short k new ps [] l h all = elim (nat_lt (length ps) MAX_ITEMS) as (λ b. nat_lt (length ps) MAX_ITEMS ≡ b → IsShortBy FewPairs (cond b (Ok (insert_key k new ps)) (Err (TooLong (held (length ps + 1)))))) [
  | true ↦ (λ e. (let m = length-insert_key k new ps in let few : length ps < MAX_ITEMS = grind (arith, common_steps) in omega arith, insert_short k new ps l h all.1))
  | false ↦ (λ e. tt)
] refl

key_found : (k : List ℕ) (ps : Pairs) (o : Option Value) (missing : Result Pairs PutFault) (go : Value → Result Value PutFault) → FewPairs ps → IfFound IsWithinLimits o → IsShortBy FewPairs missing → ((w : Value) → IsWithinLimits w → IsShort (go w))
    → IsShortBy FewPairs (replace_key k ps o missing go)
key_found k ps None missing go h found m again = m
key_found k ps (Some x) missing go h found m again = mapped_short IsWithinLimits FewPairs (λ y. set_key k y ps) (go x)
    (λ y l. (let e = length-set_key k y ps in let few = h.0 in omega arith, set_short k y ps l h.1)) (again x found)

step_short : (p : Place) (x : Value-F Value) (rest : List Place) (new : Value) (go : Value → Result Value PutFault) → IsStep p → PartsShort x → IsWithinLimits new → ((w : Value) → IsWithinLimits w → IsShort (go w)) → IsShort (put_step p x rest new go)
step_short (Index i) (Value-F.List t items) rest new go s h n again = mapped_short Few IsWithinLimits (value.List t) (put_index i items go) (λ more few. list_limits t more few) (index_short i items go h again)
step_short (Index i) (Value-F.Map t ps) rest new go s h n again = tt
step_short (Index i) (Value-F.Bool b) rest new go s h n again = tt
step_short (Index i) (Value-F.Int m) rest new go s h n again = tt
step_short (Index i) (Value-F.Text u) rest new go s h n again = tt
step_short (Key k) (Value-F.Map t ps) rest new go s h n again = mapped_short FewPairs IsWithinLimits (value.Map t) (put_key k ps rest new go) (λ more few. map_limits t more few)
    (key_found k ps (at_key k ps) (add_key k new ps rest) go h (all_key k ps h.1) (add_short k new ps rest s n h) again)
step_short (Key k) (Value-F.List t items) rest new go s h n again = tt
step_short (Key k) (Value-F.Bool b) rest new go s h n again = tt
step_short (Key k) (Value-F.Int m) rest new go s h n again = tt
step_short (Key k) (Value-F.Text u) rest new go s h n again = tt

-- a value within the limits with a new part is within them
pub put_short : (path : List Place) (v new : Value) → AllByRecursion IsStep path → IsWithinLimits v → IsWithinLimits new → IsShort (put_in path v new)
put_short [] v new s h n = n
put_short (p ∷ ps) v new s h n = step_short p (out-Value v) ps new (λ w. put_in ps w new) s.0 (parts_short v h) n (λ w k. put_short ps w new s.1 k n)
