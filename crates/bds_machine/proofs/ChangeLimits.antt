-- What a change leaves of a value within the limits is within them, or it is a fault of the run.
use Rattle.std.proofs.Common.{◌≡◌, ◌≤◌, ◌<◌, ◌+◌, ℕ, ℤ, zero, suc, List, [], ◌∷◌, length, take, drop, insert, remove, Bool, true, false, cond, Option, Some, None, Result, Ok, Err, nat_lt, refl, arith}
use Rattle.std.specs.Prelude.{⊤}
use Rattle.std.specs.Bool.{if◌then◌else◌, ◌==◌}
use Rattle.std.specs.List.{AllByRecursion}
use Rattle.std.specs.Str.{bytes_eq}
use Rattle.std.proofs.lemmas.Grind.{common_steps}
use Rattle.bds_value.specs.declared.TheConstants.{MAX_ITEMS}
use Rattle.bds_value.specs.declared.value.Ty.{Ty}
use Rattle.bds_value.specs.declared.value.Value.{Value, out-Value}
use Rattle.bds_value.specs.declared.value.Value.TheVariants as value
use Rattle.bds_value.specs.declared.value.Value.TheOpen.{Value-F}
use Rattle.bds_value.specs.Results.{result_map}
use Rattle.bds_value.specs.Spelling.{IsWithinLimits}
use Rattle.bds_value.specs.TextResult.{held}
use Rattle.bds_value.proofs.FormedLaws.{value_cases}
use Rattle.bds_lib.specs.declared.faults.LibFault.{LibFault}
use Rattle.bds_lib.specs.declared.faults.LibFault.TheVariants.{NoIndex, TooLong, NotANumber, NoMemory}
use Rattle.bds_lib.specs.Change.{without_first, without, without_key, inserted, add_at, remove_at, remove_index, list_changed, list_changed_at, list_change, map_changed, map_change, change_of}
use Rattle.bds_lib.specs.Lists.{is_same}
use Rattle.bds_lib.specs.Places.{place_within, place_below}
use Rattle.bds_lib.proofs.FormedLaws.{all_append, all_drop, all_take}
use Rattle.bds_machine.proofs.MethodLimits.{IsShort}
use Rattle.bds_machine.proofs.PathLimits.{Few, FewPairs, IsPair, Pairs, list_limits, map_limits, parts_short}

-- items within the limits, or a fault of the run
abbrev IsFew : Result (List Value) LibFault → Type 0
IsFew (Ok items) = Few items
IsFew (Err NoMemory) = ⊥
IsFew (Err e) = ⊤

either : (b : Bool) (x y : Result (List Value) LibFault) → IsFew x → IsFew y → IsFew (if b then x else y)
either true x y p q = p
either false x y p q = q

length-insert : (items : List Value) (at : ℕ) (x : Value) → length (insert items at x) ≤ suc (length items)
length-insert items zero x = omega arith
length-insert [] (suc at) x = omega arith
length-insert (v ∷ vs) (suc at) x = let e = length-insert vs at x in omega arith

length-remove : (items : List Value) (at : ℕ) → length (remove items at) ≤ length items
length-remove [] zero = omega arith
length-remove [] (suc at) = omega arith
length-remove (v ∷ vs) zero = omega arith
length-remove (v ∷ vs) (suc at) = let e = length-remove vs at in omega arith

inserted_few : (items : List Value) (at : ℕ) (x : Value) → Few items → IsWithinLimits x → IsFew (inserted items at x)
inserted_few items at x h k = elim (nat_lt (length items) MAX_ITEMS) as (λ b. nat_lt (length items) MAX_ITEMS ≡ b → IsFew (if b then Ok (insert items at x) else Err (TooLong (held (length items + 1))))) [
  | true ↦ (λ e. (
    let l : length items < MAX_ITEMS = grind (arith, common_steps) in let m = length-insert items at x in omega arith,
    all_append IsWithinLimits (take at items) (x ∷ drop at items) (all_take IsWithinLimits at items h.1) (k, all_drop IsWithinLimits at items h.1),
  ))
  | false ↦ (λ e. tt)
] refl

removed_few : (items : List Value) (at : ℕ) → Few items → IsFew (Ok (remove items at))
removed_few items at h = (let m = length-remove items at in let few = h.0 in omega arith, all_append IsWithinLimits (take at items) (drop (suc at) items) (all_take IsWithinLimits at items h.1) (all_drop IsWithinLimits (suc at) items h.1))

add_few : (items : List Value) (i : ℤ) (x : Value) (o : Option ℕ) → Few items → IsWithinLimits x → IsFew (add_at items i x o)
add_few items i x None h k = tt
add_few items i x (Some at) h k = inserted_few items at x h k

remove_few : (items : List Value) (i : ℤ) (o : Option ℕ) → Few items → IsFew (remove_at items i o)
remove_few items i None h = tt
remove_few items i (Some at) h = removed_few items at h

index_few : (items : List Value) (x : Value-F Value) → Few items → IsFew (remove_index items x)
index_few items (Value-F.Int i) h = remove_few items i (place_below (length items) i) h
index_few items (Value-F.Bool b) h = h
index_few items (Value-F.Text s) h = h
index_few items (Value-F.List t more) h = h
index_few items (Value-F.Map t ps) h = h

module _ {X : Type 0} (P : X → Type 0) (test : X → Bool) where
  without_all : (xs : List X) → AllByRecursion P xs → AllByRecursion P (without_first test xs)
  without_all [] h = tt
  without_all (x ∷ xs) h = by_test (test x) (without_all xs h.1)
    where
      by_test : (b : Bool) → AllByRecursion P (without_first test xs) → AllByRecursion P (cond b xs (x ∷ without_first test xs))
      by_test true again = h.1
      by_test false again = (h.0, again)

  length-without : (xs : List X) → length (without_first test xs) ≤ length xs
  length-without [] = omega arith
  length-without (x ∷ xs) = by_test (test x) (length-without xs)
    where
      by_test : (b : Bool) → length (without_first test xs) ≤ length xs → length (cond b xs (x ∷ without_first test xs)) ≤ length (x ∷ xs)
      by_test true e = omega arith
      by_test false e = omega arith

without_few : (x : Value) (items : List Value) → Few items → Few (without x items)
without_few x items h = (let m = length-without IsWithinLimits (λ v. is_same v x) items in let few = h.0 in omega arith, without_all IsWithinLimits (λ v. is_same v x) items h.1)

changed_few : (what : ℕ) (items : List Value) (x : Value) → Few items → IsWithinLimits x → IsFew (list_changed what items x)
changed_few what items x h k = either (what == 6) _ _ (inserted_few items (length items) x h k) (either (what == 8) _ _ (index_few items (out-Value x) h) (either (what == 9) _ _ (without_few x items h) h))

changed_at_few : (what : ℕ) (items : List Value) (i : Value-F Value) (x : Value) → Few items → IsWithinLimits x → IsFew (list_changed_at what items i x)
changed_at_few what items (Value-F.Int i) x h k = either (what == 7) _ _ (add_few items i x (place_within 0 (length items) i) h k) h
changed_at_few what items (Value-F.Bool b) x h k = h
changed_at_few what items (Value-F.Text s) x h k = h
changed_at_few what items (Value-F.List t more) x h k = h
changed_at_few what items (Value-F.Map t ps) x h k = h

list_change_few : (what : ℕ) (items args : List Value) → Few items → AllByRecursion IsWithinLimits args → IsFew (list_change what items args)
list_change_few what items [] h k = h
list_change_few what items (x ∷ []) h k = changed_few what items x h k.0
list_change_few what items (i ∷ x ∷ []) h k = changed_at_few what items (out-Value i) x h k.1.0
list_change_few what items (i ∷ x ∷ y ∷ rest) h k = h

key_few : (b : Bool) (k : List ℕ) (ps : Pairs) → FewPairs ps → FewPairs (if b then without_key k ps else ps)
key_few false k ps h = h
key_few true k ps h = (let m = length-without IsPair (λ p. bytes_eq p.0 k) ps in let few = h.0 in omega arith, without_all IsPair (λ p. bytes_eq p.0 k) ps h.1)

map_changed_few : (what : ℕ) (ps : Pairs) (x : Value-F Value) → FewPairs ps → FewPairs (map_changed what ps x)
map_changed_few what ps (Value-F.Text k) h = key_few (what == 10) k ps h
map_changed_few what ps (Value-F.Bool b) h = h
map_changed_few what ps (Value-F.Int n) h = h
map_changed_few what ps (Value-F.List t items) h = h
map_changed_few what ps (Value-F.Map t more) h = h

map_change_few : (what : ℕ) (ps : Pairs) (args : List Value) → FewPairs ps → FewPairs (map_change what ps args)
map_change_few what ps [] h = h
map_change_few what ps (x ∷ []) h = map_changed_few what ps (out-Value x) h
map_change_few what ps (x ∷ y ∷ rest) h = h

listed_short : (t : Ty) (r : Result (List Value) LibFault) → IsFew r → IsShort (result_map (value.List t) r)
listed_short t (Ok items) h = list_limits t items h
listed_short t (Err (NoIndex i n)) h = tt
listed_short t (Err (TooLong n)) h = tt
listed_short t (Err (NotANumber s)) h = tt
listed_short t (Err NoMemory) h = absurd h

abbrev Leaves : ℕ → List Value → Value → Type 0
Leaves what args v = IsWithinLimits v → AllByRecursion IsWithinLimits args → IsShort (change_of what v args)

-- a change of a value within the limits leaves one within them
pub change_short : (what : ℕ) (args : List Value) (v : Value) → IsWithinLimits v → AllByRecursion IsWithinLimits args → IsShort (change_of what v args)
change_short what args = value_cases (Leaves what args)
    (λ b h k. rw (value.outs-Bool b) h)
    (λ n h k. rw (value.outs-Int n) h)
    (λ s h k. rw (value.outs-Text s) h)
    (λ t items h k. let few = rw (value.outs-List t items) at (parts_short (value.List t items) h) in rw (value.outs-List t items) (listed_short t (list_change what items args) (list_change_few what items args few k)))
    (λ t ps h k. let few = rw (value.outs-Map t ps) at (parts_short (value.Map t ps) h) in rw (value.outs-Map t ps) (map_limits t (map_change what ps args) (map_change_few what ps args few)))
