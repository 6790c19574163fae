-- The counter of a list loop: what its rows give.
use Rattle.std.proofs.Common.{◌⊎◌, inl, inr, ◌<ℤ◌, T, lt-ltb, ◌≡◌, ℕ, ℤ, pos, ◌+◌, ◌+ℤ◌, ◌<◌, ◌≤◌, Bool, true, false, cond, List, [], ◌∷◌, length, Option, Some, None, IsSome, Result, Ok, Err, slice_get, refl, sym, ap, ◌∙◌, subst, arith, min}
use Rattle.std.specs.Int.{int_wrap, w64}
use Rattle.std.specs.Ordering.{int_cmp, is_lt}
use Rattle.std.specs.declared.cmp.Ordering.TheVariants as ordering
use Rattle.std.specs.Cmp.{int_cmp_is}
use Rattle.std.proofs.lemmas.Int.{int_wrap_fits}
use Rattle.bds_value.specs.declared.TheConstants.{MAX_ITEMS}
use Rattle.bds_value.specs.declared.value.Op.TheVariants as op
use Rattle.bds_value.specs.declared.value.Place.TheVariants.{Index}
use Rattle.bds_value.specs.declared.value.Ty.TheVariants as ty
use Rattle.bds_value.specs.declared.value.Ty.{out-Ty}
use Rattle.bds_value.specs.declared.value.Ty.TheOpen.{Ty-F}
use Rattle.bds_value.specs.declared.value.Value.{Value, out-Value}
use Rattle.bds_value.specs.declared.value.Value.TheVariants as value
use Rattle.bds_value.specs.declared.value.Value.TheOpen.{Value-F}
use Rattle.bds_value.specs.Operators.{result_at}
use Rattle.bds_value.specs.Path.{child, item_of}
use Rattle.bds_value.specs.Value.{type_at}
use Rattle.bds_lib.specs.Call.{method_at}
use Rattle.bds_lib.specs.Results.{counted}
use Rattle.bds_lib.specs.Rows.{find, signatures_of}
use Rattle.bds_value.specs.declared.faults.RunFault.{RunFault}
use Rattle.bds_machine_values.specs.Faults.{Outcome, outcome}
use Rattle.bds_lib.specs.RunFaults.{lib_fault as as_lib_fault}
use Rattle.bds_machine_values.specs.Results.{called}
use Rattle.bds_machine_values.specs.Typing.{is_row, takes_all, arguments_of}
use Rattle.bds_meaning.specs.Computed.{computed}
use Rattle.bds_schedule.specs.Faults.{outcome as source_outcome}
use Rattle.bds_value.specs.RunFaults.{op_fault as source_fault, put_fault as source_put_fault}
use Rattle.bds_meaning.specs.Term.{Operated, ItemTaken, Increased}
use Rattle.bds_meaning.specs.Updates.{value_after}
use Rattle.bds_value.specs.Readers.{items_in, number_in, is_true}
use Rattle.bds_sim.proofs.Reading.{items_there as items_at}
use Rattle.bds_sim.proofs.Reading.{number_at}
use Rattle.bds_sim.proofs.Reading.{truth_at}

abbrev pub number : ℕ → Value
number n = value.Int (pos n)

pub truth_of : (b : Bool) → is_true (value.Bool b) ≡ b
truth_of b = ap truth_at (value.outs-Bool b)

number_of : (n : ℤ) → number_in (value.Int n) ≡ n
number_of n = ap number_at (value.outs-Int n)

-- whether a number is less than another

less : (a b : ℕ) → a < b → pos a <ℤ pos b
less a b h = record { lt = subst T (sym (lt-ltb a b h)) tt }

before_is : (a b : ℕ) → a < b → is_lt (int_cmp (pos a) (pos b)) ≡ true
before_is a b h = ap is_lt (sym (int_cmp_is (pos a) (pos b) ordering.Less (less a b h)))

pub less_is : (a b : ℕ) → computed (Operated op.Less) (number b ∷ number a ∷ []) ≡ Ok (value.Bool (is_lt (int_cmp (pos a) (pos b))))
less_is a b =
    ap (λ f. source_outcome source_fault (result_at op.Less f (out-Value (number b)) (number b))) (value.outs-Int (pos a))
    ∙ ap (λ f. source_outcome source_fault (result_at op.Less (Value-F.Int (pos a)) f (number b))) (value.outs-Int (pos b))

pub there_is : (a : ℕ) (l : List Value) (v : Value) → slice_get l a ≡ Some v → is_lt (int_cmp (pos a) (pos (length l))) ≡ true
there_is a l v e = before_is a (length l) (Rattle.std.proofs.lemmas.Option.slice_get_within l a v e)

not_before : (a b : ℕ) → b ≤ a → is_lt (int_cmp (pos a) (pos b)) ≡ false
not_before a b h = go (Rattle.std.specs.Prelude.nat_eq a b) refl
  where
    go : (c : Bool) → Rattle.std.specs.Prelude.nat_eq a b ≡ c → is_lt (int_cmp (pos a) (pos b)) ≡ false
    go true e = ap is_lt (sym (int_cmp_is (pos a) (pos b) ordering.Equal (let q : a ≡ b = grind (arith, e) in ap pos q)))
    go false e = ap is_lt (sym (int_cmp_is (pos a) (pos b) ordering.Greater (let q : b < a = grind (arith, e, h) in less b a q)))

pub past_is : (a : ℕ) (l : List Value) → slice_get l a ≡ None → is_lt (int_cmp (pos a) (pos (length l))) ≡ false
past_is a l e = go (Rattle.std.proofs.lemmas.Option.slice_get_cases l a).1
  where
    go : ((x : Value) × (a < length l) × (slice_get l a ≡ Some x) × (Rattle.std.proofs.Common.get_or l a x ≡ x)) ⊎ ((length l ≤ a) × (slice_get l a ≡ None)) → is_lt (int_cmp (pos a) (pos (length l))) ≡ false
    go = elim [
      | inl q ↦ absurd (Prim.cc (e, q.2))
      | inr q ↦ not_before a (length l) q.0
    ]

-- an item that is there

child_is : (f : Value-F Value) (i : ℕ) (v : Value) → slice_get (items_at f) i ≡ Some v → child (Index (pos i)) f ≡ Some v
child_is (Value-F.List t items) i v e = e
child_is (Value-F.Bool b) i v e = absurd (cc e)
child_is (Value-F.Int n) i v e = absurd (cc e)
child_is (Value-F.Text s) i v e = absurd (cc e)
child_is (Value-F.Map t ps) i v e = absurd (cc e)

pub item_is : (i : ℕ) (list v : Value) → slice_get (items_in list) i ≡ Some v → computed ItemTaken (number i ∷ list ∷ []) ≡ Ok v
item_is i list v e =
    ap (λ n. source_outcome source_put_fault (item_of (Index n ∷ []) list)) (number_of (pos i))
    ∙ ap (λ o. source_outcome source_put_fault (Rattle.bds_value.specs.Path.onward o (Rattle.bds_value.specs.Path.fault_at (Index (pos i)) (out-Value list)) (item_of []))) (child_is (out-Value list) i v e)

-- the number of items

abbrev sized : Bool → Value-F Value → Outcome Value
sized b f = cond b (outcome as_lib_fault (method_at 17 f [])) None

row_true : (b : Bool) (f : Value-F Value) → IsSome (sized b f) → b ≡ true
row_true true f h = refl
row_true false f h = absurd (cc h)

abbrev rows_of : Ty-F Rattle.bds_value.specs.declared.value.Ty.Ty → Bool
rows_of t = takes_all (arguments_of (find 17 (signatures_of t))) []

size_at : (f : Value-F Value) → IsSome (sized (is_row 17 (type_at f) []) f) → sized (is_row 17 (type_at f) []) f ≡ Some (Ok (value.Int (counted (length (items_at f)))))
size_at (Value-F.List t items) h = ap (λ b. sized b (Value-F.List t items)) (row_true (is_row 17 (ty.List t) []) (Value-F.List t items) h)
size_at (Value-F.Bool b) h = absurd (cc (ap rows_of ty.outs-Bool, row_true (is_row 17 ty.Bool []) (Value-F.Bool b) h))
size_at (Value-F.Int n) h = absurd (cc (ap rows_of ty.outs-Int, row_true (is_row 17 ty.Int []) (Value-F.Int n) h))
size_at (Value-F.Text s) h = absurd (cc (ap rows_of ty.outs-Text, row_true (is_row 17 ty.Text []) (Value-F.Text s) h))
size_at (Value-F.Map t ps) h = absurd (cc (ap rows_of (ty.outs-Map t), row_true (is_row 17 (ty.Map t) []) (Value-F.Map t ps) h))

counted_is : (n : ℕ) → n ≤ MAX_ITEMS → counted n ≡ pos n
counted_is n h = ap pos (grind (arith, h))

pub size_is : (v : Value) → length (items_in v) ≤ MAX_ITEMS → IsSome (called 17 v []) → called 17 v [] ≡ Some (Ok (number (length (items_in v))))
size_is v short h = size_at (out-Value v) h ∙ ap (λ z. Some (Ok (value.Int z))) (counted_is (length (items_in v)) short)

-- one more

one_more : (n : ℕ) → n < MAX_ITEMS → int_wrap w64 (pos n +ℤ pos 1) ≡ pos (n + 1)
one_more n h = int_wrap_fits w64 (pos (n + 1)) (omega (arith, h))

pub increased : (n : ℕ) → n < MAX_ITEMS → value_after Increased (number 1 ∷ []) [] (number n) ≡ Ok (number (n + 1))
increased n h =
    ap (λ f. Rattle.bds_schedule.specs.Faults.and_then (Rattle.bds_meaning.specs.Updates.added_at f (number n) (number 1)) (Rattle.bds_meaning.specs.Updates.put [] (number n))) (value.outs-Int (pos n))
    ∙ ap (λ f. Rattle.bds_schedule.specs.Faults.and_then (source_outcome source_fault (result_at op.Add f (out-Value (number 1)) (number 1))) (Rattle.bds_meaning.specs.Updates.put [] (number n))) (value.outs-Int (pos n))
    ∙ ap (λ f. Rattle.bds_schedule.specs.Faults.and_then (source_outcome source_fault (result_at op.Add (Value-F.Int (pos n)) f (number 1))) (Rattle.bds_meaning.specs.Updates.put [] (number n))) (value.outs-Int (pos 1))
    ∙ ap (λ z. ok_of (value.Int z)) (one_more n h)
  where
    ok_of : Value → Result Value RunFault
    ok_of v = Ok v
