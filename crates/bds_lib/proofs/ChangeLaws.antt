-- A change of a well-formed value leaves a well-formed one of its type.
use Rattle.std.proofs.Common.{◌≡◌, ℕ, suc, List, [], ◌∷◌, length, drop, take, insert, remove, Bool, true, false, cond, Option, Some, None, Result, Ok, Err, IfOk, refl, sym, ap, subst, ◌∙◌}
use Rattle.std.proofs.lemmas.Bool.{eqb-true}
use Rattle.std.proofs.lemmas.Cmp.{nat_list_cmp_total}
use Rattle.std.specs.Bool.{if◌then◌else◌, ◌==◌}
use Rattle.std.specs.List.{AllByRecursion}
use Rattle.std.specs.Ordering.{is_lt}
use Rattle.std.specs.Str.{bytes_eq}
use Rattle.std.specs.declared.cmp.Ordering.{Ordering}
use Rattle.std.specs.declared.cmp.Ordering.TheVariants.{Less, Equal, Greater}
use Rattle.bds_value.specs.declared.value.Ty.{Ty}
use Rattle.bds_value.specs.declared.value.Value.{Value, out-Value}
use Rattle.bds_value.specs.declared.value.Value.TheVariants as value
use Rattle.bds_value.specs.declared.value.Value.TheOpen.{Value-F}
use Rattle.bds_value.specs.Results.{result_map}
use Rattle.bds_value.specs.Order.{text_cmp, is_before, KeysRise, BeginsBehind}
use Rattle.bds_value.specs.Value.{type_of, FitsHere, IsWellFormed}
use Rattle.bds_value.proofs.Every.{every-Map}
use Rattle.bds_value.proofs.FormedLaws.{value_cases}
use Rattle.bds_value.proofs.ValueFieldLaws.{type_of-List, type_of-Map}
use Rattle.bds_lib.specs.declared.faults.LibFault.{LibFault}
use Rattle.bds_lib.specs.declared.faults.LibFault.TheVariants.{NoIndex, TooLong, NotANumber, NoMemory}
use Rattle.bds_lib.specs.Change.{without_first, inserted, add_at, remove_at, remove_index, list_changed, list_changed_at, list_change, map_changed, map_change, change_of}
use Rattle.bds_lib.proofs.Fits.{ListTakes, Takes}
use Rattle.bds_lib.specs.Lists.{is_same}
use Rattle.bds_lib.specs.Places.{place_within, place_below}
use Rattle.bds_lib.specs.Results.{Changes}
use Rattle.bds_lib.proofs.FormedLaws.{Fits, FitsIn, all_append, all_drop, all_take, list_formed, list_fits}

-- items of a type, where there are some
Kept : Ty → Result (List Value) LibFault → Type 0
Kept t r = IfOk r (Fits t)

kept_ok : (t : Ty) (items : List Value) → Fits t items → Kept t (Ok items)
unfolding Kept
kept_ok t items h = h

kept_err : (t : Ty) (e : LibFault) → Kept t (Err e)
unfolding Kept
kept_err t e = tt

when : (t : Ty) (b : Bool) (x y : Result (List Value) LibFault) → (b ≡ true → Kept t x) → Kept t y → Kept t (if b then x else y)
when t true x y p q = p refl
when t false x y p q = q

without_all : {X : Type 0} (P : X → Type 0) (test : X → Bool) (xs : List X) → AllByRecursion P xs → AllByRecursion P (without_first test xs)
without_all P test [] h = tt
without_all P test (x ∷ xs) h = by_test (test x) (without_all P test xs h.1)
  where
    by_test : (b : Bool) → AllByRecursion P (without_first test xs) → AllByRecursion P (cond b xs (x ∷ without_first test xs))
    by_test true again = h.1
    by_test false again = (h.0, again)

inserted_kept : (t : Ty) (items : List Value) (at : ℕ) (x : Value) → Fits t items → FitsIn t x → Kept t (inserted items at x)
inserted_kept t items at x h g =
    when t _ _ _ (λ e. kept_ok t (insert items at x) (all_append (FitsIn t) (take at items) (x ∷ drop at items) (all_take (FitsIn t) at items h) (g, all_drop (FitsIn t) at items h))) (kept_err t _)

removed_kept : (t : Ty) (items : List Value) (at : ℕ) → Fits t items → Kept t (Ok (remove items at))
removed_kept t items at h = kept_ok t (remove items at) (all_append (FitsIn t) (take at items) (drop (suc at) items) (all_take (FitsIn t) at items h) (all_drop (FitsIn t) (suc at) items h))

index_kept : (t : Ty) (items : List Value) (x : Value-F Value) → Fits t items → Kept t (remove_index items x)
index_kept t items (Value-F.Int i) h = by_place (place_below (length items) i)
  where
    by_place : (o : Option ℕ) → Kept t (remove_at items i o)
    by_place None = kept_err t _
    by_place (Some at) = removed_kept t items at h
index_kept t items (Value-F.Bool b) h = kept_ok t items h
index_kept t items (Value-F.Text s) h = kept_ok t items h
index_kept t items (Value-F.List u more) h = kept_ok t items h
index_kept t items (Value-F.Map u ps) h = kept_ok t items h

with_kept : (what : ℕ) (t : Ty) (items : List Value) (x : Value) → Fits t items → IsWellFormed x → (what ≡ 6 → type_of x ≡ t) → Kept t (list_changed what items x)
with_kept what t items x h formed typed =
    when t _ _ _ (λ e. inserted_kept t items (length items) x h (typed (eqb-true what 6 e), formed)) (
    when t _ _ _ (λ e. index_kept t items (out-Value x) h) (
    when t _ _ _ (λ e. kept_ok t _ (without_all (FitsIn t) (λ v. is_same v x) items h)) (kept_ok t items h)))

at_kept : (what : ℕ) (t : Ty) (items : List Value) (i : Value-F Value) (x : Value) → Fits t items → IsWellFormed x → (what ≡ 7 → type_of x ≡ t) → Kept t (list_changed_at what items i x)
at_kept what t items (Value-F.Int i) x h formed typed =
    when t _ _ _ (λ e. by_place (typed (eqb-true what 7 e)) (place_within 0 (length items) i)) (kept_ok t items h)
  where
    by_place : type_of x ≡ t → (o : Option ℕ) → Kept t (add_at items i x o)
    by_place is None = kept_err t _
    by_place is (Some at) = inserted_kept t items at x h (is, formed)
at_kept what t items (Value-F.Bool b) x h formed typed = kept_ok t items h
at_kept what t items (Value-F.Text s) x h formed typed = kept_ok t items h
at_kept what t items (Value-F.List u more) x h formed typed = kept_ok t items h
at_kept what t items (Value-F.Map u ps) x h formed typed = kept_ok t items h

list_kept : (what : ℕ) (t : Ty) (items args : List Value) → Fits t items → AllByRecursion IsWellFormed args → ListTakes what t args → Kept t (list_change what items args)
list_kept what t items [] h formed takes = kept_ok t items h
list_kept what t items (x ∷ []) h formed takes = with_kept what t items x h formed.0 takes
list_kept what t items (i ∷ x ∷ []) h formed takes = at_kept what t items (out-Value i) x h formed.1.0 takes
list_kept what t items (i ∷ x ∷ y ∷ rest) h formed takes = kept_ok t items h

-- a pair that is taken away leaves keys that rise
is_less : (o : Ordering) → is_lt o ≡ true → o ≡ Less
is_less Less e = refl
is_less Equal e = absurd (cc)
is_less Greater e = absurd (cc)

before_both : (a b c : List ℕ) → is_before a b ≡ true → is_before b c ≡ true → is_before a c ≡ true
before_both a b c p q = ap is_lt (nat_list_cmp_total.trans a b c (is_less (text_cmp a b) p) (is_less (text_cmp b c) q))

begins_later : (j : List ℕ) (p : List ℕ × Value) (ps : List (List ℕ × Value)) → is_before j p.0 ≡ true → BeginsBehind p.0 ps → BeginsBehind j ps
begins_later j p [] h b = tt
begins_later j p (q ∷ qs) h b = before_both j p.0 q.0 h b

begins_without : (j : List ℕ) (test : List ℕ × Value → Bool) (ps : List (List ℕ × Value)) → KeysRise ps → BeginsBehind j ps → BeginsBehind j (without_first test ps)
begins_without j test [] r b = tt
begins_without j test (p ∷ ps) r b = by_test (test p)
  where
    by_test : (t : Bool) → BeginsBehind j (cond t ps (p ∷ without_first test ps))
    by_test true = begins_later j p ps b r.0
    by_test false = b

rise_without : (test : List ℕ × Value → Bool) (ps : List (List ℕ × Value)) → KeysRise ps → KeysRise (without_first test ps)
rise_without test [] r = tt
rise_without test (p ∷ ps) r = by_test (test p) (rise_without test ps r.1)
  where
    by_test : (t : Bool) → KeysRise (without_first test ps) → KeysRise (cond t ps (p ∷ without_first test ps))
    by_test true again = r.1
    by_test false again = (begins_without p.0 test ps r.1 r.0, again)

without_formed : (t : Ty) (test : List ℕ × Value → Bool) (ps : List (List ℕ × Value)) → IsWellFormed (value.Map t ps) → IsWellFormed (value.Map t (without_first test ps))
without_formed t test ps h =
    let both = (every-Map FitsHere t ps).0 h in
    (every-Map FitsHere t (without_first test ps)).1 (
      (
        without_all {X = List ℕ × Value} (λ p. type_of p.1 ≡ t) test ps both.0.0,
        rise_without test ps both.0.1,
      ),
      without_all {X = List ℕ × Value} (λ p. IsWellFormed p.1) test ps both.1,
    )

key_formed : (what : ℕ) (t : Ty) (ps : List (List ℕ × Value)) (x : Value-F Value) → IsWellFormed (value.Map t ps) → IsWellFormed (value.Map t (map_changed what ps x))
key_formed what t ps (Value-F.Text k) h = by_test (what == 10)
  where
    by_test : (b : Bool) → IsWellFormed (value.Map t (if b then without_first (λ p. bytes_eq p.0 k) ps else ps))
    by_test true = without_formed t (λ p. bytes_eq p.0 k) ps h
    by_test false = h
key_formed what t ps (Value-F.Bool b) h = h
key_formed what t ps (Value-F.Int n) h = h
key_formed what t ps (Value-F.List u items) h = h
key_formed what t ps (Value-F.Map u more) h = h

map_formed : (what : ℕ) (t : Ty) (ps : List (List ℕ × Value)) (args : List Value) → IsWellFormed (value.Map t ps) → IsWellFormed (value.Map t (map_change what ps args))
map_formed what t ps [] h = h
map_formed what t ps (x ∷ []) h = key_formed what t ps (out-Value x) h
map_formed what t ps (x ∷ y ∷ rest) h = h

-- a well-formed value of the type of another
abbrev pub Like : Value → Value → Type 0
Like v w = IsWellFormed w × (type_of w ≡ type_of v)

Stays : Value → Result Value LibFault → Type 0
Stays v r = IfOk r (Like v)

stays_ok : (v w : Value) → Like v w → Stays v (Ok w)
unfolding Stays
stays_ok v w h = h

stays_list : (t : Ty) (items : List Value) (r : Result (List Value) LibFault) → Kept t r → Stays (value.List t items) (result_map (value.List t) r)
unfolding Stays Kept
stays_list t items (Ok more) h = (list_formed t more h, type_of-List t more ∙ sym (type_of-List t items))
stays_list t items (Err e) h = tt

abbrev Leaves : ℕ → List Value → Value → Type 0
Leaves what args v = IsWellFormed v → AllByRecursion IsWellFormed args → Takes what v args → Stays v (change_of what v args)

leaves : (what : ℕ) (args : List Value) (v : Value) → Leaves what args v
leaves what args = value_cases (Leaves what args)
    (λ b h formed takes. rw (value.outs-Bool b) (stays_ok (value.Bool b) (value.Bool b) (h, refl)))
    (λ n h formed takes. rw (value.outs-Int n) (stays_ok (value.Int n) (value.Int n) (h, refl)))
    (λ s h formed takes. rw (value.outs-Text s) (stays_ok (value.Text s) (value.Text s) (h, refl)))
    (λ t items h formed takes.
    let given : ListTakes what t args = rw (value.outs-List t items) at takes in
    rw (value.outs-List t items) (stays_list t items (list_change what items args) (list_kept what t items args (list_fits t items h) formed given)))
    (λ t ps h formed takes.
    rw (value.outs-Map t ps) (stays_ok (value.Map t ps) (value.Map t (map_change what ps args)) (map_formed what t ps args h, type_of-Map t (map_change what ps args) ∙ sym (type_of-Map t ps))))

pub left_formed : (given : Result Value LibFault) (old new : Value) (r : Result (Unit {0}) LibFault) → Changes given old new r → IsWellFormed old → IfOk given (Like old) → Like old new
left_formed given old new (Ok u) same formed h = subst (λ g. IfOk g (Like old)) same h
left_formed given old new (Err NoMemory) same formed h = subst (Like old) (sym same) (formed, refl)
left_formed given old new (Err (NoIndex i n)) same formed h = subst (Like old) (sym same.1) (formed, refl)
left_formed given old new (Err (TooLong n)) same formed h = subst (Like old) (sym same.1) (formed, refl)
left_formed given old new (Err (NotANumber t)) same formed h = subst (Like old) (sym same.1) (formed, refl)

-- what a change leaves of a well-formed value, where an item that it adds has the items' type
pub change_formed : (what : ℕ) (v : Value) (args : List Value) → IsWellFormed v → AllByRecursion IsWellFormed args → Takes what v args → IfOk (change_of what v args) (Like v)
unfolding Stays
change_formed what v args h formed takes = leaves what args v h formed takes
