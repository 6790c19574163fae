-- What the calls of a `BTreeMap` of texts leave, as pairs whose keys rise.
use Rattle.std.proofs.Common.{◌≡◌, ℕ, List, [], ◌∷◌, ◌++◌, Bool, true, false, cond, Option, Some, None, IsSome, refl, sym, ap, subst, ◌∙◌}
use Rattle.std.proofs.lemmas.Cmp.{nat_list_cmp_total}
use Rattle.std.proofs.lemmas.Map.Text.{is_eq-slice_cmp}
use Rattle.std.specs.BTreeMap.{insert_entry, is_at}
use Rattle.std.specs.List.Sorted.{IsStrictlySortedBy}
use Rattle.std.specs.Map.{keys_of, lookup, remove_entry, set_value}
use Rattle.std.specs.Ordering.{is_lt, is_eq, ordering_reverse}
use Rattle.std.specs.Str.{bytes_eq}
use Rattle.std.specs.declared.cmp.Ordering.{Ordering}
use Rattle.std.specs.declared.cmp.Ordering.TheVariants.{Less, Equal, Greater}
use Rattle.bds_value.specs.Order.{text_cmp, is_before, KeysRise}
use Rattle.bds_value.specs.Path.{at_key, insert_key, set_key, without_key}
use Rattle.bds_value.proofs.KeyPlaces.{gone}

is_eq_back : (o : Ordering) → is_eq (ordering_reverse o) ≡ is_eq o
is_eq_back Less = refl
is_eq_back Equal = refl
is_eq_back Greater = refl

-- two texts are the same whichever is compared to the other
same_test : (k j : List ℕ) → is_at (text_cmp k) j ≡ bytes_eq j k
same_test k j = ap is_eq (nat_list_cmp_total.antisymm k j) ∙ is_eq_back (text_cmp j k) ∙ is_eq-slice_cmp j k

module _ {X : Type 0} (k : List ℕ) where
  pub lookup_is : (ps : List (List ℕ × X)) → lookup (is_at (text_cmp k)) ps ≡ at_key k ps
  lookup_is [] = refl
  lookup_is (p ∷ ps) = ap (λ b. cond b (Some p.1) (lookup (is_at (text_cmp k)) ps)) (same_test k p.0) ∙ ap (cond (bytes_eq p.0 k) (Some p.1)) (lookup_is ps)

  pub remove_is : (ps : List (List ℕ × X)) → remove_entry (is_at (text_cmp k)) ps ≡ without_key k ps
  remove_is [] = refl
  remove_is (p ∷ ps) = ap (λ b. cond b ps (p ∷ remove_entry (is_at (text_cmp k)) ps)) (same_test k p.0) ∙ ap (λ qs. cond (bytes_eq p.0 k) ps (p ∷ qs)) (remove_is ps)

  pub set_is : (x : X) (ps : List (List ℕ × X)) → set_value (is_at (text_cmp k)) ps x ≡ set_key k x ps
  set_is x [] = refl
  set_is x (p ∷ ps) = ap (λ b. cond b ((p.0, x) ∷ ps) (p ∷ set_value (is_at (text_cmp k)) ps x)) (same_test k p.0) ∙ ap (λ qs. cond (bytes_eq p.0 k) ((p.0, x) ∷ ps) (p ∷ qs)) (set_is x ps)

  pub insert_is : (x : X) (ps : List (List ℕ × X)) → at_key k ps ≡ None → insert_entry text_cmp ps k x ≡ insert_key k x ps
  insert_is x [] none = refl
  insert_is x (p ∷ ps) none = by_test (insert_is x ps) (bytes_eq p.0 k) refl
    where
      by_test : (at_key k ps ≡ None → insert_entry text_cmp ps k x ≡ insert_key k x ps) → (t : Bool) → bytes_eq p.0 k ≡ t → insert_entry text_cmp (p ∷ ps) k x ≡ insert_key k x (p ∷ ps)
      by_test again true t = let there : Some p.1 ≡ None = rw t at none in absurd (cc)
      by_test again false t = let later : at_key k ps ≡ None = rw t at none in by_order (again later) t (text_cmp p.0 k) refl
        where
          by_order : insert_entry text_cmp ps k x ≡ insert_key k x ps → bytes_eq p.0 k ≡ false → (o : Ordering) → text_cmp p.0 k ≡ o → insert_entry text_cmp (p ∷ ps) k x ≡ insert_key k x (p ∷ ps)
          by_order rest differ Less e = rw (nat_list_cmp_total.antisymm k p.0, e) (ap (λ l. p ∷ l) rest)
          by_order rest differ Equal e = let same : bytes_eq p.0 k ≡ true = sym (is_eq-slice_cmp p.0 k) ∙ ap is_eq e in absurd (cc)
          by_order rest differ Greater e = rw (nat_list_cmp_total.antisymm k p.0, e) refl

-- a value goes to the key that is there
pub replace_is : {X : Type 0} (k : List ℕ) (x : X) (ps : List (List ℕ × X)) → KeysRise ps → IsSome (at_key k ps) → insert_entry text_cmp ps k x ≡ set_key k x ps
replace_is k x [] r there = absurd (cc)
replace_is {X} k x (p ∷ ps) r there = by_order (replace_is k x ps r.1) (text_cmp k p.0) refl
  where
    by_order : (IsSome (at_key k ps) → insert_entry text_cmp ps k x ≡ set_key k x ps) → (o : Ordering) → text_cmp k p.0 ≡ o → insert_entry text_cmp (p ∷ ps) k x ≡ set_key k x (p ∷ ps)
    by_order again Less e = let none : false ≡ true = subst (λ (o : Option X). IsSome o) (gone k (p ∷ ps) (ap is_lt e) r) there in absurd (cc)
    by_order again Equal e = let same : bytes_eq p.0 k ≡ true = sym (same_test k p.0) ∙ ap is_eq e in rw e (rw same refl)
    by_order again Greater e =
        let differ : bytes_eq p.0 k ≡ false = sym (same_test k p.0) ∙ ap is_eq e in
        let later : IsSome (at_key k ps) = rw differ at there in
        rw e (rw differ (ap (λ l. p ∷ l) (again later)))

-- keys that ascend rise
pub rise_sorted : {X : Type 0} (ps : List (List ℕ × X)) → IsStrictlySortedBy text_cmp (keys_of ps) → KeysRise ps
unfolding IsStrictlySortedBy
rise_sorted [] s = tt
rise_sorted (p ∷ []) s = (tt, tt)
rise_sorted (p ∷ q ∷ ps) s = (ap is_lt s.0.0, rise_sorted (q ∷ ps) s.1)

not_before : (a b : List ℕ) → is_before a b ≡ true → is_before b a ≡ false
not_before a b h = ap is_lt (nat_list_cmp_total.antisymm b a) ∙ by_order (text_cmp a b) h
  where
    by_order : (o : Ordering) → is_lt o ≡ true → is_lt (ordering_reverse o) ≡ false
    by_order Less h = refl
    by_order Equal h = refl
    by_order Greater h = absurd (cc)

-- a pair before the first of pairs that rise goes to their front
pub insert_first : {X : Type 0} (k : List ℕ) (x : X) (ps : List (List ℕ × X)) → KeysRise ((k, x) ∷ ps) → insert_key k x ps ≡ (k, x) ∷ ps
insert_first k x [] r = refl
insert_first k x (p ∷ ps) r = rw (not_before k p.0 r.0) refl

pub not_there : {X : Type 0} (k : List ℕ) (x : X) (ps : List (List ℕ × X)) → KeysRise ((k, x) ∷ ps) → at_key k ps ≡ None
not_there k x ps r = gone k ps r.0 r.1

-- the later ones of pairs that rise do so, too
pub rise_later : {X : Type 0} (xs ps : List (List ℕ × X)) → KeysRise (xs ++ ps) → KeysRise ps
rise_later [] ps r = r
rise_later (x ∷ xs) ps r = rise_later xs ps r.1
