-- A map made from its last pair to its first, where the first that is put at a key counts.
use Rattle.std.proofs.Common.{◌≡◌, ℕ, List, [], ◌∷◌, Bool, true, false, cond, is_some, Option, Some, None, refl, sym, ap, ◌∙◌}
use Rattle.std.proofs.lemmas.Slice.Eq.{bytes_eq-Decides}
use Rattle.std.specs.Str.{bytes_eq}
use Rattle.bds_value.specs.declared.value.Value.{Value}
use Rattle.bds_value.specs.Order.{is_before, KeysRise}
use Rattle.bds_value.specs.Path.{at_key, set_key, insert_key}
use Rattle.bds_value.proofs.KeyLaws.{other_before, rise-insert_key}
use Rattle.bds_machine_values.specs.Literals.{Pairs, with_pair, with_pairs}
use Rattle.bds_value.proofs.KeyPlaces.{apart, gone}
use Rattle.bds_machine_values.proofs.Keys.{rise-with_pair}

-- with a pair whose key isn't there yet
abbrev pub with_first : Pairs → List ℕ × Value → Pairs
with_first ps p = cond (is_some (at_key p.0 ps)) ps (insert_key p.0 p.1 ps)

-- two tests of which at most one holds, in either order
either_order : {Y : Type 0} (b c : Bool) (x y z : Y) → (b ≡ true → c ≡ true → ⊥) → cond b x (cond c y z) ≡ cond c y (cond b x z)
either_order true true x y z h = absurd (h refl refl)
either_order true false x y z h = refl
either_order false true x y z h = refl
either_order false false x y z h = refl

same_key : (k : List ℕ) → bytes_eq k k ≡ true
same_key k = (bytes_eq-Decides k k).1 refl

not_both : (p k j : List ℕ) → bytes_eq p k ≡ false → bytes_eq p j ≡ true → bytes_eq k j ≡ true → ⊥
not_both p k j n a b =
    let same : bytes_eq p k ≡ true = (bytes_eq-Decides p k).1 ((bytes_eq-Decides p j).0 a ∙ sym ((bytes_eq-Decides k j).0 b)) in
    absurd (cc)

module _ {X : Type 0} where
  at-set_key : (j k : List ℕ) (x : X) (ps : List (List ℕ × X)) → is_some (at_key k ps) ≡ true → at_key j (set_key k x ps) ≡ cond (bytes_eq k j) (Some x) (at_key j ps)
  at-set_key j k x [] h = absurd (cc)
  at-set_key j k x (p ∷ ps) h = by_test (at-set_key j k x ps) (bytes_eq p.0 k) refl
    where
      again_same : (b : Bool) (x y : Option X) (z : Option X) → cond b x z ≡ cond b x (cond b y z)
      again_same true x y z = refl
      again_same false x y z = refl

      by_test : (is_some (at_key k ps) ≡ true → at_key j (set_key k x ps) ≡ cond (bytes_eq k j) (Some x) (at_key j ps)) → (t : Bool) → bytes_eq p.0 k ≡ t
          → at_key j (cond (bytes_eq p.0 k) ((p.0, x) ∷ ps) (p ∷ set_key k x ps)) ≡ cond (bytes_eq k j) (Some x) (cond (bytes_eq p.0 j) (Some p.1) (at_key j ps))
      by_test again true t =
          let same : p.0 ≡ k = (bytes_eq-Decides p.0 k).0 t in
          rw t (again_same (bytes_eq p.0 j) (Some x) (Some p.1) (at_key j ps) ∙ ap (λ k. cond (bytes_eq k j) (Some x) (cond (bytes_eq p.0 j) (Some p.1) (at_key j ps))) same)
      by_test again false t =
          let there : is_some (at_key k ps) ≡ true = rw t at h in
          rw t (ap (cond (bytes_eq p.0 j) (Some p.1)) (again there) ∙ either_order (bytes_eq p.0 j) (bytes_eq k j) (Some p.1) (Some x) (at_key j ps) (not_both p.0 k j t))

  at-insert_key : (j k : List ℕ) (x : X) (ps : List (List ℕ × X)) → at_key j (insert_key k x ps) ≡ cond (bytes_eq k j) (Some x) (at_key j ps)
  at-insert_key j k x [] = refl
  at-insert_key j k x (p ∷ ps) = by_order (at-insert_key j k x ps) (is_before p.0 k) refl
    where
      by_order : at_key j (insert_key k x ps) ≡ cond (bytes_eq k j) (Some x) (at_key j ps) → (b : Bool) → is_before p.0 k ≡ b
          → at_key j (cond (is_before p.0 k) (p ∷ insert_key k x ps) ((k, x) ∷ p ∷ ps)) ≡ cond (bytes_eq k j) (Some x) (cond (bytes_eq p.0 j) (Some p.1) (at_key j ps))
      by_order again true o = rw o (ap (cond (bytes_eq p.0 j) (Some p.1)) again ∙ either_order (bytes_eq p.0 j) (bytes_eq k j) (Some p.1) (Some x) (at_key j ps) (not_both p.0 k j (apart p.0 k o)))
      by_order again false o = rw o refl

  at-first : (p : List ℕ × X) (ps : List (List ℕ × X)) → at_key p.0 (p ∷ ps) ≡ Some p.1
  at-first p ps = ap (λ b. cond b (Some p.1) (at_key p.0 ps)) (same_key p.0)

  -- pairs that rise are known by what stands at each key
  same_pairs : (ps qs : List (List ℕ × X)) → KeysRise ps → KeysRise qs → ((j : List ℕ) → at_key j ps ≡ at_key j qs) → ps ≡ qs
  same_pairs [] [] r s h = refl
  same_pairs [] (q ∷ qs) r s h = let none : None ≡ Some q.1 = h q.0 ∙ at-first q qs in absurd (cc)
  same_pairs (p ∷ ps) [] r s h = let none : Some p.1 ≡ None = sym (at-first p ps) ∙ h p.0 in absurd (cc)
  same_pairs (p ∷ ps) (q ∷ qs) r s h = by_order (same_pairs ps qs r.1 s.1) (is_before p.0 q.0) (is_before q.0 p.0) refl refl
    where
      by_key : bytes_eq p.0 q.0 ≡ true → (((j : List ℕ) → at_key j ps ≡ at_key j qs) → ps ≡ qs) → p ∷ ps ≡ q ∷ qs
      by_key same again =
          let keys : p.0 ≡ q.0 = (bytes_eq-Decides p.0 q.0).0 same in
          let values : Some p.1 ≡ Some q.1 = sym (at-first p ps) ∙ h p.0 ∙ ap (λ k. at_key k (q ∷ qs)) keys ∙ at-first q qs in
          let value : p.1 ≡ q.1 = cc in
          let firsts : p ≡ q = ap (λ k. (k, p.1)) keys ∙ ap (λ x. (q.0, x)) value in
          ap (λ p. p ∷ ps) firsts ∙ ap (λ ps. q ∷ ps) (again (λ j. later j (bytes_eq p.0 j) refl))
        where
          later : (j : List ℕ) (b : Bool) → bytes_eq p.0 j ≡ b → at_key j ps ≡ at_key j qs
          later j true e =
              let here : p.0 ≡ j = (bytes_eq-Decides p.0 j).0 e in
              let there : q.0 ≡ j = sym ((bytes_eq-Decides p.0 q.0).0 same) ∙ here in
              ap (λ k. at_key k ps) (sym here) ∙ gone p.0 ps r.0 r.1 ∙ sym (gone q.0 qs s.0 s.1) ∙ ap (λ k. at_key k qs) there
          later j false e =
              let other : bytes_eq q.0 j ≡ false = ap (λ k. bytes_eq k j) (sym ((bytes_eq-Decides p.0 q.0).0 same)) ∙ e in
              ap (λ b. cond b (Some p.1) (at_key j ps)) (sym e) ∙ h j ∙ ap (λ b. cond b (Some q.1) (at_key j qs)) other

      by_order : (((j : List ℕ) → at_key j ps ≡ at_key j qs) → ps ≡ qs) → (a b : Bool) → is_before p.0 q.0 ≡ a → is_before q.0 p.0 ≡ b → p ∷ ps ≡ q ∷ qs
      by_order again true b e f = let none : Some p.1 ≡ None = sym (at-first p ps) ∙ h p.0 ∙ gone p.0 (q ∷ qs) e s in absurd (cc)
      by_order again false true e f = let none : None ≡ Some q.1 = sym (gone q.0 (p ∷ ps) f r) ∙ h q.0 ∙ at-first q qs in absurd (cc)
      by_order again false false e f = by_key (equal (bytes_eq p.0 q.0) refl) again
        where
          equal : (t : Bool) → bytes_eq p.0 q.0 ≡ t → bytes_eq p.0 q.0 ≡ true
          equal true t = t
          equal false t = let before : is_before q.0 p.0 ≡ true = other_before p.0 q.0 e t in absurd (cc)

at-with_pair : (j : List ℕ) (ps : Pairs) (p : List ℕ × Value) → at_key j (with_pair ps p) ≡ cond (bytes_eq p.0 j) (Some p.1) (at_key j ps)
at-with_pair j ps p = by_test (is_some (at_key p.0 ps)) refl
  where
    by_test : (b : Bool) → is_some (at_key p.0 ps) ≡ b → at_key j (cond (is_some (at_key p.0 ps)) (set_key p.0 p.1 ps) (insert_key p.0 p.1 ps)) ≡ cond (bytes_eq p.0 j) (Some p.1) (at_key j ps)
    by_test true e = rw e (at-set_key j p.0 p.1 ps e)
    by_test false e = rw e (at-insert_key j p.0 p.1 ps)

-- what is there, or else another
abbrev or_else : {Y : Type 0} → Option Y → Option Y → Option Y
or_else (Some y) o = Some y
or_else None o = o

at-with_first : (j : List ℕ) (ps : Pairs) (p : List ℕ × Value) → at_key j (with_first ps p) ≡ or_else (at_key j ps) (cond (bytes_eq p.0 j) (Some p.1) None)
at-with_first j ps p = by_value (at_key p.0 ps) refl
  where
    kept : (t : Bool) → bytes_eq p.0 j ≡ t → (x : Value) → at_key p.0 ps ≡ Some x → at_key j ps ≡ or_else (at_key j ps) (cond (bytes_eq p.0 j) (Some p.1) None)
    kept true t x e =
        let here : at_key j ps ≡ Some x = ap (λ k. at_key k ps) (sym ((bytes_eq-Decides p.0 j).0 t)) ∙ e in
        here ∙ ap (λ o. or_else o (cond (bytes_eq p.0 j) (Some p.1) None)) (sym here)
    kept false t x e = alone (at_key j ps) ∙ ap (λ b. or_else (at_key j ps) (cond b (Some p.1) None)) (sym t)
      where
        alone : (o : Option Value) → o ≡ or_else o None
        alone None = refl
        alone (Some y) = refl

    added : (t : Bool) → bytes_eq p.0 j ≡ t → at_key p.0 ps ≡ None → cond (bytes_eq p.0 j) (Some p.1) (at_key j ps) ≡ or_else (at_key j ps) (cond (bytes_eq p.0 j) (Some p.1) None)
    added true t e =
        let here : at_key j ps ≡ None = ap (λ k. at_key k ps) (sym ((bytes_eq-Decides p.0 j).0 t)) ∙ e in
        rw (t, here) refl
    added false t e = rw t (alone (at_key j ps))
      where
        alone : (o : Option Value) → o ≡ or_else o None
        alone None = refl
        alone (Some y) = refl

    by_value : (o : Option Value) → at_key p.0 ps ≡ o → at_key j (cond (is_some (at_key p.0 ps)) ps (insert_key p.0 p.1 ps)) ≡ or_else (at_key j ps) (cond (bytes_eq p.0 j) (Some p.1) None)
    by_value (Some x) e = rw e (kept (bytes_eq p.0 j) refl x e)
    by_value None e = rw e (at-insert_key j p.0 p.1 ps ∙ added (bytes_eq p.0 j) refl e)

pub rise-with_first : (ps : Pairs) (p : List ℕ × Value) → KeysRise ps → KeysRise (with_first ps p)
rise-with_first ps p r = by_value (at_key p.0 ps) refl
  where
    by_value : (o : Option Value) → at_key p.0 ps ≡ o → KeysRise (cond (is_some (at_key p.0 ps)) ps (insert_key p.0 p.1 ps))
    by_value (Some x) e = rw e r
    by_value None e = rw e (rise-insert_key p.0 p.1 ps e r)

-- a pair that counts, put before or behind one that doesn't
exchanged : (ps : Pairs) (p q : List ℕ × Value) → KeysRise ps → with_pair (with_first ps p) q ≡ with_first (with_pair ps q) p
exchanged ps p q r =
    same_pairs (with_pair (with_first ps p) q) (with_first (with_pair ps q) p)
    (rise-with_pair (with_first ps p) q (rise-with_first ps p r))
    (rise-with_first (with_pair ps q) p (rise-with_pair ps q r))
    (λ j.
    at-with_pair j (with_first ps p) q ∙ ap (cond (bytes_eq q.0 j) (Some q.1)) (at-with_first j ps p)
    ∙ inside (bytes_eq q.0 j) (at_key j ps) (cond (bytes_eq p.0 j) (Some p.1) None)
    ∙ ap (λ o. or_else o (cond (bytes_eq p.0 j) (Some p.1) None)) (sym (at-with_pair j ps q)) ∙ sym (at-with_first j (with_pair ps q) p))
  where
    inside : (b : Bool) (o other : Option Value) → cond b (Some q.1) (or_else o other) ≡ or_else (cond b (Some q.1) o) other
    inside true o other = refl
    inside false o other = refl

first_last : (ps qs : Pairs) (p : List ℕ × Value) → KeysRise ps → with_pairs (with_first ps p) qs ≡ with_first (with_pairs ps qs) p
first_last ps [] p r = refl
first_last ps (q ∷ qs) p r = ap (λ made. with_pairs made qs) (exchanged ps p q r) ∙ first_last (with_pair ps q) qs p (rise-with_pair ps q r)

-- a pair before others counts where none of them has its key
pub made_before : (p : List ℕ × Value) (ps : Pairs) → with_pairs [] (p ∷ ps) ≡ with_first (with_pairs [] ps) p
made_before p ps = first_last [] ps p tt
