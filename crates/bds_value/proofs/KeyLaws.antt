-- Pairs whose keys rise, after a value is replaced and after a pair is added.
use Rattle.std.proofs.Common.{◌≡◌, ℕ, List, [], ◌∷◌, Bool, true, false, cond, Some, None, refl, ap, ◌∙◌}
use Rattle.std.proofs.lemmas.Cmp.{nat_list_cmp_total}
use Rattle.std.proofs.lemmas.Map.Text.{is_eq-slice_cmp}
use Rattle.std.specs.List.{AllByRecursion}
use Rattle.std.specs.Ordering.{is_lt, is_eq, ordering_reverse}
use Rattle.std.specs.Str.{bytes_eq}
use Rattle.std.specs.declared.cmp.Ordering.{Ordering}
use Rattle.std.specs.declared.cmp.Ordering.TheVariants.{Less, Equal, Greater}
use Rattle.bds_value.specs.Order.{text_cmp, is_before, BeginsBehind, KeysRise}
use Rattle.bds_value.specs.Path.{at_key, set_key, insert_key}

-- of two texts that differ one comes before the other
pub other_before : (a b : List ℕ) → is_before a b ≡ false → bytes_eq a b ≡ false → is_before b a ≡ true
other_before a b unless differ =
    let not_equal : is_eq (text_cmp a b) ≡ false = is_eq-slice_cmp a b ∙ differ in
    let back : text_cmp b a ≡ ordering_reverse (text_cmp a b) = nat_list_cmp_total.antisymm b a in
    ap is_lt back ∙ by_order (text_cmp a b) unless not_equal
  where
    by_order : (o : Ordering) → is_lt o ≡ false → is_eq o ≡ false → is_lt (ordering_reverse o) ≡ true
    by_order Less n e = absurd (cc)
    by_order Equal n e = absurd (cc)
    by_order Greater n e = refl

module _ {X : Type 0} where
  begins-set_key : (j k : List ℕ) (x : X) (ps : List (List ℕ × X)) → BeginsBehind j ps → BeginsBehind j (set_key k x ps)
  begins-set_key j k x [] b = tt
  begins-set_key j k x (p ∷ ps) b = by_test (bytes_eq p.0 k) refl
    where
      by_test : (t : Bool) → bytes_eq p.0 k ≡ t → BeginsBehind j (cond (bytes_eq p.0 k) ((p.0, x) ∷ ps) (p ∷ set_key k x ps))
      by_test true t = rw t b
      by_test false t = rw t b

  pub rise-set_key : (k : List ℕ) (x : X) (ps : List (List ℕ × X)) → KeysRise ps → KeysRise (set_key k x ps)
  rise-set_key k x [] r = tt
  rise-set_key k x (p ∷ ps) r = by_test (rise-set_key k x ps r.1) (bytes_eq p.0 k) refl
    where
      by_test : KeysRise (set_key k x ps) → (t : Bool) → bytes_eq p.0 k ≡ t → KeysRise (cond (bytes_eq p.0 k) ((p.0, x) ∷ ps) (p ∷ set_key k x ps))
      by_test again true t = rw t r
      by_test again false t = rw t (begins-set_key p.0 k x ps r.0, again)

  begins-insert_key : (j k : List ℕ) (x : X) (ps : List (List ℕ × X)) → is_before j k ≡ true → BeginsBehind j ps → BeginsBehind j (insert_key k x ps)
  begins-insert_key j k x [] h b = h
  begins-insert_key j k x (p ∷ ps) h b = by_test (is_before p.0 k) refl
    where
      by_test : (t : Bool) → is_before p.0 k ≡ t → BeginsBehind j (cond (is_before p.0 k) (p ∷ insert_key k x ps) ((k, x) ∷ p ∷ ps))
      by_test true t = rw t b
      by_test false t = rw t h

  pub rise-insert_key : (k : List ℕ) (x : X) (ps : List (List ℕ × X)) → at_key k ps ≡ None → KeysRise ps → KeysRise (insert_key k x ps)
  rise-insert_key k x [] none r = (tt, tt)
  rise-insert_key k x (p ∷ ps) none r = by_key (λ n. rise-insert_key k x ps n r.1) (bytes_eq p.0 k) refl
    where
      by_key : (at_key k ps ≡ None → KeysRise (insert_key k x ps)) → (t : Bool) → bytes_eq p.0 k ≡ t → KeysRise (cond (is_before p.0 k) (p ∷ insert_key k x ps) ((k, x) ∷ p ∷ ps))
      by_key again true t = let there : Some p.1 ≡ None = rw t at none in absurd (cc)
      by_key again false t = let gone : at_key k ps ≡ None = rw t at none in by_order (again gone) t (is_before p.0 k) refl
        where
          by_order : KeysRise (insert_key k x ps) → bytes_eq p.0 k ≡ false → (b : Bool) → is_before p.0 k ≡ b → KeysRise (cond (is_before p.0 k) (p ∷ insert_key k x ps) ((k, x) ∷ p ∷ ps))
          by_order more differ true b = rw b (begins-insert_key p.0 k x ps b r.0, more)
          by_order more differ false b = rw b (other_before p.0 k b differ, r)

  -- what all pairs have
  pub all-set_key : (P : X → Type 0) (k : List ℕ) (x : X) (ps : List (List ℕ × X)) → P x → AllByRecursion {X = List ℕ × X} (λ p. P p.1) ps → AllByRecursion {X = List ℕ × X} (λ p. P p.1) (set_key k x ps)
  all-set_key P k x [] px h = tt
  all-set_key P k x (p ∷ ps) px h = by_test (all-set_key P k x ps px h.1) (bytes_eq p.0 k) refl
    where
      by_test : AllByRecursion {X = List ℕ × X} (λ p. P p.1) (set_key k x ps) → (t : Bool) → bytes_eq p.0 k ≡ t → AllByRecursion {X = List ℕ × X} (λ p. P p.1) (cond (bytes_eq p.0 k) ((p.0, x) ∷ ps) (p ∷ set_key k x ps))
      by_test again true t = rw t (px, h.1)
      by_test again false t = rw t (h.0, again)

  pub all-insert_key : (P : X → Type 0) (k : List ℕ) (x : X) (ps : List (List ℕ × X)) → P x → AllByRecursion {X = List ℕ × X} (λ p. P p.1) ps → AllByRecursion {X = List ℕ × X} (λ p. P p.1) (insert_key k x ps)
  all-insert_key P k x [] px h = (px, tt)
  all-insert_key P k x (p ∷ ps) px h = by_test (all-insert_key P k x ps px h.1) (is_before p.0 k) refl
    where
      by_test : AllByRecursion {X = List ℕ × X} (λ p. P p.1) (insert_key k x ps) → (t : Bool) → is_before p.0 k ≡ t → AllByRecursion {X = List ℕ × X} (λ p. P p.1) (cond (is_before p.0 k) (p ∷ insert_key k x ps) ((k, x) ∷ p ∷ ps))
      by_test again true t = rw t (h.0, again)
      by_test again false t = rw t (px, h)
