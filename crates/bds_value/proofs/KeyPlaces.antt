-- Which keys are there, where keys rise.
use Rattle.std.proofs.Common.{◌≡◌, ℕ, List, [], ◌∷◌, true, false, None, refl, sym, ap, ◌∙◌}
use Rattle.std.proofs.lemmas.Cmp.{nat_list_cmp_total}
use Rattle.std.proofs.lemmas.Map.Text.{is_eq-slice_cmp}
use Rattle.std.specs.Ordering.{is_lt, is_eq, ordering_reverse}
use Rattle.std.specs.Str.{bytes_eq}
use Rattle.std.specs.declared.cmp.Ordering.{Ordering}
use Rattle.std.specs.declared.cmp.Ordering.TheVariants.{Less, Equal, Greater}
use Rattle.bds_value.specs.Order.{text_cmp, is_before, BeginsBehind, KeysRise}
use Rattle.bds_value.specs.Path.{at_key}

is_less : (o : Ordering) → is_lt o ≡ true → o ≡ Less
is_less Less e = refl
is_less Equal e = absurd (cc)
is_less Greater e = absurd (cc)

pub before_both : (a b c : List ℕ) → is_before a b ≡ true → is_before b c ≡ true → is_before a c ≡ true
before_both a b c p q = ap is_lt (nat_list_cmp_total.trans a b c (is_less (text_cmp a b) p) (is_less (text_cmp b c) q))

-- a text that comes before another isn't the same
pub apart : (a b : List ℕ) → is_before a b ≡ true → bytes_eq a b ≡ false
apart a b p = sym (is_eq-slice_cmp a b) ∙ ap is_eq (is_less (text_cmp a b) p)

-- nor is one that comes behind it
pub apart_back : (a b : List ℕ) → is_before b a ≡ true → bytes_eq a b ≡ false
apart_back a b p = sym (is_eq-slice_cmp a b) ∙ ap is_eq (nat_list_cmp_total.antisymm a b ∙ ap ordering_reverse (is_less (text_cmp b a) p))

module _ {X : Type 0} where
  pub begins_later : (k : List ℕ) (p : List ℕ × X) (ps : List (List ℕ × X)) → is_before k p.0 ≡ true → BeginsBehind p.0 ps → BeginsBehind k ps
  begins_later k p [] h b = tt
  begins_later k p (q ∷ qs) h b = before_both k p.0 q.0 h b

  -- a key that comes before the first isn't there
  pub gone : (k : List ℕ) (ps : List (List ℕ × X)) → BeginsBehind k ps → KeysRise ps → at_key k ps ≡ None
  gone k [] b r = refl
  gone k (p ∷ ps) b r = rw (apart_back p.0 k b) (gone k ps (begins_later k p ps b r.0) r.1)
