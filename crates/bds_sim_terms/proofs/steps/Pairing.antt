-- The pairs of a map: the machine folds them from the front, the source from the end.
use Rattle.std.proofs.Common.{◌≡◌, ℕ, List, [], ◌∷◌, ◌++◌, reverse, Option, Some, None, refl, sym, ap, ◌∙◌}
use Rattle.std.proofs.lemmas.List.{reverse-append}
use Rattle.bds_value.specs.declared.value.Value.{Value, out-Value}
use Rattle.bds_machine_values.specs.Literals.{Pairs, paired, with_pair, with_pairs}
use Rattle.bds_value.specs.Options.{◌>>=◌}
use Rattle.bds_value.specs.Readers.{as_text}
use Rattle.bds_meaning.specs.Computed.{pairs_of, with_pair as source_with}
use Rattle.bds_sim.proofs.Reading.{text_read}

abbrev put : List ℕ → Value → Pairs → Option Pairs
put key v ps = Some ((key, v) ∷ ps)

-- the last pair of those that are paired
record Last (xs : List Value) (k v : Value) (ps : Pairs) : Type 0 where
  before : Pairs
  key : List ℕ
  paired_before : paired xs ≡ Some before
  is_key : as_text k ≡ Some key
  is : ps ≡ before ++ (key, v) ∷ []

last : (xs : List Value) (k v : Value) (ps : Pairs) → paired (xs ++ k ∷ v ∷ []) ≡ Some ps → Last xs k v ps
last [] k v ps e = go (as_text k) refl e
  where
    go : (o : Option (List ℕ)) → as_text k ≡ o → (o >>= λ key. put key v []) ≡ Some ps → Last [] k v ps
    go None q e = absurd (cc e)
    go (Some key) q e = record { before = []; key = key; paired_before = refl; is_key = q; is = let r : (key, v) ∷ [] ≡ ps = cc e in sym r }
last (a ∷ []) k v ps e = go (as_text a) e
  where
    go : (o : Option (List ℕ)) → (o >>= λ key. paired (v ∷ []) >>= λ ps. put key k ps) ≡ Some ps → Last (a ∷ []) k v ps
    go None e = absurd (cc e)
    go (Some key) e = absurd (cc e)
last (a ∷ b ∷ xs) k v ps e = go (λ qs q. last xs k v qs q) (as_text a) refl (paired (xs ++ k ∷ v ∷ [])) refl e
  where
    go : ((qs : Pairs) → paired (xs ++ k ∷ v ∷ []) ≡ Some qs → Last xs k v qs) → (o : Option (List ℕ)) → as_text a ≡ o → (os : Option Pairs) → paired (xs ++ k ∷ v ∷ []) ≡ os → (o >>= λ key. os >>= λ ps. put key b ps) ≡ Some ps → Last (a ∷ b ∷ xs) k v ps
    go again None q os qs e = absurd (cc e)
    go again (Some key) q None qs e = absurd (cc e)
    go again (Some key) q (Some more) qs e =
        let l = again more qs in
        let r : (key, b) ∷ more ≡ ps = cc e in record {
          before = (key, b) ∷ l.before;
          key = l.key;
          paired_before = ap (λ o. o >>= λ key. paired xs >>= λ ps. put key b ps) q ∙ ap (λ o. o >>= λ ps. put key b ps) l.paired_before;
          is_key = l.is_key;
          is = sym r ∙ ap (λ l. (key, b) ∷ l) l.is;
        }

with_last : (acc ps : Pairs) (q : List ℕ × Value) → with_pairs acc (ps ++ q ∷ []) ≡ with_pair (with_pairs acc ps) q
with_last acc [] q = refl
with_last acc (p ∷ ps) q = with_last (with_pair acc p) ps q

-- the same pairs
pub pairs_are : (us : List Value) (ps : Pairs) → paired (reverse us) ≡ Some ps → with_pairs [] ps ≡ pairs_of us
pairs_are [] ps e = ap (with_pairs []) (let r : ◌≡◌ {A = Pairs} [] ps = cc e in sym r)
pairs_are (v ∷ []) ps e = absurd (cc e)
pairs_are (v ∷ k ∷ us) ps e =
    let l = last (reverse us) k v ps (ap paired (sym (reverse-append (v ∷ k ∷ []) us)) ∙ e) in
    ap (with_pairs []) l.is ∙ with_last [] l.before (l.key, v) ∙ ap (λ qs. with_pair qs (l.key, v)) (pairs_are us l.before l.paired_before)
    ∙ ap (λ key. source_with key v (pairs_of us)) (sym (text_read (out-Value k) l.key l.is_key))
