-- Searching, and the pieces that a search cuts.
use Rattle.std.proofs.Common.{Bool, Option, IfSome, subst, inl, inr, ◌≢◌, length-take, ◌≡◌, ℕ, zero, suc, ◌+◌, ◌<◌, ◌≤◌, List, [], ◌∷◌, ◌++◌, length, map, take, drop, true, false, Some, None, arith, refl, sym, ap, ◌∙◌, append_assoc, length-drop}
use Rattle.std.proofs.lemmas.Bool.{cases_eq}
use Rattle.std.specs.Cmp.Lexicographic.{same_text, other_text}
use Rattle.std.specs.Prelude.{◌⊎◌}
use Rattle.memchr.specs.Find.{OccursAt, FindsNeedle, FindsLastNeedle}
use Rattle.memchr.proofs.lemmas.MatchLemmas.{OccursAt-part, OccursAt-from_part}
use Rattle.bds_value.specs.declared.value.Value.{Value}
use Rattle.bds_value.specs.declared.value.Value.TheVariants as value
use Rattle.bds_lib.specs.Searching.{begins_with, first_from, first_place, last_below, last_place, cut, pieces, Splits, without_empty_end}

-- the pieces that items hold, and those of the rest, are all pieces
pub record Cut (t s : List ℕ) (items : List Value) (rest : List ℕ) : Type 0 where
  pub more : ℕ
  pub enough : length rest ≤ more
  pub done : List (List ℕ)
  pub held : items ≡ map value.Text done
  pub all : done ++ cut more t rest ≡ cut (length s) t s

pub cut_start : (t s : List ℕ) (items : List Value) → items ≡ [] → Cut t s items s
cut_start t s items e = record { more = length s; enough = omega arith; done = []; held = e; all = refl }

map_snoc : (ps : List (List ℕ)) (p : List ℕ) → map value.Text (ps ++ p ∷ []) ≡ map value.Text ps ++ value.Text p ∷ []
map_snoc [] p = refl
map_snoc (q ∷ ps) p = ap (λ vs. value.Text q ∷ vs) (map_snoc ps p)

cut_once : (n : ℕ) (t s : List ℕ) (i : ℕ) → first_place t s ≡ Some i → cut (suc n) t s ≡ take i s ∷ cut n t (drop (length t) (drop i s))
cut_once n t s i e = rw e refl

cut_last : (n : ℕ) (t s : List ℕ) → first_place t s ≡ None → cut n t s ≡ s ∷ []
cut_last zero t s e = refl
cut_last (suc n) t s e = rw e refl

pub cut_more : (t s : List ℕ) (items more : List Value) (rest left : List ℕ) (i : ℕ) → 0 < length t → first_place t rest ≡ Some i → i + length t ≤ length rest
    → more ≡ items ++ value.Text (take i rest) ∷ [] → left ≡ drop (length t) (drop i rest) → Cut t s items rest → Cut t s more left
cut_more t s items more rest left i some e inside pushed goes c = by_count c.more c.enough c.all
  where
    by_count : (n : ℕ) → length rest ≤ n → c.done ++ cut n t rest ≡ cut (length s) t s → Cut t s more left
    by_count zero le all = absurd (omega (arith, le, some, inside))
    by_count (suc n) le all = record {
      more = n;
      enough =
          let one = length-drop i rest in
          let two = length-drop (length t) (drop i rest) in
          let whole = ap length goes in
          omega (arith, one, two, whole, le, some, inside);
      done = c.done ++ take i rest ∷ [];
      held = pushed ∙ (ap (λ vs. vs ++ value.Text (take i rest) ∷ []) c.held ∙ sym (map_snoc c.done (take i rest)));
      all = ap (λ l. (c.done ++ take i rest ∷ []) ++ cut n t l) goes ∙ (append_assoc c.done (take i rest ∷ []) (cut n t (drop (length t) (drop i rest))) ∙ (ap (λ ps. c.done ++ ps) (sym (cut_once n t rest i e)) ∙ all));
    }

pub cut_end : (t s : List ℕ) (items : List Value) (rest : List ℕ) → 0 < length t → first_place t rest ≡ None → Cut t s items rest → Splits t s items rest
cut_end [] s items rest some e c = absurd (omega (arith, some))
cut_end (x ∷ t) s items rest some e c = (c.done, c.held, sym c.all ∙ ap (λ ps. c.done ++ ps) (cut_last c.more (x ∷ t) rest e))

pub split_none : (t s : List ℕ) (items : List Value) → length t ≡ 0 → items ≡ [] → Splits t s items s
split_none [] s items e none = ([], none, refl)
split_none (x ∷ t) s items e none = absurd (omega (arith, e))

pub split_all : (t s : List ℕ) (items all : List Value) (last : List ℕ) → all ≡ items ++ value.Text last ∷ [] → Splits t s items last → all ≡ map value.Text (pieces t s)
split_all t s items all last pushed h = pushed ∙ (ap (λ vs. vs ++ value.Text last ∷ []) h.1 ∙ (sym (map_snoc h.0 last) ∙ ap (map value.Text) (sym h.2)))

without_last : (ps : List (List ℕ)) → without_empty_end (ps ++ [] ∷ []) ≡ ps
without_last [] = refl
without_last ([] ∷ []) = refl
without_last ([] ∷ p ∷ ps) = ap (λ qs. [] ∷ qs) (without_last (p ∷ ps))
without_last ((c ∷ q) ∷ ps) = ap (λ qs. (c ∷ q) ∷ qs) (without_last ps)

with_last : (ps : List (List ℕ)) (c : ℕ) (p : List ℕ) → without_empty_end (ps ++ (c ∷ p) ∷ []) ≡ ps ++ (c ∷ p) ∷ []
with_last [] c p = refl
with_last ([] ∷ []) c p = refl
with_last ([] ∷ q ∷ ps) c p = ap (λ qs. [] ∷ qs) (with_last (q ∷ ps) c p)
with_last ((d ∷ q) ∷ ps) c p = ap (λ qs. (d ∷ q) ∷ qs) (with_last ps c p)

pub lines_closed : (t s : List ℕ) (items : List Value) (last : List ℕ) → length last ≡ 0 → Splits t s items last → items ≡ map value.Text (without_empty_end (pieces t s))
lines_closed t s items [] e h = h.1 ∙ ap (map value.Text) (sym (without_last h.0) ∙ ap without_empty_end (sym h.2))
lines_closed t s items (c ∷ p) e h = absurd (omega (arith, e))

pub lines_open : (t s : List ℕ) (items all : List Value) (last : List ℕ) → 0 < length last → all ≡ items ++ value.Text last ∷ [] → Splits t s items last → all ≡ map value.Text (without_empty_end (pieces t s))
lines_open t s items all [] e pushed h = absurd (omega (arith, e))
lines_open t s items all (c ∷ p) e pushed h =
    split_all t s items all (c ∷ p) pushed h ∙ ap (map value.Text) (h.2 ∙ (sym (with_last h.0 c p) ∙ ap without_empty_end (sym h.2)))

-- one place of a search from the left
pub first_from-step : (t s : List ℕ) (k i : ℕ) → i < length s → begins_with t (drop i s) ≡ false → first_from k t (drop i s) ≡ first_from (k + 1) t (drop (suc i) s)
first_from-step t [] k i lt differs = absurd (omega (arith, lt))
first_from-step t (x ∷ s) k zero lt differs = rw differs refl
first_from-step t (x ∷ s) k (suc i) lt differs = first_from-step t s k i (omega (arith, lt)) differs

pub first_from-found : (t s : List ℕ) (k : ℕ) → begins_with t s ≡ true → first_from k t s ≡ Some k
first_from-found t [] k same = rw same refl
first_from-found t (x ∷ s) k same = rw same refl

none_left : (n : ℕ) (s : List ℕ) → length s ≤ n → drop n s ≡ []
none_left zero [] le = refl
none_left zero (x ∷ s) le = absurd (omega (arith, le))
none_left (suc n) [] le = refl
none_left (suc n) (x ∷ s) le = none_left n s (omega (arith, le))

-- a part stands at a place where the text from there begins with it
module _ (s t : List ℕ) where
  begins : (k : ℕ) → OccursAt s t k → begins_with t (drop k s) ≡ true
  begins k occurs = by_test (begins_with t (drop k s)) refl
    where
      by_test : (b : Bool) → begins_with t (drop k s) ≡ b → b ≡ true
      by_test true e = refl
      by_test false e = absurd (other_text t (take (length t) (drop k s)) (sym e) (sym (OccursAt-part s t k occurs)))

  begins_not : (k : ℕ) → k ≤ length s → ¬ OccursAt s t k → begins_with t (drop k s) ≡ false
  begins_not k le misses = by_test (begins_with t (drop k s)) refl
    where
      by_test : (b : Bool) → begins_with t (drop k s) ≡ b → b ≡ false
      by_test false e = refl
      by_test true e =
          let same : t ≡ take (length t) (drop k s) = same_text t (take (length t) (drop k s)) (sym e) in
          let whole = ap length same in
          let cut = length-take (length t) (drop k s) in
          let left = length-drop k s in
          absurd (misses (OccursAt-from_part s t k (omega (arith, whole, cut, left, le)) (sym same)))

  -- a search from the left
  passes : (i : ℕ) → i < length s → begins_with t (drop i s) ≡ false → first_from i t (drop i s) ≡ first_from (i + 1) t (drop (i + 1) s)
  passes i lt differs =
      let next : suc i ≡ i + 1 = omega arith in
      subst (λ j. first_from i t (drop i s) ≡ first_from (i + 1) t (drop j s)) next (first_from-step t s i i lt differs)

  gone : (n i : ℕ) → n + i ≡ length s → ((k : ℕ) → i ≤ k → k < length s + 1 → ¬ OccursAt s t k) → first_from i t (drop i s) ≡ None
  gone zero i e none =
      let empty = none_left i s (omega (arith, e)) in
      let differs : begins_with t [] ≡ false = rw empty at (begins_not i (omega (arith, e)) (none i (omega arith) (omega (arith, e)))) in
      rw (empty, differs) refl
  gone (suc n) i e none = passes i (omega (arith, e)) (begins_not i (omega (arith, e)) (none i (omega arith) (omega (arith, e)))) ∙ gone n (i + 1) (omega (arith, e)) (λ k a b. none k (omega (arith, a)) b)

  there : (n i k : ℕ) → n + i ≡ k → k < length s + 1 → ((j : ℕ) → i ≤ j → j < k → ¬ OccursAt s t j) → OccursAt s t k → first_from i t (drop i s) ≡ Some k
  there zero i k e le none occurs =
      let same : i ≡ k = omega (arith, e) in
      subst (λ j. first_from i t (drop i s) ≡ Some j) same (first_from-found t (drop i s) i (begins i (subst (OccursAt s t) (sym same) occurs)))
  there (suc n) i k e le none occurs =
      passes i (omega (arith, e, le)) (begins_not i (omega (arith, e, le)) (none i (omega arith) (omega (arith, e))))
      ∙ there n (i + 1) k (omega (arith, e)) le (λ j a b. none j (omega (arith, a)) b) occurs

  pub first_is : (r : Option ℕ) → FindsNeedle s t 0 r → r ≡ first_place t s
  first_is None none = sym (gone (length s) 0 (omega arith) none)
  first_is (Some k) found = sym (there k 0 k (omega arith) found.0.high found.0.before found.1)

  pub first_inside : (r : Option ℕ) → FindsNeedle s t 0 r → IfSome r (λ at. at + length t ≤ length s)
  first_inside None none = tt
  first_inside (Some k) found = found.1.fits

  -- a search from the right
  gone_below : (n : ℕ) → n ≤ length s + 1 → ((k : ℕ) → 0 ≤ k → k < n → ¬ OccursAt s t k) → last_below n t s ≡ None
  gone_below zero le none = refl
  gone_below (suc n) le none = rw (begins_not n (omega (arith, le)) (none n (omega arith) (omega arith))) (gone_below n (omega (arith, le)) (λ k a b. none k a (omega (arith, b))))

  there_below : (n k : ℕ) → n ≤ length s + 1 → k < n → ((j : ℕ) → k + 1 ≤ j → j < n → ¬ OccursAt s t j) → OccursAt s t k → last_below n t s ≡ Some k
  there_below zero k le lt none occurs = absurd (omega (arith, lt))
  there_below (suc n) k le lt none occurs = by_place (λ below. there_below n k (omega (arith, le)) below (λ j a b. none j a (omega (arith, b))) occurs) (cases_eq k n)
    where
      by_place : (k < n → last_below n t s ≡ Some k) → (k ≡ n) ⊎ (k ≢ n) → last_below (suc n) t s ≡ Some k
      by_place again (inl same) = rw (begins n (subst (OccursAt s t) same occurs)) (ap Some (sym same))
      by_place again (inr other) = rw (begins_not n (omega (arith, le)) (none n (omega (arith, other, lt)) (omega arith))) (again (omega (arith, other, lt)))

  pub last_is : (r : Option ℕ) → FindsLastNeedle s t r → r ≡ last_place t s
  last_is None none = sym (gone_below (suc (length s)) (omega arith) (λ k a b. none k a (omega (arith, b))))
  last_is (Some k) found = sym (there_below (suc (length s)) k (omega arith) (omega (arith, found.0.high)) (λ j a b. found.0.after j a (omega (arith, b))) found.1)

  pub last_inside : (r : Option ℕ) → FindsLastNeedle s t r → IfSome r (λ at. at + length t ≤ length s)
  last_inside None none = tt
  last_inside (Some k) found = found.1.fits
