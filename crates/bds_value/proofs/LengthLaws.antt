-- The length of the text of pairs, one pair after the other.
use Rattle.std.proofs.Common.{◌≡◌, ℕ, ◌+◌, List, [], ◌∷◌, ◌++◌, map, length, nat_lt, cond, refl, ap, ◌∙◌, arith}
use Rattle.std.proofs.lemmas.Grind.{common_steps}
use Rattle.std.specs.Prelude.{codes}
use Rattle.std.specs.List.{join_by}
use Rattle.bds_value.specs.declared.value.Value.{Value}
use Rattle.bds_value.specs.Text.{text_of, braced}
use Rattle.bds_value.specs.TextResult.{held}
use Rattle.bds_value.proofs.TextLaws.{join_by-push, pair_text, braced-some}

-- the text of the pairs is counted, and `before` is 0 where there is none
pub record Counted (total before : ℕ) (done : List (List ℕ × Value)) : Type 0 where
  pub counted : total ≡ held (length (join_by pair_text (codes ", ") done))
  pub begun : nat_lt 0 before ≡ nat_lt 0 (length done)

-- nothing is counted yet
pub counted-none : Counted 0 0 []
counted-none = record { counted = refl; begun = refl }

-- one pair more: what is before it, its key, an arrow of four and its value
pair-length : (p : List ℕ × Value) → length (pair_text p) ≡ length p.0 + 4 + length (text_of p.1)
pair-length p = grind (arith, common_steps)

push-length : (done : List (List ℕ × Value)) (p : List ℕ × Value) → length (join_by pair_text (codes ", ") (done ++ p ∷ [])) ≡ length (join_by pair_text (codes ", ") done) + length (cond (nat_lt 0 (length done)) (codes ", ") []) + length (pair_text p)
push-length done p = ap length (join_by-push pair_text (codes ", ") done p) ∙ grind (arith, common_steps)

pub counted-more : (total before : ℕ) (done : List (List ℕ × Value)) (p : List ℕ × Value) (between a b c d : ℕ) → Counted total before done → between ≡ length (cond (nat_lt 0 before) (codes ", ") []) → a ≡ held (total + between) → b ≡ held (a + length p.0) → c ≡ held (b + 4) → d ≡ held (c + held (length (text_of p.1))) → Counted d 1 (done ++ p ∷ [])
counted-more total before done p between a b c d h e ea eb ec ed =
    let same : between ≡ length (cond (nat_lt 0 (length done)) (codes ", ") []) = e ∙ ap (λ q. length (cond q (codes ", ") [])) h.begun in
    let counted = h.counted in
    record { counted = omega (arith, same, counted, push-length done p, pair-length p); begun = grind (arith, common_steps) }

-- the braces around pairs count for four
pub braced-length : (pairs : List (List ℕ × Value)) → ¬ (length pairs ≡ 0) → length (braced (map (λ p. (p.0, text_of p.1)) pairs)) ≡ length (join_by pair_text (codes ", ") pairs) + 4
braced-length pairs h = ap length (braced-some pairs (λ e. h (ap length e))) ∙ grind (arith, common_steps)
