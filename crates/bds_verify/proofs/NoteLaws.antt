-- Numbers that are noted by place.
use Rattle.std.proofs.Common.{◌≡◌, ℕ, zero, suc, ◌<◌, ◌⊎◌, inl, inr, List, [], ◌∷◌, ◌++◌, length, slice_get, slice_set}
use Rattle.std.proofs.Common.{get_or, refl, sym, ap, ◌∙◌, arith}
use Rattle.std.specs.Option.{unwrap_or}
use Rattle.std.proofs.lemmas.Option.{unwrap_or-slice_get}
use Rattle.bds_verify.specs.Numbered.{noted_at, IsNoted}

pub nothing : (place : ℕ) → noted_at [] place ≡ 0
nothing zero = refl
nothing (suc k) = refl

pub read : (numbers : List ℕ) (place : ℕ) → unwrap_or (slice_get numbers place) 0 ≡ noted_at numbers place
read numbers place = unwrap_or-slice_get numbers place 0

pub one_zero : (numbers : List ℕ) (at : ℕ) → noted_at (numbers ++ 0 ∷ []) at ≡ noted_at numbers at
one_zero [] zero = refl
one_zero [] (suc k) = nothing k
one_zero (n ∷ ns) zero = refl
one_zero (n ∷ ns) (suc k) = one_zero ns k

pub zero_behind : (old now new : List ℕ) → ((at : ℕ) → noted_at now at ≡ noted_at old at) → new ≡ now ++ 0 ∷ []
    → (at : ℕ) → noted_at new at ≡ noted_at old at
zero_behind old now new same is at = ap (λ ns. noted_at ns at) is ∙ one_zero now at ∙ same at

set_one : (numbers : List ℕ) (place at n : ℕ) → place < length numbers
    → ((at ≡ place) × (noted_at (slice_set numbers place n) at ≡ n))
    ⊎ (noted_at (slice_set numbers place n) at ≡ noted_at numbers at)
set_one [] place at n l = absurd (omega (arith, l))
set_one (m ∷ ms) zero zero n l = inl (refl, refl)
set_one (m ∷ ms) zero (suc k) n l = inr refl
set_one (m ∷ ms) (suc p) zero n l = inr refl
set_one (m ∷ ms) (suc p) (suc k) n l = elim (set_one ms p k n (omega (arith, l))) [
  | inl (same, is) ↦ inl (ap suc same, is)
  | inr other ↦ inr other
]

set_behind : (old now new : List ℕ) (place at n : ℕ) → new ≡ slice_set now place n → noted_at now at ≡ noted_at old at
    → ((at ≡ place) × (noted_at (slice_set now place n) at ≡ n))
    ⊎ (noted_at (slice_set now place n) at ≡ noted_at now at)
    → ((at ≡ place) × (noted_at new at ≡ n)) ⊎ (noted_at new at ≡ noted_at old at)
set_behind old now new place at n is same (inl (here, value)) = inl (here, ap (λ ns. noted_at ns at) is ∙ value)
set_behind old now new place at n is same (inr other) = inr (ap (λ ns. noted_at ns at) is ∙ other ∙ same)

pub noted : (old now new : List ℕ) (place n : ℕ) → place < length now → ((at : ℕ) → noted_at now at ≡ noted_at old at)
    → new ≡ slice_set now place n → IsNoted old new place n
noted old now new place n l same is at = set_behind old now new place at n is (same at) (set_one now place at n l)
