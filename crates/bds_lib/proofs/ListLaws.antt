-- Lists without their first item of a kind, and texts joined from values.
use Rattle.std.proofs.Common.{◌≡◌, ℕ, zero, suc, ◌+◌, ◌<◌, ◌≤◌, List, [], ◌∷◌, ◌++◌, length, map, remove, Bool, true, false, arith, refl, ap, ◌∙◌}
use Rattle.std.specs.List.{position_or_len, join_by, flat_map}
use Rattle.bds_value.specs.declared.value.Value.TheVariants as value
use Rattle.bds_lib.specs.Change.{without_first}
use Rattle.bds_lib.specs.Lists.{item_text}

module _ {X : Type 0} (test : X → Bool) where
  pub removed : (xs : List X) (n : ℕ) → position_or_len test xs ≡ n → n < length xs → remove xs n ≡ without_first test xs
  removed [] n is lt = absurd (omega (arith, lt))
  removed (x ∷ xs) n is lt = by_test (removed xs) (test x) refl n is lt
    where
      by_test : ((n : ℕ) → position_or_len test xs ≡ n → n < length xs → remove xs n ≡ without_first test xs) → (b : Bool) → test x ≡ b → (n : ℕ) → position_or_len test (x ∷ xs) ≡ n → n < length (x ∷ xs) → remove (x ∷ xs) n ≡ without_first test (x ∷ xs)
      by_test again true t zero is lt = rw t refl
      by_test again true t (suc n) is lt = let zero_is : 0 ≡ suc n = rw t at is in absurd (omega (arith, zero_is))
      by_test again false t zero is lt = let some_is : 1 + position_or_len test xs ≡ 0 = rw t at is in absurd (omega (arith, some_is))
      by_test again false t (suc n) is lt =
          let some_is : 1 + position_or_len test xs ≡ suc n = rw t at is in
          rw t (ap (λ ys. x ∷ ys) (again n (omega (arith, some_is)) (omega (arith, lt))))

  pub kept : (xs : List X) → length xs ≤ position_or_len test xs → xs ≡ without_first test xs
  kept [] le = refl
  kept (x ∷ xs) le = by_test (kept xs) (test x) refl
    where
      by_test : (length xs ≤ position_or_len test xs → xs ≡ without_first test xs) → (b : Bool) → test x ≡ b → x ∷ xs ≡ without_first test (x ∷ xs)
      by_test again true t = let none : length (x ∷ xs) ≤ 0 = rw t at le in absurd (omega (arith, none))
      by_test again false t = let more : length (x ∷ xs) ≤ 1 + position_or_len test xs = rw t at le in rw t (ap (λ ys. x ∷ ys) (again (omega (arith, more))))

item_text-Text : (p : List ℕ) → item_text (value.Text p) ≡ p
item_text-Text p = rw (value.outs-Text p) refl

rest_joined : (sep : List ℕ) (ps : List (List ℕ)) → flat_map (λ v. sep ++ item_text v) (map value.Text ps) ≡ flat_map (λ p. sep ++ p) ps
rest_joined sep [] = refl
rest_joined sep (p ∷ ps) = ap (λ t. (sep ++ t) ++ flat_map (λ v. sep ++ item_text v) (map value.Text ps)) (item_text-Text p) ∙ ap (λ t. (sep ++ p) ++ t) (rest_joined sep ps)

pub texts_joined : (sep : List ℕ) (ps : List (List ℕ)) → join_by item_text sep (map value.Text ps) ≡ join_by (λ p. p) sep ps
texts_joined sep [] = refl
texts_joined sep (p ∷ ps) = ap (λ t. t ++ flat_map (λ v. sep ++ item_text v) (map value.Text ps)) (item_text-Text p) ∙ ap (λ t. p ++ t) (rest_joined sep ps)
