-- Where a list is split that has a last item.
use Rattle.std.proofs.Common.{◌≡◌, ◌∙◌, List, [], ◌∷◌, ◌++◌, ap, refl}

-- the last item of a list, where the list is split
pub data Last {X : Type 0} (ts : List X) (u : X) (before : List X) (t : X) (after : List X) : Type 0 where
  at_end : ts ≡ before → u ≡ t → Last ts u before t after
  before_end : (more : List X) → ts ≡ before ++ t ∷ more → Last ts u before t after

abbrev tail_of : {X : Type 0} → List X → List X
tail_of [] = []
tail_of (x ∷ xs) = xs

abbrev head_or : {X : Type 0} → X → List X → X
head_or x [] = x
head_or x (y ∷ ys) = y

not_nothing : {X : Type 0} (bs after : List X) (t : X) → [] ≡ bs ++ t ∷ after → ⊥
not_nothing [] after t is = cc is
not_nothing (b ∷ bs) after t is = cc is

pub split_last : {X : Type 0} (ts before after : List X) (u t : X) → ts ++ u ∷ [] ≡ before ++ t ∷ after
    → Last ts u before t after
split_last [] [] after u t is = Last.at_end refl (ap (λ l. head_or u l) is)
split_last [] (b ∷ bs) after u t is = absurd (not_nothing bs after t (ap tail_of is))
split_last (x ∷ xs) [] after u t is = Last.before_end xs (ap (λ l. head_or x l ∷ xs) is)
split_last {X} (x ∷ xs) (b ∷ bs) after u t is = go (split_last xs bs after u t (ap tail_of is))
  where
    go : Last xs u bs t after → Last (x ∷ xs) u (b ∷ bs) t after
    go (Last.at_end same here) = Last.at_end (ap (λ y. y ∷ xs) (ap (λ l. head_or x l) is) ∙ ap (λ l. b ∷ l) same) here
    go (Last.before_end more same) =
        Last.before_end more (ap (λ y. y ∷ xs) (ap (λ l. head_or x l) is) ∙ ap (λ l. b ∷ l) same)
