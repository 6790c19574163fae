-- Lists of types, one type further.
use Rattle.std.proofs.Common.{◌≡◌, ℕ, zero, suc, ◌+◌, ◌++◌, List, [], ◌∷◌, take, slice_get, Some, true}
use Rattle.std.proofs.Common.{add-one, sym, ◌∙◌, ap}
use Rattle.std.specs.List.{flat_map}
use Rattle.std.proofs.lemmas.Grind.{flat_map-append}
use Rattle.std.proofs.Common.{append-nil}
use Rattle.bds_value.specs.declared.value.Ty.{Ty}
use Rattle.bds_value.specs.Types.{same_ty}
use Rattle.bds_value.proofs.TypeLaws.{same_ty-true}

next_suc : {X : Type 0} (xs : List X) (n : ℕ) (x : X) → slice_get xs n ≡ Some x → take (suc n) xs ≡ take n xs ++ x ∷ []
next_suc [] n x e = absurd (cc)
next_suc (y ∷ ys) zero x e = (let same : y ≡ x = cc in ap (λ z. z ∷ []) same)
next_suc (y ∷ ys) (suc n) x e = ap (λ zs. y ∷ zs) (next_suc ys n x e)

pub next_one : {X : Type 0} (xs : List X) (n : ℕ) (x : X) → slice_get xs n ≡ Some x
    → take (n + 1) xs ≡ take n xs ++ x ∷ []
next_one xs n x e = ap (λ k. take k xs) (add-one n) ∙ next_suc xs n x e

pub next_mapped : {X A : Type 0} (f : X → List A) (xs : List X) (n : ℕ) (x : X) → slice_get xs n ≡ Some x
    → flat_map f (take (n + 1) xs) ≡ flat_map f (take n xs) ++ f x
next_mapped f xs n x e =
    ap (flat_map f) (next_one xs n x e) ∙ flat_map-append f (take n xs) (x ∷ [])
    ∙ ap (λ ys. flat_map f (take n xs) ++ ys) (append-nil (f x))

pub alike_on : (xs ys : List Ty) (n : ℕ) (x y : Ty) → slice_get xs n ≡ Some x → slice_get ys n ≡ Some y
    → same_ty x y ≡ true → take n xs ≡ take n ys → take (n + 1) xs ≡ take (n + 1) ys
alike_on xs ys n x y at_x at_y same front =
    next_one xs n x at_x ∙ ap (λ zs. zs ++ x ∷ []) front ∙ ap (λ t. take n ys ++ t ∷ []) (same_ty-true x y same)
    ∙ sym (next_one ys n y at_y)
