-- The loops that number names.
use Rattle.std.proofs.Common.{◌≡◌, ◌<◌, ◌+◌, ℕ, zero, suc, List, [], ◌∷◌, ◌++◌, length, get_or, drop, slice_get, reverse, refl, sym, ap, ◌∙◌, arith, append_assoc}
use Rattle.std.proofs.Math.Seq.{drop-cons}
use Rattle.std.proofs.lemmas.List.{reverse-append}
use Rattle.bds_value.specs.declared.value.Ty.{Ty}
use Rattle.bds_gen_expr.specs.declared.scope.Callee.{Callee}
use Rattle.bds_gen_expr.specs.declared.scope.Numbered.{Numbered}
use Rattle.bds_gen_expr.specs.Indexes.{named_slot}
use Rattle.bds_gen_expr.specs.Numbers.{numbered, callee, numbered_from, callees_from}

from-item : {X : Type 0} (xs : List X) (i : ℕ) (x : X) → i < length xs → x ≡ get_or xs i x → drop i xs ≡ x ∷ drop (suc i) xs
from-item xs i x h e = drop-cons xs i x h ∙ ap (λ y. y ∷ drop (suc i) xs) (sym e)

slot-step : (x : List ℕ) (xs : List (List ℕ)) (ts : List Ty) (i : ℕ) → numbered_from i (x ∷ xs) (drop i ts) ≡ named_slot x (slice_get ts i) i ++ numbered_from (suc i) xs (drop (suc i) ts)
slot-step x xs ts i = at ts i i
  where
    none : (n : ℕ) (ys : List (List ℕ)) → [] ≡ numbered_from n ys []
    none n [] = refl
    none n (y ∷ ys) = refl

    at : (us : List Ty) (k n : ℕ) → numbered_from n (x ∷ xs) (drop k us) ≡ named_slot x (slice_get us k) n ++ numbered_from (suc n) xs (drop (suc k) us)
    at [] zero n = none (suc n) xs
    at [] (suc k) n = none (suc n) xs
    at (u ∷ us) zero n = refl
    at (u ∷ us) (suc k) n = at us k n

pub slots-next : (xs : List (List ℕ)) (ts : List Ty) (i : ℕ) (x : List ℕ) (ls ls2 whole : List Numbered) → i < length xs → x ≡ get_or xs i x → ls2 ≡ ls ++ named_slot x (slice_get ts i) i
    → ls ++ numbered_from i (drop i xs) (drop i ts) ≡ whole → ls2 ++ numbered_from (i + 1) (drop (i + 1) xs) (drop (i + 1) ts) ≡ whole
slots-next xs ts i x ls ls2 whole h is e inv =
    let next : i + 1 ≡ suc i = omega arith in
    ap (λ k. ls2 ++ numbered_from k (drop k xs) (drop k ts)) next ∙ ap (λ l. l ++ numbered_from (suc i) (drop (suc i) xs) (drop (suc i) ts)) e
    ∙ append_assoc ls (named_slot x (slice_get ts i) i) (numbered_from (suc i) (drop (suc i) xs) (drop (suc i) ts))
    ∙ ap (λ l. ls ++ l) (sym (slot-step x (drop (suc i) xs) ts i) ∙ ap (λ ys. numbered_from i ys (drop i ts)) (sym (from-item xs i x h is))) ∙ inv

pub globals-next : (xs : List (List ℕ)) (ts : List Ty) (i j : ℕ) (x : List ℕ) (t : Ty) (g : Numbered) (ls ls2 : List Numbered) → j ≡ suc i → i < length xs → i < length ts → x ≡ get_or xs i x → t ≡ get_or ts i t → g ≡ numbered x t i → ls2 ≡ ls ++ g ∷ []
    → ls ≡ reverse (numbered_from j (drop j xs) (drop j ts)) → ls2 ≡ reverse (numbered_from i (drop i xs) (drop i ts))
globals-next xs ts i j x t g ls ls2 next h k is it e e2 inv =
    let rest : List Numbered = numbered_from (suc i) (drop (suc i) xs) (drop (suc i) ts) in
    e2 ∙ ap (λ l. l ++ g ∷ []) (inv ∙ ap (λ n. reverse (numbered_from n (drop n xs) (drop n ts))) next) ∙ ap (λ m. reverse rest ++ m ∷ []) e
    ∙ sym (reverse-append (numbered x t i ∷ []) rest)
    ∙ sym (ap (λ ys. reverse (numbered_from i ys (drop i ts))) (from-item xs i x h is) ∙ ap (λ us. reverse (numbered_from i (x ∷ drop (suc i) xs) us)) (from-item ts i t k it))

pub callees-next : (xs : List (List ℕ)) (i j : ℕ) (x : List ℕ) (c : Callee) (ls ls2 : List Callee) → j ≡ suc i → i < length xs → x ≡ get_or xs i x → c ≡ callee x i → ls2 ≡ ls ++ c ∷ []
    → ls ≡ reverse (callees_from j (drop j xs)) → ls2 ≡ reverse (callees_from i (drop i xs))
callees-next xs i j x c ls ls2 next h is e e2 inv =
    let rest : List Callee = callees_from (suc i) (drop (suc i) xs) in
    e2 ∙ ap (λ l. l ++ c ∷ []) (inv ∙ ap (λ n. reverse (callees_from n (drop n xs))) next) ∙ ap (λ m. reverse rest ++ m ∷ []) e
    ∙ sym (reverse-append (callee x i ∷ []) rest) ∙ sym (ap (λ ys. reverse (callees_from i ys)) (from-item xs i x h is))
