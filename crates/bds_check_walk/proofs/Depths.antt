-- A part of a list is no deeper than the list.
use Rattle.std.proofs.Common.{◌≡◌, ℕ, zero, suc, ◌+◌, ◌<◌, ◌≤◌, max, List, [], ◌∷◌, Some, slice_get, length, get_or}
use Rattle.std.proofs.Common.{set, take, drop, add-one, length-set, ap, sym, ◌∙◌, arith}
use Rattle.std.proofs.Math.Seq.{drop-cons}
use Rattle.std.proofs.lemmas.List.{get_or-set_same, take-set-le, drop-set-lt}
use Rattle.std.proofs.lemmas.Option.{get_or_from_slice_get, slice_get_within}
use denote.Param.Weighed.{most, at_most}
use Rattle.bds_tree.specs.declared.expr.Expr.{Expr}
use Rattle.bds_tree.proofs.expr.Expr.TheLaws.{the_size as expr_size}

pub most-take : {X : Type 0} (μ : X → ℕ) (xs : List X) (n : ℕ) → most μ (take n xs) ≤ most μ xs
most-take μ [] zero = omega arith
most-take μ [] (suc n) = omega arith
most-take μ (x ∷ xs) zero = omega arith
most-take μ (x ∷ xs) (suc n) = let h : most μ (take n xs) ≤ most μ xs = most-take μ xs n in omega arith

pub most-drop : {X : Type 0} (μ : X → ℕ) (xs : List X) (n : ℕ) → most μ (drop n xs) ≤ most μ xs
most-drop μ [] zero = omega arith
most-drop μ [] (suc n) = omega arith
most-drop μ (x ∷ xs) zero = omega arith
most-drop μ (x ∷ xs) (suc n) = let h : most μ (drop n xs) ≤ most μ xs = most-drop μ xs n in omega arith

pub at-most : {X : Type 0} (μ : X → ℕ) (xs : List X) (n : ℕ) (x : X) → slice_get xs n ≡ Some x → μ x ≤ most μ xs
at-most μ xs n x e =
    let deep = at_most μ xs n x (slice_get_within xs n x e) in rw (get_or_from_slice_get xs n x x e) at deep

-- one item is another, and those behind it are the same
pub set_drop : {A : Type 0} (xs : List A) (n : ℕ) (x y : A) → slice_get xs n ≡ Some x
    → drop n (set xs n y) ≡ y ∷ drop (n + 1) xs
set_drop xs n x y e =
    let within = slice_get_within xs n x e in
    let long : n < length (set xs n y) = omega (arith, within, length-set xs n y) in
    let here : drop n (set xs n y) ≡ get_or (set xs n y) n y ∷ drop (n + 1) (set xs n y) =
    rw add-one (drop-cons (set xs n y) n y long) in
    here ∙ ap (λ z. z ∷ drop (n + 1) (set xs n y)) (get_or-set_same xs n y y within)
    ∙ ap (λ zs. y ∷ zs) (drop-set-lt (n + 1) xs n y (omega arith))

-- the depth of the deepest item, or pair
abbrev pub items_size : List Expr → ℕ
items_size es = most expr_size es

abbrev pub pair_size : Expr × Expr → ℕ
pair_size p = max (expr_size p.0) (expr_size p.1)

abbrev pub pairs_size : List (Expr × Expr) → ℕ
pairs_size ps = most pair_size ps

-- of a pair whose value was walked, and those behind it
abbrev pub behind_size : List (Expr × Expr) → ℕ
behind_size [] = 0
behind_size (p ∷ ps) = max (expr_size p.0) (pairs_size ps)

-- all but the value of one pair
pub around-sizes : (ps : List (Expr × Expr)) (n : ℕ) (p q : Expr × Expr) → slice_get ps n ≡ Some p → q.0 ≡ p.0
    → (pairs_size (take n (set ps n q)) ≤ pairs_size ps) × (behind_size (drop n (set ps n q)) ≤ pairs_size ps)
around-sizes ps n p q e same =
    let front : pairs_size (take n (set ps n q)) ≡ pairs_size (take n ps) =
    ap pairs_size (take-set-le n ps n q (omega arith)) in
    let behind : behind_size (drop n (set ps n q)) ≡ max (expr_size q.0) (pairs_size (drop (n + 1) ps)) =
    ap behind_size (set_drop ps n p q e) in
    let key : expr_size q.0 ≡ expr_size p.0 = ap expr_size same in
    let here : pair_size p ≤ pairs_size ps = at-most pair_size ps n p e in
    (omega (arith, front, most-take pair_size ps n), omega (arith, behind, key, here, most-drop pair_size ps (n + 1)))

-- a pair behind others, which were walked
pub behind-parted : (olds mids : List (Expr × Expr)) (n : ℕ) (p : Expr × Expr) → slice_get mids n ≡ Some p
    → drop n mids ≡ drop n olds
    → (expr_size p.0 ≤ behind_size (drop n olds)) × (pairs_size (drop (n + 1) mids) ≤ behind_size (drop n olds))
behind-parted olds mids n p e same =
    let here : drop n mids ≡ p ∷ drop (n + 1) mids = rw add-one (drop-cons mids n p (slice_get_within mids n p e)
    ∙ ap (λ y. y ∷ drop (suc n) mids) (get_or_from_slice_get mids n p p e)) in
    let size : behind_size (drop n olds) ≡ max (expr_size p.0) (pairs_size (drop (n + 1) mids)) =
    ap behind_size (sym same ∙ here) in
    (omega (arith, size), omega (arith, size))
