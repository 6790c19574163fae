-- The room behind numbers hides nothing, and is filled from its beginning.
use Rattle.std.proofs.Common.{◌≡◌, ℕ, zero, suc, ◌+◌, ◌<◌, ◌≤◌, Bool, true, false, List, [], ◌∷◌, ◌++◌, length, take}
use Rattle.std.proofs.Common.{replicate, Some, None, refl, ap, ◌∙◌, arith, subst, nat_le, slice_set, if◌then◌else◌}
use Rattle.std.specs.List.{AllByRecursion}
use Rattle.std.specs.Option.{option_map}
use Rattle.bds_levels.specs.Least.{AreNever, NEVER, place}

above_most : (most n : ℕ) → n ≡ NEVER → most < NEVER → nat_le n most ≡ false
above_most most n e l = go (nat_le n most) refl
  where
    go : (b : Bool) → nat_le n most ≡ b → b ≡ false
    go true f = let m : n ≤ most = grind (arith, f) in let no : ⊥ = omega (arith, m, e, l) in elim no [ ]
    go false f = refl

pub none_never : (most : ℕ) (ns : List ℕ) → most < NEVER → AllByRecursion (λ n. n ≡ NEVER) ns → place most ns ≡ None
none_never most [] l a = refl
none_never most (n ∷ ns) l a =
    ap (λ b. if b then Some 0 else option_map suc (place most ns)) (above_most most n a.0 l)
    ∙ ap (option_map suc) (none_never most ns l a.1)

pub place_take : (most count : ℕ) (ns : List ℕ) → most < NEVER → AreNever count ns
    → place most ns ≡ place most (take count ns)
place_take most zero ns l a = none_never most ns l a.1
place_take most (suc count) [] l a = refl
place_take most (suc count) (n ∷ ns) l a =
    let c = a.0 in
    let within : count ≤ length ns = omega (arith, c) in
    ap (λ o. if nat_le n most then Some 0 else option_map suc o) (place_take most count ns l (within, a.1))

pub set_take : (count at v : ℕ) (ns : List ℕ) → at < count
    → take count (slice_set ns at v) ≡ slice_set (take count ns) at v
set_take zero at v ns l = let no : ⊥ = omega (arith, l) in elim no [ ]
set_take (suc count) at v [] l = refl
set_take (suc count) zero v (n ∷ ns) l = refl
set_take (suc count) (suc at) v (n ∷ ns) l = ap (λ (xs : List ℕ). n ∷ xs) (set_take count at v ns (omega (arith, l)))

pub set_next : (count v : ℕ) (ns : List ℕ) → count < length ns
    → take (count + 1) (slice_set ns count v) ≡ take count ns ++ v ∷ []
set_next count v ns l =
    let one : count + 1 ≡ suc count = omega arith in ap (λ k. take k (slice_set ns count v)) one ∙ go count ns l
  where
    go : (k : ℕ) (xs : List ℕ) → k < length xs → take (suc k) (slice_set xs k v) ≡ take k xs ++ v ∷ []
    go k [] l = let no : ⊥ = omega (arith, l) in elim no [ ]
    go zero (x ∷ xs) l = refl
    go (suc k) (x ∷ xs) l = ap (λ (ys : List ℕ). x ∷ ys) (go k xs (omega (arith, l)))

pub set_same : (ns : List ℕ) (k v : ℕ) → length (slice_set ns k v) ≡ length ns
set_same [] k v = refl
set_same (n ∷ ns) zero v = refl
set_same (n ∷ ns) (suc k) v = ap suc (set_same ns k v)

pub set_never : (count at v : ℕ) (ns : List ℕ) → at < count → AreNever count ns → AreNever count (slice_set ns at v)
set_never zero at v ns l a = let no : ⊥ = omega (arith, l) in elim no [ ]
set_never (suc count) at v [] l a = a
set_never (suc count) zero v (n ∷ ns) l a = a
set_never (suc count) (suc at) v (n ∷ ns) l a =
    let c = a.0 in
    let within : count ≤ length ns = omega (arith, c) in
    let h = set_never count at v ns (omega (arith, l)) (within, a.1) in
    let m = h.0 in
    (omega (arith, m), h.1)

next_one : (count v : ℕ) (ns : List ℕ) → count < length ns → AreNever count ns
    → AreNever (suc count) (slice_set ns count v)
next_one zero v [] l a = let no : ⊥ = omega (arith, l) in elim no [ ]
next_one zero v (n ∷ ns) l a = (omega arith, a.1.1)
next_one (suc count) v [] l a = let no : ⊥ = omega (arith, l) in elim no [ ]
next_one (suc count) v (n ∷ ns) l a =
    let c = a.0 in
    let within : count ≤ length ns = omega (arith, c) in
    let h = next_one count v ns (omega (arith, l)) (within, a.1) in
    let m = h.0 in
    (omega (arith, m), h.1)

pub next_never : (count v : ℕ) (ns : List ℕ) → count < length ns → AreNever count ns
    → AreNever (count + 1) (slice_set ns count v)
next_never count v ns l a = let one : suc count ≡ count + 1 =
    omega arith in subst (λ k. AreNever k (slice_set ns count v)) one (next_one count v ns l a)

pub room_take : (ns ms : List ℕ) → take (length ns) (ns ++ ms) ≡ ns
room_take [] ms = refl
room_take (n ∷ ns) ms = ap (λ (xs : List ℕ). n ∷ xs) (room_take ns ms)

all_never : (k : ℕ) → AllByRecursion (λ n. n ≡ NEVER) (replicate k NEVER)
all_never zero = tt
all_never (suc k) = (refl, all_never k)

pub room_never : (ns : List ℕ) (k : ℕ) → AreNever (length ns) (ns ++ replicate k NEVER)
room_never [] k = (omega arith, all_never k)
room_never (n ∷ ns) k = let h = room_never ns k in let m = h.0 in (omega (arith, m), h.1)

pub full_take : (ns : List ℕ) → take (length ns) ns ≡ ns
full_take [] = refl
full_take (n ∷ ns) = ap (λ (xs : List ℕ). n ∷ xs) (full_take ns)

pub full_never : (ns : List ℕ) → AreNever (length ns) ns
full_never [] = (omega arith, tt)
full_never (n ∷ ns) = let h = full_never ns in let m = h.0 in (omega (arith, m), h.1)

pub more_room : (ns : List ℕ) (k : ℕ) → (ns ++ replicate k NEVER) ++ NEVER ∷ [] ≡ ns ++ replicate (k + 1) NEVER
more_room [] k = go k ∙ ap (λ j. replicate j NEVER) (let one : suc k ≡ k + 1 = omega arith in one)
  where
    go : (j : ℕ) → replicate j NEVER ++ NEVER ∷ [] ≡ replicate (suc j) NEVER
    go zero = refl
    go (suc j) = ap (λ (xs : List ℕ). NEVER ∷ xs) (go j)
more_room (n ∷ ns) k = ap (λ (xs : List ℕ). n ∷ xs) (more_room ns k)
