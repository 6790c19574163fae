-- Halved lists by their places, and a change of one number.
use Rattle.std.proofs.Common.{◌≡◌, ℕ, zero, suc, ◌+◌, ◌*◌, ◌/◌, ◌<◌, ◌≤◌, List, [], ◌∷◌, ◌++◌, length, get_or, min}
use Rattle.std.proofs.Common.{refl, sym, ap, ◌∙◌, arith, subst, slice_set, slice_index_or}
use Rattle.bds_levels.specs.Least.{halved, pair_at, raised, AreAbove, AreLong}

pub halved_long : (ns : List ℕ) → length ns ≤ 2 * length (halved ns)
halved_long [] = omega arith
halved_long (a ∷ []) = omega arith
halved_long (a ∷ b ∷ ns) = let h = halved_long ns in omega (arith, h)

pub halved_short : (ns : List ℕ) → 2 * length (halved ns) ≤ length ns + 1
halved_short [] = omega arith
halved_short (a ∷ []) = omega arith
halved_short (a ∷ b ∷ ns) = let h = halved_short ns in omega (arith, h)

pub twice_there : (ns : List ℕ) (k : ℕ) → k < length (halved ns) → 2 * k < length ns
twice_there ns k l = let h = halved_short ns in omega (arith, h, l)

pub half_there : (ns : List ℕ) (k : ℕ) → k < length ns → k / 2 < length (halved ns)
half_there ns k l = let h = halved_long ns in omega (arith, h, l)

pub halved_less : (ns : List ℕ) → 1 < length ns → length (halved ns) < length ns
halved_less ns l = let h = halved_short ns in omega (arith, h, l)

pair_two : (ns : List ℕ) (k j : ℕ) → j ≡ 2 * k → suc j < length ns
    → get_or (halved ns) k 0 ≡ min (get_or ns j 0) (get_or ns (suc j) 0)
pair_two [] k j e l = absurd (omega (arith, l))
pair_two (a ∷ []) k j e l = absurd (omega (arith, l))
pair_two (a ∷ b ∷ ns) zero zero e l = refl
pair_two (a ∷ b ∷ ns) zero (suc j) e l = absurd (omega (arith, e))
pair_two (a ∷ b ∷ ns) (suc k) zero e l = absurd (omega (arith, e))
pair_two (a ∷ b ∷ ns) (suc k) (suc zero) e l = absurd (omega (arith, e))
pair_two (a ∷ b ∷ ns) (suc k) (suc (suc j)) e l =
    let d : j ≡ 2 * k = omega (arith, e) in let m : suc j < length ns = omega (arith, l) in pair_two ns k j d m

pair_one : (ns : List ℕ) (k j : ℕ) → j ≡ 2 * k → length ns ≡ suc j → get_or (halved ns) k 0 ≡ get_or ns j 0
pair_one [] k j e l = absurd (omega (arith, l))
pair_one (a ∷ []) zero zero e l = refl
pair_one (a ∷ []) (suc k) j e l = absurd (omega (arith, e, l))
pair_one (a ∷ []) zero (suc j) e l = absurd (omega (arith, e))
pair_one (a ∷ b ∷ ns) k zero e l = absurd (omega (arith, l))
pair_one (a ∷ b ∷ ns) k (suc zero) e l = absurd (omega (arith, e))
pair_one (a ∷ b ∷ ns) zero (suc (suc j)) e l = absurd (omega (arith, e))
pair_one (a ∷ b ∷ ns) (suc k) (suc (suc j)) e l =
    let d : j ≡ 2 * k = omega (arith, e) in let m : length ns ≡ suc j = omega (arith, l) in pair_one ns k j d m

pub two_there : (ns : List ℕ) (k : ℕ) → 2 * k + 1 < length ns
    → pair_at ns k ≡ min (slice_index_or ns (2 * k) 0) (slice_index_or ns (2 * k + 1) 0)
two_there ns k l =
    let e : suc (2 * k) ≡ 2 * k + 1 = omega arith in
    let m : suc (2 * k) < length ns = omega (arith, l) in
    subst (λ i. pair_at ns k ≡ min (get_or ns (2 * k) 0) (get_or ns i 0)) e (pair_two ns k (2 * k) refl m)

pub one_there : (ns : List ℕ) (k : ℕ) → 2 * k < length ns → length ns ≤ 2 * k + 1
    → pair_at ns k ≡ slice_index_or ns (2 * k) 0
one_there ns k l m = let e : length ns ≡ suc (2 * k) = omega (arith, l, m) in pair_one ns k (2 * k) refl e

pub set_long : (ns : List ℕ) (k v : ℕ) → length (slice_set ns k v) ≡ length ns
set_long [] k v = refl
set_long (n ∷ ns) zero v = refl
set_long (n ∷ ns) (suc k) v = ap suc (set_long ns k v)

halved_set : (ns : List ℕ) (k h v : ℕ) → k < length ns → 2 * h ≤ k → k ≤ 2 * h + 1
    → halved (slice_set ns k v) ≡ slice_set (halved ns) h (get_or (halved (slice_set ns k v)) h 0)
halved_set [] k h v l a b = absurd (omega (arith, l))
halved_set (x ∷ []) zero zero v l a b = refl
halved_set (x ∷ []) zero (suc h) v l a b = absurd (omega (arith, a))
halved_set (x ∷ []) (suc k) h v l a b = absurd (omega (arith, l))
halved_set (x ∷ y ∷ ns) zero zero v l a b = refl
halved_set (x ∷ y ∷ ns) zero (suc h) v l a b = absurd (omega (arith, a))
halved_set (x ∷ y ∷ ns) (suc zero) zero v l a b = refl
halved_set (x ∷ y ∷ ns) (suc zero) (suc h) v l a b = absurd (omega (arith, a))
halved_set (x ∷ y ∷ ns) (suc (suc k)) zero v l a b = absurd (omega (arith, b))
halved_set (x ∷ y ∷ ns) (suc (suc k)) (suc h) v l a b =
    let m : k < length ns = omega (arith, l) in
    let c : 2 * h ≤ k = omega (arith, a) in
    let d : k ≤ 2 * h + 1 = omega (arith, b) in
    ap (λ (ms : List ℕ). min x y ∷ ms) (halved_set ns k h v m c d)

-- what stands over a list of which a place was changed is put right
pub raised_right : (ns : List ℕ) (above : List (List ℕ)) (k v : ℕ) → k < length ns → AreAbove ns above
    → AreAbove (slice_set ns k v) (raised k (slice_set ns k v) above)
raised_right ns [] k v l a = let e = set_long ns k v in omega (arith, e, a)
raised_right ns (ms ∷ rest) k v l a =
    let p = pair_at (slice_set ns k v) (k / 2) in
    let low : 2 * (k / 2) ≤ k = omega arith in
    let high : k ≤ 2 * (k / 2) + 1 = omega arith in
    let there : k / 2 < length ms = subst (λ (xs : List ℕ). k / 2 < length xs) (sym a.0) (half_there ns k l) in (
      ap (λ (xs : List ℕ). slice_set xs (k / 2) p) a.0 ∙ sym (halved_set ns k (k / 2) v l low high),
      raised_right ms rest (k / 2) p there a.1,
    )

pub set_right : (ns ms : List ℕ) (above over : List (List ℕ)) (k v : ℕ) → k < length ns → AreAbove ns above
    → ms ≡ slice_set ns k v → over ≡ raised k ms above → AreAbove ms over
set_right ns ms above over k v l a e u =
    subst (λ (xs : List (List ℕ)). AreAbove ms xs) (sym u) (subst (λ (xs : List ℕ). AreAbove xs (raised k xs above))
    (sym e) (raised_right ns above k v l a))

halved_same : (ns ms : List ℕ) → length ns ≡ length ms → length (halved ns) ≡ length (halved ms)
halved_same ns ms e =
    let a = halved_long ns in let b =
    halved_short ns in let c = halved_long ms in let d = halved_short ms in omega (arith, a, b, c, d, e)

above_long : (ns : List ℕ) (above : List (List ℕ)) → AreAbove ns above → AreLong ns above
above_long ns [] a = tt
above_long ns (ms ∷ rest) a = (ap (λ (xs : List ℕ). length xs) a.0, above_long ms rest a.1)

pub long_set : (ns : List ℕ) (above : List (List ℕ)) (k v : ℕ) → AreLong ns above → AreLong (slice_set ns k v) above
long_set ns [] k v a = tt
long_set ns (ms ∷ rest) k v a = (a.0 ∙ sym (halved_same (slice_set ns k v) ns (set_long ns k v)), a.1)

pub still_long : (ns : List ℕ) (above : List (List ℕ)) (k v : ℕ) → AreAbove ns above → AreLong (slice_set ns k v) above
still_long ns above k v a = long_set ns above k v (above_long ns above a)

-- the levels over a list, as they are made
abbrev pub Chain : List ℕ → List (List ℕ) → Type 0
Chain ns [] = AreLong ns []
Chain ns (ms ∷ rest) = (ms ≡ halved ns) × Chain ms rest

pub chain_on : (ns : List ℕ) (above : List (List ℕ)) (m : List ℕ) → Chain ns (above ++ m ∷ [])
    → Chain ns ((above ++ m ∷ []) ++ halved m ∷ [])
chain_on ns [] m c = (c.0, (refl, tt))
chain_on ns (x ∷ above) m c = (c.0, chain_on x above m c.1)

pub chain_end : (ns : List ℕ) (above : List (List ℕ)) (m : List ℕ) → length m ≤ 1 → Chain ns (above ++ m ∷ [])
    → AreAbove ns (above ++ m ∷ [])
chain_end ns [] m l c = (c.0, l)
chain_end ns (x ∷ above) m l c = (c.0, chain_end x above m l c.1)
