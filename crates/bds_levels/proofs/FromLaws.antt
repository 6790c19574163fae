-- The first of a list that is at most a number, from a place on, and that of the halved list.
use Rattle.std.proofs.Common.{◌≡◌, ℕ, zero, suc, ◌+◌, ◌*◌, ◌/◌, ◌<◌, ◌≤◌, List, [], ◌∷◌, length, get_or, take}
use Rattle.std.proofs.Common.{Option, Some, None, refl, sym, ap, ◌∙◌, arith, subst, slice_index_or}
use Rattle.std.specs.List.{AllByRecursion, slice_get}
use Rattle.std.specs.Option.{option_map}
use Rattle.bds_levels.specs.Least.{AreNever, IsLarge, NEVER, halved, place, place_from}
use Rattle.bds_levels.proofs.PlaceLaws.{below_first, below_second, below_there, none_below, place_no, place_yes}
use Rattle.bds_levels.proofs.RoomLaws.{none_never, place_take}

-- a place of the halved list from which those behind a place are found
abbrev IsHalf : ℕ → ℕ → Type 0
IsHalf at half = (2 * half ≤ at + 1) × (at ≤ 2 * half)

-- what is found behind a place by two places below one
record IsFrom (at most : ℕ) (ns : List ℕ) (j : ℕ) : Type 0 where
  there : j < length ns
  first : get_or ns j 0 ≤ most → place_from at most ns ≡ Some j
  second : most < get_or ns j 0 → place_from at most ns ≡ Some (suc j)

lift : (at most n : ℕ) (ns : List ℕ) (o : Option ℕ) → place_from at most ns ≡ o
    → place_from (suc at) most (n ∷ ns) ≡ option_map suc o
lift at most n ns o e = ap (option_map suc) e

none_of : (o : Option ℕ) → option_map suc o ≡ None → o ≡ None
none_of None e = refl
none_of (Some i) e = absurd (cc)

some_of : (o : Option ℕ) (k : ℕ) → option_map suc o ≡ Some k → (i : ℕ) × ((o ≡ Some i) × (k ≡ suc i))
some_of None k e = absurd (cc)
some_of (Some i) k e = let is : suc i ≡ k = cc in let same : k ≡ suc i = cc in (i, (refl, same))

none_behind : (at half most : ℕ) (ns : List ℕ) → IsHalf at half → IsLarge at most ns
    → place_from half most (halved ns) ≡ None → place_from at most ns ≡ None
none_behind at half most [] h l e = let t = l.0 in absurd (omega (arith, t))
none_behind zero zero most (a ∷ ns) h l e = none_below most (a ∷ ns) e
none_behind zero (suc half) most (a ∷ ns) h l e = let x = h.0 in absurd (omega (arith, x))
none_behind (suc at) half most (a ∷ []) h l e = let t = l.0 in absurd (omega (arith, t))
none_behind (suc at) zero most (a ∷ b ∷ ns) h l e = let x = h.1 in absurd (omega (arith, x))
none_behind (suc zero) (suc zero) most (a ∷ b ∷ ns) h l e =
    lift 0 most a (b ∷ ns) None (place_no most b ns l.1
    ∙ ap (option_map suc) (none_below most ns (none_of (place most (halved ns)) e)))
none_behind (suc zero) (suc (suc half)) most (a ∷ b ∷ ns) h l e = let x = h.0 in absurd (omega (arith, x))
none_behind (suc (suc at)) (suc half) most (a ∷ b ∷ ns) h l e =
    let x = h.0 in
    let y = h.1 in
    let t = l.0 in
    let lo : 2 * half ≤ at + 1 = omega (arith, x) in
    let hi : at ≤ 2 * half = omega (arith, y) in
    let there : at < length ns = omega (arith, t) in
    ap (option_map suc) (ap (option_map suc) (none_behind at half most ns (lo, hi) (there, l.1)
    (none_of (place_from half most (halved ns)) e)))

first_two : (most b : ℕ) (ns : List ℕ) (a i j : ℕ) → most < b → place most (halved ns) ≡ Some i → j ≡ 2 * i
    → IsFrom 1 most (a ∷ b ∷ ns) (suc (suc j))
first_two most b ns a i j l e d =
    let there : 2 * i < length ns = below_there most ns i e in
    record {
      there = omega (arith, there, d);
      first = λ m. lift 0 most a (b ∷ ns) (Some (suc j)) (place_no most b ns l
          ∙ ap (option_map suc) (subst (λ k. get_or ns k 0 ≤ most → place most ns ≡ Some k) (sym d)
          (below_first most ns i e) m));
      second = λ m. lift 0 most a (b ∷ ns) (Some (suc (suc j))) (place_no most b ns l
          ∙ ap (option_map suc) (subst (λ k. most < get_or ns k 0 → place most ns ≡ Some (suc k)) (sym d)
          (λ g. below_second most ns i e g ∙ ap Some (let s : 2 * i + 1 ≡ suc (2 * i) = omega arith in s)) m));
    }

deeper : (at most a b : ℕ) (ns : List ℕ) (j : ℕ) → IsFrom at most ns j
    → IsFrom (suc (suc at)) most (a ∷ b ∷ ns) (suc (suc j))
deeper at most a b ns j h = record {
  there = let t : j < length ns = h.there in omega (arith, t);
  first = λ m. ap (option_map suc) (ap (option_map suc) (h.first m));
  second = λ m. ap (option_map suc) (ap (option_map suc) (h.second m));
}

abbrev Behind : ℕ → ℕ → ℕ → List ℕ → Type 0
Behind at half most ns = (k j : ℕ) → j ≡ 2 * k → place_from half most (halved ns) ≡ Some k → IsFrom at most ns j

behind : (at half most : ℕ) (ns : List ℕ) → IsHalf at half → IsLarge at most ns → Behind at half most ns
behind at half most [] h l k j d e = let t = l.0 in absurd (omega (arith, t))
behind zero zero most (a ∷ ns) h l k j d e = record {
  there = let t = below_there most (a ∷ ns) k e in subst (λ i. i < length (a ∷ ns)) (sym d) t;
  first = subst (λ i. get_or (a ∷ ns) i 0 ≤ most → place most (a ∷ ns) ≡ Some i) (sym d)
      (below_first most (a ∷ ns) k e);
  second = subst (λ i. most < get_or (a ∷ ns) i 0 → place most (a ∷ ns) ≡ Some (suc i)) (sym d)
      (λ g. below_second most (a ∷ ns) k e g ∙ ap Some (let s : 2 * k + 1 ≡ suc (2 * k) = omega arith in s));
}
behind zero (suc half) most (a ∷ ns) h l k j d e = let x = h.0 in absurd (omega (arith, x))
behind (suc at) half most (a ∷ []) h l k j d e = let t = l.0 in absurd (omega (arith, t))
behind (suc at) zero most (a ∷ b ∷ ns) h l k j d e = let x = h.1 in absurd (omega (arith, x))
behind (suc zero) (suc zero) most (a ∷ b ∷ ns) h l k zero d e =
    let s = some_of (place most (halved ns)) k e in let is = s.1.1 in absurd (omega (arith, d, is))
behind (suc zero) (suc zero) most (a ∷ b ∷ ns) h l k (suc zero) d e = absurd (omega (arith, d))
behind (suc zero) (suc zero) most (a ∷ b ∷ ns) h l k (suc (suc j)) d e =
    let s = some_of (place most (halved ns)) k e in
    let is = s.1.1 in
    let half : j ≡ 2 * s.0 = omega (arith, d, is) in
    first_two most b ns a s.0 j l.1 s.1.0 half
behind (suc zero) (suc (suc half)) most (a ∷ b ∷ ns) h l k j d e = let x = h.0 in absurd (omega (arith, x))
behind (suc (suc at)) (suc half) most (a ∷ b ∷ ns) h l k zero d e =
    let s = some_of (place_from half most (halved ns)) k e in let is = s.1.1 in absurd (omega (arith, d, is))
behind (suc (suc at)) (suc half) most (a ∷ b ∷ ns) h l k (suc zero) d e = absurd (omega (arith, d))
behind (suc (suc at)) (suc half) most (a ∷ b ∷ ns) h l k (suc (suc j)) d e =
    let x = h.0 in
    let y = h.1 in
    let t = l.0 in
    let lo : 2 * half ≤ at + 1 = omega (arith, x) in
    let hi : at ≤ 2 * half = omega (arith, y) in
    let there : at < length ns = omega (arith, t) in
    let s = some_of (place_from half most (halved ns)) k e in
    let is = s.1.1 in
    let twice : j ≡ 2 * s.0 = omega (arith, d, is) in
    deeper at most a b ns j (behind at half most ns (lo, hi) (there, l.1) s.0 j twice s.1.0)

half_of : (at : ℕ) → IsHalf at ((at + 1) / 2)
half_of at = (omega arith, omega arith)

pub none_from : (at most : ℕ) (ns : List ℕ) → IsLarge at most ns → place_from ((at + 1) / 2) most (halved ns) ≡ None
    → place_from at most ns ≡ None
none_from at most ns l e = none_behind at ((at + 1) / 2) most ns (half_of at) l e

pub from_there : (at most : ℕ) (ns : List ℕ) (k : ℕ) → IsLarge at most ns
    → place_from ((at + 1) / 2) most (halved ns) ≡ Some k → 2 * k < length ns
from_there at most ns k l e = (behind at ((at + 1) / 2) most ns (half_of at) l k (2 * k) refl e).there

pub from_first : (at most : ℕ) (ns : List ℕ) (k : ℕ) → IsLarge at most ns
    → place_from ((at + 1) / 2) most (halved ns) ≡ Some k → slice_index_or ns (2 * k) 0 ≤ most
    → place_from at most ns ≡ Some (2 * k)
from_first at most ns k l e m = (behind at ((at + 1) / 2) most ns (half_of at) l k (2 * k) refl e).first m

pub from_second : (at most : ℕ) (ns : List ℕ) (k : ℕ) → IsLarge at most ns
    → place_from ((at + 1) / 2) most (halved ns) ≡ Some k → most < slice_index_or ns (2 * k) 0
    → place_from at most ns ≡ Some (2 * k + 1)
from_second at most ns k l e m = let s : suc (2 * k) ≡ 2 * k + 1 =
    omega arith in (behind at ((at + 1) / 2) most ns (half_of at) l k (2 * k) refl e).second m ∙ ap Some s

-- nothing is behind the end
pub from_past : (at most : ℕ) (ns : List ℕ) → length ns ≤ at → place_from at most ns ≡ None
from_past zero most [] l = refl
from_past zero most (n ∷ ns) l = absurd (omega (arith, l))
from_past (suc at) most [] l = refl
from_past (suc at) most (n ∷ ns) l = ap (option_map suc) (from_past at most ns (omega (arith, l)))

-- the place itself
pub from_here : (at most : ℕ) (ns : List ℕ) → at < length ns → slice_index_or ns at 0 ≤ most
    → place_from at most ns ≡ Some at
from_here at most [] l m = absurd (omega (arith, l))
from_here zero most (n ∷ ns) l m = place_yes most n ns m
from_here (suc at) most (n ∷ ns) l m = ap (option_map suc) (from_here at most ns (omega (arith, l)) m)

-- of one number, which is too large
pub none_alone : (at most : ℕ) (ns : List ℕ) → length ns ≤ 1 → IsLarge at most ns → place_from at most ns ≡ None
none_alone at most [] s l = let t = l.0 in absurd (omega (arith, t))
none_alone zero most (n ∷ []) s l = place_no most n [] l.1
none_alone (suc at) most (n ∷ []) s l = let t = l.0 in absurd (omega (arith, t))
none_alone at most (n ∷ m ∷ ns) s l = absurd (omega (arith, s))

-- the room behind the numbers hides nothing

pub place_from_take : (at most count : ℕ) (ns : List ℕ) → most < NEVER → AreNever count ns
    → place_from at most ns ≡ place_from at most (take count ns)
place_from_take zero most count ns l a = place_take most count ns l a
place_from_take (suc at) most zero [] l a = refl
place_from_take (suc at) most zero (n ∷ ns) l a = ap (option_map suc) (none_on at ns a.1.1)
  where
    none_on : (i : ℕ) (ms : List ℕ) → AllByRecursion (λ n. n ≡ NEVER) ms → place_from i most ms ≡ None
    none_on zero ms b = none_never most ms l b
    none_on (suc i) [] b = refl
    none_on (suc i) (m ∷ ms) b = ap (option_map suc) (none_on i ms b.1)
place_from_take (suc at) most (suc count) [] l a = refl
place_from_take (suc at) most (suc count) (n ∷ ns) l a =
    let c = a.0 in
    let within : count ≤ length ns = omega (arith, c) in
    ap (option_map suc) (place_from_take at most count ns l (within, a.1))

pub get_take : (at count : ℕ) (ns : List ℕ) → at < count → at < length ns
    → Some (slice_index_or ns at 0) ≡ slice_get (take count ns) at
get_take at zero ns l t = absurd (omega (arith, l))
get_take at (suc count) [] l t = absurd (omega (arith, t))
get_take zero (suc count) (n ∷ ns) l t = refl
get_take (suc at) (suc count) (n ∷ ns) l t = get_take at count ns (omega (arith, l)) (omega (arith, t))

pub get_past : (at count : ℕ) (ns : List ℕ) → count ≤ at → slice_get (take count ns) at ≡ None
get_past at zero ns l = nothing at
  where
    nothing : (i : ℕ) → slice_get {X = ℕ} [] i ≡ None
    nothing zero = refl
    nothing (suc i) = refl
get_past at (suc count) [] l = nothing at
  where
    nothing : (i : ℕ) → slice_get {X = ℕ} [] i ≡ None
    nothing zero = refl
    nothing (suc i) = refl
get_past zero (suc count) (n ∷ ns) l = absurd (omega (arith, l))
get_past (suc at) (suc count) (n ∷ ns) l = get_past at count ns (omega (arith, l))
