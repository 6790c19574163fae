-- The first of a list that is at most a number, and that of the halved list.
use Rattle.std.proofs.Common.{◌≡◌, ℕ, zero, suc, ◌+◌, ◌*◌, ◌<◌, ◌≤◌, Bool, true, false, List, [], ◌∷◌, length, get_or}
use Rattle.std.proofs.Common.{min, Option, Some, None, refl, ap, ◌∙◌, arith, subst, nat_le, if◌then◌else◌}
use Rattle.std.proofs.Common.{slice_index_or}
use Rattle.std.proofs.lemmas.Bool.{le-leb, leb-true}
use Rattle.std.specs.Option.{option_map}
use Rattle.bds_levels.specs.Least.{place, halved}

not_le : (n m : ℕ) → m < n → nat_le n m ≡ false
not_le n m l = go (nat_le n m) refl
  where
    go : (c : Bool) → nat_le n m ≡ c → c ≡ false
    go true e = let h : n ≤ m = leb-true n m e in absurd (omega (arith, l, h))
    go false e = refl

is_less : (n m : ℕ) → nat_le n m ≡ false → m < n
is_less n m e = grind (arith, e)

pub place_yes : (most n : ℕ) (ns : List ℕ) → n ≤ most → place most (n ∷ ns) ≡ Some 0
place_yes most n ns l = ap (λ (c : Bool). if c then Some 0 else option_map suc (place most ns)) (le-leb n most l)

pub place_no : (most n : ℕ) (ns : List ℕ) → most < n → place most (n ∷ ns) ≡ option_map suc (place most ns)
place_no most n ns l = ap (λ (c : Bool). if c then Some 0 else option_map suc (place most ns)) (not_le n most l)

other_less : (a b m : ℕ) → min a b ≤ m → m < a → b ≤ m
other_less a b m l k = grind (arith, l, k)

left_more : (a b m : ℕ) → m < min a b → m < a
left_more a b m l = grind (arith, l)

right_more : (a b m : ℕ) → m < min a b → m < b
right_more a b m l = grind (arith, l)

-- of two places below one, the first is there; it is meant where what stands there is at most the number, and else the
-- one behind it
pub record IsBelow (most : ℕ) (ns : List ℕ) (j : ℕ) : Type 0 where
  pub there : j < length ns
  pub first : get_or ns j 0 ≤ most → place most ns ≡ Some j
  pub second : most < get_or ns j 0 → place most ns ≡ Some (suc j)

here : (most a b : ℕ) (ns : List ℕ) (j : ℕ) → j ≡ 0 → min a b ≤ most → IsBelow most (a ∷ b ∷ ns) j
here most a b ns zero z l = record {
  there = omega arith;
  first = λ m. place_yes most a (b ∷ ns) m;
  second = λ m. place_no most a (b ∷ ns) m ∙ ap (option_map suc) (place_yes most b ns (other_less a b most l m));
}
here most a b ns (suc j) z l = absurd (omega (arith, z))

shifted : (most a b : ℕ) (ns : List ℕ) (j : ℕ) → most < min a b → IsBelow most ns j
    → IsBelow most (a ∷ b ∷ ns) (suc (suc j))
shifted most a b ns j l h = record {
  there = let t : j < length ns = h.there in omega (arith, t);
  first = λ m. place_no most a (b ∷ ns) (left_more a b most l)
      ∙ ap (option_map suc) (place_no most b ns (right_more a b most l) ∙ ap (option_map suc) (h.first m));
  second = λ m. place_no most a (b ∷ ns) (left_more a b most l)
      ∙ ap (option_map suc) (place_no most b ns (right_more a b most l) ∙ ap (option_map suc) (h.second m));
}

abbrev Behind : ℕ → List ℕ → Type 0
Behind most ns = (k j : ℕ) → j ≡ 2 * k → place most (halved ns) ≡ Some k → IsBelow most ns j

later : (most a b : ℕ) (ns : List ℕ) (k j : ℕ) (o : Option ℕ) → j ≡ 2 * k → most < min a b → Behind most ns
    → place most (halved ns) ≡ o → option_map suc o ≡ Some k → IsBelow most (a ∷ b ∷ ns) j
later most a b ns k j None e l h is p = absurd (cc)
later most a b ns k zero (Some i) e l h is p = let z : suc i ≡ k = cc in absurd (omega (arith, z, e))
later most a b ns k (suc zero) (Some i) e l h is p = let z : suc i ≡ k = cc in absurd (omega (arith, z, e))
later most a b ns k (suc (suc j)) (Some i) e l h is p =
    let z : suc i ≡ k = cc in let d : j ≡ 2 * i = omega (arith, z, e) in shifted most a b ns j l (h i j d is)

two : (most a b : ℕ) (ns : List ℕ) (k j : ℕ) → j ≡ 2 * k → Behind most ns → place most (min a b ∷ halved ns) ≡ Some k
    → IsBelow most (a ∷ b ∷ ns) j
two most a b ns k j e h p = go (nat_le (min a b) most) refl p
  where
    go : (c : Bool) → nat_le (min a b) most ≡ c
        → (if c then Some 0 else option_map suc (place most (halved ns))) ≡ Some k → IsBelow most (a ∷ b ∷ ns) j
    go true c q =
        let z : 0 ≡ k = cc in let y : j ≡ 0 = omega (arith, e, z) in here most a b ns j y (leb-true (min a b) most c)
    go false c q = later most a b ns k j (place most (halved ns)) e (is_less (min a b) most c) h refl q

one : (most a k j : ℕ) → j ≡ 2 * k → place most (a ∷ []) ≡ Some k → IsBelow most (a ∷ []) j
one most a k j e p = go (nat_le a most) refl p
  where
    end : (i : ℕ) → i ≡ 0 → a ≤ most → IsBelow most (a ∷ []) i
    end zero z l =
        record { there = omega arith; first = λ m. place_yes most a [] m; second = λ m. absurd (omega (arith, l, m)) }
    end (suc i) z l = absurd (omega (arith, z))

    go : (c : Bool) → nat_le a most ≡ c → (if c then Some 0 else None) ≡ Some k → IsBelow most (a ∷ []) j
    go true c q = let z : 0 ≡ k = cc in let y : j ≡ 0 = omega (arith, e, z) in end j y (leb-true a most c)
    go false c q = absurd (cc)

below : (most : ℕ) (ns : List ℕ) → Behind most ns
below most [] k j e p = absurd (cc)
below most (a ∷ []) k j e p = one most a k j e p
below most (a ∷ b ∷ ns) k j e p = two most a b ns k j e (below most ns) p

none_two : (most a b : ℕ) (ns : List ℕ) → (place most (halved ns) ≡ None → place most ns ≡ None)
    → place most (min a b ∷ halved ns) ≡ None → place most (a ∷ b ∷ ns) ≡ None
none_two most a b ns h p = go (nat_le (min a b) most) refl p
  where
    rest : (o : Option ℕ) → place most (halved ns) ≡ o → option_map suc o ≡ None → place most ns ≡ None
    rest None is q = h is
    rest (Some i) is q = absurd (cc)

    go : (c : Bool) → nat_le (min a b) most ≡ c → (if c then Some 0 else option_map suc (place most (halved ns))) ≡ None
        → place most (a ∷ b ∷ ns) ≡ None
    go true c q = absurd (cc)
    go false c q =
        let l = is_less (min a b) most c in
        place_no most a (b ∷ ns) (left_more a b most l)
        ∙ ap (option_map suc) (place_no most b ns (right_more a b most l)
        ∙ ap (option_map suc) (rest (place most (halved ns)) refl q))

pub none_below : (most : ℕ) (ns : List ℕ) → place most (halved ns) ≡ None → place most ns ≡ None
none_below most [] p = refl
none_below most (a ∷ []) p = p
none_below most (a ∷ b ∷ ns) p = none_two most a b ns (none_below most ns) p

pub below_there : (most : ℕ) (ns : List ℕ) (k : ℕ) → place most (halved ns) ≡ Some k → 2 * k < length ns
below_there most ns k p = (below most ns k (2 * k) refl p).there

pub below_first : (most : ℕ) (ns : List ℕ) (k : ℕ) → place most (halved ns) ≡ Some k
    → slice_index_or ns (2 * k) 0 ≤ most → place most ns ≡ Some (2 * k)
below_first most ns k p l = (below most ns k (2 * k) refl p).first l

pub below_second : (most : ℕ) (ns : List ℕ) (k : ℕ) → place most (halved ns) ≡ Some k
    → most < slice_index_or ns (2 * k) 0 → place most ns ≡ Some (2 * k + 1)
below_second most ns k p l = let e : suc (2 * k) ≡ 2 * k + 1 =
    omega arith in subst (λ j. place most ns ≡ Some j) e ((below most ns k (2 * k) refl p).second l)
