-- The label of a place among labels that rise.
use Rattle.std.proofs.Common.{◌≡◌, ℕ, zero, suc, ◌<◌, ◌≤◌, ◌+◌, ◌&&◌, ◌/◌, nat_lt, nat_eq, List, [], ◌∷◌, ◌++◌, length}
use Rattle.std.proofs.Common.{slice_get, get_or, take, drop, drop-cons, Option, Some, None, IsSome, Bool, true, false}
use Rattle.std.proofs.Common.{cond, refl, sym, ap, subst, ◌∙◌, arith}
use Rattle.std.proofs.lemmas.Grind.{common_steps}
use Rattle.std.specs.Bool.{◌==◌}
use Rattle.std.proofs.lemmas.Bool.{ltb-true}
use Rattle.std.proofs.lemmas.List.{take-append-drop}
use Rattle.std.proofs.lemmas.Option.{slice_get_within, get_or_from_slice_get}
use Rattle.bds_value.specs.declared.value.Ty.{Ty}
use Rattle.bds_value.specs.Reading.{follows}
use Rattle.bds_verify.specs.Verified.{label_at}
use Rattle.bds_verify.specs.Whole.{rises_from, rises}

abbrev Label : Type 0
Label = ℕ × List Ty

both : (a b : Bool) → (a && b) ≡ true → (a ≡ true) × (b ≡ true)
both true true e = (refl, refl)
both true false e = absurd (cc)
both false b e = absurd (cc)

head_rises : (last : Option ℕ) (l : Label) (ls : List Label) → rises_from last (l ∷ ls) ≡ true
    → (follows nat_lt last l.0 ≡ true) × (rises_from (Some l.0) ls ≡ true)
head_rises last l ls h = both (follows nat_lt last l.0) (rises_from (Some l.0) ls) h

weaker : (last : Option ℕ) (ls : List Label) → rises_from last ls ≡ true → rises ls ≡ true
weaker last [] h = refl
weaker last (l ∷ ls) h = (head_rises last l ls h).1

-- behind a label that rises above a place there is none of that place
absent : (ls : List Label) (a n : ℕ) → n ≤ a → rises_from (Some a) ls ≡ true → label_at ls n ≡ None
absent [] a n le h = refl
absent (l ∷ ls) a n le h =
    let p = head_rises (Some a) l ls h in
    let lt : a < l.0 = ltb-true a l.0 p.0 in
    let not : nat_eq l.0 n ≡ false = grind (arith, common_steps) in
    rw not (absent ls l.0 n (omega arith) p.1)

above : (ls : List Label) (a : ℕ) (m : Label) (behind : List Label) → rises_from (Some a) (ls ++ m ∷ behind) ≡ true
    → a < m.0
above [] a m behind h = ltb-true a m.0 (head_rises (Some a) m behind h).0
above (l ∷ ls) a m behind h =
    let p = head_rises (Some a) l (ls ++ m ∷ behind) h in
    let lt : a < l.0 = ltb-true a l.0 p.0 in
    let more : l.0 < m.0 = above ls l.0 m behind p.1 in
    omega arith

pub front_rises : (last : Option ℕ) (ls more : List Label) → rises_from last (ls ++ more) ≡ true
    → rises_from last ls ≡ true
front_rises last [] more h = refl
front_rises last (l ∷ ls) more h =
    let p = head_rises last l (ls ++ more) h in
    rw (p.0, front_rises (Some l.0) ls more p.1) refl

pub back_rises : (last : Option ℕ) (ls : List Label) (m : Label) (behind : List Label)
    → rises_from last (ls ++ m ∷ behind) ≡ true → rises behind ≡ true
back_rises last [] m behind h = weaker (Some m.0) behind (head_rises last m behind h).1
back_rises last (l ∷ ls) m behind h = back_rises (Some l.0) ls m behind (head_rises last l (ls ++ m ∷ behind) h).1

-- a place before a label is one of the labels before it
pub in_front : (last : Option ℕ) (ls : List Label) (m : Label) (behind : List Label) (n : ℕ) → n < m.0
    → rises_from last (ls ++ m ∷ behind) ≡ true → label_at (ls ++ m ∷ behind) n ≡ label_at ls n
in_front last [] m behind n lt h =
    let p = head_rises last m behind h in
    let not : nat_eq m.0 n ≡ false = grind (arith, common_steps) in
    rw not (absent behind m.0 n (omega arith) p.1)
in_front last (l ∷ ls) m behind n lt h =
    ap (λ x. cond (nat_eq l.0 n) (Some l.1) x) (in_front (Some l.0) ls m behind n lt (head_rises last l (ls
    ++ m ∷ behind) h).1)

-- the labels before one are not of its place, nor of a later one
pub not_in_front : (last : Option ℕ) (ls : List Label) (m : Label) (behind : List Label) (n : ℕ) → m.0 ≤ n
    → rises_from last (ls ++ m ∷ behind) ≡ true → label_at (ls ++ m ∷ behind) n ≡ label_at (m ∷ behind) n
not_in_front last [] m behind n le h = refl
not_in_front last (l ∷ ls) m behind n le h =
    let p = head_rises last l (ls ++ m ∷ behind) h in
    let lt : l.0 < m.0 = above ls l.0 m behind p.1 in
    let not : nat_eq l.0 n ≡ false = grind (arith, common_steps) in
    rw not (not_in_front (Some l.0) ls m behind n le p.1)

pub here : (m : Label) (behind : List Label) (n : ℕ) → m.0 ≡ n → label_at (m ∷ behind) n ≡ Some m.1
here m behind n e = let t : nat_eq m.0 n ≡ true = grind (arith, common_steps) in rw t refl

pub behind_it : (m : Label) (behind : List Label) (n : ℕ) → m.0 < n → label_at (m ∷ behind) n ≡ label_at behind n
behind_it m behind n lt = let t : nat_eq m.0 n ≡ false = grind (arith, common_steps) in rw t refl

split : (xs : List Label) (i : ℕ) (m : Label) → i < length xs → m ≡ get_or xs i m
    → xs ≡ take i xs ++ (m ∷ drop (i + 1) xs)
split xs i m lt is =
    let cons : drop i xs ≡ get_or xs i m ∷ drop (suc i) xs = drop-cons xs i m lt in
    let one : suc i ≡ i + 1 = omega arith in
    let next : drop (suc i) xs ≡ drop (i + 1) xs = ap (λ k. drop k xs) one in
    sym (take-append-drop i xs)
    ∙ ap (λ l. take i xs ++ l) (cons ∙ ap (λ l. get_or xs i m ∷ l) next ∙ ap (λ h. h ∷ drop (i + 1) xs) (sym is))

module _ (xs : List Label) (i n : ℕ) (m : Label) (lt : i < length xs) (is : m ≡ get_or xs i m) (rise : rises xs ≡ true)
  where
    parts : xs ≡ take i xs ++ (m ∷ drop (i + 1) xs)
    parts = split xs i m lt is

    rise_parts : rises_from None (take i xs ++ (m ∷ drop (i + 1) xs)) ≡ true
    rise_parts = subst (λ l. rises l ≡ true) parts rise

    pub found : m.0 ≡ n → Some m.1 ≡ label_at xs n
    found e = sym (ap (λ l. label_at l n) parts
        ∙ not_in_front None (take i xs) m (drop (i + 1) xs) n (omega arith) rise_parts ∙ here m (drop (i + 1) xs) n e)

    pub lower : n < m.0 → (label_at (take i xs) n ≡ label_at xs n) × (rises (take i xs) ≡ true)
    lower l = (
      sym (ap (λ l. label_at l n) parts
          ∙ in_front None (take i xs) m (drop (i + 1) xs) n l rise_parts),
      front_rises None (take i xs)
          (m ∷ drop (i + 1) xs) rise_parts,
    )

    pub upper : m.0 < n → (label_at (drop (i + 1) xs) n ≡ label_at xs n) × (rises (drop (i + 1) xs) ≡ true)
    upper l = (
      sym (ap (λ l. label_at l n) parts ∙ not_in_front None (take i xs) m (drop (i + 1) xs) n (omega arith) rise_parts
          ∙ behind_it m (drop (i + 1) xs) n l),
      back_rises None (take i xs) m (drop (i + 1) xs) rise_parts,
    )

-- the place of a label has one
pub declares : (xs : List Label) (i : ℕ) (m : Label) → rises xs ≡ true → slice_get xs i ≡ Some m
    → IsSome (label_at xs m.0)
declares xs i m rise at =
    let there = found xs i m.0 m (slice_get_within xs i m at) (sym (get_or_from_slice_get xs i m m at)) rise refl in
    subst IsSome there refl

pub half_less : (n : ℕ) → false ≡ (n == 0) → n / 2 < n
half_less zero e = absurd (cc)
half_less (suc n) e = omega arith
