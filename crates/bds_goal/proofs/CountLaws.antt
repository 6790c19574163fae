-- The counts of those that are left tell which may go, also behind one that is placed.
use Rattle.std.proofs.Common.{◌≡◌, ℕ, zero, suc, ◌+◌, ◌-◌, ◌<◌, ◌≤◌, Bool, true, false, ◌||◌, ◌&&◌, not, List, [], ◌∷◌}
use Rattle.std.proofs.Common.{◌++◌, length, map, Some, refl, sym, ap, ◌∙◌, subst, arith, get_or, take, nat_eq, nat_lt}
use Rattle.std.proofs.Common.{if◌then◌else◌}
use Rattle.std.proofs.lemmas.Bool.{eq-eqb, eqb-true, false≢true}
use Rattle.std.proofs.lemmas.List.{take_all}
use Rattle.std.specs.List.{list_any, slice_set}
use Rattle.std.specs.Prelude.{max}
use Rattle.bds_goal.specs.Counts.{AreCounts, count_in, goes, lowered, one_if}
use Rattle.bds_tasks.specs.Kept.{times}
use Rattle.bds_goal.specs.Marks.{IsReversed, Marked, edges_of, freed_with, insert_if, is_marked, may_go}
use Rattle.bds_goal.specs.Placing.{Placing, Takes}
use Rattle.bds_goal.proofs.FreedLaws.{placing_more}
use Rattle.bds_goal.proofs.MakerLaws.{both_later, first_isnt, later_isnt}
use Rattle.bds_goal.proofs.OrderLaws.{and_left, marked_within, unset}

any_counted : (marks : List Bool) (ns : List ℕ) → nat_eq (count_in marks ns) 0 ≡ not (list_any (is_marked marks) ns)
any_counted marks [] = refl
any_counted marks (n ∷ ns) = go (is_marked marks n) (any_counted marks ns)
  where
    go : (b : Bool) → nat_eq (count_in marks ns) 0 ≡ not (list_any (is_marked marks) ns)
        → nat_eq (if b then suc (count_in marks ns) else count_in marks ns) 0 ≡ not (b || list_any (is_marked marks) ns)
    go true h = later_isnt (count_in marks ns)
    go false h = h

goes_is : (edges : List (List ℕ)) (left : List Bool) (counts : List ℕ) → AreCounts edges left counts → (n : ℕ)
    → goes left counts n ≡ may_go edges left n
goes_is edges left counts h n =
    ap (λ b. is_marked left n && b) (ap (λ c. nat_eq c 0) (h n) ∙ any_counted left (edges_of edges n))

freed_same : (f g : ℕ → Bool) → ((n : ℕ) → f n ≡ g n) → (start : ℕ) (us keys : List ℕ)
    → freed_with f start us keys ≡ freed_with g start us keys
freed_same f g h start [] keys = refl
freed_same f g h start (u ∷ us) keys =
    freed_same f g h start us (insert_if (nat_lt u start && f u) u keys)
    ∙ ap (λ b. freed_with g start us (insert_if (nat_lt u start && b) u keys)) (h u)

count_less : (left : List Bool) (n : ℕ) → Marked left n → (ns : List ℕ)
    → count_in left ns ≡ count_in (slice_set left n false) ns + times n ns
count_less left n m [] = refl
count_less left n m (k ∷ ns) = go (nat_eq n k) refl (count_less left n m ns)
  where
    other : nat_eq n k ≡ false → nat_eq k n ≡ false
    other e = turn (nat_eq k n) refl
      where
        turn : (b : Bool) → nat_eq k n ≡ b → b ≡ false
        turn true f = elim (false≢true (sym e ∙ eq-eqb n k (sym (eqb-true k n f)))) [ ]
        turn false f = refl

    here : (a b : Bool) → a ≡ true → b ≡ false → count_in left ns ≡ count_in (slice_set left n false) ns + times n ns
        → (if a then suc (count_in left ns) else count_in left ns) ≡
        (if b then suc (count_in (slice_set left n false) ns) else count_in (slice_set left n false) ns) + suc
        (times n ns)
    here true false e f h = omega (arith, h)
    here false b e f h = elim (false≢true e) [ ]
    here true true e f h = elim (false≢true (sym f)) [ ]

    there : (a b : Bool) → b ≡ a → count_in left ns ≡ count_in (slice_set left n false) ns + times n ns
        → (if a then suc (count_in left ns) else count_in left ns) ≡
        (if b then suc (count_in (slice_set left n false) ns) else count_in (slice_set left n false) ns) + times n ns
    there true true e h = omega (arith, h)
    there false false e h = h
    there true false e h = elim (false≢true e) [ ]
    there false true e h = elim (false≢true (sym e)) [ ]

    no_more : (a : Bool) → a && not true ≡ false
    no_more true = refl
    no_more false = refl

    still : (a : Bool) → a && not false ≡ a
    still true = refl
    still false = refl

    go : (b : Bool) → nat_eq n k ≡ b → count_in left ns ≡ count_in (slice_set left n false) ns + times n ns
        → (if is_marked left k then suc (count_in left ns) else count_in left ns) ≡
        (if is_marked (slice_set left n false) k then suc (count_in (slice_set left n false) ns) else count_in
        (slice_set left n false) ns) + (if b then suc (times n ns) else times n ns)
    go true e h =
        let is = eqb-true n k e in
        here (is_marked left k) (is_marked (slice_set left n false) k) (ap (is_marked left) (sym is)
        ∙ m) (unset left n k ∙ ap (λ b. is_marked left k && not b) (eq-eqb k n (sym is))
        ∙ no_more (is_marked left k)) h
    go false e h = there (is_marked left k) (is_marked (slice_set left n false) k) (unset left n k
        ∙ ap (λ b. is_marked left k && not b) (other e) ∙ still (is_marked left k)) h

less_none : (x : ℕ) → x ≡ x - 0
less_none x = omega arith

set_less : (cs : List ℕ) (n i : ℕ)
    → get_or (slice_set cs n (get_or cs n 0 - 1)) i 0 ≡ get_or cs i 0 - one_if (nat_eq i n)
set_less [] n i = let e : 0 ≡ 0 - one_if (nat_eq i n) = omega arith in e
set_less (c ∷ cs) zero zero = refl
set_less (c ∷ cs) zero (suc i) = less_none (get_or cs i 0) ∙ ap (λ b. get_or cs i 0 - one_if b) (sym (later_isnt i))
set_less (c ∷ cs) (suc n) zero = less_none c ∙ ap (λ b. c - one_if b) (sym (first_isnt n))
set_less (c ∷ cs) (suc n) (suc i) = set_less cs n i ∙ ap (λ b. get_or cs i 0 - one_if b) (sym (both_later i n))

lowered_at : (ns counts : List ℕ) (i : ℕ) → get_or (lowered ns counts) i 0 ≡ get_or counts i 0 - times i ns
lowered_at [] counts i = less_none (get_or counts i 0)
lowered_at (n ∷ ns) counts i =
    lowered_at ns (slice_set counts n (get_or counts n 0 - 1)) i
    ∙ ap (λ c. c - times i ns) (set_less counts n i)
    ∙ go (get_or counts i 0) (times i ns) (nat_eq i n)
  where
    go : (a t : ℕ) (b : Bool) → (a - one_if b) - t ≡ a - (if b then suc t else t)
    go a t true = let e : (a - 1) - t ≡ a - suc t = omega arith in e
    go a t false = let e : (a - 0) - t ≡ a - t = omega arith in e

counts_all : (left : List Bool) (edges : List (List ℕ)) (n : ℕ)
    → get_or (map (count_in left) edges) n 0 ≡ count_in left (edges_of edges n)
counts_all left [] n = refl
counts_all left (x ∷ xs) zero = refl
counts_all left (x ∷ xs) (suc n) = counts_all left xs n

pub counts_end : (left : List Bool) (edges : List (List ℕ)) (counts : List ℕ) (i : ℕ)
    → counts ≡ map (count_in left) (take i edges) → length edges ≤ i → AreCounts edges left counts
counts_end left edges counts i made l n =
    ap (λ cs. get_or cs n 0) (made ∙ ap (map (count_in left)) (take_all i edges l)) ∙ counts_all left edges n

-- one is placed, and the counts of those that lead to it are lowered
counts_more : (edges users : List (List ℕ)) (left : List Bool) (counts : List ℕ) (n : ℕ) → IsReversed edges users
    → n < length edges → Marked left n → AreCounts edges left counts
    → AreCounts edges (slice_set left n false) (lowered (edges_of users n) counts)
counts_more edges users left counts n back within m h i =
    let e = count_less left n m (edges_of edges i) in
    lowered_at (edges_of users n) counts i
    ∙ ap (λ c. c - times i (edges_of users n)) (h i)
    ∙ ap (λ t. count_in left (edges_of edges i) - t) (back.often i n within)
    ∙ fell (count_in left (edges_of edges i)) (count_in (slice_set left n false) (edges_of edges i))
    (times n (edges_of edges i)) e
  where
    fell : (a b t : ℕ) → a ≡ b + t → a - t ≡ b
    fell a b t e = omega (arith, e)

-- one more is placed, where counts tell which may go
pub placing_by_counts : (edges users : List (List ℕ)) (todo left : List Bool) (counts placed : List ℕ) (start n : ℕ)
    (old new : List ℕ) → length todo ≡ length edges → IsReversed edges users
    → Placing edges todo left placed start old × AreCounts edges left counts → Takes edges left old new (Some n)
    → (gone : List Bool) (fewer : List ℕ) → gone ≡ slice_set left n false → fewer ≡ lowered (edges_of users n) counts
    → Placing edges todo gone (placed
    ++ n ∷ []) (max start (n + 1)) (freed_with (goes gone fewer) (max start (n + 1)) (edges_of users n) new)
    × AreCounts edges gone fewer
placing_by_counts edges users todo left counts placed start n old new long back h taken gone fewer is less =
    let here = and_left (is_marked left n) _ taken.0 in
    let within : n < length edges =
    let l = marked_within left n here in let same = h.0.long in omega (arith, l, same, long) in
    let counted = counts_more edges users left counts n back within here h.1 in
    let next = max start (n + 1) in
    let us = edges_of users n in
    let now = subst (λ cs. AreCounts edges (slice_set left n false) cs) (sym less) counted in
    let all : AreCounts edges gone fewer = subst (λ l. AreCounts edges l fewer) (sym is) now in
    let placing = placing_more edges users todo left placed start n old new long back h.0 taken in
    let moved = subst (λ l. Placing edges todo l (placed
    ++ n ∷ []) next (freed_with (may_go edges l) next us new)) (sym is) placing in (
      subst (λ f. Placing edges todo gone (placed
          ++ n ∷ []) next f) (sym (freed_same (goes gone fewer) (may_go edges gone) (goes_is edges gone fewer all) next us
          new)) moved,
      all,
    )
