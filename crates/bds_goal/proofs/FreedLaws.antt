-- Which numbers are set free below a start, and that the least that may go is placed next.
use Rattle.std.proofs.Common.{◌≡◌, ℕ, ◌+◌, ◌<◌, ◌≤◌, Bool, true, false, cond, ◌||◌, ◌&&◌, not, List, [], ◌∷◌, ◌++◌}
use Rattle.std.proofs.Common.{length, Option, Some, None, refl, sym, ap, ◌∙◌, subst, arith, nat_eq, nat_lt}
use Rattle.std.proofs.lemmas.Bool.{eq-eqb, eqb-true, false≢true, lt-ltb, ltb-true}
use Rattle.std.proofs.lemmas.List.{length-set}
use Rattle.std.specs.Prelude.{max}
use Rattle.std.specs.BTreeMap.Range.{IsLtBy}
use Rattle.std.specs.BTreeSet.{insert_key}
use Rattle.std.specs.List.{AllByRecursion, list_any, slice_set}
use Rattle.std.specs.Ordering.{is_lt, match_ordering, nat_cmp}
use Rattle.std.specs.declared.cmp.Ordering.{Ordering}
use Rattle.std.specs.declared.cmp.Ordering.TheVariants.{Less, Equal, Greater}
use Rattle.bds_goal.specs.Chains.{In, is_in}
use Rattle.bds_goal.specs.Marks.{Edge, IsReversed, Marked, edges_of, freed_with, insert_if, is_marked, leads_to, may_go}
use Rattle.bds_goal.specs.Placing.{AreFreed, IsNext, Placing, Takes}
use Rattle.bds_goal.proofs.MakerLaws.{or_left}
use Rattle.bds_goal.proofs.MarkLaws.{any_at, any_from}
use Rattle.bds_goal.proofs.OrderLaws.{and_both, and_left, and_right, follow_more, follows_go, go_follows, in_append}
use Rattle.bds_goal.proofs.OrderLaws.{in_one, is_in_push, marked_within, not_true, true_or_false, unset}

still_none : (edges : List (List ℕ)) (left : List Bool) (n m : ℕ) → may_go edges left m ≡ false
    → leads_to edges m n ≡ false → may_go edges (slice_set left n false) m ≡ false
still_none edges left n m stays apart =
    true_or_false (may_go edges (slice_set left n false) m ≡ false) (may_go edges (slice_set left n false) m)
    (λ yes.
    let now = and_left (is_marked (slice_set left n false) m) _ yes in
    let was = and_left (is_marked left m) _ (sym (unset left n m) ∙ now) in
    let none = not_true _ (and_right (is_marked (slice_set left n false) m) _ yes) in
    elim (false≢true (sym stays
    ∙ and_both (is_marked left m) _ was (true_or_false (not (list_any (is_marked left) (edges_of edges m)) ≡ true)
    (list_any (is_marked left) (edges_of edges m))
    (λ a. let s = any_at left (edges_of edges m) a in
    let kept : is_marked (slice_set left n false) s.0 ≡ true = unset left n s.0 ∙ and_both (is_marked left s.0) _ s.1.1
    (true_or_false (not (nat_eq s.0 n) ≡ true) (nat_eq s.0 n)
    (λ e. elim (false≢true (sym apart ∙ subst (λ x. leads_to edges m x ≡ true) (eqb-true s.0 n e) s.1.0)) [ ])
    (λ e. ap not e)) in
    elim (false≢true (sym none ∙ any_from (slice_set left n false) s.0 (edges_of edges m) s.1.0 kept)) [ ])
    (λ a. ap not a)))) [ ])
    (λ e. e)

still_goes : (edges : List (List ℕ)) (left : List Bool) (n m : ℕ) → may_go edges left m ≡ true → nat_eq m n ≡ false
    → may_go edges (slice_set left n false) m ≡ true
still_goes edges left n m goes apart =
    let gone = slice_set left n false in
    let none = not_true _ (and_right (is_marked left m) _ goes) in
    and_both (is_marked gone m) _ (unset left n m
    ∙ and_both (is_marked left m) _ (and_left (is_marked left m) _ goes) (ap not apart))
    (true_or_false (not (list_any (is_marked gone) (edges_of edges m)) ≡ true)
    (list_any (is_marked gone) (edges_of edges m))
    (λ a. let s = any_at gone (edges_of edges m) a in
    elim (false≢true (sym none
    ∙ any_from left s.0 (edges_of edges m) s.1.0 (and_left (is_marked left s.0) _ (sym (unset left n s.0)
    ∙ s.1.1)))) [ ])
    (λ a. ap not a))

-- those that are set free

or_none : (b : Bool) → b || false ≡ b
or_none true = refl
or_none false = refl

abbrev is_equal : Ordering → Bool
is_equal Less = false
is_equal Equal = true
is_equal Greater = false

pub equal_is : (k x : ℕ) → nat_cmp k x ≡ Equal → k ≡ x
equal_is k x e = go (nat_lt k x) (nat_eq k x) refl e
  where
    go : (a b : Bool) → nat_eq k x ≡ b → cond a Less (cond b Equal Greater) ≡ Equal → k ≡ x
    go true b d h = elim (false≢true (ap is_equal h)) [ ]
    go false true d h = eqb-true k x d
    go false false d h = elim (false≢true (ap is_equal h)) [ ]

in_insert : (ks : List ℕ) (k n : ℕ) → is_in (insert_key nat_cmp ks k) n ≡ is_in ks n || nat_eq n k
in_insert [] k n = or_none (nat_eq n k)
in_insert (x ∷ xs) k n = go (nat_cmp k x) refl (in_insert xs k n)
  where
    swap : (a b : Bool) → a || b ≡ b || a
    swap true true = refl
    swap true false = refl
    swap false true = refl
    swap false false = refl

    again : (a b : Bool) → a || b ≡ (a || b) || a
    again true b = refl
    again false true = refl
    again false false = refl

    join : (a b c : Bool) → a || (b || c) ≡ (a || b) || c
    join true b c = refl
    join false b c = refl

    go : (o : Ordering) → nat_cmp k x ≡ o → is_in (insert_key nat_cmp xs k) n ≡ is_in xs n || nat_eq n k
        → is_in (match_ordering o (k ∷ x ∷ xs) (x ∷ xs) (x ∷ insert_key nat_cmp xs k)) n ≡ (nat_eq n x || is_in xs n) ||
        nat_eq n k
    go Less e h = swap (nat_eq n k) (nat_eq n x || is_in xs n)
    go Equal e h = again (nat_eq n x) (is_in xs n)
        ∙ ap (λ (y : ℕ). (nat_eq n x || is_in xs n) || nat_eq n y) (sym (equal_is k x e))
    go Greater e h = ap (λ b. nat_eq n x || b) h ∙ join (nat_eq n x) (is_in xs n) (nat_eq n k)

freed_in : (goes : ℕ → Bool) (start : ℕ) (us keys : List ℕ) (m : ℕ)
    → is_in (freed_with goes start us keys) m ≡ is_in keys m || (is_in us m && (nat_lt m start && goes m))
freed_in goes start [] keys m = sym (or_none (is_in keys m))
freed_in goes start (u ∷ us) keys m =
    freed_in goes start us (insert_if (nat_lt u start && goes u) u keys) m
    ∙ ap (λ b. b || (is_in us m && (nat_lt m start && goes m))) (put (nat_lt u start && goes u))
    ∙ joined (is_in keys m) (nat_eq m u) (is_in us m) (nat_lt u start && goes u) (nat_lt m start && goes m)
    (λ e. ap (λ (x : ℕ). nat_lt x start && goes x) (sym (eqb-true m u e)))
  where
    put : (c : Bool) → is_in (insert_if c u keys) m ≡ is_in keys m || (nat_eq m u && c)
    put true = in_insert keys u m ∙ ap (λ b. is_in keys m || b) (sym (whole (nat_eq m u)))
      where
        whole : (b : Bool) → b && true ≡ b
        whole true = refl
        whole false = refl
    put false = sym (ap (λ b. is_in keys m || b) (none (nat_eq m u)) ∙ or_none (is_in keys m))
      where
        none : (b : Bool) → b && false ≡ false
        none true = refl
        none false = refl

    joined : (k e i t w : Bool) → (e ≡ true → t ≡ w) → (k || (e && t)) || (i && w) ≡ k || ((e || i) && w)
    joined true e i t w h = refl
    joined false true i t w h = ap (λ b. b || (i && w)) (h refl) ∙ again w i
      where
        again : (a b : Bool) → a || (b && a) ≡ a
        again true b = refl
        again false true = refl
        again false false = refl
    joined false false i t w h = refl

less_is : (k x : ℕ) → nat_cmp k x ≡ Less → k < x
less_is k x e = go (nat_lt k x) (nat_eq k x) refl e
  where
    go : (a b : Bool) → nat_lt k x ≡ a → cond a Less (cond b Equal Greater) ≡ Less → k < x
    go true b d h = ltb-true k x d
    go false true d h = elim (false≢true (ap is_lt h)) [ ]
    go false false d h = elim (false≢true (ap is_lt h)) [ ]

pub above_all : (n : ℕ) (ks : List ℕ) → AllByRecursion (IsLtBy nat_cmp n) ks → (m : ℕ) → In ks m → n < m
above_all n [] a m i = elim (false≢true i) [ ]
above_all n (k ∷ ks) a m i = in_append (n < m) (k ∷ []) ks m (λ j. subst (λ x. n < x) (sym (in_one m k j))
    (less_is n k a.0)) (above_all n ks a.1 m) i

pub no_keys : (ks : List ℕ) → (0 < length ks → false ≡ true) → ks ≡ []
no_keys [] h = refl
no_keys (k ∷ ks) h = elim (false≢true (h (omega arith))) [ ]

pub takes_first : (edges : List (List ℕ)) (left : List Bool) (start n : ℕ) (old new : List ℕ)
    → AreFreed edges left start old → old ≡ n ∷ new → ((m : ℕ) → In new m → n < m) → Takes edges left old new (Some n)
takes_first edges left start n old new f is above =
    let here : In old n = ap (λ ks. is_in ks n) is ∙ or_left (nat_eq n n) (is_in new n) (eq-eqb n n refl) in
    let low = f.below n here in (
      sym (f.each n low) ∙ here,
      λ m g. true_or_false (n ≤ m) (nat_lt m start)
          (λ e. let there : In old m = f.each m (ltb-true m start e) ∙ g in
          in_append (n ≤ m) (n ∷ []) new m (λ i. let same = in_one m n i in omega (arith, same))
          (λ i. let less = above m i in omega (arith, less)) (ap (λ ks. is_in ks m) (sym is) ∙ there))
          (λ e. let far : start ≤ m = grind (arith, e) in omega (arith, far, low)),
      λ m. sym (ap (λ ks. is_in ks m && not (nat_eq m n)) is
          ∙ out (nat_eq m n) (is_in new m) (λ e. true_or_false (is_in new m ≡ false) (is_in new m)
          (λ i. let less = above m i in let same = eqb-true m n e in let no : ⊥ = omega (arith, less, same) in elim no
          [ ]) (λ i. i))),
    )
  where
    out : (e b : Bool) → (e ≡ true → b ≡ false) → (e || b) && not e ≡ b
    out true b h = sym (h refl)
    out false true h = refl
    out false false h = refl

pub takes_next : (edges : List (List ℕ)) (left : List Bool) (start : ℕ) (old new : List ℕ) (o : Option ℕ)
    → AreFreed edges left start old → old ≡ [] → new ≡ old → IsNext edges left start o → Takes edges left old new o
takes_next edges left start old new None f none same next =
    λ n. true_or_false (may_go edges left n ≡ false) (nat_lt n start)
    (λ e. sym (f.each n (ltb-true n start e)) ∙ ap (λ ks. is_in ks n) none)
    (λ e. next n (grind (arith, e)))
takes_next edges left start old new (Some n) f none same next = (
  next.0,
  λ m g. true_or_false (n ≤ m) (nat_lt m start)
      (λ e. elim (false≢true (sym (sym (f.each m (ltb-true m start e)) ∙ ap (λ ks. is_in ks m) none) ∙ g)) [ ])
      (λ e. true_or_false (n ≤ m) (nat_lt m n)
      (λ d. elim (false≢true (sym (next.1 m (grind (arith, e)) (ltb-true m n d)) ∙ g)) [ ])
      (λ d. grind (arith, d))),
  λ m. let empty =
      ap (λ ks. is_in ks m) none in ap (λ ks. is_in ks m) same ∙ empty ∙ sym (ap (λ b. b && not (nat_eq m n)) empty),
)

pub placing_more : (edges users : List (List ℕ)) (todo left : List Bool) (placed : List ℕ) (start n : ℕ)
    (old new : List ℕ) → length todo ≡ length edges → IsReversed edges users → Placing edges todo left placed start old
    → Takes edges left old new (Some n)
    → Placing edges todo (slice_set left n false) (placed
    ++ n ∷ []) (max start (n + 1)) (freed_with (may_go edges (slice_set left n false)) (max start (n + 1))
    (edges_of users n) new)
placing_more edges users todo left placed start n old new long back p taken =
    let gone = slice_set left n false in
    let next = max start (n + 1) in
    let within : n < length edges =
    let here = marked_within left n (and_left (is_marked left n) _ taken.0) in let same = p.long in omega arith in
    record {
      long = length-set left n false ∙ p.long;
      follow = follow_more (Edge edges) (Marked todo) [] placed n p.follow
          (go_follows edges todo left placed start old p n taken.0)
          (λ m h. taken.1 m (follows_go edges todo left placed start old p m h));
      rest = λ k. unset left n k ∙ ap (λ b. b && not (nat_eq k n)) (p.rest k)
          ∙ both (is_marked todo k) (is_in placed k) (nat_eq k n)
          ∙ ap (λ b. is_marked todo k && not b) (sym (is_in_push placed k n));
      free = record {
        each = λ m l.
            freed_in (may_go edges gone) next (edges_of users n) new m
            ∙ ap (λ b. b || (is_in (edges_of users n) m && (nat_lt m next && may_go edges gone m))) (taken.2 m)
            ∙ fits (is_in old m) (nat_eq m n) (is_in (edges_of users n) m) (nat_lt m next) (may_go edges gone m)
            (lt-ltb m next l)
            (λ e. ap (λ b. b && not (list_any (is_marked gone) (edges_of edges m))) (unset left n m
            ∙ out (is_marked left m) (nat_eq m n) e))
            (λ e o. still_goes edges left n m (sym (p.free.each m (p.free.below m o)) ∙ o) e)
            (λ e o u. still_none edges left n m
            (true_or_false (may_go edges left m ≡ false) (may_go edges left m)
            (λ g. true_or_false (may_go edges left m ≡ false) (nat_lt m start)
            (λ d. elim (false≢true (sym o ∙ (p.free.each m (ltb-true m start d) ∙ g))) [ ])
            (λ d. let far : start ≤ m = grind (arith, d) in let up = taken.1 m g in let same : m ≡ n = omega
            (arith, far, up, l) in elim (false≢true (sym e ∙ eq-eqb m n same)) [ ]))
            (λ g. g))
            (sym (back.same m n within) ∙ u));
        below = λ m i. low m (is_in old m && not (nat_eq m n))
            (is_in (edges_of users n) m && (nat_lt m next && may_go edges gone m))
            (λ h. let l = p.free.below m (and_left (is_in old m) _ h) in omega (arith, l))
            (λ h. ltb-true m next (and_left (nat_lt m next) _ (and_right (is_in (edges_of users n) m) _ h)))
            (sym (freed_in (may_go edges gone) next (edges_of users n) new m
            ∙ ap (λ b. b || (is_in (edges_of users n) m && (nat_lt m next && may_go edges gone m))) (taken.2 m))
            ∙ i);
      };
    }
  where
    out : (a b : Bool) → b ≡ true → a && not b ≡ false
    out true true e = refl
    out false b e = refl
    out true false e = sym e

    both : (a b c : Bool) → (a && not b) && not c ≡ a && not (b || c)
    both true true c = refl
    both true false c = refl
    both false b c = refl

    none : (b : Bool) → b && false ≡ false
    none true = refl
    none false = refl

    fits : (o e u l g : Bool) → l ≡ true → (e ≡ true → g ≡ false) → (e ≡ false → o ≡ true → g ≡ true)
        → (e ≡ false → o ≡ false → u ≡ false → g ≡ false) → (o && not e) || (u && (l && g)) ≡ g
    fits o e u false g t a b c = elim (false≢true t) [ ]
    fits true true u true g t a b c = ap (λ x. u && x) (a refl) ∙ none u ∙ sym (a refl)
    fits false true u true g t a b c = ap (λ x. u && x) (a refl) ∙ none u ∙ sym (a refl)
    fits true false u true g t a b c = sym (b refl refl)
    fits false false true true g t a b c = refl
    fits false false false true g t a b c = sym (c refl refl refl)

    low : (m : ℕ) (a b : Bool) → (a ≡ true → m < max start (n + 1)) → (b ≡ true → m < max start (n + 1)) → a || b ≡ true
        → m < max start (n + 1)
    low m true b f h i = f refl
    low m false b f h i = h i
