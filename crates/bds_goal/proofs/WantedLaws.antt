-- The rules that a goal reaches are those that lead, against their needs, to a maker of a target.
use Rattle.std.proofs.Common.{◌≡◌, ℕ, zero, suc, ◌+◌, ◌<◌, ◌≤◌, Bool, true, false, ◌||◌, ◌&&◌, List, [], ◌∷◌, ◌++◌}
use Rattle.std.proofs.Common.{length, Option, Some, None, refl, sym, ap, ◌∙◌, subst, arith, nat_eq, nat_lt, replicate}
use Rattle.std.proofs.Common.{if◌then◌else◌}
use Rattle.std.proofs.lemmas.Bool.{eqb-true, false≢true}
use Rattle.std.proofs.lemmas.List.{length-set, length_push}
use Rattle.std.specs.List.{slice_set}
use Rattle.std.specs.Str.{bytes_eq}
use Rattle.bds_rules.specs.declared.rule.Rule.{Rule}
use Rattle.bds_rules.specs.Makers.{is_among, maker}
use Rattle.bds_rules.specs.Own.{AreOwn}
use Rattle.bds_goal.specs.Chains.{IsChain, is_in, last_of}
use Rattle.bds_goal.specs.Edges.{AreEdges, AreWanted, with_maker, with_makers}
use Rattle.bds_goal.specs.Goals.{NamesFile, Makes, Needs, Reached, ReachedRule, Takes, inputs, outputs}
use Rattle.bds_goal.specs.Goals.Reached.{target, with}
use Rattle.bds_tasks.specs.Kept.{times}
use Rattle.bds_goal.specs.Marks.{AreEmpty, Back, Edge, IsReversed, IsSpread, Marked, Reversing, edges_of, leads_to}
use Rattle.bds_goal.specs.Marks.{with_user, with_users}
use Rattle.bds_goal.proofs.MarkLaws.{marked_kept, marked_set, set_marked}
use Rattle.bds_goal.proofs.EdgeLaws.{makes_within}
use Rattle.bds_goal.proofs.TimesLaws.{times_end, times_more, with_times}
use Rattle.bds_goal.proofs.MakerLaws.{both_later, first_isnt, itself, later_isnt, made_by_maker, maker_is, one_maker}
use Rattle.bds_goal.proofs.MakerLaws.{or_left, or_right, same_bool, same_bytes}

-- marks of makers

one_marked : (P : ℕ → Type 0) (o : Option ℕ) (marks : List Bool) (n : ℕ) → (o ≡ Some n → P n) → (Marked marks n → P n)
    → Marked (with_maker o marks) n → P n
one_marked P None marks n f g m = g m
one_marked P (Some s) marks n f g m = marked_set P marks s n (λ e. f (ap Some (sym e))) g m

pub makers_marked : (P : ℕ → Type 0) (rules : List Rule) (files : List (List ℕ)) (marks : List Bool) (n : ℕ)
    → ((f : List ℕ) → is_among files f ≡ true → maker rules f ≡ Some n → P n) → (Marked marks n → P n)
    → Marked (with_makers rules files marks) n → P n
makers_marked P rules [] marks n f g m = g m
makers_marked P rules (x ∷ xs) marks n f g m =
    makers_marked P rules xs (with_maker (maker rules x) marks) n
    (λ y a e. f y (or_right (bytes_eq x y) (is_among xs y) a) e)
    (one_marked P (maker rules x) marks n (λ e. f x (or_left (bytes_eq x x) (is_among xs x) (itself x)) e) g) m

one_kept : (o : Option ℕ) (marks : List Bool) (n : ℕ) → Marked marks n → Marked (with_maker o marks) n
one_kept None marks n m = m
one_kept (Some s) marks n m = marked_kept marks s n m

makers_kept : (rules : List Rule) (files : List (List ℕ)) (marks : List Bool) (n : ℕ) → Marked marks n
    → Marked (with_makers rules files marks) n
makers_kept rules [] marks n m = m
makers_kept rules (x ∷ xs) marks n m =
    makers_kept rules xs (with_maker (maker rules x) marks) n (one_kept (maker rules x) marks n m)

one_long : (o : Option ℕ) (marks : List Bool) → length (with_maker o marks) ≡ length marks
one_long None marks = refl
one_long (Some s) marks = length-set marks s true

pub makers_long : (rules : List Rule) (files : List (List ℕ)) (marks : List Bool)
    → length (with_makers rules files marks) ≡ length marks
makers_long rules [] marks = refl
makers_long rules (x ∷ xs) marks =
    makers_long rules xs (with_maker (maker rules x) marks) ∙ one_long (maker rules x) marks

makers_in : (rules : List Rule) (files : List (List ℕ)) (marks : List Bool) (n : ℕ) (f : List ℕ)
    → is_among files f ≡ true → maker rules f ≡ Some n → n < length marks → Marked (with_makers rules files marks) n
makers_in rules [] marks n f a e l = elim (false≢true a) [ ]
makers_in rules (x ∷ xs) marks n f a e l = go (λ h. makers_in rules xs (with_maker (maker rules x) marks) n f h e
    (subst (λ k. n < k) (sym (one_long (maker rules x) marks)) l)) (bytes_eq x f) refl a
  where
    here : (o : Option ℕ) → o ≡ Some n → Marked (with_maker o marks) n
    here o is = subst (λ p. Marked (with_maker p marks) n) (sym is) (set_marked marks n l)

    go : (is_among xs f ≡ true → Marked (with_makers rules (x ∷ xs) marks) n) → (b : Bool) → bytes_eq x f ≡ b
        → b || is_among xs f ≡ true → Marked (with_makers rules (x ∷ xs) marks) n
    go more true d h = makers_kept rules xs (with_maker (maker rules x) marks) n
        (here (maker rules x) (ap (maker rules) (same_bytes x f d) ∙ e))
    go more false d h = more h

-- what a rule that is reached needs is reached

pub takes_has : (rules : List Rule) (n : ℕ) (f : List ℕ) → Takes rules n f → NamesFile rules n f
takes_has rules n f t = among_left (inputs rules n) (outputs rules n) f t
  where
    among_left : (xs ys : List (List ℕ)) (g : List ℕ) → is_among xs g ≡ true → is_among (xs ++ ys) g ≡ true
    among_left [] ys g a = elim (false≢true a) [ ]
    among_left (x ∷ xs) ys g a = go (among_left xs ys g) (bytes_eq x g) a
      where
        go : (is_among xs g ≡ true → is_among (xs ++ ys) g ≡ true) → (b : Bool) → b || is_among xs g ≡ true
            → b || is_among (xs ++ ys) g ≡ true
        go more true h = refl
        go more false h = more h

pub has_one : (P : Type 0) (xs ys : List (List ℕ)) (g : List ℕ) → (is_among xs g ≡ true → P)
    → (is_among ys g ≡ true → P) → is_among (xs ++ ys) g ≡ true → P
has_one P [] ys g f h a = h a
has_one P (x ∷ xs) ys g f h a = go (has_one P xs ys g) (bytes_eq x g) refl a f
  where
    go : ((is_among xs g ≡ true → P) → (is_among ys g ≡ true → P) → is_among (xs ++ ys) g ≡ true → P) → (b : Bool)
        → bytes_eq x g ≡ b → b || is_among (xs ++ ys) g ≡ true → ((b || is_among xs g ≡ true) → P) → P
    go more true d a k = k refl
    go more false d a k = more k h a

pub needed_reached : (rules : List Rule) (targets : List (List ℕ)) (r s : ℕ) → ReachedRule rules targets r
    → Needs rules r s → ReachedRule rules targets s
needed_reached rules targets r s h n = record {
  file = n.file;
  makes = n.makes;
  reached = with r h.file n.file h.reached h.makes (takes_has rules r n.file n.takes);
}

led_reached : (rules : List Rule) (targets : List (List ℕ)) (edges : List (List ℕ)) (start : List Bool)
    → ((r s : ℕ) → Edge edges r s → Needs rules r s) → ((n : ℕ) → Marked start n → ReachedRule rules targets n)
    → (n : ℕ) (by : List ℕ) → IsChain (Back edges) n by → Marked start (last_of n by) → ReachedRule rules targets n
led_reached rules targets edges start f g n [] c e = g n e
led_reached rules targets edges start f g n (m ∷ ms) c e =
    needed_reached rules targets m n (led_reached rules targets edges start f g m ms c.1 e) (f m n c.0)

pub edge_there : (edges : List (List ℕ)) (s r : ℕ) → leads_to edges s r ≡ true → s < length edges
edge_there [] s r e = elim (false≢true e) [ ]
edge_there (x ∷ xs) zero r e = omega arith
edge_there (x ∷ xs) (suc s) r e = let h = edge_there xs s r e in omega arith

module _ (rules : List Rule) (targets : List (List ℕ)) (edges : List (List ℕ)) (start marks : List Bool)
    (own : AreOwn [] rules) (are : AreEdges rules edges) (spread : IsSpread edges start marks) where
  makers_reached : ((n : ℕ) → Marked start n → (f : List ℕ) × ((is_among targets f ≡ true) × (maker rules f ≡ Some n)))
      → (n : ℕ) → Marked marks n → ReachedRule rules targets n
  makers_reached from n m =
      let l = spread.lead n m in
      led_reached rules targets edges start (λ r s e. (are.same r s).0 e)
      (λ k h. let t = from k h in record {
        file = t.0;
        makes = made_by_maker rules t.0 k t.1.1;
        reached = target t.0 t.1.0;
      })
      n l.by l.each l.ends

  marked_reached : ((f : List ℕ) (n : ℕ) → is_among targets f ≡ true → maker rules f ≡ Some n → Marked start n)
      → (f : List ℕ) → Reached rules targets f → (n : ℕ) → Makes rules n f → Marked marks n
  marked_reached put f (target g a) n m =
      spread.all n (record { by = []; each = tt; ends = put g n a (maker_is rules own n g m) })
  marked_reached put f (with k made g r mk h) n m =
      has_one (Marked marks n) (inputs rules k) (outputs rules k) g
      (λ t.
      let need : Needs rules k n = record { file = g; takes = t; makes = m } in
      let on = spread.lead k (marked_reached put made r k mk) in
      spread.all n (record { by = k ∷ on.by; each = ((are.same k n).1 need, on.each); ends = on.ends }))
      (λ o. subst (λ x. Marked marks x) (one_maker rules own k n g o m) (marked_reached put made r k mk)) h

pub wanted : (rules : List Rule) (targets : List (List ℕ)) (edges : List (List ℕ)) (none marks : List Bool)
    → AreOwn [] rules → AreEdges rules edges → length none ≡ length rules + 1 → ((n : ℕ) → Marked none n → ⊥)
    → length marks ≡ length none → IsSpread edges (with_makers rules targets none) marks → AreWanted rules targets marks
wanted rules targets edges none marks own are long empty same spread =
    let start = with_makers rules targets none in
    record {
      long = same ∙ long;
      each = λ n. (
        makers_reached rules targets edges start marks own are spread (λ k m. makers_marked (λ x. (f : List ℕ)
            × ((is_among targets f ≡ true)
            × (maker rules f ≡ Some x))) rules targets none k (λ f a e. (f, (a, e))) (λ h. elim (empty k h) [ ]) m) n,
        λ r. marked_reached rules targets edges start marks own are spread
            (λ f k a e. makers_in rules targets none k f a e (subst (λ x. k < x) (sym long)
            (makes_within rules k f (made_by_maker rules f k e)))) r.file r.reached n r.makes,
      );
    }

-- lists that lead the other way

set_leads : (users : List (List ℕ)) (i j k m : ℕ) → m < length users
    → leads_to (slice_set users j (edges_of users j ++ i ∷ [])) m k ≡ leads_to users m k || (nat_eq m j && nat_eq k i)
set_leads users i j k m l = go users (edges_of users j ++ i ∷ []) j m l (λ e. is_in_last (edges_of users j) k i)
  where
    or_false : (b : Bool) → b ≡ b || false
    or_false true = refl
    or_false false = refl

    is_in_last : (ns : List ℕ) (x y : ℕ) → is_in (ns ++ y ∷ []) x ≡ is_in ns x || nat_eq x y
    is_in_last [] x y = go2 (nat_eq x y)
      where
        go2 : (b : Bool) → b || false ≡ b
        go2 true = refl
        go2 false = refl
    is_in_last (n ∷ ns) x y = go2 (nat_eq x n) (is_in_last ns x y)
      where
        go2 : (b : Bool) → is_in (ns ++ y ∷ []) x ≡ is_in ns x || nat_eq x y
            → b || is_in (ns ++ y ∷ []) x ≡ (b || is_in ns x) || nat_eq x y
        go2 true h = refl
        go2 false h = h

    apart : (b c d : Bool) → c ≡ false → b ≡ b || (c && d)
    apart b c d e = or_false b ∙ ap (λ x. b || (x && d)) (sym e)

    go : (us : List (List ℕ)) (new : List ℕ) (j m : ℕ) → m < length us
        → (m ≡ j → is_in new k ≡ is_in (edges_of us j) k || nat_eq k i)
        → leads_to (slice_set us j new) m k ≡ leads_to us m k || (nat_eq m j && nat_eq k i)
    go [] new j m l h = let never : ⊥ = omega arith in elim never [ ]
    go (u ∷ us) new zero zero l h = h refl
    go (u ∷ us) new zero (suc m) l h = apart (leads_to us m k) (nat_eq (suc m) 0) (nat_eq k i) (later_isnt m)
    go (u ∷ us) new (suc j) zero l h = apart (is_in u k) (nat_eq 0 (suc j)) (nat_eq k i) (first_isnt j)
    go (u ∷ us) new (suc j) (suc m) l h = go us new j m (omega arith) (λ e. h (ap suc e))
        ∙ ap (λ b. leads_to us m k || (b && nat_eq k i)) (sym (both_later m j))

with_long : (i : ℕ) (js : List ℕ) (users : List (List ℕ)) → length (with_users i js users) ≡ length users
with_long i [] users = refl
with_long i (j ∷ js) users = with_long i js (with_user i j users) ∙ length-set users j (edges_of users j ++ i ∷ [])

with_leads : (i : ℕ) (js : List ℕ) (users : List (List ℕ)) (k m : ℕ) → m < length users
    → leads_to (with_users i js users) m k ≡ leads_to users m k || (is_in js m && nat_eq k i)
with_leads i [] users k m l = go (leads_to users m k)
  where
    go : (b : Bool) → b ≡ b || false
    go true = refl
    go false = refl
with_leads i (j ∷ js) users k m l =
    with_leads i js (with_user i j users) k m (subst (λ n. m < n) (sym (length-set users j (edges_of users j
    ++ i ∷ []))) l)
    ∙ ap (λ b. b || (is_in js m && nat_eq k i)) (set_leads users i j k m l)
    ∙ go (leads_to users m k) (nat_eq m j) (is_in js m) (nat_eq k i)
  where
    go : (a b c d : Bool) → (a || (b && d)) || (c && d) ≡ a || ((b || c) && d)
    go true b c d = refl
    go false true c true = refl
    go false true true false = refl
    go false true false false = refl
    go false false c d = refl

pub reversing_starts : (edges users : List (List ℕ)) → AreEmpty (length edges) users → Reversing edges users 0
reversing_starts edges users e = record {
  long = e.long;
  same = λ k j l. e.none j k
      ∙ ap (λ b. b && leads_to edges k j) (sym (below_none k));
  often =
      λ k j l. e.never j k ∙ ap (λ b. if b then times j (edges_of edges k) else 0) (sym (below_none k));
}
  where
    below_none : (k : ℕ) → nat_lt k 0 ≡ false
    below_none k = same_bool (nat_lt k 0) false (λ t. let less : k < 0 = grind (arith, t) in let never : ⊥ = omega arith
        in elim never [ ]) (λ t. elim (false≢true t) [ ])

pub reversing_more : (edges users : List (List ℕ)) (i : ℕ) → Reversing edges users i
    → Reversing edges (with_users i (edges_of edges i) users) (i + 1)
reversing_more edges users i r = record {
  long = with_long i (edges_of edges i) users ∙ r.long;
  same = λ k j l. with_leads i (edges_of edges i) users k j (subst (λ n. j < n) (sym r.long) l)
      ∙ ap (λ b. b || (is_in (edges_of edges i) j && nat_eq k i)) (r.same k j l) ∙ go k j (nat_eq k i) refl;
  often = λ k j l. with_times i (edges_of edges i) users k j (subst (λ n. j < n) (sym r.long) l)
      ∙ times_more edges i k j (times k (edges_of users j)) (r.often k j l);
}
  where
    up_to : (k : ℕ) → nat_eq k i ≡ false → nat_lt k (i + 1) ≡ nat_lt k i
    up_to k e = same_bool (nat_lt k (i + 1)) (nat_lt k i) (λ t. grind (arith, e, t)) (λ t. grind (arith, t))

    go : (k j : ℕ) (b : Bool) → nat_eq k i ≡ b
        → (nat_lt k i && leads_to edges k j) || (is_in (edges_of edges i) j && b) ≡ nat_lt k (i + 1) && leads_to edges k
        j
    go k j true e =
        let is : k ≡ i = eqb-true k i e in
        let below : nat_lt k i ≡ false = same_bool (nat_lt k i) false
        (λ t. let less : k < i = grind (arith, t) in let never : ⊥ = omega arith in elim never [ ])
        (λ t. elim (false≢true t) [ ]) in
        let within : nat_lt k (i + 1) ≡ true = grind (arith, is) in
        ap (λ b. (b && leads_to edges k j) || (is_in (edges_of edges i) j && true)) below
        ∙ last (is_in (edges_of edges i) j)
        ∙ ap (λ n. leads_to edges n j) (sym is)
        ∙ ap (λ b. b && leads_to edges k j) (sym within)
      where
        last : (b : Bool) → b && true ≡ b
        last true = refl
        last false = refl
    go k j false e = drop_last (nat_lt k i && leads_to edges k j) (is_in (edges_of edges i) j)
        ∙ ap (λ b. b && leads_to edges k j) (sym (up_to k e))
      where
        drop_last : (a b : Bool) → a || (b && false) ≡ a
        drop_last true b = refl
        drop_last false true = refl
        drop_last false false = refl

pub reversing_ends : (edges users : List (List ℕ)) → Reversing edges users (length edges) → IsReversed edges users
reversing_ends edges users r = record {
  long = r.long;
  same = λ i j l. r.same i j l
      ∙ go i j (nat_lt i (length edges)) refl;
  often = λ i j l. r.often i j l ∙ times_end edges i j;
}
  where
    go : (i j : ℕ) (b : Bool) → nat_lt i (length edges) ≡ b → b && leads_to edges i j ≡ leads_to edges i j
    go i j true e = refl
    go i j false e = same_bool false (leads_to edges i j) (λ t. elim (false≢true t) [ ])
        (λ t. let there = edge_there edges i j t in let far : length edges ≤ i = grind (arith, e) in let never
        : ⊥ = omega arith in elim never [ ])

pub empty_more : (n : ℕ) (lists : List (List ℕ)) → AreEmpty n lists → AreEmpty (n + 1) (lists ++ [] ∷ [])
empty_more n lists e = record {
  long = let l = length_push lists [] in let m = e.long in omega arith;
  none = λ i j. go lists i j (e.none i j);
  never = λ i j. still lists i j (e.never i j);
}
  where
    go : (ls : List (List ℕ)) (i j : ℕ) → leads_to ls i j ≡ false → leads_to (ls ++ [] ∷ []) i j ≡ false
    go [] zero j h = refl
    go [] (suc i) j h = refl
    go (x ∷ xs) zero j h = h
    go (x ∷ xs) (suc i) j h = go xs i j h

    still : (ls : List (List ℕ)) (i j : ℕ) → times j (edges_of ls i) ≡ 0 → times j (edges_of (ls ++ [] ∷ []) i) ≡ 0
    still [] zero j h = refl
    still [] (suc i) j h = refl
    still (x ∷ xs) zero j h = h
    still (x ∷ xs) (suc i) j h = still xs i j h

pub blank_none : (n k : ℕ) → Marked (replicate n false) k → ⊥
blank_none zero k m = false≢true m
blank_none (suc n) zero m = false≢true m
blank_none (suc n) (suc k) m = blank_none n k m

pub empty_none : AreEmpty 0 []
empty_none = record { long = refl; none = λ i j. refl; never = λ i j. refl }
