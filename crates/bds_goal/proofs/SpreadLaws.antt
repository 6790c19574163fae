-- Marks are spread: what is marked at each step, that it ends, and what is marked at the end.
use Rattle.std.proofs.Common.{◌≡◌, ℕ, zero, suc, ◌+◌, ◌<◌, ◌≤◌, Bool, true, false, not, ◌&&◌, ◌||◌, List, [], ◌∷◌, ◌++◌, length, refl, sym, ap, ◌∙◌, subst, arith, nat_eq, nat_lt}
use Rattle.std.proofs.lemmas.Bool.{eq-eqb, eqb-true, false≢true, lt-ltb, ltb-true}
use Rattle.std.proofs.lemmas.List.{length-set, length_push}
use Rattle.std.specs.List.{slice_set}
use Rattle.bds_goal.specs.Chains.{In, IsChain, Leads, is_in, last_of}
use Rattle.bds_goal.specs.Marks.{Back, Edge, IsClosed, IsReversed, IsSpread, Marked, edges_of, is_marked, leads_to}
use Rattle.bds_goal.specs.Spreading.{Following, Spreading, all_marked, all_ahead, is_new, marked_from, marked_if, one_if, put_if, unmarked}
use Rattle.bds_goal.proofs.MakerLaws.{or_left, or_right}
use Rattle.bds_goal.proofs.MarkLaws.{marked_kept, marked_set, set_marked, unmarked_set}
use Rattle.bds_goal.proofs.OrderLaws.{and_left, and_right, in_append, in_one, is_in_push, marked_within, not_true}
use Rattle.bds_goal.proofs.WantedLaws.{edge_there}

-- the numbers that are marked

listed : (marks : List Bool) (i k : ℕ) → Marked marks k → In (marked_from i marks) (i + k)
listed [] i k m = elim (false≢true m) [ ]
listed (true ∷ marks) i zero m = let here : i + zero ≡ i = omega arith in or_left (nat_eq (i + zero) i) (is_in (marked_from (i + 1) marks) (i + zero)) (eq-eqb (i + zero) i here)
listed (false ∷ marks) i zero m = elim (false≢true m) [ ]
listed (true ∷ marks) i (suc k) m =
    let next : i + 1 + k ≡ i + suc k = omega arith in
    or_right (nat_eq (i + suc k) i) (is_in (marked_from (i + 1) marks) (i + suc k)) (subst (In (marked_from (i + 1) marks)) next (listed marks (i + 1) k m))
listed (false ∷ marks) i (suc k) m =
    let next : i + 1 + k ≡ i + suc k = omega arith in
    subst (In (marked_from (i + 1) marks)) next (listed marks (i + 1) k m)

found : (marks : List Bool) (i n : ℕ) → In (marked_from i marks) n → (k : ℕ) × ((n ≡ i + k) × Marked marks k)
found [] i n a = elim (false≢true a) [ ]
found (b ∷ marks) i n a =
    in_append ((k : ℕ) × ((n ≡ i + k) × Marked (b ∷ marks) k)) (one_if b i) (marked_from (i + 1) marks) n (first b)
    (λ h. let m = found marks (i + 1) n h in let far : n ≡ i + 1 + m.0 = m.1.0 in (suc m.0, (omega (arith, far), m.1.1))) a
  where
    first : (c : Bool) → In (one_if c i) n → (k : ℕ) × ((n ≡ i + k) × Marked (c ∷ marks) k)
    first true h = let is : n ≡ i = in_one n i h in (zero, (omega (arith, is), refl))
    first false h = elim (false≢true h) [ ]

pub spreading_starts : (edges : List (List ℕ)) (start : List Bool) → Spreading edges start start (marked_from 0 start)
spreading_starts edges start = record {
  long = refl;
  lead = λ k m. record { by = []; each = tt; ends = m };
  grows = λ k m. m;
  there = λ k h. let m = found start 0 k h in let is : m.0 ≡ k = (let far : k ≡ 0 + m.0 = m.1.0 in omega (arith, far)) in subst (Marked start) is m.1.1;
  done = λ k j m out e. let is : 0 + k ≡ k = omega arith in elim (false≢true (sym out ∙ subst (In (marked_from 0 start)) is (listed start 0 k m))) [ ];
}

-- one number is followed

pub following_starts : (edges : List (List ℕ)) (start marks : List Bool) (ahead : List ℕ) (i : ℕ) → Spreading edges start marks (ahead ++ i ∷ []) → Following edges start marks ahead i (edges_of edges i)
following_starts edges start marks ahead i s = record {
  long = s.long;
  lead = s.lead;
  grows = s.grows;
  there = λ k h. s.there k (is_in_push ahead k i ∙ or_left (is_in ahead k) (nat_eq k i) h);
  here = s.there i (is_in_push ahead i i ∙ or_right (is_in ahead i) (nat_eq i i) (eq-eqb i i refl));
  from = λ j h. h;
  done = λ k j m out e. go k j m out e (nat_eq k i) refl;
}
  where
    go : (k j : ℕ) → Marked marks k → is_in ahead k ≡ false → Edge edges k j → (b : Bool) → nat_eq k i ≡ b → is_marked marks j || (b && is_in (edges_of edges i) j) ≡ true
    go k j m out e true d = or_right (is_marked marks j) (is_in (edges_of edges i) j) (subst (λ n. leads_to edges n j ≡ true) (eqb-true k i d) e)
    go k j m out e false d = or_left (is_marked marks j) false (s.done k j m (is_in_push ahead k i ∙ ap (λ b. b || nat_eq k i) out ∙ d) e)

module _ (edges : List (List ℕ)) (start marks : List Bool) (ahead : List ℕ) (i j : ℕ) (js : List ℕ) (f : Following edges start marks ahead i (j ∷ js)) where
  led : Edge edges i j
  led = f.from j (or_left (nat_eq j j) (is_in js j) (eq-eqb j j refl))

  -- what was marked or left to be marked is so still, where the one is marked
  kept : (new : List Bool) (k n : ℕ) → Marked new j → ((m : ℕ) → Marked marks m → Marked new m) → is_marked marks n || (nat_eq k i && (nat_eq n j || is_in js n)) ≡ true → is_marked new n || (nat_eq k i && is_in js n) ≡ true
  kept new k n here more h = go (is_marked marks n) refl (nat_eq n j) refl h
    where
      go : (a : Bool) → is_marked marks n ≡ a → (b : Bool) → nat_eq n j ≡ b → a || (nat_eq k i && (b || is_in js n)) ≡ true → is_marked new n || (nat_eq k i && is_in js n) ≡ true
      go true d b e h = or_left (is_marked new n) (nat_eq k i && is_in js n) (more n d)
      go false d true e h = or_left (is_marked new n) (nat_eq k i && is_in js n) (subst (λ x. Marked new x) (sym (eqb-true n j e)) here)
      go false d false e h = or_right (is_marked new n) (nat_eq k i && is_in js n) h

  fresh : is_new marks j ≡ true → Following edges start (slice_set marks j true) (ahead ++ j ∷ []) i js
  fresh e =
      let within : j < length marks = ltb-true j (length marks) (and_left (nat_lt j (length marks)) _ e) in
      let on = f.lead i f.here in
      let here : Leads (Back edges) (Marked start) j = record { by = i ∷ on.by; each = (led, on.each); ends = on.ends } in
      record {
        long = length-set marks j true ∙ f.long;
        lead = λ k m. marked_set (Leads (Back edges) (Marked start)) marks j k (λ is. subst (Leads (Back edges) (Marked start)) (sym is) here) (f.lead k) m;
        grows = λ k m. marked_kept marks j k (f.grows k m);
        there = λ k h. in_append (Marked (slice_set marks j true) k) ahead (j ∷ []) k (λ o. marked_kept marks j k (f.there k o)) (λ o. subst (Marked (slice_set marks j true)) (sym (in_one k j o)) (set_marked marks j within)) h;
        here = marked_kept marks j i f.here;
        from = λ n h. f.from n (or_right (nat_eq n j) (is_in js n) h);
        done = λ k n m out to.
            let outs = sym (is_in_push ahead k j) ∙ out in
            marked_set (λ (x : ℕ). is_marked (slice_set marks j true) n || (nat_eq x i && is_in js n) ≡ true) marks j k
            (λ is. elim (false≢true (sym outs ∙ or_right (is_in ahead k) (nat_eq k j) (eq-eqb k j is))) [ ])
            (λ was. kept (slice_set marks j true) k n (set_marked marks j within) (marked_kept marks j) (f.done k n was (left_none (is_in ahead k) (nat_eq k j) outs) to)) m;
      }
    where
      left_none : (a b : Bool) → a || b ≡ false → a ≡ false
      left_none true b h = h
      left_none false b h = refl

  again : is_new marks j ≡ false → j < length marks → Following edges start marks ahead i js
  again e within =
      let there : Marked marks j = known (nat_lt j (length marks)) (is_marked marks j) (lt-ltb j (length marks) within) e in
      record {
        long = f.long;
        lead = f.lead;
        grows = f.grows;
        there = f.there;
        here = f.here;
        from = λ n h. f.from n (or_right (nat_eq n j) (is_in js n) h);
        done = λ k n m out to. kept marks k n there (λ x y. y) (f.done k n m out to);
      }
    where
      known : (a b : Bool) → a ≡ true → a && not b ≡ false → b ≡ true
      known true true d h = refl
      known true false d h = elim (false≢true (sym h)) [ ]
      known false b d h = elim (false≢true d) [ ]

  pub following_more : j < length marks → Following edges start (marked_if (is_new marks j) j marks) (put_if (is_new marks j) j ahead) i js
  following_more within = go (is_new marks j) refl
    where
      go : (b : Bool) → is_new marks j ≡ b → Following edges start (marked_if b j marks) (put_if b j ahead) i js
      go true e = fresh e
      go false e = again e within

pub following_all : (edges : List (List ℕ)) (start marks : List Bool) (ahead : List ℕ) (i : ℕ) (js : List ℕ) → ((k j : ℕ) → Edge edges k j → j < length start) → Following edges start marks ahead i js → Following edges start (all_marked js marks) (all_ahead js marks ahead) i []
following_all edges start marks ahead i [] within f = f
following_all edges start marks ahead i (j ∷ js) within f =
    let l : j < length marks = subst (λ n. j < n) (sym f.long) (within i j (f.from j (or_left (nat_eq j j) (is_in js j) (eq-eqb j j refl)))) in
    following_all edges start (marked_if (is_new marks j) j marks) (put_if (is_new marks j) j ahead) i js within (following_more edges start marks ahead i j js f l)

pub following_ends : (edges : List (List ℕ)) (start marks : List Bool) (ahead : List ℕ) (i : ℕ) → Following edges start marks ahead i [] → Spreading edges start marks ahead
following_ends edges start marks ahead i f = record {
  long = f.long;
  lead = f.lead;
  grows = f.grows;
  there = f.there;
  done = λ k j m out e. go (is_marked marks j) (nat_eq k i) (f.done k j m out e);
}
  where
    go : (a b : Bool) → a || (b && false) ≡ true → a ≡ true
    go true b h = refl
    go false true h = h
    go false false h = h

-- each step follows one more

one_fewer : (b : Bool) (marks : List Bool) (j : ℕ) (ahead : List ℕ) → is_new marks j ≡ b → unmarked (marked_if b j marks) + length (put_if b j ahead) ≤ unmarked marks + length ahead
one_fewer true marks j ahead e =
    let within : j < length marks = ltb-true j (length marks) (and_left (nat_lt j (length marks)) _ e) in
    let less : unmarked (slice_set marks j true) < unmarked marks = unmarked_set marks j (not_true (is_marked marks j) (and_right (nat_lt j (length marks)) _ e)) within in
    let long : length (ahead ++ j ∷ []) ≡ length ahead + 1 = length_push ahead j in
    omega (arith, less, long)
one_fewer false marks j ahead e = omega arith

pub no_more : (marks : List Bool) (ahead js : List ℕ) → unmarked (all_marked js marks) + length (all_ahead js marks ahead) ≤ unmarked marks + length ahead
no_more marks ahead [] = omega arith
no_more marks ahead (j ∷ js) =
    let one = one_fewer (is_new marks j) marks j ahead refl in
    let rest = no_more (marked_if (is_new marks j) j marks) (put_if (is_new marks j) j ahead) js in
    omega (arith, one, rest)

-- what is marked at the end

led_on : (edges : List (List ℕ)) (start marks : List Bool) → Spreading edges start marks [] → (r : ℕ) (ns : List ℕ) → IsChain (Back edges) r ns → Marked start (last_of r ns) → Marked marks r
led_on edges start marks s r [] c e = s.grows r e
led_on edges start marks s r (n ∷ ns) c e = s.done n r (led_on edges start marks s n ns c.1 e) refl c.0

pub spreading_ends : (edges : List (List ℕ)) (start marks : List Bool) → Spreading edges start marks [] → IsSpread edges start marks
spreading_ends edges start marks s = record { lead = s.lead; all = λ i l. led_on edges start marks s i l.by l.each l.ends }

-- along lists that lead the other way those are marked that lead to one which was
pub closed_by : (edges users : List (List ℕ)) (old new : List Bool) → IsReversed edges users → length old ≡ length edges → IsSpread users old new → IsClosed edges old new
closed_by edges users old new back long s = record {
  lead = λ i m. let l = s.lead i m in record { by = l.by; each = there i l.by l.each; ends = l.ends };
  all = λ i l. s.all i (record { by = l.by; each = (behind i l.by l.each l.ends).0; ends = l.ends });
}
  where
    there : (r : ℕ) (ns : List ℕ) → IsChain (Back users) r ns → IsChain (Edge edges) r ns
    there r [] c = tt
    there r (n ∷ ns) c = (sym (back.same r n (subst (λ k. n < k) back.long (edge_there users n r c.0))) ∙ c.0, there n ns c.1)

    behind : (r : ℕ) (ns : List ℕ) → IsChain (Edge edges) r ns → Marked old (last_of r ns) → IsChain (Back users) r ns × (r < length edges)
    behind r [] c e = (tt, subst (λ k. r < k) long (marked_within old r e))
    behind r (n ∷ ns) c e = let on = behind n ns c.1 e in ((back.same r n on.1 ∙ c.0, on.0), edge_there edges r n c.0)

pub users_within : (edges users : List (List ℕ)) → IsReversed edges users → (i j : ℕ) → Edge users i j → j < length edges
users_within edges users back i j e = edge_there edges j i (sym (back.same j i (subst (λ k. i < k) back.long (edge_there users i j e))) ∙ e)
