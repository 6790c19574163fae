-- Numbers are placed one by one; where none is left, there is no cycle among them.
use Rattle.std.proofs.Common.{◌≡◌, ℕ, zero, suc, ◌+◌, ◌<◌, ◌≤◌, Bool, true, false, ◌||◌, ◌&&◌, not, List, [], ◌∷◌, ◌++◌, length, Some, None, refl, sym, ap, ◌∙◌, subst, arith, nat_eq, nat_lt, append-nil, append_assoc, if◌then◌else◌}
use Rattle.std.proofs.lemmas.Bool.{eq-eqb, eqb-true, false≢true}
use Rattle.std.proofs.lemmas.List.{length-set}
use Rattle.std.specs.List.{list_any, slice_set}
use Rattle.bds_goal.specs.Chains.{AllLeadOn, Follow, In, IsCycle, IsOrder, MayFollow, first_or, is_in}
use Rattle.bds_goal.specs.Marks.{Edge, IsCycleIn, Marked, edges_of, is_marked, first_marked, may_go}
use Rattle.bds_goal.specs.Placing.{IsNext, Placing, marked}
use Rattle.bds_goal.proofs.MarkLaws.{any_at, any_from}
use Rattle.bds_goal.proofs.MakerLaws.{both_later, first_isnt, later_isnt, or_left, or_right}

pub and_left : (a b : Bool) → a && b ≡ true → a ≡ true
and_left true b e = refl
and_left false b e = e

pub and_right : (a b : Bool) → a && b ≡ true → b ≡ true
and_right true b e = e
and_right false b e = elim (false≢true e) [ ]

pub and_both : (a b : Bool) → a ≡ true → b ≡ true → a && b ≡ true
and_both a b e f = ap (λ x. x && b) e ∙ f

pub not_true : (b : Bool) → not b ≡ true → b ≡ false
not_true true e = elim (false≢true e) [ ]
not_true false e = refl

pub true_or_false : (P : Type 0) (b : Bool) → (b ≡ true → P) → (b ≡ false → P) → P
true_or_false P true f g = f refl
true_or_false P false f g = g refl

pub in_append : (P : Type 0) (ns ms : List ℕ) (n : ℕ) → (In ns n → P) → (In ms n → P) → In (ns ++ ms) n → P
in_append P [] ms n f g h = g h
in_append P (x ∷ xs) ms n f g h = go (in_append P xs ms n) (nat_eq n x) f h
  where
    go : ((In xs n → P) → (In ms n → P) → In (xs ++ ms) n → P) → (b : Bool) → ((b || is_in xs n ≡ true) → P) → b || is_in (xs ++ ms) n ≡ true → P
    go more true k h = k refl
    go more false k h = more k g h

pub in_one : (n m : ℕ) → In (m ∷ []) n → n ≡ m
in_one n m e = eqb-true n m (go (nat_eq n m) e)
  where
    go : (b : Bool) → b || false ≡ true → b ≡ true
    go true h = refl
    go false h = h

pub is_in_push : (ns : List ℕ) (n m : ℕ) → is_in (ns ++ m ∷ []) n ≡ is_in ns n || nat_eq n m
is_in_push [] n m = go (nat_eq n m)
  where
    go : (b : Bool) → b || false ≡ b
    go true = refl
    go false = refl
is_in_push (x ∷ xs) n m = go (nat_eq n x) (is_in_push xs n m)
  where
    go : (b : Bool) → is_in (xs ++ m ∷ []) n ≡ is_in xs n || nat_eq n m → b || is_in (xs ++ m ∷ []) n ≡ (b || is_in xs n) || nat_eq n m
    go true h = refl
    go false h = h

-- a set of numbers that each lead to one of them is never placed

module _ (Next : ℕ → ℕ → Type 0) (Todo : ℕ → Type 0) where
  pub follow_more : (placed ns : List ℕ) (n : ℕ) → Follow Next Todo placed ns → MayFollow Next Todo (placed ++ ns) n → ((m : ℕ) → MayFollow Next Todo (placed ++ ns) m → n ≤ m) → Follow Next Todo placed (ns ++ n ∷ [])
  follow_more placed [] n f may least =
      let e = append-nil placed in
      (subst (λ ps. MayFollow Next Todo ps n) e may, (λ m h. least m (subst (λ ps. MayFollow Next Todo ps m) (sym e) h)), tt)
  follow_more placed (x ∷ xs) n f may least =
      let e = append_assoc placed (x ∷ []) xs in
      (f.0, f.1, follow_more (placed ++ x ∷ []) xs n f.2 (subst (λ ps. MayFollow Next Todo ps n) (sym e) may) (λ m h. least m (subst (λ ps. MayFollow Next Todo ps m) e h)))

  never : (S : ℕ → Type 0) → ((c : ℕ) → S c → Todo c) → ((c : ℕ) → S c → (d : ℕ) × (Next c d × S d)) → (placed ns : List ℕ) → Follow Next Todo placed ns → ((c : ℕ) → S c → In placed c → ⊥) → (c : ℕ) → S c → In (placed ++ ns) c → ⊥
  never S todo on placed [] f none c s i = none c s (subst (λ ps. In ps c) (append-nil placed) i)
  never S todo on placed (n ∷ ns) f none c s i =
      never S todo on (placed ++ n ∷ []) ns f.2
      (λ d t j. in_append ⊥ placed (n ∷ []) d (none d t)
      (λ k. let is = in_one d n k in let next = on d t in none next.0 next.1.1 (f.0.free next.0 (subst (λ x. Next x next.0) is next.1.0) (todo next.0 next.1.1))) j)
      c s (subst (λ ps. In ps c) (sym (append_assoc placed (n ∷ []) ns)) i)

  leads_on : (ns : List ℕ) (at : ℕ) → AllLeadOn Next ns at → (c : ℕ) → In ns c → (d : ℕ) × (Next c d × ((In ns d → ⊥) → d ≡ at))
  leads_on [] at h c i = elim (false≢true i) [ ]
  leads_on (x ∷ xs) at h c i = go (leads_on xs at h.1 c) (nat_eq c x) refl i
    where
      first : (ys : List ℕ) → Next x (first_or at ys) → (d : ℕ) × (Next x d × ((In (x ∷ ys) d → ⊥) → d ≡ at))
      first [] n = (at, (n, λ k. refl))
      first (y ∷ ys) n = (y, (n, λ k. elim (k (or_right (nat_eq y x) (is_in (y ∷ ys) y) (or_left (nat_eq y y) (is_in ys y) (eq-eqb y y refl)))) [ ]))

      go : (In xs c → (d : ℕ) × (Next c d × ((In xs d → ⊥) → d ≡ at))) → (b : Bool) → nat_eq c x ≡ b → b || is_in xs c ≡ true → (d : ℕ) × (Next c d × ((In (x ∷ xs) d → ⊥) → d ≡ at))
      go more true e h2 = subst (λ z. (d : ℕ) × (Next z d × ((In (x ∷ xs) d → ⊥) → d ≡ at))) (sym (eqb-true c x e)) (first xs h.0)
      go more false e h2 = let m = more h2 in (m.0, (m.1.0, λ k. m.1.1 (λ j. k (or_right (nat_eq m.0 x) (is_in xs m.0) j))))

  pub no_cycle : (ns : List ℕ) → IsOrder Next Todo ns → (chain : List ℕ) → IsCycle Next chain → ((c : ℕ) → In chain c → Todo c) → ⊥
  no_cycle ns o [] cycle todo = cycle
  no_cycle ns o (r ∷ rs) cycle todo =
      let here : In (r ∷ rs) r = or_left (nat_eq r r) (is_in rs r) (eq-eqb r r refl) in
      never (In (r ∷ rs)) todo
      (λ c i. let l = leads_on (r ∷ rs) r cycle c i in (
        l.0,
        (
          l.1.0,
          true_or_false (In (r ∷ rs) l.0) (is_in (r ∷ rs) l.0) (λ e. e)
              (λ e. let is = l.1.1 (λ k. false≢true (sym e ∙ k)) in subst (λ x. In (r ∷ rs) x) (sym is) here),
        ),
      ))
      [] ns o.follow (λ c i e. false≢true e) r here (o.all r (todo r here))

-- placing

pub placing_starts : (edges : List (List ℕ)) (todo : List Bool) → Placing edges todo todo [] 0 []
placing_starts edges todo = record {
  long = refl;
  follow = tt;
  rest = λ n. go (is_marked todo n);
  free = record { each = λ n l. let no : ⊥ = omega arith in elim no [ ]; below = λ n h. elim (false≢true h) [ ] };
}
  where
    go : (b : Bool) → b ≡ b && true
    go true = refl
    go false = refl

marked_is : (marks : List Bool) (k : ℕ) → Marked marks k → k < length marks
marked_is [] k m = elim (false≢true m) [ ]
marked_is (x ∷ xs) zero m = omega arith
marked_is (x ∷ xs) (suc k) m = let h = marked_is xs k m in omega arith

pub marked_within : (marks : List Bool) (k : ℕ) → Marked marks k → k < length marks
marked_within marks k m = marked_is marks k m

and_true : (b c : Bool) → c ≡ true → b ≡ b && c
and_true b c e = go b ∙ ap (λ x. b && x) (sym e)
  where
    go : (a : Bool) → a ≡ a && true
    go true = refl
    go false = refl

and_false : (b c : Bool) → c ≡ false → false ≡ b && c
and_false true c e = sym e
and_false false c e = refl

pub unset : (marks : List Bool) (i k : ℕ) → is_marked (slice_set marks i false) k ≡ is_marked marks k && not (nat_eq k i)
unset [] i k = refl
unset (x ∷ xs) zero zero = and_false x (not (nat_eq 0 0)) refl
unset (x ∷ xs) zero (suc k) = and_true (is_marked xs k) (not (nat_eq (suc k) 0)) (ap not (later_isnt k))
unset (x ∷ xs) (suc i) zero = and_true x (not (nat_eq 0 (suc i))) (ap not (first_isnt i))
unset (x ∷ xs) (suc i) (suc k) = unset xs i k ∙ ap (λ b. is_marked xs k && not b) (sym (both_later k i))

pub fewer_left : (marks : List Bool) (i : ℕ) → Marked marks i → marked (slice_set marks i false) < marked marks
fewer_left [] i m = elim (false≢true m) [ ]
fewer_left (true ∷ xs) zero m = omega arith
fewer_left (false ∷ xs) zero m = elim (false≢true m) [ ]
fewer_left (true ∷ xs) (suc i) m = let h = fewer_left xs i m in omega arith
fewer_left (false ∷ xs) (suc i) m = fewer_left xs i m

module _ (edges : List (List ℕ)) (todo left : List Bool) (placed : List ℕ) (start : ℕ) (freed : List ℕ) (p : Placing edges todo left placed start freed) where
  left_todo : (n : ℕ) → Marked left n → Marked todo n × (is_in placed n ≡ false)
  left_todo n m = let both = sym (p.rest n) ∙ m in (and_left (is_marked todo n) _ both, not_true (is_in placed n) (and_right (is_marked todo n) _ both))

  not_left : (n : ℕ) → is_marked left n ≡ false → Marked todo n → In placed n
  not_left n e t = go (is_marked todo n) (is_in placed n) t (sym (p.rest n) ∙ e)
    where
      go : (a b : Bool) → a ≡ true → a && not b ≡ false → b ≡ true
      go true true x y = refl
      go true false x y = elim (false≢true (sym y)) [ ]
      go false b x y = elim (false≢true x) [ ]

  pub go_follows : (n : ℕ) → may_go edges left n ≡ true → MayFollow (Edge edges) (Marked todo) placed n
  go_follows n e =
      let here = left_todo n (and_left (is_marked left n) _ e) in
      let none : list_any (is_marked left) (edges_of edges n) ≡ false = not_true _ (and_right (is_marked left n) _ e) in
      record {
        todo = here.0;
        new = here.1;
        free = λ s to t. true_or_false (In placed s) (is_marked left s)
            (λ m. elim (false≢true (sym none ∙ any_from left s (edges_of edges n) to m)) [ ])
            (λ m. not_left s m t);
      }

  pub follows_go : (n : ℕ) → MayFollow (Edge edges) (Marked todo) placed n → may_go edges left n ≡ true
  follows_go n h =
      and_both (is_marked left n) _ (p.rest n ∙ and_both (is_marked todo n) _ h.todo (ap not h.new))
      (true_or_false (not (list_any (is_marked left) (edges_of edges n)) ≡ true) (list_any (is_marked left) (edges_of edges n))
      (λ a. let s = any_at left (edges_of edges n) a in let t = left_todo s.0 s.1.1 in elim (false≢true (sym t.1 ∙ h.free s.0 s.1.0 t.0)) [ ])
      (λ a. ap not a))

pub all_placed : (edges : List (List ℕ)) (todo left : List Bool) (placed : List ℕ) (start : ℕ) (freed : List ℕ) → Placing edges todo left placed start freed → ((n : ℕ) → is_marked left n ≡ false) → IsOrder (Edge edges) (Marked todo) placed
all_placed edges todo left placed start freed p none = record { follow = p.follow; all = λ n t. not_left edges todo left placed start freed p n (none n) t }

-- one that is left leads to another, where none may go
pub goes_on : (edges : List (List ℕ)) (left : List Bool) (n : ℕ) → Marked left n → may_go edges left n ≡ false → list_any (is_marked left) (edges_of edges n) ≡ true
goes_on edges left n m e = go (is_marked left n) (list_any (is_marked left) (edges_of edges n)) m e
  where
    go : (a b : Bool) → a ≡ true → a && not b ≡ false → b ≡ true
    go true true x y = refl
    go true false x y = elim (false≢true (sym y)) [ ]
    go false b x y = elim (false≢true x) [ ]

-- searches

pub next_more : (edges : List (List ℕ)) (left : List Bool) (start i : ℕ) → ((m : ℕ) → start ≤ m → m < i → may_go edges left m ≡ false) → may_go edges left i ≡ false → (m : ℕ) → start ≤ m → m < i + 1 → may_go edges left m ≡ false
next_more edges left start i before e m l k = true_or_false (may_go edges left m ≡ false) (nat_eq m i)
    (λ f. subst (λ x. may_go edges left x ≡ false) (sym (eqb-true m i f)) e)
    (λ f. before m l (grind (arith, f)))

pub next_none : (edges : List (List ℕ)) (left : List Bool) (start : ℕ) → ((m : ℕ) → start ≤ m → m < length left → may_go edges left m ≡ false) → IsNext edges left start None
next_none edges left start before m l = true_or_false (may_go edges left m ≡ false) (may_go edges left m)
    (λ e. let within = marked_is left m (and_left (is_marked left m) _ e) in before m l within)
    (λ e. e)

pub first_in : (marks : List Bool) (ns : List ℕ) → list_any (is_marked marks) ns ≡ true → In ns (first_marked marks ns) × Marked marks (first_marked marks ns)
first_in marks [] e = elim (false≢true e) [ ]
first_in marks (n ∷ ns) e = go (first_in marks ns) (is_marked marks n) refl e
  where
    go : (list_any (is_marked marks) ns ≡ true → In ns (first_marked marks ns) × Marked marks (first_marked marks ns)) → (b : Bool) → is_marked marks n ≡ b → b || list_any (is_marked marks) ns ≡ true → In (n ∷ ns) (if b then n else first_marked marks ns) × Marked marks (if b then n else first_marked marks ns)
    go more true d h = (or_left (nat_eq n n) (is_in ns n) (eq-eqb n n refl), d)
    go more false d h = let m = more h in (or_right (nat_eq (first_marked marks ns) n) (is_in ns (first_marked marks ns)) m.0, m.1)

pub none_from : (marks : List Bool) → ((m : ℕ) → m < length marks → is_marked marks m ≡ false) → (n : ℕ) → is_marked marks n ≡ false
none_from marks h n = true_or_false (is_marked marks n ≡ false) (is_marked marks n) (λ e. h n (marked_is marks n e)) (λ e. e)

pub left_is_todo : (edges : List (List ℕ)) (todo left : List Bool) (placed : List ℕ) (start : ℕ) (freed : List ℕ) → Placing edges todo left placed start freed → (chain : List ℕ) → IsCycleIn edges left chain → IsCycleIn edges todo chain
left_is_todo edges todo left placed start freed p chain c = record { cycle = c.cycle; among = λ n i. (left_todo edges todo left placed start freed p n (c.among n i)).0 }
