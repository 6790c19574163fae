-- A walk among numbers that are left comes back to where it was.
use Rattle.std.proofs.Common.{◌≡◌, ℕ, ◌<◌, Bool, true, false, ◌||◌, List, [], ◌∷◌, ◌++◌, length, refl, sym, ◌∙◌, subst, arith, nat_eq, if◌then◌else◌}
use Rattle.std.proofs.lemmas.Bool.{eq-eqb, eqb-true, false≢true}
use Rattle.std.proofs.lemmas.List.{length-set}
use Rattle.std.specs.List.{slice_set}
use Rattle.bds_goal.specs.Chains.{AllLeadOn, In, IsCycle, is_in}
use Rattle.bds_goal.specs.Marks.{Edge, IsCycleIn, Marked, cut, edges_of, first_marked, is_marked, leads_to, may_go}
use Rattle.bds_goal.specs.Spreading.{unmarked}
use Rattle.bds_goal.specs.Placing.{Walking}
use Rattle.bds_goal.proofs.MarkLaws.{marked_set, unmarked_set}
use Rattle.bds_goal.proofs.MakerLaws.{or_left, or_right}
use Rattle.bds_goal.proofs.OrderLaws.{first_in, goes_on, in_append, in_one, marked_within}

lead_more : (Next : ℕ → ℕ → Type 0) (path : List ℕ) (here next : ℕ) → AllLeadOn Next path here → Next here next → AllLeadOn Next (path ++ here ∷ []) next
lead_more Next [] here next h n = (n, tt)
lead_more Next (x ∷ []) here next h n = (h.0, (n, tt))
lead_more Next (x ∷ y ∷ ys) here next h n = (h.0, lead_more Next (y ∷ ys) here next h.1 n)

in_last : (ns : List ℕ) (n : ℕ) → In (ns ++ n ∷ []) n
in_last [] n = or_left (nat_eq n n) false (eq-eqb n n refl)
in_last (x ∷ xs) n = or_right (nat_eq n x) (is_in (xs ++ n ∷ []) n) (in_last xs n)

in_before : (ns ms : List ℕ) (n : ℕ) → In ns n → In (ns ++ ms) n
in_before [] ms n i = elim (false≢true i) [ ]
in_before (x ∷ xs) ms n i = go (in_before xs ms n) (nat_eq n x) i
  where
    go : (In xs n → In (xs ++ ms) n) → (b : Bool) → b || is_in xs n ≡ true → b || is_in (xs ++ ms) n ≡ true
    go more true h = refl
    go more false h = more h

pub walk_starts : (edges : List (List ℕ)) (left seen : List Bool) (here : ℕ) → length seen ≡ length left → ((n : ℕ) → Marked seen n → ⊥) → Marked left here → Walking edges left seen [] here
walk_starts edges left seen here long none m = record {
  long = long;
  there = m;
  trail = tt;
  among = λ n i. elim (false≢true i) [ ];
  passed = λ n s. elim (none n s) [ ];
}

pub walk_on : (edges : List (List ℕ)) (left seen : List Bool) (path : List ℕ) (here next : ℕ) → Walking edges left seen path here → leads_to edges here next ≡ true → Marked left next → Walking edges left (slice_set seen here true) (path ++ here ∷ []) next
walk_on edges left seen path here next w e m = record {
  long = length-set seen here true ∙ w.long;
  there = m;
  trail = lead_more (Edge edges) path here next w.trail e;
  among = λ n i. in_append (Marked left n) path (here ∷ []) n (w.among n) (λ j. subst (λ x. Marked left x) (sym (in_one n here j)) w.there) i;
  passed = λ n s. marked_set (λ k. In (path ++ here ∷ []) k) seen here n (λ is. subst (λ x. In (path ++ here ∷ []) x) (sym is) (in_last path here)) (λ k. in_before path (here ∷ []) n (w.passed n k)) s;
}

cut_cycle : (Next : ℕ → ℕ → Type 0) (path : List ℕ) (here : ℕ) → AllLeadOn Next path here → In path here → IsCycle Next (cut here path)
cut_cycle Next [] here h i = false≢true i
cut_cycle Next (x ∷ xs) here h i = go (cut_cycle Next xs here h.1) (nat_eq here x) refl i
  where
    go : (In xs here → IsCycle Next (cut here xs)) → (b : Bool) → nat_eq here x ≡ b → b || is_in xs here ≡ true → IsCycle Next (if b then x ∷ xs else cut here xs)
    go more true e j = subst (λ n. AllLeadOn Next (x ∷ xs) n) (eqb-true here x e) h
    go more false e j = more j

cut_in : (path : List ℕ) (here n : ℕ) → In (cut here path) n → In path n
cut_in [] here n i = i
cut_in (x ∷ xs) here n i = go (cut_in xs here n) (nat_eq here x) i
  where
    go : (In (cut here xs) n → In xs n) → (b : Bool) → In (if b then x ∷ xs else cut here xs) n → In (x ∷ xs) n
    go more true j = j
    go more false j = or_right (nat_eq n x) (is_in xs n) (more j)

pub walk_ends : (edges : List (List ℕ)) (left seen : List Bool) (path : List ℕ) (here : ℕ) → Walking edges left seen path here → Marked seen here → IsCycleIn edges left (cut here path)
walk_ends edges left seen path here w s = record {
  cycle = cut_cycle (Edge edges) path here w.trail (w.passed here s);
  among = λ n i. w.among n (cut_in path here n i);
}

pub walk_more : (edges : List (List ℕ)) (left seen : List Bool) (path : List ℕ) (here : ℕ) → Walking edges left seen path here → ((m : ℕ) → may_go edges left m ≡ false) → Walking edges left (slice_set seen here true) (path ++ here ∷ []) (first_marked left (edges_of edges here))
walk_more edges left seen path here w stuck =
    let f = first_in left (edges_of edges here) (goes_on edges left here w.there (stuck here)) in
    walk_on edges left seen path here (first_marked left (edges_of edges here)) w f.0 f.1

pub here_within : (edges : List (List ℕ)) (left seen : List Bool) (path : List ℕ) (here : ℕ) → Walking edges left seen path here → here < length seen
here_within edges left seen path here w = let l = marked_within left here w.there in let e = w.long in omega arith

pub fewer_unseen : (edges : List (List ℕ)) (left seen : List Bool) (path : List ℕ) (here : ℕ) → Walking edges left seen path here → is_marked seen here ≡ false → unmarked (slice_set seen here true) < unmarked seen
fewer_unseen edges left seen path here w e = unmarked_set seen here e (here_within edges left seen path here w)
