-- What is collected of the rules that a goal reaches is what it reaches.
use Rattle.std.proofs.Common.{◌≡◌, ℕ, zero, suc, ◌+◌, Bool, true, false, ◌||◌, List, [], ◌∷◌, ◌++◌, Ok, Err, refl, sym, ◌∙◌, subst, arith}
use Rattle.std.proofs.lemmas.Bool.{false≢true}
use Rattle.std.specs.Str.{bytes_eq}
use Rattle.bds_rules.specs.declared.rule.Rule.{Rule}
use Rattle.bds_rules.specs.Makers.{is_among}
use Rattle.bds_goal.specs.Collected.{collected, files_from, files_where}
use Rattle.bds_rules.specs.Own.{AreOwn}
use Rattle.bds_goal.specs.declared.faults.FilesFault.{FilesFault}
use Rattle.bds_goal.specs.declared.faults.FilesFault.TheVariants.{Cycle, NoMemory}
use Rattle.bds_goal.specs.Edges.{AreEdges, AreWanted, edges}
use Rattle.bds_goal.specs.Goals.{NamesFile, HasNoCycle, IsCycleOf, IsReach, Needs, Reached, ReachedRule, Reaches, Rises}
use Rattle.bds_goal.specs.Goals.Reached.{target, with}
use Rattle.bds_goal.specs.Chains.{AllLeadOn, IsOrder, first_or}
use Rattle.bds_goal.specs.Marks.{Edge, IsCycleIn, Marked, is_marked}
use Rattle.bds_goal.specs.Placing.{Orders}
use Rattle.bds_goal.proofs.EdgeLaws.{are_edges}
use Rattle.bds_goal.proofs.MakerLaws.{or_right}
use Rattle.bds_goal.proofs.OrderLaws.{no_cycle}
use Rattle.bds_goal.proofs.RisingLaws.{one_rising}
use Rattle.bds_goal.proofs.WantedLaws.{has_one}

among_left : (xs ys : List (List ℕ)) (g : List ℕ) → is_among xs g ≡ true → is_among (xs ++ ys) g ≡ true
among_left [] ys g a = elim (false≢true a) [ ]
among_left (x ∷ xs) ys g a = go (among_left xs ys g) (bytes_eq x g) a
  where
    go : (is_among xs g ≡ true → is_among (xs ++ ys) g ≡ true) → (b : Bool) → b || is_among xs g ≡ true → b || is_among (xs ++ ys) g ≡ true
    go more true h = refl
    go more false h = more h

among_right : (xs ys : List (List ℕ)) (g : List ℕ) → is_among ys g ≡ true → is_among (xs ++ ys) g ≡ true
among_right [] ys g a = a
among_right (x ∷ xs) ys g a = or_right (bytes_eq x g) (is_among (xs ++ ys) g) (among_right xs ys g a)

-- the file stands in a rule that is marked
from_marked : (P : Type 0) (marks : List Bool) (n : ℕ) (rs : List Rule) (f : List ℕ) → ((i : ℕ) → Marked marks (n + i) → NamesFile rs (suc i) f → P) → is_among (files_from marks n rs) f ≡ true → P
from_marked P marks n [] f k a = elim (false≢true a) [ ]
from_marked P marks n (r ∷ rs) f k a =
    has_one P (files_where (is_marked marks n) r) (files_from marks (n + 1) rs) f
    (λ h. first (is_marked marks n) refl h)
    (from_marked P marks (n + 1) rs f (λ i m h. k (suc i) (let e : n + 1 + i ≡ n + suc i = omega arith in subst (λ x. Marked marks x) e m) h)) a
  where
    first : (b : Bool) → is_marked marks n ≡ b → is_among (files_where b r) f ≡ true → P
    first true e h = k zero (let z : n ≡ n + zero = omega arith in subst (λ x. Marked marks x) z e) h
    first false e h = elim (false≢true h) [ ]

to_marked : (marks : List Bool) (n : ℕ) (rs : List Rule) (f : List ℕ) (i : ℕ) → Marked marks (n + i) → NamesFile rs (suc i) f → is_among (files_from marks n rs) f ≡ true
to_marked marks n [] f i m h = elim (false≢true h) [ ]
to_marked marks n (r ∷ rs) f zero m h =
    let z : n + zero ≡ n = omega arith in
    among_left (files_where (is_marked marks n) r) (files_from marks (n + 1) rs) f
    (subst (λ b. is_among (files_where b r) f ≡ true) (sym (subst (λ x. Marked marks x) z m)) h)
to_marked marks n (r ∷ rs) f (suc i) m h =
    let e : n + suc i ≡ n + 1 + i = omega arith in
    among_right (files_where (is_marked marks n) r) (files_from marks (n + 1) rs) f (to_marked marks (n + 1) rs f i (subst (λ x. Marked marks x) e m) h)

is_one : (i : ℕ) → 1 + i ≡ suc i
is_one i = omega arith

pub is_reach : (rules : List Rule) (targets : List (List ℕ)) (marks : List Bool) (files : List (List ℕ)) → AreWanted rules targets marks → Rises files → ((f : List ℕ) → is_among files f ≡ is_among (collected rules marks targets) f) → IsReach rules targets files
is_reach rules targets marks files w rises same = record {
  rises = rises;
  set = λ f. (
    λ a. has_one (Reached rules targets f) targets (files_from marks 1 rules) f (λ h. target f h)
        (from_marked (Reached rules targets f) marks 1 rules f (λ i m h. let r = (w.each (suc i)).0 (subst (λ x. Marked marks x) (is_one i) m) in with (suc i) r.file f r.reached r.makes h)) (sym (same f) ∙ a),
    λ r. same f ∙ in_it f r,
  );
}
  where
    at : (n : ℕ) (f : List ℕ) → Marked marks n → NamesFile rules n f → is_among (collected rules marks targets) f ≡ true
    at zero f m h = elim (false≢true h) [ ]
    at (suc i) f m h = among_right targets (files_from marks 1 rules) f (to_marked marks 1 rules f i (subst (λ x. Marked marks x) (sym (is_one i)) m) h)

    in_it : (f : List ℕ) → Reached rules targets f → is_among (collected rules marks targets) f ≡ true
    in_it f (target g a) = among_left targets (files_from marks 1 rules) g a
    in_it f (with n made g r mk h) = at n g ((w.each n).1 (record { file = made; makes = mk; reached = r })) h

pub one_reach : (rules : List Rule) (targets files others : List (List ℕ)) → IsReach rules targets files → IsReach rules targets others → files ≡ others
one_reach rules targets files others a b = one_rising files others a.rises b.rises (λ f h. (b.set f).1 ((a.set f).0 h)) (λ f h. (a.set f).1 ((b.set f).0 h))

-- cycles

leads_needs : (rules : List Rule) (es : List (List ℕ)) → AreEdges rules es → (ns : List ℕ) (n : ℕ) → AllLeadOn (Edge es) ns n → AllLeadOn (Needs rules) ns n
leads_needs rules es are [] n h = tt
leads_needs rules es are (r ∷ rs) n h = ((are.same r (first_or n rs)).0 h.0, leads_needs rules es are rs n h.1)

leads_edges : (rules : List Rule) (es : List (List ℕ)) → AreEdges rules es → (ns : List ℕ) (n : ℕ) → AllLeadOn (Needs rules) ns n → AllLeadOn (Edge es) ns n
leads_edges rules es are [] n h = tt
leads_edges rules es are (r ∷ rs) n h = ((are.same r (first_or n rs)).1 h.0, leads_edges rules es are rs n h.1)

pub cycle_of : (rules : List Rule) (targets : List (List ℕ)) (es : List (List ℕ)) (todo : List Bool) (chain : List ℕ) → AreEdges rules es → ((n : ℕ) → Marked todo n → ReachedRule rules targets n) → IsCycleIn es todo chain → IsCycleOf rules targets chain
cycle_of rules targets es todo [] are reached c = elim c.cycle [ ]
cycle_of rules targets es todo (r ∷ rs) are reached c = record {
  cycle = leads_needs rules es are (r ∷ rs) r c.cycle;
  reached = λ n i. reached n (c.among n i);
}

pub none_of : (rules : List Rule) (targets : List (List ℕ)) (es : List (List ℕ)) (marks : List Bool) (ns : List ℕ) → AreEdges rules es → AreWanted rules targets marks → IsOrder (Edge es) (Marked marks) ns → HasNoCycle rules targets
none_of rules targets es marks ns are w o [] c = c.cycle
none_of rules targets es marks ns are w o (r ∷ rs) c =
    no_cycle (Edge es) (Marked marks) ns o (r ∷ rs) (leads_edges rules es are (r ∷ rs) r c.cycle) (λ n i. (w.each n).1 (c.reached n i))

pub reaches_files : (rules : List Rule) (targets : List (List ℕ)) (marks : List Bool) (files : List (List ℕ)) (ns : List ℕ) → AreOwn [] rules → AreWanted rules targets marks → IsReach rules targets files → Orders (edges rules) marks (Ok ns) → Reaches rules targets (Ok files)
reaches_files rules targets marks files ns own w reach o = (reach, none_of rules targets (edges rules) marks ns (are_edges rules own) w o)

pub reaches_fault : (rules : List Rule) (targets : List (List ℕ)) (marks : List Bool) (fault : FilesFault) → AreOwn [] rules → AreWanted rules targets marks → Orders (edges rules) marks (Err fault) → Reaches rules targets (Err fault)
reaches_fault rules targets marks (Cycle chain) own w o = cycle_of rules targets (edges rules) marks chain (are_edges rules own) (λ n m. (w.each n).0 m) o
reaches_fault rules targets marks NoMemory own w o = tt
