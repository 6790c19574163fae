-- The marks of a plan are the rules that are to be planned.
use Rattle.std.proofs.Common.{◌≡◌, ℕ, zero, suc, ◌+◌, ◌<◌, Bool, true, false, not, ◌&&◌, List, [], ◌∷◌, ◌++◌, length, map, refl, sym, ap, ◌∙◌, subst, arith}
use Rattle.std.proofs.lemmas.Bool.{false≢true}
use Rattle.std.specs.List.{list_any}
use Rattle.bds_value.specs.declared.value.Stamp.{Stamp}
use Rattle.bds_rules.specs.declared.rule.Rule.{Rule}
use Rattle.bds_rules.specs.OutOfDate.{out_of_date}
use Rattle.bds_tasks.specs.declared.task.Task.{Task}
use Rattle.bds_tasks.specs.Tasks.{pending_makes}
use Rattle.bds_goal.specs.Chains.{IsChain, last_of}
use Rattle.bds_goal.specs.Due.{old_from, old_marks, planned_from, planned_marks}
use Rattle.bds_goal.specs.Edges.{AreEdges, AreWanted}
use Rattle.bds_goal.specs.Goals.{IsPlanned, Needs, ReachedRule, inputs, outputs}
use Rattle.bds_goal.specs.Marks.{Edge, IsClosed, Marked, is_marked}
use Rattle.bds_goal.proofs.OrderLaws.{and_both, and_left, and_right, not_true, true_or_false}
use Rattle.bds_goal.proofs.EdgeLaws.{makes_within}
use Rattle.bds_goal.proofs.WantedLaws.{needed_reached}

and_none : (b : Bool) → false ≡ b && false
and_none true = refl
and_none false = refl

module _ (stamp : List ℕ → Stamp) (tasks : List Task) where
  abbrev pub old_at : List Rule → ℕ → Bool
  old_at rules n = out_of_date (map stamp (outputs rules n)) (map stamp (inputs rules n)) (list_any (pending_makes tasks) (inputs rules n ++ outputs rules n))

  abbrev pub busy_at : List Rule → ℕ → Bool
  busy_at rules n = list_any (pending_makes tasks) (outputs rules n)

  old_is : (marks : List Bool) (n : ℕ) (rs : List Rule) (i : ℕ) → is_marked (old_from stamp tasks marks n rs) i ≡ is_marked marks (n + i) && old_at rs (suc i)
  old_is marks n [] i = and_none (is_marked marks (n + i))
  old_is marks n (r ∷ rs) zero = let z : n ≡ n + zero = omega arith in ap (λ k. is_marked marks k && old_at (r ∷ rs) 1) z
  old_is marks n (r ∷ rs) (suc i) = let e : n + 1 + i ≡ n + suc i = omega arith in old_is marks (n + 1) rs i ∙ ap (λ k. is_marked marks k && old_at rs (suc i)) e

  old_long : (marks : List Bool) (n : ℕ) (rs : List Rule) → length (old_from stamp tasks marks n rs) ≡ length rs
  old_long marks n [] = refl
  old_long marks n (r ∷ rs) = ap suc (old_long marks (n + 1) rs)

  pub old_marks_long : (marks : List Bool) (rules : List Rule) → length (old_marks stamp tasks marks rules) ≡ length rules + 1
  old_marks_long marks rules = let e = old_long marks 1 rules in omega arith

  plan_from : (P : Type 0) (marks due : List Bool) (n : ℕ) (rs : List Rule) (i : ℕ) → (Marked marks (n + i) → Marked due (n + i) → busy_at rs (suc i) ≡ false → P) → Marked (planned_from tasks marks due n rs) i → P
  plan_from P marks due n [] i f m = elim (false≢true m) [ ]
  plan_from P marks due n (r ∷ rs) zero f m =
      let z : n ≡ n + zero = omega arith in
      let rest = and_right (is_marked marks n) _ m in
      f (subst (λ k. Marked marks k) z (and_left (is_marked marks n) _ m)) (subst (λ k. Marked due k) z (and_left (is_marked due n) _ rest)) (not_true (busy_at (r ∷ rs) 1) (and_right (is_marked due n) _ rest))
  plan_from P marks due n (r ∷ rs) (suc i) f m =
      let e : n + 1 + i ≡ n + suc i = omega arith in
      plan_from P marks due (n + 1) rs i (λ a b c. f (subst (λ k. Marked marks k) e a) (subst (λ k. Marked due k) e b) c) m

  plan_to : (marks due : List Bool) (n : ℕ) (rs : List Rule) (i : ℕ) → Marked marks (n + i) → Marked due (n + i) → busy_at rs (suc i) ≡ false → i < length rs → Marked (planned_from tasks marks due n rs) i
  plan_to marks due n [] i a b c l = let never : ⊥ = omega arith in elim never [ ]
  plan_to marks due n (r ∷ rs) zero a b c l =
      let z : n + zero ≡ n = omega arith in
      and_both (is_marked marks n) _ (subst (λ k. Marked marks k) z a) (and_both (is_marked due n) _ (subst (λ k. Marked due k) z b) (ap not c))
  plan_to marks due n (r ∷ rs) (suc i) a b c l =
      let e : n + suc i ≡ n + 1 + i = omega arith in
      plan_to marks due (n + 1) rs i (subst (λ k. Marked marks k) e a) (subst (λ k. Marked due k) e b) c (omega arith)

  plan_long : (marks due : List Bool) (n : ℕ) (rs : List Rule) → length (planned_from tasks marks due n rs) ≡ length rs
  plan_long marks due n [] = refl
  plan_long marks due n (r ∷ rs) = ap suc (plan_long marks due (n + 1) rs)

  pub planned_marks_long : (marks due : List Bool) (rules : List Rule) → length (planned_marks tasks marks due rules) ≡ length rules + 1
  planned_marks_long marks due rules = let e = plan_long marks due 1 rules in omega arith

  is_one : (i : ℕ) → 1 + i ≡ suc i
  is_one i = omega arith

  pub old_marked : (marks : List Bool) (rules : List Rule) (n : ℕ) → Marked (old_marks stamp tasks marks rules) n → Marked marks n × (old_at rules n ≡ true)
  old_marked marks rules zero m = elim (false≢true m) [ ]
  old_marked marks rules (suc i) m =
      let both = sym (old_is marks 1 rules i) ∙ m in
      (subst (λ k. Marked marks k) (is_one i) (and_left (is_marked marks (1 + i)) _ both), and_right (is_marked marks (1 + i)) _ both)

  pub marked_old : (marks : List Bool) (rules : List Rule) (n : ℕ) → Marked marks n → old_at rules n ≡ true → Marked (old_marks stamp tasks marks rules) n
  marked_old marks rules zero m o = elim (false≢true o) [ ]
  marked_old marks rules (suc i) m o = old_is marks 1 rules i ∙ and_both (is_marked marks (1 + i)) _ (subst (λ k. Marked marks k) (sym (is_one i)) m) o

  module _ (rules : List Rule) (targets : List (List ℕ)) (edges : List (List ℕ)) (marks due : List Bool) (are : AreEdges rules edges) (w : AreWanted rules targets marks) (closed : IsClosed edges (old_marks stamp tasks marks rules) due) where
    to_old : (n : ℕ) (by : List ℕ) → IsChain (Edge edges) n by → Marked (old_marks stamp tasks marks rules) (last_of n by) → IsChain (Needs rules) n by × (old_at rules (last_of n by) ≡ true)
    to_old n [] c e = (tt, (old_marked marks rules n e).1)
    to_old n (s ∷ ns) c e = let h = to_old s ns c.1 e in (((are.same n s).0 c.0, h.0), h.1)

    from_old : (n : ℕ) (by : List ℕ) → ReachedRule rules targets n → IsChain (Needs rules) n by → old_at rules (last_of n by) ≡ true → IsChain (Edge edges) n by × Marked (old_marks stamp tasks marks rules) (last_of n by)
    from_old n [] r c e = (tt, marked_old marks rules n ((w.each n).1 r) e)
    from_old n (s ∷ ns) r c e = let h = from_old s ns (needed_reached rules targets n s r c.0) c.1 e in (((are.same n s).1 c.0, h.0), h.1)

    pub planned_is : (n : ℕ) → Marked (planned_marks tasks marks due rules) n → IsPlanned rules targets stamp tasks n
    planned_is zero m = elim (false≢true m) [ ]
    planned_is (suc i) m = plan_from (IsPlanned rules targets stamp tasks (suc i)) marks due 1 rules i
        (λ a b c.
        let l = closed.lead (suc i) (subst (λ k. Marked due k) (is_one i) b) in
        let o = to_old (suc i) l.by l.each l.ends in
        record {
          due = record { reached = (w.each (suc i)).0 (subst (λ k. Marked marks k) (is_one i) a); leads = record { by = l.by; each = o.0; ends = o.1 } };
          free = λ h. false≢true (sym c ∙ h);
        }) m

    pub is_planned : (n : ℕ) → IsPlanned rules targets stamp tasks n → Marked (planned_marks tasks marks due rules) n
    is_planned zero p = elim (false≢true p.due.reached.makes) [ ]
    is_planned (suc i) p =
        let l = p.due.leads in
        let o = from_old (suc i) l.by p.due.reached l.each l.ends in
        let d = closed.all (suc i) (record { by = l.by; each = o.0; ends = o.1 }) in
        let within : suc i < length rules + 1 = makes_within rules (suc i) p.due.reached.file p.due.reached.makes in
        plan_to marks due 1 rules i (subst (λ k. Marked marks k) (sym (is_one i)) ((w.each (suc i)).1 p.due.reached)) (subst (λ k. Marked due k) (sym (is_one i)) d)
        (true_or_false (busy_at rules (suc i) ≡ false) (busy_at rules (suc i)) (λ e. elim (p.free e) [ ]) (λ e. e)) (omega arith)
