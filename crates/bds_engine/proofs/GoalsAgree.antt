-- What the calls of a goal give is what a run computes for it.
use Rattle.std.proofs.Common.{◌≡◌, ℕ, ◌≤◌, Bool, true, false, List, [], ◌∷◌, ◌++◌, Option, Some, None, Result, Ok, Err, refl, sym, ap, ◌∙◌, subst, arith, append_assoc}
use Rattle.std.proofs.lemmas.Bool.{false≢true}
use Rattle.std.proofs.lemmas.List.{append-nil}
use Rattle.bds_value.specs.declared.value.Stamp.{Stamp}
use Rattle.bds_rules.specs.declared.rule.Rule.{Rule}
use Rattle.bds_tasks.specs.declared.task.Task.{Task}
use Rattle.bds_goal.specs.Chains.{Follow, In, IsOrder, MayFollow}
use Rattle.bds_goal.specs.Goals.{HasNoCycle, IsCycleOf, IsReach, Needs, IsPlanned, Plans, PlansBy, Reaches, stamp_in}
use Rattle.bds_goal.specs.Plan.{plan, unmade}
use Rattle.bds_goal.specs.Reach.{has_cycle, reach}
use Rattle.bds_goal.specs.declared.faults.PlanFault.{PlanFault}
use Rattle.bds_goal.specs.declared.faults.PlanFault.TheVariants.{NoRule}
use Rattle.bds_goal.proofs.ReachLaws.{one_reach}
use Rattle.bds_goal.proofs.RisingLaws.{neither_before}
use Rattle.bds_goal.proofs.GoalCycle.{reach_is_computed}
use Rattle.bds_goal.proofs.GoalPlan.{plan_is_computed}

-- Orders

module _ (Next : ℕ → ℕ → Type 0) (Todo : ℕ → Type 0) where
  not_placed : (placed : List ℕ) (n : ℕ) → MayFollow Next Todo placed n → ((m : ℕ) → Todo m → In (placed ++ []) m) → ⊥
  not_placed placed n m all = false≢true (sym m.new ∙ subst (λ xs. In xs n) (append-nil placed) (all n m.todo))

  moved : (placed ns : List ℕ) (n : ℕ) → ((m : ℕ) → Todo m → In (placed ++ n ∷ ns) m) → (m : ℕ) → Todo m → In ((placed ++ n ∷ []) ++ ns) m
  moved placed ns n all m t = subst (λ xs. In xs m) (sym (append_assoc placed (n ∷ []) ns)) (all m t)

  -- numbers of which each is the least that may follow
  one_follow : (placed a b : List ℕ) → Follow Next Todo placed a → Follow Next Todo placed b → ((n : ℕ) → Todo n → In (placed ++ a) n) → ((n : ℕ) → Todo n → In (placed ++ b) n) → a ≡ b
  one_follow placed [] [] f g all_a all_b = refl
  one_follow placed [] (m ∷ ms) f g all_a all_b = absurd (not_placed placed m g.0 all_a)
  one_follow placed (n ∷ ns) [] f g all_a all_b = absurd (not_placed placed n f.0 all_b)
  one_follow placed (n ∷ ns) (m ∷ ms) f g all_a all_b =
      let below : n ≤ m = f.1 m g.0 in
      let above : m ≤ n = g.1 n f.0 in
      let same : m ≡ n = omega (arith, below, above) in
      let rest : ns ≡ ms =
      one_follow (placed ++ n ∷ []) ns ms f.2 (subst (λ x. Follow Next Todo (placed ++ x ∷ []) ms) same g.2) (moved placed ns n all_a)
      (moved placed ms n (subst (λ x. (k : ℕ) → Todo k → In (placed ++ x ∷ ms) k) same all_b)) in
      ap (λ x. x ∷ ns) (sym same) ∙ ap (λ xs. m ∷ xs) rest

  pub one_order : (a b : List ℕ) → IsOrder Next Todo a → IsOrder Next Todo b → a ≡ b
  one_order a b x y = one_follow [] a b x.follow y.follow x.all y.all

-- Files

module _ (rules : List Rule) (targets : List (List ℕ)) where
  to_cycle : (chain : List ℕ) → IsCycleOf rules targets chain → (b : Bool) → has_cycle rules targets ≡ b → has_cycle rules targets ≡ true
  to_cycle chain c true e = e
  to_cycle chain c false e = absurd (((reach_is_computed rules targets).0 e).1 chain c)

  pub cycle_is : (chain : List ℕ) → IsCycleOf rules targets chain → has_cycle rules targets ≡ true
  cycle_is chain c = to_cycle chain c (has_cycle rules targets) refl

  to_none : HasNoCycle rules targets → (b : Bool) → has_cycle rules targets ≡ b → has_cycle rules targets ≡ false
  to_none none false e = e
  to_none none true e = let c = (reach_is_computed rules targets).1 e in absurd (none c.0 c.1)

  pub no_cycle_is : HasNoCycle rules targets → has_cycle rules targets ≡ false
  no_cycle_is none = to_none none (has_cycle rules targets) refl

  pub is_reach : has_cycle rules targets ≡ false → IsReach rules targets (reach rules targets)
  is_reach e = ((reach_is_computed rules targets).0 e).0

  pub files_are : (files : List (List ℕ)) → Reaches rules targets (Ok files) → files ≡ reach rules targets
  files_are files r = one_reach rules targets files (reach rules targets) r.0 (is_reach (no_cycle_is r.1))

  -- Plans

  module _ (stamps : List Stamp) (tasks : List Task) (e : has_cycle rules targets ≡ false) where
    abbrev By : Result (List ℕ) PlanFault → Type 0
    By r = Plans rules targets (stamp_in (reach rules targets) stamps) tasks r

    here : (r : Result (List ℕ) PlanFault) → PlansBy rules targets stamps tasks r → By r
    here r p = p (reach rules targets) (is_reach e)

    computed : unmade rules targets stamps tasks ≡ None → By (Ok (plan rules targets stamps tasks))
    computed n = here (Ok (plan rules targets stamps tasks)) ((plan_is_computed rules targets stamps tasks e).0 n)

    missing : (file : List ℕ) → unmade rules targets stamps tasks ≡ Some file → By (Err (NoRule file))
    missing file m = here (Err (NoRule file)) ((plan_is_computed rules targets stamps tasks e).1 file m)

    to_made : (ns : List ℕ) → By (Ok ns) → (o : Option (List ℕ)) → unmade rules targets stamps tasks ≡ o → unmade rules targets stamps tasks ≡ None
    to_made ns p None u = u
    to_made ns p (Some file) u = absurd (p.1 file (missing file u).unmade)

    pub all_made : (ns : List ℕ) → PlansBy rules targets stamps tasks (Ok ns) → unmade rules targets stamps tasks ≡ None
    all_made ns p = to_made ns (here (Ok ns) p) (unmade rules targets stamps tasks) refl

    pub plan_is : (ns : List ℕ) → PlansBy rules targets stamps tasks (Ok ns) → ns ≡ plan rules targets stamps tasks
    plan_is ns p =
        one_order (Needs rules) (IsPlanned rules targets (stamp_in (reach rules targets) stamps) tasks) ns (plan rules targets stamps tasks)
        (here (Ok ns) p).0 (computed (all_made ns p)).0

    to_unmade : (file : List ℕ) → By (Err (NoRule file)) → (o : Option (List ℕ)) → unmade rules targets stamps tasks ≡ o → o ≡ Some file
    to_unmade file p None u = absurd ((computed u).1 file p.unmade)
    to_unmade file p (Some other) u =
        let q : By (Err (NoRule other)) = missing other u in
        ap (λ x. Some x) (neither_before other file (p.least other q.unmade) (q.least file p.unmade))

    pub unmade_is : (file : List ℕ) → PlansBy rules targets stamps tasks (Err (NoRule file)) → unmade rules targets stamps tasks ≡ Some file
    unmade_is file p = to_unmade file (here (Err (NoRule file)) p) (unmade rules targets stamps tasks) refl

pub none_leads : (rules : List Rule) (targets : List (List ℕ)) → has_cycle rules targets ≡ false → HasNoCycle rules targets
none_leads rules targets e = ((reach_is_computed rules targets).0 e).1
