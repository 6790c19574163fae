-- A cycle is found exactly where there is one among the rules that a goal reaches.
use Rattle.std.proofs.Common.{◌≡◌, ◌∙◌, ℕ, ◌≤◌, true, false, ◌&&◌, ◌||◌, List, [], ◌∷◌, length, sym, refl, subst, ◌⊎◌, inl, inr}
use Rattle.std.specs.Prelude.{nat_eq}
use Rattle.std.specs.List.{list_any}
use Rattle.std.proofs.lemmas.Bool.{eqb-true, eq-eqb, or_cases, false≢true}
use Rattle.bds_rules.specs.declared.rule.Rule.{Rule}
use Rattle.bds_rules.specs.Makers.{is_among}
use Rattle.bds_goal.specs.Chains.{is_in, In, AllLeadOn, IsCycle}
use Rattle.bds_goal.specs.Goals.{Needs}
use Rattle.bds_goal.specs.Needs.{rule_at, needs, with_needing, leading_to, is_on_cycle}
use Rattle.bds_goal.specs.Reach.{rules_reached}
use Rattle.bds_goal.specs.GoalLaws.{ReachIsComputed}
use Rattle.bds_goal.proofs.GoalTests.{some_in, any_of, either_true, both_true, of_both}
use Rattle.bds_goal.proofs.GoalLinks.{head_in, tail_in, filter_gives, filter_takes, starts, links, least}
use Rattle.bds_goal.proofs.GoalReach.{outs_at, ins_at, made_there, taken_there, low_of, some_text, any_text, rules_there, reached_rule, rule_reached, is_reach}

module _ (rules : List Rule) where
  pub needs_gives : (r s : ℕ) → 1 ≤ r → 1 ≤ s → needs rules r s ≡ true → Needs rules r s
  needs_gives r s low low' h =
      let f = some_text (is_among (rule_at rules s).outs) (rule_at rules r).ins h in
      record { file = f.0; takes = subst (λ l. is_among l f.0 ≡ true) (ins_at rules r low) f.1; makes = subst (λ l. is_among l f.0 ≡ true) (outs_at rules s low') f.2 }

  pub needs_takes : (r s : ℕ) → Needs rules r s → needs rules r s ≡ true
  needs_takes r s n =
      let low = low_of rules r (taken_there rules r n.file n.takes) in
      let low' = low_of rules s (made_there rules s n.file n.makes) in
      any_text (is_among (rule_at rules s).outs) (rule_at rules r).ins n.file
      (subst (λ l. is_among l n.file ≡ true) (sym (ins_at rules r low)) n.takes) (subst (λ l. is_among l n.file ≡ true) (sym (outs_at rules s low')) n.makes)

  -- among these rules
  module _ (all : List ℕ) (lows : (r : ℕ) → In all r → 1 ≤ r) where
    abbrev NeedsIt : ℕ → ℕ → Type 0
    NeedsIt r s = needs rules r s ≡ true

    pub needing_gives : (some : List ℕ) (r : ℕ) → In (with_needing rules all some) r → In all r × (In some r ⊎ ((s : ℕ) × In some s × NeedsIt r s))
    needing_gives some r h =
        let it = filter_gives (λ r. list_any (λ s. nat_eq r s || needs rules r s) some) all r h in
        let s = some_in (λ s. nat_eq r s || needs rules r s) some it.1 in
        (it.0, by s.0 s.1 (or_cases (nat_eq r s.0) _ s.2))
      where
        by : (s : ℕ) → In some s → (nat_eq r s ≡ true) ⊎ (needs rules r s ≡ true) → In some r ⊎ ((s : ℕ) × In some s × NeedsIt r s)
        by s is (inl same) = inl (subst (λ k. In some k) (sym (eqb-true r s same)) is)
        by s is (inr new) = inr (s, is, new)

    pub needing_takes : (some : List ℕ) (r : ℕ) → In all r → In some r ⊎ ((s : ℕ) × In some s × NeedsIt r s) → In (with_needing rules all some) r
    needing_takes some r there (inl is) = filter_takes (λ r. list_any (λ s. nat_eq r s || needs rules r s) some) all r there (any_of (λ s. nat_eq r s || needs rules r s) some r is (either_true (nat_eq r r) _ (inl (eq-eqb r r refl))))
    needing_takes some r there (inr new) = filter_takes (λ r. list_any (λ s. nat_eq r s || needs rules r s) some) all r there (any_of (λ s. nat_eq r s || needs rules r s) some new.0 new.1 (either_true (nat_eq r new.0) _ (inr new.2)))

    only : (r k : ℕ) → In (r ∷ []) k → k ≡ r
    only r k h = by (or_cases (nat_eq k r) _ h)
      where
        by : (nat_eq k r ≡ true) ⊎ (false ≡ true) → k ≡ r
        by (inl same) = eqb-true k r same
        by (inr none) = absurd (false≢true none)

    pub one_within : (r : ℕ) → In all r → (k : ℕ) → In (r ∷ []) k → In all k
    one_within r there k h = subst (λ j. In all j) (sym (only r k h)) there

    -- a chain back to r begins here
    abbrev BeginsChain : ℕ → ℕ → Type 0
    BeginsChain r s = (s ≡ r) ⊎ ((ns : List ℕ) × AllLeadOn (Needs rules) (s ∷ ns) r × ((n : ℕ) → In (s ∷ ns) n → In all n))

    in_cons : (r s : ℕ) (ns : List ℕ) → In all r → ((n : ℕ) → In (s ∷ ns) n → In all n) → (n : ℕ) → In (r ∷ s ∷ ns) n → In all n
    in_cons r s ns there rest n h = by (or_cases (nat_eq n r) _ h)
      where
        by : (nat_eq n r ≡ true) ⊎ (list_any (nat_eq n) (s ∷ ns) ≡ true) → In all n
        by (inl same) = subst (λ k. In all k) (sym (eqb-true n r same)) there
        by (inr more) = rest n more

    chain_goes : (r x y : ℕ) → In all r → In all x → NeedsIt x y → BeginsChain r y → BeginsChain r x
    chain_goes r x y there x_there need (inl same) =
        inr ([], (needs_gives x r (lows x x_there) (lows r there) (subst (λ k. NeedsIt x k) same need), tt), one_within x x_there)
    chain_goes r x y there x_there need (inr chain) =
        inr (y ∷ chain.0, (needs_gives x y (lows x x_there) (lows y (chain.2 y (head_in y chain.0))) need, chain.1), in_cons x y chain.0 x_there chain.2)

    chain_of : (r s : ℕ) → In all r → In (leading_to rules all (r ∷ [])) s → BeginsChain r s
    chain_of r s there h =
        least all NeedsIt (with_needing rules all) needing_gives needing_takes (r ∷ []) (one_within r there) (BeginsChain r)
        (λ k is. inl (only r k is)) (λ x y x_there need rest. chain_goes r x y there x_there need rest) (length all) s h

    -- a cycle of these rules through r
    abbrev CycleOf : Type 0
    CycleOf = (chain : List ℕ) × IsCycle (Needs rules) chain × ((n : ℕ) → In chain n → In all n)

    cycle_by : (r s : ℕ) → In all r → In all s → needs rules r s ≡ true → BeginsChain r s → CycleOf
    cycle_by r s there s_there need (inl same) =
        (r ∷ [], (needs_gives r r (lows r there) (lows r there) (subst (λ k. NeedsIt r k) same need), tt), one_within r there)
    cycle_by r s there s_there need (inr chain) =
        (r ∷ s ∷ chain.0, (needs_gives r s (lows r there) (lows s s_there) need, chain.1), in_cons r s chain.0 there chain.2)

    cycle_found : list_any (is_on_cycle rules all) all ≡ true → CycleOf
    cycle_found h =
        let r = some_in (is_on_cycle rules all) all h in
        let s = some_in (λ s. needs rules r.0 s && is_in (leading_to rules all (r.0 ∷ [])) s) all r.2 in
        let both = both_true (needs rules r.0 s.0) _ s.2 in
        cycle_by r.0 s.0 r.1 s.1 both.0 (chain_of r.0 s.0 r.1 both.1)

    -- each rule of a chain back to r leads to it
    leads : (r : ℕ) → In all r → (m : ℕ) (ms : List ℕ) → AllLeadOn (Needs rules) (m ∷ ms) r → ((n : ℕ) → In (m ∷ ms) n → In all n) → In (leading_to rules all (r ∷ [])) m
    leads r there m [] chain within =
        links all NeedsIt (with_needing rules all) needing_gives needing_takes (r ∷ []) (one_within r there) m r (within m (head_in m [])) (needs_takes m r chain.0)
        (starts all NeedsIt (with_needing rules all) needing_gives needing_takes (r ∷ []) (one_within r there) r (head_in r []))
    leads r there m (k ∷ ms) chain within =
        links all NeedsIt (with_needing rules all) needing_gives needing_takes (r ∷ []) (one_within r there) m k (within m (head_in m (k ∷ ms))) (needs_takes m k chain.0)
        (leads r there k ms chain.1 (λ n h. within n (tail_in m (k ∷ ms) n h)))

    on_cycle : (chain : List ℕ) → IsCycle (Needs rules) chain → ((n : ℕ) → In chain n → In all n) → list_any (is_on_cycle rules all) all ≡ true
    on_cycle [] chain within = absurd chain
    on_cycle (r ∷ []) chain within =
        let there = within r (head_in r []) in
        any_of (is_on_cycle rules all) all r there (any_of (λ s. needs rules r s && is_in (leading_to rules all (r ∷ [])) s) all r there
        (of_both (needs rules r r) _ (needs_takes r r chain.0) (starts all NeedsIt (with_needing rules all) needing_gives needing_takes (r ∷ []) (one_within r there) r (head_in r []))))
    on_cycle (r ∷ s ∷ ns) chain within =
        let there = within r (head_in r (s ∷ ns)) in
        let behind = λ (n : ℕ) (h : In (s ∷ ns) n). within n (tail_in r (s ∷ ns) n h) in
        any_of (is_on_cycle rules all) all r there (any_of (λ s. needs rules r s && is_in (leading_to rules all (r ∷ [])) s) all s (behind s (head_in s ns))
        (of_both (needs rules r s) _ (needs_takes r s chain.0) (leads r there s ns chain.1 behind)))

pub reach_is_computed : ReachIsComputed
reach_is_computed rules targets =
    let all = rules_reached rules targets in
    let lows = λ (r : ℕ) (h : In all r). low_of rules r (rules_there rules targets r h) in (
      (λ none. (is_reach rules targets, λ chain is. false≢true (sym none ∙ on_cycle rules all lows chain is.cycle (λ n h. let it = is.reached n h in rule_reached rules targets it.file it.reached n it.makes)))),
      (λ some. let it = cycle_found rules all lows some in (it.0, record { cycle = it.1; reached = λ n h. reached_rule rules targets n (it.2 n h) })),
    )
