-- What is computed as a goal's plan is its plan.
use Rattle.std.proofs.Common.{◌≡◌, ◌∙◌, ℕ, zero, suc, ◌≤◌, Bool, true, false, not, ◌||◌, List, [], ◌∷◌, ◌++◌, length, map, filter, cond, Option, Some, None, Ok, Err, sym, ap, refl, subst, arith, ◌⊎◌, inl, inr}
use Rattle.std.specs.Prelude.{nat_eq, find}
use Rattle.std.specs.List.{list_any}
use Rattle.std.specs.Str.{bytes_eq}
use Rattle.std.proofs.lemmas.Bool.{or_cases, false≢true}
use Rattle.bds_value.specs.Order.{is_before}
use Rattle.bds_value.specs.declared.value.Stamp.{Stamp}
use Rattle.bds_rules.specs.declared.rule.Rule.{Rule}
use Rattle.bds_rules.specs.Makers.{is_among}
use Rattle.bds_rules.specs.OutOfDate.{out_of_date}
use Rattle.bds_tasks.specs.declared.task.Task.{Task}
use Rattle.bds_tasks.specs.Tasks.{pending_makes}
use Rattle.bds_goal.specs.Chains.{is_in, In, IsChain, last_of, Leads}
use Rattle.bds_goal.specs.Goals as goals
use Rattle.bds_goal.specs.Goals.{outputs, inputs, Makes, Needs, Reached, ReachedRule, Rises, IsReach, IsOld, IsDue, IsBusy, IsPlanned, IsPlan, IsUnmade, IsFirstUnmade, Plans, PlansBy}
use Rattle.bds_goal.specs.declared.faults.PlanFault.TheVariants as plan_fault
use Rattle.bds_goal.specs.Needs.{meet, rule_at, needs, numbers, repeated, with_needing}
use Rattle.bds_goal.specs.Plan.{stamp_of, is_old, due, is_busy, is_unmade, unmade, plan}
use Rattle.bds_goal.specs.Reach.{files_of, with_makers, rules_reached, reach, has_cycle}
use Rattle.bds_goal.proofs.RisingLaws.{first_before, not_after, not_itself, rest_rises}
use Rattle.bds_goal.proofs.ReachLaws.{one_reach}
use Rattle.bds_goal.proofs.WantedLaws.{needed_reached}
use Rattle.bds_goal.proofs.MakerLaws.{itself, same_bytes}
use Rattle.bds_goal.specs.GoalLaws.{PlanIsComputed}
use Rattle.bds_goal.proofs.GoalTests.{some_in, any_of, either_true, both_true, of_both}
use Rattle.bds_goal.proofs.GoalLinks.{filter_gives, filter_takes, filter_most, starts, ends_in_all, links, least}
use Rattle.bds_goal.proofs.GoalReach.{outs_at, ins_at, made_there, low_of, rules_there, reached_rule, rule_reached, is_reach, numbers_count}
use Rattle.bds_goal.proofs.GoalCycle.{needs_gives, needs_takes, needing_gives, needing_takes}
use Rattle.bds_goal.proofs.GoalOrder.{Rise, numbers_rise, filter_rise, IsLeft, follows, all_follow}

-- The first of texts in order

no_before : (p : List ℕ → Bool) (xs : List (List ℕ)) (f g : List ℕ) → Rises xs → find p xs ≡ Some f → is_among xs g ≡ true → p g ≡ true → is_before g f ≡ false
no_before p [] f g rises is there passes = absurd (false≢true there)
no_before p (x ∷ xs) f g rises is there passes = go (p x) refl (λ k. no_before p xs f g (rest_rises x xs rises) k) is (or_cases (bytes_eq x g) _ there)
  where
    value : List ℕ → Option (List ℕ) → List ℕ
    value d None = d
    value d (Some k) = k

    go : (b : Bool) → p x ≡ b → (find p xs ≡ Some f → is_among xs g ≡ true → p g ≡ true → is_before g f ≡ false) → cond b (Some x) (find p xs) ≡ Some f → (bytes_eq x g ≡ true) ⊎ (is_among xs g ≡ true) → is_before g f ≡ false
    go true at more is (inl same) = subst (λ k. is_before k f ≡ false) (same_bytes x g same) (subst (λ k. is_before x k ≡ false) (ap (value x) is) (not_itself x))
    go true at more is (inr in_rest) = subst (λ k. is_before g k ≡ false) (ap (value x) is) (not_after x g (first_before x xs rises g in_rest))
    go false at more is (inl same) = absurd (false≢true (sym at ∙ subst (λ k. p k ≡ true) (sym (same_bytes x g same)) passes))
    go false at more is (inr in_rest) = more is in_rest passes

record FindsText (p : List ℕ → Bool) (xs : List (List ℕ)) (f : List ℕ) : Type 0 where
  there : is_among xs f ≡ true
  passes : p f ≡ true

abbrev IsNone : Option (List ℕ) → Type 0
IsNone None = Unit {0}
IsNone (Some t) = ⊥

found_text : (p : List ℕ → Bool) (xs : List (List ℕ)) (f : List ℕ) → find p xs ≡ Some f → FindsText p xs f
found_text p [] f is = absurd (subst (λ o. IsNone o) is tt)
found_text p (x ∷ xs) f is = go (p x) refl (λ k. found_text p xs f k) is
  where
    value : List ℕ → Option (List ℕ) → List ℕ
    value d None = d
    value d (Some k) = k

    go : (b : Bool) → p x ≡ b → (find p xs ≡ Some f → FindsText p xs f) → cond b (Some x) (find p xs) ≡ Some f → FindsText p (x ∷ xs) f
    go true at more is = subst (λ k. FindsText p (x ∷ xs) k) (ap (value x) is) (record { there = either_true (bytes_eq x x) _ (inl (itself x)); passes = at })
    go false at more is = let it = more is in record { there = either_true (bytes_eq x f) _ (inr it.there); passes = it.passes }

no_text : (p : List ℕ → Bool) (xs : List (List ℕ)) (f : List ℕ) → find p xs ≡ None → is_among xs f ≡ true → p f ≡ false
no_text p [] f is there = absurd (false≢true there)
no_text p (x ∷ xs) f is there = go (p x) refl (λ k. no_text p xs f k) is (or_cases (bytes_eq x f) _ there)
  where
    is_some_in : Option (List ℕ) → Type 0
    is_some_in None = ⊥
    is_some_in (Some r) = Unit {0}

    go : (b : Bool) → p x ≡ b → (find p xs ≡ None → is_among xs f ≡ true → p f ≡ false) → cond b (Some x) (find p xs) ≡ None → (bytes_eq x f ≡ true) ⊎ (is_among xs f ≡ true) → p f ≡ false
    go true at more is place = absurd (subst (λ o. is_some_in o) is tt)
    go false at more is (inl same) = subst (λ k. p k ≡ false) (same_bytes x f same) at
    go false at more is (inr in_rest) = more is in_rest

-- Booleans

not_is : (b : Bool) → not b ≡ true → b ≡ false
not_is true h = absurd (false≢true h)
not_is false h = refl

neither : (a b : Bool) → (a || b) ≡ false → (a ≡ false) × (b ≡ false)
neither true b h = absurd (false≢true (sym h))
neither false b h = (refl, h)

of_neither : (a b : Bool) → a ≡ false → b ≡ false → (a || b) ≡ false
of_neither true b h h' = absurd (false≢true (sym h))
of_neither false b h h' = h'

-- The plan

module _ (rules : List Rule) (targets : List (List ℕ)) (stamps : List Stamp) (tasks : List Task) where
  abbrev files : List (List ℕ)
  files = reach rules targets

  abbrev stamp : List ℕ → Stamp
  stamp f = goals.stamp_in files stamps f

  abbrev all : List ℕ
  all = rules_reached rules targets

  lows : (r : ℕ) → In all r → 1 ≤ r
  lows r h = low_of rules r (rules_there rules targets r h)

  -- files without a maker

  unmade_gives : (f : List ℕ) → is_among files f ≡ true → is_unmade rules targets stamps tasks f ≡ true → IsUnmade rules targets stamp tasks f
  unmade_gives f there h =
      let both = both_true (not (stamp_of rules targets stamps tasks f).there) _ h in
      let made = neither (list_any (λ n. is_among (rule_at rules n).outs f) all) (pending_makes tasks f) (not_is _ both.1) in
      let reached = ((is_reach rules targets).set f).0 there in
      record {
        reached = reached;
        missing = not_is _ both.0;
        no_rule = λ n makes. false≢true (sym made.0 ∙ any_of (λ n. is_among (rule_at rules n).outs f) all n (rule_reached rules targets f reached n makes) (subst (λ l. is_among l f ≡ true) (sym (outs_at rules n (low_of rules n (made_there rules n f makes)))) makes));
        no_task = made.1;
      }

  unmade_takes : (f : List ℕ) → IsUnmade rules targets stamp tasks f → is_unmade rules targets stamps tasks f ≡ true
  unmade_takes f is =
      of_both (not (stamp_of rules targets stamps tasks f).there) _ (ap not is.missing)
      (ap not (of_neither (list_any (λ n. is_among (rule_at rules n).outs f) all) _ (no_rule (list_any (λ n. is_among (rule_at rules n).outs f) all) refl) is.no_task))
    where
      no_rule : (b : Bool) → list_any (λ n. is_among (rule_at rules n).outs f) all ≡ b → list_any (λ n. is_among (rule_at rules n).outs f) all ≡ false
      no_rule false at = at
      no_rule true at = let n = some_in (λ n. is_among (rule_at rules n).outs f) all at in absurd (is.no_rule n.0 (subst (λ l. is_among l f ≡ true) (outs_at rules n.0 (lows n.0 n.1)) n.2))

  unmade_there : (f : List ℕ) → IsUnmade rules targets stamp tasks f → is_among files f ≡ true
  unmade_there f is = ((is_reach rules targets).set f).1 is.reached

  first_unmade : (f : List ℕ) → unmade rules targets stamps tasks ≡ Some f → IsFirstUnmade rules targets stamp tasks f
  first_unmade f is =
      let found = found_text (is_unmade rules targets stamps tasks) files f is in
      record {
        unmade = unmade_gives f found.there found.passes;
        least = λ other un. no_before (is_unmade rules targets stamps tasks) files f other (is_reach rules targets).rises is (unmade_there other un) (unmade_takes other un);
      }

  none_unmade : unmade rules targets stamps tasks ≡ None → (f : List ℕ) → IsUnmade rules targets stamp tasks f → ⊥
  none_unmade is f un = false≢true (sym (no_text (is_unmade rules targets stamps tasks) files f is (unmade_there f un)) ∙ unmade_takes f un)

  -- rules that are due

  same_old : (n : ℕ) → 1 ≤ n → is_old rules targets stamps tasks n ≡ out_of_date (map stamp (outputs rules n)) (map stamp (inputs rules n)) (list_any (pending_makes tasks) (inputs rules n ++ outputs rules n))
  same_old n low =
      ap (λ l. out_of_date (map stamp l) (map stamp (rule_at rules n).ins) (list_any (pending_makes tasks) ((rule_at rules n).ins ++ l))) (outs_at rules n low)
      ∙ ap (λ l. out_of_date (map stamp (outputs rules n)) (map stamp l) (list_any (pending_makes tasks) (l ++ outputs rules n))) (ins_at rules n low)

  abbrev olds : List ℕ
  olds = filter (is_old rules targets stamps tasks) all

  olds_within : (n : ℕ) → In olds n → In all n
  olds_within n h = (filter_gives (is_old rules targets stamps tasks) all n h).0

  abbrev NeedsIt : ℕ → ℕ → Type 0
  NeedsIt r s = needs rules r s ≡ true

  abbrev Old : ℕ → Type 0
  Old n = IsOld rules targets stamp tasks n

  due_there : (n : ℕ) → In (due rules targets stamps tasks) n → In all n
  due_there n h = ends_in_all all NeedsIt (with_needing rules all) (needing_gives rules all lows) (needing_takes rules all lows) olds olds_within n h

  due_leads : (n : ℕ) → In (due rules targets stamps tasks) n → Leads (Needs rules) Old n
  due_leads n h = (least all NeedsIt (with_needing rules all) (needing_gives rules all lows) (needing_takes rules all lows) olds olds_within (λ m. In all m × Leads (Needs rules) Old m) begins goes (length all) n h).1
    where
      begins : (r : ℕ) → In olds r → In all r × Leads (Needs rules) Old r
      begins r is = let it = filter_gives (is_old rules targets stamps tasks) all r is in (it.0, record { by = []; each = tt; ends = sym (same_old r (lows r it.0)) ∙ it.1 })

      goes : (r s : ℕ) → In all r → NeedsIt r s → In all s × Leads (Needs rules) Old s → In all r × Leads (Needs rules) Old r
      goes r s there need rest = (there, record { by = s ∷ rest.1.by; each = (needs_gives rules r s (lows r there) (lows s rest.0) need, rest.1.each); ends = rest.1.ends })

  leads_due : (by : List ℕ) (n : ℕ) → In all n → IsChain (Needs rules) n by → Old (last_of n by) → In (due rules targets stamps tasks) n
  leads_due [] n there chain old =
      starts all NeedsIt (with_needing rules all) (needing_gives rules all lows) (needing_takes rules all lows) olds olds_within n
      (filter_takes (is_old rules targets stamps tasks) all n there (same_old n (lows n there) ∙ old))
  leads_due (s ∷ by) n there chain old =
      let reached = needed_reached rules targets n s (reached_rule rules targets n there) chain.0 in
      let s_there = rule_reached rules targets reached.file reached.reached s reached.makes in
      links all NeedsIt (with_needing rules all) (needing_gives rules all lows) (needing_takes rules all lows) olds olds_within n s there (needs_takes rules n s chain.0) (leads_due by s s_there chain.1 old)

  -- those that are planned

  abbrev todo : List ℕ
  todo = filter (λ n. not (is_busy rules targets stamps tasks n)) (due rules targets stamps tasks)

  abbrev Planned : ℕ → Type 0
  Planned n = IsPlanned rules targets stamp tasks n

  todo_planned : (n : ℕ) → In todo n → Planned n
  todo_planned n h =
      let it = filter_gives (λ n. not (is_busy rules targets stamps tasks n)) (due rules targets stamps tasks) n h in
      let there = due_there n it.0 in
      record {
        due = record { reached = reached_rule rules targets n there; leads = due_leads n it.0 };
        free = λ busy. false≢true (sym (not_is _ it.1) ∙ subst (λ l. list_any (pending_makes tasks) l ≡ true) (sym (outs_at rules n (lows n there))) busy);
      }

  planned_todo : (n : ℕ) → Planned n → In todo n
  planned_todo n is =
      let reached = is.due.reached in
      let there = rule_reached rules targets reached.file reached.reached n reached.makes in
      filter_takes (λ n. not (is_busy rules targets stamps tasks n)) (due rules targets stamps tasks) n (leads_due is.due.leads.by n there is.due.leads.each is.due.leads.ends)
      (ap not (not_busy n is there (is_busy rules targets stamps tasks n) refl))
    where
      not_busy : (n : ℕ) → Planned n → In all n → (b : Bool) → is_busy rules targets stamps tasks n ≡ b → is_busy rules targets stamps tasks n ≡ false
      not_busy n is there false at = at
      not_busy n is there true at = absurd (is.free (subst (λ l. list_any (pending_makes tasks) l ≡ true) (outs_at rules n (lows n there)) at))

  abbrev makes_for : List ℕ → ℕ → Bool
  makes_for some r = is_in some r || list_any (λ s. meet (rule_at rules r).outs (files_of (rule_at rules s))) some

  abbrev makes_target : ℕ → Bool
  makes_target r = meet (rule_at rules r).outs targets

  abbrev needs_one : List ℕ → ℕ → Bool
  needs_one some r = list_any (λ s. nat_eq r s || needs rules r s) some

  spread_rise : (next : List ℕ → List ℕ) → ((some : List ℕ) → Rise (next some)) → (start : List ℕ) → Rise start → (k : ℕ) → Rise (repeated next k start)
  spread_rise next rise start first zero = first
  spread_rise next rise start first (suc k) = rise (repeated next k start)

  all_rise : Rise all
  all_rise = spread_rise (with_makers rules) (λ some. filter_rise (makes_for some) (numbers rules) (numbers_rise 1 rules)) (filter makes_target (numbers rules)) (filter_rise makes_target (numbers rules) (numbers_rise 1 rules)) (length rules)

  due_rise : Rise (due rules targets stamps tasks)
  due_rise = spread_rise (with_needing rules all) (λ some. filter_rise (needs_one some) all all_rise) olds (filter_rise (is_old rules targets stamps tasks) all all_rise) (length all)

  spread_short : (most : ℕ) (next : List ℕ → List ℕ) → ((some : List ℕ) → length (next some) ≤ most) → (start : List ℕ) → length start ≤ most → (k : ℕ) → length (repeated next k start) ≤ most
  spread_short most next short start first zero = first
  spread_short most next short start first (suc k) = short (repeated next k start)

  all_short : length all ≤ length rules
  all_short =
      subst (λ n. length all ≤ n) (numbers_count 1 rules)
      (spread_short (length (numbers rules)) (with_makers rules) (λ some. filter_most (makes_for some) (numbers rules)) (filter makes_target (numbers rules)) (filter_most makes_target (numbers rules)) (length rules))

  todo_short : length todo ≤ length rules
  todo_short =
      let a = filter_most (λ n. not (is_busy rules targets stamps tasks n)) (due rules targets stamps tasks) in
      let b = spread_short (length all) (with_needing rules all) (λ some. filter_most (needs_one some) all) olds (filter_most (is_old rules targets stamps tasks) all) (length all) in
      let c = all_short in omega arith

  todo_left : (none : has_cycle rules targets ≡ false) → IsLeft rules all lows none targets stamps tasks Planned [] todo
  todo_left none = record {
    rise = filter_rise (λ n. not (is_busy rules targets stamps tasks n)) (due rules targets stamps tasks) due_rise;
    within = λ n h. due_there n (filter_gives (λ n. not (is_busy rules targets stamps tasks n)) (due rules targets stamps tasks) n h).0;
    todo = todo_planned;
    new = λ n h. refl;
    other = λ n is new. planned_todo n is;
  }

  is_plan : has_cycle rules targets ≡ false → IsPlan rules targets stamp tasks (plan rules targets stamps tasks)
  is_plan none = record {
    follow = follows rules all lows none targets stamps tasks Planned (length rules) [] todo (todo_left none);
    all = λ n is. all_follow rules all lows none targets stamps tasks Planned (length rules) [] todo (todo_left none) todo_short n (planned_todo n is);
  }

pub plan_is_computed : PlanIsComputed
plan_is_computed rules targets stamps tasks none = (
  (λ is files reach. subst (λ fs. Plans rules targets (goals.stamp_in fs stamps) tasks (Ok (plan rules targets stamps tasks))) (same_files files reach) (is_plan rules targets stamps tasks none, none_unmade rules targets stamps tasks is)),
  (λ file is files reach. subst (λ fs. Plans rules targets (goals.stamp_in fs stamps) tasks (Err (plan_fault.NoRule file))) (same_files files reach) (first_unmade rules targets stamps tasks file is)),
)
  where
    same_files : (fs : List (List ℕ)) → IsReach rules targets fs → reach rules targets ≡ fs
    same_files fs is = one_reach rules targets (reach rules targets) fs (is_reach rules targets) is
