-- The rules and files that are computed for a goal are those that it reaches.
use Rattle.std.proofs.Common.{◌≡◌, ◌∙◌, ℕ, zero, suc, ◌+◌, ◌-◌, ◌≤◌, Bool, true, false, ◌||◌, List, [], ◌∷◌, ◌++◌, length, filter, fold, flat_map, Option, Some, None, sym, ap, refl, subst, arith, ◌⊎◌, inl, inr, if◌then◌else◌}
use Rattle.std.specs.Prelude.{nat_eq, slice_get}
use Rattle.std.specs.List.{list_any}
use Rattle.std.specs.Option.{option_map, unwrap_or}
use Rattle.std.specs.Str.{bytes_eq}
use Rattle.std.proofs.lemmas.Bool.{eqb-true, or_cases, false≢true}
use Rattle.bds_value.specs.Order.{is_before}
use Rattle.bds_value.proofs.KeyLaws.{other_before}
use Rattle.bds_rules.specs.declared.rule.Rule.{Rule}
use Rattle.bds_rules.specs.Makers.{is_among}
use Rattle.bds_goal.specs.Chains.{is_in, In}
use Rattle.bds_goal.specs.Goals.{outputs, inputs, Makes, Takes, NamesFile, Reached, ReachedRule, Rises, IsReach}
use Rattle.bds_goal.specs.Needs.{meet, no_rule, rule_at, numbers_from, numbers, repeated}
use Rattle.bds_goal.specs.Reach.{files_of, with_makers, rules_reached, with_file, reach}
use Rattle.bds_goal.proofs.MakerLaws.{itself, same_bytes}
use Rattle.bds_goal.proofs.RisingLaws.{rest_rises}
use Rattle.bds_goal.proofs.GoalTests.{some_in, any_of, either_true}
use Rattle.bds_goal.proofs.GoalLinks.{head_in, tail_in, filter_gives, filter_takes, starts, ends_in_all, links, least}

-- Texts in lists

pub some_text : (test : List ℕ → Bool) (fs : List (List ℕ)) → list_any test fs ≡ true → (f : List ℕ) × (is_among fs f ≡ true) × (test f ≡ true)
some_text test [] h = absurd (false≢true h)
some_text test (g ∷ gs) h = go (λ k. some_text test gs k) (or_cases (test g) _ h)
  where
    go : (list_any test gs ≡ true → (f : List ℕ) × (is_among gs f ≡ true) × (test f ≡ true)) → (test g ≡ true) ⊎ (list_any test gs ≡ true) → (f : List ℕ) × (is_among (g ∷ gs) f ≡ true) × (test f ≡ true)
    go more (inl here) = (g, either_true (bytes_eq g g) _ (inl (itself g)), here)
    go more (inr there) = let it = more there in (it.0, either_true (bytes_eq g it.0) _ (inr it.1), it.2)

pub any_text : (test : List ℕ → Bool) (fs : List (List ℕ)) (f : List ℕ) → is_among fs f ≡ true → test f ≡ true → list_any test fs ≡ true
any_text test [] f is h = absurd (false≢true is)
any_text test (g ∷ gs) f is h = go (λ k. any_text test gs f k h) (or_cases (bytes_eq g f) _ is)
  where
    go : (is_among gs f ≡ true → list_any test gs ≡ true) → (bytes_eq g f ≡ true) ⊎ (is_among gs f ≡ true) → list_any test (g ∷ gs) ≡ true
    go more (inl same) = either_true (test g) _ (inl (subst (λ x. test x ≡ true) (sym (same_bytes g f same)) h))
    go more (inr there) = either_true (test g) _ (inr (more there))

among_left : (xs ys : List (List ℕ)) (f : List ℕ) → is_among xs f ≡ true → is_among (xs ++ ys) f ≡ true
among_left [] ys f h = absurd (false≢true h)
among_left (x ∷ xs) ys f h = go (λ k. among_left xs ys f k) (or_cases (bytes_eq x f) _ h)
  where
    go : (is_among xs f ≡ true → is_among (xs ++ ys) f ≡ true) → (bytes_eq x f ≡ true) ⊎ (is_among xs f ≡ true) → is_among (x ∷ xs ++ ys) f ≡ true
    go more (inl here) = either_true (bytes_eq x f) _ (inl here)
    go more (inr there) = either_true (bytes_eq x f) _ (inr (more there))

among_right : (xs ys : List (List ℕ)) (f : List ℕ) → is_among ys f ≡ true → is_among (xs ++ ys) f ≡ true
among_right [] ys f h = h
among_right (x ∷ xs) ys f h = either_true (bytes_eq x f) _ (inr (among_right xs ys f h))

among_either : (xs ys : List (List ℕ)) (f : List ℕ) → is_among (xs ++ ys) f ≡ true → (is_among xs f ≡ true) ⊎ (is_among ys f ≡ true)
among_either [] ys f h = inr h
among_either (x ∷ xs) ys f h = go (λ k. among_either xs ys f k) (or_cases (bytes_eq x f) _ h)
  where
    go : (is_among (xs ++ ys) f ≡ true → (is_among xs f ≡ true) ⊎ (is_among ys f ≡ true)) → (bytes_eq x f ≡ true) ⊎ (is_among (xs ++ ys) f ≡ true) → (is_among (x ∷ xs) f ≡ true) ⊎ (is_among ys f ≡ true)
    go more (inl here) = inl (either_true (bytes_eq x f) _ (inl here))
    go more (inr there) = by (more there)
      where
        by : (is_among xs f ≡ true) ⊎ (is_among ys f ≡ true) → (is_among (x ∷ xs) f ≡ true) ⊎ (is_among ys f ≡ true)
        by (inl k) = inl (either_true (bytes_eq x f) _ (inr k))
        by (inr k) = inr k

-- Numbers of rules

numbers_low : (k : ℕ) (rules : List Rule) (n : ℕ) → In (numbers_from k rules) n → k ≤ n
numbers_low k [] n h = absurd (false≢true h)
numbers_low k (r ∷ rs) n h = go (λ j. numbers_low (k + 1) rs n j) (or_cases (nat_eq n k) _ h)
  where
    go : (In (numbers_from (k + 1) rs) n → k + 1 ≤ n) → (nat_eq n k ≡ true) ⊎ (list_any (nat_eq n) (numbers_from (k + 1) rs) ≡ true) → k ≤ n
    go more (inl same) = let e = eqb-true n k same in omega arith
    go more (inr there) = let l = more there in omega arith

pub numbers_count : (k : ℕ) (rules : List Rule) → length (numbers_from k rules) ≡ length rules
numbers_count k [] = refl
numbers_count k (r ∷ rs) = ap suc (numbers_count (k + 1) rs)

abbrev IsNone : Option Rule → Type 0
IsNone None = Unit {0}
IsNone (Some r) = ⊥

numbered : (k : ℕ) (rules : List Rule) (i : ℕ) (r : Rule) → slice_get rules i ≡ Some r → In (numbers_from k rules) (k + i)
numbered k [] i r is = absurd (subst (λ o. IsNone o) is tt)
numbered k (x ∷ rs) zero r is = subst (λ n. In (numbers_from k (x ∷ rs)) n) (omega arith) (head_in k (numbers_from (k + 1) rs))
numbered k (x ∷ rs) (suc i) r is = tail_in k (numbers_from (k + 1) rs) (k + suc i) (subst (λ n. In (numbers_from (k + 1) rs) n) (omega arith) (numbered (k + 1) rs i r is))

pub outs_at : (rules : List Rule) (n : ℕ) → 1 ≤ n → (rule_at rules n).outs ≡ outputs rules n
outs_at rules zero low = absurd (omega arith)
outs_at rules (suc i) low =
    let e : suc i - 1 ≡ i = omega arith in ap (λ j. (unwrap_or (slice_get rules j) no_rule).outs) e ∙ by (slice_get rules i)
  where
    by : (o : Option Rule) → (unwrap_or o no_rule).outs ≡ unwrap_or (option_map (λ r. r.outs) o) []
    by None = refl
    by (Some r) = refl

pub ins_at : (rules : List Rule) (n : ℕ) → 1 ≤ n → (rule_at rules n).ins ≡ inputs rules n
ins_at rules zero low = absurd (omega arith)
ins_at rules (suc i) low =
    let e : suc i - 1 ≡ i = omega arith in ap (λ j. (unwrap_or (slice_get rules j) no_rule).ins) e ∙ by (slice_get rules i)
  where
    by : (o : Option Rule) → (unwrap_or o no_rule).ins ≡ unwrap_or (option_map (λ r. r.ins) o) []
    by None = refl
    by (Some r) = refl

-- a rule with a file is one of the rules
there_by : (which : Rule → List (List ℕ)) (rules : List Rule) (i : ℕ) (f : List ℕ) → is_among (unwrap_or (option_map which (slice_get rules i)) []) f ≡ true → In (numbers rules) (suc i)
there_by which rules i f h = go (slice_get rules i) refl h
  where
    go : (o : Option Rule) → slice_get rules i ≡ o → is_among (unwrap_or (option_map which o) []) f ≡ true → In (numbers rules) (suc i)
    go None is h = absurd (false≢true h)
    go (Some r) is h = subst (λ n. In (numbers rules) n) (omega arith) (numbered 1 rules i r is)

pub made_there : (rules : List Rule) (n : ℕ) (f : List ℕ) → Makes rules n f → In (numbers rules) n
made_there rules zero f h = absurd (false≢true h)
made_there rules (suc i) f h = there_by (λ r. r.outs) rules i f h

pub taken_there : (rules : List Rule) (n : ℕ) (f : List ℕ) → Takes rules n f → In (numbers rules) n
taken_there rules zero f h = absurd (false≢true h)
taken_there rules (suc i) f h = there_by (λ r. r.ins) rules i f h

pub low_of : (rules : List Rule) (n : ℕ) → In (numbers rules) n → 1 ≤ n
low_of rules n h = numbers_low 1 rules n h

files_at_has : (rules : List Rule) (n : ℕ) (f : List ℕ) → 1 ≤ n → is_among (files_of (rule_at rules n)) f ≡ true → NamesFile rules n f
files_at_has rules n f low h =
    subst (λ l. is_among (inputs rules n ++ l) f ≡ true) (outs_at rules n low) (subst (λ l. is_among (l ++ (rule_at rules n).outs) f ≡ true) (ins_at rules n low) h)

has_files_at : (rules : List Rule) (n : ℕ) (f : List ℕ) → 1 ≤ n → NamesFile rules n f → is_among (files_of (rule_at rules n)) f ≡ true
has_files_at rules n f low h =
    subst (λ l. is_among (l ++ (rule_at rules n).outs) f ≡ true) (sym (ins_at rules n low)) (subst (λ l. is_among (inputs rules n ++ l) f ≡ true) (sym (outs_at rules n low)) h)

-- The rules that are reached

module _ (rules : List Rule) (targets : List (List ℕ)) where
  -- the first makes a file of the second
  abbrev MakesFor : ℕ → ℕ → Type 0
  MakesFor r s = meet (rule_at rules r).outs (files_of (rule_at rules s)) ≡ true

  makers_give : (some : List ℕ) (r : ℕ) → In (with_makers rules some) r → In (numbers rules) r × (In some r ⊎ ((s : ℕ) × In some s × MakesFor r s))
  makers_give some r h =
      let it = filter_gives (λ r. is_in some r || list_any (λ s. meet (rule_at rules r).outs (files_of (rule_at rules s))) some) (numbers rules) r h in
      (it.0, by (or_cases (is_in some r) _ it.1))
    where
      by : (is_in some r ≡ true) ⊎ (list_any (λ s. meet (rule_at rules r).outs (files_of (rule_at rules s))) some ≡ true) → In some r ⊎ ((s : ℕ) × In some s × MakesFor r s)
      by (inl is) = inl is
      by (inr new) = inr (some_in (λ s. meet (rule_at rules r).outs (files_of (rule_at rules s))) some new)

  makers_take : (some : List ℕ) (r : ℕ) → In (numbers rules) r → In some r ⊎ ((s : ℕ) × In some s × MakesFor r s) → In (with_makers rules some) r
  makers_take some r there h = filter_takes (λ r. is_in some r || list_any (λ s. meet (rule_at rules r).outs (files_of (rule_at rules s))) some) (numbers rules) r there (either_true (is_in some r) _ (by h))
    where
      by : In some r ⊎ ((s : ℕ) × In some s × MakesFor r s) → (is_in some r ≡ true) ⊎ (list_any (λ s. meet (rule_at rules r).outs (files_of (rule_at rules s))) some ≡ true)
      by (inl is) = inl is
      by (inr new) = inr (any_of (λ s. meet (rule_at rules r).outs (files_of (rule_at rules s))) some new.0 new.1 new.2)

  abbrev makers : List ℕ
  makers = filter (λ r. meet (rule_at rules r).outs targets) (numbers rules)

  makers_within : (r : ℕ) → In makers r → In (numbers rules) r
  makers_within r h = (filter_gives (λ r. meet (rule_at rules r).outs targets) (numbers rules) r h).0

  abbrev Rules : ℕ → Type 0
  Rules n = In (rules_reached rules targets) n

  as_count : (n : ℕ) → In (repeated (with_makers rules) (length (numbers rules)) makers) n → Rules n
  as_count n h = subst (λ k. In (repeated (with_makers rules) k makers) n) (numbers_count 1 rules) h

  of_count : (n : ℕ) → Rules n → In (repeated (with_makers rules) (length (numbers rules)) makers) n
  of_count n h = subst (λ k. In (repeated (with_makers rules) k makers) n) (sym (numbers_count 1 rules)) h

  pub rules_there : (n : ℕ) → Rules n → In (numbers rules) n
  rules_there n h = ends_in_all (numbers rules) MakesFor (with_makers rules) makers_give makers_take makers makers_within n (of_count n h)

  made_by : (r : ℕ) (f : List ℕ) → In (numbers rules) r → is_among (rule_at rules r).outs f ≡ true → Makes rules r f
  made_by r f there h = subst (λ l. is_among l f ≡ true) (outs_at rules r (low_of rules r there)) h

  pub reached_rule : (n : ℕ) → Rules n → ReachedRule rules targets n
  reached_rule n h = least (numbers rules) MakesFor (with_makers rules) makers_give makers_take makers makers_within (ReachedRule rules targets) begins goes (length rules) n h
    where
      begins : (r : ℕ) → In makers r → ReachedRule rules targets r
      begins r h =
          let it = filter_gives (λ r. meet (rule_at rules r).outs targets) (numbers rules) r h in
          let f = some_text (is_among targets) (rule_at rules r).outs it.1 in
          record { file = f.0; makes = made_by r f.0 it.0 f.1; reached = Reached.target f.0 f.2 }

      goes : (r s : ℕ) → In (numbers rules) r → MakesFor r s → ReachedRule rules targets s → ReachedRule rules targets r
      goes r s there for reached =
          let f = some_text (is_among (files_of (rule_at rules s))) (rule_at rules r).outs for in
          let low = low_of rules s (made_there rules s reached.file reached.makes) in
          record { file = f.0; makes = made_by r f.0 there f.1; reached = Reached.with s reached.file f.0 reached.reached reached.makes (files_at_has rules s f.0 low f.2) }

  pub rule_reached : (f : List ℕ) → Reached rules targets f → (n : ℕ) → Makes rules n f → Rules n
  rule_reached f (Reached.target _ is) n makes =
      let there = made_there rules n f makes in
      let outs = subst (λ l. is_among l f ≡ true) (sym (outs_at rules n (low_of rules n there))) makes in
      as_count n (starts (numbers rules) MakesFor (with_makers rules) makers_give makers_take makers makers_within n
      (filter_takes (λ r. meet (rule_at rules r).outs targets) (numbers rules) n there (any_text (is_among targets) (rule_at rules n).outs f outs is)))
  rule_reached f (Reached.with m made _ reached makes' has) n makes =
      let there = made_there rules n f makes in
      let outs = subst (λ l. is_among l f ≡ true) (sym (outs_at rules n (low_of rules n there))) makes in
      let m_there = made_there rules m made makes' in
      as_count n (links (numbers rules) MakesFor (with_makers rules) makers_give makers_take makers makers_within n m there
      (any_text (is_among (files_of (rule_at rules m))) (rule_at rules n).outs f outs (has_files_at rules m f (low_of rules m m_there) has))
      (of_count m (rule_reached made reached m makes')))

-- Files in order

with_file_gives : (gs : List (List ℕ)) (f h : List ℕ) → is_among (with_file gs f) h ≡ true → (f ≡ h) ⊎ (is_among gs h ≡ true)
with_file_gives [] f h is = by (or_cases (bytes_eq f h) _ is)
  where
    by : (bytes_eq f h ≡ true) ⊎ (false ≡ true) → (f ≡ h) ⊎ (is_among [] h ≡ true)
    by (inl same) = inl (same_bytes f h same)
    by (inr none) = absurd (false≢true none)
with_file_gives (g ∷ gs) f h is = go (bytes_eq g f) (is_before f g) (λ k. with_file_gives gs f h k) is
  where
    put : (f ≡ h) ⊎ (is_among gs h ≡ true) → (f ≡ h) ⊎ (is_among (g ∷ gs) h ≡ true)
    put (inl same) = inl same
    put (inr there) = inr (either_true (bytes_eq g h) _ (inr there))

    at_front : (bytes_eq f h ≡ true) ⊎ (is_among (g ∷ gs) h ≡ true) → (f ≡ h) ⊎ (is_among (g ∷ gs) h ≡ true)
    at_front (inl same) = inl (same_bytes f h same)
    at_front (inr there) = inr there

    behind : (is_among (with_file gs f) h ≡ true → (f ≡ h) ⊎ (is_among gs h ≡ true)) → (bytes_eq g h ≡ true) ⊎ (is_among (with_file gs f) h ≡ true) → (f ≡ h) ⊎ (is_among (g ∷ gs) h ≡ true)
    behind more (inl same) = inr (either_true (bytes_eq g h) _ (inl same))
    behind more (inr there) = put (more there)

    go : (same before : Bool) → (is_among (with_file gs f) h ≡ true → (f ≡ h) ⊎ (is_among gs h ≡ true)) → is_among (if same then g ∷ gs else (if before then f ∷ g ∷ gs else g ∷ with_file gs f)) h ≡ true → (f ≡ h) ⊎ (is_among (g ∷ gs) h ≡ true)
    go true before more is = inr is
    go false true more is = at_front (or_cases (bytes_eq f h) _ is)
    go false false more is = behind more (or_cases (bytes_eq g h) _ is)

with_file_takes : (gs : List (List ℕ)) (f h : List ℕ) → (f ≡ h) ⊎ (is_among gs h ≡ true) → is_among (with_file gs f) h ≡ true
with_file_takes [] f h (inl same) = either_true (bytes_eq f h) _ (inl (subst (λ x. bytes_eq f x ≡ true) same (itself f)))
with_file_takes [] f h (inr there) = absurd (false≢true there)
with_file_takes (g ∷ gs) f h is = go (bytes_eq g f) (is_before f g) refl (λ k. with_file_takes gs f h k) is
  where
    rest : (is_among gs h ≡ true → is_among (with_file gs f) h ≡ true) → (bytes_eq g h ≡ true) ⊎ (is_among gs h ≡ true) → is_among (g ∷ with_file gs f) h ≡ true
    rest more (inl same) = either_true (bytes_eq g h) _ (inl same)
    rest more (inr there) = either_true (bytes_eq g h) _ (inr (more there))

    go : (same before : Bool) → bytes_eq g f ≡ same → ((f ≡ h) ⊎ (is_among gs h ≡ true) → is_among (with_file gs f) h ≡ true) → (f ≡ h) ⊎ (is_among (g ∷ gs) h ≡ true) → is_among (if same then g ∷ gs else (if before then f ∷ g ∷ gs else g ∷ with_file gs f)) h ≡ true
    go true before eq more (inl same) = either_true (bytes_eq g h) _ (inl (subst (λ x. bytes_eq g x ≡ true) same eq))
    go true before eq more (inr there) = there
    go false true eq more (inl same) = either_true (bytes_eq f h) _ (inl (subst (λ x. bytes_eq f x ≡ true) same (itself f)))
    go false true eq more (inr there) = either_true (bytes_eq f h) _ (inr there)
    go false false eq more (inl same) = either_true (bytes_eq g h) _ (inr (more (inl same)))
    go false false eq more (inr there) = rest (λ k. more (inr k)) (or_cases (bytes_eq g h) _ there)

-- behind one that comes before them all
rises_behind : (g f : List ℕ) (gs : List (List ℕ)) → is_before g f ≡ true → Rises (g ∷ gs) → Rises (with_file gs f) → Rises (g ∷ with_file gs f)
rises_behind g f [] before rises more = (before, tt)
rises_behind g f (x ∷ gs) before rises more = go (bytes_eq x f) (is_before f x) more
  where
    go : (same first : Bool) → Rises (if same then x ∷ gs else (if first then f ∷ x ∷ gs else x ∷ with_file gs f)) → Rises (g ∷ (if same then x ∷ gs else (if first then f ∷ x ∷ gs else x ∷ with_file gs f)))
    go true first more = (rises.0, more)
    go false true more = (before, more)
    go false false more = (rises.0, more)

with_file_rises : (gs : List (List ℕ)) (f : List ℕ) → Rises gs → Rises (with_file gs f)
with_file_rises [] f rises = tt
with_file_rises (g ∷ gs) f rises = go (bytes_eq g f) (is_before f g) refl refl (with_file_rises gs f (rest_rises g gs rises))
  where
    other : bytes_eq g f ≡ false → bytes_eq f g ≡ false
    other e = by (bytes_eq f g) refl
      where
        by : (b : Bool) → bytes_eq f g ≡ b → bytes_eq f g ≡ false
        by false is = is
        by true is = absurd (false≢true (sym e ∙ subst (λ x. bytes_eq g x ≡ true) (sym (same_bytes f g is)) (itself g)))

    go : (same first : Bool) → bytes_eq g f ≡ same → is_before f g ≡ first → Rises (with_file gs f) → Rises (if same then g ∷ gs else (if first then f ∷ g ∷ gs else g ∷ with_file gs f))
    go true first eq before more = rises
    go false true eq before more = (before, rises)
    go false false eq before more = rises_behind g f gs (other_before f g before (other eq)) rises more

rises_all : (files gs : List (List ℕ)) → Rises gs → Rises (fold with_file gs files)
rises_all [] gs rises = rises
rises_all (f ∷ files) gs rises = rises_all files (with_file gs f) (with_file_rises gs f rises)

folded_gives : (files gs : List (List ℕ)) (h : List ℕ) → is_among (fold with_file gs files) h ≡ true → (is_among gs h ≡ true) ⊎ (is_among files h ≡ true)
folded_gives [] gs h is = inl is
folded_gives (f ∷ files) gs h is = by (folded_gives files (with_file gs f) h is)
  where
    old : (f ≡ h) ⊎ (is_among gs h ≡ true) → (is_among gs h ≡ true) ⊎ (is_among (f ∷ files) h ≡ true)
    old (inl same) = inr (either_true (bytes_eq f h) _ (inl (subst (λ x. bytes_eq f x ≡ true) same (itself f))))
    old (inr there) = inl there

    by : (is_among (with_file gs f) h ≡ true) ⊎ (is_among files h ≡ true) → (is_among gs h ≡ true) ⊎ (is_among (f ∷ files) h ≡ true)
    by (inl put) = old (with_file_gives gs f h put)
    by (inr there) = inr (either_true (bytes_eq f h) _ (inr there))

folded_takes : (files gs : List (List ℕ)) (h : List ℕ) → (is_among gs h ≡ true) ⊎ (is_among files h ≡ true) → is_among (fold with_file gs files) h ≡ true
folded_takes [] gs h (inl is) = is
folded_takes [] gs h (inr is) = absurd (false≢true is)
folded_takes (f ∷ files) gs h (inl is) = folded_takes files (with_file gs f) h (inl (with_file_takes gs f h (inr is)))
folded_takes (f ∷ files) gs h (inr is) = by (λ k. folded_takes files (with_file gs f) h k) (or_cases (bytes_eq f h) _ is)
  where
    by : ((is_among (with_file gs f) h ≡ true) ⊎ (is_among files h ≡ true) → is_among (fold with_file gs (f ∷ files)) h ≡ true) → (bytes_eq f h ≡ true) ⊎ (is_among files h ≡ true) → is_among (fold with_file gs (f ∷ files)) h ≡ true
    by more (inl same) = more (inl (with_file_takes gs f h (inl (same_bytes f h same))))
    by more (inr there) = more (inr there)

some_files : (which : ℕ → List (List ℕ)) (ns : List ℕ) (f : List ℕ) → is_among (flat_map which ns) f ≡ true → (n : ℕ) × In ns n × (is_among (which n) f ≡ true)
some_files which [] f h = absurd (false≢true h)
some_files which (n ∷ ns) f h = go (λ k. some_files which ns f k) (among_either (which n) (flat_map which ns) f h)
  where
    go : (is_among (flat_map which ns) f ≡ true → (m : ℕ) × In ns m × (is_among (which m) f ≡ true)) → (is_among (which n) f ≡ true) ⊎ (is_among (flat_map which ns) f ≡ true) → (m : ℕ) × In (n ∷ ns) m × (is_among (which m) f ≡ true)
    go more (inl here) = (n, head_in n ns, here)
    go more (inr there) = let it = more there in (it.0, tail_in n ns it.0 it.1, it.2)

files_some : (which : ℕ → List (List ℕ)) (ns : List ℕ) (n : ℕ) (f : List ℕ) → In ns n → is_among (which n) f ≡ true → is_among (flat_map which ns) f ≡ true
files_some which [] n f is h = absurd (false≢true is)
files_some which (m ∷ ns) n f is h = go (λ k. files_some which ns n f k h) (or_cases (nat_eq n m) _ is)
  where
    go : (In ns n → is_among (flat_map which ns) f ≡ true) → (nat_eq n m ≡ true) ⊎ (list_any (nat_eq n) ns ≡ true) → is_among (which m ++ flat_map which ns) f ≡ true
    go more (inl same) = among_left (which m) (flat_map which ns) f (subst (λ k. is_among (which k) f ≡ true) (eqb-true n m same) h)
    go more (inr there) = among_right (which m) (flat_map which ns) f (more there)

module _ (rules : List Rule) (targets : List (List ℕ)) where
  abbrev all_files : List (List ℕ)
  all_files = flat_map (λ r. files_of (rule_at rules r)) (rules_reached rules targets)

  file_reached : (f : List ℕ) → is_among (reach rules targets) f ≡ true → Reached rules targets f
  file_reached f h = by (folded_gives (targets ++ all_files) [] f h)
    where
      part : (is_among targets f ≡ true) ⊎ (is_among all_files f ≡ true) → Reached rules targets f
      part (inl target) = Reached.target f target
      part (inr file) =
          let it = some_files (λ r. files_of (rule_at rules r)) (rules_reached rules targets) f file in
          let rule = reached_rule rules targets it.0 it.1 in
          Reached.with it.0 rule.file f rule.reached rule.makes (files_at_has rules it.0 f (low_of rules it.0 (rules_there rules targets it.0 it.1)) it.2)

      by : (is_among [] f ≡ true) ⊎ (is_among (targets ++ all_files) f ≡ true) → Reached rules targets f
      by (inl none) = absurd (false≢true none)
      by (inr there) = part (among_either targets all_files f there)

  reached_file : (f : List ℕ) → Reached rules targets f → is_among (reach rules targets) f ≡ true
  reached_file f (Reached.target _ is) = folded_takes (targets ++ all_files) [] f (inr (among_left targets all_files f is))
  reached_file f (Reached.with n made _ reached makes has) =
      let there = made_there rules n made makes in
      folded_takes (targets ++ all_files) [] f (inr (among_right targets all_files f
      (files_some (λ r. files_of (rule_at rules r)) (rules_reached rules targets) n f (rule_reached rules targets made reached n makes) (has_files_at rules n f (low_of rules n there) has))))

  pub is_reach : IsReach rules targets (reach rules targets)
  is_reach = record { rises = rises_all (targets ++ all_files) [] tt; set = λ f. (file_reached f, reached_file f) }
