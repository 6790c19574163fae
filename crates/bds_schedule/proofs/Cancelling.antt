-- One pass through the tasks finds all that a bad end cancels, since each needs earlier ones alone.
use Rattle.std.proofs.Common.{◌≡◌, ◌∙◌, ℕ, zero, suc, ◌+◌, ◌-◌, ◌≤◌, ◌<◌, Bool, true, false, ◌||◌, List, [], ◌∷◌, ◌++◌, length, Some, sym, ap, refl, subst, arith, append_assoc, append-nil, ◌⊎◌, inl, inr}
use Rattle.std.specs.Prelude.{slice_get, nat_eq}
use Rattle.std.specs.List.{AllByRecursion, list_any}
use Rattle.std.specs.Option.{option_map, unwrap_or}
use Rattle.std.proofs.lemmas.Bool.{cases_lt, eqb-true, eq-eqb, or_cases, false≢true}
use Rattle.std.proofs.lemmas.List.{length_push}
use Rattle.bds_tasks.specs.declared.task.Task.{Task}
use Rattle.bds_tasks.specs.Ends.{is_by, is_lost, is_hit, hit_where, cancelled_behind}
use Rattle.bds_tasks.specs.Tasks.{task_at, waits}
use Rattle.bds_goal.specs.Chains.{In}
use Rattle.bds_schedule.specs.Cancelling.{IsLost, IsHit, IsJudged, AreJudged, HasCancelledNone, CancelsLost}
use Rattle.bds_schedule.specs.Earlier.{AreEarlier, needs_of}
use Rattle.bds_goal.proofs.GoalTests.{either_true, both_true, of_both, some_in, any_of}

-- Lists and tests

each_of : (P : ℕ → Type 0) (ns : List ℕ) (k : ℕ) → AllByRecursion P ns → In ns k → P k
each_of P [] k all is = absurd (false≢true is)
each_of P (n ∷ ns) k all is = go (λ there. each_of P ns k all.1 there) (or_cases (nat_eq k n) _ is)
  where
    go : (list_any (nat_eq k) ns ≡ true → P k) → (nat_eq k n ≡ true) ⊎ (list_any (nat_eq k) ns ≡ true) → P k
    go more (inl same) = subst P (sym (eqb-true k n same)) all.0
    go more (inr there) = more there

at_left : (xs ys : List Task) (i : ℕ) → i < length xs → slice_get (xs ++ ys) i ≡ slice_get xs i
at_left [] ys i h = absurd (omega arith)
at_left (x ∷ xs) ys zero h = refl
at_left (x ∷ xs) ys (suc i) h = at_left xs ys i (omega arith)

at_end : (xs : List Task) (y : Task) (ys : List Task) → slice_get (xs ++ y ∷ ys) (length xs) ≡ Some y
at_end [] y ys = refl
at_end (x ∷ xs) y ys = at_end xs y ys

at_behind : (xs : List Task) (y : Task) (ys : List Task) → task_at (xs ++ y ∷ ys) (suc (length xs)) ≡ Some y
at_behind xs y ys = let e : suc (length xs) - 1 ≡ length xs = omega arith in ap (λ i. slice_get (xs ++ y ∷ ys) i) e ∙ at_end xs y ys

-- The pass

module _ (all : List Task) (n : ℕ) where
  -- of the tasks that are judged it is known which are lost
  abbrev Known : List Task → Type 0
  Known before = (m : ℕ) → 1 ≤ m → m ≤ length before → (is_lost n before m ≡ true → IsLost all n m) × (IsLost all n m → is_lost n before m ≡ true)

  abbrev AreBefore : List Task → Task → Type 0
  AreBefore before t = AllByRecursion (λ m. (1 ≤ m) × (m ≤ length before)) t.needs

  found_hit : (before : List Task) (t : Task) → Known before → AreBefore before t → is_hit n before t ≡ true → IsHit all n t
  found_hit before t known within h =
      let parts = both_true (waits t.state) (list_any (is_lost n before) t.needs) h in
      let some = some_in (is_lost n before) t.needs parts.1 in
      let place = each_of (λ m. (1 ≤ m) × (m ≤ length before)) t.needs some.0 within some.1 in
      record { waiting = parts.0; number = some.0; needed = some.1; lost = (known some.0 place.0 place.1).0 some.2 }

  hit_found : (before : List Task) (t : Task) → Known before → AreBefore before t → IsHit all n t → is_hit n before t ≡ true
  hit_found before t known within h =
      let place = each_of (λ m. (1 ≤ m) × (m ≤ length before)) t.needs h.number within h.needed in
      of_both (waits t.state) _ h.waiting (any_of (is_lost n before) t.needs h.number h.needed ((known h.number place.0 place.1).1 h.lost))

  -- the task behind those that are judged
  module _ (before : List Task) (t : Task) (known : Known before) (within : AreBefore before t) (there : task_at all (suc (length before)) ≡ Some t) (fresh : is_by n t.state ≡ false) where
    lost_here : IsLost all n (suc (length before)) → (nat_eq (suc (length before)) n ≡ true) ⊎ (is_hit n before t ≡ true)
    lost_here l = go (suc (length before)) refl l
      where
        go : (m : ℕ) → suc (length before) ≡ m → IsLost all n m → (nat_eq (suc (length before)) n ≡ true) ⊎ (is_hit n before t ≡ true)
        go _ is IsLost.itself = inl (eq-eqb _ _ is)
        go _ is (IsLost.needing m k t' at waiting needed lost) =
            let same : Some t' ≡ Some t = sym at ∙ ap (λ i. task_at all i) (sym is) ∙ there in
            inr (subst (λ o. is_hit n before (unwrap_or o t) ≡ true) same
            (hit_found before t' known (subst (λ o. AreBefore before (unwrap_or o t)) (sym same) within) (record { waiting = waiting; number = k; needed = needed; lost = lost })))

    is_lost_here : (u : Task) → (is_lost n (before ++ u ∷ []) (suc (length before))) ≡ (nat_eq (suc (length before)) n || is_by n u.state)
    is_lost_here u = ap (λ o. nat_eq (suc (length before)) n || unwrap_or (option_map (λ (t : Task). is_by n t.state) o) false) (at_behind before u [])

    known_here : (hit : Bool) → is_hit n before t ≡ hit →
        (is_lost n (before ++ hit_where hit n t ∷ []) (suc (length before)) ≡ true → IsLost all n (suc (length before)))
        × (IsLost all n (suc (length before)) → is_lost n (before ++ hit_where hit n t ∷ []) (suc (length before)) ≡ true)
    known_here true is = (
      λ h. let it = found_hit before t known within is in IsLost.needing (suc (length before)) it.number t there it.waiting it.needed it.lost,
      λ l. is_lost_here (hit_where true n t) ∙ either_true (nat_eq (suc (length before)) n) _ (inr (eq-eqb n n refl)),
    )
    known_here false is = (
      λ h. itself (or_cases (nat_eq (suc (length before)) n) _ (sym (is_lost_here (hit_where false n t)) ∙ h)),
      λ l. is_lost_here (hit_where false n t) ∙ ap (λ b. nat_eq (suc (length before)) n || b) fresh ∙ not_hit (lost_here l),
    )
      where
        itself : (nat_eq (suc (length before)) n ≡ true) ⊎ (is_by n t.state ≡ true) → IsLost all n (suc (length before))
        itself (inl same) = subst (λ m. IsLost all n m) (sym (eqb-true _ _ same)) IsLost.itself
        itself (inr by) = absurd (false≢true (sym fresh ∙ by))

        not_hit : (nat_eq (suc (length before)) n ≡ true) ⊎ (is_hit n before t ≡ true) → (nat_eq (suc (length before)) n || false) ≡ true
        not_hit (inl same) = either_true _ false (inl same)
        not_hit (inr hit) = absurd (false≢true (sym is ∙ hit))

    known_more : Known (before ++ hit_where (is_hit n before t) n t ∷ [])
    known_more m low high = go (cases_lt (length before) m)
      where
        u : Task
        u = hit_where (is_hit n before t) n t

        same : m ≤ length before → is_lost n before m ≡ is_lost n (before ++ u ∷ []) m
        same h = ap (λ o. nat_eq m n || unwrap_or (option_map (λ (t : Task). is_by n t.state) o) false) (sym (at_left before (u ∷ []) (m - 1) (omega arith)))

        go : (length before < m) ⊎ (m ≤ length before) → (is_lost n (before ++ u ∷ []) m ≡ true → IsLost all n m) × (IsLost all n m → is_lost n (before ++ u ∷ []) m ≡ true)
        go (inr h) = (λ l. (known m low h).0 (same h ∙ l), λ l. sym (same h) ∙ (known m low h).1 l)
        go (inl h) =
            let long : length (before ++ u ∷ []) ≡ length before + 1 = length_push before u in
            let is : suc (length before) ≡ m = omega arith in
            subst (λ k. (is_lost n (before ++ u ∷ []) k ≡ true → IsLost all n k) × (IsLost all n k → is_lost n (before ++ u ∷ []) k ≡ true)) is (known_here (is_hit n before t) refl)

    judged_by : (hit : Bool) → is_hit n before t ≡ hit → IsJudged all n t (hit_where hit n t)
    judged_by true is = (λ h. refl, λ none. absurd (none (found_hit before t known within is)))
    judged_by false is = (λ h. absurd (false≢true (sym is ∙ hit_found before t known within h)), λ none. refl)

  -- what the pass makes of the tasks that are left
  abbrev left_judged : List Task → List Task → List Task
  left_judged before [] = []
  left_judged before (t ∷ ts) = hit_where (is_hit n before t) n t ∷ left_judged (before ++ hit_where (is_hit n before t) n t ∷ []) ts

  passes_through : (before ts : List Task) → cancelled_behind n before ts ≡ before ++ left_judged before ts
  passes_through before [] = sym (append-nil before)
  passes_through before (t ∷ ts) =
      let u : Task = hit_where (is_hit n before t) n t in
      passes_through (before ++ u ∷ []) ts ∙ append_assoc before (u ∷ []) (left_judged (before ++ u ∷ []) ts)

  all_judged : (pre before ts : List Task) → all ≡ pre ++ ts → length pre ≡ length before → Known before → AreEarlier (length before) (needs_of ts) → HasCancelledNone n ts → AreJudged all n ts (left_judged before ts)
  all_judged pre before [] is long known earlier fresh = tt
  all_judged pre before (t ∷ ts) is long known earlier fresh =
      let u : Task = hit_where (is_hit n before t) n t in
      let there : task_at all (suc (length before)) ≡ Some t = ap (λ l. task_at l (suc (length before))) is ∙ ap (λ i. task_at (pre ++ t ∷ ts) (suc i)) (sym long) ∙ at_behind pre t ts in
      let more : length (before ++ u ∷ []) ≡ length before + 1 = length_push before u in (
        judged_by before t known earlier.0 there fresh.0 (is_hit n before t) refl,
        all_judged (pre ++ t ∷ []) (before ++ u ∷ []) ts (is ∙ sym (append_assoc pre (t ∷ []) ts)) (length_push pre t ∙ ap (λ i. i + 1) long ∙ sym more)
            (known_more before t known earlier.0 there fresh.0) (subst (λ i. AreEarlier i (needs_of ts)) (sym more) earlier.1) fresh.1,
      )

pub cancels_lost : CancelsLost
cancels_lost n tasks earlier fresh =
    subst (λ us. AreJudged tasks n tasks us) (sym (passes_through tasks n [] tasks))
    (all_judged tasks n [] [] tasks refl refl (λ m low high. absurd (omega arith)) earlier fresh)
