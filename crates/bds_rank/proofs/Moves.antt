-- Each move leaves less of the run.
use Rattle.std.proofs.Common.{◌≡◌, ℕ, ◌+◌, ◌*◌, ◌<◌, ◌≤◌, true, List, [], Some, sym, ap, refl, subst, arith}
use Rattle.std.specs.Prelude.{slice_get}
use Rattle.std.proofs.lemmas.Bool.{false≢true}
use Rattle.bds_value.specs.declared.TheConstants.{MAX_RETRY}
use Rattle.bds_value.specs.declared.value.Stamp.{Stamp}
use Rattle.bds_goal.specs.Needs.{rule_at}
use Rattle.bds_tasks.specs.declared.task.Waited.{Waited}
use Rattle.bds_tasks.specs.declared.task.Waited.TheVariants.{Not, Well, Failed}
use Rattle.bds_schedule.specs.Configuration.{Life, Ready, Waits, Closes, Ended, Thread, Configuration, Mode, at_point}
use Rattle.bds_schedule.specs.Configuration.{turn_of, stopping, saving, faulted, fault_told, done, task_failed, becomes}
use Rattle.bds_schedule.specs.Moves.{move_in}
use Rattle.bds_schedule.specs.Requests.{ThreadAct}
use Rattle.bds_schedule.specs.Turns as turns
use Rattle.bds_schedule.specs.Waiting.{is_over, is_ready_in, wait_state}
use Rattle.bds_rank.specs.Left.{all_left, left, life_left}
use Rattle.bds_rank.specs.Lessening.{Falls, Lessens}
use Rattle.bds_rank.proofs.Points.{moved_less}
use Rattle.bds_rank.proofs.Turns.{becomes_less, comes_less, goes_on_less, stopping_less, taken_less}

module _ {S : Type 0} (weight : S → ℕ) (files : List (List ℕ)) (image : Configuration S → List ℕ)
    (step : S → ThreadAct S) (c : Configuration S) where
  module _ (k : ℕ) (stamps : List Stamp) (turn : c.mode ≡ turn_of k stamps) (t : Thread S)
      (there : slice_get c.threads k ≡ Some t) (ready : is_ready_in c t.life ≡ true) where
    -- a wait that is over
    over_less : (w : Waited) → is_over w ≡ true → (d : Configuration S) → left weight d < left weight c
        → Lessens weight c (turns.over c w d)
    over_less (Failed n code) over d less = stopping_less weight c k stamps turn (task_failed n code)
    over_less Well over d less = less
    over_less Not over d less = absurd (false≢true over)

    changes : (life : Life S) (m : Mode) → life_left weight life < life_left weight t.life
        → all_left weight (becomes k life m c) < all_left weight c
    changes life m less = becomes_less weight k life m c c t there (omega arith) (omega arith) (omega arith) less

    turn_less : ((n : ℕ) → (rule_at c.rules n).retry ≤ MAX_RETRY)
        → ((s : S) → t.life ≡ Ready s → Falls weight s (step s)) → (l : Life S) → t.life ≡ l
        → Lessens weight c (turns.turn_in files image step k stamps c l)
    turn_less few falls (Ready s) is =
        taken_less weight files image k stamps c turn t there s is few step (step s) (falls s is)
    turn_less few falls (Waits ids s) is =
        let now : life_left weight t.life ≡ 2 * weight s + 3 = ap (life_left weight) is in
        over_less (wait_state c ids) (subst (λ l. is_ready_in c l ≡ true) is ready) (turns.goes_on k c s)
        (goes_on_less weight c k stamps turn (turns.goes_on k c s) (changes (Ready s) (turn_of k []) (omega arith))
        refl)
    turn_less few falls (Closes ids s) is =
        let now : life_left weight t.life ≡ 1 = ap (life_left weight) is in
        over_less (wait_state c ids) (subst (λ l. is_ready_in c l ≡ true) is ready) (becomes k Ended at_point c)
        (comes_less weight c k stamps turn (becomes k Ended at_point c) (changes Ended at_point (omega arith)) refl)
    turn_less few falls Ended is = absurd (false≢true (subst (λ l. is_ready_in c l ≡ true) is ready))

    turned_less : ((n : ℕ) → (rule_at c.rules n).retry ≤ MAX_RETRY)
        → ((s : S) → t.life ≡ Ready s → Falls weight s (step s))
        → Lessens weight c (turns.turn files image step k stamps c)
    turned_less few falls =
        subst (λ o. Lessens weight c (turns.turn_at files image step k stamps c o)) (sym there)
        (turn_less few falls t.life refl)

  module _
      (right : (k : ℕ) (stamps : List Stamp) → c.mode ≡ turn_of k stamps → (t : Thread S)
      × (slice_get c.threads k ≡ Some t) × (is_ready_in c t.life ≡ true))
      (few : (n : ℕ) → (rule_at c.rules n).retry ≤ MAX_RETRY)
      (falls : (k : ℕ) (t : Thread S) (s : S) → slice_get c.threads k ≡ Some t → t.life ≡ Ready s → Falls weight s
      (step s)) where
    pub each_less : (m : Mode) → c.mode ≡ m → Lessens weight c (move_in files image step c m)
    each_less at_point is = moved_less weight files image step c at_point is tt
    each_less (turn_of k stamps) is =
        let w = right k stamps is in turned_less k stamps is w.0 w.1 w.2 few (λ s e. falls k w.0 s w.1 e)
    each_less (stopping cause) is = moved_less weight files image step c (stopping cause) is tt
    each_less saving is = moved_less weight files image step c saving is tt
    each_less faulted is = moved_less weight files image step c faulted is tt
    each_less fault_told is = moved_less weight files image step c fault_told is tt
    each_less (done status) is = moved_less weight files image step c (done status) is tt
