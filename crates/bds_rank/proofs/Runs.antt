-- Steps of the machine's run keep it sound, and leave less of it.
use Rattle.std.proofs.Common.{◌≡◌, ◌∙◌, ◌⊎◌, inl, inr, ℕ, zero, suc, ◌+◌, ◌-◌, ◌<◌, ◌≤◌, List, [], ◌∷◌, ◌++◌, sym, ap}
use Rattle.std.proofs.Common.{refl, subst, arith}
use Rattle.std.specs.Prelude.{slice_get, unwrap_or}
use Rattle.bds_value.specs.declared.TheConstants.{MAX_RETRY}
use Rattle.bds_value.specs.declared.value.Stamp.{Stamp}
use Rattle.bds_host.specs.Host.{Log}
use Rattle.bds_rules.specs.declared.rule.Rule.{Rule}
use Rattle.bds_goal.specs.Needs.{no_rule}
use Rattle.bds_code.specs.declared.unit.Unit.{Unit as CodeUnit}
use Rattle.bds_verify.specs.Verified.{VerifiedUnit}
use Rattle.bds_schedule.specs.Configuration.{Mode, at_point, turn_of, stopping, saving, faulted, fault_told, done}
use Rattle.bds_schedule.specs.Moves.{move, move_in}
use Rattle.bds_schedule.specs.Stages.{End}
use Rattle.bds_schedule.specs.Steps.{Step, Goes, Asks, Leads}
use Rattle.bds_sim.specs.Threads.{Live}
use Rattle.bds_sim.specs.MachineRun.{State, Moves}
use Rattle.bds_sim.specs.Row.{row_step}
use Rattle.bds_rank.specs.Keeping.{GoesOnIn, HaveFewRetries, IsSound, Keeps, LivesOn}
use Rattle.bds_rank.specs.Left.{left, left_in}
use Rattle.bds_rank.specs.Lessening.{HasStampMore, Lessens}
use Rattle.bds_rank.specs.Machine.{HasNoStamps, LeadsOn, RunsLessen, RunsStaySound, code_left}
use Rattle.bds_rank.proofs.Living.{live_at, move_sound}
use Rattle.bds_rank.proofs.Moves.{each_less}
use Rattle.bds_rank.proofs.Points.{moved_less}
use Rattle.bds_rank.proofs.Rows.{rows_fall}

-- each rule of a list, by its number
few_at : (rules : List Rule) (n : ℕ) → HaveFewRetries rules → (unwrap_or (slice_get rules n) no_rule).retry ≤ MAX_RETRY
few_at [] n few = omega arith
few_at (r ∷ rules) zero few = few.0
few_at (r ∷ rules) (suc n) few = few_at rules n few.1

module _ (u : CodeUnit) (files : List (List ℕ)) (image : State → List ℕ) (v : VerifiedUnit u) where
  abbrev next : State → Step State End
  next d = move files image (row_step u) d

  abbrev Sound : State → Type 0
  Sound d = IsSound (Live u) d

  abbrev run_left : State → ℕ
  run_left d = left (code_left u) d

  -- one step

  steps_sound : (d : State) → Sound d → Keeps Sound (next d)
  steps_sound d sound = move_sound (Live u) files image (row_step u) d (λ m live. (rows_fall u v m live).live) sound

  in_turn_less : (d : State) → Sound d → (m : Mode) → d.mode ≡ m → GoesOnIn m
      → Lessens (code_left u) d (move_in files image (row_step u) d m)
  in_turn_less d sound m is goes =
      let live = sound.live (subst GoesOnIn (sym is) goes) in
      each_less (code_left u) files image (row_step u) d sound.turn (λ n. few_at d.rules (n - 1) live.rules)
      (λ k t s there ready.
      (rows_fall u v s (subst (LivesOn (Live u)) ready
      (live_at (Live u) d.threads k t live.threads there))).less)
      m is

  steps_less : (d : State) → Sound d → (m : Mode) → d.mode ≡ m
      → Lessens (code_left u) d (move_in files image (row_step u) d m)
  steps_less d sound at_point is = in_turn_less d sound at_point is tt
  steps_less d sound (turn_of k stamps) is = in_turn_less d sound (turn_of k stamps) is tt
  steps_less d sound (stopping cause) is = moved_less (code_left u) files image (row_step u) d (stopping cause) is tt
  steps_less d sound saving is = moved_less (code_left u) files image (row_step u) d saving is tt
  steps_less d sound faulted is = moved_less (code_left u) files image (row_step u) d faulted is tt
  steps_less d sound fault_told is = moved_less (code_left u) files image (row_step u) d fault_told is tt
  steps_less d sound (done status) is = moved_less (code_left u) files image (row_step u) d (done status) is tt

  -- one stamp more leaves as much
  as_much : (d d' : State) → HasStampMore (code_left u) d d' → run_left d' ≡ run_left d
  as_much d d' more = ap (λ x. run_left x) more.behind ∙ sym (ap (λ m. left_in (code_left u) m d) more.turn)

  some_stamps : (k : ℕ) (xs : List Stamp) (x : Stamp) → HasNoStamps (turn_of k (xs ++ x ∷ [])) → ⊥
  some_stamps k [] x none = none
  some_stamps k (y ∷ xs) x none = none

  -- a step that goes on from no more than there was
  module _ (from : State) where
    further : (d d' : State) → run_left d ≤ run_left from
        → (run_left d' < run_left d) ⊎ HasStampMore (code_left u) d d' → run_left d' ≤ run_left from
    further d d' most (inl less) = omega arith
    further d d' most (inr more) = let e = as_much d d' more in omega arith

    on : (d d' : State) → run_left d ≤ run_left from → (run_left d' < run_left d) ⊎ HasStampMore (code_left u) d d'
        → HasNoStamps d'.mode → run_left d' < run_left from
    on d d' most (inl less) none = omega arith
    on d d' most (inr more) none =
        absurd
        (some_stamps more.thread more.stamps more.stamp
        (subst (λ (x : State). HasNoStamps x.mode) more.behind none))

  -- whatever relation of steps it is that the machine's are taken from
  module _ (Steps : State → Step State End → Type 0)
      (plain : (d : State) (s : Step State End) → Steps d s → next d ≡ s) where
    pub leads_sound : (d : State) → Sound d → (before after : Log) (d' : State) → Leads Steps d before d' after
        → Sound d'
    leads_sound d sound before _ _ Leads.here = sound
    leads_sound d sound before _ _ (Leads.goes s t log l is) =
        subst (Keeps Sound) (plain s (Goes t) is) (steps_sound s (leads_sound d sound before log s l))
    leads_sound d sound before _ _ (Leads.asks s log after a f reply l is answered) =
        subst (Keeps Sound) (plain s (Asks a f) is) (steps_sound s (leads_sound d sound before log s l)) reply
        answered.fitting answered.told

    one_less : (s : State) → Sound s → (x : Step State End) → Steps s x → Lessens (code_left u) s x
    one_less s sound x is = subst (Lessens (code_left u) s) (plain s x is) (steps_less s sound s.mode refl)

    leads_most : (d : State) → Sound d → (before after : Log) (d' : State) → Leads Steps d before d' after
        → run_left d' ≤ run_left d
    leads_most d sound before _ _ Leads.here = omega arith
    leads_most d sound before _ _ (Leads.goes s t log l is) =
        further d s t (leads_most d sound before log s l)
        (inl (one_less s (leads_sound d sound before log s l) (Goes t) is))
    leads_most d sound before _ _ (Leads.asks s log after a f reply l is answered) =
        further d s (f reply) (leads_most d sound before log s l)
        (one_less s (leads_sound d sound before log s l) (Asks a f) is reply answered.fitting answered.told)

    pub leads_on_less : (d : State) → Sound d → (before after : Log) (d' : State) → LeadsOn Steps d before d' after
        → HasNoStamps d'.mode → run_left d' < run_left d
    leads_on_less d sound before _ _ (LeadsOn.goes s t log l is) none =
        on d s t (leads_most d sound before log s l)
        (inl (one_less s (leads_sound d sound before log s l) (Goes t) is)) none
    leads_on_less d sound before _ _ (LeadsOn.asks s log after a f reply l is answered) none =
        on d s (f reply) (leads_most d sound before log s l)
        (one_less s (leads_sound d sound before log s l) (Asks a f) is reply answered.fitting answered.told)
        none

pub runs_stay_sound : RunsStaySound
runs_stay_sound u files image v d sound before after d' leads =
    leads_sound u files image v (Moves u files image) (λ d s is. is) d sound before after d' leads

pub runs_lessen : RunsLessen
runs_lessen u files image v d sound before after d' leads none =
    leads_on_less u files image v (Moves u files image) (λ d s is. is) d sound before after d' leads none
