-- Each step of a run from stage to stage leaves less of it.
use Rattle.std.proofs.Common.{◌≡◌, ◌∙◌, ℕ, suc, ◌+◌, ◌-◌, ◌*◌, ◌<◌, List, [], ◌∷◌, map, Some, Ok, slice_get, refl, sym}
use Rattle.std.proofs.Common.{ap, subst, arith}
use Rattle.std.specs.List.{AllByRecursion}
use Rattle.bds_value.specs.declared.ids.Status.{Status}
use Rattle.bds_value.specs.declared.ids.Status.TheVariants as status
use Rattle.bds_host.specs.Host.{Log}
use Rattle.bds_code.specs.declared.unit.Unit.{Unit as CodeUnit}
use Rattle.bds_code_frames.specs.declared.frame.Frame.{Frame}
use Rattle.bds_code_frames.specs.declared.thread.Thread.{Thread}
use Rattle.bds_verify.specs.Threads.{HasParts, IsThread}
use Rattle.bds_machine.proofs.Threads.{frames-calls}
use Rattle.bds_rules.specs.declared.rule.Rule.{Rule}
use Rattle.bds_rules.specs.Own.{IsLegal}
use Rattle.bds_schedule.specs.Configuration as meaning
use Rattle.bds_schedule.specs.Stages.{End}
use Rattle.bds_schedule.specs.Steps.{Step}
use Rattle.bds_sim.specs.Threads.{Live}
use Rattle.bds_sim.specs.Threads as sim
use Rattle.bds_sim.specs.MachineRun.{State}
use Rattle.bds_state.specs.Parts.{Parts}
use Rattle.bds_state.specs.Valid.{IsValid}
use Rattle.bds_rank.specs.Keeping.{HaveFewRetries, IsSound, LivesOn}
use Rattle.bds_rank.specs.Left.{left, left_in, tasks_left, threads_left}
use Rattle.bds_rank.specs.Machine.{HasNoStamps, LeadsOn, code_left}
use Rattle.bds_rank.proofs.Right.{no_turn}
use Rattle.bds_rank.proofs.Runs.{leads_on_less, leads_sound}
use Rattle.bds_engine_parts.specs.Image.{image}
use Rattle.bds_engine_parts.specs.Saving as whole
use Rattle.bds_engine_parts.specs.Seen.{code_seen, id_seen, life_seen, opening, seen, thread_seen, waiting_seen}
use Rattle.bds_engine_stages.specs.declared.stage.Stage.{Stage}
use Rattle.bds_engine_stages.specs.declared.stage.Stage.TheVariants as stage
use Rattle.bds_engine_stages.specs.Steps.{HasCome, IsAt, IsOver, StepsWithin, mode_seen}
use Rattle.bds_engine_stages.proofs.Ending.{mode_of}
use Rattle.bds_engine.specs.Remaining.{stage_left}

-- A run begins sound

module _ (u : CodeUnit) where
  live_seen : (t : Thread) (s : Status) → t.status ≡ s → HasParts u s t.globals t.frames
      → LivesOn (Live u) (life_seen s t)
  live_seen t status.Ready is h = record { valid = h.0; some = frames-calls t.frames h.1 }
  live_seen t (status.Waiting ids) is h = by t.frames refl
    where
      some_frames : (f : Frame) (fs : List Frame) → f ∷ fs ≡ [] → ⊥
      some_frames f fs e = absurd (cc e)

      by : (fs : List Frame) → t.frames ≡ fs → LivesOn (Live u) (waiting_seen fs (map id_seen ids) (code_seen t))
      by [] e = tt
      by (f ∷ fs) e =
          record { valid = h; some = frames-calls t.frames (λ none. absurd (some_frames f fs (sym e ∙ none))) }
  live_seen t status.Ended is h = tt

  all_seen : (ts : List Thread) → ((n : ℕ) (t : Thread) → slice_get ts n ≡ Some t → IsThread u t)
      → AllByRecursion (λ (t : meaning.Thread sim.Parts). LivesOn (Live u) t.life) (map thread_seen ts)
  all_seen [] each = tt
  all_seen (t ∷ ts) each = (live_seen t t.status refl (each 0 t refl), all_seen ts (λ n x there. each (suc n) x there))

few_of : (rules : List Rule) → AllByRecursion IsLegal rules → HaveFewRetries rules
few_of [] legal = tt
few_of (r ∷ rules) legal = (legal.0.retry, few_of rules legal.1)

pub few_rules : (s : Parts) → IsValid s → HaveFewRetries s.rules
few_rules s valid = few_of s.rules valid.rules.legal

sound_opening : (s : Parts) (cpus budget : ℕ) → IsValid s → HaveFewRetries s.rules
    → IsSound (Live s.unit) (opening s cpus budget)
sound_opening s cpus budget valid few = record {
  turn = no_turn (opening s cpus budget) tt;
  live =
      λ on. record
      { threads = all_seen s.unit s.threads (λ n t there. (valid.threads.each n t there).valid); rules = few };
}

-- What is left at a stage

module _ (u : CodeUnit) (now : Parts) (cpus budget used ticks : ℕ) (left_is : ticks ≡ budget - used) where
  same_ticks : budget - used ≡ ticks - 0
  same_ticks = omega (arith, left_is)

  abbrev whole_left : ℕ → ℕ
  whole_left n = n * 67108865 + threads_left (code_left u) (map thread_seen now.threads) + tasks_left now.tasks

  left_whole : (g : Stage)
      → left (code_left u) (seen now cpus budget used (mode_seen g)) ≡ stage_left u now cpus ticks g
  left_whole stage.Point = ap (λ n. 2 * whole_left n + 5) same_ticks
  left_whole (stage.Turn k) = ap (λ n. 2 * whole_left n + 4) same_ticks
  left_whole (stage.Stopping c) = refl
  left_whole stage.Saving = refl
  left_whole stage.Faulted = refl
  left_whole stage.Told = refl
  left_whole (stage.Done status) = refl

  left_over : (g : Stage) (d : State) → IsOver g → d.mode ≡ mode_seen g
      → left (code_left u) d ≡ stage_left u now cpus ticks g
  left_over stage.Faulted d o e = ap (λ m. left_in (code_left u) m d) e
  left_over stage.Told d o e = ap (λ m. left_in (code_left u) m d) e
  left_over (stage.Done status) d o e = ap (λ m. left_in (code_left u) m d) e
  left_over stage.Point d o e = absurd o
  left_over (stage.Turn k) d o e = absurd o
  left_over (stage.Stopping c) d o e = absurd o
  left_over stage.Saving d o e = absurd o

  left_at : (g : Stage) (d : State) → IsAt now cpus budget used g d
      → left (code_left u) d ≡ stage_left u now cpus ticks g
  left_at g _ (IsAt.whole _) = left_whole g
  left_at _ _ (IsAt.bare c ts bare) = refl
  left_at g d (IsAt.over _ _ o e) = left_over g d o e

no_stamps : (g : Stage) → HasNoStamps (mode_seen g)
no_stamps stage.Point = tt
no_stamps (stage.Turn k) = tt
no_stamps (stage.Stopping c) = tt
no_stamps stage.Saving = tt
no_stamps stage.Faulted = tt
no_stamps stage.Told = tt
no_stamps (stage.Done status) = tt

-- a step from where the run has come
pub step_less : (s : Parts) (cpus budget : ℕ) (before : Log) → IsValid s → HaveFewRetries s.rules
    → (now s' : Parts) (ticks ticks' : ℕ) (g g' : Stage) (log after : Log)
    (h : HasCome s cpus budget before now ticks g log)
    → StepsWithin now cpus budget h.d log after s' ticks' (Ok g')
    → stage_left s.unit s' cpus ticks' g' < stage_left s.unit now cpus ticks g
step_less s cpus budget before valid few now s' ticks ticks' g g' log after h x =
    let plain = λ (d : State) (y : Step State End) (m : whole.Moves s.unit d y). m.0 in
    let sound =
    leads_sound s.unit s.unit.files (image s.unit) valid.unit (whole.Moves s.unit) plain (opening s cpus budget)
    (sound_opening s cpus budget valid few) before log h.d h.leads in
    let leads : LeadsOn (whole.Moves s.unit) h.d log x.reaches.d' after =
    subst (λ (u : CodeUnit). LeadsOn (whole.Moves u) h.d log x.reaches.d' after) h.unit x.reaches.leads in
    let none : HasNoStamps x.reaches.d'.mode =
    subst HasNoStamps (sym (mode_of s' cpus budget x.used g' x.reaches.d' x.reaches.is)) (no_stamps g') in
    let less =
    leads_on_less s.unit s.unit.files (image s.unit) valid.unit (whole.Moves s.unit) plain h.d sound log after
    x.reaches.d' leads none in
    let a = left_at s.unit now cpus budget h.used ticks h.left_is g h.d h.is in
    let b = left_at s.unit s' cpus budget x.used ticks' x.left_is g' x.reaches.d' x.reaches.is in
    subst (λ n. n < stage_left s.unit now cpus ticks g) b (subst (λ n. left (code_left s.unit) x.reaches.d' < n) a less)
