-- A thread whose wait is over.
use Rattle.std.proofs.Common.{◌≡◌, ◌≢◌, ℕ, List, [], ◌∷◌, length, Some, slice_get, refl, sym, ap, ◌∙◌, subst}
use Rattle.bds_value.specs.declared.ids.Status.TheVariants as status
use Rattle.bds_code_frames.specs.declared.frame.Frame.{Frame}
use Rattle.bds_code_frames.specs.declared.thread.Thread.{Thread}
use Rattle.bds_state.specs.Keeping.{at_end, going_on, with_thread}
use Rattle.bds_state.specs.Parts.{Parts}
use Rattle.bds_state.specs.Valid.{IsValid}
use Rattle.bds_state.proofs.Kept.{stays_valid}
use Rattle.bds_engine_stages.specs.declared.stage.Stage.{Stage}
use Rattle.bds_engine_stages.specs.declared.stage.Stage.TheVariants as stage
use Rattle.bds_engine_stages.specs.Held.{IsWaiting, IsWoken, stage_woken, woken}

some_frames : (fs : List Frame) → length fs ≢ 0 → fs ≢ []
some_frames fs some e = some (ap length e)

no_frames : (fs : List Frame) → length fs ≡ 0 → fs ≡ []
no_frames [] e = refl
no_frames (f ∷ fs) e = absurd (cc e)

waits_there : (s : Parts) (k : ℕ) (t : Thread) → IsWaiting s k → slice_get s.threads k ≡ Some t → t.status ≢ status.Ended
waits_there s k t h there = subst (λ (x : Thread). x.status ≢ status.Ended) (let q : h.thread ≡ t = cc (h.there, there) in q) h.live

module _ (s : Parts) (k : ℕ) (t : Thread) (there : slice_get s.threads k ≡ Some t) (count : ℕ) (counts : count ≡ length t.frames) where
  pub goes_on_valid : IsValid s → (now : Parts) → s ≡ now → IsWaiting now k → count ≢ 0 → IsValid (with_thread k (going_on t) s)
  goes_on_valid valid now same waiting some =
      ((stays_valid s valid).changed k t there).goes_on (waits_there s k t (subst (λ (p : Parts). IsWaiting p k) (sym same) waiting) there)
      (some_frames t.frames (subst (λ n. n ≢ 0) counts some))

  pub ends_valid : IsValid s → IsValid (with_thread k (at_end t) s)
  ends_valid valid = ((stays_valid s valid).changed k t there).ends

  pub wakes_at_end : (new : Parts) (g : Stage) → count ≡ 0 → new ≡ with_thread k (at_end t) s → g ≡ stage.Point → IsWoken k s new g
  wakes_at_end new g none e is =
      let no : t.frames ≡ [] = no_frames t.frames (sym counts ∙ none) in
      record { thread = t; there = there; parts = e ∙ ap (λ fs. with_thread k (woken fs t) s) (sym no); stage_is = is ∙ ap (stage_woken k) (sym no) }

  wakes_by : (new : Parts) (g : Stage) (fs : List Frame) → fs ≢ [] → new ≡ with_thread k (going_on t) s → g ≡ stage.Turn k → (new ≡ with_thread k (woken fs t) s) × (g ≡ stage_woken k fs)
  wakes_by new g [] some e is = absurd (some refl)
  wakes_by new g (f ∷ fs) some e is = (e, is)

  pub wakes_going_on : (new : Parts) (g : Stage) → count ≢ 0 → new ≡ with_thread k (going_on t) s → g ≡ stage.Turn k → IsWoken k s new g
  wakes_going_on new g some e is =
      let h = wakes_by new g t.frames (some_frames t.frames (subst (λ n. n ≢ 0) counts some)) e is in
      record { thread = t; there = there; parts = h.0; stage_is = h.1 }
