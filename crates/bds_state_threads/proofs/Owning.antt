-- A thread's own part, by its status.
use Rattle.std.proofs.Common.{◌≡◌, ◌≢◌, ◌<◌, ◌≤◌, ℕ, List, [], ◌∷◌, length, Bool, true, false, refl, sym, ap, ◌∙◌, subst, arith}
use Rattle.std.specs.Bool.{Decides}
use Rattle.bds_value.specs.declared.TheConstants.{MAX_CALLS}
use Rattle.bds_value.specs.declared.ids.Id.{Id}
use Rattle.bds_value.specs.declared.ids.Status.{Status}
use Rattle.bds_value.specs.declared.ids.Status.TheVariants.{Ready, Waiting, Ended}
use Rattle.bds_code.specs.declared.unit.Unit.{Unit as CodeUnit}
use Rattle.bds_code_frames.specs.declared.frame.Frame.{Frame}
use Rattle.bds_code_frames.specs.declared.thread.Thread.{Thread}
use Rattle.bds_verify.specs.Threads.{Typed}
use Rattle.bds_state_threads.specs.Judged.{HasOwn, IsOwn}

some_frames : (fs : List Frame) → 0 < length fs → fs ≢ []
some_frames [] l e = absurd (omega arith)
some_frames (f ∷ fs) l e = absurd (cc)

no_length : {X : Type 0} (xs : List X) → length xs ≡ 0 → xs ≡ []
no_length [] e = refl
no_length (x ∷ xs) e = absurd (omega arith)

module _ (u : CodeUnit) (t : Thread) where
  by_status : (s : Status) (b : Bool) → t.status ≡ s → Decides b (HasOwn u s t.globals t.frames) → Decides b (IsOwn u t)
  by_status s b e d = subst (λ s. Decides b (HasOwn u s t.globals t.frames)) (sym e) d

  pub ready-own : (b : Bool) → t.status ≡ Ready → 0 < length t.frames → length t.frames ≤ MAX_CALLS → Decides b (Typed t.globals u.globals) → Decides b (IsOwn u t)
  ready-own b e some few d = by_status Ready b e (λ sure. (d.0 sure, some_frames t.frames some, few), λ h. d.1 h.0)

  pub ready-none : t.status ≡ Ready → length t.frames ≡ 0 → Decides false (IsOwn u t)
  ready-none e none = by_status Ready false e (λ never. absurd (cc), λ h. absurd (h.1 (no_length t.frames none)))

  pub ready-many : t.status ≡ Ready → MAX_CALLS < length t.frames → Decides false (IsOwn u t)
  ready-many e many = by_status Ready false e (λ never. absurd (cc), λ h. absurd (let few = h.2 in omega (arith, few)))

  module _ (ids : List Id) (e : t.status ≡ Waiting ids) where
    pub waiting-own : (b : Bool) → length t.frames ≤ MAX_CALLS → Decides b (Typed t.globals u.globals) → Decides b (IsOwn u t)
    waiting-own b few d = by_status (Waiting ids) b e (λ sure. (d.0 sure, few), λ h. d.1 h.0)

    pub waiting-many : MAX_CALLS < length t.frames → Decides false (IsOwn u t)
    waiting-many many = by_status (Waiting ids) false e (λ never. absurd (cc), λ h. absurd (let few = h.1 in omega (arith, few)))

  pub ended-own : t.status ≡ Ended → length t.globals ≡ 0 → length t.frames ≡ 0 → Decides true (IsOwn u t)
  ended-own e g f = by_status Ended true e (λ sure. (no_length t.globals g, no_length t.frames f), λ h. refl)

  pub ended-globals : t.status ≡ Ended → (length t.globals ≡ 0 → ⊥) → Decides false (IsOwn u t)
  ended-globals e never = by_status Ended false e (λ x. absurd (cc), λ h. absurd (never (ap length h.0)))

  pub ended-frames : t.status ≡ Ended → (length t.frames ≡ 0 → ⊥) → Decides false (IsOwn u t)
  ended-frames e never = by_status Ended false e (λ x. absurd (cc), λ h. absurd (never (ap length h.1)))
