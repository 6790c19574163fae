-- Calls that print a text at their end, or tell one: what the log shows of the answer.
use Rattle.std.proofs.Common.{◌≡◌, ◌++◌, ◌∙◌, ◌⊎◌, ◌<◌, inl, inr, ℕ, List, [], ◌∷◌, refl, sym, subst}
use Rattle.bds_host.specs.declared.asks.Ask.TheVariants.{Out, Err as Tells}
use Rattle.bds_host.specs.declared.asks.Reply.TheVariants as reply
use Rattle.bds_host.specs.Host.{Log, faults}
use Rattle.bds_engine_parts.specs.Run.{FaultIsTold}
use Rattle.bds_engine_parts.proofs.Told.{IsClean}
use Rattle.bds_app_run.specs.declared.outcome.Outcome.{Outcome}
use Rattle.bds_app_run.specs.declared.outcome.Outcome.TheVariants.{Ended, Refused, Device, NoMemory}
use Rattle.bds_app_run.proofs.Telling.{Comes, Same, clean_faults, done_clean, has_risen, not_risen, other_last}

module _ (before after : Log) where
  pub data Shown : Outcome → Type 0 where
    out : (log : Log) (text : List ℕ) → after ≡ log ++ (Out text, reply.Done) ∷ [] → faults after ≡ faults before → Shown (Ended 0)
    tells : (log : Log) (text : List ℕ) → after ≡ log ++ (Tells text, reply.Done) ∷ [] → faults after ≡ faults before → Shown Refused
    fault : FaultIsTold before after → Shown Device
    no_memory : Shown NoMemory

  pub shown_out : (text : List ℕ) (log : Log) (o : Outcome) → IsClean before log → Comes (Out text) (Ended 0) before log after o → Shown o
  shown_out text log o clean (inl lacked) = subst Shown (sym lacked) Shown.no_memory
  shown_out text log o clean (inr (inl h)) = subst Shown (sym h.0) (Shown.out log text h.1 (done_clean log after (Out text) h.1 ∙ clean_faults before log clean))
  shown_out text log o clean (inr (inr h)) = subst Shown (sym h.0) (Shown.fault h.1)

  pub shown_tells : (text : List ℕ) (log : Log) (o : Outcome) → IsClean before log → Comes (Tells text) Refused before log after o → Shown o
  shown_tells text log o clean (inl lacked) = subst Shown (sym lacked) Shown.no_memory
  shown_tells text log o clean (inr (inl h)) = subst Shown (sym h.0) (Shown.tells log text h.1 (done_clean log after (Tells text) h.1 ∙ clean_faults before log clean))
  shown_tells text log o clean (inr (inr h)) = subst Shown (sym h.0) (Shown.fault h.1)

  pub shown_device : (o : Outcome) → (o ≡ NoMemory) ⊎ ((o ≡ Device) × FaultIsTold before after) → Shown o
  shown_device o (inl lacked) = subst Shown (sym lacked) Shown.no_memory
  shown_device o (inr h) = subst Shown (sym h.0) (Shown.fault h.1)

  -- two answers with one log
  pub shown_same : (o other : Outcome) → Shown o → Shown other → Same o other
  shown_same _ _ (Shown.out log text e same) (Shown.out log' text' e' same') = inl refl
  shown_same _ _ (Shown.out log text e same) (Shown.tells log' text' e' same') = absurd (other_last after log log' text text' e e')
  shown_same _ _ (Shown.out log text e same) (Shown.fault f) = absurd (has_risen before after f same)
  shown_same _ _ (Shown.tells log text e same) (Shown.out log' text' e' same') = absurd (other_last after log' log text' text e' e)
  shown_same _ _ (Shown.tells log text e same) (Shown.tells log' text' e' same') = inl refl
  shown_same _ _ (Shown.tells log text e same) (Shown.fault f) = absurd (has_risen before after f same)
  shown_same _ _ (Shown.fault f) (Shown.out log text e same) = absurd (has_risen before after f same)
  shown_same _ _ (Shown.fault f) (Shown.tells log text e same) = absurd (has_risen before after f same)
  shown_same _ _ (Shown.fault f) (Shown.fault g) = inl refl
  shown_same _ _ Shown.no_memory b = inr (inl refl)
  shown_same _ _ a Shown.no_memory = inr (inr refl)

  -- a fault has no other answer than `Device`, but for want of memory
  pub shown_faults : (o : Outcome) → Shown o → faults before < faults after → (o ≡ Device) ⊎ (o ≡ NoMemory)
  shown_faults _ (Shown.out log text e same) rose = absurd (not_risen before after same rose)
  shown_faults _ (Shown.tells log text e same) rose = absurd (not_risen before after same rose)
  shown_faults _ (Shown.fault f) rose = inl refl
  shown_faults _ Shown.no_memory rose = inr refl
