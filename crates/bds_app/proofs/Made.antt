-- What becomes of a script that is made is determined by the log.
use Rattle.std.proofs.Common.{◌≡◌, ◌++◌, ◌∙◌, ◌⊎◌, ◌<◌, ◌+◌, inl, inr, ℕ, List, [], ◌∷◌, refl, sym, ap, subst, arith, length, length-append}
use Rattle.bds_host.specs.declared.asks.Ask.{Ask}
use Rattle.bds_host.specs.declared.asks.Ask.TheVariants.{Out, Err as Tells}
use Rattle.bds_host.specs.declared.asks.Reply.TheVariants as reply
use Rattle.bds_host.specs.Host.{Log, faults}
use Rattle.bds_engine_parts.specs.Run.{FaultIsTold}
use Rattle.bds_tools.specs.Summary.{summary_text}
use Rattle.bds_app_run.specs.declared.outcome.Outcome.{Outcome}
use Rattle.bds_app_run.specs.declared.outcome.Outcome.TheVariants.{Ended, Refused, Device, NoMemory, Ticks}
use Rattle.bds_app.specs.Answers.{MakesRun, RunsMade}
use Rattle.bds_app_run.proofs.Telling.{Comes, Same, comes_settled, done_clean, has_risen, other_last, prints_comes}
use Rattle.bds_app_run.proofs.Telling.{says_comes, settled_clean}
use Rattle.bds_app_run.proofs.Trails.{nothing_yet}

module _ (n : ℕ) (before after : Log) where
  -- the answer, with what the call asked
  pub data Shown : Outcome → Type 0 where
    out : (text : List ℕ) → after ≡ before ++ (Out text, reply.Done) ∷ [] → Shown (Ended 0)
    tells : (text : List ℕ) → after ≡ before ++ (Tells text, reply.Done) ∷ [] → Shown Refused
    none : after ≡ before → Shown Ticks
    fault : FaultIsTold before after → Shown Device
    no_memory : Shown NoMemory

  shown_out : (text : List ℕ) (o : Outcome) → Comes (Out text) (Ended 0) before before after o → Shown o
  shown_out text o (inl e) = subst Shown (sym e) Shown.no_memory
  shown_out text o (inr (inl h)) = subst Shown (sym h.0) (Shown.out text h.1)
  shown_out text o (inr (inr h)) = subst Shown (sym h.0) (Shown.fault h.1)

  shown_tells : (text : List ℕ) (o : Outcome) → Comes (Tells text) Refused before before after o → Shown o
  shown_tells text o (inl e) = subst Shown (sym e) Shown.no_memory
  shown_tells text o (inr (inl h)) = subst Shown (sym h.0) (Shown.tells text h.1)
  shown_tells text o (inr (inr h)) = subst Shown (sym h.0) (Shown.fault h.1)

  pub shown : (o : Outcome) → MakesRun n before after o → Shown o
  shown o (MakesRun.done inner status _ runs p) = shown_out (summary_text inner status) o (prints_comes before before (nothing_yet before) (summary_text inner status) after o p)
  shown o (MakesRun.refused log text _ runs p) = shown_tells text o (says_comes before before (nothing_yet before) text Refused after o p)
  shown _ (MakesRun.spent inner runs e) = Shown.none e
  shown _ (MakesRun.no_memory e) = Shown.no_memory

  longer : (a : Ask) → after ≡ before → after ≡ before ++ (a, reply.Done) ∷ [] → ⊥
  longer a e g =
      let m : length after ≡ length before = ap (λ l. length l) e in
      let k : length after ≡ length before + 1 = ap (λ l. length l) g ∙ length-append before ((a, reply.Done) ∷ []) in
      omega (arith, m, k)

  clean : (a : Ask) → after ≡ before ++ (a, reply.Done) ∷ [] → faults after ≡ faults before
  clean a e = done_clean before after a e

  both : (o other : Outcome) → Shown o → Shown other → Same o other
  both _ _ (Shown.out text e) (Shown.out text' e') = inl refl
  both _ _ (Shown.out text e) (Shown.tells text' e') = absurd (other_last after before before text text' e e')
  both _ _ (Shown.out text e) (Shown.none e') = absurd (longer (Out text) e' e)
  both _ _ (Shown.out text e) (Shown.fault f) = absurd (has_risen before after f (clean (Out text) e))
  both _ _ (Shown.tells text e) (Shown.out text' e') = absurd (other_last after before before text' text e' e)
  both _ _ (Shown.tells text e) (Shown.tells text' e') = inl refl
  both _ _ (Shown.tells text e) (Shown.none e') = absurd (longer (Tells text) e' e)
  both _ _ (Shown.tells text e) (Shown.fault f) = absurd (has_risen before after f (clean (Tells text) e))
  both _ _ (Shown.none e) (Shown.out text' e') = absurd (longer (Out text') e e')
  both _ _ (Shown.none e) (Shown.tells text' e') = absurd (longer (Tells text') e e')
  both _ _ (Shown.none e) (Shown.none e') = inl refl
  both _ _ (Shown.none e) (Shown.fault f) = absurd (has_risen before after f (ap faults e))
  both _ _ (Shown.fault f) (Shown.out text e) = absurd (has_risen before after f (clean (Out text) e))
  both _ _ (Shown.fault f) (Shown.tells text e) = absurd (has_risen before after f (clean (Tells text) e))
  both _ _ (Shown.fault f) (Shown.none e) = absurd (has_risen before after f (ap faults e))
  both _ _ (Shown.fault f) (Shown.fault g) = inl refl
  both _ _ Shown.no_memory b = inr (inl refl)
  both _ _ a Shown.no_memory = inr (inr refl)

  pub made_same : (o other : Outcome) → MakesRun n before after o → MakesRun n before after other → Same o other
  made_same o other a b = both o other (shown o a) (shown other b)

  pub made_faults : (o : Outcome) → MakesRun n before after o → faults before < faults after → (o ≡ Device) ⊎ (o ≡ NoMemory)
  made_faults o h rose = by (shown o h)
    where
      by : {x : Outcome} → Shown x → (x ≡ Device) ⊎ (x ≡ NoMemory)
      by (Shown.out text e) = let same = clean (Out text) e in absurd (omega (arith, same, rose))
      by (Shown.tells text e) = let same = clean (Tells text) e in absurd (omega (arith, same, rose))
      by (Shown.none e) = let same : faults after ≡ faults before = ap faults e in absurd (omega (arith, same, rose))
      by (Shown.fault f) = inl refl
      by Shown.no_memory = inr refl

  pub made_completes : faults after ≡ faults before → ((inner : Log) → RunsMade n inner Refused → ⊥) → ((inner : Log) → RunsMade n inner Ticks → ⊥) → (o : Outcome) → MakesRun n before after o → (o ≡ NoMemory) ⊎ (o ≡ Ended 0)
  made_completes same fine enough o (MakesRun.done inner status _ runs p) =
      settled_clean (Ended 0) before after o (comes_settled (Out (summary_text inner status)) (Ended 0) before before after o (nothing_yet before) (prints_comes before before (nothing_yet before) (summary_text inner status) after o p)) same
  made_completes same fine enough o (MakesRun.refused log text _ runs p) = absurd (fine (log ++ (Tells text, reply.Done) ∷ []) runs)
  made_completes same fine enough _ (MakesRun.spent inner runs e) = absurd (enough inner runs)
  made_completes same fine enough _ (MakesRun.no_memory e) = inl refl
