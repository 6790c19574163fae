-- What becomes of a script that is run is determined by the log.
use Rattle.std.proofs.Common.{◌≡◌, ◌∙◌, ◌⊎◌, ◌<◌, inl, inr, ℕ, [], refl, sym, ap, append-nil, arith}
use Rattle.bds_host.specs.Host.{Log, faults}
use Rattle.bds_front.specs.Unique.{HasOneEnd, IsRefusedOrRun}
use Rattle.bds_meaning.specs.Begin.{JobEnd, ran, refused, Reading, AtEnd}
use Rattle.bds_schedule.specs.Stages.{Done, Spent, DeviceFault}
use Rattle.bds_schedule.specs.Steps.{Leads}
use Rattle.bds_app_run.specs.Commands.{RunsScript, outcome_of}
use Rattle.bds_app_run.specs.Job.{JobSteps, job_of, set_by_words, size_with}
use Rattle.bds_app_run.specs.declared.call.Call.{Call}
use Rattle.bds_app_run.specs.declared.outcome.Outcome.{Outcome}
use Rattle.bds_app_run.specs.declared.outcome.Outcome.TheVariants.{Ended, Refused, Device, NoMemory}
use Rattle.bds_app_run.specs.Accepted.{WasAccepted, WasRefused, IsSpent}
use Rattle.bds_app_run.proofs.EndsAsMeant.{Last, last_at}
use Rattle.bds_app_run.proofs.Telling.{Same, clean_faults, has_risen}
use Rattle.bds_app_run.proofs.Trails.{JobTrail, nothing_yet, trail}

module _ (c : Call) (before after : Log) where
  -- what the log holds at its end
  pub trail_of : (e : JobEnd) → Leads (JobSteps c) (Reading []) before (AtEnd e) after → JobTrail (AtEnd e) before after
  trail_of e l = trail c (Reading []) before before (AtEnd e) after (nothing_yet before) l

  pub last_of : (e : JobEnd) → Leads (JobSteps c) (Reading []) before (AtEnd e) after → Last c (Reading []) before after e
  last_of e l = last_at c (Reading []) before (AtEnd e) after e l refl (λ q. cc q)

  complete_at : IsRefusedOrRun → WasAccepted c before after → faults after ≡ faults before → (IsSpent c before after → ⊥) → (e : JobEnd) → Leads (JobSteps c) (Reading []) before (AtEnd e) after → Last c (Reading []) before after e
      → JobTrail (AtEnd e) before after → (outcome_of e ≡ NoMemory) ⊎ ((status : ℕ) × ((outcome_of e ≡ Ended status) × Leads (JobSteps c) (Reading []) before (AtEnd (ran (Done status))) after))
  complete_at law was clean left (ran (Done status)) l last t = inr (status, (refl, l))
  complete_at law was clean left (ran Spent) l (Last.of_run program at _ m move) t = absurd (left (program, (at, (m, move))))
  complete_at law was clean left (ran DeviceFault) l last t = absurd (has_risen before after t clean)
  complete_at law was clean left refused l (Last.of_refusal f log m g) t = absurd (law (job_of c) (set_by_words c) size_with before log was.log _ was.rest f was.program was.opening m was.opens (sym g ∙ was.grown))

  -- a script that was accepted, without a fault and within its ticks, is run to its end
  pub script_completes : IsRefusedOrRun → WasAccepted c before after → faults after ≡ faults before → (IsSpent c before after → ⊥) → (o : Outcome) → RunsScript c before after o
      → (o ≡ NoMemory) ⊎ ((status : ℕ) × ((o ≡ Ended status) × Leads (JobSteps c) (Reading []) before (AtEnd (ran (Done status))) after))
  script_completes law was clean left _ (RunsScript.came e l) = complete_at law was clean left e l (last_of e l) (trail_of e l)
  script_completes law was clean left _ (RunsScript.no_memory h) = inl refl

  refuses_at : IsRefusedOrRun → WasRefused c before after → faults after ≡ faults before → (e : JobEnd) → Last c (Reading []) before after e → JobTrail (AtEnd e) before after → (outcome_of e ≡ NoMemory) ⊎ (outcome_of e ≡ Refused)
  refuses_at law was clean (ran (Done status)) (Last.of_run program at _ m move) t =
      absurd (law (job_of c) (set_by_words c) size_with before was.log after was.rest [] was.fault program at was.refuses m (sym was.grown ∙ sym (append-nil after)))
  refuses_at law was clean (ran Spent) (Last.of_run program at _ m move) t =
      absurd (law (job_of c) (set_by_words c) size_with before was.log after was.rest [] was.fault program at was.refuses m (sym was.grown ∙ sym (append-nil after)))
  refuses_at law was clean (ran DeviceFault) last t = absurd (has_risen before after t clean)
  refuses_at law was clean refused last t = inr refl

  -- a script that was refused, without a fault, is told as that
  pub script_refused : IsRefusedOrRun → WasRefused c before after → faults after ≡ faults before → (o : Outcome) → RunsScript c before after o → (o ≡ NoMemory) ⊎ (o ≡ Refused)
  script_refused law was clean _ (RunsScript.came e l) = refuses_at law was clean e (last_of e l) (trail_of e l)
  script_refused law was clean _ (RunsScript.no_memory h) = inl refl

  -- two answers with one log
  pub script_same : HasOneEnd → (o other : Outcome) → RunsScript c before after o → RunsScript c before after other → Same o other
  script_same law _ _ (RunsScript.came e l) (RunsScript.came e' l') = inl (ap (λ x. outcome_of x) (law (job_of c) (set_by_words c) size_with before after e e' l l'))
  script_same law _ _ (RunsScript.came e l) (RunsScript.no_memory h) = inr (inr refl)
  script_same law _ _ (RunsScript.no_memory h) b = inr (inl refl)

  end_faults : (e : JobEnd) → JobTrail (AtEnd e) before after → faults before < faults after → (outcome_of e ≡ Device) ⊎ (outcome_of e ≡ NoMemory)
  end_faults (ran (Done status)) h rose = let same = clean_faults before after h in absurd (omega (arith, same, rose))
  end_faults (ran Spent) h rose = let same = clean_faults before after h in absurd (omega (arith, same, rose))
  end_faults (ran DeviceFault) h rose = inl refl
  end_faults refused h rose = let same = clean_faults before after h in absurd (omega (arith, same, rose))

  -- a fault has no other answer than `Device`, but for want of memory
  pub script_faults : (o : Outcome) → RunsScript c before after o → faults before < faults after → (o ≡ Device) ⊎ (o ≡ NoMemory)
  script_faults _ (RunsScript.came e l) rose = end_faults e (trail_of e l) rose
  script_faults _ (RunsScript.no_memory h) rose = inr refl
