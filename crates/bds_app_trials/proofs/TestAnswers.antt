-- When a run of tests is answered by a fault of the device.
use Rattle.std.proofs.Common.{◌≡◌, ◌∙◌, ◌<◌, ℕ, ◌+◌, Bool, List, [], ◌∷◌, ◌++◌, Ok, Err, arith, refl, ap, sym, subst}
use Rattle.bds_host.specs.declared.asks.Ask.{Ask}
use Rattle.bds_host.specs.declared.asks.Reply.{Reply}
use Rattle.bds_host.specs.Host.{Log, faults}
use Rattle.bds_host.proofs.Growing.{faults-append}
use Rattle.bds_check.specs.declared.checking.TypedScript.{TypedScript}
use Rattle.bds_front.specs.declared.front_fault.FrontFault.TheVariants as front
use Rattle.bds_meaning.specs.Begin.{AtEnd, opens, ran}
use Rattle.bds_schedule.specs.Stages.{End, Done, Spent, DeviceFault}
use Rattle.bds_app_run.specs.Job.{accepted_with, job_of}
use Rattle.bds_app_run.specs.Telling.{Prints, Says, TellsDevice}
use Rattle.bds_app_run.specs.declared.call.Call.{Call}
use Rattle.bds_app_run.specs.declared.outcome.Outcome.{Outcome}
use Rattle.bds_app_run.specs.declared.outcome.Outcome.TheVariants.{Ended, Refused, Device}
use Rattle.bds_app_trials.specs.DryRuns.{IsDeviceAnswer}
use Rattle.bds_app_trials.specs.Testing.{HasTold, HaveRun, RunsTest, StopsTest, TellsCounts, TestsLoaded, TestsScript}
use Rattle.bds_app_trials.proofs.DryAnswers.{clean_none, device_told, memory_wanted, none_told, told_some}
use Rattle.bds_app_trials.proofs.DryFaults.{dry_faults}
use Rattle.bds_app_trials.proofs.JobPairs.{job_pairs}
use Rattle.bds_app_trials.proofs.LoadsPassed.{loads_calm, loads_risen, told_other}
use Rattle.bds_app_run.proofs.Trails.{JobTrail, nothing_yet, opened, trail}

no_more : (n : ℕ) → n ≡ n + 0
no_more n = omega arith

-- what went before held no fault
answered_on : (before log after : Log) (o : Outcome) → faults log ≡ faults before → IsDeviceAnswer log after o
    → IsDeviceAnswer before after o
answered_on before log after o calm h = record {
  told = λ is. subst (λ n. n < faults after) calm (h.told is);
  only = λ rose. h.only (subst (λ n. n < faults after) (sym calm) rose);
}

grown_faults : (before after : Log) (p : Ask × Reply) → after ≡ before ++ p ∷ []
    → faults after ≡ faults before + faults (p ∷ [])
grown_faults before after p grown = ap faults grown ∙ faults-append before (p ∷ [])

-- behind a fault it is told
device_answered : (before log after : Log) (o : Outcome) → faults log ≡ faults before + 1 → TellsDevice log after o
    → IsDeviceAnswer before after o
device_answered before log after _ risen (TellsDevice.told_so r a) =
    device_told before after Device _ (grown_faults log after _ a.grown
    ∙ more (faults log) (faults before) _ risen) (above _) refl
  where
    more : (x y z : ℕ) → x ≡ y + 1 → x + z ≡ y + (1 + z)
    more x y z e = omega (arith, e)

    above : (n : ℕ) → 0 < 1 + n
    above n = omega arith
device_answered before log after _ risen (TellsDevice.untold room) = memory_wanted before after _ refl

told_end : (before after : Log) (o : Outcome) → TellsDevice before after o → o ≡ Ended 0 → ⊥
told_end before after _ (TellsDevice.told_so r a) is = cc is
told_end before after _ (TellsDevice.untold room) is = cc is

module _ (text : List ℕ) (before after : Log) where
  says_answered : (o : Outcome) → Says text Refused before after o → IsDeviceAnswer before after o
  says_answered _ (Says.said a) =
      none_told before after Refused 0 (grown_faults before after _ a.grown) refl (λ q. cc q)
  says_answered _ (Says.faulted log o a t) = device_answered before log after o (grown_faults before log _ a.grown) t
  says_answered _ (Says.no_memory room) = memory_wanted before after _ refl

  prints_answered : (o : Outcome) → Prints text before after o → IsDeviceAnswer before after o
  prints_answered _ (Prints.printed a) =
      none_told before after (Ended 0) 0 (grown_faults before after _ a.grown) refl (λ q. cc q)
  prints_answered _ (Prints.faulted log o a t) =
      device_answered before log after o (grown_faults before log _ a.grown) t
  prints_answered _ (Prints.no_memory room) = memory_wanted before after _ refl

  -- what was printed was no fault
  prints_calm : (o : Outcome) → o ≡ Ended 0 → Prints text before after o → faults after ≡ faults before
  prints_calm _ is (Prints.printed a) = grown_faults before after _ a.grown ∙ sym (no_more (faults before))
  prints_calm _ is (Prints.faulted log o a t) = absurd (told_end log after o t is)
  prints_calm _ is (Prints.no_memory room) = absurd (cc is)

module _ (c : Call) where
  pub ran_trail : (test : TypedScript) (before after : Log) (e : End) (h : RunsTest c test before after e)
      → JobTrail (AtEnd (ran e)) [] h.own
  ran_trail test before after e h =
      trail c (opens (job_of c) (accepted_with test)) [] [] (AtEnd (ran e)) h.own
      (opened (job_of c) (Ok (accepted_with test)) [] [] (nothing_yet [])) h.runs

  ran_faults : (test : TypedScript) (before after : Log) (e : End) (h : RunsTest c test before after e)
      → faults after ≡ faults before + faults h.own
  ran_faults test before after e h = dry_faults before after h.own h.dry (job_pairs c _ [] _ h.own h.runs)

  pub done_calm : (test : TypedScript) (before after : Log) (status : ℕ) → RunsTest c test before after (Done status)
      → faults after ≡ faults before
  done_calm test before after status h =
      ran_faults test before after (Done status) h
      ∙ ap (λ n. faults before + n) (clean_none h.own (ran_trail test before after (Done status) h))
      ∙ sym (no_more (faults before))

  module _ (t : TypedScript) where
    has_calm : (n : ℕ) (before after : Log) (passed : Bool) → HasTold c t n before after passed
        → faults after ≡ faults before
    has_calm n before after passed h =
        prints_calm _ h.between after _ refl h.said ∙ done_calm h.run.test before h.between h.run.status h.run.run

    pub have_calm : (before : Log) (n failed : ℕ) (after : Log) → HaveRun c t before n failed after
        → faults after ≡ faults before
    have_calm before _ _ _ HaveRun.none = refl
    have_calm before _ _ after (HaveRun.one_more n failed passed log _ there h) =
        has_calm n log after passed h ∙ have_calm before n failed log there

    stops_answered : (n : ℕ) (before after : Log) (o : Outcome) → StopsTest c t n before after o
        → IsDeviceAnswer before after o
    stops_answered n before after _ (StopsTest.spent test is run) =
        none_told before after _ (faults run.own) (ran_faults test before after Spent run)
        (clean_none run.own (ran_trail test before after Spent run)) (λ q. cc q)
    stops_answered n before after _ (StopsTest.faulted test is run) =
        device_told before after _ (faults run.own) (ran_faults test before after DeviceFault run)
        (told_some run.own (ran_trail test before after DeviceFault run)) refl
    stops_answered n before after _ (StopsTest.halted test is h) = memory_wanted before after _ refl
    stops_answered n before after _ (StopsTest.untold passed between o run told other) =
        answered_on before between after o (done_calm run.test before between run.status run.run)
        (prints_answered _ between after o told)
    stops_answered n before after _ (StopsTest.unmade same) = memory_wanted before after _ refl

    counts_answered : (passed failed : ℕ) (before after : Log) (o : Outcome)
        → TellsCounts passed failed before after o → IsDeviceAnswer before after o
    counts_answered passed failed before after _ (TellsCounts.counted told) =
        none_told before after _ 0 (prints_calm _ before after _ refl told ∙ no_more (faults before)) refl (λ q. cc q)
    counts_answered passed failed before after _ (TellsCounts.untold o told other) =
        prints_answered _ before after o told

    loaded_answered : (before after : Log) (o : Outcome) → TestsLoaded c t before after o
        → IsDeviceAnswer before after o
    loaded_answered before after _ (TestsLoaded.too_big o big told) = says_answered _ before after o told
    loaded_answered before after _ (TestsLoaded.tested failed log o fits there told) =
        answered_on before log after o (have_calm before _ failed log there) (counts_answered _ failed log after o told)
    loaded_answered before after _ (TestsLoaded.stopped n failed log o fits there last) =
        answered_on before log after o (have_calm before n failed log there) (stops_answered n log after o last)
    loaded_answered before after _ (TestsLoaded.no_memory same) = memory_wanted before after _ refl

  pub tests_answered : (before after : Log) (o : Outcome) → TestsScript c before after o → IsDeviceAnswer before after o
  tests_answered before after _ (TestsScript.loaded t log o loads rest) =
      answered_on before log after o (loads_calm c.path before log (Ok t) loads (λ e. cc e) (λ e. cc e))
      (loaded_answered t log after o rest)
  tests_answered before after _ (TestsScript.refused_for f g log o loads is spoken) =
      answered_on before log after o
      (loads_calm c.path before log (Err f) loads (λ e. told_other f g is front.Device refl (cc e))
      (λ e. told_other f g is front.NoMemory refl (cc e)))
      (says_answered _ log after o spoken)
  tests_answered before after _ (TestsScript.unread log o loads said) =
      device_answered before log after o (loads_risen c.path before log _ refl loads) said
  tests_answered before after _ (TestsScript.unloaded f loads) = memory_wanted before after _ refl
