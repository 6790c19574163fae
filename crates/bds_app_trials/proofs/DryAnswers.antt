-- When a dry run is answered by a fault of the device.
use Rattle.std.proofs.Common.{◌≡◌, ◌∙◌, ◌<◌, ℕ, ◌+◌, [], ◌∷◌, inl, inr, arith, refl, ap, sym}
use Rattle.bds_host.specs.declared.asks.Ask.TheVariants as ask
use Rattle.bds_host.specs.declared.asks.Reply.TheVariants as reply
use Rattle.bds_host.specs.declared.faults.Fault.TheVariants as fault
use Rattle.bds_host.specs.Host.{Log, faults}
use Rattle.bds_host.specs.Message.{message_of}
use Rattle.bds_host.proofs.Growing.{faults-append}
use Rattle.bds_engine_parts.specs.Run.{FaultIsTold}
use Rattle.bds_engine_parts.proofs.Told.{IsClean}
use Rattle.bds_meaning.specs.Begin.{JobEnd, ran, refused, Reading, AtEnd}
use Rattle.bds_schedule.specs.Stages.{Done, Spent, DeviceFault}
use Rattle.bds_schedule.specs.Steps.{Leads}
use Rattle.bds_app_run.specs.Commands.{RunsScript, outcome_of}
use Rattle.bds_app_run.specs.Job.{JobSteps}
use Rattle.bds_app_run.specs.declared.call.Call.{Call}
use Rattle.bds_app_run.specs.declared.outcome.Outcome.{Outcome}
use Rattle.bds_app_run.specs.declared.outcome.Outcome.TheVariants.{Device, NoMemory}
use Rattle.bds_app_trials.specs.DryRuns.{DriesScript, IsDeviceAnswer, IsToldInside}
use Rattle.bds_app_trials.proofs.DryFaults.{dry_faults}
use Rattle.bds_app_trials.proofs.JobPairs.{job_pairs}
use Rattle.bds_app_run.proofs.Trails.{JobTrail, nothing_yet, trail}

pub clean_none : (own : Log) → IsClean [] own → faults own ≡ 0
clean_none own h = ap faults h.grown ∙ h.clean

-- a fault that was told is in the log
pub told_some : (own : Log) → FaultIsTold [] own → 0 < faults own
told_some own h =
    let last : Log = (ask.Err (message_of fault.Device), h.reply) ∷ [] in
    above (faults own) (faults h.pairs) (faults ((h.ask, reply.Fault) ∷ [])) (faults last)
    (ap faults h.grown ∙ faults-append h.pairs ((h.ask, reply.Fault) ∷ last)
    ∙ ap (λ n. faults h.pairs + n) (faults-append ((h.ask, reply.Fault) ∷ []) last)) refl
  where
    above : (n m one rest : ℕ) → n ≡ m + (one + rest) → one ≡ 1 → 0 < n
    above n m one rest is single = omega (arith, is, single)

pub device_told : (before after : Log) (answer : Outcome) (n : ℕ) → faults after ≡ faults before + n → 0 < n
    → answer ≡ Device
    → IsDeviceAnswer before after answer
device_told before after answer n grown rose is =
    record { told = λ same. omega (arith, grown, rose); only = λ more. inl is }

pub none_told : (before after : Log) (answer : Outcome) (n : ℕ) → faults after ≡ faults before + n → n ≡ 0
    → (answer ≡ Device → ⊥)
    → IsDeviceAnswer before after answer
none_told before after answer n grown none other =
    record {
      told = λ same. absurd (other same);
      only = λ more. absurd (still (faults before) (faults after) n grown none more);
    }
  where
    still : (a b n : ℕ) → b ≡ a + n → n ≡ 0 → a < b → ⊥
    still a b n grown none more = omega (arith, grown, none, more)

pub memory_wanted : (before after : Log) (answer : Outcome) → answer ≡ NoMemory → IsDeviceAnswer before after answer
memory_wanted before after answer is =
    record { told = λ same. absurd (let no = sym is ∙ same in cc no); only = λ more. inr is }

module _ (c : Call) (before after own : Log) (dry : IsToldInside before after own) where
  at_end : (e : JobEnd) → Leads (JobSteps c) (Reading []) [] (AtEnd e) own → JobTrail (AtEnd e) [] own
      → IsDeviceAnswer before after (outcome_of e)
  at_end (ran (Done status)) l t =
      none_told before after _ (faults own) (dry_faults before after own dry (job_pairs c _ [] _ own l))
      (clean_none own t) (λ q. cc q)
  at_end (ran Spent) l t =
      none_told before after _ (faults own) (dry_faults before after own dry (job_pairs c _ [] _ own l))
      (clean_none own t) (λ q. cc q)
  at_end (ran DeviceFault) l t =
      device_told before after _ (faults own) (dry_faults before after own dry (job_pairs c _ [] _ own l))
      (told_some own t) refl
  at_end refused l t =
      none_told before after _ (faults own) (dry_faults before after own dry (job_pairs c _ [] _ own l))
      (clean_none own t) (λ q. cc q)

  run_answered : (answer : Outcome) → RunsScript c [] own answer → IsDeviceAnswer before after answer
  run_answered _ (RunsScript.came e l) = at_end e l (trail c (Reading []) [] [] (AtEnd e) own (nothing_yet []) l)
  run_answered _ (RunsScript.no_memory h) = memory_wanted before after _ refl

pub dry_answered : (c : Call) (before after : Log) (answer : Outcome) → DriesScript c before after answer
    → IsDeviceAnswer before after answer
dry_answered c before after answer h = run_answered c before after h.own h.dry answer h.runs
