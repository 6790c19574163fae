-- A run that has opened is never refused, and stops at no fault before its run has told it.
use Rattle.std.proofs.Common.{◌≡◌, [], Result, Ok, Err, subst}
use Rattle.std.specs.Prelude.{⊤}
use Rattle.bds_host.specs.declared.asks.Ask.{Ask}
use Rattle.bds_host.specs.declared.asks.Reply.{Reply}
use Rattle.bds_host.specs.Host.{Log}
use Rattle.bds_meaning.specs.Begin.{Stage, Faulting, Running, AtEnd, ran, refused, opens}
use Rattle.bds_meaning.specs.Begin as begin
use Rattle.bds_schedule.specs.Steps.{Goes, Asks, Leads}
use Rattle.bds_app_run.specs.Job.{JobSteps, accepted_with, job_of}
use Rattle.bds_app_run.specs.Ways.{Reaches, at_end}
use Rattle.bds_app_run.specs.declared.call.Call.{Call}
use Rattle.bds_app_run.specs.declared.ending.Ending.{Ending}
use Rattle.bds_app_run.specs.declared.ending.Ending.TheVariants.{Refused}
use Rattle.bds_app_run.specs.declared.stop.Stop.{Stop}
use Rattle.bds_app_run.specs.declared.stop.Stop.TheVariants.{Fault}
use Rattle.bds_app_trials.specs.Ways.{WasRun}

abbrev IsRunOn : Stage → Type 0
IsRunOn (Running program c) = ⊤
IsRunOn (AtEnd (ran end)) = ⊤
IsRunOn _ = ⊥

module _ (call : Call) where
  goes_on : (s t : Stage) → JobSteps call s (Goes t) → IsRunOn s → IsRunOn t
  goes_on s t (begin.Steps.long_path files next is long) h = absurd h
  goes_on s t (begin.Steps.flawed files p text flaw f has told) h = absurd h
  goes_on s t (begin.Steps.whole files program beyond is paths) h = absurd h
  goes_on s t (begin.Steps.run_goes program c d m) h = tt
  goes_on s t (begin.Steps.run_ends program c e m) h = tt

  asks_on : (s : Stage) (a : Ask) (next : Reply → Stage) (r : Reply) → JobSteps call s (Asks a next) → IsRunOn s
      → IsRunOn (next r)
  asks_on s a next r (begin.Steps.reads files file is short) h = absurd h
  asks_on s a next r (begin.Steps.run_asks program c _ go m) h = tt
  asks_on s a next r (begin.Steps.refuses f) h = absurd h
  asks_on s a next r begin.Steps.faults h = absurd h

  runs_on : (from : Stage) (before : Log) (s : Stage) (after : Log) → IsRunOn from
      → Leads (JobSteps call) from before s after → IsRunOn s
  runs_on from before s after h Leads.here = h
  runs_on from before s after h (Leads.goes u _ _ there step) = goes_on u s step (runs_on from before u after h there)
  runs_on from before s after h (Leads.asks u log _ a next r there step answered) =
      asks_on u a next r step (runs_on from before u log h there)

-- so is the run of a test
pub not_refused : (came : Result Ending Stop) → WasRun came → came ≡ Ok Refused → ⊥
not_refused came (c, (test, (before, (after, h)))) is =
    runs_on c (opens (job_of c) (accepted_with test)) [] (AtEnd refused) h.own tt
    (subst (λ r. Reaches c (opens (job_of c) (accepted_with test)) [] h.own at_end r) is h.reaches)

pub not_faulting : (came : Result Ending Stop) → WasRun came → came ≡ Err Fault → ⊥
not_faulting came (c, (test, (before, (after, h)))) is =
    runs_on c (opens (job_of c) (accepted_with test)) [] Faulting h.own tt
    (subst (λ r. Reaches c (opens (job_of c) (accepted_with test)) [] h.own at_end r) is h.reaches)
