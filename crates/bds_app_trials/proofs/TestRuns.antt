-- What the run of a test comes to.
use Rattle.std.proofs.Common.{◌≡◌, ◌∙◌, ℕ, Bool, true, false, not, List, [], Some, None, Result, Ok, Err, if◌then◌else◌}
use Rattle.std.proofs.Common.{refl, ap, ap₂, sym, subst}
use Rattle.std.specs.Prelude.{nat_le}
use Rattle.bds_value.specs.declared.TheConstants.{MAX_CODE}
use Rattle.bds_host.specs.declared.faults.Fault.TheVariants as fault
use Rattle.bds_host.specs.Host.{Log}
use Rattle.bds_tree.specs.StmtView.{script_of}
use Rattle.bds_check.specs.declared.checking.TypedScript.{TypedScript}
use Rattle.bds_check_size.specs.ScriptSize.{program_size}
use Rattle.bds_check_tests.specs.Tests.{IsTestOf}
use Rattle.bds_check_typing.specs.declared.given.Given.{Given}
use Rattle.bds_check_typing.specs.GivenValues.{set_by}
use Rattle.bds_dry.specs.Dry.{Drying, IsDry}
use Rattle.bds_meaning.specs.Begin.{Stage, opens, opens_if}
use Rattle.bds_meaning.specs.Refusals.{unless}
use Rattle.bds_schedule.specs.Stages as stage
use Rattle.bds_app_run.specs.Commands.{RunsScript}
use Rattle.bds_app_run.specs.Job.{accepted_with, if_fits, job_of, preset_of}
use Rattle.bds_app_run.specs.Ways.{Reaches, at_end}
use Rattle.bds_app_run.specs.declared.call.Call.{Call}
use Rattle.bds_app_run.specs.declared.ending.Ending.{Ending}
use Rattle.bds_app_run.specs.declared.ending.Ending.TheVariants.{Done, Spent, DeviceFault}
use Rattle.bds_app_run.specs.declared.outcome.Outcome.{Outcome}
use Rattle.bds_app_run.specs.declared.stop.Stop.{Stop}
use Rattle.bds_app_run.specs.declared.stop.Stop.TheVariants.{NoMemory}
use Rattle.bds_app_trials.specs.DryRuns.{DriesScript}
use Rattle.bds_app_trials.specs.Testing.{HasRun, HaltsTest, RunsTest, is_too_big, passes}
use Rattle.bds_app_trials.specs.Ways.{RunsSoFar}

-- what was run over a host over which nothing is done, seen from inside
pub dry_run : (c : Call) (start inner : Log) (r : Drying) (answer : Outcome) → inner ≡ r.inner → IsDry start r
    → RunsScript c [] r.log answer → DriesScript c start inner answer
dry_run c start inner r answer is dry runs =
    record { own = r.log; runs = runs; dry = subst (λ i. IsDry start (record { inner = i; log = r.log })) (sym is) dry }

yes_then : (b : Bool) → not b ≡ false → b ≡ true
yes_then true h = refl
yes_then false h = absurd (cc h)

-- a program whose unit isn't too large opens
pub opens_so : (c : Call) (t : TypedScript) → is_too_big (script_of t.script) ≡ false
    → (t.settings ≡ []) × (t.args ≡ [])
    → opens_if (job_of c) (if_fits c (script_of t.script) (preset_of t)) ≡ opens (job_of c) (accepted_with t)
opens_so c t fits unset =
    let opened : ℕ
    → Stage = λ n. opens_if (job_of c) (unless (if nat_le n MAX_CODE then None else Some (fault.TooBig c.path))
    (Ok (accepted_with t))) in
    ap opened (ap₂ (λ (gs : List Given) (args : List (List ℕ)). program_size (set_by gs) args (script_of t.script))
    unset.0 unset.1)
    ∙ ap (λ (b : Bool). opens_if (job_of c) (unless (if b then None else Some (fault.TooBig c.path))
    (Ok (accepted_with t))))
    (yes_then (nat_le (program_size [] [] (script_of t.script)) MAX_CODE) fits)

pub ran_so_far : (c : Call) (test : TypedScript) (start inner : Log) (r : Drying) (came : Result Ending Stop)
    → inner ≡ r.inner
    → IsDry start r → is_too_big (script_of test.script) ≡ false → (test.settings ≡ []) × (test.args ≡ [])
    → Reaches c (opens_if (job_of c) (if_fits c (script_of test.script) (preset_of test))) [] r.log at_end came
    → RunsSoFar c test start inner came
ran_so_far c test start inner r came is dry fits unset reaches =
    record {
      own = r.log;
      reaches = subst (λ (s : Stage). Reaches c s [] r.log at_end came) (opens_so c test fits unset) reaches;
      dry = subst (λ i. IsDry start (record { inner = i; log = r.log })) (sym is) dry;
    }

module _ (c : Call) (test : TypedScript) (before after : Log) where
  abbrev From : Stage
  From = opens (job_of c) (accepted_with test)

  pub ran_done : (came : Result Ending Stop) (status : ℕ) → came ≡ Ok (Done status) → RunsSoFar c test before after came
      → RunsTest c test before after (stage.Done status)
  ran_done came status is h =
      record { own = h.own; runs = subst (λ r. Reaches c From [] h.own at_end r) is h.reaches; dry = h.dry }

  pub ran_spent : (came : Result Ending Stop) → came ≡ Ok Spent → RunsSoFar c test before after came
      → RunsTest c test before after stage.Spent
  ran_spent came is h =
      record { own = h.own; runs = subst (λ r. Reaches c From [] h.own at_end r) is h.reaches; dry = h.dry }

  pub ran_faulted : (came : Result Ending Stop) → came ≡ Ok DeviceFault → RunsSoFar c test before after came
      → RunsTest c test before after stage.DeviceFault
  ran_faulted came is h =
      record { own = h.own; runs = subst (λ r. Reaches c From [] h.own at_end r) is h.reaches; dry = h.dry }

  pub ran_halted : (came : Result Ending Stop) → came ≡ Err NoMemory → RunsSoFar c test before after came
      → HaltsTest c test before after
  ran_halted came is h =
      record { own = h.own; halts = subst (λ r. Reaches c From [] h.own at_end r) is h.reaches; dry = h.dry }

  pub judged_done : (t : TypedScript) (n : ℕ) (came : Result Ending Stop) (status : ℕ) (passed : Bool)
      → IsTestOf t n test
      → came ≡ Ok (Done status) → passed ≡ passes status → RunsSoFar c test before after came
      → HasRun c t n before after passed
  judged_done t n came status passed is ends judged h =
      record { test = test; is = is; status = status; run = ran_done came status ends h; judged = judged }
