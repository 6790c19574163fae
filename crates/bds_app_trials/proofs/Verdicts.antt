-- What is told of a test that was run.
use Rattle.std.proofs.Common.{◌≡◌, ◌∙◌, ℕ, Bool, true, false, List, ap, sym, subst}
use Rattle.std.specs.Prelude.{◌≢◌}
use Rattle.std.proofs.lemmas.Bool.{eqb-true}
use Rattle.bds_host.specs.Host.{Log}
use Rattle.bds_check.specs.declared.checking.TypedScript.{TypedScript}
use Rattle.bds_app_run.specs.Telling.{Prints}
use Rattle.bds_app_run.specs.declared.call.Call.{Call}
use Rattle.bds_app_run.specs.declared.outcome.Outcome.{Outcome}
use Rattle.bds_app_run.specs.declared.outcome.Outcome.TheVariants as outcome
use Rattle.bds_app_trials.specs.Testing.{HasRun, HasTold, StopsTest, TellsCounts, status_of, summary_line, verdict_line}
use Rattle.bds_app_trials.specs.Ways.{was_printed}

-- it was printed where the answer is status 0
pub printed : (o : Outcome) → was_printed o ≡ true → o ≡ outcome.Ended 0
printed (outcome.Ended status) h = ap outcome.Ended (eqb-true status 0 h)
printed outcome.Refused h = absurd (cc h)
printed outcome.BadFile h = absurd (cc h)
printed outcome.Device h = absurd (cc h)
printed outcome.Words h = absurd (cc h)
printed outcome.NoMemory h = absurd (cc h)
printed outcome.Ticks h = absurd (cc h)

pub unprinted : (o : Outcome) → was_printed o ≡ false → o ≢ outcome.Ended 0
unprinted o h is = let no : true ≡ false = sym (ap was_printed is) ∙ h in cc no

module _ (c : Call) (t : TypedScript) (n : ℕ) (before between after : Log) (passed : Bool)
    (run : HasRun c t n before between passed)
    (name : List ℕ) (named : name ≡ run.is.function.name) where
  told_so : (o : Outcome) → Prints (verdict_line name passed) between after o
      → Prints (verdict_line run.is.function.name passed) between after o
  told_so o h = subst (λ x. Prints (verdict_line x passed) between after o) named h

  pub told_on : (o : Outcome) (b : Bool) → b ≡ true → b ≡ was_printed o
      → Prints (verdict_line name passed) between after o
      → HasTold c t n before after passed
  told_on o b so is h =
      record {
        between = between;
        run = run;
        said = subst (λ x. Prints (verdict_line run.is.function.name passed) between after x) (printed o (sym is
            ∙ so)) (told_so o h);
      }

  pub told_last : (o : Outcome) (b : Bool) → b ≡ false → b ≡ was_printed o
      → Prints (verdict_line name passed) between after o
      → StopsTest c t n before after o
  told_last o b other is h = StopsTest.untold passed between o run (told_so o h) (unprinted o (sym is ∙ other))

module _ (passed failed : ℕ) (before after : Log) where
  pub counted_on : (o : Outcome) (b : Bool) → b ≡ true → b ≡ was_printed o
      → Prints (summary_line passed failed) before after o
      → TellsCounts passed failed before after (outcome.Ended (status_of failed))
  counted_on o b so is h =
      TellsCounts.counted (subst (λ x. Prints (summary_line passed failed) before after x) (printed o (sym is ∙ so)) h)

  pub counted_last : (o : Outcome) (b : Bool) → b ≡ false → b ≡ was_printed o
      → Prints (summary_line passed failed) before after o
      → TellsCounts passed failed before after o
  counted_last o b other is h = TellsCounts.untold o h (unprinted o (sym is ∙ other))
