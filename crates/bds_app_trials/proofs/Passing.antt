-- Nothing but reads, stamps and what is printed is asked for a test.
use Rattle.std.proofs.Common.{◌∙◌, ℕ, Bool, List, [], ◌++◌, Ok, Err, inl, inr, ap, sym, append_assoc}
use Rattle.std.proofs.Common.{append-nil}
use Rattle.std.proofs.lemmas.List.Elements.{All-append, All-nil}
use Rattle.bds_host.specs.declared.asks.Ask.{Ask}
use Rattle.bds_host.specs.Host.{FoundNoRoom, Log}
use Rattle.bds_check.specs.declared.checking.TypedScript.{TypedScript}
use Rattle.bds_dry.specs.Dry.{IsPassed, IsPassedPair}
use Rattle.bds_schedule.specs.Stages.{End}
use Rattle.bds_app_run.specs.Telling.{Prints, Says, TellsDevice}
use Rattle.bds_app_run.specs.declared.call.Call.{Call}
use Rattle.bds_app_run.specs.declared.outcome.Outcome.{Outcome}
use Rattle.bds_app_trials.specs.DryRuns.{HasPassed}
use Rattle.bds_app_trials.specs.Testing.{HasTold, HaveRun, RunsTest, StopsTest, TellsCounts, TestsLoaded, TestsScript}
use Rattle.bds_app_trials.proofs.DryFaults.{dry_passed}
use Rattle.bds_app_trials.proofs.LoadsPassed.{loads_passed, nothing_passed, one_passed}

pub passes_on : (a b c : Log) → HasPassed a b → HasPassed b c → HasPassed a c
passes_on a b c h k = record {
  pairs = h.pairs ++ k.pairs;
  grown = k.grown ∙ ap (λ l. l ++ k.pairs) h.grown ∙ append_assoc a h.pairs k.pairs;
  passed = All-append IsPassedPair h.pairs k.pairs h.passed k.passed;
}

room_passed : (before after : Log) (a : Ask) → IsPassed a → FoundNoRoom before after a → HasPassed before after
room_passed before after a passed (inl same) =
    record { pairs = []; grown = same ∙ sym (append-nil before); passed = All-nil IsPassedPair }
room_passed before after a passed (inr grown) = one_passed before after a _ passed grown

module _ (before after : Log) where
  device_passed : (o : Outcome) → TellsDevice before after o → HasPassed before after
  device_passed _ (TellsDevice.told_so r a) = one_passed before after _ r tt a.grown
  device_passed _ (TellsDevice.untold room) = room_passed before after _ tt room

module _ (text : List ℕ) (before after : Log) where
  says_passed : (other o : Outcome) → Says text other before after o → HasPassed before after
  says_passed other _ (Says.said a) = one_passed before after _ _ tt a.grown
  says_passed other _ (Says.faulted log o a t) =
      passes_on before log after (one_passed before log _ _ tt a.grown) (device_passed log after o t)
  says_passed other _ (Says.no_memory room) = room_passed before after _ tt room

  prints_passed : (o : Outcome) → Prints text before after o → HasPassed before after
  prints_passed _ (Prints.printed a) = one_passed before after _ _ tt a.grown
  prints_passed _ (Prints.faulted log o a t) =
      passes_on before log after (one_passed before log _ _ tt a.grown) (device_passed log after o t)
  prints_passed _ (Prints.no_memory room) = room_passed before after _ tt room

module _ (c : Call) where
  pub run_passed : (test : TypedScript) (before after : Log) (e : End) → RunsTest c test before after e
      → HasPassed before after
  run_passed test before after e h = dry_passed before after h.own h.dry

  module _ (t : TypedScript) where
    told_passed : (n : ℕ) (before after : Log) (passed : Bool) → HasTold c t n before after passed
        → HasPassed before after
    told_passed n before after passed h =
        passes_on before h.between after (run_passed h.run.test before h.between _ h.run.run)
        (prints_passed _ h.between after _ h.said)

    pub have_passed : (before : Log) (n failed : ℕ) (after : Log) → HaveRun c t before n failed after
        → HasPassed before after
    have_passed before _ _ _ HaveRun.none = nothing_passed before
    have_passed before _ _ after (HaveRun.one_more n failed passed log _ there h) =
        passes_on before log after (have_passed before n failed log there) (told_passed n log after passed h)

    stops_passed : (n : ℕ) (before after : Log) (o : Outcome) → StopsTest c t n before after o → HasPassed before after
    stops_passed n before after _ (StopsTest.spent test is run) = run_passed test before after _ run
    stops_passed n before after _ (StopsTest.faulted test is run) = run_passed test before after _ run
    stops_passed n before after _ (StopsTest.halted test is h) = dry_passed before after h.own h.dry
    stops_passed n before after _ (StopsTest.untold passed between o run told other) =
        passes_on before between after (run_passed run.test before between _ run.run)
        (prints_passed _ between after o told)
    stops_passed n before after _ (StopsTest.unmade same) =
        record { pairs = []; grown = same ∙ sym (append-nil before); passed = All-nil IsPassedPair }

    counts_passed : (passed failed : ℕ) (before after : Log) (o : Outcome)
        → TellsCounts passed failed before after o → HasPassed before after
    counts_passed passed failed before after _ (TellsCounts.counted told) = prints_passed _ before after _ told
    counts_passed passed failed before after _ (TellsCounts.untold o told other) = prints_passed _ before after o told

    pub loaded_passed : (before after : Log) (o : Outcome) → TestsLoaded c t before after o → HasPassed before after
    loaded_passed before after _ (TestsLoaded.too_big o big told) = says_passed _ before after _ o told
    loaded_passed before after _ (TestsLoaded.tested failed log o fits there told) =
        passes_on before log after (have_passed before _ failed log there) (counts_passed _ failed log after o told)
    loaded_passed before after _ (TestsLoaded.stopped n failed log o fits there last) =
        passes_on before log after (have_passed before n failed log there) (stops_passed n log after o last)
    loaded_passed before after _ (TestsLoaded.no_memory same) =
        record { pairs = []; grown = same ∙ sym (append-nil before); passed = All-nil IsPassedPair }

  pub tests_passed : (before after : Log) (o : Outcome) → TestsScript c before after o → HasPassed before after
  tests_passed before after _ (TestsScript.loaded t log o loads rest) =
      passes_on before log after (loads_passed c.path before log (Ok t) loads) (loaded_passed t log after o rest)
  tests_passed before after _ (TestsScript.refused_for f g log o loads is told) =
      passes_on before log after (loads_passed c.path before log (Err f) loads) (says_passed _ log after _ o told)
  tests_passed before after _ (TestsScript.unread log o loads told) =
      passes_on before log after (loads_passed c.path before log _ loads) (device_passed log after o told)
  tests_passed before after _ (TestsScript.unloaded f loads) = loads_passed c.path before after (Err f) loads
