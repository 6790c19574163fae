-- From the tests that were tried to what is told of all.
use Rattle.std.proofs.Common.{◌≡◌, ◌∙◌, ◌≤◌, ℕ, ◌-◌, false, List, length, map, Ok, Err, ap, subst}
use Rattle.std.proofs.lemmas.List.{length-map}
use Rattle.bds_host.specs.Host.{Log}
use Rattle.bds_tree.specs.StmtTree.{FunctionTree}
use Rattle.bds_check.specs.declared.checking.TypedScript.{TypedScript}
use Rattle.bds_app_run.specs.declared.call.Call.{Call}
use Rattle.bds_app_run.specs.declared.outcome.Outcome.{Outcome}
use Rattle.bds_app_trials.specs.Testing.{HaveRun, TellsCounts, TestsLoaded, is_any_too_big, tests_of}
use Rattle.bds_app_trials.specs.Ways.{AreTried}

-- as many as there are names
pub as_many : (fs : List FunctionTree) (names : List (List ℕ)) (count : ℕ)
    → names ≡ map (λ (f : FunctionTree). f.name) fs → count ≡ length names → count ≡ length fs
as_many fs names count is many = many ∙ ap length is ∙ length-map fs (λ (f : FunctionTree). f.name)

pub all_tried : (c : Call) (t : TypedScript) (before log : Log) (n failed : ℕ) → n ≡ length (tests_of t) → failed ≤ n
    → HaveRun c t before n failed log → AreTried c t before log (Ok failed)
all_tried c t before log n failed all few run =
    subst (λ (m : ℕ). (failed ≤ m) × HaveRun c t before m failed log) all (few, run)

module _ (c : Call) (t : TypedScript) where
  pub counted : (before log after : Log) (failed count : ℕ) (o : Outcome) → is_any_too_big t ≡ false
      → {names : List (List ℕ)} → names ≡ map (λ (f : FunctionTree). f.name) (tests_of t) → count ≡ length names
      → AreTried c t before log (Ok failed) → TellsCounts (count - failed) failed log after o
      → TestsLoaded c t before after o
  counted before log after failed count o fits is many tried told =
      TestsLoaded.tested failed log o fits tried.1
      (subst (λ n. TellsCounts (n - failed) failed log after o) (as_many (tests_of t) _ count is many) told)

  pub stopped : (before after : Log) (o : Outcome) → is_any_too_big t ≡ false → AreTried c t before after (Err o)
      → TestsLoaded c t before after o
  stopped before after o fits (n, (failed, (log, (there, last)))) = TestsLoaded.stopped n failed log o fits there last
