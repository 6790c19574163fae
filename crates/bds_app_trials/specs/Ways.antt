-- For private contracts alone: how the functions below the commands come out.
use Rattle.std.specs.Prelude.{◌≡◌, ◌==◌, ◌≤◌, ⊤, ℕ, Bool, true, false, List, [], length, map, Option, Some, None}
use Rattle.std.specs.Prelude.{Result, Ok, Err}
use Rattle.bds_value.specs.declared.listed.NoMemory.{NoMemory}
use Rattle.bds_tree.specs.StmtTree.{ScriptTree}
use Rattle.bds_tree.specs.StmtView.{script_of}
use Rattle.bds_host.specs.Host.{Log}
use Rattle.bds_check.specs.declared.checking.TypedScript.{TypedScript}
use Rattle.bds_front.specs.Loading.{Loads}
use Rattle.bds_front.specs.declared.front_fault.FrontFault.{FrontFault}
use Rattle.bds_meaning.specs.Begin.{opens}
use Rattle.bds_app_run.specs.Job.{accepted_with, job_of}
use Rattle.bds_app_run.specs.Ways.{Reaches, at_end}
use Rattle.bds_app_run.specs.declared.call.Call.{Call}
use Rattle.bds_app_run.specs.declared.ending.Ending.{Ending}
use Rattle.bds_app_run.specs.declared.outcome.Outcome.{Outcome}
use Rattle.bds_app_run.specs.declared.outcome.Outcome.TheVariants.{Ended}
use Rattle.bds_app_run.specs.declared.stop.Stop.{Stop}
use Rattle.bds_app_trials.specs.DryRuns.{IsToldInside}
use Rattle.bds_check_tests.specs.Tests.{IsBaseOf}
use Rattle.bds_app_trials.specs.Testing.{HasRun, HasTold, HaveRun, StopsTest, TestsScript, is_any_too_big, is_too_big}
use Rattle.bds_app_trials.specs.Testing.{tests_of}

-- the run of a test came so far
pub record RunsSoFar (c : Call) (test : TypedScript) (before after : Log) (came : Result Ending Stop) : Type 0 where
  pub own : Log
  pub reaches : Reaches c (opens (job_of c) (accepted_with test)) [] own at_end came
  pub dry : IsToldInside before after own

-- some test was run so far
abbrev pub WasRun : Result Ending Stop → Type 0
WasRun came =
    (c : Call) × ((test : TypedScript) × ((before : Log) × ((after : Log) × RunsSoFar c test before after came)))

-- what was printed was printed, and nothing else is answered
abbrev pub was_printed : Outcome → Bool
was_printed (Ended status) = status == 0
was_printed _ = false

-- a test was run, and its verdict comes next; or it is the last one
abbrev pub IsRun : Call → TypedScript → ℕ → Log → Log → Result Bool Outcome → Type 0
IsRun c t n before after (Ok passed) = HasRun c t n before after passed
IsRun c t n before after (Err answer) = StopsTest c t n before after answer

-- and its verdict was told
abbrev pub IsTried : Call → TypedScript → ℕ → Log → Log → Result Bool Outcome → Type 0
IsTried c t n before after (Ok passed) = HasTold c t n before after passed
IsTried c t n before after (Err answer) = StopsTest c t n before after answer

-- this is what the programs of a script's tests begin with, and no unit is too large
pub record IsFitBase (t : TypedScript) (begun : ScriptTree) : Type 0 where
  pub base : IsBaseOf t begun
  pub fits : is_any_too_big t ≡ false

-- the names of a script's tests were listed, or its unit is too large
abbrev pub AreNamed : TypedScript → Result (Option (List (List ℕ))) NoMemory → Type 0
AreNamed t (Ok (Some names)) =
    (is_too_big (script_of t.script) ≡ false) × (names ≡ map (λ f. f.name) (tests_of t))
AreNamed t (Ok None) = is_too_big (script_of t.script) ≡ true
AreNamed t (Err e) = ⊤

-- all tests were run and told, of which so many failed; or one was the last
abbrev pub AreTried : Call → TypedScript → Log → Log → Result ℕ Outcome → Type 0
AreTried c t before after (Ok failed) =
    (failed ≤ length (tests_of t)) × HaveRun c t before (length (tests_of t)) failed after
AreTried c t before after (Err answer) =
    (n : ℕ) × ((failed : ℕ) × ((log : Log) × (HaveRun c t before n failed log × StopsTest c t n log after answer)))

-- a script isn't loaded, and that is told
abbrev pub TellsUnloaded : Call → Log → FrontFault → Log → Outcome → Type 0
TellsUnloaded c log f after answer =
    (before : Log) → Loads c.path before log (Err f) → TestsScript c before after answer
