-- The tests of a script, each run over a host of its own over which nothing is done: all that is asked, with the
-- replies, and the answer.
use Rattle.std.specs.Prelude.{◌≡◌, ◌≢◌, ◌==◌, ◌+◌, ◌-◌, ◌||◌, ◌++◌, ℕ, suc, Bool, true, false, not, List, []}
use Rattle.std.specs.Prelude.{Some, Ok, Err}
use Rattle.std.specs.Prelude.{codes, decimal, length, nat_le, if◌then◌else◌}
use Rattle.std.specs.List.{list_any}
use Rattle.bds_value.specs.declared.TheConstants.{MAX_CODE}
use Rattle.bds_host.specs.declared.faults.Fault.{Fault}
use Rattle.bds_host.specs.declared.faults.Fault.TheVariants as fault
use Rattle.bds_host.specs.Host.{Log}
use Rattle.bds_tree.specs.StmtTree.{FunctionTree, ScriptTree}
use Rattle.bds_tree.specs.StmtView.{script_of}
use Rattle.bds_check.specs.declared.checking.TypedScript.{TypedScript}
use Rattle.bds_check_size.specs.ScriptSize.{program_size}
use Rattle.bds_check_tests.specs.Tests.{IsTestOf, test_program, tests_in}
use Rattle.bds_app_run.specs.Begun.{told}
use Rattle.bds_front.specs.Loading.{Loads}
use Rattle.bds_front.specs.declared.front_fault.FrontFault.{FrontFault}
use Rattle.bds_front.specs.declared.front_fault.FrontFault.TheVariants as front
use Rattle.bds_meaning.specs.Begin.{AtEnd, IsOnWay, opens, ran}
use Rattle.bds_schedule.specs.Stages.{End, Done, Spent, DeviceFault}
use Rattle.bds_schedule.specs.Steps.{Halts, Leads}
use Rattle.bds_app_run.specs.Job.{JobSteps, accepted_with, job_of}
use Rattle.bds_app_run.specs.Telling.{Prints, TellsDevice, TellsFault}
use Rattle.bds_app_run.specs.declared.call.Call.{Call}
use Rattle.bds_app_run.specs.declared.outcome.Outcome.{Outcome}
use Rattle.bds_app_run.specs.declared.outcome.Outcome.TheVariants.{Ended, Refused, Device, NoMemory, Ticks}
use Rattle.bds_app_trials.specs.DryRuns.{IsToldInside}

-- What is printed

abbrev pub verdict : Bool → List ℕ
verdict passed = if passed then codes "ok" else codes "failed"

-- behind a test
abbrev pub verdict_line : List ℕ → Bool → List ℕ
verdict_line name passed = codes "test " ++ name ++ codes ": " ++ verdict passed ++ codes "\n"

-- behind all of them
abbrev pub summary_line : ℕ → ℕ → List ℕ
summary_line passed failed = codes "passed " ++ decimal passed ++ codes " failed " ++ decimal failed ++ codes "\n"

-- the status of the whole
abbrev pub status_of : ℕ → ℕ
status_of failed = if failed == 0 then 0 else 1

-- Which units are too large

-- the unit of a typed script in which nothing is set
abbrev pub is_too_big : ScriptTree → Bool
is_too_big s = not (nat_le (program_size [] [] s) MAX_CODE)

-- that of the script itself, or that of a test
abbrev pub any_too_big : ScriptTree → Bool
any_too_big s = is_too_big s || list_any (λ f. is_too_big (test_program s f)) (tests_in s.parts)

-- One test

-- the run of a test: it begins with a log of its own and with all ticks of the call, and comes to this end
pub record RunsTest (c : Call) (test : TypedScript) (before after : Log) (end : End) : Type 0 where
  pub own : Log
  pub runs : Leads (JobSteps c) (opens (job_of c) (accepted_with test)) [] (AtEnd (ran end)) own
  pub dry : IsToldInside before after own

-- or as far as there is memory
pub record HaltsTest (c : Call) (test : TypedScript) (before after : Log) : Type 0 where
  pub own : Log
  pub halts : Halts (JobSteps c) IsOnWay (opens (job_of c) (accepted_with test)) [] own
  pub dry : IsToldInside before after own

abbrev pub passes : ℕ → Bool
passes status = status == 0

-- the test of this number was run, and passed or not; its verdict is told next
pub record HasRun (c : Call) (t : TypedScript) (n : ℕ) (before after : Log) (passed : Bool) : Type 0 where
  pub test : TypedScript
  pub is : IsTestOf t n test
  pub status : ℕ
  pub run : RunsTest c test before after (Done status)
  pub judged : passed ≡ passes status

-- and it was told
pub record HasTold (c : Call) (t : TypedScript) (n : ℕ) (before after : Log) (passed : Bool) : Type 0 where
  pub between : Log
  pub run : HasRun c t n before between passed
  pub said : Prints (verdict_line run.is.function.name passed) between after (Ended 0)

-- the test of this number is the last one that is run: its ticks are used, a reply was a fault, or there was no memory
pub data StopsTest (c : Call) (t : TypedScript) (n : ℕ) (before after : Log) : Outcome → Type 0 where
  spent : (test : TypedScript) → IsTestOf t n test → RunsTest c test before after Spent
      → StopsTest c t n before after Ticks
  faulted : (test : TypedScript) → IsTestOf t n test → RunsTest c test before after DeviceFault
      → StopsTest c t n before after Device
  halted : (test : TypedScript) → IsTestOf t n test → HaltsTest c test before after
      → StopsTest c t n before after NoMemory
  untold : (passed : Bool) (between : Log) (answer : Outcome) (run : HasRun c t n before between passed)
      → Prints (verdict_line run.is.function.name passed) between after answer → answer ≢ Ended 0
      → StopsTest c t n before after answer
  -- there was no memory for the program of the test
  unmade : after ≡ before → StopsTest c t n before after NoMemory

-- All of them

abbrev pub one_more_failed : ℕ → Bool → ℕ
one_more_failed failed passed = if passed then failed else failed + 1

-- the first tests were run and told, so many, and so many of them have failed
pub data HaveRun (c : Call) (t : TypedScript) (before : Log) : ℕ → ℕ → Log → Type 0 where
  none : HaveRun c t before 0 0 before
  one_more : (n failed : ℕ) (passed : Bool) (log after : Log) → HaveRun c t before n failed log
      → HasTold c t n log after passed → HaveRun c t before (suc n) (one_more_failed failed passed) after

-- how many passed and failed is told last
pub data TellsCounts (passed failed : ℕ) (before after : Log) : Outcome → Type 0 where
  counted : Prints (summary_line passed failed) before after (Ended 0)
      → TellsCounts passed failed before after (Ended (status_of failed))
  untold : (answer : Outcome) → Prints (summary_line passed failed) before after answer → answer ≢ Ended 0
      → TellsCounts passed failed before after answer

abbrev pub tests_of : TypedScript → List FunctionTree
tests_of t = tests_in (script_of t.script).parts

abbrev pub is_any_too_big : TypedScript → Bool
is_any_too_big t = any_too_big (script_of t.script)

-- the tests of a loaded script are run in their order, unless a unit is too large, which is told before the first one
pub data TestsLoaded (c : Call) (t : TypedScript) (before after : Log) : Outcome → Type 0 where
  too_big : (answer : Outcome) → is_any_too_big t ≡ true → TellsFault (fault.TooBig c.path) Refused before after answer
      → TestsLoaded c t before after answer
  tested : (failed : ℕ) (log : Log) (answer : Outcome) → is_any_too_big t ≡ false
      → HaveRun c t before (length (tests_of t)) failed log
      → TellsCounts (length (tests_of t) - failed) failed log after answer → TestsLoaded c t before after answer
  stopped : (n failed : ℕ) (log : Log) (answer : Outcome) → is_any_too_big t ≡ false → HaveRun c t before n failed log
      → StopsTest c t n log after answer → TestsLoaded c t before after answer
  -- there was no memory before the first one
  no_memory : after ≡ before → TestsLoaded c t before after NoMemory

-- a script is tested: it is loaded with its includes, and its tests are run; or it is told why it isn't loaded
pub data TestsScript (c : Call) (before after : Log) : Outcome → Type 0 where
  loaded : (t : TypedScript) (log : Log) (answer : Outcome) → Loads c.path before log (Ok t)
      → TestsLoaded c t log after answer
      → TestsScript c before after answer
  refused_for : (f : FrontFault) (g : Fault) (log : Log) (answer : Outcome) → Loads c.path before log (Err f)
      → told f ≡ Some g
      → TellsFault g Refused log after answer → TestsScript c before after answer
  unread : (log : Log) (answer : Outcome) → Loads c.path before log (Err front.Device) → TellsDevice log after answer
      → TestsScript c before after answer
  unloaded : (f : FrontFault) → Loads c.path before after (Err f) → TestsScript c before after NoMemory
