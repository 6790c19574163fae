-- A script's run without a stop: a history of the script, too.
use Rattle.std.specs.Prelude.{◌≡◌, ◌⊎◌, ℕ, [], ◌∷◌, ◌++◌, Result, ⊤}
use Rattle.bds_host.specs.declared.asks.Ask.{Ask}
use Rattle.bds_host.specs.declared.asks.Reply.{Reply}
use Rattle.bds_host.specs.declared.asks.Reply.TheVariants.{NoRoom}
use Rattle.bds_host.specs.Host.{Log, Answered}
use Rattle.bds_meaning.specs.Begin.{JobEnd, Stage, Reading, Running, AtEnd, opens}
use Rattle.bds_meaning.specs.Refusals.{Accepted}
use Rattle.bds_schedule.specs.Steps.{Asks, Leads}
use Rattle.bds_engine_parts.specs.declared.stop.RunStop.{RunStop}
use Rattle.bds_app_run.specs.Commands.{RunsScript, outcome_of, run_outcome}
use Rattle.bds_app_run.specs.Job.{JobSteps, job_of}
use Rattle.bds_app_run.specs.declared.call.Call.{Call}
use Rattle.bds_app_run.specs.declared.outcome.Outcome.{Outcome}
use Rattle.bds_app_run.specs.declared.outcome.Outcome.TheVariants.{NoMemory}
use Rattle.bds_app.specs.OneRun.{EndsSo, KeepsOn}

-- the script with its includes was read and accepted, and behind these reads all that was asked is one history of the
-- script, as the call runs it. The answer is the end of that history, or as far as there was memory; and it keeps the
-- laws of every history
pub record IsWholeRun (c : Call) (before after : Log) (answer : Outcome) : Type 0 where
  pub accepted : Accepted
  pub reads : Log
  pub opens : Leads (JobSteps c) (Reading []) before (opens (job_of c) accepted) (before ++ reads)
  pub end : Result ℕ RunStop
  pub is : answer ≡ run_outcome end
  pub has_run : EndsSo c accepted [] (before ++ reads) after end
  pub keeps : KeepsOn c accepted []

-- a job that hasn't come to its run: its files are read, or it is told why it isn't run
abbrev pub IsBeforeRun : Stage → Type 0
IsBeforeRun (Running program c) = ⊥
IsBeforeRun (AtEnd end) = ⊥
IsBeforeRun _ = ⊤

-- a job that came to no run, and the answer to that
pub data WasNotRun (c : Call) (before after : Log) : Outcome → Type 0 where
  -- why it isn't run was told, and that was its end
  told : (stage : Stage) (log : Log) (ask : Ask) (next : Reply → Stage) (reply : Reply) (end : JobEnd)
      → IsBeforeRun stage → Leads (JobSteps c) (Reading []) before stage log → JobSteps c stage (Asks ask next)
      → Answered log after ask reply → next reply ≡ AtEnd end → WasNotRun c before after (outcome_of end)
  -- there was no memory for what comes next
  stopped : (stage : Stage) → IsBeforeRun stage → Leads (JobSteps c) (Reading []) before stage after
      → WasNotRun c before after NoMemory
  stopped_asking : (stage : Stage) (log : Log) (ask : Ask) (next : Reply → Stage) → IsBeforeRun stage
      → Leads (JobSteps c) (Reading []) before stage log → JobSteps c stage (Asks ask next)
      → after ≡ log ++ (ask, NoRoom) ∷ [] → WasNotRun c before after NoMemory

-- whatever comes of it
abbrev pub RunsAreWhole : Type 0
RunsAreWhole = (c : Call) (before after : Log) (answer : Outcome) → RunsScript c before after answer
    → IsWholeRun c before after answer ⊎ WasNotRun c before after answer
