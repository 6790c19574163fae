-- The meaning of a call: all that is asked, with the replies, and the answer, by what its words ask for.
use Rattle.std.specs.Prelude.{◌≡◌, true, false, ℕ, List, [], ◌∷◌, ◌++◌, Option, Some, None, codes}
use Rattle.bds_value.specs.declared.TheConstants.{MAX_TICKS}
use Rattle.bds_host.specs.declared.asks.Ask.TheVariants.{Err as Tells}
use Rattle.bds_host.specs.declared.asks.Reply.TheVariants.{Done}
use Rattle.bds_host.specs.declared.faults.Fault.TheVariants as fault
use Rattle.bds_host.specs.Host.{Log}
use Rattle.bds_tools.specs.Made.{AllMade}
use Rattle.bds_tools.specs.Make.{make_text}
use Rattle.bds_tools.specs.Summary.{summary_text}
use Rattle.bds_app_words.specs.Asked.{command_of}
use Rattle.bds_app_words.specs.declared.command.Command.{Command}
use Rattle.bds_app_words.specs.declared.command.Command.TheVariants.{Run, Resume, Check, Info, Make, Format, Replay}
use Rattle.bds_app_words.specs.declared.command.Command.TheVariants.{Dry, Test}
use Rattle.bds_app_words.specs.declared.command.Over.{Over}
use Rattle.bds_app_words.specs.declared.command.Over.TheVariants.{Plain, Log as Logged, Farm}
use Rattle.bds_app_fmt.specs.Formatting.{FormatsScript}
use Rattle.bds_app_farm.specs.Farmed.{FarmsJob}
use Rattle.bds_app_run.specs.Jobs.{DoesJob}
use Rattle.bds_app_log.specs.Logged.{LogsJob}
use Rattle.bds_app_log.specs.Replays.{ReplaysLog}
use Rattle.bds_app_run.specs.Commands.{RunsScript, ChecksScript, DescribesFile}
use Rattle.bds_app_run.specs.Telling.{Prints, Says, TellsFault}
use Rattle.bds_app_run.specs.declared.call.Call.{Call}
use Rattle.bds_app_run.specs.declared.outcome.Outcome.{Outcome}
use Rattle.bds_app_run.specs.declared.outcome.Outcome.TheVariants.{Ended, Refused, Words, NoMemory, Ticks}
use Rattle.bds_app_trials.specs.DryRuns.{DriesScript}
use Rattle.bds_app_trials.specs.Testing.{TestsScript}
use Rattle.bds_replay.specs.declared.log.Job.{Job}
use Rattle.bds_app.specs.declared.TheConstants.{MADE_PROCESSORS}

abbrev pub call_of : ℕ → ℕ → List ℕ → List (List ℕ) → Call
call_of cpus ticks path words = record { path = path; cpus = cpus; ticks = ticks; words = words }

-- the job of a script that is run, and that of a file that is resumed
abbrev pub job_of_run : ℕ → ℕ → List ℕ → List (List ℕ) → Job
job_of_run cpus ticks path words = record { resume = false; path = path; cpus = cpus; ticks = ticks; words = words }

abbrev pub job_of_resume : ℕ → ℕ → List ℕ → Job
job_of_resume cpus ticks path = record { resume = true; path = path; cpus = cpus; ticks = ticks; words = [] }

-- the script that is made from a number, as it is run
abbrev pub made_call : Call
made_call = call_of MADE_PROCESSORS MAX_TICKS (codes "make.bds") []

-- a script is made from a number, and run where all goes well: each read gives the script, and all else goes by itself
abbrev pub RunsMade : ℕ → Log → Outcome → Type 0
RunsMade n inner answer = AllMade (make_text n) inner × RunsScript made_call [] inner answer

-- and it is told what its run asked and how it ended; of this run nothing is asked of the outside
pub data MakesRun (n : ℕ) (before after : Log) : Outcome → Type 0 where
  done : (inner : Log) (status : ℕ) (answer : Outcome) → RunsMade n inner (Ended status)
      → Prints (summary_text inner status) before after answer → MakesRun n before after answer
  refused : (log : Log) (text : List ℕ) (answer : Outcome) → RunsMade n (log ++ (Tells text, Done) ∷ []) Refused
      → Says text Refused before after answer → MakesRun n before after answer
  spent : (inner : Log) → RunsMade n inner Ticks → after ≡ before → MakesRun n before after Ticks
  no_memory : after ≡ before → MakesRun n before after NoMemory

-- a job is done over the host that words ask for
abbrev pub DoesOver : Over → Job → Log → Log → Outcome → Type 0
DoesOver Plain j before after answer = DoesJob j before after answer
DoesOver (Logged path) j before after answer = LogsJob j path before after answer
DoesOver (Farm submit poll) j before after answer = FarmsJob j submit poll before after answer

abbrev pub DoesCommand : Option Command → Log → Log → Outcome → Type 0
DoesCommand None before after answer = TellsFault fault.Words Words before after answer
DoesCommand (Some (Run cpus ticks script words over)) before after answer =
    DoesOver over (job_of_run cpus ticks script words) before after answer
DoesCommand (Some (Resume cpus ticks file over)) before after answer =
    DoesOver over (job_of_resume cpus ticks file) before after answer
DoesCommand (Some (Check script)) before after answer = ChecksScript script before after answer
DoesCommand (Some (Info file)) before after answer = DescribesFile file before after answer
DoesCommand (Some (Make n)) before after answer = MakesRun n before after answer
DoesCommand (Some (Format script)) before after answer = FormatsScript script before after answer
DoesCommand (Some (Replay path)) before after answer = ReplaysLog path before after answer
DoesCommand (Some (Dry cpus ticks script words)) before after answer =
    DriesScript (call_of cpus ticks script words) before after answer
DoesCommand (Some (Test cpus ticks script)) before after answer =
    TestsScript (call_of cpus ticks script []) before after answer

-- what a call with these words added to the log, and its answer
abbrev pub Answers : List (List ℕ) → Log → Log → Outcome → Type 0
Answers words before after answer = DoesCommand (command_of words) before after answer

-- For private contracts alone: a text was told last, without a fault
pub record IsRefusal (inner : Log) : Type 0 where
  pub log : Log
  pub text : List ℕ
  pub is : inner ≡ log ++ (Tells text, Done) ∷ []
