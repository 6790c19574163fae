-- The other way round: when the answer is that of the meaning, and that a log has one answer.
use Rattle.std.specs.Prelude.{◌≡◌, ◌⊎◌, ◌++◌, ◌∷◌, ◌-◌, length, true, false, ℕ, List, [], ⊤, Option, Some, Ok, Err}
use Rattle.bds_host.specs.declared.asks.Ask.TheVariants.{Out, Write}
use Rattle.bds_host.specs.declared.faults.Fault.{Fault}
use Rattle.bds_host.specs.Host.{Log, faults}
use Rattle.bds_check.specs.declared.checking.TypedScript.{TypedScript}
use Rattle.bds_app_run.specs.Begun.{told}
use Rattle.bds_front.specs.Loading.{Loads}
use Rattle.bds_front.specs.declared.front_fault.FrontFault.{FrontFault}
use Rattle.bds_meaning.specs.Begin.{Reading, ran, AtEnd}
use Rattle.bds_schedule.specs.Stages.{Done}
use Rattle.bds_schedule.specs.Steps.{Leads}
use Rattle.bds_state.specs.Parts.{Parts}
use Rattle.bds_engine_parts.specs.declared.stop.RunStop.TheVariants as run_stop
use Rattle.bds_app_words.specs.Asked.{command_of}
use Rattle.bds_app_words.specs.declared.command.Command.{Command}
use Rattle.bds_app_words.specs.declared.command.Command.TheVariants.{Run, Resume, Check, Info, Make, Format, Replay}
use Rattle.bds_app_words.specs.declared.command.Command.TheVariants.{Dry, Test}
use Rattle.bds_app_words.specs.declared.command.Over.{Over}
use Rattle.bds_app_words.specs.declared.command.Over.TheVariants.{Plain, Log as Logged, Farm}
use Rattle.bds_app_run.specs.Job.{JobSteps}
use Rattle.bds_app_run.specs.Resume.{HoldsState, HoldsNone, GoesOn}
use Rattle.bds_app_run.specs.declared.call.Call.{Call}
use Rattle.bds_app_run.specs.declared.outcome.Outcome.{Outcome}
use Rattle.bds_app_run.specs.declared.outcome.Outcome.TheVariants.{Ended, Refused, BadFile, NoMemory, Ticks}
use Rattle.bds_app_run.specs.Accepted.{WasAccepted, WasRefused, IsSpent}
use Rattle.bds_app_run.specs.Complete.{ScriptIsDetermined}
use Rattle.bds_app_farm.specs.Told.{EndsAreTold, IsDetermined}
use Rattle.bds_app_trials.specs.DryRuns.{DriesScript, HasPassed}
use Rattle.bds_app_trials.specs.Testing.{HaveRun, StopsTest, is_any_too_big, status_of, summary_line, tests_of}
use Rattle.bds_app_log.specs.Logged.{is_logged, log_of}
use Rattle.bds_app_log.specs.Replays.{HoldsLog, HoldsNoLog, IsDoneAgain, IsUnlike}
use Rattle.bds_app_log.specs.Same.{IsReplayedTheSame}
use Rattle.bds_host.specs.declared.asks.Reply.{Reply}
use Rattle.bds_host.specs.declared.asks.Reply.TheVariants.{Done as Answered}
use Rattle.bds_replay.specs.Loading.{IsLogOf}
use Rattle.bds_replay.specs.declared.log.Job.{Job}
use Rattle.bds_replay.specs.declared.log.Log.{Log as ReplyLog}
use Rattle.bds_app.specs.Answers.{Answers, job_of_resume, job_of_run}
use Rattle.bds_app.specs.Causes.{AsksRun, AsksResume, AsksFile, AsksJob, AsksDry, AsksTest}
use Rattle.bds_app.specs.Formatted.{HasCanonical, HasNoCanonical}

-- behind all that was asked for a job, its log was written, and nothing else was asked
pub record WritesLog (j : Job) (path : List ℕ) (before after : Log) : Type 0 where
  pub pairs : Log
  pub bytes : List ℕ
  pub is : IsLogOf bytes (log_of j pairs)
  pub grown : after ≡ (before ++ pairs) ++ (Write path bytes, Answered) ∷ []

-- the answer is a status to which all that was asked for a job leads, and its log was written, unless memory was
-- wanting
abbrev pub IsLoggedEnd : Job → List ℕ → (ℕ → Log → Type 0) → Log → Log → Outcome → Type 0
IsLoggedEnd j path LeadsTo before after answer =
    (answer ≡ NoMemory)
    ⊎ ((status : ℕ) × ((answer ≡ Ended status)
    × ((log : WritesLog j path before after) × LeadsTo status (before ++ log.pairs))))

-- a test of a script has used its ticks
pub record IsTestSpent (c : Call) (before after : Log) : Type 0 where
  pub t : TypedScript
  pub loaded : Log
  pub loads : Loads c.path before loaded (Ok t)
  pub n : ℕ
  pub failed : ℕ
  pub log : Log
  pub run : HaveRun c t loaded n failed log
  pub stops : StopsTest c t n log after Ticks

-- each test of a script that was loaded was run and told, and so was how many have failed, which is the answer
pub record AreTested (c : Call) (before after : Log) (answer : Outcome) : Type 0 where
  pub t : TypedScript
  pub loaded : Log
  pub loads : Loads c.path before loaded (Ok t)
  pub failed : ℕ
  pub log : Log
  pub run : HaveRun c t loaded (length (tests_of t)) failed log
  pub told : after ≡ log ++ (Out (summary_line (length (tests_of t) - failed) failed), Answered) ∷ []
  pub is : answer ≡ Ended (status_of failed)

module _ (words : List (List ℕ)) (before after : Log) (answer : Outcome) where
  -- a script that was accepted, without a fault in reply and within its ticks, is run to its end, unless memory was
  -- wanting
  abbrev pub ScriptIsRun : Type 0
  ScriptIsRun =
      (c : Call) → AsksRun words c → WasAccepted c before after → faults after ≡ faults before
      → (IsSpent c before after → ⊥)
      → (answer ≡ NoMemory)
      ⊎ ((status : ℕ)
      × ((answer ≡ Ended status) × Leads (JobSteps c) (Reading []) before (AtEnd (ran (Done status))) after))

  -- a script that was refused is told as that
  abbrev pub ScriptIsRefused : Type 0
  ScriptIsRefused = (c : Call) → AsksRun words c → WasRefused c before after → faults after ≡ faults before
      → (answer ≡ NoMemory) ⊎ (answer ≡ Refused)

  -- as a script is run, a state of a file goes on to its end
  abbrev pub FileIsResumed : Type 0
  FileIsResumed =
      (cpus ticks : ℕ) (path : List ℕ) (s : Parts) (log rest : Log) → AsksResume words cpus ticks path
      → HoldsState path s before log → after ≡ log ++ rest → faults after ≡ faults before
      → (GoesOn cpus ticks s log after (Err run_stop.Ticks) → ⊥)
      → (answer ≡ NoMemory) ⊎ ((status : ℕ) × ((answer ≡ Ended status) × GoesOn cpus ticks s log after (Ok status)))

  -- or what it holds is told
  abbrev pub FileIsDescribed : Type 0
  FileIsDescribed =
      (path : List ℕ) (s : Parts) (log rest : Log) → command_of words ≡ Some (Info path) → HoldsState path s before log
      → after ≡ log ++ rest → faults after ≡ faults before → (answer ≡ NoMemory) ⊎ (answer ≡ Ended 0)

  -- a file without a state is told as that
  abbrev pub FileIsRefused : Type 0
  FileIsRefused =
      (path : List ℕ) (f : Fault) (log rest : Log) → AsksFile words path → HoldsNone path before log f
      → after ≡ log ++ rest → faults after ≡ faults before → (answer ≡ NoMemory) ⊎ (answer ≡ BadFile)

  -- a script that is loaded is told as accepted
  abbrev pub ScriptIsChecked : Type 0
  ScriptIsChecked =
      (path : List ℕ) (t : TypedScript) (log rest : Log) → command_of words ≡ Some (Check path)
      → Loads path before log (Ok t) → after ≡ log ++ rest → faults after ≡ faults before → (answer ≡ NoMemory)
      ⊎ (answer ≡ Ended 0)

  -- one that isn't, for this fault, is told as that
  abbrev pub ScriptIsFaulty : Type 0
  ScriptIsFaulty =
      (path : List ℕ) (f : FrontFault) (fault : Fault) (log rest : Log) → command_of words ≡ Some (Check path)
      → Loads path before log (Err f) → told f ≡ Some fault → after ≡ log ++ rest → faults after ≡ faults before
      → (answer ≡ NoMemory) ⊎ (answer ≡ Refused)

  -- a script that is made is run to its end, and that is told
  abbrev pub ScriptIsMade : Type 0
  ScriptIsMade =
      (n : ℕ) → command_of words ≡ Some (Make n) → faults after ≡ faults before
      → (answer ≡ NoMemory) ⊎ (answer ≡ Ended 0)

  -- a script with a canonical text is formatted
  abbrev pub ScriptIsFormatted : Type 0
  ScriptIsFormatted =
      (path text : List ℕ) (log rest : Log) → command_of words ≡ Some (Format path) → HasCanonical path before log text
      → after ≡ log ++ rest → faults after ≡ faults before
      → (answer ≡ NoMemory) ⊎ (answer ≡ Ended 0)

  -- one without is told as that
  abbrev pub ScriptIsUnformatted : Type 0
  ScriptIsUnformatted =
      (path : List ℕ) (f : Fault) (log rest : Log) → command_of words ≡ Some (Format path)
      → HasNoCanonical path before log f → after ≡ log ++ rest → faults after ≡ faults before
      → (answer ≡ NoMemory) ⊎ (answer ≡ Refused)

  -- what is run, or goes on, with a log comes to the end to which it comes without
  abbrev pub ScriptIsLogged : Type 0
  ScriptIsLogged =
      (c : Call) (path : List ℕ) → AsksJob words (Logged path) (job_of_run c.cpus c.ticks c.path c.words)
      → faults after ≡ faults before
      → (WasAccepted c before after → (IsSpent c before after → ⊥)
      → IsLoggedEnd (job_of_run c.cpus c.ticks c.path c.words) path
      (λ status log. Leads (JobSteps c) (Reading []) before (AtEnd (ran (Done status))) log) before after answer)
      × (WasRefused c before after → (answer ≡ NoMemory) ⊎ (answer ≡ Refused))

  abbrev pub FileIsLogged : Type 0
  FileIsLogged =
      (cpus ticks : ℕ) (file path : List ℕ) (log rest : Log)
      → AsksJob words (Logged path) (job_of_resume cpus ticks file) → after ≡ log ++ rest
      → faults after ≡ faults before
      → ((s : Parts) → HoldsState file s before log → (GoesOn cpus ticks s log after (Err run_stop.Ticks) → ⊥)
      → IsLoggedEnd (job_of_resume cpus ticks file) path (λ status end. GoesOn cpus ticks s log end (Ok status)) before
      after answer)
      × ((f : Fault) → HoldsNone file before log f → (answer ≡ NoMemory) ⊎ (answer ≡ BadFile))

  -- a log whose job comes to an end again by its replies is answered as that job; another, or none, is told as that
  abbrev pub LogIsReplayed : Type 0
  LogIsReplayed =
      (path : List ℕ) (l : ReplyLog) (log rest inner : Log) (left : List Reply) (came : Outcome)
      → command_of words ≡ Some (Replay path)
      → HoldsLog path l before log → after ≡ log ++ rest → faults after ≡ faults before → IsDoneAgain l inner left came
      → (left ≡ [] → is_logged came ≡ true → (answer ≡ NoMemory) ⊎ (answer ≡ came))
      × (IsUnlike came left → (answer ≡ NoMemory) ⊎ (answer ≡ BadFile))

  abbrev pub LogIsRefused : Type 0
  LogIsRefused =
      (path : List ℕ) (f : Fault) (log rest : Log) → command_of words ≡ Some (Replay path)
      → HoldsNoLog path before log f → after ≡ log ++ rest
      → faults after ≡ faults before → (answer ≡ NoMemory) ⊎ (answer ≡ BadFile)

  -- over a farm it is the farm's own log that says when a job comes to its end, and that it has one answer
  abbrev pub JobIsFarmed : Type 0
  JobIsFarmed = (j : Job) (submit poll : List ℕ) → AsksJob words (Farm submit poll) j
      → IsDetermined j submit poll before after answer

  -- where nothing is done outside, it is the log of the own host that says when a script comes to its end, and that it
  -- has one answer
  abbrev pub ScriptIsDried : Type 0
  ScriptIsDried =
      (c : Call) → AsksDry words c → (h : DriesScript c before after answer) → ScriptIsDetermined c [] h.own answer

  -- the tests of a script that is loaded, none of whose units is too large, are run
  abbrev pub TestsAreRun : Type 0
  TestsAreRun =
      (c : Call) (t : TypedScript) (log rest : Log) → AsksTest words c → Loads c.path before log (Ok t)
      → is_any_too_big t ≡ false → after ≡ log ++ rest → faults after ≡ faults before
      → (IsTestSpent c before after → ⊥) → (answer ≡ NoMemory) ⊎ AreTested c before after answer

  -- a script that isn't loaded, or with a unit that is too large, is told as that
  abbrev pub TestsAreRefused : Type 0
  TestsAreRefused =
      (c : Call) (f : FrontFault) (fault : Fault) (log rest : Log) → AsksTest words c → Loads c.path before log (Err f)
      → told f ≡ Some fault → after ≡ log ++ rest → faults after ≡ faults before
      → (answer ≡ NoMemory) ⊎ (answer ≡ Refused)

  abbrev pub TestsAreTooBig : Type 0
  TestsAreTooBig =
      (c : Call) (t : TypedScript) (log rest : Log) → AsksTest words c → Loads c.path before log (Ok t)
      → is_any_too_big t ≡ true → after ≡ log ++ rest → faults after ≡ faults before
      → (answer ≡ NoMemory) ⊎ (answer ≡ Refused)

  pub record IsComplete : Type 0 where
    pub run : ScriptIsRun
    pub refused : ScriptIsRefused
    pub resumed : FileIsResumed
    pub described : FileIsDescribed
    pub bad_file : FileIsRefused
    pub checked : ScriptIsChecked
    pub faulty : ScriptIsFaulty
    pub made : ScriptIsMade
    pub formatted : ScriptIsFormatted
    pub unformatted : ScriptIsUnformatted
    pub script_logged : ScriptIsLogged
    pub file_logged : FileIsLogged
    pub replayed : LogIsReplayed
    pub no_log : LogIsRefused
    pub farmed : JobIsFarmed
    pub dried : ScriptIsDried
    pub tested : TestsAreRun
    pub untested : TestsAreRefused
    pub tests_too_big : TestsAreTooBig

-- the log of the host holds all that a job asked: that of a farm is another one, and so is that of a host over which
-- nothing is done
abbrev pub IsWhole : Over → Type 0
IsWhole Plain = ⊤
IsWhole (Logged path) = ⊤
IsWhole (Farm submit poll) = ⊥

abbrev pub HasWholeLog : Option Command → Type 0
HasWholeLog (Some (Run cpus ticks script more over)) = IsWhole over
HasWholeLog (Some (Resume cpus ticks file over)) = IsWhole over
HasWholeLog (Some (Dry cpus ticks script more)) = ⊥
HasWholeLog (Some (Test cpus ticks script)) = ⊥
HasWholeLog _ = ⊤

-- no other answer has the same log, unless one of them tells want of memory
abbrev pub IsOnly : List (List ℕ) → Log → Log → Outcome → Type 0
IsOnly words before after answer =
    HasWholeLog (command_of words) → (other : Outcome) → Answers words before after other → (answer ≡ other)
    ⊎ ((answer ≡ NoMemory) ⊎ (other ≡ NoMemory))

-- nothing reached the outside of a dry run or of tests but reads, stamps and what is printed
abbrev pub HasPassedOnly : List (List ℕ) → Log → Log → Type 0
HasPassedOnly words before after = (c : Call) → AsksDry words c ⊎ AsksTest words c → HasPassed before after

-- each end that a farm gives was told, in a line of what the second command printed
abbrev pub AreEndsTold : List (List ℕ) → Log → Log → Type 0
AreEndsTold words before after =
    (j : Job) (submit poll : List ℕ) → AsksJob words (Farm submit poll) j → EndsAreTold submit poll before after

-- what was written of a job is replayed as that job
abbrev pub IsReplayedAgain : List (List ℕ) → Log → Log → Outcome → Type 0
IsReplayedAgain words before after answer =
    (path : List ℕ) → command_of words ≡ Some (Replay path) → IsReplayedTheSame path before after answer
