-- The answers of a call and their causes, each with all that was asked and replied.
use Rattle.std.specs.Prelude.{◌≡◌, ◌≢◌, ◌++◌, ◌-◌, true, false, length, ℕ, List, [], ◌∷◌, Some, None, Ok, Err, codes}
use Rattle.bds_host.specs.declared.asks.Ask.{Ask}
use Rattle.bds_host.specs.declared.asks.Ask.TheVariants.{Out, Err as Tells, Write}
use Rattle.bds_host.specs.declared.asks.Reply.{Reply}
use Rattle.bds_host.specs.declared.asks.Reply.TheVariants.{Done as Answered, Fault, NoRoom}
use Rattle.bds_host.specs.declared.faults.Fault.{Fault as AFault}
use Rattle.bds_host.specs.declared.faults.Fault.TheVariants as fault
use Rattle.bds_host.specs.Host.{Log, faults}
use Rattle.bds_host.specs.Message.{message_of}
use Rattle.bds_check.specs.declared.checking.TypedScript.{TypedScript}
use Rattle.bds_check_tests.specs.Tests.{IsTestOf}
use Rattle.bds_app_run.specs.Begun.{told}
use Rattle.bds_front.specs.Loading.{Loads}
use Rattle.bds_front.specs.declared.front_fault.FrontFault.{FrontFault}
use Rattle.bds_meaning.specs.Begin.{Reading, Refusing, Running}
use Rattle.bds_meaning.specs.Run.{Program, Conf, Moves}
use Rattle.bds_schedule.specs.Stages.{Done, Spent}
use Rattle.bds_schedule.specs.Steps.{Ends, Leads}
use Rattle.bds_state.specs.Parts.{Parts}
use Rattle.bds_engine_parts.specs.declared.stop.RunStop.TheVariants as run_stop
use Rattle.bds_tools.specs.Info.{info_text}
use Rattle.bds_tools.specs.Summary.{summary_text}
use Rattle.bds_app_words.specs.Asked.{command_of}
use Rattle.bds_app_words.specs.declared.command.Command.TheVariants.{Run, Resume, Check, Info, Make, Format, Replay}
use Rattle.bds_app_words.specs.declared.command.Command.TheVariants.{Dry, Test}
use Rattle.bds_app_words.specs.declared.command.Over.{Over}
use Rattle.bds_app_words.specs.declared.command.Over.TheVariants.{Plain, Log as Logged, Farm}
use Rattle.bds_app_run.specs.Jobs.{DoesJob}
use Rattle.bds_app_farm.specs.Farmed.{FarmsJob}
use Rattle.bds_app_farm.specs.Told.{JobIsDetermined}
use Rattle.bds_app_run.specs.Complete.{ScriptIsDetermined}
use Rattle.bds_app_log.specs.Logged.{is_logged, log_of}
use Rattle.bds_app_log.specs.Replays.{HoldsLog, HoldsNoLog, IsDoneAgain, IsUnlike, all_done, printed_in}
use Rattle.bds_replay.specs.Loading.{IsLogOf}
use Rattle.bds_replay.specs.declared.log.Job.{Job}
use Rattle.bds_replay.specs.declared.log.Log.{Log as ReplyLog}
use Rattle.bds_app_trials.specs.DryRuns.{DriesScript, IsDeviceAnswer}
use Rattle.bds_app_trials.specs.Testing.{HaveRun, RunsTest, is_any_too_big, status_of, summary_line, tests_of}
use Rattle.bds_app_run.specs.Job.{JobSteps}
use Rattle.bds_app_run.specs.Resume.{HoldsState, HoldsNone, GoesOn}
use Rattle.bds_app_run.specs.declared.call.Call.{Call}
use Rattle.bds_app_run.specs.declared.outcome.Outcome.{Outcome}
use Rattle.bds_app_run.specs.declared.outcome.Outcome.TheVariants.{Ended, Refused, BadFile, Device, Words, NoMemory}
use Rattle.bds_app_run.specs.declared.outcome.Outcome.TheVariants.{Ticks}
use Rattle.bds_app.specs.Answers.{RunsMade, job_of_resume, job_of_run}
use Rattle.bds_app.specs.Formatted.{HasCanonical, HasNoCanonical}

-- the words ask that a script be run so, that the file of a path be resumed with so many processors and ticks, or that
-- it be opened
abbrev pub AsksRun : List (List ℕ) → Call → Type 0
AsksRun words c = command_of words ≡ Some (Run c.cpus c.ticks c.path c.words Plain)

abbrev pub AsksResume : List (List ℕ) → ℕ → ℕ → List ℕ → Type 0
AsksResume words cpus ticks path = command_of words ≡ Some (Resume cpus ticks path Plain)

pub data AsksFile (words : List (List ℕ)) (path : List ℕ) : Type 0 where
  resume : (cpus ticks : ℕ) → AsksResume words cpus ticks path → AsksFile words path
  info : command_of words ≡ Some (Info path) → AsksFile words path

-- they ask that a script be run so where nothing is done outside, or that each of its tests is
abbrev pub AsksDry : List (List ℕ) → Call → Type 0
AsksDry words c = command_of words ≡ Some (Dry c.cpus c.ticks c.path c.words)

abbrev pub AsksTest : List (List ℕ) → Call → Type 0
AsksTest words c = (command_of words ≡ Some (Test c.cpus c.ticks c.path)) × (c.words ≡ [])

-- AsksJob words over job: they ask for a job over a host of its own
pub data AsksJob (words : List (List ℕ)) (over : Over) : Job → Type 0 where
  run : (cpus ticks : ℕ) (path : List ℕ) (more : List (List ℕ))
      → command_of words ≡ Some (Run cpus ticks path more over)
      → AsksJob words over (job_of_run cpus ticks path more)
  resume : (cpus ticks : ℕ) (path : List ℕ) → command_of words ≡ Some (Resume cpus ticks path over)
      → AsksJob words over (job_of_resume cpus ticks path)

-- Cause words before after answer: what stands behind an answer, and what the call added to the log for it
pub data Cause (words : List (List ℕ)) (before after : Log) : Outcome → Type 0 where
  -- the script was read and accepted, and its run is done, or its budget is spent
  ended : (c : Call) (program : Program) (at : Conf) (status : ℕ) → AsksRun words c
      → Leads (JobSteps c) (Reading []) before (Running program at) after → Moves program at (Ends (Done status))
      → Cause words before after (Ended status)
  spent : (c : Call) (program : Program) (at : Conf) → AsksRun words c
      → Leads (JobSteps c) (Reading []) before (Running program at) after → Moves program at (Ends Spent)
      → Cause words before after Ticks
  -- it was refused for this fault, which was told
  refused : (c : Call) (f : AFault) (log : Log) → AsksRun words c
      → Leads (JobSteps c) (Reading []) before (Refusing f) log → after ≡ log ++ (Tells (message_of f), Answered) ∷ []
      → Cause words before after Refused
  -- the file was read and holds a state, and what goes on from it is done, or its budget is spent
  resumed_ended : (cpus ticks : ℕ) (path : List ℕ) (s : Parts) (log : Log) (status : ℕ)
      → AsksResume words cpus ticks path → HoldsState path s before log → GoesOn cpus ticks s log after (Ok status)
      → Cause words before after (Ended status)
  resumed_spent : (cpus ticks : ℕ) (path : List ℕ) (s : Parts) (log : Log) → AsksResume words cpus ticks path
      → HoldsState path s before log → GoesOn cpus ticks s log after (Err run_stop.Ticks)
      → Cause words before after Ticks
  -- or what it holds was told
  described : (path : List ℕ) (s : Parts) (log : Log) → command_of words ≡ Some (Info path)
      → HoldsState path s before log → after ≡ log ++ (Out (info_text s), Answered) ∷ []
      → Cause words before after (Ended 0)
  -- it holds none, which was told
  bad_file : (path : List ℕ) (f : AFault) (log : Log) → AsksFile words path → HoldsNone path before log f
      → after ≡ log ++ (Tells (message_of f), Answered) ∷ [] → Cause words before after BadFile
  -- the script was loaded, or wasn't, and that was told
  checked : (path : List ℕ) (t : TypedScript) (log : Log) → command_of words ≡ Some (Check path)
      → Loads path before log (Ok t) → after ≡ log ++ (Out (codes "ok\n"), Answered) ∷ []
      → Cause words before after (Ended 0)
  unchecked : (path : List ℕ) (f : FrontFault) (g : AFault) (log : Log) → command_of words ≡ Some (Check path)
      → Loads path before log (Err f) → told f ≡ Some g → after ≡ log ++ (Tells (message_of g), Answered) ∷ []
      → Cause words before after Refused
  -- the script that was made was run, and what it asked was told; or it was refused, or its budget is spent
  made : (n : ℕ) (inner : Log) (status : ℕ) → command_of words ≡ Some (Make n) → RunsMade n inner (Ended status)
      → after ≡ before ++ (Out (summary_text inner status), Answered) ∷ [] → Cause words before after (Ended 0)
  made_refused : (n : ℕ) (log : Log) (text : List ℕ) → command_of words ≡ Some (Make n)
      → RunsMade n (log ++ (Tells text, Answered) ∷ []) Refused → after ≡ before ++ (Tells text, Answered) ∷ []
      → Cause words before after Refused
  made_spent : (n : ℕ) (inner : Log) → command_of words ≡ Some (Make n) → RunsMade n inner Ticks → after ≡ before
      → Cause words before after Ticks
  -- the script was read, and its canonical text was printed, or it was told why there is none
  formatted : (path text : List ℕ) (log : Log) → command_of words ≡ Some (Format path)
      → HasCanonical path before log text → after ≡ log ++ (Out text, Answered) ∷ []
      → Cause words before after (Ended 0)
  unformatted : (path : List ℕ) (f : AFault) (log : Log) → command_of words ≡ Some (Format path)
      → HasNoCanonical path before log f
      → after ≡ log ++ (Tells (message_of f), Answered) ∷ [] → Cause words before after Refused
  -- a job was done, and its log was written behind all that it asked; or its budget is spent
  logged : (j : Job) (path : List ℕ) (pairs : Log) (bytes : List ℕ) (came : Outcome) → AsksJob words (Logged path) j
      → DoesJob j before (before ++ pairs) came → is_logged came ≡ true → IsLogOf bytes (log_of j pairs)
      → after ≡ (before ++ pairs) ++ (Write path bytes, Answered) ∷ [] → Cause words before after came
  logged_spent : (j : Job) (path : List ℕ) → AsksJob words (Logged path) j → DoesJob j before after Ticks
      → Cause words before after Ticks
  -- a log was read, its job came by its replies to such an answer again, and what it printed was printed
  replayed : (path : List ℕ) (l : ReplyLog) (log inner : Log) (came : Outcome) → command_of words ≡ Some (Replay path)
      → HoldsLog path l before log → IsDoneAgain l inner [] came → is_logged came ≡ true
      → after ≡ log ++ all_done (printed_in inner) → Cause words before after came
  -- it didn't, or there was no log, which was told
  unlike : (path : List ℕ) (l : ReplyLog) (log inner : Log) (left : List Reply) (came : Outcome)
      → command_of words ≡ Some (Replay path) → HoldsLog path l before log → IsDoneAgain l inner left came
      → IsUnlike came left
      → after ≡ log ++ (Tells (message_of (fault.NotLoadable path)), Answered) ∷ [] → Cause words before after BadFile
  no_log : (path : List ℕ) (f : AFault) (log : Log) → command_of words ≡ Some (Replay path)
      → HoldsNoLog path before log f
      → after ≡ log ++ (Tells (message_of f), Answered) ∷ [] → Cause words before after BadFile
  -- a job was done over a farm, whose own log says what stands behind the answer
  farmed : (j : Job) (submit poll : List ℕ) (answer : Outcome) → AsksJob words (Farm submit poll) j
      → (h : FarmsJob j submit poll before after answer) → JobIsDetermined j [] h.log answer
      → Cause words before after answer
  -- a script was run where nothing is done outside: the log of its own host says what stands behind the answer
  dried : (c : Call) (answer : Outcome) → AsksDry words c → (h : DriesScript c before after answer)
      → ScriptIsDetermined c [] h.own answer
      → IsDeviceAnswer before after answer → Cause words before after answer
  -- a script was loaded, each of its tests was run and told, and so was how many failed; or one has used its ticks
  tested : (c : Call) (t : TypedScript) (loaded log : Log) (failed : ℕ) → AsksTest words c
      → Loads c.path before loaded (Ok t) → is_any_too_big t ≡ false
      → HaveRun c t loaded (length (tests_of t)) failed log
      → after ≡ log ++ (Out (summary_line (length (tests_of t) - failed) failed), Answered) ∷ []
      → Cause words before after (Ended (status_of failed))
  test_spent : (c : Call) (t test : TypedScript) (loaded log : Log) (n failed : ℕ) → AsksTest words c
      → Loads c.path before loaded (Ok t) → is_any_too_big t ≡ false
      → HaveRun c t loaded n failed log → IsTestOf t n test → RunsTest c test log after Spent
      → Cause words before after Ticks
  -- it wasn't loaded, or a unit is too large, and that was told before any test was run
  untested : (c : Call) (f : FrontFault) (g : AFault) (log : Log) → AsksTest words c → Loads c.path before log (Err f)
      → told f ≡ Some g
      → after ≡ log ++ (Tells (message_of g), Answered) ∷ [] → Cause words before after Refused
  test_too_big : (c : Call) (t : TypedScript) (log : Log) → AsksTest words c → Loads c.path before log (Ok t)
      → is_any_too_big t ≡ true
      → after ≡ log ++ (Tells (message_of (fault.TooBig c.path)), Answered) ∷ [] → Cause words before after Refused
  words_refused : command_of words ≡ None → after ≡ before ++ (Tells (message_of fault.Words), Answered) ∷ []
      → Cause words before after Words
  -- a fault is the last reply but one, and the only one before that; behind it the fault is told
  device : (pairs : Log) (ask : Ask) (reply : Reply) → faults pairs ≡ 0 → reply ≢ NoRoom
      → after ≡ before ++ (pairs ++ (ask, Fault) ∷ (Tells (message_of fault.Device), reply) ∷ [])
      → Cause words before after Device
  no_memory : Cause words before after NoMemory
