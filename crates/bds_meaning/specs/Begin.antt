-- How a job begins: the files of its script are read, and then it is refused or its run opens.
use Rattle.std.specs.Prelude.{◌≡◌, ◌≤◌, ◌<◌, ℕ, List, [], ◌∷◌, ◌++◌, length, map, Some, Result, Ok, Err, ⊤}
use Rattle.bds_value.specs.declared.TheConstants.{MAX_TEXT}
use Rattle.bds_host.specs.declared.asks.Ask.{Ask}
use Rattle.bds_host.specs.declared.asks.Ask.TheVariants.{Read, Err as Tells}
use Rattle.bds_host.specs.declared.asks.Reply.{Reply}
use Rattle.bds_host.specs.declared.asks.Reply.TheVariants.{Bytes, Missing, Fault as Faulted}
use Rattle.bds_host.specs.declared.faults.Fault.{Fault}
use Rattle.bds_host.specs.declared.faults.Fault.TheVariants as fault
use Rattle.bds_host.specs.Host.{Log}
use Rattle.bds_host.specs.Message.{message_of}
use Rattle.bds_tree.specs.ScriptTexts.{TextFlaw, HasFlaw}
use Rattle.bds_tree.specs.StmtTree.{ScriptTree}
use Rattle.bds_check_typing.specs.Files.{IsProgramOf}
use Rattle.bds_schedule.specs.Configuration.{IsOnWay as RunIsOnWay}
use Rattle.bds_meaning.specs.Files.{Files, paths_of, IsFileIn, IsNext}
use Rattle.bds_meaning.specs.Opening.{opening, program_of}
use Rattle.bds_meaning.specs.Refusals.{text_fault, Preset, Accepted, accepted}
use Rattle.bds_meaning.specs.Run.{Program, Conf, Moves}
use Rattle.bds_schedule.specs.Stages.{End, DeviceFault}
use Rattle.bds_schedule.specs.Steps.{Step, Goes, Asks, Ends, Leads, Halts}

-- the script to run, with processors and budget
pub record Job : Type 0 where
  pub path : List ℕ
  pub cpus : ℕ
  pub budget : ℕ

-- what a job comes to
pub data JobEnd : Type 0 where
  ran : End → JobEnd
  refused : JobEnd

-- how far a job is
pub data Stage : Type 0 where
  -- these files were read
  Reading : Files → Stage
  -- it isn't run for this fault, which is told
  Refusing : Fault → Stage
  -- a reply was a fault, which is told
  Faulting : Stage
  -- the program runs, and is this far
  Running : Program → Conf → Stage
  AtEnd : JobEnd → Stage

-- the end isn't there yet
abbrev pub IsOnWay : Stage → Type 0
IsOnWay (Running program c) = RunIsOnWay c.mode
IsOnWay (AtEnd end) = ⊥
IsOnWay _ = ⊤

-- behind the reply to the read of a file
abbrev pub read_gives : Files → List ℕ → Reply → Stage
read_gives files path (Bytes text) = Reading (files ++ (path, text) ∷ [])
read_gives files path Missing = Refusing (fault.Missing path)
read_gives files path _ = Faulting

-- behind a reply that is told in no other way: a fault is
abbrev pub or_faulting : Stage → Reply → Stage
or_faulting s Faulted = Faulting
or_faulting s _ = s

-- the run of a job opens
abbrev pub opens : Job → Accepted → Stage
opens job r = Running (program_of r.script) (opening job.path job.cpus job.budget r.preset.settings r.preset.args r.script)

abbrev pub opens_if : Job → Result Accepted Fault → Stage
opens_if job (Ok r) = opens job r
opens_if job (Err f) = Refusing f

-- the reads of these files, in order
abbrev pub reads_of : Files → Log
reads_of files = map (λ f. (Read f.0, Bytes f.1)) files

-- the job; what the words of the call set in a typed script, or the fault of a word; and how many instructions its code has
module _ (job : Job) (words : ScriptTree → Result Preset Fault) (size : ScriptTree → Preset → ℕ) where
  -- what comes next
  pub data Steps : Stage → Step Stage JobEnd → Type 0 where
    reads : (files : Files) (next : List ℕ) → IsNext (IsFileIn files) job.path (paths_of files) next → length next ≤ MAX_TEXT →
        Steps (Reading files) (Asks (Read next) (read_gives files next))
    long_path : (files : Files) (next : List ℕ) → IsNext (IsFileIn files) job.path (paths_of files) next → MAX_TEXT < length next →
        Steps (Reading files) (Goes (Refusing (fault.TooLong next)))
    -- the last file spells no script
    flawed : (files : Files) (path text : List ℕ) (flaw : TextFlaw) (f : Fault) → HasFlaw text flaw → text_fault path flaw ≡ Some f →
        Steps (Reading (files ++ (path, text) ∷ [])) (Goes (Refusing f))
    -- these are all files
    whole : (files : Files) (program : ScriptTree) (beyond : List (List ℕ)) → IsProgramOf (IsFileIn files) job.path program beyond → program.files ≡ paths_of files →
        Steps (Reading files) (Goes (opens_if job (accepted job.path words size program beyond)))
    run_goes : (program : Program) (c d : Conf) → Moves program c (Goes d) → Steps (Running program c) (Goes (Running program d))
    run_asks : (program : Program) (c : Conf) (ask : Ask) (next : Reply → Conf) → Moves program c (Asks ask next) → Steps (Running program c) (Asks ask (λ reply. Running program (next reply)))
    run_ends : (program : Program) (c : Conf) (end : End) → Moves program c (Ends end) → Steps (Running program c) (Goes (AtEnd (ran end)))
    refuses : (f : Fault) → Steps (Refusing f) (Asks (Tells (message_of f)) (or_faulting (AtEnd refused)))
    faults : Steps Faulting (Asks (Tells (message_of fault.Device)) (λ reply. AtEnd (ran DeviceFault)))
    comes : (end : JobEnd) → Steps (AtEnd end) (Ends end)

  -- Begins pairs stage: these are the reads of the script and its includes with their replies, and then the job is so far: refused, or opened
  abbrev pub Begins : Log → Stage → Type 0
  Begins pairs stage = Leads Steps (Reading []) [] stage pairs

  -- all that the job asks, with the replies, was added to the log, and it came to this end
  abbrev pub JobComesTo : Log → Log → JobEnd → Type 0
  JobComesTo before after end = Leads Steps (Reading []) before (AtEnd end) after

  -- there was no memory before the end
  abbrev pub JobHalts : Log → Log → Type 0
  JobHalts before after = Halts Steps IsOnWay (Reading []) before after

-- while files are read nothing else is asked, and each is read once in its place
abbrev pub BeginsWithReads : Type 0
BeginsWithReads =
    (job : Job) (words : ScriptTree → Result Preset Fault) (size : ScriptTree → Preset → ℕ) (files : Files) (pairs : Log)
    → Begins job words size pairs (Reading files) → pairs ≡ reads_of files
