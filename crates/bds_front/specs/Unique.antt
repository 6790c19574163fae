-- What is read is determined by the replies.
use Rattle.std.specs.Prelude.{◌≡◌, ◌↔◌, ◌++◌, List, [], ◌∷◌, ℕ, Result, Some, ⊤}
use Rattle.bds_host.specs.declared.asks.Ask.{Ask}
use Rattle.bds_host.specs.declared.asks.Ask.TheVariants.{Err as Tells}
use Rattle.bds_host.specs.declared.asks.Reply.{Reply}
use Rattle.bds_host.specs.declared.faults.Fault.{Fault}
use Rattle.bds_host.specs.declared.faults.Fault.TheVariants as fault
use Rattle.bds_host.specs.Host.{Log}
use Rattle.bds_host.specs.Message.{message_of}
use Rattle.bds_tree.specs.declared.token.Token.{Token}
use Rattle.bds_tree.specs.ScriptTexts.{Spells, SpellsNone, TextFlaw, HasFlaw, IsLineOf, no_script}
use Rattle.bds_tree.specs.StmtTree.{ScriptTree}
use Rattle.bds_check_typing.specs.Files.{IsProgramOf}
use Rattle.bds_meaning.specs.Begin.{Job, JobEnd, refused, Stage, Reading, Refusing, Running, Steps, JobComesTo}
use Rattle.bds_schedule.specs.Determined.{IsSameAsk, replies_of}
use Rattle.bds_meaning.specs.Files.{Files, paths_of, IsFileIn, IsNext}
use Rattle.bds_meaning.specs.Refusals.{text_fault, Preset}
use Rattle.bds_meaning.specs.Run.{Program, Conf}
use Rattle.bds_schedule.specs.Steps.{Step, Goes, Asks, Ends, Leads}

-- Texts

abbrev pub IsSpelled : List ℕ → Type 0
IsSpelled text = (tokens : List Token) × (script : ScriptTree) × Spells text tokens script

abbrev pub IsFlawed : List ℕ → Type 0
IsFlawed text = (flaw : TextFlaw) × HasFlaw text flaw

-- a text spells at most one script
abbrev pub SpellsOne : Type 0
SpellsOne = (text : List ℕ) (ts us : List Token) (s t : ScriptTree) → Spells text ts s → Spells text us t → s ≡ t

-- a text has a flaw exactly where it spells no script
abbrev pub IsFlawedUnlessSpelled : Type 0
IsFlawedUnlessSpelled = (text : List ℕ) → IsFlawed text ↔ (IsSpelled text → ⊥)

-- the same, but for the line on which it is told that no script is spelled
abbrev pub IsSameFlaw : TextFlaw → TextFlaw → Type 0
IsSameFlaw (no_script line) (no_script line') = ⊤
IsSameFlaw a b = a ≡ b

-- a text has one flaw
abbrev pub HasOneFlaw : Type 0
HasOneFlaw = (text : List ℕ) (a b : TextFlaw) → HasFlaw text a → HasFlaw text b → IsSameFlaw a b

-- the line is free: that of any token will do
abbrev pub HasFreeLine : Type 0
HasFreeLine = (text : List ℕ) (tokens : List Token) (line : ℕ) → SpellsNone text tokens → HasFlaw text (no_script line) ↔ IsLineOf line tokens

-- each flaw is told by a fault
abbrev pub TellsFlaws : Type 0
TellsFlaws = (path text : List ℕ) (flaw : TextFlaw) → HasFlaw text flaw → (f : Fault) × (text_fault path flaw ≡ Some f)

-- Files

-- at most one file is next
abbrev pub HasOneNextFile : Type 0
HasOneNextFile = (files : Files) (path next next' : List ℕ) → IsNext (IsFileIn files) path (paths_of files) next → IsNext (IsFileIn files) path (paths_of files) next' → next ≡ next'

-- none is next where these are all files of a program
abbrev pub HasNoNextWhereWhole : Type 0
HasNoNextWhereWhole = (files : Files) (path next : List ℕ) (program : ScriptTree) (beyond : List (List ℕ)) →
    IsNext (IsFileIn files) path (paths_of files) next → IsProgramOf (IsFileIn files) path program beyond → program.files ≡ paths_of files → ⊥

-- files make at most one program
abbrev pub HasOneProgram : Type 0
HasOneProgram = (files : Files) (path : List ℕ) (program program' : ScriptTree) (beyond beyond' : List (List ℕ)) →
    IsProgramOf (IsFileIn files) path program beyond → IsProgramOf (IsFileIn files) path program' beyond' → (program ≡ program') × (beyond ≡ beyond')

-- Jobs

-- the same, but for the line of a text that spells no script
pub data IsSameStage : Stage → Stage → Type 0 where
  same : (s : Stage) → IsSameStage s s
  other_line : (path : List ℕ) (line line' : ℕ) → IsSameStage (Refusing (fault.Syntax path line)) (Refusing (fault.Syntax path line'))

-- the same, but for that line, and for the bytes of a saved state
abbrev pub IsSameJobStep : Step Stage JobEnd → Step Stage JobEnd → Type 0
IsSameJobStep (Goes s) (Goes t) = IsSameStage s t
IsSameJobStep (Asks a next) (Asks b next') = IsSameAsk a b × ((reply : Reply) → next reply ≡ next' reply)
IsSameJobStep (Ends e) (Ends f) = e ≡ f
IsSameJobStep _ _ = ⊥

-- a job has one next step
abbrev pub HasOneStep : Type 0
HasOneStep = (job : Job) (words : ScriptTree → Result Preset Fault) (size : ScriptTree → Preset → ℕ) (stage : Stage) (s t : Step Stage JobEnd) →
    Steps job words size stage s → Steps job words size stage t → IsSameJobStep s t

-- a job never gets stuck: wherever it has come, it can't be that no step is next
abbrev pub IsNeverStuck : Type 0
IsNeverStuck = (job : Job) (words : ScriptTree → Result Preset Fault) (size : ScriptTree → Preset → ℕ)
    (before after : Log) (stage : Stage) → Leads (Steps job words size) (Reading []) before stage after
    → ((s : Step Stage JobEnd) → Steps job words size stage s → ⊥) → ⊥

-- the same ask, but for that line, and for the bytes of a saved state
pub data IsLikeAsk : Ask → Ask → Type 0 where
  like : (a b : Ask) → IsSameAsk a b → IsLikeAsk a b
  like_told : (path : List ℕ) (line line' : ℕ) → IsLikeAsk (Tells (message_of (fault.Syntax path line))) (Tells (message_of (fault.Syntax path line')))

-- the same replies to asks that are alike
abbrev pub AreLikePairs : (Ask → Ask → Type 0) → Log → Log → Type 0
AreLikePairs Like [] [] = ⊤
AreLikePairs Like (p ∷ pairs) (q ∷ pairs') = Like p.0 q.0 × (p.1 ≡ q.1) × AreLikePairs Like pairs pairs'
AreLikePairs Like _ _ = ⊥

-- a job is a function of its replies: they lead to one end, none come behind it, and what is asked is alike
abbrev pub IsMadeByReplies : Type 0
IsMadeByReplies = (job : Job) (words : ScriptTree → Result Preset Fault) (size : ScriptTree → Preset → ℕ) (before before' pairs pairs' : Log) (rest : List Reply) (e e' : JobEnd) →
    JobComesTo job words size before (before ++ pairs) e → JobComesTo job words size before' (before' ++ pairs') e' → replies_of pairs' ≡ replies_of pairs ++ rest →
    (rest ≡ []) × (e ≡ e') × AreLikePairs IsLikeAsk pairs pairs'

-- a log belongs to one end
abbrev pub HasOneEnd : Type 0
HasOneEnd = (job : Job) (words : ScriptTree → Result Preset Fault) (size : ScriptTree → Preset → ℕ) (before after : Log) (e e' : JobEnd) →
    JobComesTo job words size before after e → JobComesTo job words size before after e' → e ≡ e'

-- where the replies lead to the opening of a run, or further, more replies lead to no refusal
abbrev pub RunsWhereAccepted : Type 0
RunsWhereAccepted = (job : Job) (words : ScriptTree → Result Preset Fault) (size : ScriptTree → Preset → ℕ) (before before' pairs pairs' : Log) (rest : List Reply) (program : Program) (c : Conf) →
    Leads (Steps job words size) (Reading []) before (Running program c) (before ++ pairs) → JobComesTo job words size before' (before' ++ pairs') refused → replies_of pairs' ≡ replies_of pairs ++ rest → ⊥

-- no log goes on both from a refusal and from the run of a script
abbrev pub IsRefusedOrRun : Type 0
IsRefusedOrRun = (job : Job) (words : ScriptTree → Result Preset Fault) (size : ScriptTree → Preset → ℕ) (before refusal run later later' : Log) (f : Fault) (program : Program) (c : Conf) →
    Leads (Steps job words size) (Reading []) before (Refusing f) refusal → Leads (Steps job words size) (Reading []) before (Running program c) run → refusal ++ later ≡ run ++ later' → ⊥
