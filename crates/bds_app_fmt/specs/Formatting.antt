-- What the command that formats a script does: all that is asked, with the replies, and the answer.
use Rattle.std.specs.Prelude.{◌≡◌, ◌≤◌, ◌<◌, ℕ, List, length, Some}
use Rattle.bds_value.specs.declared.TheConstants.{MAX_TEXT}
use Rattle.bds_host.specs.declared.asks.Ask.TheVariants.{Read}
use Rattle.bds_host.specs.declared.asks.Reply.TheVariants.{Bytes, Missing, Fault as Faulted}
use Rattle.bds_host.specs.declared.faults.Fault.{Fault}
use Rattle.bds_host.specs.declared.faults.Fault.TheVariants as fault
use Rattle.bds_host.specs.Host.{Log, Answered, FoundNoRoom}
use Rattle.bds_tree.specs.declared.token.Token.{Token}
use Rattle.bds_tree.specs.ScriptTexts.{Spells, TextFlaw, HasFlaw}
use Rattle.bds_tree.specs.StmtTree.{ScriptTree}
use Rattle.bds_fmt.specs.Canonical.{canonical}
use Rattle.bds_front.specs.OneFile.{HasTokens, LacksTokens}
use Rattle.bds_front.specs.declared.front_fault.FrontFault.{FrontFault}
use Rattle.bds_front.specs.declared.one_file.Lexed.{Lexed}
use Rattle.bds_meaning.specs.Refusals.{text_fault}
use Rattle.bds_app_run.specs.Telling.{Prints, TellsDevice, TellsFault}
use Rattle.bds_app_run.specs.declared.outcome.Outcome.{Outcome}
use Rattle.bds_app_run.specs.declared.outcome.Outcome.TheVariants.{Refused, NoMemory}

-- IsUnformatted path text fault: why the text of the file of a path isn't formatted, as it is told
pub data IsUnformatted (path text : List ℕ) : Fault → Type 0 where
  -- it is too long, has no tokens, or spells no script
  flawed : (flaw : TextFlaw) (f : Fault) → HasFlaw text flaw → text_fault path flaw ≡ Some f
      → IsUnformatted path text f
  -- or its canonical text is too long
  long : (tokens : List Token) (script : ScriptTree) → Spells text tokens script
      → MAX_TEXT < length (canonical text tokens) → IsUnformatted path text (fault.TooLong path)

-- the script of a path is read, without its includes, and its canonical text is printed, or it is told why it has none
pub data FormatsFile (path : List ℕ) (before after : Log) : Outcome → Type 0 where
  formatted : (text : List ℕ) (tokens : List Token) (script : ScriptTree) (log : Log) (answer : Outcome)
      → Answered before log (Read path) (Bytes text) → Spells text tokens script
      → length (canonical text tokens) ≤ MAX_TEXT → Prints (canonical text tokens) log after answer
      → FormatsFile path before after answer
  unformatted : (text : List ℕ) (f : Fault) (log : Log) (answer : Outcome)
      → Answered before log (Read path) (Bytes text) → IsUnformatted path text f
      → TellsFault f Refused log after answer → FormatsFile path before after answer
  missing : (log : Log) (answer : Outcome) → Answered before log (Read path) Missing
      → TellsFault (fault.Missing path) Refused log after answer → FormatsFile path before after answer
  unread : (log : Log) (answer : Outcome) → Answered before log (Read path) Faulted
      → TellsDevice log after answer → FormatsFile path before after answer
  -- memory was wanting for the read, or behind it
  no_room : FoundNoRoom before after (Read path) → FormatsFile path before after NoMemory
  no_memory : (text : List ℕ) → Answered before after (Read path) (Bytes text)
      → FormatsFile path before after NoMemory

-- a path above the limit isn't read
pub data FormatsScript (path : List ℕ) (before after : Log) (answer : Outcome) : Type 0 where
  of_file : length path ≤ MAX_TEXT → FormatsFile path before after answer → FormatsScript path before after answer
  long_path : MAX_TEXT < length path → TellsFault (fault.TooLong path) Refused before after answer
      → FormatsScript path before after answer

-- For private contracts alone: what is done once the tokens of a script were read, or weren't

abbrev pub FormatsTokens : List ℕ → Lexed → Log → Log → Outcome → Type 0
FormatsTokens path lexed log after answer =
    (before : Log) → HasTokens path lexed before log → FormatsScript path before after answer

abbrev pub RefusesFor : FrontFault → Log → Log → Outcome → Type 0
RefusesFor f log after answer =
    (path : List ℕ) (before : Log) → LacksTokens path before log f → FormatsScript path before after answer
