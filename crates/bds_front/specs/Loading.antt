-- What loading a script answers, with all that was asked and replied.
use Rattle.std.specs.Prelude.{◌≡◌, ◌≢◌, ◌<◌, ◌++◌, ℕ, List, [], ◌∷◌, length, Some, Result, Ok, Err, slice_get}
use Rattle.bds_value.specs.declared.TheConstants.{MAX_TEXT}
use Rattle.bds_host.specs.declared.asks.Ask.TheVariants.{Read}
use Rattle.bds_host.specs.declared.asks.Reply.TheVariants.{Bytes, Missing, Fault, NoRoom}
use Rattle.bds_host.specs.Host.{Log, Answered}
use Rattle.bds_tree.specs.declared.lexing.LexFault.{LexFault}
use Rattle.bds_tree.specs.declared.lexing.LexFault.TheVariants as lex
use Rattle.bds_tree.specs.ScriptTexts.{HasFlaw, too_long, no_tokens, no_script}
use Rattle.bds_tree.specs.StmtTree.{ScriptTree}
use Rattle.bds_tree.specs.StmtView.{script_of}
use Rattle.bds_parse_expr.specs.declared.fault.ParseFault.TheVariants as parse
use Rattle.bds_check_rules.specs.declared.rules.CheckFault.TheVariants as check
use Rattle.bds_check_typing.specs.Walk.{Broken}
use Rattle.bds_check.specs.declared.checking.TypedScript.{TypedScript}
use Rattle.bds_check_typing.specs.Files.{IsProgramOf}
use Rattle.bds_check_typing.specs.Program.{first_broken, IsAccepted, typed}
use Rattle.bds_check_typing.specs.Texts.{IsShort}
use Rattle.bds_meaning.specs.Files.{Files, paths_of, IsFileIn, IsNext}
use Rattle.bds_front.specs.declared.front_fault.FrontFault.{FrontFault}
use Rattle.bds_front.specs.declared.front_fault.FrontFault.TheVariants as front

-- of the script of this path
module _ (path : List ℕ) where
  -- these files were read, and this one is next
  abbrev pub IsNextBehind : Files → List ℕ → Type 0
  IsNextBehind files next = IsNext (IsFileIn files) path (paths_of files) next

  -- behind these files more were read, each in its place: Reads files before all after
  pub data Reads (files : Files) (before : Log) : Files → Log → Type 0 where
    nothing : Reads files before files before
    one_more : (all : Files) (log after : Log) (next text : List ℕ) → Reads files before all log → IsNextBehind all next → IsShort next → Answered log after (Read next) (Bytes text) →
        Reads files before (all ++ (next, text) ∷ []) after

  -- behind these files more were read, until there was a fault: Stops files before after fault
  pub data Stops (files : Files) (before after : Log) : FrontFault → Type 0 where
    missing : (all : Files) (log : Log) (next : List ℕ) → Reads files before all log → IsNextBehind all next → IsShort next → Answered log after (Read next) Missing → Stops files before after (front.Missing next)
    device : (all : Files) (log : Log) (next : List ℕ) → Reads files before all log → IsNextBehind all next → IsShort next → Answered log after (Read next) Fault → Stops files before after front.Device
    -- a path above the limit isn't read
    long_path : (all : Files) (next : List ℕ) → Reads files before all after → IsNextBehind all next → MAX_TEXT < length next → Stops files before after (front.TooLong next)
    -- the last file spells no script
    long_text : (all : Files) (p text : List ℕ) → Reads files before (all ++ (p, text) ∷ []) after → HasFlaw text too_long → Stops files before after (front.TooLong p)
    unlexed : (all : Files) (p text : List ℕ) (f : LexFault) → Reads files before (all ++ (p, text) ∷ []) after → HasFlaw text (no_tokens f) → f ≢ lex.NoMemory → Stops files before after (front.Lex p f)
    unspelled : (all : Files) (p text : List ℕ) (line : ℕ) → Reads files before (all ++ (p, text) ∷ []) after → HasFlaw text (no_script line) → Stops files before after (front.Parse p (parse.Syntax line))
    -- want of memory may come at any time
    no_memory : (all : Files) → Reads files before all after → Stops files before after front.NoMemory
    no_room : (all : Files) (log : Log) (next : List ℕ) → Reads files before all log → IsNextBehind all next → IsShort next → after ≡ log ++ (Read next, NoRoom) ∷ [] → Stops files before after front.NoMemory

  -- these files were read and no others, and they make this program; the includes beyond the limits were passed
  pub record Makes (before after : Log) (files : Files) (program : ScriptTree) (beyond : List (List ℕ)) : Type 0 where
    pub read : Reads [] before files after
    pub made : IsProgramOf (IsFileIn files) path program beyond
    pub paths : program.files ≡ paths_of files

  -- what loading answers, with what was added to the log
  pub data Loads (before after : Log) : Result TypedScript FrontFault → Type 0 where
    loaded : (files : Files) (program : ScriptTree) (t : TypedScript) → Makes before after files program [] → IsAccepted program → script_of t.script ≡ typed program → t.settings ≡ [] → t.args ≡ [] →
        Loads before after (Ok t)
    stopped : (f : FrontFault) → Stops [] before after f → Loads before after (Err f)
    -- the file of the first broken node
    broken : (files : Files) (program : ScriptTree) (beyond : List (List ℕ)) (b : Broken) (p : List ℕ) → Makes before after files program beyond → first_broken program ≡ Some b → slice_get program.files b.at.file ≡ Some p →
        Loads before after (Err (front.Check p (check.Broken b.rule b.at)))
    -- the first include beyond the limits
    too_deep : (files : Files) (program : ScriptTree) (p : List ℕ) (beyond : List (List ℕ)) → Makes before after files program (p ∷ beyond) → IsAccepted program → Loads before after (Err (front.IncludeTooDeep p))
