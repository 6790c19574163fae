-- What reading one file answers.
use Rattle.std.specs.Prelude.{◌≡◌, ◌≢◌, ◌≤◌, ◌<◌, ◌++◌, ℕ, List, [], ◌∷◌, length, Result, Ok, Err}
use Rattle.bds_value.specs.declared.TheConstants.{MAX_TEXT}
use Rattle.bds_host.specs.declared.asks.Ask.TheVariants.{Read}
use Rattle.bds_host.specs.declared.asks.Reply.TheVariants.{Bytes, Missing, Fault, NoRoom}
use Rattle.bds_host.specs.Host.{Log, Answered, FoundNoRoom}
use Rattle.bds_tree.specs.declared.lexing.LexFault.{LexFault}
use Rattle.bds_tree.specs.declared.lexing.LexFault.TheVariants as lex
use Rattle.bds_tree.specs.declared.stmt.Script.{Script}
use Rattle.bds_tree.specs.declared.token.Token.{Token}
use Rattle.bds_tree.specs.ScriptTexts.{Spells, HasFlaw, too_long, no_tokens, no_script}
use Rattle.bds_tree.specs.StmtTree.{ScriptTree}
use Rattle.bds_tree.specs.StmtView.{script_of}
use Rattle.bds_tree.specs.Tokens.{tokens_of}
use Rattle.bds_parse_expr.specs.declared.fault.ParseFault.{ParseFault}
use Rattle.bds_parse_expr.specs.declared.fault.ParseFault.TheVariants as parse
use Rattle.bds_check_typing.specs.Texts.{IsShort}
use Rattle.bds_meaning.specs.Files.{Files}
use Rattle.bds_front.specs.declared.front_fault.FrontFault.{FrontFault}
use Rattle.bds_front.specs.declared.front_fault.FrontFault.TheVariants as front
use Rattle.bds_front.specs.declared.one_file.Lexed.{Lexed}
use Rattle.bds_front.specs.Loading.{IsNextBehind, Stops}

-- the file of a path was read
pub record WasAsked (next text : List ℕ) (before after : Log) : Type 0 where
  pub short : IsShort next
  pub answered : Answered before after (Read next) (Bytes text)

-- IsUnread path before after fault: the file of a path wasn't read
pub data IsUnread (path : List ℕ) (before after : Log) : FrontFault → Type 0 where
  -- a path above the limit isn't asked for
  long_path : MAX_TEXT < length path → after ≡ before → IsUnread path before after (front.TooLong path)
  missing : IsShort path → Answered before after (Read path) Missing
      → IsUnread path before after (front.Missing path)
  device : IsShort path → Answered before after (Read path) Fault → IsUnread path before after front.Device
  no_room : IsShort path → after ≡ before ++ (Read path, NoRoom) ∷ []
      → IsUnread path before after front.NoMemory
  no_memory : after ≡ before → IsUnread path before after front.NoMemory

-- why the text of the file of a path gives no script
pub data FailsText (path text : List ℕ) : FrontFault → Type 0 where
  long : HasFlaw text too_long → FailsText path text (front.TooLong path)
  unlexed : (f : LexFault) → HasFlaw text (no_tokens f) → f ≢ lex.NoMemory → FailsText path text (front.Lex path f)
  unspelled : (line : ℕ) → HasFlaw text (no_script line) → FailsText path text (front.Parse path (parse.Syntax line))
  no_memory : FailsText path text front.NoMemory

-- LacksTokens path before after fault: the file of a path wasn't read, or gives no script
pub data LacksTokens (path : List ℕ) (before after : Log) (f : FrontFault) : Type 0 where
  unread : IsUnread path before after f → LacksTokens path before after f
  failed : (text : List ℕ) → WasAsked path text before after → FailsText path text f
      → LacksTokens path before after f

-- the file of a path was read, and its text of these tokens spells a script
pub record HasTokens (path : List ℕ) (lexed : Lexed) (before after : Log) : Type 0 where
  pub script : ScriptTree
  pub asked : WasAsked path lexed.text before after
  pub spelled : Spells lexed.text lexed.tokens script

abbrev pub ReadsTokens : List ℕ → Log → Log → Result Lexed FrontFault → Type 0
ReadsTokens path before after (Ok lexed) = HasTokens path lexed before after
ReadsTokens path before after (Err f) = LacksTokens path before after f

-- For private contracts alone

abbrev pub lex_fault_of : List ℕ → LexFault → FrontFault
lex_fault_of path lex.NoMemory = front.NoMemory
lex_fault_of path f = front.Lex path f

abbrev pub parse_fault_of : List ℕ → ParseFault → FrontFault
parse_fault_of path parse.NoMemory = front.NoMemory
parse_fault_of path f = front.Parse path f

-- the tokens of a text within the limit
abbrev pub LexesText : List ℕ → List ℕ → Result (List Token) FrontFault → Type 0
LexesText path text (Ok tokens) = (length text ≤ MAX_TEXT) × (tokens_of text ≡ Ok tokens)
LexesText path text (Err f) = FailsText path text f

-- the tokens of a text that spells a script
abbrev pub GivesTokens : List ℕ → List ℕ → Result (List Token) FrontFault → Type 0
GivesTokens path text (Ok tokens) = (script : ScriptTree) × Spells text tokens script
GivesTokens path text (Err f) = FailsText path text f

-- the same of tokens, whatever text within the limit has them
abbrev pub KeepsTokens : List ℕ → List Token → Result (List Token) FrontFault → Type 0
KeepsTokens path tokens result =
    (text : List ℕ) → length text ≤ MAX_TEXT → tokens_of text ≡ Ok tokens → GivesTokens path text result

abbrev pub ParsesText : List ℕ → List ℕ → Result Script FrontFault → Type 0
ParsesText path text (Ok s) = (tokens : List Token) × Spells text tokens (script_of s)
ParsesText path text (Err f) = FailsText path text f

-- what the ask for a file came to
abbrev pub AsksText : List ℕ → Log → Log → Result (List ℕ) FrontFault → Type 0
AsksText path before after (Ok text) = Answered before after (Read path) (Bytes text)
AsksText path before after (Err (front.Missing p)) = (p ≡ path) × Answered before after (Read path) Missing
AsksText path before after (Err front.Device) = Answered before after (Read path) Fault
AsksText path before after (Err front.NoMemory) = FoundNoRoom before after (Read path)
AsksText path before after (Err _) = ⊥

-- wherever the file of a path is next, reading stops so
abbrev pub StopsAt : List ℕ → Log → Log → FrontFault → Type 0
StopsAt next before after f = (path : List ℕ) (files : Files) → IsNextBehind path files next → Stops path files before after f

abbrev pub ReadsText : List ℕ → Log → Log → Result (List ℕ) FrontFault → Type 0
ReadsText next before after (Ok text) = WasAsked next text before after
ReadsText next before after (Err f) = IsUnread next before after f

-- the file of a path was read, and its text spells this tree
pub record WasParsed (next : List ℕ) (tree : ScriptTree) (before after : Log) : Type 0 where
  pub text : List ℕ
  pub tokens : List Token
  pub asked : WasAsked next text before after
  pub spelled : Spells text tokens tree

abbrev pub ReadsScript : List ℕ → Log → Log → Result Script FrontFault → Type 0
ReadsScript next before after (Ok s) = WasParsed next (script_of s) before after
ReadsScript next before after (Err f) = StopsAt next before after f
