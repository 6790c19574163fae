-- What the call that formats a script found: its canonical text, or why there is none.
use Rattle.std.specs.Prelude.{◌≡◌, ◌≤◌, ◌<◌, ℕ, List, length}
use Rattle.bds_value.specs.declared.TheConstants.{MAX_TEXT}
use Rattle.bds_host.specs.declared.asks.Ask.TheVariants.{Read}
use Rattle.bds_host.specs.declared.asks.Reply.TheVariants.{Bytes, Missing}
use Rattle.bds_host.specs.declared.faults.Fault.{Fault}
use Rattle.bds_host.specs.declared.faults.Fault.TheVariants as fault
use Rattle.bds_host.specs.Host.{Log, Answered}
use Rattle.bds_tree.specs.declared.token.Token.{Token}
use Rattle.bds_tree.specs.ScriptTexts.{Spells}
use Rattle.bds_tree.specs.StmtTree.{ScriptTree}
use Rattle.bds_fmt.specs.Canonical.{canonical}
use Rattle.bds_app_fmt.specs.Formatting.{IsUnformatted}

-- the text of a path was read, spells a script, and this is its canonical text
pub record HasCanonical (path : List ℕ) (before after : Log) (printed : List ℕ) : Type 0 where
  pub within : length path ≤ MAX_TEXT
  pub text : List ℕ
  pub tokens : List Token
  pub script : ScriptTree
  pub read : Answered before after (Read path) (Bytes text)
  pub spells : Spells text tokens script
  pub is : printed ≡ canonical text tokens
  pub short : length printed ≤ MAX_TEXT

-- HasNoCanonical path before after fault: there is none, which is told by this fault
pub data HasNoCanonical (path : List ℕ) (before after : Log) : Fault → Type 0 where
  missing : Answered before after (Read path) Missing → HasNoCanonical path before after (fault.Missing path)
  unformatted : (text : List ℕ) (f : Fault) → Answered before after (Read path) (Bytes text) → IsUnformatted path text f → HasNoCanonical path before after f
  -- a path above the limit isn't read
  long_path : MAX_TEXT < length path → after ≡ before → HasNoCanonical path before after (fault.TooLong path)
