-- Which asks name a path or a command that isn't text.
use Rattle.std.specs.Prelude.{⊤}
use Rattle.std.specs.Str.{IsUtf8}
use Rattle.bds_host.specs.declared.asks.Ask.{Ask}
use Rattle.bds_host.specs.declared.asks.Ask.TheVariants.{Read, Stamp, Write, Remove, Sys, Save}

-- the path of a file, and the command of a sys, is text
abbrev pub NamesText : Ask → Type 0
NamesText (Read path) = IsUtf8 path
NamesText (Stamp path) = IsUtf8 path
NamesText (Write path _) = IsUtf8 path
NamesText (Remove path) = IsUtf8 path
NamesText (Save path _) = IsUtf8 path
NamesText (Sys command) = IsUtf8 command
NamesText _ = ⊤
