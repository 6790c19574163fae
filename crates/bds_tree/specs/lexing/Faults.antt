-- What is wrong with a text, with its line, and what goes on where nothing is.
use Rattle.std.specs.Prelude.{ℕ, Result, Ok, Err}
use Rattle.bds_tree.specs.declared.lexing.Flaw.{Flaw}
use Rattle.bds_tree.specs.declared.lexing.Flaw.TheVariants as flaw
use Rattle.bds_tree.specs.declared.lexing.LexFault.{LexFault}
use Rattle.bds_tree.specs.declared.lexing.LexFault.TheVariants as fault

-- a flaw at a line
abbrev pub at_line : ℕ → Flaw → LexFault
at_line line flaw.OpenText = fault.OpenText line
at_line line flaw.OpenComment = fault.OpenComment line
at_line line (flaw.BadByte b) = fault.BadByte line b
at_line line flaw.BigNumber = fault.BigNumber line
at_line line (flaw.BadEscape b) = fault.BadEscape line b
at_line line flaw.NoMemory = fault.NoMemory
