-- What a call that formats a script answers: the canonical text, or that it is longer than a text may be.
use Rattle.std.specs.Prelude.{◌≡◌, ◌≤◌, ◌<◌, ℕ, List, length, Result, Ok, Err, ⊤}
use Rattle.bds_value.specs.declared.TheConstants.{MAX_TEXT}
use Rattle.bds_tree.specs.declared.token.Token.{Token}
use Rattle.bds_fmt.specs.Canonical.{canonical}
use Rattle.bds_fmt.specs.declared.fault.FormatFault.{FormatFault}
use Rattle.bds_fmt.specs.declared.fault.FormatFault.TheVariants.{TooLong, NoMemory}

abbrev pub Formats : List ℕ → List Token → Result (List ℕ) FormatFault → Type 0
Formats text tokens (Ok formatted) = (formatted ≡ canonical text tokens) × (length (canonical text tokens) ≤ MAX_TEXT)
Formats text tokens (Err TooLong) = MAX_TEXT < length (canonical text tokens)
Formats text tokens (Err NoMemory) = ⊤
