-- What words come to in which `clap` finds no fault.
use Rattle.std.specs.Prelude.{◌≡◌, ◌⊎◌, [], List, Option, Some, None, codes, is_some, true}
use Rattle.clap.specs.Words.{Row, Text, fault_of, subcommand_of}
use Rattle.bds_app_words.specs.Asked.{are_short, command_of, over_at}
use Rattle.bds_app_words.specs.Declaration.{declaration}

-- a subcommand with options for the host of a script, and the options that it was given clash
abbrev pub HasClash : Option (Text × List Row) → Type 0
HasClash None = ⊥
HasClash (Some p) = ((p.0 ≡ codes "run") ⊎ (p.0 ≡ codes "resume")) × (over_at p.1 ≡ None)

-- where the words are neither too many nor too long and `clap` has no fault, they ask for something, or their options clash
abbrev pub IsUnderstood : List Text → Type 0
IsUnderstood words = are_short words ≡ true → fault_of declaration words ≡ [] → (is_some (command_of words) ≡ true) ⊎ HasClash (subcommand_of declaration words)
