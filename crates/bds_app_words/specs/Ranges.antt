-- The ranges of what words ask for.
use Rattle.std.specs.Prelude.{◌≤◌, ℕ, List, length, ⊤}
use Rattle.std.specs.List.{All}
use Rattle.bds_value.specs.declared.TheConstants.{MAX_ITEMS, MAX_PROCESSORS, MAX_TEXT, MAX_TICKS}
use Rattle.bds_app_words.specs.declared.command.Command.{Command}
use Rattle.bds_app_words.specs.declared.command.Command.TheVariants.{Run, Resume, Check, Info, Make, Format, Replay}
use Rattle.bds_app_words.specs.declared.command.Command.TheVariants.{Dry, Test}
use Rattle.bds_app_words.specs.declared.command.Over.{Over}
use Rattle.bds_app_words.specs.declared.command.Over.TheVariants.{Plain, Log, Farm}

abbrev pub IsShort : List ℕ → Type 0
IsShort text = length text ≤ MAX_TEXT

-- how many processors there are, and ticks
abbrev pub AreLimits : ℕ → ℕ → Type 0
AreLimits cpus ticks = (1 ≤ cpus) × (cpus ≤ MAX_PROCESSORS) × (ticks ≤ MAX_TICKS)

abbrev pub IsShortOver : Over → Type 0
IsShortOver Plain = ⊤
IsShortOver (Log path) = IsShort path
IsShortOver (Farm submit poll) = IsShort submit × IsShort poll

abbrev pub IsWithin : Command → Type 0
IsWithin (Run cpus ticks script words over) =
    AreLimits cpus ticks × IsShort script × (length words ≤ MAX_ITEMS) × All IsShort words × IsShortOver over
IsWithin (Resume cpus ticks file over) = AreLimits cpus ticks × IsShort file × IsShortOver over
IsWithin (Check script) = IsShort script
IsWithin (Info file) = IsShort file
IsWithin (Make n) = (1 ≤ n) × (n ≤ 10000)
IsWithin (Format script) = IsShort script
IsWithin (Replay log) = IsShort log
IsWithin (Dry cpus ticks script words) =
    AreLimits cpus ticks × IsShort script × (length words ≤ MAX_ITEMS) × All IsShort words
IsWithin (Test cpus ticks script) = AreLimits cpus ticks × IsShort script
