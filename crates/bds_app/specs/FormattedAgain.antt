-- What a call that formats a script prints: the canonical text of what it read, which is formatted as it is.
use Rattle.std.specs.Prelude.{◌≡◌, ◌⊎◌, ◌++◌, ◌∷◌, ℕ, List, Some}
use Rattle.bds_host.specs.declared.asks.Ask.TheVariants.{Read}
use Rattle.bds_host.specs.declared.asks.Reply.TheVariants.{Bytes}
use Rattle.bds_host.specs.Host.{Log, faults}
use Rattle.bds_app_fmt.specs.FormattedAgain.{Formatted, Gave}
use Rattle.bds_app_run.specs.declared.outcome.Outcome.{Outcome}
use Rattle.bds_app_run.specs.declared.outcome.Outcome.TheVariants.{Ended, NoMemory}
use Rattle.bds_app_words.specs.Asked.{command_of}
use Rattle.bds_app_words.specs.declared.command.Command.TheVariants.{Format}
use Rattle.bds_app.specs.Answers.{Answers}

-- a call that formats a script and ends well printed the canonical text of what it read, which spells it in all but lines
abbrev pub PrintsCanonicalText : List (List ℕ) → Log → Log → Outcome → Type 0
PrintsCanonicalText words before after answer =
    (path : List ℕ) → command_of words ≡ Some (Format path) → answer ≡ Ended 0 → Formatted path before after

-- what an earlier call printed so is printed again by this call, where it is what this call reads
abbrev pub IsFormattedAgain : List (List ℕ) → Log → Log → Outcome → Type 0
IsFormattedAgain words before after answer =
    (earlier : List (List ℕ)) (start end : Log) (from path text printed : List ℕ) (rest : Log)
    → command_of earlier ≡ Some (Format from) → Answers earlier start end (Ended 0) → Gave from text printed start end
    → command_of words ≡ Some (Format path) → after ≡ before ++ ((Read path, Bytes printed) ∷ rest) → faults after ≡ faults before
    → (answer ≡ NoMemory) ⊎ ((answer ≡ Ended 0) × Gave path printed printed before after)
