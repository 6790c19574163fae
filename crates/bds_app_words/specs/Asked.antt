-- What the words of a call ask for: what `clap` reads by the declaration.
use Rattle.std.specs.Prelude.{◌≡◌, ◌^◌, ◌&&◌, ℕ, Bool, List, [], Option, Some, None, Result, Ok, Err, ⊤, length, nat_le}
use Rattle.std.specs.Prelude.{nat_lt, codes, if◌then◌else◌, option_and_then, option_map, unwrap_or}
use Rattle.std.specs.List.{list_all}
use Rattle.std.specs.Str.{bytes_eq}
use Rattle.std.specs.Str.Parse.{digits_value, without_leading_plus}
use Rattle.clap.specs.Words.{Row, Text, all_of, fault_of, first_of, one_of, subcommand_of}
use Rattle.clap.specs.Walk.{is_empty}
use Rattle.clap.specs.ValueTests.{is_numeral}
use Rattle.bds_value.specs.declared.TheConstants.{MAX_ITEMS, MAX_TEXT}
use Rattle.bds_app_words.specs.Declaration.{declaration}
use Rattle.bds_app_words.specs.declared.command.Command.{Command}
use Rattle.bds_app_words.specs.declared.command.Command.TheVariants.{Run, Resume, Check, Info, Make, Format, Replay}
use Rattle.bds_app_words.specs.declared.command.Command.TheVariants.{Dry, Test}
use Rattle.bds_app_words.specs.declared.command.Over.{Over}
use Rattle.bds_app_words.specs.declared.command.Over.TheVariants.{Plain, Log, Farm}
use Rattle.bds_app_words.specs.declared.command.WordsFault.{WordsFault}
use Rattle.bds_app_words.specs.declared.command.WordsFault.TheVariants.{NotUnderstood, NoMemory}

-- no more than 1,048,576 words, of at most 16,777,216 bytes each
abbrev pub are_short : List Text → Bool
are_short words = nat_le (length words) MAX_ITEMS && list_all (λ word. nat_le (length word) MAX_TEXT) words

-- the number below a bound that a text is in decimal digits, with or without a plus sign
abbrev pub number_below : ℕ → Text → Option ℕ
number_below bound text =
    let digits = without_leading_plus text in
    if is_numeral digits && nat_lt (digits_value 10 digits) bound then Some (digits_value 10 digits) else None

-- what was matched: a number of 32 or 64 bits, and a list of texts
abbrev pub number_at : ℕ → Text → List Row → Option ℕ
number_at bits id rows = option_and_then (number_below (2 ^ bits)) (one_of id rows)

abbrev pub texts_at : Text → List Row → List Text
texts_at id rows = unwrap_or (all_of id rows) []

-- the host that `--log`, `--submit` and `--poll` ask for: None where one of the last two is given without the other, or
-- with `--log`
abbrev pub over_of : Option Text → Option Text → Option Text → Option Over
over_of None None None = Some Plain
over_of (Some path) None None = Some (Log path)
over_of None (Some submit) (Some poll) = Some (Farm submit poll)
over_of log submit poll = None

abbrev pub over_at : List Row → Option Over
over_at rows = over_of (first_of (codes "log") rows) (first_of (codes "submit") rows) (first_of (codes "poll") rows)

-- what is made of the processors, the ticks and a text that were matched
abbrev pub limited_of : Text → (ℕ → ℕ → Text → Option Command) → List Row → Option Command
limited_of id make rows = option_and_then (λ cpus. option_and_then
    (λ ticks. option_and_then (λ text. make cpus ticks text) (first_of id rows)) (number_at 64 (codes "ticks") rows))
    (number_at 32 (codes "cpus") rows)

-- what the matches of each subcommand ask for

abbrev pub run_of : List Row → Option Command
run_of rows = limited_of (codes "script") (λ cpus ticks script. option_map
    (λ over. Run cpus ticks script (texts_at (codes "words") rows) over) (over_at rows)) rows

abbrev pub resume_of : List Row → Option Command
resume_of rows =
    limited_of (codes "file") (λ cpus ticks file. option_map (λ over. Resume cpus ticks file over) (over_at rows)) rows

abbrev pub dry_of : List Row → Option Command
dry_of rows =
    limited_of (codes "script") (λ cpus ticks script. Some (Dry cpus ticks script (texts_at (codes "words") rows))) rows

abbrev pub test_of : List Row → Option Command
test_of rows = limited_of (codes "script") (λ cpus ticks script. Some (Test cpus ticks script)) rows

abbrev pub asked_of : Text → List Row → Option Command
asked_of name rows = if bytes_eq name (codes "run") then run_of rows
    else (if bytes_eq name (codes "resume") then resume_of rows
    else (if bytes_eq name (codes "check") then option_map (λ script. Check script) (first_of (codes "script") rows)
    else (if bytes_eq name (codes "info") then option_map (λ file. Info file) (first_of (codes "file") rows)
    else (if bytes_eq name (codes "make") then option_map (λ n. Make n) (number_at 32 (codes "number") rows)
    else (if bytes_eq name (codes "fmt") then option_map (λ script. Format script) (first_of (codes "script") rows)
    else (if bytes_eq name (codes "replay") then option_map (λ log. Replay log) (first_of (codes "log") rows)
    else (if bytes_eq name (codes "dry") then dry_of rows
    else (if bytes_eq name (codes "test") then test_of rows
    else None))))))))

-- what the words ask for: None where they are too many or too long, or where `clap` refuses them
abbrev pub command_of : List Text → Option Command
command_of words = if are_short words && is_empty (fault_of declaration words)
    then option_and_then (λ p. asked_of p.0 p.1) (subcommand_of declaration words) else None

-- Gives wanted result: the result is what is wanted, or none of it where there is none; memory may be wanting
abbrev pub Gives : {X : Type 0} → Option X → Result X WordsFault → Type 0
Gives wanted (Ok x) = wanted ≡ Some x
Gives wanted (Err NotUnderstood) = wanted ≡ None
Gives wanted (Err NoMemory) = ⊤
