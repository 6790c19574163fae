-- The command as it is declared to `clap`: its subcommands with their options and positionals.
use Rattle.std.specs.Prelude.{[], ◌∷◌, ◌++◌, Some, true, false, codes, pos}
use Rattle.clap.specs.Lexer.{usize_max}
use Rattle.clap.specs.Words.{App, Rule, Shape, Text, with_subcommand}
use Rattle.clap.specs.Simple.{new_rule, new_shape}
use Rattle.clap.specs.declared.builder.value_parser.ValueParser.TheVariants.{Signed, Unsigned}

-- `--cpus`, a number of 1 to 1,024, and 4 where it isn't given
abbrev pub cpus : Rule
cpus = record (new_rule (codes "cpus")) {
  long = Some (codes "cpus");
  parser = Some (Signed (pos 1) (pos 1024));
  defaults = codes "4" ∷ [];
}

-- `--ticks`, a number of at most 2^62, and that number where it isn't given
abbrev pub ticks : Rule
ticks = record (new_rule (codes "ticks")) {
  long = Some (codes "ticks");
  parser = Some (Unsigned 0 4611686018427387904);
  defaults = codes "4611686018427387904" ∷ [];
}

-- an option that takes a text
abbrev pub option : Text → Rule
option name = record (new_rule name) { long = Some name }

-- a positional that is wanted
abbrev pub wanted : Text → Rule
wanted name = record (new_rule name) { required = true }

-- a positional of any number of words
abbrev pub words : Rule
words = record (new_rule (codes "words")) {
  range = Some (record { start_inclusive = 0; end_inclusive = usize_max });
}

-- a positional that is wanted, a number of 1 to 10,000
abbrev pub number : Rule
number = record (new_rule (codes "number")) {
  required = true;
  parser = Some (Signed (pos 1) (pos 10000));
}

-- a command that answers neither for help nor for its version
abbrev pub plain : Text → Shape
plain name = record (new_shape name) {
  disable_help_flag = true;
  disable_help_subcommand = true;
  disable_version_flag = true;
}

abbrev pub plain_app : Text → App
plain_app name = record { top = plain name; subs = [] }

abbrev pub with_one : Text → Rule → Shape
with_one name only = record (plain name) { rules = only ∷ [] }

-- a command with processors and ticks, and one with the options of the host that a script runs over
abbrev pub limited : Text → Shape
limited name = record (plain name) { rules = cpus ∷ ticks ∷ [] }

abbrev pub hosted : Text → Shape
hosted name = record (plain name) {
  rules = cpus ∷ ticks ∷ option (codes "log") ∷ option (codes "submit") ∷ option (codes "poll") ∷ [];
}

-- a command with one argument more
abbrev pub with : Shape → Rule → Shape
with shape last = record shape { rules = shape.rules ++ last ∷ [] }

abbrev pub run : Shape
run = with (with (hosted (codes "run")) (wanted (codes "script"))) words

abbrev pub resume : Shape
resume = with (hosted (codes "resume")) (wanted (codes "file"))

abbrev pub dry : Shape
dry = with (with (limited (codes "dry")) (wanted (codes "script"))) words

abbrev pub test : Shape
test = with (limited (codes "test")) (wanted (codes "script"))

-- the command with the first of its subcommands, and with two more each time
abbrev pub with_runs : App
with_runs = record {
  top = record (plain (codes "bds")) {
    is_leaf = false;
    no_binary_name = true;
    subcommand_required = true;
  };
  subs = run ∷ resume ∷ [];
}

abbrev pub with_files : App
with_files = with_subcommand (with_subcommand with_runs (with_one (codes "check") (wanted (codes "script")))) (with_one (codes "info") (wanted (codes "file")))

abbrev pub with_texts : App
with_texts = with_subcommand (with_subcommand with_files (with_one (codes "make") number))
    (with_one (codes "fmt") (wanted (codes "script")))

abbrev pub with_hosts : App
with_hosts = with_subcommand (with_subcommand with_texts (with_one (codes "replay") (wanted (codes "log")))) dry

-- all of the subcommands, of which one is wanted
abbrev pub declaration : App
declaration = with_subcommand with_hosts test
