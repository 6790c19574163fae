-- Each subcommand of the declaration is plain, so what words ask for is within its ranges.
use Rattle.std.proofs.Common.{◌≡◌, ◌≤◌, ◌&&◌, ◌+◌, ℕ, Bool, true, false, refl, cond, inl, inr, arith, List, [], ◌∷◌}
use Rattle.std.proofs.Common.{length, suc, Option, Some, None, Result, Ok, Err, codes}
use Rattle.std.specs.List.{AllByRecursion, list_all}
use Rattle.std.specs.Prelude.{IfOk, find, nat_le, option_and_then, option_map, slice_get}
use Rattle.std.specs.Option.{option_map_or}
use Rattle.std.proofs.lemmas.Bool.{leb-true, eqb-true}
use Rattle.clap.specs.Faults.{entered_fault, fault_of, level_fault}
use Rattle.clap.specs.Kinds.{Kinds}
use Rattle.clap.specs.Simple.{Shape, built, entered, label_of, names_of, rows_at, subcommand_of}
use Rattle.clap.specs.Walk.{Text, answers_to, is_empty, nothing_held, walk, walk_from}
use Rattle.clap.proofs.WalkLemmas.{both}
use Rattle.bds_value.specs.declared.TheConstants.{MAX_ITEMS, MAX_TEXT, MAX_TICKS}
use Rattle.bds_app_words.specs.Asked.{Gives, are_short, asked_of, command_of}
use Rattle.bds_app_words.specs.Declaration.{declaration}
use Rattle.bds_app_words.specs.Ranges.{IsShort, IsWithin}
use Rattle.bds_app_words.specs.declared.command.Command.{Command}
use Rattle.bds_app_words.specs.declared.command.Command.TheVariants.{Check, Info, Format, Replay}
use Rattle.bds_app_words.specs.declared.command.WordsFault.{WordsFault}
use Rattle.bds_app_words.proofs.Fitting.{IsPlainRule, each_found, no_first, no_second}
use Rattle.bds_app_words.proofs.Ranges.{IsGood, StopFits, TakesSigned, TakesUnsigned, dry_within, good, make_within}
use Rattle.bds_app_words.proofs.Ranges.{resume_within, run_within, stop_fewer, test_within, text_within, walk_stops}

abbrev pub subcommands : List Shape
subcommands = (built declaration).subs

abbrev shape_at : ℕ → Shape
shape_at i = option_map_or (λ s. s) (slice_get subcommands i) declaration.top

abbrev pub run : Shape
run = shape_at 0

pub run_plain : AllByRecursion (IsPlainRule run.rules) run.rules
run_plain = (
  record {
    own = refl;
    none_missing = refl;
    acts = inl refl;
    unnamed = λ x. refl;
    few_defaults = omega arith;
    short_defaults = (omega arith, tt);
    passing_defaults = refl;
  },
  (
    record {
      own = refl;
      none_missing = refl;
      acts = inl refl;
      unnamed = λ x. refl;
      few_defaults = omega arith;
      short_defaults = (omega arith, tt);
      passing_defaults = refl;
    },
    (
      record {
        own = refl;
        none_missing = refl;
        acts = inl refl;
        unnamed = λ x. refl;
        few_defaults = omega arith;
        short_defaults = tt;
        passing_defaults = refl;
      },
      (
        record {
          own = refl;
          none_missing = refl;
          acts = inl refl;
          unnamed = λ x. refl;
          few_defaults = omega arith;
          short_defaults = tt;
          passing_defaults = refl;
        },
        (
          record {
            own = refl;
            none_missing = refl;
            acts = inl refl;
            unnamed = λ x. refl;
            few_defaults = omega arith;
            short_defaults = tt;
            passing_defaults = refl;
          },
          (
            record {
              own = refl;
              none_missing = refl;
              acts = inl refl;
              unnamed = λ x. refl;
              few_defaults = omega arith;
              short_defaults = tt;
              passing_defaults = refl;
            },
            (
              record {
                own = refl;
                none_missing = refl;
                acts = inr refl;
                unnamed = λ x. refl;
                few_defaults = omega arith;
                short_defaults = tt;
                passing_defaults = refl;
              },
              tt,
            ),
          ),
        ),
      ),
    ),
  ),
)

abbrev pub resume : Shape
resume = shape_at 1

pub resume_plain : AllByRecursion (IsPlainRule resume.rules) resume.rules
resume_plain = (
  record {
    own = refl;
    none_missing = refl;
    acts = inl refl;
    unnamed = λ x. refl;
    few_defaults = omega arith;
    short_defaults = (omega arith, tt);
    passing_defaults = refl;
  },
  (
    record {
      own = refl;
      none_missing = refl;
      acts = inl refl;
      unnamed = λ x. refl;
      few_defaults = omega arith;
      short_defaults = (omega arith, tt);
      passing_defaults = refl;
    },
    (
      record {
        own = refl;
        none_missing = refl;
        acts = inl refl;
        unnamed = λ x. refl;
        few_defaults = omega arith;
        short_defaults = tt;
        passing_defaults = refl;
      },
      (
        record {
          own = refl;
          none_missing = refl;
          acts = inl refl;
          unnamed = λ x. refl;
          few_defaults = omega arith;
          short_defaults = tt;
          passing_defaults = refl;
        },
        (
          record {
            own = refl;
            none_missing = refl;
            acts = inl refl;
            unnamed = λ x. refl;
            few_defaults = omega arith;
            short_defaults = tt;
            passing_defaults = refl;
          },
          (
            record {
              own = refl;
              none_missing = refl;
              acts = inl refl;
              unnamed = λ x. refl;
              few_defaults = omega arith;
              short_defaults = tt;
              passing_defaults = refl;
            },
            tt,
          ),
        ),
      ),
    ),
  ),
)

abbrev pub check : Shape
check = shape_at 2

pub check_plain : AllByRecursion (IsPlainRule check.rules) check.rules
check_plain = (
  record {
    own = refl;
    none_missing = refl;
    acts = inl refl;
    unnamed = λ x. refl;
    few_defaults = omega arith;
    short_defaults = tt;
    passing_defaults = refl;
  },
  tt,
)

abbrev pub info : Shape
info = shape_at 3

pub info_plain : AllByRecursion (IsPlainRule info.rules) info.rules
info_plain = (
  record {
    own = refl;
    none_missing = refl;
    acts = inl refl;
    unnamed = λ x. refl;
    few_defaults = omega arith;
    short_defaults = tt;
    passing_defaults = refl;
  },
  tt,
)

abbrev pub make : Shape
make = shape_at 4

pub make_plain : AllByRecursion (IsPlainRule make.rules) make.rules
make_plain = (
  record {
    own = refl;
    none_missing = refl;
    acts = inl refl;
    unnamed = λ x. refl;
    few_defaults = omega arith;
    short_defaults = tt;
    passing_defaults = refl;
  },
  tt,
)

abbrev pub fmt : Shape
fmt = shape_at 5

pub fmt_plain : AllByRecursion (IsPlainRule fmt.rules) fmt.rules
fmt_plain = (
  record {
    own = refl;
    none_missing = refl;
    acts = inl refl;
    unnamed = λ x. refl;
    few_defaults = omega arith;
    short_defaults = tt;
    passing_defaults = refl;
  },
  tt,
)

abbrev pub replay : Shape
replay = shape_at 6

pub replay_plain : AllByRecursion (IsPlainRule replay.rules) replay.rules
replay_plain = (
  record {
    own = refl;
    none_missing = refl;
    acts = inl refl;
    unnamed = λ x. refl;
    few_defaults = omega arith;
    short_defaults = tt;
    passing_defaults = refl;
  },
  tt,
)

abbrev pub dry : Shape
dry = shape_at 7

pub dry_plain : AllByRecursion (IsPlainRule dry.rules) dry.rules
dry_plain = (
  record {
    own = refl;
    none_missing = refl;
    acts = inl refl;
    unnamed = λ x. refl;
    few_defaults = omega arith;
    short_defaults = (omega arith, tt);
    passing_defaults = refl;
  },
  (
    record {
      own = refl;
      none_missing = refl;
      acts = inl refl;
      unnamed = λ x. refl;
      few_defaults = omega arith;
      short_defaults = (omega arith, tt);
      passing_defaults = refl;
    },
    (
      record {
        own = refl;
        none_missing = refl;
        acts = inl refl;
        unnamed = λ x. refl;
        few_defaults = omega arith;
        short_defaults = tt;
        passing_defaults = refl;
      },
      (
        record {
          own = refl;
          none_missing = refl;
          acts = inr refl;
          unnamed = λ x. refl;
          few_defaults = omega arith;
          short_defaults = tt;
          passing_defaults = refl;
        },
        tt,
      ),
    ),
  ),
)

abbrev pub test : Shape
test = shape_at 8

pub test_plain : AllByRecursion (IsPlainRule test.rules) test.rules
test_plain = (
  record {
    own = refl;
    none_missing = refl;
    acts = inl refl;
    unnamed = λ x. refl;
    few_defaults = omega arith;
    short_defaults = (omega arith, tt);
    passing_defaults = refl;
  },
  (
    record {
      own = refl;
      none_missing = refl;
      acts = inl refl;
      unnamed = λ x. refl;
      few_defaults = omega arith;
      short_defaults = (omega arith, tt);
      passing_defaults = refl;
    },
    (
      record {
        own = refl;
        none_missing = refl;
        acts = inl refl;
        unnamed = λ x. refl;
        few_defaults = omega arith;
        short_defaults = tt;
        passing_defaults = refl;
      },
      tt,
    ),
  ),
)

run_cpus : TakesSigned run.rules (codes "cpus") 1024
run_cpus = record { signed_rule = _; signed_known = refl; signed_parser = refl }

run_ticks : TakesUnsigned run.rules (codes "ticks") MAX_TICKS
run_ticks = record { unsigned_rule = _; unsigned_known = refl; unsigned_parser = refl }

resume_cpus : TakesSigned resume.rules (codes "cpus") 1024
resume_cpus = record { signed_rule = _; signed_known = refl; signed_parser = refl }

resume_ticks : TakesUnsigned resume.rules (codes "ticks") MAX_TICKS
resume_ticks = record { unsigned_rule = _; unsigned_known = refl; unsigned_parser = refl }

dry_cpus : TakesSigned dry.rules (codes "cpus") 1024
dry_cpus = record { signed_rule = _; signed_known = refl; signed_parser = refl }

dry_ticks : TakesUnsigned dry.rules (codes "ticks") MAX_TICKS
dry_ticks = record { unsigned_rule = _; unsigned_known = refl; unsigned_parser = refl }

test_cpus : TakesSigned test.rules (codes "cpus") 1024
test_cpus = record { signed_rule = _; signed_known = refl; signed_parser = refl }

test_ticks : TakesUnsigned test.rules (codes "ticks") MAX_TICKS
test_ticks = record { unsigned_rule = _; unsigned_known = refl; unsigned_parser = refl }

make_number : TakesSigned make.rules (codes "number") 10000
make_number = record { signed_rule = _; signed_known = refl; signed_parser = refl }

all_good : AllByRecursion IsGood subcommands
all_good = (
  good run run_plain (λ x. refl) (λ n most rows fits. run_within run.rules n most rows fits run_cpus run_ticks),
  (
    good resume resume_plain (λ x. refl) (λ n most rows fits. resume_within resume.rules n most rows fits resume_cpus
        resume_ticks),
    (
      good check check_plain (λ x. refl) (λ n most rows fits. text_within check.rules n most rows fits (codes "script")
          (λ text. Check text) (λ text short. short)),
      (
        good info info_plain (λ x. refl) (λ n most rows fits. text_within info.rules n most rows fits (codes "file")
            (λ text. Info text) (λ text short. short)),
        (
          good make make_plain (λ x. refl) (λ n most rows fits. make_within make.rules n most rows fits make_number),
          (
            good fmt fmt_plain (λ x. refl) (λ n most rows fits. text_within fmt.rules n most rows fits (codes "script")
                (λ text. Format text) (λ text short. short)),
            (
              good replay replay_plain (λ x. refl)
                  (λ n most rows fits. text_within replay.rules n most rows fits (codes "log") (λ text. Replay text)
                  (λ text short. short)),
              (
                good dry dry_plain (λ x. refl) (λ n most rows fits. dry_within dry.rules n most rows fits dry_cpus
                    dry_ticks),
                (
                  good test test_plain (λ x. refl)
                      (λ n most rows fits. test_within test.rules n most rows fits test_cpus test_ticks),
                  tt,
                ),
              ),
            ),
          ),
        ),
      ),
    ),
  ),
)

-- ---- the words

pub each_short : (words : List Text) → list_all (λ word. nat_le (length word) MAX_TEXT) words ≡ true
    → AllByRecursion IsShort words
each_short [] e = tt
each_short (word ∷ words) e =
    let parts = both _ _ e in (leb-true (length word) MAX_TEXT parts.0, each_short words parts.1)

pub no_kinds : (kinds : Kinds) → is_empty kinds ≡ true → kinds ≡ []
no_kinds [] e = refl
no_kinds (k ∷ ks) e =
    let none = eqb-true (suc (length ks)) 0 e in
    absurd (omega (arith, none))

-- what `clap` enters, where it has no fault and the words are short
entered_within : (stop : Option (Text × List Text)) → StopFits MAX_ITEMS stop
    → entered_fault (built declaration) stop ≡ [] → (command : Command)
    → option_and_then (λ p. asked_of p.0 p.1) (entered (built declaration) stop) ≡ Some command → IsWithin command
entered_within None f none command e = absurd (cc e)
entered_within (Some p) f none command e = go (find (λ s. answers_to p.0 (label_of s)) subcommands) refl none e
  where
    go : (o : Option Shape) → find (λ s. answers_to p.0 (label_of s)) subcommands ≡ o
        → option_map_or (λ s. level_fault s [] nothing_held p.1 false []) o [] ≡ []
        → option_and_then (λ q. asked_of q.0 q.1) (option_map (λ s. rows_at s p.1) o) ≡ Some command → IsWithin command
    go None is none e = absurd (cc e)
    go (Some s) is none e =
        each_found IsGood (λ x. answers_to p.0 (label_of x)) subcommands s all_good is p.1 f.1 f.0 none command e

pub within : (words : List Text) (command : Command) → command_of words ≡ Some command → IsWithin command
within words command e = go (are_short words) refl (is_empty (fault_of declaration words)) refl e
  where
    go : (a : Bool) → are_short words ≡ a → (b : Bool) → is_empty (fault_of declaration words) ≡ b
        → cond (a && b) (option_and_then (λ p. asked_of p.0 p.1) (subcommand_of declaration words)) None ≡ Some command
        → IsWithin command
    go false is b at e = absurd (cc e)
    go true is false at e = absurd (cc e)
    go true is true at e =
        let few : length words ≤ MAX_ITEMS = leb-true (length words) MAX_ITEMS (both _ _ is).0 in
        let bound : length words + 0 ≤ MAX_ITEMS = omega (arith, few) in
        let shorts : AllByRecursion IsShort words = each_short words (both _ _ is).1 in
        let top = (built declaration).top in
        let names = names_of (built declaration) in
        let stop = (walk top.rules names nothing_held words).stopped in
        let reached : StopFits (length words + 0) stop =
        walk_stops top.rules names words (walk_from nothing_held) 0 shorts tt in
        let fits = stop_fewer (length words + 0) MAX_ITEMS bound stop reached in
        let clean : entered_fault (built declaration) stop ≡ [] =
        no_first _ _ (no_second _ _ (no_kinds (fault_of declaration words) at)) in
        entered_within stop fits clean command e

-- the same of how words are read
pub given_within : (words : List Text) (r : Result Command WordsFault) → Gives (command_of words) r → IfOk r IsWithin
given_within words (Ok command) h = within words command h
given_within words (Err fault) h = tt
