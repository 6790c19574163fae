-- Words that are neither too many nor too long, and without a fault of `clap`, ask for something, or their options
-- clash.
use Rattle.std.proofs.Common.{◌≡◌, ◌&&◌, ◌+◌, ◌⊎◌, ℕ, Bool, true, false, refl, ap, cond, inl, inr, arith, List, []}
use Rattle.std.proofs.Common.{length, suc, Option, Some, None, codes}
use Rattle.std.specs.List.{AllByRecursion}
use Rattle.std.specs.Prelude.{find, is_some, option_and_then, option_map}
use Rattle.std.specs.Option.{option_map_or}
use Rattle.clap.specs.Faults.{check_fault, defaults_fault, entered_fault, fault_of, level_fault, settle_fault}
use Rattle.clap.specs.Faults.{walk_fault}
use Rattle.clap.specs.Simple.{Shape, built, entered, label_of, names_of, rows_at, subcommand_of}
use Rattle.clap.specs.Walk.{Row, Text, answers_to, arg_by_short, finished, first_of, is_empty, nothing_held, rows_after}
use Rattle.clap.specs.Walk.{settled, walk, walk_from}
use Rattle.clap.proofs.WalkLemmas.{both}
use Rattle.bds_value.specs.declared.TheConstants.{MAX_TICKS}
use Rattle.bds_app_words.specs.Asked.{are_short, asked_of, limited_of, number_at, over_at, texts_at}
use Rattle.bds_app_words.specs.Declaration.{declaration}
use Rattle.bds_app_words.specs.Ranges.{IsShort}
use Rattle.bds_app_words.specs.Understood.{HasClash, IsUnderstood}
use Rattle.bds_app_words.specs.declared.command.Command.{Command}
use Rattle.bds_app_words.specs.declared.command.Command.TheVariants.{Run, Resume, Dry, Test}
use Rattle.bds_app_words.specs.declared.command.Over.{Over}
use Rattle.bds_app_words.proofs.Declared.{check, check_plain, dry, dry_plain, each_short, fmt, fmt_plain, info}
use Rattle.bds_app_words.proofs.Declared.{info_plain, make, make_plain, replay, replay_plain, resume, resume_plain, run}
use Rattle.bds_app_words.proofs.Declared.{run_plain, subcommands, test, test_plain}
use Rattle.bds_app_words.proofs.Filled.{AreFilled, defaults_fill, uses_fill}
use Rattle.bds_app_words.proofs.Fitting.{IsPlainRule, RowFits, each_found, no_first, no_second}
use Rattle.bds_app_words.proofs.Found.{signed_there, text_there, unsigned_there}
use Rattle.bds_app_words.proofs.Keeping.{level_keeps}
use Rattle.bds_app_words.proofs.Present.{HasDefault, HasRequired, defaults_there, required_there, subcommand_there}
use Rattle.bds_app_words.proofs.Ranges.{StopFits, walk_stops}
use Rattle.bds_app_words.proofs.Rows.{level_fits}

-- ---- a subcommand

-- rows that fit, with values, of each argument that is required or has a default
pub record HasRows (s : Shape) (n : ℕ) (rows : List Row) : Type 0 where
  pub fits : AllByRecursion (RowFits s.rules 0 n) rows
  pub filled : AreFilled s.rules rows
  pub wanted : AllByRecursion (HasRequired rows) s.rules
  pub given : AllByRecursion (HasDefault rows) s.rules

level_rows : (s : Shape) → AllByRecursion (IsPlainRule s.rules) s.rules → ((x : ℕ) → arg_by_short s.rules x ≡ None)
    → (words : List Text) → AllByRecursion IsShort words
    → level_fault s [] nothing_held words false [] ≡ [] → HasRows s (suc (length words)) (rows_after s.rules [] words)
level_rows s plains unnamed words shorts none =
    let end = (walk s.rules [] nothing_held words).held in
    let before =
    level_keeps s (AreFilled s.rules) (uses_fill s.rules s.args_override_self) plains unnamed words tt none in
    let later = no_second (walk_fault s [] (walk_from nothing_held) words) _ none in
    let last = no_second (settle_fault s.rules s.args_override_self end) _ later in
    let checked : check_fault s (finished s.rules end) false ≡ [] =
    no_second (defaults_fault (settled s.rules end).rows s.rules) _ last in
    record {
      fits = level_fits s plains unnamed words shorts none;
      filled = defaults_fill s.rules s.rules (settled s.rules end).rows plains before;
      wanted = required_there s (finished s.rules end) checked;
      given = defaults_there s.rules (settled s.rules end).rows;
    }

some_then : {X Y : Type 0} (f : X → Option Y) (o : Option X) → is_some o ≡ true → ((x : X) → is_some (f x) ≡ true)
    → is_some (option_and_then f o) ≡ true
some_then f None some next = absurd (cc some)
some_then f (Some x) some next = next x

some_map : {X Y : Type 0} (f : X → Y) (o : Option X) → is_some o ≡ true → is_some (option_map f o) ≡ true
some_map f None some = absurd (cc some)
some_map f (Some x) some = refl

-- a subcommand with its rows asks for something, or its options clash
abbrev IsAsked : Option (Text × List Row) → Type 0
IsAsked o = (is_some (option_and_then (λ p. asked_of p.0 p.1) o) ≡ true) ⊎ HasClash o

-- so it is whatever words without a fault follow its name
abbrev IsAnswered : Shape → Type 0
IsAnswered s = (words : List Text) → AllByRecursion IsShort words → level_fault s [] nothing_held words false [] ≡ []
    → IsAsked (Some (s.name, rows_after s.rules [] words))

answered : (s : Shape) → AllByRecursion (IsPlainRule s.rules) s.rules → ((x : ℕ) → arg_by_short s.rules x ≡ None)
    → ((n : ℕ) (rows : List Row) → HasRows s n rows → IsAsked (Some (s.name, rows))) → IsAnswered s
answered s plains unnamed asks words shorts none =
    asks (suc (length words)) (rows_after s.rules [] words) (level_rows s plains unnamed words shorts none)

-- processors, ticks and a text are there
abbrev HasLimits : Text → List Row → Type 0
HasLimits id rows = (is_some (number_at 32 (codes "cpus") rows) ≡ true)
    × (is_some (number_at 64 (codes "ticks") rows) ≡ true) × (is_some (first_of id rows) ≡ true)

limited_asks : (id : Text) (asked : ℕ → ℕ → Text → Option Command) (rows : List Row) → HasLimits id rows
    → ((cpus ticks : ℕ) (text : Text) → is_some (asked cpus ticks text) ≡ true)
    → is_some (limited_of id asked rows) ≡ true
limited_asks id asked rows h step =
    some_then _ _ h.0 (λ cpus. some_then _ _ h.1 (λ ticks. some_then _ _ h.2 (λ text. step cpus ticks text)))

hosted_asks : (id : Text) (asked : ℕ → ℕ → Text → Over → Command) (rows : List Row) → HasLimits id rows
    → (is_some (limited_of id (λ cpus ticks text. option_map (λ over. asked cpus ticks text over) (over_at rows)) rows)
    ≡ true) ⊎ (over_at rows ≡ None)
hosted_asks id asked rows h = go (over_at rows) refl
  where
    go : (o : Option Over) → over_at rows ≡ o
        → (is_some (limited_of id (λ cpus ticks text. option_map (λ over. asked cpus ticks text over) (over_at rows))
        rows) ≡ true) ⊎ (over_at rows ≡ None)
    go None is = inr is
    go (Some over) is = inl (limited_asks id (λ cpus ticks text. option_map (λ over. asked cpus ticks text over)
        (over_at rows)) rows h (λ cpus ticks text. some_map _ _ (ap is_some is)))

or_by : {A B C : Type 0} → (B → C) → A ⊎ B → A ⊎ C
or_by f (inl a) = inl a
or_by f (inr b) = inr (f b)

-- ---- the subcommands of the declaration

run_limits : (n : ℕ) (rows : List Row) → HasRows run n rows → HasLimits (codes "script") rows
run_limits n rows h = (
  signed_there run.rules n rows h.fits h.filled (codes "cpus") _ refl (omega arith) (h.given.0 (omega arith)) 1 1024 32
      refl (omega arith),
  unsigned_there run.rules n rows h.fits h.filled (codes "ticks") _ refl (omega arith) (h.given.1.0 (omega arith))
      MAX_TICKS 64 refl (omega arith),
  text_there run.rules n rows h.fits h.filled (codes "script") _ refl (omega arith) (h.wanted.1.1.1.1.1.0 refl),
)

run_asks : (n : ℕ) (rows : List Row) → HasRows run n rows → IsAsked (Some (run.name, rows))
run_asks n rows h = or_by (λ clash. (inl refl, clash)) (hosted_asks (codes "script")
    (λ cpus ticks script over. Run cpus ticks script (texts_at (codes "words") rows) over) rows (run_limits n rows h))

resume_limits : (n : ℕ) (rows : List Row) → HasRows resume n rows → HasLimits (codes "file") rows
resume_limits n rows h = (
  signed_there resume.rules n rows h.fits h.filled (codes "cpus") _ refl (omega arith) (h.given.0 (omega arith)) 1 1024
      32 refl (omega arith),
  unsigned_there resume.rules n rows h.fits h.filled (codes "ticks") _ refl (omega arith) (h.given.1.0 (omega arith))
      MAX_TICKS 64 refl (omega arith),
  text_there resume.rules n rows h.fits h.filled (codes "file") _ refl (omega arith) (h.wanted.1.1.1.1.1.0 refl),
)

resume_asks : (n : ℕ) (rows : List Row) → HasRows resume n rows → IsAsked (Some (resume.name, rows))
resume_asks n rows h = or_by (λ clash. (inr refl, clash)) (hosted_asks (codes "file")
    (λ cpus ticks file over. Resume cpus ticks file over) rows (resume_limits n rows h))

check_asks : (n : ℕ) (rows : List Row) → HasRows check n rows → IsAsked (Some (check.name, rows))
check_asks n rows h = inl (some_map _ _ (text_there check.rules n rows h.fits h.filled (codes "script") _ refl
    (omega arith) (h.wanted.0 refl)))

info_asks : (n : ℕ) (rows : List Row) → HasRows info n rows → IsAsked (Some (info.name, rows))
info_asks n rows h = inl (some_map _ _ (text_there info.rules n rows h.fits h.filled (codes "file") _ refl (omega arith)
    (h.wanted.0 refl)))

make_asks : (n : ℕ) (rows : List Row) → HasRows make n rows → IsAsked (Some (make.name, rows))
make_asks n rows h = inl (some_map _ _ (signed_there make.rules n rows h.fits h.filled (codes "number") _ refl
    (omega arith) (h.wanted.0 refl) 1 10000 32 refl (omega arith)))

fmt_asks : (n : ℕ) (rows : List Row) → HasRows fmt n rows → IsAsked (Some (fmt.name, rows))
fmt_asks n rows h = inl (some_map _ _ (text_there fmt.rules n rows h.fits h.filled (codes "script") _ refl (omega arith)
    (h.wanted.0 refl)))

replay_asks : (n : ℕ) (rows : List Row) → HasRows replay n rows → IsAsked (Some (replay.name, rows))
replay_asks n rows h = inl (some_map _ _ (text_there replay.rules n rows h.fits h.filled (codes "log") _ refl
    (omega arith) (h.wanted.0 refl)))

dry_limits : (n : ℕ) (rows : List Row) → HasRows dry n rows → HasLimits (codes "script") rows
dry_limits n rows h = (
  signed_there dry.rules n rows h.fits h.filled (codes "cpus") _ refl (omega arith) (h.given.0 (omega arith)) 1 1024 32
      refl (omega arith),
  unsigned_there dry.rules n rows h.fits h.filled (codes "ticks") _ refl (omega arith) (h.given.1.0 (omega arith))
      MAX_TICKS 64 refl (omega arith),
  text_there dry.rules n rows h.fits h.filled (codes "script") _ refl (omega arith) (h.wanted.1.1.0 refl),
)

dry_asks : (n : ℕ) (rows : List Row) → HasRows dry n rows → IsAsked (Some (dry.name, rows))
dry_asks n rows h = inl (limited_asks (codes "script") (λ cpus ticks script. Some
    (Dry cpus ticks script (texts_at (codes "words") rows))) rows (dry_limits n rows h) (λ cpus ticks script. refl))

test_limits : (n : ℕ) (rows : List Row) → HasRows test n rows → HasLimits (codes "script") rows
test_limits n rows h = (
  signed_there test.rules n rows h.fits h.filled (codes "cpus") _ refl (omega arith) (h.given.0 (omega arith)) 1 1024 32
      refl (omega arith),
  unsigned_there test.rules n rows h.fits h.filled (codes "ticks") _ refl (omega arith) (h.given.1.0 (omega arith))
      MAX_TICKS 64 refl (omega arith),
  text_there test.rules n rows h.fits h.filled (codes "script") _ refl (omega arith) (h.wanted.1.1.0 refl),
)

test_asks : (n : ℕ) (rows : List Row) → HasRows test n rows → IsAsked (Some (test.name, rows))
test_asks n rows h = inl (limited_asks (codes "script") (λ cpus ticks script. Some (Test cpus ticks script)) rows
    (test_limits n rows h) (λ cpus ticks script. refl))

all_answered : AllByRecursion IsAnswered subcommands
all_answered = (
  answered run run_plain (λ x. refl) run_asks,
  (
    answered resume resume_plain (λ x. refl) resume_asks,
    (
      answered check check_plain (λ x. refl) check_asks,
      (
        answered info info_plain (λ x. refl) info_asks,
        (
          answered make make_plain (λ x. refl) make_asks,
          (
            answered fmt fmt_plain (λ x. refl) fmt_asks,
            (
              answered replay replay_plain (λ x. refl) replay_asks,
              (answered dry dry_plain (λ x. refl) dry_asks, (answered test test_plain (λ x. refl) test_asks, tt)),
            ),
          ),
        ),
      ),
    ),
  ),
)

-- ---- the words

-- what `clap` enters, where it has no fault and the words are short
entered_asks : (n : ℕ) (stop : Option (Text × List Text)) → StopFits n stop
    → entered_fault (built declaration) stop ≡ [] → is_some (entered (built declaration) stop) ≡ true
    → IsAsked (entered (built declaration) stop)
entered_asks n None f none some = absurd (cc some)
entered_asks n (Some p) f none some = go (find (λ s. answers_to p.0 (label_of s)) subcommands) refl none some
  where
    go : (o : Option Shape) → find (λ s. answers_to p.0 (label_of s)) subcommands ≡ o
        → option_map_or (λ s. level_fault s [] nothing_held p.1 false []) o [] ≡ []
        → is_some (option_map (λ s. rows_at s p.1) o) ≡ true
        → IsAsked (option_map (λ s. rows_at s p.1) o)
    go None is none some = absurd (cc some)
    go (Some s) is none some =
        each_found IsAnswered (λ x. answers_to p.0 (label_of x)) subcommands s all_answered is p.1 f.1 none

subcommand_asks : (words : List Text) → AllByRecursion IsShort words → fault_of declaration words ≡ []
    → IsAsked (subcommand_of declaration words)
subcommand_asks words shorts none =
    let top = (built declaration).top in
    let names = names_of (built declaration) in
    let end = walk top.rules names nothing_held words in
    let has = is_some (entered (built declaration) end.stopped) in
    let below = no_second (walk_fault top names (walk_from nothing_held) words) _ none in
    let clean : entered_fault (built declaration) end.stopped ≡ [] = no_first _ _ below in
    let later = no_second (settle_fault top.rules top.args_override_self end.held) _
    (no_second (entered_fault (built declaration) end.stopped) _ below) in
    let checked : check_fault top (finished top.rules end.held) has ≡ [] =
    no_second (defaults_fault (settled top.rules end.held).rows top.rules) _ later in
    let met : has ≡ true = subcommand_there top (finished top.rules end.held) has refl checked in
    entered_asks (length words + 0) end.stopped (walk_stops top.rules names words (walk_from nothing_held) 0 shorts tt)
    clean met

pub understood : (words : List Text) → IsUnderstood words
understood words short none =
    go (are_short words) short (is_empty (fault_of declaration words)) (ap is_empty none)
    (option_and_then (λ p. asked_of p.0 p.1) (subcommand_of declaration words))
    (subcommand_asks words (each_short words (both _ _ short).1) none)
  where
    go : {X C : Type 0} (a : Bool) → a ≡ true → (b : Bool) → b ≡ true → (o : Option X) → (is_some o ≡ true) ⊎ C
        → (is_some (cond (a && b) o None) ≡ true) ⊎ C
    go true short true clean o some = some
    go true short false clean o some = absurd (cc clean)
    go false short b clean o some = absurd (cc short)
