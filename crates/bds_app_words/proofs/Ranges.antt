-- Each subcommand asks for what is within its ranges, and so do the words.
use Rattle.std.proofs.Common.{◌≡◌, ◌≤◌, ◌+◌, ℕ, false, refl, ap, subst, arith, List, [], ◌∷◌, length, suc, Option, Some}
use Rattle.std.proofs.Common.{None, codes}
use Rattle.std.specs.List.{AllByRecursion, fold}
use Rattle.std.specs.Prelude.{option_and_then, option_map, pos, ⊤}
use Rattle.std.specs.Option.{option_map_or}
use Rattle.std.proofs.lemmas.List.{length-append}
use Rattle.clap.specs.Facts.{parser_of_value}
use Rattle.clap.specs.Faults.{level_fault}
use Rattle.clap.specs.Simple.{Shape}
use Rattle.clap.specs.Walk.{Held, Names, Row, Rule, Step, Text, Walk, after_step, arg_by_id, arg_by_index, arg_by_short}
use Rattle.clap.specs.Walk.{first_of, next, nothing_held, rows_after, subcommand, to_positional, trailing, value}
use Rattle.clap.specs.Walk.{walked, walked_from, word_met}
use Rattle.clap.specs.declared.builder.value_parser.ValueParser.TheVariants.{Signed, Unsigned}
use Rattle.bds_value.specs.declared.TheConstants.{MAX_ITEMS, MAX_TICKS}
use Rattle.bds_app_words.specs.Asked.{asked_of, dry_of, limited_of, number_at, over_at, over_of, resume_of, run_of}
use Rattle.bds_app_words.specs.Asked.{test_of, texts_at}
use Rattle.bds_app_words.specs.Ranges.{AreLimits, IsShort, IsShortOver, IsWithin}
use Rattle.bds_app_words.specs.declared.command.Command.{Command}
use Rattle.bds_app_words.specs.declared.command.Command.TheVariants.{Run, Resume, Make, Dry, Test}
use Rattle.bds_app_words.specs.declared.command.Over.{Over}
use Rattle.bds_app_words.specs.declared.command.Over.TheVariants.{Plain, Log, Farm}
use Rattle.bds_app_words.proofs.Fitting.{IsPlainRule, RowFits, each_append}
use Rattle.bds_app_words.proofs.Rows.{level_fits}
use Rattle.bds_app_words.proofs.Within.{first_short, signed_within, texts_few, texts_short, unsigned_within}

-- ---- the words behind the subcommand

abbrev pub StopFits : ℕ → Option (Text × List Text) → Type 0
StopFits m None = ⊤
StopFits m (Some p) = (suc (length p.1) ≤ m) × AllByRecursion IsShort p.1

pub stop_fewer : (m n : ℕ) → m ≤ n → (o : Option (Text × List Text)) → StopFits m o → StopFits n o
stop_fewer m n le None f = tt
stop_fewer m n le (Some p) f = (omega (arith, le, f.0), f.1)

step_stops : (c : List Rule) (word : Text) (w : Walk) (h : Held) (step : Step) (m : ℕ) → StopFits m w.stopped
    → StopFits (suc m) (after_step c word w h step).stopped
step_stops c word w h (next x) m f = stop_fewer m (suc m) (omega arith) w.stopped f
step_stops c word w h (trailing p) m f = stop_fewer m (suc m) (omega arith) w.stopped f
step_stops c word w h (subcommand name) m f = (omega arith, tt)
step_stops c word w h value m f = go (arg_by_index c w.position)
  where
    go : (o : Option Rule) → StopFits (suc m) (to_positional c o word w h).stopped
    go None = stop_fewer m (suc m) (omega arith) w.stopped f
    go (Some a) = tt

pub turn_stops : (c : List Rule) (names : Names) (w : Walk) (word : Text) (m : ℕ) → IsShort word → StopFits m w.stopped
    → StopFits (suc m) (walked c names w word).stopped
unfolding walked
turn_stops c names w word m short f = go w.stopped f
  where
    go : (o : Option (Text × List Text)) → StopFits m o → StopFits (suc m) (walked_from c names o w word).stopped
    go None same =
        let met = word_met c names w.is_trailing w.waiting w.position word w.held in
        step_stops c word w met.0 met.1 m f
    go (Some p) same =
        let sum = length-append p.1 (word ∷ []) in
        (omega (arith, sum, same.0), each_append IsShort p.1 (word ∷ []) same.1 (short, tt))

pub walk_stops : (c : List Rule) (names : Names) (words : List Text) (w : Walk) (m : ℕ) → AllByRecursion IsShort words
    → StopFits m w.stopped → StopFits (length words + m) (fold (walked c names) w words).stopped
walk_stops c names [] w m shorts f =
    let same : m ≡ 0 + m = omega arith in
    subst (λ k. StopFits k w.stopped) same f
walk_stops c names (word ∷ words) w m shorts f =
    let count : length words + suc m ≡ suc (length words) + m = omega arith in
    subst (λ k. StopFits k (fold (walked c names) w (word ∷ words)).stopped) count
    (walk_stops c names words (walked c names w word) (suc m) shorts.1 (turn_stops c names w word m shorts.0 f))

-- ---- what each subcommand asks for

-- an argument that takes a number of 1 to `high`, and one that takes any up to `high`

pub record TakesSigned (c : List Rule) (id : Text) (high : ℕ) : Type 0 where
  pub signed_rule : Rule
  pub signed_known : arg_by_id c id ≡ Some signed_rule
  pub signed_parser : parser_of_value signed_rule.parser ≡ Signed (pos 1) (pos high)

pub record TakesUnsigned (c : List Rule) (id : Text) (high : ℕ) : Type 0 where
  pub unsigned_rule : Rule
  pub unsigned_known : arg_by_id c id ≡ Some unsigned_rule
  pub unsigned_parser : parser_of_value unsigned_rule.parser ≡ Unsigned 0 high

module _ (c : List Rule) (n : ℕ) (most : n ≤ MAX_ITEMS) (rows : List Row) (fits : AllByRecursion (RowFits c 0 n) rows)
  where
    limits : (cpus ticks : ℕ) → TakesSigned c (codes "cpus") 1024 → TakesUnsigned c (codes "ticks") MAX_TICKS
        → number_at 32 (codes "cpus") rows ≡ Some cpus → number_at 64 (codes "ticks") rows ≡ Some ticks
        → AreLimits cpus ticks
    limits cpus ticks s u is_cpus is_ticks =
        let within = signed_within c n rows fits (codes "cpus") s.signed_rule 1024 cpus s.signed_known s.signed_parser
        (omega arith) is_cpus in (
          within.0,
          within.1,
          unsigned_within c n rows fits (codes "ticks") u.unsigned_rule MAX_TICKS ticks
              u.unsigned_known u.unsigned_parser is_ticks,
        )

    -- what is made of processors, ticks and a text, and of an option for the host

    limited_within : (id : Text) (make : ℕ → ℕ → Text → Option Command) → TakesSigned c (codes "cpus") 1024
        → TakesUnsigned c (codes "ticks") MAX_TICKS
        → ((cpus ticks : ℕ) (text : Text) → AreLimits cpus ticks → IsShort text → (command : Command)
        → make cpus ticks text ≡ Some command → IsWithin command)
        → (command : Command) → limited_of id make rows ≡ Some command → IsWithin command
    limited_within id make s u step command e =
        go (number_at 32 (codes "cpus") rows) refl (number_at 64 (codes "ticks") rows) refl (first_of id rows) refl e
      where
        go : (a : Option ℕ) → number_at 32 (codes "cpus") rows ≡ a → (b : Option ℕ)
            → number_at 64 (codes "ticks") rows ≡ b → (t : Option Text) → first_of id rows ≡ t
            → option_and_then (λ cpus. option_and_then (λ ticks. option_and_then (λ text. make cpus ticks text) t) b) a ≡
            Some command → IsWithin command
        go None p b q t r e = absurd (cc e)
        go (Some cpus) p None q t r e = absurd (cc e)
        go (Some cpus) p (Some ticks) q None r e = absurd (cc e)
        go (Some cpus) p (Some ticks) q (Some text) r e =
            step cpus ticks text (limits cpus ticks s u p q) (first_short c n rows fits id text r) command e

    over_short : (over : Over) → over_at rows ≡ Some over → IsShortOver over
    over_short over e =
        go (first_of (codes "log") rows) refl (first_of (codes "submit") rows) refl (first_of (codes "poll") rows) refl e
      where
        made : (other : Over) → Some other ≡ Some over → IsShortOver other → IsShortOver over
        made other e h = subst IsShortOver (ap (λ o. option_map_or (λ x. x) o over) e) h

        go : (log : Option Text) → first_of (codes "log") rows ≡ log → (submit : Option Text)
            → first_of (codes "submit") rows ≡ submit → (poll : Option Text) → first_of (codes "poll") rows ≡ poll
            → over_of log submit poll ≡ Some over → IsShortOver over
        go None p None q None r e = made Plain e tt
        go None p None q (Some poll) r e = absurd (cc e)
        go None p (Some submit) q None r e = absurd (cc e)
        go None p (Some submit) q (Some poll) r e = made (Farm submit poll) e
            (first_short c n rows fits (codes "submit") submit q, first_short c n rows fits (codes "poll") poll r)
        go (Some path) p None q None r e = made (Log path) e (first_short c n rows fits (codes "log") path p)
        go (Some path) p None q (Some poll) r e = absurd (cc e)
        go (Some path) p (Some submit) q None r e = absurd (cc e)
        go (Some path) p (Some submit) q (Some poll) r e = absurd (cc e)

    over_within : (make : Over → Command) → ((over : Over) → IsShortOver over → IsWithin (make over))
        → (command : Command) → option_map make (over_at rows) ≡ Some command → IsWithin command
    over_within make step command e = go (over_at rows) refl e
      where
        go : (o : Option Over) → over_at rows ≡ o → option_map make o ≡ Some command → IsWithin command
        go None is e = absurd (cc e)
        go (Some over) is e =
            subst IsWithin (ap (λ o. option_map_or (λ x. x) o command) e) (step over (over_short over is))

    words_few : length (texts_at (codes "words") rows) ≤ MAX_ITEMS
    words_few =
        let few = texts_few c n rows fits (codes "words") in
        omega (arith, few, most)

    -- the subcommands

    pub run_within : TakesSigned c (codes "cpus") 1024 → TakesUnsigned c (codes "ticks") MAX_TICKS → (command : Command)
        → run_of rows ≡ Some command → IsWithin command
    run_within s u = limited_within (codes "script") (λ cpus ticks script. option_map
        (λ over. Run cpus ticks script (texts_at (codes "words") rows) over) (over_at rows)) s u
        (λ cpus ticks script limited short. over_within (λ over. Run cpus ticks script (texts_at (codes "words") rows)
        over)
        (λ over over_is. (limited, short, words_few, texts_short c n rows fits (codes "words"), over_is)))

    pub resume_within : TakesSigned c (codes "cpus") 1024 → TakesUnsigned c (codes "ticks") MAX_TICKS
        → (command : Command) → resume_of rows ≡ Some command → IsWithin command
    resume_within s u = limited_within (codes "file") (λ cpus ticks file. option_map (λ over. Resume cpus ticks file over)
        (over_at rows)) s u
        (λ cpus ticks file limited short. over_within (λ over. Resume cpus ticks file over)
        (λ over over_is. (limited, short, over_is)))

    pub dry_within : TakesSigned c (codes "cpus") 1024 → TakesUnsigned c (codes "ticks") MAX_TICKS → (command : Command)
        → dry_of rows ≡ Some command → IsWithin command
    dry_within s u = limited_within (codes "script") (λ cpus ticks script. Some
        (Dry cpus ticks script (texts_at (codes "words") rows))) s u
        (λ cpus ticks script limited short command e. subst IsWithin (ap (λ o. option_map_or (λ x. x) o command) e)
        (limited, short, words_few, texts_short c n rows fits (codes "words")))

    pub test_within : TakesSigned c (codes "cpus") 1024 → TakesUnsigned c (codes "ticks") MAX_TICKS → (command : Command)
        → test_of rows ≡ Some command → IsWithin command
    test_within s u = limited_within (codes "script") (λ cpus ticks script. Some (Test cpus ticks script)) s u
        (λ cpus ticks script limited short command e. subst IsWithin (ap (λ o. option_map_or (λ x. x) o command) e)
        (limited, short))

    -- one with a text alone
    pub text_within : (id : Text) (make : Text → Command) → ((text : Text) → IsShort text → IsWithin (make text))
        → (command : Command) → option_map make (first_of id rows) ≡ Some command → IsWithin command
    text_within id make step command e = go (first_of id rows) refl e
      where
        go : (t : Option Text) → first_of id rows ≡ t → option_map make t ≡ Some command → IsWithin command
        go None r e = absurd (cc e)
        go (Some text) r e = subst IsWithin (ap (λ o. option_map_or (λ x. x) o command) e)
            (step text (first_short c n rows fits id text r))

    pub make_within : TakesSigned c (codes "number") 10000 → (command : Command)
        → option_map (λ k. Make k) (number_at 32 (codes "number") rows) ≡ Some command → IsWithin command
    make_within s command e = go (number_at 32 (codes "number") rows) refl e
      where
        go : (a : Option ℕ) → number_at 32 (codes "number") rows ≡ a → option_map (λ k. Make k) a ≡ Some command
            → IsWithin command
        go None r e = absurd (cc e)
        go (Some k) r e = subst IsWithin (ap (λ o. option_map_or (λ x. x) o command) e)
            (signed_within c n rows fits (codes "number") s.signed_rule 10000 k s.signed_known s.signed_parser
            (omega arith) r)

-- ---- a subcommand

-- what a subcommand asks for, whatever words follow its name, is within its ranges
abbrev pub IsGood : Shape → Type 0
IsGood s = (words : List Text) → AllByRecursion IsShort words → suc (length words) ≤ MAX_ITEMS
    → level_fault s [] nothing_held words false [] ≡ []
    → (command : Command) → asked_of s.name (rows_after s.rules [] words) ≡ Some command → IsWithin command

-- its arguments are plain, and what its rows ask for is within its ranges
pub good : (s : Shape) → AllByRecursion (IsPlainRule s.rules) s.rules → ((x : ℕ) → arg_by_short s.rules x ≡ None)
    → ((n : ℕ) → n ≤ MAX_ITEMS → (rows : List Row) → AllByRecursion (RowFits s.rules 0 n) rows → (command : Command)
    → asked_of s.name rows ≡ Some command → IsWithin command) → IsGood s
good s plains unnamed within words shorts most none command e = within (suc (length words)) most
    (rows_after s.rules [] words) (level_fits s plains unnamed words shorts none) command e
