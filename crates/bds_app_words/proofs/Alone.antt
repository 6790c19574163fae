-- A path alone behind `run` is run.
use Rattle.std.proofs.Common.{◌≡◌, ◌==◌, ◌&&◌, ◌∙◌, Bool, true, false, refl, ap, cond, List, [], ◌∷◌, ℕ, Some, None}
use Rattle.std.proofs.Common.{codes}
use Rattle.std.specs.Prelude.{is_some, length, option_and_then}
use Rattle.std.specs.Str.{bytes_eq}
use Rattle.std.proofs.lemmas.Bool.{eqb-true, le-leb}
use Rattle.clap.specs.Faults.{check_fault, defaults_fault, entered_fault, fault_of, level_fault, settle_fault}
use Rattle.clap.specs.Faults.{walk_fault}
use Rattle.clap.specs.Kinds.{Kinds, or_else}
use Rattle.clap.specs.Lexer.{long_of, long_of_rest, short_of, short_of_rest, strip_byte}
use Rattle.clap.specs.Simple.{Shape, built, entered, names_of, subcommand_of}
use Rattle.clap.specs.Walk.{Text, Walk, finished, idle, nothing_held, rows_after, settled, walk, walk_from, walked}
use Rattle.bds_value.specs.declared.TheConstants.{MAX_TEXT, MAX_TICKS}
use Rattle.bds_app_words.specs.Alone.{IsNoOption, IsRunAlone}
use Rattle.bds_app_words.specs.Asked.{asked_of, are_short}
use Rattle.bds_app_words.specs.Declaration.{declaration}
use Rattle.bds_app_words.specs.Ranges.{IsShort}
use Rattle.bds_app_words.specs.declared.command.Command.TheVariants.{Run}
use Rattle.bds_app_words.specs.declared.command.Over.TheVariants.{Plain}
use Rattle.bds_app_words.proofs.Declared.{run}

-- ---- a word that is no option

no_hyphen : (x y : ℕ) (ys : Text) → IsNoOption (x ∷ y ∷ ys) → (x == 45) ≡ false
no_hyphen x y ys plain = go (x == 45) refl
  where
    go : (b : Bool) → (x == 45) ≡ b → b ≡ false
    go true is = absurd (plain y ys (ap (λ c. c ∷ y ∷ ys) (eqb-true x 45 is)))
    go false is = refl

no_end : (word : Text) → IsNoOption word → bytes_eq word (45 ∷ 45 ∷ []) ≡ false
no_end [] plain = refl
no_end (x ∷ []) plain = go (x == 45)
  where
    go : (b : Bool) → (b && false) ≡ false
    go true = refl
    go false = refl
no_end (x ∷ y ∷ ys) plain = rw (no_hyphen x y ys plain) refl

no_long : (word : Text) → IsNoOption word → long_of word ≡ None
no_long [] plain = refl
no_long (x ∷ []) plain = go (x == 45)
  where
    go : (b : Bool) → option_and_then long_of_rest (option_and_then (strip_byte 45) (cond b (Some []) None)) ≡ None
    go true = refl
    go false = refl
no_long (x ∷ y ∷ ys) plain = rw (no_hyphen x y ys plain) refl

no_short : (word : Text) → IsNoOption word → short_of word ≡ None
no_short [] plain = refl
no_short (x ∷ []) plain = go (x == 45)
  where
    go : (b : Bool) → option_and_then short_of_rest (cond b (Some []) None) ≡ None
    go true = refl
    go false = refl
no_short (x ∷ y ∷ ys) plain = rw (no_hyphen x y ys plain) refl

-- ---- the word behind `run`

module _ (word : Text) (plain : IsNoOption word) where
  -- where the walk stands behind it
  abbrev behind : Walk
  behind = record {
    held = record { rows = []; pending = Some (codes "script", word ∷ []); skip = 0 };
    waiting = idle;
    position = 2;
    is_trailing = false;
    stopped = None;
  }

  met : walked run.rules [] (walk_from nothing_held) word ≡ behind
  unfolding walked
  met = rw (no_end word plain, no_long word plain, no_short word plain) refl

  clean : walk_fault run [] (walk_from nothing_held) (word ∷ []) ≡ []
  unfolding walk_fault
  clean = rw (no_end word plain, no_long word plain, no_short word plain) refl

  below : level_fault run [] nothing_held (word ∷ []) false [] ≡ []
  unfolding defaults_fault
  below = rw (clean, met) refl

  asked : asked_of (codes "run") (rows_after run.rules [] (word ∷ [])) ≡ Some (Run 4 MAX_TICKS word [] Plain)
  asked = rw met refl

  -- ---- all of the words

  abbrev words : List Text
  words = codes "run" ∷ word ∷ []

  abbrev top : Shape
  top = (built declaration).top

  -- the walk stops at the subcommand
  abbrev stopped : Walk
  stopped = record (walk_from nothing_held) { stopped = Some (codes "run", word ∷ []) }

  stop : walk top.rules (names_of (built declaration)) nothing_held words ≡ stopped
  unfolding walked
  stop = refl

  above : walk_fault top (names_of (built declaration)) (walk_from nothing_held) words ≡ []
  unfolding walk_fault walked
  above = refl

  -- the faults, with the walk behind the words taken apart
  abbrev faults_by : Walk → Kinds
  faults_by w = or_else (walk_fault top (names_of (built declaration)) (walk_from nothing_held) words)
      (or_else (entered_fault (built declaration) w.stopped) (or_else
      (settle_fault top.rules top.args_override_self w.held)
      (or_else (defaults_fault (settled top.rules w.held).rows top.rules)
      (check_fault top (finished top.rules w.held) (is_some (entered (built declaration) w.stopped))))))

  faultless : fault_of declaration words ≡ []
  unfolding defaults_fault
  faultless = let end : fault_of declaration words ≡ faults_by stopped = ap faults_by stop in
      let inside : entered_fault (built declaration) stopped.stopped ≡ [] = below in
      end ∙ rw (above, inside) refl

  entered_is : subcommand_of declaration words ≡ Some (codes "run", rows_after run.rules [] (word ∷ []))
  entered_is = ap (λ w. entered (built declaration) w.stopped) stop

  all_short : IsShort word → are_short words ≡ true
  all_short short = rw (le-leb (length word) MAX_TEXT short) refl

pub alone : (path : Text) → IsNoOption path → IsShort path → IsRunAlone path
alone path plain short =
    rw (all_short path plain short, faultless path plain, entered_is path plain) (asked path plain)
