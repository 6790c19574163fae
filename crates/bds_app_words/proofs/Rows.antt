-- The rows of a subcommand whose words give no fault fit.
use Rattle.std.proofs.Common.{◌≡◌, ◌≤◌, ◌+◌, ◌||◌, ◌&&◌, ℕ, Bool, true, false, refl, sym, subst, cond, arith, List, [], ◌∷◌, length, suc, Option, Some, None}
use Rattle.std.specs.List.{AllByRecursion, fold, list_all}
use Rattle.std.specs.Prelude.{is_some}
use Rattle.std.specs.Option.{option_map_or}
use Rattle.std.specs.Str.{bytes_eq}
use Rattle.clap.specs.Kinds.{or_else}
use Rattle.clap.specs.Takes.{value_passes}
use Rattle.clap.specs.Faults.{level_fault, other_fault, positional_fault, settle_fault, step_fault, stray_fault, turn_fault, walk_fault, word_fault}
use Rattle.clap.specs.Simple.{Shape}
use Rattle.clap.specs.Walk.{Held, Row, Rule, Step, Text, Waiting, Walk, after_step, arg_by_index, arg_by_short, at_row, default_rows, has_row, idle, is_pending, more_values, next, nothing_held, option, positional, reading_by, rows_after, settled, subcommand, subcommand_met, subcommand_or_other, takes_several, to_positional, trailing, value, walk, walk_from, walked, walked_from, with_default, word_met}
use Rattle.clap.specs.declared.parser.matches.ValueSource.TheVariants.{DefaultValue}
use Rattle.bds_app_words.specs.Ranges.{IsShort}
use Rattle.bds_app_words.proofs.Fitting.{HeldFits, IsPlainRule, RowFits, less_room, each_weaker, more_room, no_first, no_second, pushed_fits, row_new, settled_fits, settles}
use Rattle.bds_app_words.proofs.Walking.{StepFits, TurnFits, unhyphened}

-- ---- a turn

pub no_subcommand : (waiting : Waiting) (word : Text) → subcommand_met [] waiting word ≡ None
no_subcommand idle word = refl
no_subcommand positional word = refl
no_subcommand (option id) word = refl

module _ (s : Shape) (plains : AllByRecursion (IsPlainRule s.rules) s.rules) (unnamed : (x : ℕ) → arg_by_short s.rules x ≡ None) where
  word_fits : (trail : Bool) (waiting : Waiting) (position : ℕ) (word : Text) (n : ℕ) (h : Held) → IsShort word → HeldFits s.rules n h → word_fault s [] trail waiting word h ≡ [] → TurnFits s.rules n (word_met s.rules [] trail waiting position word h)
  word_fits true waiting position word n h short f none = f
  word_fits false waiting position word n h short f none =
      let alone : other_fault s None word h ≡ [] = subst (λ o. other_fault s o word h ≡ []) (no_subcommand waiting word) none in
      subst (λ o. TurnFits s.rules n (subcommand_or_other s.rules o waiting position word h)) (sym (no_subcommand waiting word))
      (unhyphened s.rules plains unnamed s.args_override_self waiting word short n h f (bytes_eq word (45 ∷ 45 ∷ [])) position alone)

  to_fits : (o : Option Rule) (word : Text) (w : Walk) (n : ℕ) (h : Held) → IsShort word → HeldFits s.rules n h → option_map_or (λ a. positional_fault s.rules s.args_override_self a h) o (stray_fault s) ≡ []
      → HeldFits s.rules (suc n) (to_positional s.rules o word w h).held
  to_fits None word w n h short f none = more_room s.rules n h f
  to_fits (Some a) word w n h short f none = pushed_fits s.rules a.id word n _ short (go (is_pending a h.pending && takes_several a) none)
    where
      go : (b : Bool) → cond b [] (settle_fault s.rules s.args_override_self h) ≡ [] → HeldFits s.rules n (cond b h (settled s.rules h))
      go true e = f
      go false e = settles s.rules n h (settled_fits s.rules s.args_override_self n h plains f e)

  step_fits : (word : Text) (w : Walk) (n : ℕ) (h : Held) (step : Step) → IsShort word → StepFits s.rules n h step → step_fault s w.position h step ≡ [] → HeldFits s.rules (suc n) (after_step s.rules word w h step).held
  step_fits word w n h (next x) short f none = f
  step_fits word w n h (trailing p) short f none = f
  step_fits word w n h (subcommand name) short f none = f
  step_fits word w n h value short f none = to_fits (arg_by_index s.rules w.position) word w n h short f none

  turn_fits : (w : Walk) (word : Text) (n : ℕ) → IsShort word → HeldFits s.rules n w.held → turn_fault s [] w word ≡ [] → HeldFits s.rules (suc n) (walked s.rules [] w word).held
  unfolding walked
  turn_fits w word n short f none = go w.stopped none
    where
      go : (o : Option (Text × List Text)) → cond (is_some o) []
          (or_else (word_fault s [] w.is_trailing w.waiting word w.held)
          (step_fault s w.position (word_met s.rules [] w.is_trailing w.waiting w.position word w.held).0 (word_met s.rules [] w.is_trailing w.waiting w.position word w.held).1)) ≡ []
          → HeldFits s.rules (suc n) (walked_from s.rules [] o w word).held
      go (Some p) e = more_room s.rules n w.held f
      go None e =
          let met = word_met s.rules [] w.is_trailing w.waiting w.position word w.held in
          step_fits word w n met.0 met.1 short (word_fits w.is_trailing w.waiting w.position word n w.held short f (no_first _ _ e)) (no_second _ _ e)

  walk_fits : (words : List Text) (w : Walk) (n : ℕ) → AllByRecursion IsShort words → HeldFits s.rules n w.held → walk_fault s [] w words ≡ [] → HeldFits s.rules (length words + n) (fold (walked s.rules []) w words).held
  unfolding walk_fault
  walk_fits [] w n shorts f none =
      let same : n ≡ 0 + n = omega arith in
      subst (λ m. HeldFits s.rules m w.held) same f
  walk_fits (word ∷ words) w n shorts f none =
      let after = turn_fits w word n shorts.0 f (no_first _ _ none) in
      let count : length words + suc n ≡ suc (length words) + n = omega arith in
      subst (λ m. HeldFits s.rules m (fold (walked s.rules []) w (word ∷ words)).held) count (walk_fits words (walked s.rules [] w word) (suc n) shorts.1 after (no_second _ _ none))

-- ---- defaults

neither : (a b : Bool) → (a || b) ≡ false → (a ≡ false) × (b ≡ false)
neither true b e = absurd (cc e)
neither false b e = (refl, e)

new_row : (P : Row → Type 0) (id : Text) (change : Row → List Row) (new rows : List Row) → has_row id rows ≡ false → AllByRecursion P rows → AllByRecursion P new → AllByRecursion P (at_row id change new rows)
new_row P id change new [] none h last = last
new_row P id change new (r ∷ rs) none h last =
    let parts = neither (bytes_eq r.id id) (has_row id rs) none in
    rw parts.0 (h.0, new_row P id change new rs parts.1 h.1 last)

default_fits : (c : List Rule) (a : Rule) (n : ℕ) (rows : List Row) → 1 ≤ n → IsPlainRule c a → AllByRecursion (RowFits c 0 n) rows → AllByRecursion (RowFits c 0 n) (with_default rows a)
default_fits c a n rows le own h = go (has_row a.id rows) refl a.defaults own.few_defaults own.short_defaults own.passing_defaults
  where
    go : (b : Bool) → has_row a.id rows ≡ b → (ds : List Text) → length ds ≤ 1 → AllByRecursion IsShort ds → list_all (value_passes a) ds ≡ true → AllByRecursion (RowFits c 0 n) (cond b rows (default_rows a.id (reading_by a) ds rows))
    go true is ds few shorts pass = h
    go false is [] few shorts pass = h
    go false is (d ∷ ds) few shorts pass = new_row (RowFits c 0 n) a.id (more_values DefaultValue (d ∷ ds)) _ rows is h (row_new c a own (d ∷ ds) shorts pass n DefaultValue (omega (arith, few, le)), tt)

defaults_fit : (c : List Rule) (n : ℕ) → 1 ≤ n → (rules : List Rule) (rows : List Row) → AllByRecursion (IsPlainRule c) rules → AllByRecursion (RowFits c 0 n) rows → AllByRecursion (RowFits c 0 n) (fold with_default rows rules)
defaults_fit c n le [] rows plains h = h
defaults_fit c n le (a ∷ rules) rows plains h = defaults_fit c n le rules (with_default rows a) plains.1 (default_fits c a n rows le plains.0 h)

-- ---- a level

pub level_fits : (s : Shape) → AllByRecursion (IsPlainRule s.rules) s.rules → ((x : ℕ) → arg_by_short s.rules x ≡ None) → (words : List Text) → AllByRecursion IsShort words
    → level_fault s [] nothing_held words false [] ≡ [] → AllByRecursion (RowFits s.rules 0 (suc (length words))) (rows_after s.rules [] words)
level_fits s plains unnamed words shorts none =
    let c = s.rules in
    let start : HeldFits c 0 nothing_held = record { few_pending = omega arith; short_pending = tt; fitting = tt } in
    let end = (walk c [] nothing_held words).held in
    let held = walk_fits s plains unnamed words (walk_from nothing_held) 0 shorts start (no_first _ _ none) in
    let later = no_second (walk_fault s [] (walk_from nothing_held) words) _ none in
    let rows = settled_fits c s.args_override_self (length words + 0) end plains held (no_first _ _ later) in
    let room = each_weaker (RowFits c 0 (length words + 0)) (RowFits c 0 (suc (length words))) (less_room c 0 (length words + 0) (suc (length words)) 0 (omega arith)) (settled c end).rows rows in
    defaults_fit c (suc (length words)) (omega arith) c (settled c end).rows plains room
