-- What each use of an argument without a fault keeps of the rows, the walk over a subcommand's words keeps, where no argument has a short name.
use Rattle.std.proofs.Common.{◌≡◌, ◌&&◌, ℕ, Bool, true, false, refl, sym, subst, cond, List, [], ◌∷◌, length, drop, suc, zero, Option, Some, None}
use Rattle.std.specs.List.{AllByRecursion, fold}
use Rattle.std.specs.Prelude.{encode_utf8, is_some, not, slice_get}
use Rattle.std.specs.Option.{option_map_or}
use Rattle.std.specs.Str.{bytes_eq, chars}
use Rattle.clap.specs.Kinds.{Kinds, or_else}
use Rattle.clap.specs.Lexer.{long_of, short_of}
use Rattle.clap.specs.Faults.{flag_word_fault, level_fault, long_fault, option_fault, other_fault, positional_fault, react_fault, settle_fault, step_fault, stray_fault, turn_fault, use_fault, walk_fault, word_fault}
use Rattle.clap.specs.declared.error.kind.ErrorKind.TheVariants as kind
use Rattle.clap.specs.Simple.{Shape}
use Rattle.clap.specs.Walk.{Held, Outcome, Row, Rule, Step, Text, Waiting, Walk, after_flag, after_step, arg_by_id, arg_by_index, arg_by_long, arg_by_short, bundle, bundle_met, bundle_step, done, flag_met, has_long, idle, is_pending, long_met, long_or_other, next, nothing_held, option, option_met, option_word, plain, plain_word, positional, reacted, refused, settled, settled_rows, short_met, short_or_plain, subcommand, subcommand_or_other, takes_several, takes_values, to_positional, trailing, used, used_by_id, value, waits, walk, walk_from, walked, walked_from, word_met}
use Rattle.bds_app_words.proofs.Fitting.{IsPlainRule, each_found, no_first, no_second}
use Rattle.bds_app_words.proofs.Rows.{no_subcommand}
use Rattle.bds_app_words.proofs.Walking.{no_value}

-- each use of a plain argument without a fault keeps P
abbrev pub KeptByUse : List Rule → Bool → (List Row → Type 0) → Type 0
KeptByUse c again P = (a : Rule) (vs : List Text) (rows : List Row) → IsPlainRule c a → use_fault again a vs rows ≡ [] → P rows → P (used a vs rows)

module _ (c : List Rule) (again : Bool) (P : List Row → Type 0) (keeps : KeptByUse c again P) (plains : AllByRecursion (IsPlainRule c) c) (unnamed : (x : ℕ) → arg_by_short c x ≡ None) where
  settled_keeps : (h : Held) → P h.rows → settle_fault c again h ≡ [] → P (settled c h).rows
  settled_keeps h p none = go h.pending none
    where
      known : (q : Text × List Text) (o : Option Rule) → arg_by_id c q.0 ≡ o → option_map_or (λ a. use_fault again a q.1 h.rows) o [] ≡ [] → P (used_by_id o q.1 h.rows)
      known q None is e = p
      known q (Some a) is e = keeps a q.1 h.rows (each_found (IsPlainRule c) (λ x. bytes_eq x.id q.0) c a plains is) e p

      go : (o : Option (Text × List Text)) → option_map_or (λ q. option_map_or (λ a. use_fault again a q.1 h.rows) (arg_by_id c q.0) []) o [] ≡ [] → P (settled_rows c o h.rows)
      go None e = p
      go (Some q) e = known q (arg_by_id c q.0) refl e

  reacted_keeps : (a : Rule) (vs : List Text) (h : Held) → IsPlainRule c a → P h.rows → react_fault c again a vs h ≡ [] → P (reacted c a vs h).rows
  reacted_keeps a vs h own p none = keeps a vs (settled c h).rows own (no_second _ _ none) (settled_keeps h p (no_first _ _ none))

  -- ---- a flag word

  option_keeps : (a : Rule) (v : Option Text) (h : Held) → IsPlainRule c a → P h.rows → option_fault c again a v h ≡ [] → P (option_met c a v h).0.rows
  option_keeps a (Some v) h own p none = reacted_keeps a (v ∷ []) h own p none
  option_keeps a None h own p none = settled_keeps h p none

  flag_keeps : (a : Rule) (v : Option Text) (h : Held) → IsPlainRule c a → P h.rows → (v ≡ None → react_fault c again a [] h ≡ []) → P (flag_met c a v h).0.rows
  flag_keeps a (Some v) h own p none = p
  flag_keeps a None h own p none = reacted_keeps a [] h own p (none refl)

  long_keeps : (o : Option Rule) (v : Option Text) (h : Held) → ((a : Rule) → o ≡ Some a → IsPlainRule c a) → P h.rows → long_fault c again o v h ≡ [] → P (long_met c o v h).0.rows
  long_keeps None v h own p none = p
  long_keeps (Some a) v h own p none = go (takes_values a) none
    where
      go : (b : Bool) → cond b (option_fault c again a v h) (cond (is_some v) (kind.TooManyValues ∷ []) (react_fault c again a [] h)) ≡ [] → P (cond b (option_met c a v h) (flag_met c a v h)).0.rows
      go true e = option_keeps a v h (own a refl) p e
      go false e = flag_keeps a v h (own a refl) p (no_value v _ _ e)

  bundle_keeps : (k : ℕ) (flags : Text) (skip : ℕ) (h : Held) → P h.rows → P (bundle_met c k flags skip plain h).0.rows
  unfolding bundle_met
  bundle_keeps zero flags skip h p = p
  bundle_keeps (suc k) flags skip h p = go (slice_get (chars flags) 0) skip (λ fs n. bundle_keeps k fs n h p)
    where
      go : (o : Option ℕ) (skip : ℕ) → ((fs : Text) (n : ℕ) → P (bundle_met c k fs n plain h).0.rows) → P (bundle_step c o flags skip plain h (bundle_met c k)).0.rows
      go None skip later = p
      go (Some x) zero later =
          let rest = drop (length (encode_utf8 x)) flags in
          subst (λ o. P (short_met c o rest h (bundle_met c k rest 0 done)).0.rows) (sym (unnamed x)) p
      go (Some x) (suc skip) later = later (drop (length (encode_utf8 x)) flags) skip

  -- ---- a word

  plain_keeps : (waiting : Waiting) (word : Text) (h : Held) → P h.rows → P (plain_word c waiting word h).0.rows
  plain_keeps idle word h p = p
  plain_keeps positional word h p = p
  plain_keeps (option id) word h p = go (arg_by_id c id)
    where
      go : (o : Option Rule) → P (option_word o id word h).0.rows
      go None = p
      go (Some a) = p

  after_keeps : (waiting : Waiting) (word : Text) (h : Held) (o : Outcome) → P h.rows → P (after_flag c waiting word h o).0.rows
  after_keeps waiting word h done p = p
  after_keeps waiting word h (waits id) p = p
  after_keeps waiting word h plain p = plain_keeps waiting word h p
  after_keeps waiting word h refused p = plain_keeps waiting word h p

  module _ (waiting : Waiting) (word : Text) (h : Held) (p : P h.rows) where
    short_keeps : (o : Option Text) → P (short_or_plain c waiting word o h).0.rows
    short_keeps (Some flags) =
        let met = bundle c flags h in
        after_keeps waiting word met.0 met.1 (bundle_keeps (length flags) flags h.skip (record h { skip = 0 }) p)
    short_keeps None = plain_keeps waiting word h p

    other_keeps : (o : Option (Text × Option Text)) → flag_word_fault c again o word h ≡ [] → P (long_or_other c waiting word o h).0.rows
    other_keeps (Some q) none =
        let met = long_met c (arg_by_long c q.0) q.1 h in
        let own : (a : Rule) → arg_by_long c q.0 ≡ Some a → IsPlainRule c a = λ a found. each_found (IsPlainRule c) (λ x. not (is_some x.index) && has_long x q.0) c a plains found in
        after_keeps waiting word met.0 met.1 (long_keeps (arg_by_long c q.0) q.1 h own p none)
    other_keeps None none = short_keeps (short_of word)

    unhyphened_keeps : (b : Bool) (position : ℕ) → cond b [] (flag_word_fault c again (long_of word) word h) ≡ [] → P (cond b (h, trailing position) (long_or_other c waiting word (long_of word) h)).0.rows
    unhyphened_keeps true position none = p
    unhyphened_keeps false position none = other_keeps (long_of word) none

  to_keeps : (word : Text) (w : Walk) (h : Held) (o : Option Rule) (stray : Kinds) → P h.rows → option_map_or (λ a. positional_fault c again a h) o stray ≡ [] → P (to_positional c o word w h).held.rows
  to_keeps word w h None stray p none = p
  to_keeps word w h (Some a) stray p none = go (is_pending a h.pending && takes_several a) none
    where
      go : (b : Bool) → cond b [] (settle_fault c again h) ≡ [] → P (cond b h (settled c h)).rows
      go true e = p
      go false e = settled_keeps h p e

-- ---- the walk

module _ (s : Shape) (P : List Row → Type 0) (keeps : KeptByUse s.rules s.args_override_self P) (plains : AllByRecursion (IsPlainRule s.rules) s.rules) (unnamed : (x : ℕ) → arg_by_short s.rules x ≡ None) where
  word_keeps : (trail : Bool) (waiting : Waiting) (position : ℕ) (word : Text) (h : Held) → P h.rows → word_fault s [] trail waiting word h ≡ [] → P (word_met s.rules [] trail waiting position word h).0.rows
  word_keeps true waiting position word h p none = p
  word_keeps false waiting position word h p none =
      let alone : other_fault s None word h ≡ [] = subst (λ o. other_fault s o word h ≡ []) (no_subcommand waiting word) none in
      subst (λ o. P (subcommand_or_other s.rules o waiting position word h).0.rows) (sym (no_subcommand waiting word))
      (unhyphened_keeps s.rules s.args_override_self P keeps plains unnamed waiting word h p (bytes_eq word (45 ∷ 45 ∷ [])) position alone)

  step_keeps : (word : Text) (w : Walk) (h : Held) (step : Step) → P h.rows → step_fault s w.position h step ≡ [] → P (after_step s.rules word w h step).held.rows
  step_keeps word w h (next x) p none = p
  step_keeps word w h (trailing n) p none = p
  step_keeps word w h (subcommand name) p none = p
  step_keeps word w h value p none = to_keeps s.rules s.args_override_self P keeps plains unnamed word w h (arg_by_index s.rules w.position) (stray_fault s) p none

  turn_keeps : (w : Walk) (word : Text) → P w.held.rows → turn_fault s [] w word ≡ [] → P (walked s.rules [] w word).held.rows
  unfolding walked
  turn_keeps w word p none = go w.stopped none
    where
      go : (o : Option (Text × List Text)) → cond (is_some o) []
          (or_else (word_fault s [] w.is_trailing w.waiting word w.held)
          (step_fault s w.position (word_met s.rules [] w.is_trailing w.waiting w.position word w.held).0 (word_met s.rules [] w.is_trailing w.waiting w.position word w.held).1)) ≡ []
          → P (walked_from s.rules [] o w word).held.rows
      go (Some q) e = p
      go None e =
          let met = word_met s.rules [] w.is_trailing w.waiting w.position word w.held in
          step_keeps word w met.0 met.1 (word_keeps w.is_trailing w.waiting w.position word w.held p (no_first _ _ e)) (no_second _ _ e)

  walk_keeps : (words : List Text) (w : Walk) → P w.held.rows → walk_fault s [] w words ≡ [] → P (fold (walked s.rules []) w words).held.rows
  unfolding walk_fault
  walk_keeps [] w p none = p
  walk_keeps (word ∷ words) w p none = walk_keeps words (walked s.rules [] w word) (turn_keeps w word p (no_first _ _ none)) (no_second _ _ none)

  -- what a level keeps, before the defaults
  pub level_keeps : (words : List Text) → P [] → level_fault s [] nothing_held words false [] ≡ [] → P (settled s.rules (walk s.rules [] nothing_held words).held).rows
  level_keeps words p none =
      let end = (walk s.rules [] nothing_held words).held in
      let held = walk_keeps words (walk_from nothing_held) p (no_first _ _ none) in
      let later = no_second (walk_fault s [] (walk_from nothing_held) words) _ none in
      settled_keeps s.rules s.args_override_self P keeps plains unnamed end held (no_first _ _ later)
