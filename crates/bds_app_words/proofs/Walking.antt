-- The walk over the words of a subcommand, of which no argument has a short name, keeps what is held fitting.
use Rattle.std.proofs.Common.{◌≡◌, ◌∙◌, ◌==◌, ◌≤◌, ◌+◌, ◌&&◌, ℕ, Bool, true, false, refl, sym, ap, subst, cond, arith, List, [], ◌∷◌, length, drop, suc, zero, Option, Some, None}
use Rattle.std.specs.List.{AllByRecursion, after_first, position_or_len}
use Rattle.std.proofs.lemmas.List.{length-drop}
use Rattle.std.specs.Prelude.{encode_utf8, option_and_then, slice_get, is_some, not}
use Rattle.std.specs.Option.{option_map_or}
use Rattle.std.specs.Str.{chars}
use Rattle.clap.specs.Lexer.{has_byte, long_of, long_of_rest, name_and_value, short_of, strip_byte}
use Rattle.clap.specs.Kinds.{Kinds}
use Rattle.clap.specs.Faults.{flag_word_fault, long_fault, option_fault, react_fault}
use Rattle.clap.specs.declared.error.kind.ErrorKind.TheVariants as kind
use Rattle.clap.specs.Walk.{Held, Outcome, Rule, Step, Text, Waiting, after_flag, arg_by_id, arg_by_long, arg_by_short, bundle, bundle_met, bundle_step, done, flag_met, has_long, idle, long_met, long_or_other, next, option, option_met, option_word, plain, plain_word, positional, refused, settled, short_met, short_or_plain, subcommand, takes_values, trailing, value, waits}
use Rattle.bds_app_words.specs.Ranges.{IsShort}
use Rattle.bds_app_words.proofs.Fitting.{HeldFits, IsPlainRule, each_found, more_room, pushed_fits, reacted_fits, settled_fits, settles}

-- ---- the value in a word

stripped : (x : ℕ) (xs ys : List ℕ) → strip_byte x xs ≡ Some ys → length ys ≤ length xs
stripped x [] ys e = absurd (cc e)
stripped x (y ∷ xs) ys e = go (y == x) e
  where
    go : (b : Bool) → cond b (Some xs) None ≡ Some ys → length ys ≤ suc (length xs)
    go true same =
        let is : length xs ≡ length ys = ap (λ o. option_map_or length o 0) same in
        omega (arith, is)
    go false none = absurd (cc none)

pub cut : (text : List ℕ) (n : ℕ) → length (drop n text) ≤ length text
cut text n = let e = length-drop n text in omega (arith, e)

named_value : (text : List ℕ) (p : List ℕ × Option (List ℕ)) (v : List ℕ) → Some (name_and_value text) ≡ Some p → p.1 ≡ Some v → length v ≤ length text
named_value text p v is at = go (has_byte 61 text) (ap (λ o. option_map_or (λ q. q.1) o None) is ∙ at)
  where
    go : (b : Bool) → cond b (Some (after_first (λ x. x == 61) text)) None ≡ Some v → length v ≤ length text
    go true same =
        let e : length (after_first (λ x. x == 61) text) ≡ length v = ap (λ o. option_map_or length o 0) same in
        omega (arith, e, cut text (position_or_len (λ x. x == 61) text + 1))
    go false none = absurd (cc none)

-- the value in `--name=value` is no longer than the word
attached : (word : Text) (p : Text × Option Text) (v : Text) → long_of word ≡ Some p → p.1 ≡ Some v → length v ≤ length word
attached word p v is at = first (strip_byte 45 word) refl is
  where
    rest : (text text' : List ℕ) → length text ≤ length word → strip_byte 45 text ≡ Some text' → long_of_rest text' ≡ Some p → length v ≤ length word
    rest text [] le s e = absurd (cc e)
    rest text (x ∷ xs) le s e = omega (arith, le, stripped 45 text (x ∷ xs) s, named_value (x ∷ xs) p v e at)

    second : (text : List ℕ) (o : Option (List ℕ)) → length text ≤ length word → strip_byte 45 text ≡ o → option_and_then long_of_rest o ≡ Some p → length v ≤ length word
    second text None le s e = absurd (cc e)
    second text (Some text') le s e = rest text text' le s e

    first : (o : Option (List ℕ)) → strip_byte 45 word ≡ o → option_and_then long_of_rest (option_and_then (strip_byte 45) o) ≡ Some p → length v ≤ length word
    first None s e = absurd (cc e)
    first (Some text) s e = second text (strip_byte 45 text) (stripped 45 word text s) refl e

-- ---- a flag word

-- what is held behind a flag word that may still go to a positional, and behind one that is done
abbrev pub OutFits : List Rule → ℕ → Held → Outcome → Type 0
OutFits c n h done = HeldFits c (suc n) h
OutFits c n h (waits id) = HeldFits c (suc n) h
OutFits c n h plain = HeldFits c n h
OutFits c n h refused = HeldFits c n h

abbrev pub MetFits : List Rule → ℕ → Held × Outcome → Type 0
MetFits c n met = OutFits c n met.0 met.1

option_fits : (c : List Rule) (again : Bool) (a : Rule) (v : Option Text) (n : ℕ) (h : Held) → AllByRecursion (IsPlainRule c) c → IsPlainRule c a → ((t : Text) → v ≡ Some t → IsShort t) → HeldFits c n h
    → option_fault c again a v h ≡ [] → MetFits c n (option_met c a v h)
option_fits c again a (Some v) n h plains own short f none = reacted_fits c again a (v ∷ []) n h plains own (omega arith) (short v refl, tt) f none
option_fits c again a None n h plains own short f none =
    let rows = more_room c n (settled c h) (settles c n h (settled_fits c again n h plains f none)) in
    record { few_pending = omega arith; short_pending = tt; fitting = rows.fitting }

flag_fits : (c : List Rule) (again : Bool) (a : Rule) (v : Option Text) (n : ℕ) (h : Held) → AllByRecursion (IsPlainRule c) c → IsPlainRule c a → HeldFits c n h
    → (v ≡ None → react_fault c again a [] h ≡ []) → MetFits c n (flag_met c a v h)
flag_fits c again a (Some v) n h plains own f none = f
flag_fits c again a None n h plains own f none = reacted_fits c again a [] n h plains own (omega arith) tt f (none refl)

pub no_value : (v : Option Text) (a b : Kinds) → cond (is_some v) a b ≡ [] → v ≡ None → b ≡ []
no_value None a b e is = e
no_value (Some t) a b e is = absurd (cc is)

long_fits : (c : List Rule) (again : Bool) (o : Option Rule) (v : Option Text) (n : ℕ) (h : Held) → AllByRecursion (IsPlainRule c) c → ((a : Rule) → o ≡ Some a → IsPlainRule c a) → ((t : Text) → v ≡ Some t → IsShort t)
    → HeldFits c n h → long_fault c again o v h ≡ [] → MetFits c n (long_met c o v h)
long_fits c again None v n h plains own short f none = f
long_fits c again (Some a) v n h plains own short f none = go (takes_values a) none
  where
    go : (b : Bool) → cond b (option_fault c again a v h) (cond (is_some v) (kind.TooManyValues ∷ []) (react_fault c again a [] h)) ≡ [] → MetFits c n (cond b (option_met c a v h) (flag_met c a v h))
    go true e = option_fits c again a v n h plains (own a refl) short f e
    go false e = flag_fits c again a v n h plains (own a refl) f (no_value v _ _ e)

bundle_fits : (c : List Rule) → ((x : ℕ) → arg_by_short c x ≡ None) → (n k : ℕ) (flags : Text) (skip : ℕ) (h : Held) → HeldFits c n h → MetFits c n (bundle_met c k flags skip plain h)
unfolding bundle_met
bundle_fits c unnamed n zero flags skip h f = f
bundle_fits c unnamed n (suc k) flags skip h f = go (slice_get (chars flags) 0) skip (λ fs s. bundle_fits c unnamed n k fs s h f)
  where
    go : (o : Option ℕ) (skip : ℕ) → ((fs : Text) (s : ℕ) → MetFits c n (bundle_met c k fs s plain h)) → MetFits c n (bundle_step c o flags skip plain h (bundle_met c k))
    go None skip later = f
    go (Some x) zero later =
        let rest = drop (length (encode_utf8 x)) flags in
        subst (λ o. MetFits c n (short_met c o rest h (bundle_met c k rest 0 done))) (sym (unnamed x)) f
    go (Some x) (suc skip) later = later (drop (length (encode_utf8 x)) flags) skip

-- ---- a word

-- what is held behind a word, before its value goes to a positional
abbrev pub StepFits : List Rule → ℕ → Held → Step → Type 0
StepFits c n h (next w) = HeldFits c (suc n) h
StepFits c n h (trailing p) = HeldFits c (suc n) h
StepFits c n h (subcommand name) = HeldFits c (suc n) h
StepFits c n h value = HeldFits c n h

abbrev pub TurnFits : List Rule → ℕ → Held × Step → Type 0
TurnFits c n met = StepFits c n met.0 met.1

plain_fits : (c : List Rule) (waiting : Waiting) (word : Text) (n : ℕ) (h : Held) → IsShort word → HeldFits c n h → TurnFits c n (plain_word c waiting word h)
plain_fits c idle word n h short f = f
plain_fits c positional word n h short f = f
plain_fits c (option id) word n h short f = go (arg_by_id c id)
  where
    go : (o : Option Rule) → HeldFits c (suc n) (option_word o id word h).0
    go None = more_room c n h f
    go (Some a) = pushed_fits c id word n h short f

after_fits : (c : List Rule) (waiting : Waiting) (word : Text) (n : ℕ) (h : Held) (o : Outcome) → IsShort word → OutFits c n h o → TurnFits c n (after_flag c waiting word h o)
after_fits c waiting word n h done short f = f
after_fits c waiting word n h (waits id) short f = f
after_fits c waiting word n h plain short f = plain_fits c waiting word n h short f
after_fits c waiting word n h refused short f = plain_fits c waiting word n h short f

module _ (c : List Rule) (plains : AllByRecursion (IsPlainRule c) c) (unnamed : (x : ℕ) → arg_by_short c x ≡ None) (again : Bool) (waiting : Waiting) (word : Text) (short : IsShort word) (n : ℕ) (h : Held) (f : HeldFits c n h) where
  short_fits : (o : Option Text) → TurnFits c n (short_or_plain c waiting word o h)
  short_fits (Some flags) =
      let start : HeldFits c n (record h { skip = 0 }) = record { few_pending = f.few_pending; short_pending = f.short_pending; fitting = f.fitting } in
      let met = bundle c flags h in
      after_fits c waiting word n met.0 met.1 short (bundle_fits c unnamed n (length flags) flags h.skip (record h { skip = 0 }) start)
  short_fits None = plain_fits c waiting word n h short f

  other_fits : (o : Option (Text × Option Text)) → long_of word ≡ o → flag_word_fault c again o word h ≡ [] → TurnFits c n (long_or_other c waiting word o h)
  other_fits (Some p) is none =
      let met = long_met c (arg_by_long c p.0) p.1 h in
      let value_short : (t : Text) → p.1 ≡ Some t → IsShort t = λ t at. omega (arith, attached word p t is at, short) in
      let own : (a : Rule) → arg_by_long c p.0 ≡ Some a → IsPlainRule c a = λ a found. each_found (IsPlainRule c) (λ x. not (is_some x.index) && has_long x p.0) c a plains found in
      after_fits c waiting word n met.0 met.1 short (long_fits c again (arg_by_long c p.0) p.1 n h plains own value_short f none)
  other_fits None is none = short_fits (short_of word)

  pub unhyphened : (b : Bool) (position : ℕ) → cond b [] (flag_word_fault c again (long_of word) word h) ≡ [] → TurnFits c n (cond b (h, trailing position) (long_or_other c waiting word (long_of word) h))
  unhyphened true position none = more_room c n h f
  unhyphened false position none = other_fits (long_of word) refl none
