-- What is read is legal, and is spelled so.
use Rattle.std.proofs.Common.{◌≡◌, ◌≢◌, ℕ, zero, suc, ◌+◌, ◌<◌, ◌≤◌, max, Bool, true, false, List, [], ◌∷◌, length, Option, Some, None, refl, sym, ap, ◌∙◌, subst, arith, ◌⊎◌, ⊎_elim, inl, inr, le_refl, le_trans}
use Rattle.std.specs.Prelude.{if◌then◌else◌, nat_lt}
use Rattle.std.proofs.lemmas.Bool.{ltb-false, ltb-true}
use Rattle.bds_value.specs.Options.{◌>>=◌}
use Rattle.bds_tree.specs.declared.token.Word.{Word}
use Rattle.bds_tree.specs.declared.token.Word.TheVariants as w
use Rattle.bds_tree.specs.declared.token.Token.{Token}
use Rattle.bds_tree.specs.declared.expr.BinaryOp.{BinaryOp}
use Rattle.bds_tree.specs.Tree.{Tree, Trees, TreePairs, name, call, group, item, key, method, binary, choice, dependency, none, no_pairs, line_of}
use Rattle.bds_tree.specs.Shape.{level_of, level, follow, Shaped, AreShaped, ArePairsShaped, height, heights, pair_heights}
use Rattle.bds_tree.specs.Spelling.{word_of_bool, sign_of, sign_before}
use Rattle.bds_parse_expr.specs.Spells.{token, Sign, Starts, Spells, SpellsAll, SpellsTail, SpellsPairs, SpellsPairTail}
use Rattle.bds_parse_expr.specs.Reading.{fresh, First, numbers, texts, truths, names, groups, lists, maps, prefixes, begins_none, first_of, Next, joins, chooses, depends, indexes, keys, asks, calls, stops, next_of, strength, ahead, is_open_round, is_close_round, is_close_square, is_close_value, is_comma, is_colon, is_arrow, behind, name_in, name_at, Sub, tail_step, tail_of, members, pair, pair_step, pair_tail_of, pairs, named, plain, front, low, join, climb, expression}
use Rattle.bds_parse_expr.proofs.Steps.{level_positive, starts}

pub chosen : {A : Type 0} (b : Bool) (x y z : A) → (if b then x else y) ≡ z → ((b ≡ true) × (x ≡ z)) ⊎ ((b ≡ false) × (y ≡ z))
chosen true x y z e = inl (refl, e)
chosen false x y z e = inr (refl, e)

pub bind_ok : {A B : Type 0} (r : Option A) (f : A → Option B) (y : B) → (r >>= f) ≡ Some y → (x : A) × (r ≡ Some x) × (f x ≡ Some y)
bind_ok None f y e = cc
bind_ok (Some x) f y e = (x, refl, e)

pub some_same : {A : Type 0} (x y : A) → Some x ≡ Some y → x ≡ y
some_same x y e = cc

-- the word of a kind
abbrev first_word : First → Word
first_word (numbers v) = w.Number v
first_word (texts ps) = w.Text ps
first_word (truths b) = word_of_bool b
first_word (names n) = w.Name n
first_word groups = w.OpenRound
first_word lists = w.OpenSquare
first_word maps = w.OpenValue
first_word (prefixes o) = sign_before o
first_word begins_none = w.Semicolon

first_is : (word : Word) → first_of word ≢ begins_none → word ≡ first_word (first_of word)
first_is (w.Number v) h = refl
first_is (w.Text ps) h = refl
first_is w.True h = refl
first_is w.False h = refl
first_is (w.Name n) h = refl
first_is w.OpenRound h = refl
first_is w.OpenSquare h = refl
first_is w.OpenValue h = refl
first_is w.Minus h = refl
first_is w.Not h = refl
first_is _ h = absurd (h refl)

abbrev next_word : Next → Word
next_word (joins o) = sign_of o
next_word chooses = w.Question
next_word depends = w.From
next_word indexes = w.OpenSquare
next_word keys = w.OpenValue
next_word asks = w.Dot
next_word calls = w.OpenRound
next_word stops = w.Semicolon

next_is : (word : Word) → next_of word ≢ stops → word ≡ next_word (next_of word)
next_is w.Or h = refl
next_is w.And h = refl
next_is w.Equal h = refl
next_is w.NotEqual h = refl
next_is w.Less h = refl
next_is w.AtMost h = refl
next_is w.Greater h = refl
next_is w.AtLeast h = refl
next_is w.Plus h = refl
next_is w.Minus h = refl
next_is w.Star h = refl
next_is w.Slash h = refl
next_is w.Percent h = refl
next_is w.Question h = refl
next_is w.From h = refl
next_is w.OpenSquare h = refl
next_is w.OpenValue h = refl
next_is w.Dot h = refl
next_is w.OpenRound h = refl
next_is _ h = absurd (h refl)

pub open_round_is : (word : Word) → is_open_round word ≡ true → word ≡ w.OpenRound
open_round_is w.OpenRound e = refl
open_round_is _ e = cc

pub close_round_is : (word : Word) → is_close_round word ≡ true → word ≡ w.CloseRound
close_round_is w.CloseRound e = refl
close_round_is _ e = cc

close_square_is : (word : Word) → is_close_square word ≡ true → word ≡ w.CloseSquare
close_square_is w.CloseSquare e = refl
close_square_is _ e = cc

close_value_is : (word : Word) → is_close_value word ≡ true → word ≡ w.CloseValue
close_value_is w.CloseValue e = refl
close_value_is _ e = cc

comma_is : (word : Word) → is_comma word ≡ true → word ≡ w.Comma
comma_is w.Comma e = refl
comma_is _ e = cc

colon_is : (word : Word) → is_colon word ≡ true → word ≡ w.Colon
colon_is w.Colon e = refl
colon_is _ e = cc

arrow_is : (word : Word) → is_arrow word ≡ true → word ≡ w.Arrow
arrow_is w.Arrow e = refl
arrow_is _ e = cc

pub sign_at : (word : Word) (t : Token) (ts : List Token) → t.word ≡ word → Sign word (t ∷ ts) ts
sign_at word t ts e = (t.line, ap (λ u. token t.line u ∷ ts) e)

pub sign_behind : (test : Word → Bool) (word : Word) (a b : List Token) → ((u : Word) → test u ≡ true → u ≡ word) → behind test a ≡ Some b → Sign word a b
sign_behind test word [] b h e = cc
sign_behind test word (t ∷ ts) b h e =
    ⊎_elim
    (λ (p : (test t.word ≡ true) × (Some ts ≡ Some b)). subst (λ u. Sign word (t ∷ ts) u) (some_same _ _ p.1) (sign_at word t ts (h t.word p.0)))
    (λ (p : (test t.word ≡ false) × (None ≡ Some b)). let q = p.1 in cc)
    (chosen _ _ _ _ e)

name_in_is : (word : Word) (ts : List Token) (x : List ℕ × List Token) → name_in word ts ≡ Some x → (word ≡ w.Name x.0) × (ts ≡ x.1)
name_in_is (w.Name n) ts x e = let same : (n, ts) ≡ x = cc in (ap (λ (u : List ℕ × List Token). w.Name u.0) same, ap (λ (u : List ℕ × List Token). u.1) same)
name_in_is _ ts x e = cc

sign_name : (a : List Token) (x : List ℕ × List Token) → name_at a ≡ Some x → Sign (w.Name x.0) a x.1
sign_name [] x e = cc
sign_name (t ∷ ts) x e =
    let is = name_in_is t.word ts x e in
    subst (λ u. Sign (w.Name x.0) (t ∷ ts) u) is.1 (sign_at (w.Name x.0) t ts is.0)

starts_at : (t : Token) (ts : List Token) → Starts t.line (t ∷ ts)
starts_at t ts = (t, ts, refl, refl)

one_one : 1 ≤ 1
one_one = omega arith

one_two : 1 ≤ 2
one_two = omega arith

one_nine : 1 ≤ 9
one_nine = omega arith

two_nine : 2 ≤ 9
two_nine = omega arith

lt_next : (a b : ℕ) → a + 1 ≤ b → a < b
lt_next a b h = omega arith

level_next : (o : BinaryOp) → (1 ≤ level_of o + 1) × (level_of o + 1 ≤ 9)
level_next o = (omega arith, omega (arith, (level_positive o).1))

record IsRead (most least : ℕ) (e : Tree) (ts rest : List Token) : Type 0 where
  shaped : Shaped e
  spelled : Spells e ts rest
  low : height e < most
  binds : least ≤ level e
  ends : ahead rest < least

abbrev IsSound : ℕ → Sub → Type 0
IsSound most sub = (least : ℕ) (ts : List Token) (x : Tree × List Token) → 1 ≤ least → least ≤ 9 → sub least ts ≡ Some x → IsRead most least x.0 ts x.1

record IsTail (most : ℕ) (close : Word) (es : Trees) (ts rest : List Token) : Type 0 where
  shaped : AreShaped es
  spelled : SpellsTail close es ts rest
  low : heights es ≤ most

record IsAll (most : ℕ) (close : Word) (es : Trees) (ts rest : List Token) : Type 0 where
  shaped : AreShaped es
  spelled : SpellsAll close es ts rest
  low : heights es ≤ most

record IsPair (most : ℕ) (k v : Tree) (ts rest : List Token) : Type 0 where
  mid : List Token
  value : List Token
  key_shaped : Shaped k
  value_shaped : Shaped v
  key_spelled : Spells k ts mid
  arrow : Sign w.Arrow mid value
  value_spelled : Spells v value rest
  low : max (height k + 1) (height v + 1) ≤ most

record IsPairTail (most : ℕ) (ps : TreePairs) (ts rest : List Token) : Type 0 where
  shaped : ArePairsShaped ps
  spelled : SpellsPairTail ps ts rest
  low : pair_heights ps ≤ most

record IsPairs (most : ℕ) (ps : TreePairs) (ts rest : List Token) : Type 0 where
  shaped : ArePairsShaped ps
  spelled : SpellsPairs ps ts rest
  low : pair_heights ps ≤ most

record IsFront (most : ℕ) (e : Tree) (ts rest : List Token) : Type 0 where
  shaped : Shaped e
  spelled : Spells e ts rest
  low : height e ≤ most
  binds : 9 ≤ level e

module _ (most : ℕ) (sub : Sub) (sound : IsSound most sub) where
  module _ (close : Word) (test : Word → Bool) (is : (u : Word) → test u ≡ true → u ≡ close) where
    tail_end : (t : Token) (ts : List Token) (x : Trees × List Token) → test t.word ≡ true → Some (none, ts) ≡ Some x → IsTail most close x.0 (t ∷ ts) x.1
    tail_end t ts x y e = subst (λ (z : Trees × List Token). IsTail most close z.0 (t ∷ ts) z.1) (some_same _ _ e) (record { shaped = tt; spelled = sign_at close t ts (is t.word y); low = omega arith })

    tail_sound : (n : ℕ) (ts : List Token) (x : Trees × List Token) → tail_of test sub n ts ≡ Some x → IsTail most close x.0 ts x.1
    unfolding tail_of
    tail_sound zero [] x e = cc
    tail_sound (suc n) [] x e = cc
    tail_sound zero (t ∷ ts) x e =
        ⊎_elim
        (λ (p : (test t.word ≡ true) × (Some (none, ts) ≡ Some x)). tail_end t ts x p.0 p.1)
        (λ (p : (test t.word ≡ false) × (None ≡ Some x)). let q = p.1 in cc)
        (chosen _ _ _ _ e)
    tail_sound (suc n) (t ∷ ts) x e =
        ⊎_elim
        (λ (p : (test t.word ≡ true) × (Some (none, ts) ≡ Some x)). tail_end t ts x p.0 p.1)
        (λ (p : (test t.word ≡ false) × ((if is_comma t.word then tail_step (sub 1 ts) (tail_of test sub n) else None) ≡ Some x)).
        ⊎_elim
        (λ (q : (is_comma t.word ≡ true) × (tail_step (sub 1 ts) (tail_of test sub n) ≡ Some x)).
        let first = bind_ok _ _ _ q.1 in
        let later = bind_ok _ _ _ first.2 in
        let one = sound 1 ts first.0 one_one one_nine first.1 in
        let others = tail_sound n first.0.1 later.0 later.1 in
        subst (λ (y : Trees × List Token). IsTail most close y.0 (t ∷ ts) y.1) (some_same _ _ later.2)
        (record {
          shaped = (one.shaped, others.shaped);
          spelled = (ts, first.0.1, sign_at w.Comma t ts (comma_is t.word q.0), one.spelled, others.spelled);
          low = omega (arith, one.low, others.low);
        }))
        (λ (q : (is_comma t.word ≡ false) × (None ≡ Some x)). let r = q.1 in cc)
        (chosen _ _ _ _ p.1))
        (chosen _ _ _ _ e)

    all_sound : (ts : List Token) (x : Trees × List Token) → members test sub ts ≡ Some x → IsAll most close x.0 ts x.1
    all_sound [] x e = cc
    all_sound (t ∷ ts) x e =
        ⊎_elim
        (λ (p : (test t.word ≡ true) × (Some (none, ts) ≡ Some x)).
        subst (λ (y : Trees × List Token). IsAll most close y.0 (t ∷ ts) y.1) (some_same _ _ p.1) (record { shaped = tt; spelled = sign_at close t ts (is t.word p.0); low = omega arith }))
        (λ (p : (test t.word ≡ false) × (tail_step (sub 1 (t ∷ ts)) (tail_of test sub (length ts)) ≡ Some x)).
        let first = bind_ok _ _ _ p.1 in
        let later = bind_ok _ _ _ first.2 in
        let one = sound 1 (t ∷ ts) first.0 one_one one_nine first.1 in
        let others = tail_sound (length ts) first.0.1 later.0 later.1 in
        subst (λ (y : Trees × List Token). IsAll most close y.0 (t ∷ ts) y.1) (some_same _ _ later.2)
        (record {
          shaped = (one.shaped, others.shaped);
          spelled = (first.0.1, one.spelled, others.spelled);
          low = omega (arith, one.low, others.low);
        }))
        (chosen _ _ _ _ e)

  pair_sound : (ts : List Token) (x : (Tree × Tree) × List Token) → pair sub ts ≡ Some x → IsPair most x.0.0 x.0.1 ts x.1
  pair_sound ts x e =
      let first = bind_ok _ _ _ e in
      let arrow = bind_ok _ _ _ first.2 in
      let second = bind_ok _ _ _ arrow.2 in
      let k = sound 1 ts first.0 one_one one_nine first.1 in
      let v = sound 1 arrow.0 second.0 one_one one_nine second.1 in
      let same : ((first.0.0, second.0.0), second.0.1) ≡ x = some_same _ _ second.2 in
      subst (λ (y : (Tree × Tree) × List Token). IsPair most y.0.0 y.0.1 ts y.1) same
      (record {
        mid = first.0.1;
        value = arrow.0;
        key_shaped = k.shaped;
        value_shaped = v.shaped;
        key_spelled = k.spelled;
        arrow = sign_behind is_arrow w.Arrow first.0.1 arrow.0 arrow_is arrow.1;
        value_spelled = v.spelled;
        low = omega (arith, k.low, v.low);
      })

  pair_tail_end : (t : Token) (ts : List Token) (x : TreePairs × List Token) → is_close_value t.word ≡ true → Some (no_pairs, ts) ≡ Some x → IsPairTail most x.0 (t ∷ ts) x.1
  pair_tail_end t ts x y e = subst (λ (z : TreePairs × List Token). IsPairTail most z.0 (t ∷ ts) z.1) (some_same _ _ e) (record { shaped = tt; spelled = sign_at w.CloseValue t ts (close_value_is t.word y); low = omega arith })

  pair_tail_sound : (n : ℕ) (ts : List Token) (x : TreePairs × List Token) → pair_tail_of sub n ts ≡ Some x → IsPairTail most x.0 ts x.1
  unfolding pair_tail_of
  pair_tail_sound zero [] x e = cc
  pair_tail_sound (suc n) [] x e = cc
  pair_tail_sound zero (t ∷ ts) x e =
      ⊎_elim
      (λ (p : (is_close_value t.word ≡ true) × (Some (no_pairs, ts) ≡ Some x)). pair_tail_end t ts x p.0 p.1)
      (λ (p : (is_close_value t.word ≡ false) × (None ≡ Some x)). let q = p.1 in cc)
      (chosen _ _ _ _ e)
  pair_tail_sound (suc n) (t ∷ ts) x e =
      ⊎_elim
      (λ (p : (is_close_value t.word ≡ true) × (Some (no_pairs, ts) ≡ Some x)). pair_tail_end t ts x p.0 p.1)
      (λ (p : (is_close_value t.word ≡ false) × ((if is_comma t.word then pair_step (pair sub ts) (pair_tail_of sub n) else None) ≡ Some x)).
      ⊎_elim
      (λ (q : (is_comma t.word ≡ true) × (pair_step (pair sub ts) (pair_tail_of sub n) ≡ Some x)).
      let first = bind_ok _ _ _ q.1 in
      let later = bind_ok _ _ _ first.2 in
      let one = pair_sound ts first.0 first.1 in
      let others = pair_tail_sound n first.0.1 later.0 later.1 in
      subst (λ (y : TreePairs × List Token). IsPairTail most y.0 (t ∷ ts) y.1) (some_same _ _ later.2)
      (record {
        shaped = (one.key_shaped, one.value_shaped, others.shaped);
        spelled = (ts, one.mid, one.value, first.0.1, sign_at w.Comma t ts (comma_is t.word q.0), one.key_spelled, one.arrow, one.value_spelled, others.spelled);
        low = omega (arith, one.low, others.low);
      }))
      (λ (q : (is_comma t.word ≡ false) × (None ≡ Some x)). let r = q.1 in cc)
      (chosen _ _ _ _ p.1))
      (chosen _ _ _ _ e)

  pairs_sound : (ts : List Token) (x : TreePairs × List Token) → pairs sub ts ≡ Some x → IsPairs most x.0 ts x.1
  pairs_sound [] x e = cc
  pairs_sound (t ∷ ts) x e =
      ⊎_elim
      (λ (p : (is_close_value t.word ≡ true) × (Some (no_pairs, ts) ≡ Some x)).
      subst (λ (y : TreePairs × List Token). IsPairs most y.0 (t ∷ ts) y.1) (some_same _ _ p.1) (record { shaped = tt; spelled = sign_at w.CloseValue t ts (close_value_is t.word p.0); low = omega arith }))
      (λ (p : (is_close_value t.word ≡ false) × (pair_step (pair sub (t ∷ ts)) (pair_tail_of sub (length ts)) ≡ Some x)).
      let first = bind_ok _ _ _ p.1 in
      let later = bind_ok _ _ _ first.2 in
      let one = pair_sound (t ∷ ts) first.0 first.1 in
      let others = pair_tail_sound (length ts) first.0.1 later.0 later.1 in
      subst (λ (y : TreePairs × List Token). IsPairs most y.0 (t ∷ ts) y.1) (some_same _ _ later.2)
      (record {
        shaped = (one.key_shaped, one.value_shaped, others.shaped);
        spelled = (one.mid, one.value, first.0.1, one.key_spelled, one.arrow, one.value_spelled, others.spelled);
        low = omega (arith, one.low, others.low);
      }))
      (chosen _ _ _ _ e)

  word_first : (word : Word) (k : First) → first_of word ≡ k → k ≢ begins_none → word ≡ first_word k
  word_first word k e ne = first_is word (λ n. ne (sym e ∙ n)) ∙ ap first_word e

  spelled_name : (n : List ℕ) (t : Token) (ts : List Token) → t.word ≡ w.Name n → IsFront most (fresh t.line (name n)) (t ∷ ts) ts
  spelled_name n t ts e = record { shaped = (refl, refl, tt); spelled = (starts_at t ts, sign_at (w.Name n) t ts e); low = omega arith; binds = omega arith }

  named_sound : (n : List ℕ) (t : Token) (ts : List Token) (x : Tree × List Token) → t.word ≡ w.Name n → named sub t.line n ts ≡ Some x → IsFront most x.0 (t ∷ ts) x.1
  named_sound n t [] x is e = subst (λ (y : Tree × List Token). IsFront most y.0 (t ∷ []) y.1) (some_same _ _ e) (spelled_name n t [] is)
  named_sound n t (u ∷ ts) x is e =
      ⊎_elim
      (λ (p : (is_open_round u.word ≡ true) × ((members is_close_round sub ts >>= λ es. Some (fresh t.line (call n es.0), es.1)) ≡ Some x)).
      let read = bind_ok _ _ _ p.1 in
      let all = all_sound w.CloseRound is_close_round close_round_is ts read.0 read.1 in
      subst (λ (y : Tree × List Token). IsFront most y.0 (t ∷ u ∷ ts) y.1) (some_same _ _ read.2)
      (record {
        shaped = (refl, refl, all.shaped);
        spelled = (starts_at t (u ∷ ts), (u ∷ ts, ts, sign_at (w.Name n) t (u ∷ ts) is, sign_at w.OpenRound u ts (open_round_is u.word p.0), all.spelled));
        low = all.low;
        binds = omega arith;
      }))
      (λ (p : (is_open_round u.word ≡ false) × (Some (fresh t.line (name n), u ∷ ts) ≡ Some x)).
      subst (λ (y : Tree × List Token). IsFront most y.0 (t ∷ u ∷ ts) y.1) (some_same _ _ p.1) (spelled_name n t (u ∷ ts) is))
      (chosen _ _ _ _ e)

  plain_sound : (k : First) (t : Token) (ts : List Token) (x : Tree × List Token) → first_of t.word ≡ k → plain sub t.line k ts ≡ Some x → IsFront most x.0 (t ∷ ts) x.1
  plain_sound (numbers v) t ts x k e =
      let is = word_first t.word (numbers v) k (λ n. cc) in
      subst (λ (y : Tree × List Token). IsFront most y.0 (t ∷ ts) y.1) (some_same _ _ e)
      (record { shaped = (refl, refl, tt); spelled = (starts_at t ts, sign_at (w.Number v) t ts is); low = omega arith; binds = omega arith })
  plain_sound (texts ps) t ts x k e =
      let is = word_first t.word (texts ps) k (λ n. cc) in
      subst (λ (y : Tree × List Token). IsFront most y.0 (t ∷ ts) y.1) (some_same _ _ e)
      (record { shaped = (refl, refl, tt); spelled = (starts_at t ts, sign_at (w.Text ps) t ts is); low = omega arith; binds = omega arith })
  plain_sound (truths b) t ts x k e =
      let is = word_first t.word (truths b) k (λ n. cc) in
      subst (λ (y : Tree × List Token). IsFront most y.0 (t ∷ ts) y.1) (some_same _ _ e)
      (record { shaped = (refl, refl, tt); spelled = (starts_at t ts, sign_at (word_of_bool b) t ts is); low = omega arith; binds = omega arith })
  plain_sound (names n) t ts x k e = named_sound n t ts x (word_first t.word (names n) k (λ n. cc)) e
  plain_sound groups t ts x k e =
      let is = word_first t.word groups k (λ n. cc) in
      let read = bind_ok _ _ _ e in
      let closed = bind_ok _ _ _ read.2 in
      let inner = sound 1 ts read.0 one_one one_nine read.1 in
      let same : (fresh t.line (group read.0.0), closed.0) ≡ x = some_same _ _ closed.2 in
      subst (λ (y : Tree × List Token). IsFront most y.0 (t ∷ ts) y.1) same
      (record {
        shaped = (refl, refl, inner.shaped);
        spelled = (starts_at t ts, (ts, read.0.1, sign_at w.OpenRound t ts is, inner.spelled, sign_behind is_close_round w.CloseRound read.0.1 closed.0 close_round_is closed.1));
        low = omega (arith, inner.low);
        binds = omega arith;
      })
  plain_sound lists t ts x k e =
      let is = word_first t.word lists k (λ n. cc) in
      let read = bind_ok _ _ _ e in
      let all = all_sound w.CloseSquare is_close_square close_square_is ts read.0 read.1 in
      subst (λ (y : Tree × List Token). IsFront most y.0 (t ∷ ts) y.1) (some_same _ _ read.2)
      (record { shaped = (refl, refl, all.shaped); spelled = (starts_at t ts, (ts, sign_at w.OpenSquare t ts is, all.spelled)); low = all.low; binds = omega arith })
  plain_sound maps t ts x k e =
      let is = word_first t.word maps k (λ n. cc) in
      let read = bind_ok _ _ _ e in
      let all = pairs_sound ts read.0 read.1 in
      subst (λ (y : Tree × List Token). IsFront most y.0 (t ∷ ts) y.1) (some_same _ _ read.2)
      (record { shaped = (refl, refl, all.shaped); spelled = (starts_at t ts, (ts, sign_at w.OpenValue t ts is, all.spelled)); low = all.low; binds = omega arith })
  plain_sound (prefixes o) t ts x k e =
      let is = word_first t.word (prefixes o) k (λ n. cc) in
      let read = bind_ok _ _ _ e in
      let inner = sound 9 ts read.0 (omega arith) (omega arith) read.1 in
      subst (λ (y : Tree × List Token). IsFront most y.0 (t ∷ ts) y.1) (some_same _ _ read.2)
      (record { shaped = (refl, refl, (inner.binds, inner.shaped)); spelled = (starts_at t ts, (ts, sign_at (sign_before o) t ts is, inner.spelled)); low = omega (arith, inner.low); binds = omega arith })
  plain_sound begins_none t ts x k e = cc

  front_sound : (ts : List Token) (x : Tree × List Token) → front sub ts ≡ Some x → IsFront most x.0 ts x.1
  front_sound [] x e = cc
  front_sound (t ∷ ts) x e = plain_sound (first_of t.word) t ts x refl e

  low_sound : (e : Tree) (rest : List Token) (x : Tree × List Token) → low most e rest ≡ Some x → (height e ≤ most) × ((e, rest) ≡ x)
  low_sound e rest x h =
      ⊎_elim
      (λ (p : (nat_lt most (height e) ≡ true) × (None ≡ Some x)). let q = p.1 in cc)
      (λ (p : (nat_lt most (height e) ≡ false) × (Some (e, rest) ≡ Some x)). (ltb-false _ _ p.0, some_same _ _ p.1))
      (chosen _ _ _ _ h)

  word_next : (word : Word) (k : Next) → next_of word ≡ k → k ≢ stops → word ≡ next_word k
  word_next word k e ne = next_is word (λ n. ne (sym e ∙ n)) ∙ ap next_word e

  record IsJoined (k : Next) (e : Tree) (ts rest : List Token) : Type 0 where
    shaped : Shaped e
    spelled : Spells e ts rest
    low : height e ≤ most
    binds : strength k ≤ level e

  join_sound : (k : Next) (t : Token) → next_of t.word ≡ k →
      (e : Tree) (ts rest : List Token) (x : Tree × List Token) → strength k ≤ follow e → Shaped e → Spells e ts (t ∷ rest) → join most sub e k rest ≡ Some x → IsJoined k x.0 ts x.1
  join_sound (joins o) t is e ts rest x hi sh sp h =
      let sign = sign_at (sign_of o) t rest (word_next t.word (joins o) is (λ n. cc)) in
      let read = bind_ok _ _ _ h in
      let fit = low_sound _ _ _ read.2 in
      let right = sound (level_of o + 1) rest read.0 (level_next o).0 (level_next o).1 read.1 in
      let binds : level_of o < level read.0.0 = lt_next (level_of o) (level read.0.0) right.binds in
      let same : (fresh (line_of e) (binary e o read.0.0), read.0.1) ≡ x = fit.1 in
      subst (λ (y : Tree × List Token). IsJoined (joins o) y.0 ts y.1) same
      (record { shaped = (refl, refl, (hi, binds, sh, right.shaped)); spelled = (starts e ts (t ∷ rest) sp, (t ∷ rest, rest, sp, sign, right.spelled)); low = fit.0; binds = le_refl (level_of o) })
  join_sound chooses t is e ts rest x hi sh sp h =
      let sign = sign_at w.Question t rest (word_next t.word chooses is (λ n. cc)) in
      let first = bind_ok _ _ _ h in
      let colon = bind_ok _ _ _ first.2 in
      let second = bind_ok _ _ _ colon.2 in
      let fit = low_sound _ _ _ second.2 in
      let a = sound 2 rest first.0 one_two two_nine first.1 in
      let b = sound 2 colon.0 second.0 one_two two_nine second.1 in
      let same : (fresh (line_of e) (choice e first.0.0 second.0.0), second.0.1) ≡ x = fit.1 in
      subst (λ (y : Tree × List Token). IsJoined chooses y.0 ts y.1) same
      (record {
        shaped = (refl, refl, (hi, a.binds, b.binds, sh, a.shaped, b.shaped));
        spelled = (starts e ts (t ∷ rest) sp, (t ∷ rest, rest, first.0.1, colon.0, sp, sign, a.spelled, sign_behind is_colon w.Colon first.0.1 colon.0 colon_is colon.1, b.spelled));
        low = fit.0;
        binds = le_refl 2;
      })
  join_sound depends t is e ts rest x hi sh sp h =
      let sign = sign_at w.From t rest (word_next t.word depends is (λ n. cc)) in
      let read = bind_ok _ _ _ h in
      let fit = low_sound _ _ _ read.2 in
      let right = sound 2 rest read.0 one_two two_nine read.1 in
      let same : (fresh (line_of e) (dependency e read.0.0), read.0.1) ≡ x = fit.1 in
      subst (λ (y : Tree × List Token). IsJoined depends y.0 ts y.1) same
      (record { shaped = (refl, refl, (hi, right.binds, sh, right.shaped)); spelled = (starts e ts (t ∷ rest) sp, (t ∷ rest, rest, sp, sign, right.spelled)); low = fit.0; binds = le_refl 1 })
  join_sound indexes t is e ts rest x hi sh sp h =
      let sign = sign_at w.OpenSquare t rest (word_next t.word indexes is (λ n. cc)) in
      let read = bind_ok _ _ _ h in
      let closed = bind_ok _ _ _ read.2 in
      let fit = low_sound _ _ _ closed.2 in
      let inner = sound 1 rest read.0 one_one one_nine read.1 in
      let same : (fresh (line_of e) (item e read.0.0), closed.0) ≡ x = fit.1 in
      subst (λ (y : Tree × List Token). IsJoined indexes y.0 ts y.1) same
      (record {
        shaped = (refl, refl, (hi, sh, inner.shaped));
        spelled = (starts e ts (t ∷ rest) sp, (t ∷ rest, rest, read.0.1, sp, sign, inner.spelled, sign_behind is_close_square w.CloseSquare read.0.1 closed.0 close_square_is closed.1));
        low = fit.0;
        binds = le_refl 10;
      })
  join_sound keys t is e ts rest x hi sh sp h =
      let sign = sign_at w.OpenValue t rest (word_next t.word keys is (λ n. cc)) in
      let read = bind_ok _ _ _ h in
      let closed = bind_ok _ _ _ read.2 in
      let fit = low_sound _ _ _ closed.2 in
      let inner = sound 1 rest read.0 one_one one_nine read.1 in
      let same : (fresh (line_of e) (key e read.0.0), closed.0) ≡ x = fit.1 in
      subst (λ (y : Tree × List Token). IsJoined keys y.0 ts y.1) same
      (record {
        shaped = (refl, refl, (hi, sh, inner.shaped));
        spelled = (starts e ts (t ∷ rest) sp, (t ∷ rest, rest, read.0.1, sp, sign, inner.spelled, sign_behind is_close_value w.CloseValue read.0.1 closed.0 close_value_is closed.1));
        low = fit.0;
        binds = le_refl 10;
      })
  join_sound asks t is e ts rest x hi sh sp h =
      let sign = sign_at w.Dot t rest (word_next t.word asks is (λ n. cc)) in
      let named = bind_ok _ _ _ h in
      let opened = bind_ok _ _ _ named.2 in
      let read = bind_ok _ _ _ opened.2 in
      let fit = low_sound _ _ _ read.2 in
      let all = all_sound w.CloseRound is_close_round close_round_is opened.0 read.0 read.1 in
      let same : (fresh (line_of e) (method e named.0.0 read.0.0), read.0.1) ≡ x = fit.1 in
      subst (λ (y : Tree × List Token). IsJoined asks y.0 ts y.1) same
      (record {
        shaped = (refl, refl, (hi, sh, all.shaped));
        spelled = (starts e ts (t ∷ rest) sp, (t ∷ rest, rest, named.0.1, opened.0, sp, sign, sign_name rest named.0 named.1, sign_behind is_open_round w.OpenRound named.0.1 opened.0 open_round_is opened.1, all.spelled));
        low = fit.0;
        binds = le_refl 10;
      })
  join_sound calls t is e ts rest x hi sh sp h = cc
  join_sound stops t is e ts rest x hi sh sp h = cc

  module _ (least : ℕ) (one : 1 ≤ least) where
    abbrev GoesSound : (Tree → List Token → Option (Tree × List Token)) → Type 0
    GoesSound go = (e : Tree) (ts rest : List Token) (x : Tree × List Token) → Shaped e → Spells e ts rest → height e ≤ most → least ≤ level e → go e rest ≡ Some x → IsRead (suc most) least x.0 ts x.1

    rest_sound : (e : Tree) (ts rest : List Token) (x : Tree × List Token) → Shaped e → Spells e ts rest → height e ≤ most → least ≤ level e → ahead rest < least → Some (e, rest) ≡ Some x → IsRead (suc most) least x.0 ts x.1
    rest_sound e ts rest x sh sp hi lv ah same =
        subst (λ (y : Tree × List Token). IsRead (suc most) least y.0 ts y.1) (some_same _ _ same) (record { shaped = sh; spelled = sp; low = omega arith; binds = lv; ends = ah })

    climb_sound : (n : ℕ) → GoesSound (climb most sub n least)
    unfolding climb
    climb_sound zero e ts [] x sh sp hi lv h = rest_sound e ts [] x sh sp hi lv (omega arith) h
    climb_sound (suc n) e ts [] x sh sp hi lv h = rest_sound e ts [] x sh sp hi lv (omega arith) h
    climb_sound zero e ts (t ∷ rest) x sh sp hi lv h =
        ⊎_elim
        (λ (p : (nat_lt (strength (next_of t.word)) least ≡ true) × (Some (e, t ∷ rest) ≡ Some x)). rest_sound e ts (t ∷ rest) x sh sp hi lv (ltb-true _ _ p.0) p.1)
        (λ (p : (nat_lt (strength (next_of t.word)) least ≡ false) × (None ≡ Some x)). let q = p.1 in cc)
        (chosen _ _ _ _ h)
    climb_sound (suc n) e ts (t ∷ rest) x sh sp hi lv h =
        ⊎_elim
        (λ (p : (nat_lt (strength (next_of t.word)) least ≡ true) × (Some (e, t ∷ rest) ≡ Some x)). rest_sound e ts (t ∷ rest) x sh sp hi lv (ltb-true _ _ p.0) p.1)
        (λ (p : (nat_lt (strength (next_of t.word)) least ≡ false) × ((if nat_lt (follow e) (strength (next_of t.word)) then None else (join most sub e (next_of t.word) rest >>= λ p. climb most sub n least p.0 p.1)) ≡ Some x)).
        ⊎_elim
        (λ (q : (nat_lt (follow e) (strength (next_of t.word)) ≡ true) × (None ≡ Some x)). let r = q.1 in cc)
        (λ (q : (nat_lt (follow e) (strength (next_of t.word)) ≡ false) × ((join most sub e (next_of t.word) rest >>= λ p. climb most sub n least p.0 p.1) ≡ Some x)).
        let step = bind_ok _ _ _ q.1 in
        let j = join_sound (next_of t.word) t refl e ts rest step.0 (ltb-false _ _ q.0) sh sp step.1 in
        let lo : least ≤ strength (next_of t.word) = ltb-false _ _ p.0 in
        climb_sound n step.0.0 ts step.0.1 x j.shaped j.spelled j.low (le_trans lo j.binds) step.2)
        (chosen _ _ _ _ p.1))
        (chosen _ _ _ _ h)

sound : (most : ℕ) → IsSound most (expression most)
unfolding expression
sound zero least ts x one nine e = cc
sound (suc most) least ts x one nine e =
    let read = bind_ok _ _ _ e in
    let f = front_sound most (expression most) (sound most) ts read.0 read.1 in
    climb_sound most (expression most) (sound most) least one (length read.0.1) read.0.0 ts read.0.1 x f.shaped f.spelled f.low (omega (arith, f.binds)) read.2

-- what reading finds is legal, is spelled at the front, and nothing continues it
pub found : (most least : ℕ) (ts : List Token) (e : Tree) (rest : List Token) → 1 ≤ least → least ≤ 9 → expression most least ts ≡ Some (e, rest) →
    Shaped e × Spells e ts rest × (height e < most) × (least ≤ level e) × (ahead rest < least)
found most least ts e rest one nine h =
    let r = sound most least ts (e, rest) one nine h in
    (r.shaped, r.spelled, r.low, r.binds, r.ends)

pub found_all : (most : ℕ) (close : Word) (test : Word → Bool) → ((u : Word) → test u ≡ true → u ≡ close) → (ts : List Token) (es : Trees) (rest : List Token) → members test (expression most) ts ≡ Some (es, rest) →
    AreShaped es × SpellsAll close es ts rest × (heights es ≤ most)
found_all most close test is ts es rest h =
    let r = all_sound most (expression most) (sound most) close test is ts (es, rest) h in
    (r.shaped, r.spelled, r.low)
