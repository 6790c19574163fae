-- Single steps of reading, and what a spelling begins with.
use Rattle.std.proofs.Common.{◌≡◌, ◌≢◌, ℕ, suc, ◌+◌, ◌<◌, ◌≤◌, Bool, true, false, List, ◌∷◌, length, Option, Some, refl, sym, ap, ◌∙◌, subst, arith, true≢false}
use Rattle.std.specs.Prelude.{if◌then◌else◌}
use Rattle.bds_value.specs.declared.value.At.{At}
use Rattle.bds_value.specs.declared.value.Ty.{Ty}
use Rattle.bds_value.specs.Options.{◌>>=◌}
use Rattle.bds_tree.specs.declared.token.Word.{Word}
use Rattle.bds_tree.specs.declared.token.Word.TheVariants as w
use Rattle.bds_tree.specs.declared.token.Token.{Token}
use Rattle.bds_tree.specs.declared.expr.BinaryOp.{BinaryOp}
use Rattle.bds_tree.specs.declared.expr.BinaryOp.TheVariants as op
use Rattle.bds_tree.specs.declared.expr.PrefixOp.{PrefixOp}
use Rattle.bds_tree.specs.declared.expr.PrefixOp.TheVariants as pre
use Rattle.bds_tree.specs.Tree.{Tree, FormTree, Trees, TreePairs, node, number, text, truth, name, call, group, list, mapping, item, key, method, prefix, binary, choice, dependency, none, more, no_pairs, more_pairs, line_of}
use Rattle.bds_tree.specs.Shape.{level_of, form_level, form_follow, level, follow, Shaped}
use Rattle.bds_tree.specs.Spelling.{word_of_bool, sign_of, sign_before}
use Rattle.bds_parse_expr.specs.Spells.{token, Sign, Starts, Spells, SpellsForm, SpellsAll, SpellsTail, SpellsPairs, SpellsPairTail}
use Rattle.bds_parse_expr.specs.Reading.{fresh, begins_none, truths, prefixes, first_of, Next, joins, next_of, strength, ahead, is_open_round}

pub if_true : {A : Type 0} (b : Bool) (x y z : A) → b ≡ true → x ≡ z → (if b then x else y) ≡ z
if_true true x y z e f = f
if_true false x y z e f = absurd (true≢false (sym e))

pub if_false : {A : Type 0} (b : Bool) (x y z : A) → b ≡ false → y ≡ z → (if b then x else y) ≡ z
if_false true x y z e f = absurd (true≢false e)
if_false false x y z e f = f

pub bind_some : {A B : Type 0} (r : Option A) (x : A) (f : A → Option B) (z : Option B) → r ≡ Some x → f x ≡ z → (r >>= f) ≡ z
bind_some r x f z e g = subst (λ s. (s >>= f) ≡ z) (sym e) g

pub form_level_follow : (f : FormTree) → form_level f ≤ form_follow f + 1
form_level_follow (prefix o a) = omega arith
form_level_follow (binary a o b) = omega arith
form_level_follow (choice c a b) = omega arith
form_level_follow (dependency a b) = omega arith
form_level_follow _ = omega arith

pub level_follow : (e : Tree) → level e ≤ follow e + 1
level_follow (node at t f) = form_level_follow f

pub form_follow_level : (f : FormTree) → form_follow f ≤ form_level f
form_follow_level (prefix o a) = omega arith
form_follow_level (binary a o b) = omega arith
form_follow_level (choice c a b) = omega arith
form_follow_level (dependency a b) = omega arith
form_follow_level _ = omega arith

pub follow_level : (e : Tree) → follow e ≤ level e
follow_level (node at t f) = form_follow_level f

pub level_positive : (o : BinaryOp) → (3 ≤ level_of o) × (level_of o ≤ 8)
level_positive op.Or = (omega arith, omega arith)
level_positive op.And = (omega arith, omega arith)
level_positive op.Equal = (omega arith, omega arith)
level_positive op.NotEqual = (omega arith, omega arith)
level_positive op.Less = (omega arith, omega arith)
level_positive op.AtMost = (omega arith, omega arith)
level_positive op.Greater = (omega arith, omega arith)
level_positive op.AtLeast = (omega arith, omega arith)
level_positive op.Add = (omega arith, omega arith)
level_positive op.Sub = (omega arith, omega arith)
level_positive op.Mul = (omega arith, omega arith)
level_positive op.Div = (omega arith, omega arith)
level_positive op.Rem = (omega arith, omega arith)

form_level_one : (f : FormTree) → 1 ≤ form_level f
form_level_one (prefix o a) = omega arith
form_level_one (binary a o b) = omega (arith, (level_positive o).0)
form_level_one (choice c a b) = omega arith
form_level_one (dependency a b) = omega arith
form_level_one _ = omega arith

pub level_one : (e : Tree) → 1 ≤ level e
level_one (node at t f) = form_level_one f

pub next_sign : (o : BinaryOp) → next_of (sign_of o) ≡ joins o
next_sign op.Or = refl
next_sign op.And = refl
next_sign op.Equal = refl
next_sign op.NotEqual = refl
next_sign op.Less = refl
next_sign op.AtMost = refl
next_sign op.Greater = refl
next_sign op.AtLeast = refl
next_sign op.Add = refl
next_sign op.Sub = refl
next_sign op.Mul = refl
next_sign op.Div = refl
next_sign op.Rem = refl

pub first_sign : (o : PrefixOp) → first_of (sign_before o) ≡ prefixes o
first_sign pre.Neg = refl
first_sign pre.Not = refl

pub first_truth : (b : Bool) → first_of (word_of_bool b) ≡ truths b
first_truth true = refl
first_truth false = refl

pub not_open : (word : Word) → strength (next_of word) ≤ 10 → is_open_round word ≡ false
not_open w.OpenRound h = absurd (omega arith)
not_open _ h = refl

-- a node as it may be before checking is one as it is read
pub is_fresh : (at : At) (t : Ty) (f : FormTree) → Shaped (node at t f) → node at t f ≡ fresh at.line f
is_fresh at t f sh = ap (λ k. node (record { file = k; line = at.line }) t f) sh.0 ∙ ap (λ u. node (record { file = 0; line = at.line }) u f) sh.1

pub sign_shorter : (word : Word) (ts rest : List Token) → Sign word ts rest → length ts ≡ suc (length rest)
sign_shorter word ts rest s = ap length s.1

pub sign_ahead : (word : Word) (k : Next) (ts rest : List Token) → next_of word ≡ k → Sign word ts rest → ahead ts ≡ strength k
sign_ahead word k ts rest e s = ap ahead s.1 ∙ ap strength e

-- a spelling takes at least one token
mutual
  pub shorter : (e : Tree) (ts rest : List Token) → Spells e ts rest → length rest < length ts
  shorter (node at t f) ts rest s = form_shorter f ts rest s.1

  pub form_shorter : (f : FormTree) (ts rest : List Token) → SpellsForm f ts rest → length rest < length ts
  form_shorter (number v) ts rest s = omega (arith, sign_shorter _ _ _ s)
  form_shorter (text ps) ts rest s = omega (arith, sign_shorter _ _ _ s)
  form_shorter (truth b) ts rest s = omega (arith, sign_shorter _ _ _ s)
  form_shorter (name n) ts rest s = omega (arith, sign_shorter _ _ _ s)
  form_shorter (call n es) ts rest s = omega (arith, sign_shorter _ _ _ s.2, sign_shorter _ _ _ s.3, all_shorter es w.CloseRound s.1 rest s.4)
  form_shorter (group e) ts rest s = omega (arith, sign_shorter _ _ _ s.2, shorter e s.0 s.1 s.3, sign_shorter _ _ _ s.4)
  form_shorter (list es) ts rest s = omega (arith, sign_shorter _ _ _ s.1, all_shorter es w.CloseSquare s.0 rest s.2)
  form_shorter (mapping ps) ts rest s = omega (arith, sign_shorter _ _ _ s.1, pairs_shorter ps s.0 rest s.2)
  form_shorter (item e i) ts rest s = omega (arith, shorter e ts s.0 s.3, sign_shorter _ _ _ s.4, shorter i s.1 s.2 s.5, sign_shorter _ _ _ s.6)
  form_shorter (key e k) ts rest s = omega (arith, shorter e ts s.0 s.3, sign_shorter _ _ _ s.4, shorter k s.1 s.2 s.5, sign_shorter _ _ _ s.6)
  form_shorter (method e n es) ts rest s = omega (arith, shorter e ts s.0 s.4, sign_shorter _ _ _ s.5, sign_shorter _ _ _ s.6, sign_shorter _ _ _ s.7, all_shorter es w.CloseRound s.3 rest s.8)
  form_shorter (prefix o e) ts rest s = omega (arith, sign_shorter _ _ _ s.1, shorter e s.0 rest s.2)
  form_shorter (binary a o b) ts rest s = omega (arith, shorter a ts s.0 s.2, sign_shorter _ _ _ s.3, shorter b s.1 rest s.4)
  form_shorter (choice c a b) ts rest s = omega (arith, shorter c ts s.0 s.4, sign_shorter _ _ _ s.5, shorter a s.1 s.2 s.6, sign_shorter _ _ _ s.7, shorter b s.3 rest s.8)
  form_shorter (dependency a b) ts rest s = omega (arith, shorter a ts s.0 s.2, sign_shorter _ _ _ s.3, shorter b s.1 rest s.4)

  pub all_shorter : (es : Trees) (close : Word) (ts rest : List Token) → SpellsAll close es ts rest → length rest < length ts
  all_shorter none close ts rest s = omega (arith, sign_shorter _ _ _ s)
  all_shorter (more e es) close ts rest s = omega (arith, shorter e ts s.0 s.1, tail_shorter es close s.0 rest s.2)

  pub tail_shorter : (es : Trees) (close : Word) (ts rest : List Token) → SpellsTail close es ts rest → length rest < length ts
  tail_shorter none close ts rest s = omega (arith, sign_shorter _ _ _ s)
  tail_shorter (more e es) close ts rest s = omega (arith, sign_shorter _ _ _ s.2, shorter e s.0 s.1 s.3, tail_shorter es close s.1 rest s.4)

  pub pairs_shorter : (ps : TreePairs) (ts rest : List Token) → SpellsPairs ps ts rest → length rest < length ts
  pairs_shorter no_pairs ts rest s = omega (arith, sign_shorter _ _ _ s)
  pairs_shorter (more_pairs k v ps) ts rest s = omega (arith, shorter k ts s.0 s.3, sign_shorter _ _ _ s.4, shorter v s.1 s.2 s.5, pair_tail_shorter ps s.2 rest s.6)

  pub pair_tail_shorter : (ps : TreePairs) (ts rest : List Token) → SpellsPairTail ps ts rest → length rest < length ts
  pair_tail_shorter no_pairs ts rest s = omega (arith, sign_shorter _ _ _ s)
  pair_tail_shorter (more_pairs k v ps) ts rest s = omega (arith, sign_shorter _ _ _ s.4, shorter k s.0 s.1 s.5, sign_shorter _ _ _ s.6, shorter v s.2 s.3 s.7, pair_tail_shorter ps s.3 rest s.8)

-- the first token of a spelling begins an expression
abbrev pub Begins : List Token → Type 0
Begins ts = (t : Token) × (us : List Token) × (ts ≡ t ∷ us) × (first_of t.word ≢ begins_none)

begins_with : (word : Word) (ts rest : List Token) → Sign word ts rest → first_of word ≢ begins_none → Begins ts
begins_with word ts rest s ne = (token s.0 word, rest, s.1, ne)

begins_prefix : (o : PrefixOp) → first_of (sign_before o) ≢ begins_none
begins_prefix pre.Neg e = cc
begins_prefix pre.Not e = cc

begins_truth : (b : Bool) → first_of (word_of_bool b) ≢ begins_none
begins_truth true e = cc
begins_truth false e = cc

mutual
  pub begins : (e : Tree) (ts rest : List Token) → Spells e ts rest → Begins ts
  begins (node at t f) ts rest s = form_begins f ts rest s.1

  form_begins : (f : FormTree) (ts rest : List Token) → SpellsForm f ts rest → Begins ts
  form_begins (number v) ts rest s = begins_with _ _ _ s (λ e. cc)
  form_begins (text ps) ts rest s = begins_with _ _ _ s (λ e. cc)
  form_begins (truth b) ts rest s = begins_with _ _ _ s (begins_truth b)
  form_begins (name n) ts rest s = begins_with _ _ _ s (λ e. cc)
  form_begins (call n es) ts rest s = begins_with _ _ _ s.2 (λ e. cc)
  form_begins (group e) ts rest s = begins_with _ _ _ s.2 (λ e. cc)
  form_begins (list es) ts rest s = begins_with _ _ _ s.1 (λ e. cc)
  form_begins (mapping ps) ts rest s = begins_with _ _ _ s.1 (λ e. cc)
  form_begins (item e i) ts rest s = begins e ts s.0 s.3
  form_begins (key e k) ts rest s = begins e ts s.0 s.3
  form_begins (method e n es) ts rest s = begins e ts s.0 s.4
  form_begins (prefix o e) ts rest s = begins_with _ _ _ s.1 (begins_prefix o)
  form_begins (binary a o b) ts rest s = begins a ts s.0 s.2
  form_begins (choice c a b) ts rest s = begins c ts s.0 s.4
  form_begins (dependency a b) ts rest s = begins a ts s.0 s.2

-- a node begins on its line, and at one place on one line
pub starts : (e : Tree) (ts rest : List Token) → Spells e ts rest → Starts (line_of e) ts
starts (node at t f) ts rest s = s.0

pub one_line : (l k : ℕ) (ts : List Token) → Starts l ts → Starts k ts → l ≡ k
one_line l k ts s t =
    let e : s.0 ∷ s.1 ≡ t.0 ∷ t.1 = sym s.2 ∙ t.2 in
    let same : s.0 ≡ t.0 = cc in
    sym s.3 ∙ ap (λ (u : Token). u.line) same ∙ t.3
