-- The two ways to say how a tree is spelled are one.
use Rattle.std.proofs.Common.{◌≡◌, ℕ, List, [], ◌∷◌, ◌++◌, length, drop, refl, sym, ap, ◌∙◌, subst}
use Rattle.bds_tree.specs.declared.token.Word.{Word}
use Rattle.bds_tree.specs.declared.token.Word.TheVariants as w
use Rattle.bds_tree.specs.declared.token.Token.{Token}
use Rattle.bds_tree.specs.Tree.{Tree, FormTree, Trees, TreePairs, node, number, text, truth, name, call, group, list, mapping, item, key, method, prefix, binary, choice, dependency, none, more, no_pairs, more_pairs}
use Rattle.bds_tree.specs.Spelling.{Mark, any, on, sign, begins, word_of_bool, sign_of, sign_before, spell, spell_form, spell_all, spell_tail, spell_pairs, spell_pair_tail, Fronts}
use Rattle.bds_parse_expr.specs.Spells.{token, Sign, Starts, Spells, SpellsForm, SpellsAll, SpellsTail, SpellsPairs, SpellsPairTail}

pub both : (ms ns : List Mark) (ts mid rest : List Token) → Fronts ms ts mid → Fronts ns mid rest → Fronts (ms ++ ns) ts rest
both [] ns ts mid rest f g = subst (λ u. Fronts ns u rest) (sym f) g
both (m ∷ ms) ns [] mid rest f g = f
both (m ∷ ms) ns (t ∷ ts) mid rest f g = (f.0, both ms ns ts mid rest f.1 g)

pub parts : (ms ns : List Mark) (ts rest : List Token) → Fronts (ms ++ ns) ts rest → (mid : List Token) × Fronts ms ts mid × Fronts ns mid rest
parts [] ns ts rest f = (ts, refl, f)
parts (m ∷ ms) ns [] rest f = absurd f
parts (m ∷ ms) ns (t ∷ ts) rest f = let p = parts ms ns ts rest f.1 in (p.0, (f.0, p.1), p.2)

pub sign_front : (word : Word) (ts rest : List Token) → Sign word ts rest → Fronts (sign word) ts rest
sign_front word ts rest s = subst (λ u. Fronts (sign word) u rest) (sym s.1) (refl, refl)

pub sign_back : (word : Word) (ts rest : List Token) → Fronts (sign word) ts rest → Sign word ts rest
sign_back word [] rest f = absurd f
sign_back word (t ∷ ts) rest f = (t.line, ap (λ u. token t.line u ∷ ts) f.0 ∙ ap (λ u. token t.line word ∷ u) f.1)

pub to_begins : (l : ℕ) (ms : List Mark) (ts rest : List Token) → Starts l ts → Fronts ms ts rest → Fronts (begins l ms) ts rest
to_begins l [] ts rest s f = f
to_begins l (m ∷ ms) [] rest s f = f
to_begins l (m ∷ ms) (t ∷ ts) rest s f =
    let e : t ∷ ts ≡ s.0 ∷ s.1 = s.2 in
    let same : t ≡ s.0 = cc in
    ((ap (λ (u : Token). u.line) same ∙ s.3, f.0), f.1)

abbrev pub Nonempty : List Mark → Type 0
Nonempty ms = (m : Mark) × (ns : List Mark) × (ms ≡ m ∷ ns)

pub from_begins : (l : ℕ) (ms : List Mark) (ts rest : List Token) → Nonempty ms → Fronts (begins l ms) ts rest → Starts l ts × Fronts ms ts rest
from_begins l [] ts rest ne f = let e : [] ≡ ne.0 ∷ ne.1 = ne.2 in cc
from_begins l (m ∷ ms) [] rest ne f = absurd f
from_begins l (m ∷ ms) (t ∷ ts) rest ne f = ((t, ts, refl, f.0.0), (f.0.1, f.1))

longer : (ms ns : List Mark) → Nonempty ms → Nonempty (ms ++ ns)
longer ms ns ne = (ne.0, ne.1 ++ ns, ap (λ u. u ++ ns) ne.2)

begun : (l : ℕ) (ms : List Mark) → Nonempty ms → Nonempty (begins l ms)
begun l ms ne = (on l ne.0, ne.1, ap (begins l) ne.2)

-- each tree is spelled by at least one token
mutual
  pub spelled : (e : Tree) → Nonempty (spell e)
  spelled (node at t f) = begun at.line (spell_form f) (form_spelled f)

  form_spelled : (f : FormTree) → Nonempty (spell_form f)
  form_spelled (number v) = (any (w.Number v), [], refl)
  form_spelled (text ps) = (any (w.Text ps), [], refl)
  form_spelled (truth b) = (any (word_of_bool b), [], refl)
  form_spelled (name n) = (any (w.Name n), [], refl)
  form_spelled (call n es) = (any (w.Name n), sign w.OpenRound ++ spell_all w.CloseRound es, refl)
  form_spelled (group e) = (any w.OpenRound, spell e ++ sign w.CloseRound, refl)
  form_spelled (list es) = (any w.OpenSquare, spell_all w.CloseSquare es, refl)
  form_spelled (mapping ps) = (any w.OpenValue, spell_pairs ps, refl)
  form_spelled (item a i) = longer (spell a) (sign w.OpenSquare ++ (spell i ++ sign w.CloseSquare)) (spelled a)
  form_spelled (key a k) = longer (spell a) (sign w.OpenValue ++ (spell k ++ sign w.CloseValue)) (spelled a)
  form_spelled (method a n es) = longer (spell a) (sign w.Dot ++ (sign (w.Name n) ++ (sign w.OpenRound ++ spell_all w.CloseRound es))) (spelled a)
  form_spelled (prefix o a) = (any (sign_before o), spell a, refl)
  form_spelled (binary a o b) = longer (spell a) (sign (sign_of o) ++ spell b) (spelled a)
  form_spelled (choice c a b) = longer (spell c) (sign w.Question ++ (spell a ++ (sign w.Colon ++ spell b))) (spelled c)
  form_spelled (dependency a b) = longer (spell a) (sign w.From ++ spell b) (spelled a)

mutual
  pub to_fronts : (e : Tree) (ts rest : List Token) → Spells e ts rest → Fronts (spell e) ts rest
  to_fronts (node at t f) ts rest s = to_begins at.line (spell_form f) ts rest s.0 (to_fronts_form f ts rest s.1)

  to_fronts_form : (f : FormTree) (ts rest : List Token) → SpellsForm f ts rest → Fronts (spell_form f) ts rest
  to_fronts_form (number v) ts rest s = sign_front (w.Number v) ts rest s
  to_fronts_form (text ps) ts rest s = sign_front (w.Text ps) ts rest s
  to_fronts_form (truth b) ts rest s = sign_front (word_of_bool b) ts rest s
  to_fronts_form (name n) ts rest s = sign_front (w.Name n) ts rest s
  to_fronts_form (call n es) ts rest s = both (sign (w.Name n)) (sign w.OpenRound ++ spell_all w.CloseRound es) ts s.0 rest (sign_front (w.Name n) ts s.0 s.2) (both (sign w.OpenRound) (spell_all w.CloseRound es) s.0 s.1 rest (sign_front w.OpenRound s.0 s.1 s.3) (to_fronts_all es w.CloseRound s.1 rest s.4))
  to_fronts_form (group e) ts rest s = both (sign w.OpenRound) (spell e ++ sign w.CloseRound) ts s.0 rest (sign_front w.OpenRound ts s.0 s.2) (both (spell e) (sign w.CloseRound) s.0 s.1 rest (to_fronts e s.0 s.1 s.3) (sign_front w.CloseRound s.1 rest s.4))
  to_fronts_form (list es) ts rest s = both (sign w.OpenSquare) (spell_all w.CloseSquare es) ts s.0 rest (sign_front w.OpenSquare ts s.0 s.1) (to_fronts_all es w.CloseSquare s.0 rest s.2)
  to_fronts_form (mapping ps) ts rest s = both (sign w.OpenValue) (spell_pairs ps) ts s.0 rest (sign_front w.OpenValue ts s.0 s.1) (to_fronts_pairs ps s.0 rest s.2)
  to_fronts_form (item a i) ts rest s = both (spell a) (sign w.OpenSquare ++ (spell i ++ sign w.CloseSquare)) ts s.0 rest (to_fronts a ts s.0 s.3) (both (sign w.OpenSquare) (spell i ++ sign w.CloseSquare) s.0 s.1 rest (sign_front w.OpenSquare s.0 s.1 s.4) (both (spell i) (sign w.CloseSquare) s.1 s.2 rest (to_fronts i s.1 s.2 s.5) (sign_front w.CloseSquare s.2 rest s.6)))
  to_fronts_form (key a k) ts rest s = both (spell a) (sign w.OpenValue ++ (spell k ++ sign w.CloseValue)) ts s.0 rest (to_fronts a ts s.0 s.3) (both (sign w.OpenValue) (spell k ++ sign w.CloseValue) s.0 s.1 rest (sign_front w.OpenValue s.0 s.1 s.4) (both (spell k) (sign w.CloseValue) s.1 s.2 rest (to_fronts k s.1 s.2 s.5) (sign_front w.CloseValue s.2 rest s.6)))
  to_fronts_form (method a n es) ts rest s = both (spell a) (sign w.Dot ++ (sign (w.Name n) ++ (sign w.OpenRound ++ spell_all w.CloseRound es))) ts s.0 rest (to_fronts a ts s.0 s.4) (both (sign w.Dot) (sign (w.Name n) ++ (sign w.OpenRound ++ spell_all w.CloseRound es)) s.0 s.1 rest (sign_front w.Dot s.0 s.1 s.5) (both (sign (w.Name n)) (sign w.OpenRound ++ spell_all w.CloseRound es) s.1 s.2 rest (sign_front (w.Name n) s.1 s.2 s.6) (both (sign w.OpenRound) (spell_all w.CloseRound es) s.2 s.3 rest (sign_front w.OpenRound s.2 s.3 s.7) (to_fronts_all es w.CloseRound s.3 rest s.8))))
  to_fronts_form (prefix o a) ts rest s = both (sign (sign_before o)) (spell a) ts s.0 rest (sign_front (sign_before o) ts s.0 s.1) (to_fronts a s.0 rest s.2)
  to_fronts_form (binary a o b) ts rest s = both (spell a) (sign (sign_of o) ++ spell b) ts s.0 rest (to_fronts a ts s.0 s.2) (both (sign (sign_of o)) (spell b) s.0 s.1 rest (sign_front (sign_of o) s.0 s.1 s.3) (to_fronts b s.1 rest s.4))
  to_fronts_form (choice c a b) ts rest s = both (spell c) (sign w.Question ++ (spell a ++ (sign w.Colon ++ spell b))) ts s.0 rest (to_fronts c ts s.0 s.4) (both (sign w.Question) (spell a ++ (sign w.Colon ++ spell b)) s.0 s.1 rest (sign_front w.Question s.0 s.1 s.5) (both (spell a) (sign w.Colon ++ spell b) s.1 s.2 rest (to_fronts a s.1 s.2 s.6) (both (sign w.Colon) (spell b) s.2 s.3 rest (sign_front w.Colon s.2 s.3 s.7) (to_fronts b s.3 rest s.8))))
  to_fronts_form (dependency a b) ts rest s = both (spell a) (sign w.From ++ spell b) ts s.0 rest (to_fronts a ts s.0 s.2) (both (sign w.From) (spell b) s.0 s.1 rest (sign_front w.From s.0 s.1 s.3) (to_fronts b s.1 rest s.4))

  pub to_fronts_all : (es : Trees) (close : Word) (ts rest : List Token) → SpellsAll close es ts rest → Fronts (spell_all close es) ts rest
  to_fronts_all none close ts rest s = sign_front close ts rest s
  to_fronts_all (more e es) close ts rest s = both (spell e) (spell_tail close es) ts s.0 rest (to_fronts e ts s.0 s.1) (to_fronts_tail es close s.0 rest s.2)

  to_fronts_tail : (es : Trees) (close : Word) (ts rest : List Token) → SpellsTail close es ts rest → Fronts (spell_tail close es) ts rest
  to_fronts_tail none close ts rest s = sign_front close ts rest s
  to_fronts_tail (more e es) close ts rest s = both (sign w.Comma) (spell e ++ spell_tail close es) ts s.0 rest (sign_front w.Comma ts s.0 s.2) (both (spell e) (spell_tail close es) s.0 s.1 rest (to_fronts e s.0 s.1 s.3) (to_fronts_tail es close s.1 rest s.4))

  to_fronts_pairs : (ps : TreePairs) (ts rest : List Token) → SpellsPairs ps ts rest → Fronts (spell_pairs ps) ts rest
  to_fronts_pairs no_pairs ts rest s = sign_front w.CloseValue ts rest s
  to_fronts_pairs (more_pairs k v ps) ts rest s = both (spell k) (sign w.Arrow ++ (spell v ++ spell_pair_tail ps)) ts s.0 rest (to_fronts k ts s.0 s.3) (both (sign w.Arrow) (spell v ++ spell_pair_tail ps) s.0 s.1 rest (sign_front w.Arrow s.0 s.1 s.4) (both (spell v) (spell_pair_tail ps) s.1 s.2 rest (to_fronts v s.1 s.2 s.5) (to_fronts_pair_tail ps s.2 rest s.6)))

  to_fronts_pair_tail : (ps : TreePairs) (ts rest : List Token) → SpellsPairTail ps ts rest → Fronts (spell_pair_tail ps) ts rest
  to_fronts_pair_tail no_pairs ts rest s = sign_front w.CloseValue ts rest s
  to_fronts_pair_tail (more_pairs k v ps) ts rest s = both (sign w.Comma) (spell k ++ (sign w.Arrow ++ (spell v ++ spell_pair_tail ps))) ts s.0 rest (sign_front w.Comma ts s.0 s.4) (both (spell k) (sign w.Arrow ++ (spell v ++ spell_pair_tail ps)) s.0 s.1 rest (to_fronts k s.0 s.1 s.5) (both (sign w.Arrow) (spell v ++ spell_pair_tail ps) s.1 s.2 rest (sign_front w.Arrow s.1 s.2 s.6) (both (spell v) (spell_pair_tail ps) s.2 s.3 rest (to_fronts v s.2 s.3 s.7) (to_fronts_pair_tail ps s.3 rest s.8))))

mutual
  pub from_fronts : (e : Tree) (ts rest : List Token) → Fronts (spell e) ts rest → Spells e ts rest
  from_fronts (node at t f) ts rest g =
      let p = from_begins at.line (spell_form f) ts rest (form_spelled f) g in
      (p.0, from_fronts_form f ts rest p.1)

  from_fronts_form : (g : FormTree) (ts rest : List Token) → Fronts (spell_form g) ts rest → SpellsForm g ts rest
  from_fronts_form (number v) ts rest f = sign_back (w.Number v) ts rest f
  from_fronts_form (text ps) ts rest f = sign_back (w.Text ps) ts rest f
  from_fronts_form (truth b) ts rest f = sign_back (word_of_bool b) ts rest f
  from_fronts_form (name n) ts rest f = sign_back (w.Name n) ts rest f
  from_fronts_form (call n es) ts rest f =
      let p1 = parts (sign (w.Name n)) (sign w.OpenRound ++ spell_all w.CloseRound es) ts rest f in
      let p2 = parts (sign w.OpenRound) (spell_all w.CloseRound es) p1.0 rest p1.2 in
      (p1.0, p2.0, sign_back (w.Name n) ts p1.0 p1.1, sign_back w.OpenRound p1.0 p2.0 p2.1, from_fronts_all es w.CloseRound p2.0 rest p2.2)
  from_fronts_form (group e) ts rest f =
      let p1 = parts (sign w.OpenRound) (spell e ++ sign w.CloseRound) ts rest f in
      let p2 = parts (spell e) (sign w.CloseRound) p1.0 rest p1.2 in
      (p1.0, p2.0, sign_back w.OpenRound ts p1.0 p1.1, from_fronts e p1.0 p2.0 p2.1, sign_back w.CloseRound p2.0 rest p2.2)
  from_fronts_form (list es) ts rest f =
      let p1 = parts (sign w.OpenSquare) (spell_all w.CloseSquare es) ts rest f in
      (p1.0, sign_back w.OpenSquare ts p1.0 p1.1, from_fronts_all es w.CloseSquare p1.0 rest p1.2)
  from_fronts_form (mapping ps) ts rest f =
      let p1 = parts (sign w.OpenValue) (spell_pairs ps) ts rest f in
      (p1.0, sign_back w.OpenValue ts p1.0 p1.1, from_fronts_pairs ps p1.0 rest p1.2)
  from_fronts_form (item a i) ts rest f =
      let p1 = parts (spell a) (sign w.OpenSquare ++ (spell i ++ sign w.CloseSquare)) ts rest f in
      let p2 = parts (sign w.OpenSquare) (spell i ++ sign w.CloseSquare) p1.0 rest p1.2 in
      let p3 = parts (spell i) (sign w.CloseSquare) p2.0 rest p2.2 in
      (p1.0, p2.0, p3.0, from_fronts a ts p1.0 p1.1, sign_back w.OpenSquare p1.0 p2.0 p2.1, from_fronts i p2.0 p3.0 p3.1, sign_back w.CloseSquare p3.0 rest p3.2)
  from_fronts_form (key a k) ts rest f =
      let p1 = parts (spell a) (sign w.OpenValue ++ (spell k ++ sign w.CloseValue)) ts rest f in
      let p2 = parts (sign w.OpenValue) (spell k ++ sign w.CloseValue) p1.0 rest p1.2 in
      let p3 = parts (spell k) (sign w.CloseValue) p2.0 rest p2.2 in
      (p1.0, p2.0, p3.0, from_fronts a ts p1.0 p1.1, sign_back w.OpenValue p1.0 p2.0 p2.1, from_fronts k p2.0 p3.0 p3.1, sign_back w.CloseValue p3.0 rest p3.2)
  from_fronts_form (method a n es) ts rest f =
      let p1 = parts (spell a) (sign w.Dot ++ (sign (w.Name n) ++ (sign w.OpenRound ++ spell_all w.CloseRound es))) ts rest f in
      let p2 = parts (sign w.Dot) (sign (w.Name n) ++ (sign w.OpenRound ++ spell_all w.CloseRound es)) p1.0 rest p1.2 in
      let p3 = parts (sign (w.Name n)) (sign w.OpenRound ++ spell_all w.CloseRound es) p2.0 rest p2.2 in
      let p4 = parts (sign w.OpenRound) (spell_all w.CloseRound es) p3.0 rest p3.2 in
      (p1.0, p2.0, p3.0, p4.0, from_fronts a ts p1.0 p1.1, sign_back w.Dot p1.0 p2.0 p2.1, sign_back (w.Name n) p2.0 p3.0 p3.1, sign_back w.OpenRound p3.0 p4.0 p4.1, from_fronts_all es w.CloseRound p4.0 rest p4.2)
  from_fronts_form (prefix o a) ts rest f =
      let p1 = parts (sign (sign_before o)) (spell a) ts rest f in
      (p1.0, sign_back (sign_before o) ts p1.0 p1.1, from_fronts a p1.0 rest p1.2)
  from_fronts_form (binary a o b) ts rest f =
      let p1 = parts (spell a) (sign (sign_of o) ++ spell b) ts rest f in
      let p2 = parts (sign (sign_of o)) (spell b) p1.0 rest p1.2 in
      (p1.0, p2.0, from_fronts a ts p1.0 p1.1, sign_back (sign_of o) p1.0 p2.0 p2.1, from_fronts b p2.0 rest p2.2)
  from_fronts_form (choice c a b) ts rest f =
      let p1 = parts (spell c) (sign w.Question ++ (spell a ++ (sign w.Colon ++ spell b))) ts rest f in
      let p2 = parts (sign w.Question) (spell a ++ (sign w.Colon ++ spell b)) p1.0 rest p1.2 in
      let p3 = parts (spell a) (sign w.Colon ++ spell b) p2.0 rest p2.2 in
      let p4 = parts (sign w.Colon) (spell b) p3.0 rest p3.2 in
      (p1.0, p2.0, p3.0, p4.0, from_fronts c ts p1.0 p1.1, sign_back w.Question p1.0 p2.0 p2.1, from_fronts a p2.0 p3.0 p3.1, sign_back w.Colon p3.0 p4.0 p4.1, from_fronts b p4.0 rest p4.2)
  from_fronts_form (dependency a b) ts rest f =
      let p1 = parts (spell a) (sign w.From ++ spell b) ts rest f in
      let p2 = parts (sign w.From) (spell b) p1.0 rest p1.2 in
      (p1.0, p2.0, from_fronts a ts p1.0 p1.1, sign_back w.From p1.0 p2.0 p2.1, from_fronts b p2.0 rest p2.2)

  pub from_fronts_all : (es : Trees) (close : Word) (ts rest : List Token) → Fronts (spell_all close es) ts rest → SpellsAll close es ts rest
  from_fronts_all none close ts rest f = sign_back close ts rest f
  from_fronts_all (more e es) close ts rest f =
      let p1 = parts (spell e) (spell_tail close es) ts rest f in
      (p1.0, from_fronts e ts p1.0 p1.1, from_fronts_tail es close p1.0 rest p1.2)

  from_fronts_tail : (es : Trees) (close : Word) (ts rest : List Token) → Fronts (spell_tail close es) ts rest → SpellsTail close es ts rest
  from_fronts_tail none close ts rest f = sign_back close ts rest f
  from_fronts_tail (more e es) close ts rest f =
      let p1 = parts (sign w.Comma) (spell e ++ spell_tail close es) ts rest f in
      let p2 = parts (spell e) (spell_tail close es) p1.0 rest p1.2 in
      (p1.0, p2.0, sign_back w.Comma ts p1.0 p1.1, from_fronts e p1.0 p2.0 p2.1, from_fronts_tail es close p2.0 rest p2.2)

  from_fronts_pairs : (ps : TreePairs) (ts rest : List Token) → Fronts (spell_pairs ps) ts rest → SpellsPairs ps ts rest
  from_fronts_pairs no_pairs ts rest f = sign_back w.CloseValue ts rest f
  from_fronts_pairs (more_pairs k v ps) ts rest f =
      let p1 = parts (spell k) (sign w.Arrow ++ (spell v ++ spell_pair_tail ps)) ts rest f in
      let p2 = parts (sign w.Arrow) (spell v ++ spell_pair_tail ps) p1.0 rest p1.2 in
      let p3 = parts (spell v) (spell_pair_tail ps) p2.0 rest p2.2 in
      (p1.0, p2.0, p3.0, from_fronts k ts p1.0 p1.1, sign_back w.Arrow p1.0 p2.0 p2.1, from_fronts v p2.0 p3.0 p3.1, from_fronts_pair_tail ps p3.0 rest p3.2)

  from_fronts_pair_tail : (ps : TreePairs) (ts rest : List Token) → Fronts (spell_pair_tail ps) ts rest → SpellsPairTail ps ts rest
  from_fronts_pair_tail no_pairs ts rest f = sign_back w.CloseValue ts rest f
  from_fronts_pair_tail (more_pairs k v ps) ts rest f =
      let p1 = parts (sign w.Comma) (spell k ++ (sign w.Arrow ++ (spell v ++ spell_pair_tail ps))) ts rest f in
      let p2 = parts (spell k) (sign w.Arrow ++ (spell v ++ spell_pair_tail ps)) p1.0 rest p1.2 in
      let p3 = parts (sign w.Arrow) (spell v ++ spell_pair_tail ps) p2.0 rest p2.2 in
      let p4 = parts (spell v) (spell_pair_tail ps) p3.0 rest p3.2 in
      (p1.0, p2.0, p3.0, p4.0, sign_back w.Comma ts p1.0 p1.1, from_fronts k p1.0 p2.0 p2.1, sign_back w.Arrow p2.0 p3.0 p3.1, from_fronts v p3.0 p4.0 p4.1, from_fronts_pair_tail ps p4.0 rest p4.2)

-- the rest is the tokens from a place on
pub fronts_drop : (ms : List Mark) (ts rest : List Token) → Fronts ms ts rest → drop (length ms) ts ≡ rest
fronts_drop [] ts rest f = f
fronts_drop (m ∷ ms) [] rest f = absurd f
fronts_drop (m ∷ ms) (t ∷ ts) rest f = fronts_drop ms ts rest f.1
