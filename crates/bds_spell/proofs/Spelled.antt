-- The words that are written are those of the spelling.
use Rattle.std.proofs.Common.{◌≡◌, ℕ, true, false, List, [], ◌∷◌, ◌++◌, refl, ap, ◌∙◌}
use Rattle.bds_tree.specs.declared.token.Word.{Word}
use Rattle.bds_tree.specs.declared.token.Word.TheVariants as w
use Rattle.bds_tree.specs.Tree.{Tree, FormTree, Trees, TreePairs, node, number, text, truth, name, call, group, list, mapping, item, key, method, prefix, binary, choice, dependency, none, more, no_pairs, more_pairs}
use Rattle.bds_tree.specs.Spelling.{Mark, sign, begins, sign_of, sign_before, spell, spell_form, spell_all, spell_tail, spell_pairs, spell_pair_tail}
use Rattle.bds_tree.specs.Words.{mark_word, words_of}
use Rattle.bds_spell.specs.ExprWords.{expr_words, form_words, all_words, pair_words}

pub both : (a b : List Mark) (x y : List Word) → words_of a ≡ x → words_of b ≡ y → words_of (a ++ b) ≡ x ++ y
both [] b x y p q = ap (λ u. u ++ words_of b) p ∙ ap (λ u. x ++ u) q
both (m ∷ a) b x y p q = ap (λ u. mark_word m ∷ u) (both a b (words_of a) (words_of b) refl refl) ∙ ap (λ u. u ++ words_of b) p ∙ ap (λ u. x ++ u) q

pub on_line : (l : ℕ) (ms : List Mark) → words_of (begins l ms) ≡ words_of ms
on_line l [] = refl
on_line l (m ∷ ms) = refl

mutual
  pub expr_spelled : (e : Tree) → words_of (spell e) ≡ expr_words e
  expr_spelled (node at t f) = on_line at.line (spell_form f) ∙ form_spelled f

  form_spelled : (f : FormTree) → words_of (spell_form f) ≡ form_words f
  form_spelled (number v) = refl
  form_spelled (text ps) = refl
  form_spelled (truth b) = refl
  form_spelled (name n) = refl
  form_spelled (call n es) = (both (sign (w.Name n)) ((sign w.OpenRound) ++ (spell_all w.CloseRound es)) ((w.Name n) ∷ []) ((w.OpenRound ∷ []) ++ (all_words true w.CloseRound es)) refl (both (sign w.OpenRound) (spell_all w.CloseRound es) (w.OpenRound ∷ []) (all_words true w.CloseRound es) refl (all_spelled w.CloseRound es)))
  form_spelled (group e) = (both (sign w.OpenRound) ((spell e) ++ (sign w.CloseRound)) (w.OpenRound ∷ []) ((expr_words e) ++ (w.CloseRound ∷ [])) refl (both (spell e) (sign w.CloseRound) (expr_words e) (w.CloseRound ∷ []) (expr_spelled e) refl))
  form_spelled (list es) = (both (sign w.OpenSquare) (spell_all w.CloseSquare es) (w.OpenSquare ∷ []) (all_words true w.CloseSquare es) refl (all_spelled w.CloseSquare es))
  form_spelled (mapping ps) = (both (sign w.OpenValue) (spell_pairs ps) (w.OpenValue ∷ []) (pair_words true ps) refl (pairs_spelled ps))
  form_spelled (item a i) = (both (spell a) ((sign w.OpenSquare) ++ ((spell i) ++ (sign w.CloseSquare))) (expr_words a) ((w.OpenSquare ∷ []) ++ ((expr_words i) ++ (w.CloseSquare ∷ []))) (expr_spelled a) (both (sign w.OpenSquare) ((spell i) ++ (sign w.CloseSquare)) (w.OpenSquare ∷ []) ((expr_words i) ++ (w.CloseSquare ∷ [])) refl (both (spell i) (sign w.CloseSquare) (expr_words i) (w.CloseSquare ∷ []) (expr_spelled i) refl)))
  form_spelled (key a k) = (both (spell a) ((sign w.OpenValue) ++ ((spell k) ++ (sign w.CloseValue))) (expr_words a) ((w.OpenValue ∷ []) ++ ((expr_words k) ++ (w.CloseValue ∷ []))) (expr_spelled a) (both (sign w.OpenValue) ((spell k) ++ (sign w.CloseValue)) (w.OpenValue ∷ []) ((expr_words k) ++ (w.CloseValue ∷ [])) refl (both (spell k) (sign w.CloseValue) (expr_words k) (w.CloseValue ∷ []) (expr_spelled k) refl)))
  form_spelled (method a n es) = (both (spell a) ((sign w.Dot) ++ ((sign (w.Name n)) ++ ((sign w.OpenRound) ++ (spell_all w.CloseRound es)))) (expr_words a) ((w.Dot ∷ []) ++ (((w.Name n) ∷ []) ++ ((w.OpenRound ∷ []) ++ (all_words true w.CloseRound es)))) (expr_spelled a) (both (sign w.Dot) ((sign (w.Name n)) ++ ((sign w.OpenRound) ++ (spell_all w.CloseRound es))) (w.Dot ∷ []) (((w.Name n) ∷ []) ++ ((w.OpenRound ∷ []) ++ (all_words true w.CloseRound es))) refl (both (sign (w.Name n)) ((sign w.OpenRound) ++ (spell_all w.CloseRound es)) ((w.Name n) ∷ []) ((w.OpenRound ∷ []) ++ (all_words true w.CloseRound es)) refl (both (sign w.OpenRound) (spell_all w.CloseRound es) (w.OpenRound ∷ []) (all_words true w.CloseRound es) refl (all_spelled w.CloseRound es)))))
  form_spelled (prefix o a) = (both (sign (sign_before o)) (spell a) ((sign_before o) ∷ []) (expr_words a) refl (expr_spelled a))
  form_spelled (binary a o b) = (both (spell a) ((sign (sign_of o)) ++ (spell b)) (expr_words a) (((sign_of o) ∷ []) ++ (expr_words b)) (expr_spelled a) (both (sign (sign_of o)) (spell b) ((sign_of o) ∷ []) (expr_words b) refl (expr_spelled b)))
  form_spelled (choice c a b) = (both (spell c) ((sign w.Question) ++ ((spell a) ++ ((sign w.Colon) ++ (spell b)))) (expr_words c) ((w.Question ∷ []) ++ ((expr_words a) ++ ((w.Colon ∷ []) ++ (expr_words b)))) (expr_spelled c) (both (sign w.Question) ((spell a) ++ ((sign w.Colon) ++ (spell b))) (w.Question ∷ []) ((expr_words a) ++ ((w.Colon ∷ []) ++ (expr_words b))) refl (both (spell a) ((sign w.Colon) ++ (spell b)) (expr_words a) ((w.Colon ∷ []) ++ (expr_words b)) (expr_spelled a) (both (sign w.Colon) (spell b) (w.Colon ∷ []) (expr_words b) refl (expr_spelled b)))))
  form_spelled (dependency a b) = (both (spell a) ((sign w.From) ++ (spell b)) (expr_words a) ((w.From ∷ []) ++ (expr_words b)) (expr_spelled a) (both (sign w.From) (spell b) (w.From ∷ []) (expr_words b) refl (expr_spelled b)))

  pub all_spelled : (close : Word) (es : Trees) → words_of (spell_all close es) ≡ all_words true close es
  all_spelled close none = refl
  all_spelled close (more e es) = (both (spell e) (spell_tail close es) (expr_words e) (all_words false close es) (expr_spelled e) (tail_spelled close es))

  tail_spelled : (close : Word) (es : Trees) → words_of (spell_tail close es) ≡ all_words false close es
  tail_spelled close none = refl
  tail_spelled close (more e es) = (both (sign w.Comma) ((spell e) ++ (spell_tail close es)) (w.Comma ∷ []) ((expr_words e) ++ (all_words false close es)) refl (both (spell e) (spell_tail close es) (expr_words e) (all_words false close es) (expr_spelled e) (tail_spelled close es)))

  pairs_spelled : (ps : TreePairs) → words_of (spell_pairs ps) ≡ pair_words true ps
  pairs_spelled no_pairs = refl
  pairs_spelled (more_pairs k v ps) = (both (spell k) ((sign w.Arrow) ++ ((spell v) ++ (spell_pair_tail ps))) (expr_words k) ((w.Arrow ∷ []) ++ ((expr_words v) ++ (pair_words false ps))) (expr_spelled k) (both (sign w.Arrow) ((spell v) ++ (spell_pair_tail ps)) (w.Arrow ∷ []) ((expr_words v) ++ (pair_words false ps)) refl (both (spell v) (spell_pair_tail ps) (expr_words v) (pair_words false ps) (expr_spelled v) (pair_tail_spelled ps))))

  pair_tail_spelled : (ps : TreePairs) → words_of (spell_pair_tail ps) ≡ pair_words false ps
  pair_tail_spelled no_pairs = refl
  pair_tail_spelled (more_pairs k v ps) = (both (sign w.Comma) ((spell k) ++ ((sign w.Arrow) ++ ((spell v) ++ (spell_pair_tail ps)))) (w.Comma ∷ []) ((expr_words k) ++ ((w.Arrow ∷ []) ++ ((expr_words v) ++ (pair_words false ps)))) refl (both (spell k) ((sign w.Arrow) ++ ((spell v) ++ (spell_pair_tail ps))) (expr_words k) ((w.Arrow ∷ []) ++ ((expr_words v) ++ (pair_words false ps))) (expr_spelled k) (both (sign w.Arrow) ((spell v) ++ (spell_pair_tail ps)) (w.Arrow ∷ []) ((expr_words v) ++ (pair_words false ps)) refl (both (spell v) (spell_pair_tail ps) (expr_words v) (pair_words false ps) (expr_spelled v) (pair_tail_spelled ps)))))
