-- For private contracts alone: the words of the spelling of an expression, as they are written one behind the other.
use Rattle.std.specs.Prelude.{Bool, true, false, List, [], ◌∷◌, ◌++◌}
use Rattle.bds_tree.specs.declared.token.Word.{Word}
use Rattle.bds_tree.specs.declared.token.Word.TheVariants as w
use Rattle.bds_tree.specs.Tree.{Tree, FormTree, Trees, TreePairs, node, number, text, truth, name, call, group, list, mapping, item, key, method, prefix, binary, choice, dependency, none, more, no_pairs, more_pairs}
use Rattle.bds_tree.specs.Spelling.{word_of_bool, sign_of, sign_before}

abbrev pub close_of : Bool → Word
close_of true = w.CloseSquare
close_of false = w.CloseRound

abbrev pub comma_unless : Bool → List Word
comma_unless true = []
comma_unless false = w.Comma ∷ []

abbrev mutual
  pub expr_words : Tree → List Word
  expr_words (node at ty f) = form_words f

  pub form_words : FormTree → List Word
  form_words (number v) = w.Number v ∷ []
  form_words (text ps) = w.Text ps ∷ []
  form_words (truth b) = word_of_bool b ∷ []
  form_words (name n) = w.Name n ∷ []
  form_words (call n es) = (w.Name n ∷ []) ++ ((w.OpenRound ∷ []) ++ all_words true w.CloseRound es)
  form_words (group e) = (w.OpenRound ∷ []) ++ (expr_words e ++ (w.CloseRound ∷ []))
  form_words (list es) = (w.OpenSquare ∷ []) ++ all_words true w.CloseSquare es
  form_words (mapping ps) = (w.OpenValue ∷ []) ++ pair_words true ps
  form_words (item a i) = expr_words a ++ ((w.OpenSquare ∷ []) ++ (expr_words i ++ (w.CloseSquare ∷ [])))
  form_words (key a k) = expr_words a ++ ((w.OpenValue ∷ []) ++ (expr_words k ++ (w.CloseValue ∷ [])))
  form_words (method a n es) = expr_words a ++ ((w.Dot ∷ []) ++ ((w.Name n ∷ []) ++ ((w.OpenRound ∷ []) ++ all_words true w.CloseRound es)))
  form_words (prefix o a) = (sign_before o ∷ []) ++ expr_words a
  form_words (binary a o b) = expr_words a ++ ((sign_of o ∷ []) ++ expr_words b)
  form_words (choice c a b) = expr_words c ++ ((w.Question ∷ []) ++ (expr_words a ++ ((w.Colon ∷ []) ++ expr_words b)))
  form_words (dependency a b) = expr_words a ++ ((w.From ∷ []) ++ expr_words b)

  -- those that are left, of which the first has a comma before it or not
  pub all_words : Bool → Word → Trees → List Word
  all_words first close none = close ∷ []
  all_words first close (more e es) = comma_unless first ++ (expr_words e ++ all_words false close es)

  pub pair_words : Bool → TreePairs → List Word
  pair_words first no_pairs = w.CloseValue ∷ []
  pair_words first (more_pairs k v ps) = comma_unless first ++ (expr_words k ++ ((w.Arrow ∷ []) ++ (expr_words v ++ pair_words false ps)))
