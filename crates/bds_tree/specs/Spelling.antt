-- How an expression is spelled, by one line for each form.
use Rattle.std.specs.Prelude.{◌≡◌, ℕ, Bool, true, false, List, [], ◌∷◌, ◌++◌}
use Rattle.bds_tree.specs.declared.token.Word.{Word}
use Rattle.bds_tree.specs.declared.token.Word.TheVariants as w
use Rattle.bds_tree.specs.declared.token.Token.{Token}
use Rattle.bds_tree.specs.declared.expr.PrefixOp.{PrefixOp}
use Rattle.bds_tree.specs.declared.expr.PrefixOp.TheVariants as pre
use Rattle.bds_tree.specs.declared.expr.BinaryOp.{BinaryOp}
use Rattle.bds_tree.specs.declared.expr.BinaryOp.TheVariants as op
use Rattle.bds_tree.specs.Tree.{Tree, FormTree, Trees, TreePairs, node, number, text, truth, name, call, group, list, mapping, item, key, method, prefix, binary, choice, dependency, none, more, no_pairs, more_pairs}

-- a token that is spelled: a word on any line, or one that stands on a line
pub data Mark : Type 0 where
  any : Word → Mark
  on : ℕ → Mark → Mark

abbrev pub sign : Word → List Mark
sign word = any word ∷ []

-- the first of these tokens stands on the line
abbrev pub begins : ℕ → List Mark → List Mark
begins l [] = []
begins l (m ∷ ms) = on l m ∷ ms

abbrev pub word_of_bool : Bool → Word
word_of_bool true = w.True
word_of_bool false = w.False

abbrev pub sign_before : PrefixOp → Word
sign_before pre.Neg = w.Minus
sign_before pre.Not = w.Not

abbrev pub sign_of : BinaryOp → Word
sign_of op.Or = w.Or
sign_of op.And = w.And
sign_of op.Equal = w.Equal
sign_of op.NotEqual = w.NotEqual
sign_of op.Less = w.Less
sign_of op.AtMost = w.AtMost
sign_of op.Greater = w.Greater
sign_of op.AtLeast = w.AtLeast
sign_of op.Add = w.Plus
sign_of op.Sub = w.Minus
sign_of op.Mul = w.Star
sign_of op.Div = w.Slash
sign_of op.Rem = w.Percent

-- a node's line is that of the token at which its spelling begins
abbrev mutual
  pub spell : Tree → List Mark
  spell (node at ty f) = begins at.line (spell_form f)

  pub spell_form : FormTree → List Mark
  spell_form (number v) = sign (w.Number v)
  spell_form (text ps) = sign (w.Text ps)
  spell_form (truth b) = sign (word_of_bool b)
  spell_form (name n) = sign (w.Name n)
  spell_form (call n es) = sign (w.Name n) ++ (sign w.OpenRound ++ spell_all w.CloseRound es)
  spell_form (group e) = sign w.OpenRound ++ (spell e ++ sign w.CloseRound)
  spell_form (list es) = sign w.OpenSquare ++ spell_all w.CloseSquare es
  spell_form (mapping ps) = sign w.OpenValue ++ spell_pairs ps
  spell_form (item a i) = spell a ++ (sign w.OpenSquare ++ (spell i ++ sign w.CloseSquare))
  spell_form (key a k) = spell a ++ (sign w.OpenValue ++ (spell k ++ sign w.CloseValue))
  spell_form (method a n es) = spell a ++ (sign w.Dot ++ (sign (w.Name n) ++ (sign w.OpenRound ++ spell_all w.CloseRound es)))
  spell_form (prefix o a) = sign (sign_before o) ++ spell a
  spell_form (binary a o b) = spell a ++ (sign (sign_of o) ++ spell b)
  spell_form (choice c a b) = spell c ++ (sign w.Question ++ (spell a ++ (sign w.Colon ++ spell b)))
  spell_form (dependency a b) = spell a ++ (sign w.From ++ spell b)

  -- several with commas between, and the sign that closes them
  pub spell_all : Word → Trees → List Mark
  spell_all close none = sign close
  spell_all close (more e es) = spell e ++ spell_tail close es

  pub spell_tail : Word → Trees → List Mark
  spell_tail close none = sign close
  spell_tail close (more e es) = sign w.Comma ++ (spell e ++ spell_tail close es)

  -- pairs of key and value with commas between, and the brace that closes them
  pub spell_pairs : TreePairs → List Mark
  spell_pairs no_pairs = sign w.CloseValue
  spell_pairs (more_pairs k v ps) = spell k ++ (sign w.Arrow ++ (spell v ++ spell_pair_tail ps))

  pub spell_pair_tail : TreePairs → List Mark
  spell_pair_tail no_pairs = sign w.CloseValue
  spell_pair_tail (more_pairs k v ps) = sign w.Comma ++ (spell k ++ (sign w.Arrow ++ (spell v ++ spell_pair_tail ps)))

abbrev pub Matches : Mark → Token → Type 0
Matches (any word) t = t.word ≡ word
Matches (on l m) t = (t.line ≡ l) × Matches m t

-- the tokens begin so, and the rest stands behind
abbrev pub Fronts : List Mark → List Token → List Token → Type 0
Fronts [] ts rest = ts ≡ rest
Fronts (m ∷ ms) [] rest = ⊥
Fronts (m ∷ ms) (t ∷ ts) rest = Matches m t × Fronts ms ts rest
