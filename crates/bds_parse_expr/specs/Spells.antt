-- For proofs alone: that tokens begin with the spelling of a tree, by the tokens that stand behind each part.
use Rattle.std.specs.Prelude.{◌≡◌, ℕ, List, ◌∷◌}
use Rattle.bds_tree.specs.declared.token.Word.{Word}
use Rattle.bds_tree.specs.declared.token.Word.TheVariants as w
use Rattle.bds_tree.specs.declared.token.Token.{Token}
use Rattle.bds_tree.specs.Tree.{Tree, FormTree, Trees, TreePairs, node, number, text, truth, name, call, group, list, mapping, item, key, method, prefix, binary, choice, dependency, none, more, no_pairs, more_pairs}
use Rattle.bds_tree.specs.Spelling.{word_of_bool, sign_of, sign_before}

abbrev pub token : ℕ → Word → Token
token l word = record { line = l; word = word }

-- a word stands at the front, on some line
abbrev pub Sign : Word → List Token → List Token → Type 0
Sign word ts rest = (l : ℕ) × (ts ≡ token l word ∷ rest)

-- the first token stands on the line
abbrev pub Starts : ℕ → List Token → Type 0
Starts l ts = (t : Token) × (us : List Token) × (ts ≡ t ∷ us) × (t.line ≡ l)

abbrev mutual
  pub Spells : Tree → List Token → List Token → Type 0
  Spells (node at ty f) ts rest = Starts at.line ts × SpellsForm f ts rest

  pub SpellsForm : FormTree → List Token → List Token → Type 0
  SpellsForm (number v) ts rest = Sign (w.Number v) ts rest
  SpellsForm (text ps) ts rest = Sign (w.Text ps) ts rest
  SpellsForm (truth b) ts rest = Sign (word_of_bool b) ts rest
  SpellsForm (name n) ts rest = Sign (w.Name n) ts rest
  SpellsForm (call n es) ts rest = (a b : List Token) × Sign (w.Name n) ts a × Sign w.OpenRound a b × SpellsAll w.CloseRound es b rest
  SpellsForm (group e) ts rest = (a b : List Token) × Sign w.OpenRound ts a × Spells e a b × Sign w.CloseRound b rest
  SpellsForm (list es) ts rest = (a : List Token) × Sign w.OpenSquare ts a × SpellsAll w.CloseSquare es a rest
  SpellsForm (mapping ps) ts rest = (a : List Token) × Sign w.OpenValue ts a × SpellsPairs ps a rest
  SpellsForm (item e i) ts rest = (a b c : List Token) × Spells e ts a × Sign w.OpenSquare a b × Spells i b c × Sign w.CloseSquare c rest
  SpellsForm (key e k) ts rest = (a b c : List Token) × Spells e ts a × Sign w.OpenValue a b × Spells k b c × Sign w.CloseValue c rest
  SpellsForm (method e n es) ts rest = (a b c d : List Token) × Spells e ts a × Sign w.Dot a b × Sign (w.Name n) b c × Sign w.OpenRound c d × SpellsAll w.CloseRound es d rest
  SpellsForm (prefix o e) ts rest = (a : List Token) × Sign (sign_before o) ts a × Spells e a rest
  SpellsForm (binary x o y) ts rest = (a b : List Token) × Spells x ts a × Sign (sign_of o) a b × Spells y b rest
  SpellsForm (choice c x y) ts rest = (a b d f : List Token) × Spells c ts a × Sign w.Question a b × Spells x b d × Sign w.Colon d f × Spells y f rest
  SpellsForm (dependency x y) ts rest = (a b : List Token) × Spells x ts a × Sign w.From a b × Spells y b rest

  -- several with commas between, and the sign that closes them
  pub SpellsAll : Word → Trees → List Token → List Token → Type 0
  SpellsAll close none ts rest = Sign close ts rest
  SpellsAll close (more e es) ts rest = (a : List Token) × Spells e ts a × SpellsTail close es a rest

  pub SpellsTail : Word → Trees → List Token → List Token → Type 0
  SpellsTail close none ts rest = Sign close ts rest
  SpellsTail close (more e es) ts rest = (a b : List Token) × Sign w.Comma ts a × Spells e a b × SpellsTail close es b rest

  -- pairs with commas between, and the brace that closes them
  pub SpellsPairs : TreePairs → List Token → List Token → Type 0
  SpellsPairs no_pairs ts rest = Sign w.CloseValue ts rest
  SpellsPairs (more_pairs k v ps) ts rest = (a b c : List Token) × Spells k ts a × Sign w.Arrow a b × Spells v b c × SpellsPairTail ps c rest

  pub SpellsPairTail : TreePairs → List Token → List Token → Type 0
  SpellsPairTail no_pairs ts rest = Sign w.CloseValue ts rest
  SpellsPairTail (more_pairs k v ps) ts rest = (a b c d : List Token) × Sign w.Comma ts a × Spells k a b × Sign w.Arrow b c × Spells v c d × SpellsPairTail ps d rest
