-- The words of tokens, and those of what is spelled.
use Rattle.std.specs.Prelude.{List, [], ◌∷◌, map}
use Rattle.bds_tree.specs.declared.token.Word.{Word}
use Rattle.bds_tree.specs.declared.token.Token.{Token}
use Rattle.bds_tree.specs.Spelling.{Mark, any, on}

abbrev pub mark_word : Mark → Word
mark_word (any word) = word
mark_word (on l m) = mark_word m

-- the words of what is spelled
abbrev pub words_of : List Mark → List Word
words_of [] = []
words_of (m ∷ ms) = mark_word m ∷ words_of ms

-- the words of tokens
abbrev pub words : List Token → List Word
words ts = map (λ (t : Token). t.word) ts
