-- Lines of texts for people.
use Rattle.std.specs.Prelude.{ℕ, List, ◌++◌, codes, decimal}
use Rattle.std.specs.List.{flat_map}

-- the texts one after the other, each with a line end
abbrev pub lines : List (List ℕ) → List ℕ
lines texts = flat_map (λ text. text ++ codes "\n") texts

-- a text, and a number behind it
abbrev pub numbered : List ℕ → ℕ → List ℕ
numbered text number = text ++ decimal number

-- a word, a blank and a number
abbrev pub counted : List ℕ → ℕ → List ℕ
counted word number = numbered (word ++ codes " ") number
