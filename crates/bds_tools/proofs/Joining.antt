-- What is put piece by piece.
use Rattle.std.proofs.Common.{◌≡◌, ℕ, List, [], ◌∷◌, ◌++◌, append_assoc, append-nil, codes, refl, sym}
use Rattle.std.proofs.lemmas.List.{flat_map_more}
use Rattle.bds_tools.specs.Lines.{counted, lines}

pub put_five : (o p q r s t a b c d e : List ℕ) → p ≡ o ++ a → q ≡ p ++ b → r ≡ q ++ c → s ≡ r ++ d → t ≡ s ++ e → t ≡ o ++ (a ++ b ++ c ++ d ++ e)
put_five o p q r s t a b c d e one two three four five = rw (five, four, three, two, one) (simp append_assoc refl)

pub put_two_lines : (o p q r s a b : List ℕ) → p ≡ o ++ a → q ≡ p ++ codes "\n" → r ≡ q ++ b → s ≡ r ++ codes "\n" → s ≡ o ++ lines (a ∷ b ∷ [])
put_two_lines o p q r s a b one two three four = rw (four, three, two, one) (simp (append_assoc, append-nil) refl)

-- these lines, and no more
pub record AreLines (texts : List (List ℕ)) (out : List ℕ) : Type 0 where
  pub are : out ≡ lines texts

-- one more line, of a word and a number
pub line_more : (texts : List (List ℕ)) (old new word : List ℕ) (n m : ℕ) → AreLines texts old → new ≡ old ++ (counted word n ++ codes "\n") → n ≡ m → AreLines (texts ++ counted word m ∷ []) new
line_more texts old new word n m before grown same = record { are = rw (grown, before.are, same) (flat_map_more (λ text. text ++ codes "\n") [] texts (counted word m)) }

-- a line of two texts is the first
pub first_line : (p q r a b : List ℕ) → p ≡ a → q ≡ p ++ b → r ≡ q ++ codes "\n" → AreLines ((a ++ b) ∷ []) r
first_line p q r a b one two three = record { are = rw (three, two, one) (sym (append-nil _)) }
