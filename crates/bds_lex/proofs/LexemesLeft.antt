-- Each reader of lexemes leaves no more bytes than it got, and tells each fault.
use Rattle.std.proofs.Common.{◌≡◌, ℕ, ℤ, ◌≤◌, ◌==◌, Bool, true, false, not, ◌&&◌, List, [], ◌∷◌, length, drop, Option, Some, None, Result, Ok, Err, if◌then◌else◌, refl, arith, length-drop}
use Rattle.std.specs.Prelude.{codes, ◌||◌}
use Rattle.std.specs.Str.{bytes_eq}
use Rattle.std.specs.Char.{is_ascii_digit}
use Rattle.std.specs.List.{prefix_len}
use Rattle.bds_value.specs.Results.{◌>>=◌}
use Rattle.bds_tree.specs.declared.lexing.Flaw.{Flaw}
use Rattle.bds_tree.specs.declared.lexing.Flaw.TheVariants as flaw
use Rattle.bds_tree.specs.declared.token.Word.{Word}
use Rattle.bds_tree.specs.declared.token.Word.TheVariants as word
use Rattle.bds_tree.specs.lexing.Scan.{split, split_while, behind, quoted_len, sys_len, behind_comment, without_blanks}
use Rattle.bds_tree.specs.declared.token.Piece.{Piece}
use Rattle.bds_tree.specs.declared.lexing.Style.TheVariants as style
use Rattle.bds_tree.specs.declared.lexing.Lexeme.{Lexeme}
use Rattle.bds_tree.specs.declared.lexing.Lexeme.TheVariants as lexeme
use Rattle.bds_tree.specs.lexing.Bytes.{hash, star, slash, single_quote, double_quote, is_blank, is_line_end, begins_name, is_name_byte}
use Rattle.bds_tree.specs.lexing.ReservedWords.{word_of}
use Rattle.bds_tree.specs.lexing.Lexemes.{single_quoted_text, double_quoted_text, sys_text, name_or_word, numeral, token_at, as_lexeme, line_comment, block_comment, comment_or_sign, lexeme_at}
use Rattle.bds_tree.specs.lexing.Signs.{sign_at}
use Rattle.bds_tree.specs.lexing.Pieces.{number, plain_piece, pieces_of}
use Rattle.bds_lex.proofs.PiecesLeft.{Told, Leaves, IsAtMost, drop_at_most, behind_at_most, number_told, sign_at_leaves, pieces_of_told}

single_quoted_text_leaves : (bytes : List ℕ) → Leaves (length bytes) (single_quoted_text bytes)
unfolding single_quoted_text
single_quoted_text_leaves bytes = go (behind single_quote text.1) (behind_at_most single_quote (length bytes) text.1 (drop_at_most (prefix_len (λ b. not (b == single_quote)) bytes) (length bytes) bytes (omega arith)))
  where
    text : List ℕ × List ℕ
    text = split_while (λ b. not (b == single_quote)) bytes

    go : (o : Option (List ℕ)) → IsAtMost (length bytes) o → Leaves (length bytes) (elim o as (λ o. Result (Word × List ℕ) Flaw) [ None ↦ Err flaw.OpenText | Some rest ↦ Ok (word.Text (plain_piece (split_while (λ b. not (b == single_quote)) bytes).0), rest) ])
    go None short = tt
    go (Some rest) short = short

double_quoted_text_leaves : (bytes : List ℕ) → Leaves (length bytes) (double_quoted_text bytes)
unfolding double_quoted_text
double_quoted_text_leaves bytes = found (pieces_of style.Quoted (split (quoted_len false bytes) bytes).0) (pieces_of_told style.Quoted (split (quoted_len false bytes) bytes).0)
  where
    go : (pieces : List Piece) (o : Option (List ℕ)) → IsAtMost (length bytes) o → Leaves (length bytes) (elim o as (λ o. Result (Word × List ℕ) Flaw) [ None ↦ Err flaw.OpenText | Some rest ↦ Ok (word.Text pieces, rest) ])
    go pieces None short = tt
    go pieces (Some rest) short = short

    found : (r : Result (List Piece) Flaw) → Told r → Leaves (length bytes) (r >>= λ pieces. elim (behind double_quote (split (quoted_len false bytes) bytes).1) as (λ o. Result (Word × List ℕ) Flaw) [ None ↦ Err flaw.OpenText | Some rest ↦ Ok (word.Text pieces, rest) ])
    found (Ok pieces) t = go pieces (behind double_quote (drop (quoted_len false bytes) bytes)) (behind_at_most double_quote (length bytes) (drop (quoted_len false bytes) bytes) (drop_at_most (quoted_len false bytes) (length bytes) bytes (omega arith)))
    found (Err e) t = t

sys_text_leaves : (n : ℕ) (bytes : List ℕ) → length bytes ≤ n → Leaves n (sys_text bytes)
unfolding sys_text
sys_text_leaves n bytes h = found (pieces_of style.Sys (without_blanks (split (sys_len false bytes) bytes).0)) (pieces_of_told style.Sys (without_blanks (split (sys_len false bytes) bytes).0))
  where
    found : (r : Result (List Piece) Flaw) → Told r → Leaves n (r >>= λ pieces. Ok (word.Sys pieces, (split (sys_len false bytes) bytes).1))
    found (Ok pieces) t = drop_at_most (sys_len false bytes) n bytes h
    found (Err e) t = t

-- what begins with a byte that passes leaves no more than what stands behind that byte
passed_at_most : (p : ℕ → Bool) (b : ℕ) (bytes : List ℕ) → p b ≡ true → length (split_while p (b ∷ bytes)).1 ≤ length bytes
passed_at_most p b bytes passes = let h : 1 ≤ prefix_len p (b ∷ bytes) = rw passes (omega arith) in omega (arith, length-drop (prefix_len p (b ∷ bytes)) (b ∷ bytes), h)

name_or_word_leaves : (b : ℕ) (bytes : List ℕ) → is_name_byte b ≡ true → Leaves (length bytes) (name_or_word (b ∷ bytes))
unfolding name_or_word
name_or_word_leaves b bytes passes = go (bytes_eq name.0 (codes "sys")) (passed_at_most is_name_byte b bytes passes)
  where
    name : List ℕ × List ℕ
    name = split_while is_name_byte (b ∷ bytes)

    go : (t : Bool) → length (split_while is_name_byte (b ∷ bytes)).1 ≤ length bytes → Leaves (length bytes) (if t then sys_text (split_while is_name_byte (b ∷ bytes)).1 else Ok (word_of (split_while is_name_byte (b ∷ bytes)).0, (split_while is_name_byte (b ∷ bytes)).1))
    go true short = sys_text_leaves (length bytes) (split_while is_name_byte (b ∷ bytes)).1 short
    go false short = short

numeral_leaves : (b : ℕ) (bytes : List ℕ) → is_ascii_digit b ≡ true → Leaves (length bytes) (numeral (b ∷ bytes))
unfolding numeral
numeral_leaves b bytes passes = go (number (split_while is_ascii_digit (b ∷ bytes)).0) (number_told (split_while is_ascii_digit (b ∷ bytes)).0) (passed_at_most is_ascii_digit b bytes passes)
  where
    go : (r : Result ℤ Flaw) → Told r → length (split_while is_ascii_digit (b ∷ bytes)).1 ≤ length bytes → Leaves (length bytes) (r >>= λ n. Ok (word.Number n, (split_while is_ascii_digit (b ∷ bytes)).1))
    go (Ok n) t short = short
    go (Err e) t short = t

token_at_leaves : (b : ℕ) (bytes : List ℕ) → Leaves (length bytes) (token_at b bytes)
unfolding token_at
token_at_leaves b bytes = names (begins_name b) refl
  where
    doubles : (t : Bool) → Leaves (length bytes) (if t then double_quoted_text bytes else sign_at b bytes)
    doubles true = double_quoted_text_leaves bytes
    doubles false = sign_at_leaves b bytes

    singles : (t : Bool) → Leaves (length bytes) (if t then single_quoted_text bytes else (if b == double_quote then double_quoted_text bytes else sign_at b bytes))
    singles true = single_quoted_text_leaves bytes
    singles false = doubles (b == double_quote)

    digits : (t : Bool) → is_ascii_digit b ≡ t → Leaves (length bytes) (if t then numeral (b ∷ bytes) else (if b == single_quote then single_quoted_text bytes else (if b == double_quote then double_quoted_text bytes else sign_at b bytes)))
    digits true passes = numeral_leaves b bytes passes
    digits false passes = singles (b == single_quote)

    names : (t : Bool) → begins_name b ≡ t → Leaves (length bytes) (if t then name_or_word (b ∷ bytes) else (if is_ascii_digit b then numeral (b ∷ bytes) else (if b == single_quote then single_quoted_text bytes else (if b == double_quote then double_quoted_text bytes else sign_at b bytes))))
    names true passes = name_or_word_leaves b bytes (rw passes refl)
    names false passes = digits (is_ascii_digit b) refl

as_lexeme_leaves : (n : ℕ) (r : Result (Word × List ℕ) Flaw) → Leaves n r → Leaves n (r >>= λ w. Ok (as_lexeme w))
as_lexeme_leaves n (Ok w) short = short
as_lexeme_leaves n (Err e) t = t

line_comment_leaves : (n : ℕ) (bytes : List ℕ) → length bytes ≤ n → length (line_comment bytes).1 ≤ n
line_comment_leaves n bytes h = drop_at_most (prefix_len (λ b. not (is_line_end b)) bytes) n bytes h

behind_comment_at_most : (starred : Bool) (n : ℕ) (bytes : List ℕ) → length bytes ≤ n → IsAtMost n (behind_comment starred bytes)
behind_comment_at_most starred n [] h = tt
behind_comment_at_most starred n (b ∷ bytes) h = go (starred && (b == slash)) (behind_comment_at_most (b == star) n bytes (omega arith))
  where
    go : (t : Bool) → IsAtMost n (behind_comment (b == star) bytes) → IsAtMost n (if t then Some bytes else behind_comment (b == star) bytes)
    go true more = omega arith
    go false more = more

block_comment_leaves : (n : ℕ) (bytes : List ℕ) → length bytes ≤ n → Leaves n (block_comment bytes)
unfolding block_comment
block_comment_leaves n bytes h = go (behind_comment false bytes) (behind_comment_at_most false n bytes h)
  where
    go : (o : Option (List ℕ)) → IsAtMost n o → Leaves n (elim o as (λ o. Result (Lexeme × List ℕ) Flaw) [ None ↦ Err flaw.OpenComment | Some rest ↦ Ok (lexeme.Blank, rest) ])
    go None short = tt
    go (Some rest) short = short

comment_or_sign_leaves : (bytes : List ℕ) → Leaves (length bytes) (comment_or_sign bytes)
unfolding comment_or_sign
comment_or_sign_leaves bytes = slashes (behind slash bytes) (behind_at_most slash (length bytes) bytes (omega arith))
  where
    stars : (o : Option (List ℕ)) → IsAtMost (length bytes) o → Leaves (length bytes) (elim o as (λ o. Result (Lexeme × List ℕ) Flaw) [ Some rest ↦ block_comment rest | None ↦ sign_at slash bytes >>= λ w. Ok (as_lexeme w) ])
    stars None short = as_lexeme_leaves (length bytes) (sign_at slash bytes) (sign_at_leaves slash bytes)
    stars (Some rest) short = block_comment_leaves (length bytes) rest short

    slashes : (o : Option (List ℕ)) → IsAtMost (length bytes) o → Leaves (length bytes) (elim o as (λ o. Result (Lexeme × List ℕ) Flaw) [
      | Some rest ↦ Ok (line_comment rest)
      | None ↦ elim (behind star bytes) as (λ o. Result (Lexeme × List ℕ) Flaw) [ Some rest ↦ block_comment rest | None ↦ sign_at slash bytes >>= λ w. Ok (as_lexeme w) ]
    ])
    slashes None short = stars (behind star bytes) (behind_at_most star (length bytes) bytes (omega arith))
    slashes (Some rest) short = line_comment_leaves (length bytes) rest short

pub lexeme_at_leaves : (b : ℕ) (bytes : List ℕ) → Leaves (length bytes) (lexeme_at b bytes)
unfolding lexeme_at
lexeme_at_leaves b bytes = blanks (is_blank b || is_line_end b)
  where
    slashes : (t : Bool) → Leaves (length bytes) (if t then comment_or_sign bytes else (token_at b bytes >>= λ w. Ok (as_lexeme w)))
    slashes true = comment_or_sign_leaves bytes
    slashes false = as_lexeme_leaves (length bytes) (token_at b bytes) (token_at_leaves b bytes)

    hashes : (t : Bool) → Leaves (length bytes) (if t then Ok (line_comment bytes) else (if b == slash then comment_or_sign bytes else (token_at b bytes >>= λ w. Ok (as_lexeme w))))
    hashes true = line_comment_leaves (length bytes) bytes (omega arith)
    hashes false = slashes (b == slash)

    blanks : (t : Bool) → Leaves (length bytes) (if t then Ok (lexeme.Blank, bytes) else (if b == hash then Ok (line_comment bytes) else (if b == slash then comment_or_sign bytes else (token_at b bytes >>= λ w. Ok (as_lexeme w)))))
    blanks true = omega arith
    blanks false = hashes (b == hash)
