-- What stands at a place of a text: a blank, a line end or a comment, or else the longest token that begins there.
use Rattle.std.specs.Prelude.{ℕ, not, ◌||◌, ◌==◌, false, List, ◌∷◌, Some, None, Result, Ok, Err, if◌then◌else◌, codes}
use Rattle.std.specs.Char.{is_ascii_digit}
use Rattle.std.specs.Str.{bytes_eq}
use Rattle.bds_value.specs.Results.{◌>>=◌}
use Rattle.bds_tree.specs.declared.lexing.Flaw.{Flaw}
use Rattle.bds_tree.specs.declared.lexing.Flaw.TheVariants as flaw
use Rattle.bds_tree.specs.declared.token.Word.{Word}
use Rattle.bds_tree.specs.declared.token.Word.TheVariants as word
use Rattle.bds_tree.specs.declared.lexing.Style.TheVariants as style
use Rattle.bds_tree.specs.declared.lexing.Lexeme.{Lexeme}
use Rattle.bds_tree.specs.declared.lexing.Lexeme.TheVariants as lexeme
use Rattle.bds_tree.specs.lexing.Bytes.{double_quote, hash, single_quote, star, slash, is_blank, is_line_end, begins_name, is_name_byte}
use Rattle.bds_tree.specs.lexing.Scan.{split, split_while, behind, quoted_len, sys_len, behind_comment, without_blanks}
use Rattle.bds_tree.specs.lexing.Pieces.{number, plain_piece, pieces_of}
use Rattle.bds_tree.specs.lexing.Signs.{sign_at}
use Rattle.bds_tree.specs.lexing.ReservedWords.{word_of}

-- Each of these gives what it read and the bytes behind it.

-- behind the `'`: all bytes up to the next one
unfoldable pub single_quoted_text : List ℕ → Result (Word × List ℕ) Flaw
single_quoted_text bytes =
    let text = split_while (λ b. not (b == single_quote)) bytes in
    elim (behind single_quote text.1) [ None ↦ Err flaw.OpenText | Some rest ↦ Ok (word.Text (plain_piece text.0), rest) ]

-- behind the `"`: the pieces up to the next `"` that no escape took. A fault in them stands before the end that is missing.
unfoldable pub double_quoted_text : List ℕ → Result (Word × List ℕ) Flaw
double_quoted_text bytes = do
  let text = split (quoted_len false bytes) bytes
  pieces ← pieces_of style.Quoted text.0
  elim (behind double_quote text.1) [ None ↦ Err flaw.OpenText | Some rest ↦ Ok (word.Text pieces, rest) ]

-- behind the word `sys`: the rest of its line, without blanks at both ends
unfoldable pub sys_text : List ℕ → Result (Word × List ℕ) Flaw
sys_text bytes = do
  let line = split (sys_len false bytes) bytes
  pieces ← pieces_of style.Sys (without_blanks line.0)
  Ok (word.Sys pieces, line.1)

-- a Name, a reserved word, or `sys` with the rest of its line
unfoldable pub name_or_word : List ℕ → Result (Word × List ℕ) Flaw
name_or_word bytes =
    let name = split_while is_name_byte bytes in
    if bytes_eq name.0 (codes "sys") then sys_text name.1 else Ok (word_of name.0, name.1)

-- one or more digits
unfoldable pub numeral : List ℕ → Result (Word × List ℕ) Flaw
numeral bytes = do
  let digits = split_while is_ascii_digit bytes
  n ← number digits.0
  Ok (word.Number n, digits.1)

-- the token that begins with this byte, which is no `/`
unfoldable pub token_at : ℕ → List ℕ → Result (Word × List ℕ) Flaw
token_at b bytes =
    if begins_name b then name_or_word (b ∷ bytes)
    else (if is_ascii_digit b then numeral (b ∷ bytes)
    else (if b == single_quote then single_quoted_text bytes
    else (if b == double_quote then double_quoted_text bytes
    else sign_at b bytes)))

abbrev pub as_lexeme : Word × List ℕ → Lexeme × List ℕ
as_lexeme w = (lexeme.Token w.0, w.1)

-- a comment up to the line end
abbrev pub line_comment : List ℕ → Lexeme × List ℕ
line_comment bytes = (lexeme.Blank, (split_while (λ b. not (is_line_end b)) bytes).1)

-- behind `/*`: a comment up to the next `*/`
unfoldable pub block_comment : List ℕ → Result (Lexeme × List ℕ) Flaw
block_comment bytes = elim (behind_comment false bytes) [ None ↦ Err flaw.OpenComment | Some rest ↦ Ok (lexeme.Blank, rest) ]

-- behind a `/`
unfoldable pub comment_or_sign : List ℕ → Result (Lexeme × List ℕ) Flaw
comment_or_sign bytes = elim (behind slash bytes) [
  | Some rest ↦ Ok (line_comment rest)
  | None ↦ elim (behind star bytes) [
    | Some rest ↦ block_comment rest
    | None ↦ sign_at slash bytes >>= λ w. Ok (as_lexeme w)
  ]
]

-- what begins with this byte
unfoldable pub lexeme_at : ℕ → List ℕ → Result (Lexeme × List ℕ) Flaw
lexeme_at b bytes =
    if is_blank b || is_line_end b then Ok (lexeme.Blank, bytes)
    else (if b == hash then Ok (line_comment bytes)
    else (if b == slash then comment_or_sign bytes
    else (token_at b bytes >>= λ w. Ok (as_lexeme w))))
