-- Each word of the tokens of a text is no longer than the text, and so is each name, piece and key of a script that it spells.
use Rattle.std.proofs.Common.{◌≡◌, ℕ, ℤ, zero, suc, ◌+◌, ◌≤◌, ◌==◌, Bool, true, false, not, ◌&&◌, List, [], ◌∷◌, ◌++◌, length, drop, Option, Some, None, Result, Ok, Err, if◌then◌else◌, subst, arith}
use Rattle.std.specs.Prelude.{⊤, codes, ◌||◌}
use Rattle.std.specs.Str.{bytes_eq}
use Rattle.std.specs.Char.{is_ascii_digit}
use Rattle.std.specs.List.{AllByRecursion, prefix_len}
use Rattle.bds_value.specs.declared.TheConstants.{MAX_TEXT}
use Rattle.bds_value.specs.Results.{◌>>=◌}
use Rattle.bds_tree.specs.declared.lexing.Flaw.{Flaw}
use Rattle.bds_tree.specs.declared.lexing.Flaw.TheVariants as flaw
use Rattle.bds_tree.specs.declared.lexing.LexFault.{LexFault}
use Rattle.bds_tree.specs.declared.lexing.Lexeme.{Lexeme}
use Rattle.bds_tree.specs.declared.lexing.Lexeme.TheVariants as lexeme
use Rattle.bds_tree.specs.declared.lexing.RawToken.{RawToken}
use Rattle.bds_tree.specs.declared.lexing.Style.TheVariants as style
use Rattle.bds_tree.specs.declared.token.Piece.{Piece}
use Rattle.bds_tree.specs.declared.token.Token.{Token}
use Rattle.bds_tree.specs.declared.token.Word.{Word}
use Rattle.bds_tree.specs.declared.token.Word.TheVariants as word
use Rattle.bds_tree.specs.lexing.Bytes.{carriage_return, hash, star, slash, single_quote, double_quote, is_blank, is_line_end, begins_name, is_name_byte}
use Rattle.bds_tree.specs.lexing.Faults.{at_line}
use Rattle.bds_tree.specs.lexing.Lexemes.{single_quoted_text, double_quoted_text, sys_text, name_or_word, numeral, token_at, as_lexeme, line_comment, block_comment, comment_or_sign, lexeme_at}
use Rattle.bds_tree.specs.lexing.LineEnds.{is_before_block, is_in_value, open_brackets, with_kind, may_end, is_put_before, is_dropped, semicolon_if, token_unless, tokens_behind, is_before_case_colon}
use Rattle.bds_tree.specs.lexing.Pieces.{number, plain_piece, pieces_of}
use Rattle.bds_tree.specs.lexing.RawTokens.{begins_with_line_end, lines_before, raw_token_if_any, new_line_behind, without_crs, raw_tokens_in, raw_tokens}
use Rattle.bds_tree.specs.lexing.ReservedWords.{reserved, word_of}
use Rattle.bds_tree.specs.lexing.Scan.{split, split_while, behind, quoted_len, sys_len, behind_comment, without_blanks, without_leading_blanks}
use Rattle.bds_tree.specs.lexing.Signs.{one_sign, two_sign, short_sign, sign_at}
use Rattle.bds_tree.specs.ScriptTexts.{Spells}
use Rattle.bds_tree.specs.Spelling.{Mark, any, on, Matches, Fronts}
use Rattle.bds_tree.specs.StmtSpelling.{spell_script}
use Rattle.bds_tree.specs.StmtTree.{ScriptTree}
use Rattle.bds_tree.specs.Tokens.{tokens_in, tokens_of}
use Rattle.bds_tree.specs.Words.{mark_word, words}
use Rattle.bds_check_typing.specs.Texts.{IsShort, AreShortPieces, IsShortWord, IsShortMark, HasShortTexts}
use Rattle.bds_check_laws.proofs.ShortPieces.{IsAtMost, Reads, ReadsPieces, behind-at-most, take-short, drop-at-most, plain-short, pieces-of-short}

-- Signs and reserved words

abbrev MaybeShort : Option Word → Type 0
MaybeShort None = ⊤
MaybeShort (Some w) = IsShortWord w

if-some : (b : Bool) (w : Word) (o : Option Word) → IsShortWord w → MaybeShort o → MaybeShort (if b then Some w else o)
if-some true w o h k = h
if-some false w o h k = k

one-sign-short : (a : ℕ) → MaybeShort (one_sign a)
unfolding one_sign
one-sign-short a =
    if-some (a == 40) word.OpenRound _ tt (if-some (a == 41) word.CloseRound _ tt (if-some (a == 91) word.OpenSquare _ tt (if-some (a == 93) word.CloseSquare _ tt (if-some (a == 123) word.OpenValue _ tt (if-some (a == 125) word.CloseValue _ tt (if-some (a == 44) word.Comma _ tt (if-some (a == 59) word.Semicolon _ tt (if-some (a == 58) word.Colon _ tt (if-some (a == 63) word.Question _ tt (if-some (a == 46) word.Dot _ tt (if-some (a == 43) word.Plus _ tt (if-some (a == 45) word.Minus _ tt (if-some (a == 42) word.Star _ tt (if-some (a == 47) word.Slash _ tt (if-some (a == 37) word.Percent _ tt (if-some (a == 33) word.Not _ tt (if-some (a == 60) word.Less _ tt (if-some (a == 62) word.Greater _ tt (if-some (a == 61) word.Assign None tt tt)))))))))))))))))))

two-sign-short : (a b : ℕ) → MaybeShort (two_sign a b)
unfolding two_sign
two-sign-short a b =
    if-some ((a == 60) && (b == 61)) word.AtMost _ tt (if-some ((a == 60) && (b == 45)) word.From _ tt (if-some ((a == 62) && (b == 61)) word.AtLeast _ tt (if-some ((a == 61) && (b == 61)) word.Equal _ tt (if-some ((a == 61) && (b == 62)) word.Arrow _ tt (if-some ((a == 33) && (b == 61)) word.NotEqual _ tt (if-some ((a == 38) && (b == 38)) word.And _ tt (if-some ((a == 124) && (b == 124)) word.Or _ tt (if-some ((a == 58) && (b == 61)) word.Declare _ tt (if-some ((a == 43) && (b == 61)) word.AddAssign _ tt (if-some ((a == 43) && (b == 43)) word.Increment _ tt (if-some ((a == 45) && (b == 61)) word.SubAssign _ tt (if-some ((a == 45) && (b == 45)) word.Decrement _ tt (if-some ((a == 42) && (b == 61)) word.MulAssign _ tt (if-some ((a == 47) && (b == 61)) word.DivAssign _ tt (if-some ((a == 37) && (b == 61)) word.RemAssign None tt tt)))))))))))))))

reserved-short : (name : List ℕ) → MaybeShort (reserved name)
unfolding reserved
reserved-short name =
    if-some (bytes_eq name (codes "bool")) word.Bool _ tt (if-some (bytes_eq name (codes "int")) word.Int _ tt (if-some (bytes_eq name (codes "string")) word.String _ tt (if-some (bytes_eq name (codes "void")) word.Void _ tt (if-some (bytes_eq name (codes "true")) word.True _ tt (if-some (bytes_eq name (codes "false")) word.False _ tt (if-some (bytes_eq name (codes "if")) word.If _ tt (if-some (bytes_eq name (codes "else")) word.Else _ tt (if-some (bytes_eq name (codes "while")) word.While _ tt (if-some (bytes_eq name (codes "for")) word.For _ tt (if-some (bytes_eq name (codes "break")) word.Break _ tt (if-some (bytes_eq name (codes "continue")) word.Continue _ tt (if-some (bytes_eq name (codes "return")) word.Return _ tt (if-some (bytes_eq name (codes "include")) word.Include _ tt (if-some (bytes_eq name (codes "print")) word.Print _ tt (if-some (bytes_eq name (codes "println")) word.Println _ tt (if-some (bytes_eq name (codes "error")) word.Error _ tt (if-some (bytes_eq name (codes "exit")) word.Exit _ tt (if-some (bytes_eq name (codes "wait")) word.Wait _ tt (if-some (bytes_eq name (codes "checkpoint")) word.Checkpoint _ tt (if-some (bytes_eq name (codes "task")) word.Task _ tt (if-some (bytes_eq name (codes "dep")) word.Dep _ tt (if-some (bytes_eq name (codes "goal")) word.Goal _ tt (if-some (bytes_eq name (codes "par")) word.Par _ tt (if-some (bytes_eq name (codes "switch")) word.Switch _ tt (if-some (bytes_eq name (codes "case")) word.Case _ tt (if-some (bytes_eq name (codes "default")) word.Default _ tt (if-some (bytes_eq name (codes "real")) word.Real _ tt (if-some (bytes_eq name (codes "class")) word.Class _ tt (if-some (bytes_eq name (codes "try")) word.Try _ tt (if-some (bytes_eq name (codes "catch")) word.Catch _ tt (if-some (bytes_eq name (codes "throw")) word.Throw _ tt (if-some (bytes_eq name (codes "kill")) word.Kill _ tt (if-some (bytes_eq name (codes "breakpoint")) word.Breakpoint _ tt (if-some (bytes_eq name (codes "debug")) word.Debug None tt tt))))))))))))))))))))))))))))))))))

word-of-short : (name : List ℕ) → IsShort name → IsShortWord (word_of name)
unfolding word_of
word-of-short name h = go (reserved name) (reserved-short name)
  where
    go : (o : Option Word) → MaybeShort o → IsShortWord (elim o as (λ o. Word) [ Some w ↦ w | None ↦ word.Name name ])
    go None k = h
    go (Some w) k = k

short-sign-short : (a n : ℕ) (bytes : List ℕ) → length bytes ≤ n → Reads IsShortWord n (short_sign a bytes)
unfolding short_sign
short-sign-short a n bytes h = go (one_sign a) (one-sign-short a)
  where
    go : (o : Option Word) → MaybeShort o → Reads IsShortWord n (elim o as (λ o. Result (Word × List ℕ) Flaw) [ None ↦ Err (flaw.BadByte a) | Some w ↦ Ok (w, bytes) ])
    go None k = tt
    go (Some w) k = (k, h)

sign-at-short : (a n : ℕ) (bytes : List ℕ) → length bytes ≤ n → Reads IsShortWord n (sign_at a bytes)
unfolding sign_at
sign-at-short a n [] h = short-sign-short a n [] h
sign-at-short a n (b ∷ bytes) h = go (two_sign a b) (two-sign-short a b)
  where
    go : (o : Option Word) → MaybeShort o → Reads IsShortWord n (elim o as (λ o. Result (Word × List ℕ) Flaw) [ None ↦ short_sign a (b ∷ bytes) | Some w ↦ Ok (w, bytes) ])
    go None k = short-sign-short a n (b ∷ bytes) h
    go (Some w) k = (k, omega arith)

-- Lexemes

abbrev IsShortLexeme : Lexeme → Type 0
IsShortLexeme lexeme.Blank = ⊤
IsShortLexeme (lexeme.Token w) = IsShortWord w

blanks-dropped : (bytes : List ℕ) → length bytes ≤ MAX_TEXT → length (without_blanks bytes) ≤ MAX_TEXT
blanks-dropped bytes h = take-short MAX_TEXT (omega arith) _ (without_leading_blanks bytes) (drop-at-most MAX_TEXT (omega arith) (prefix_len is_blank bytes) bytes h)

module _ (n : ℕ) (most : n ≤ MAX_TEXT) where
  single-quoted-short : (bytes : List ℕ) → length bytes ≤ n → Reads IsShortWord n (single_quoted_text bytes)
  unfolding single_quoted_text
  single-quoted-short bytes h = go (behind single_quote (split_while (λ b. not (b == single_quote)) bytes).1) (behind-at-most single_quote n (split_while (λ b. not (b == single_quote)) bytes).1 (drop-at-most n most (prefix_len (λ b. not (b == single_quote)) bytes) bytes h))
    where
      go : (o : Option (List ℕ)) → IsAtMost n o → Reads IsShortWord n (elim o as (λ o. Result (Word × List ℕ) Flaw) [ None ↦ Err flaw.OpenText | Some rest ↦ Ok (word.Text (plain_piece (split_while (λ b. not (b == single_quote)) bytes).0), rest) ])
      go None few = tt
      go (Some rest) few = (plain-short (split_while (λ b. not (b == single_quote)) bytes).0 (take-short n most (prefix_len (λ b. not (b == single_quote)) bytes) bytes h), few)

  double-quoted-short : (bytes : List ℕ) → length bytes ≤ n → Reads IsShortWord n (double_quoted_text bytes)
  unfolding double_quoted_text
  double-quoted-short bytes h = found (pieces_of style.Quoted (split (quoted_len false bytes) bytes).0) (pieces-of-short style.Quoted (split (quoted_len false bytes) bytes).0 (take-short n most (quoted_len false bytes) bytes h))
    where
      go : (pieces : List Piece) → AreShortPieces pieces → (o : Option (List ℕ)) → IsAtMost n o → Reads IsShortWord n (elim o as (λ o. Result (Word × List ℕ) Flaw) [ None ↦ Err flaw.OpenText | Some rest ↦ Ok (word.Text pieces, rest) ])
      go pieces short None few = tt
      go pieces short (Some rest) few = (short, few)

      found : (r : Result (List Piece) Flaw) → ReadsPieces r → Reads IsShortWord n (r >>= λ pieces. elim (behind double_quote (split (quoted_len false bytes) bytes).1) as (λ o. Result (Word × List ℕ) Flaw) [ None ↦ Err flaw.OpenText | Some rest ↦ Ok (word.Text pieces, rest) ])
      found (Ok pieces) short = go pieces short (behind double_quote (drop (quoted_len false bytes) bytes)) (behind-at-most double_quote n (drop (quoted_len false bytes) bytes) (drop-at-most n most (quoted_len false bytes) bytes h))
      found (Err e) short = tt

  sys-short : (bytes : List ℕ) → length bytes ≤ n → Reads IsShortWord n (sys_text bytes)
  unfolding sys_text
  sys-short bytes h = found (pieces_of style.Sys (without_blanks (split (sys_len false bytes) bytes).0)) (pieces-of-short style.Sys (without_blanks (split (sys_len false bytes) bytes).0) (blanks-dropped (split (sys_len false bytes) bytes).0 (take-short n most (sys_len false bytes) bytes h)))
    where
      found : (r : Result (List Piece) Flaw) → ReadsPieces r → Reads IsShortWord n (r >>= λ pieces. Ok (word.Sys pieces, (split (sys_len false bytes) bytes).1))
      found (Ok pieces) short = (short, drop-at-most n most (sys_len false bytes) bytes h)
      found (Err e) short = tt

  name-or-word-short : (bytes : List ℕ) → length bytes ≤ n → Reads IsShortWord n (name_or_word bytes)
  unfolding name_or_word
  name-or-word-short bytes h = go (bytes_eq (split_while is_name_byte bytes).0 (codes "sys"))
    where
      left : length (split_while is_name_byte bytes).1 ≤ n
      left = drop-at-most n most (prefix_len is_name_byte bytes) bytes h

      go : (t : Bool) → Reads IsShortWord n (if t then sys_text (split_while is_name_byte bytes).1 else Ok (word_of (split_while is_name_byte bytes).0, (split_while is_name_byte bytes).1))
      go true = sys-short (split_while is_name_byte bytes).1 left
      go false = (word-of-short (split_while is_name_byte bytes).0 (take-short n most (prefix_len is_name_byte bytes) bytes h), left)

  numeral-short : (bytes : List ℕ) → length bytes ≤ n → Reads IsShortWord n (numeral bytes)
  unfolding numeral
  numeral-short bytes h = go (number (split_while is_ascii_digit bytes).0)
    where
      go : (r : Result ℤ Flaw) → Reads IsShortWord n (r >>= λ v. Ok (word.Number v, (split_while is_ascii_digit bytes).1))
      go (Ok v) = (tt, drop-at-most n most (prefix_len is_ascii_digit bytes) bytes h)
      go (Err e) = tt

  token-at-short : (b : ℕ) (bytes : List ℕ) → length (b ∷ bytes) ≤ n → Reads IsShortWord n (token_at b bytes)
  unfolding token_at
  token-at-short b bytes h = names (begins_name b)
    where
      less : length bytes ≤ n
      less = omega arith

      doubles : (t : Bool) → Reads IsShortWord n (if t then double_quoted_text bytes else sign_at b bytes)
      doubles true = double-quoted-short bytes less
      doubles false = sign-at-short b n bytes less

      singles : (t : Bool) → Reads IsShortWord n (if t then single_quoted_text bytes else (if b == double_quote then double_quoted_text bytes else sign_at b bytes))
      singles true = single-quoted-short bytes less
      singles false = doubles (b == double_quote)

      digits : (t : Bool) → Reads IsShortWord n (if t then numeral (b ∷ bytes) else (if b == single_quote then single_quoted_text bytes else (if b == double_quote then double_quoted_text bytes else sign_at b bytes)))
      digits true = numeral-short (b ∷ bytes) h
      digits false = singles (b == single_quote)

      names : (t : Bool) → Reads IsShortWord n (if t then name_or_word (b ∷ bytes) else (if is_ascii_digit b then numeral (b ∷ bytes) else (if b == single_quote then single_quoted_text bytes else (if b == double_quote then double_quoted_text bytes else sign_at b bytes))))
      names true = name-or-word-short (b ∷ bytes) h
      names false = digits (is_ascii_digit b)

  as-lexeme-short : (r : Result (Word × List ℕ) Flaw) → Reads IsShortWord n r → Reads IsShortLexeme n (r >>= λ w. Ok (as_lexeme w))
  as-lexeme-short (Ok w) short = short
  as-lexeme-short (Err e) short = tt

  behind-comment-at-most : (starred : Bool) (bytes : List ℕ) → length bytes ≤ n → IsAtMost n (behind_comment starred bytes)
  behind-comment-at-most starred [] h = tt
  behind-comment-at-most starred (b ∷ bytes) h = go (starred && (b == slash)) (behind-comment-at-most (b == star) bytes (omega arith))
    where
      go : (t : Bool) → IsAtMost n (behind_comment (b == star) bytes) → IsAtMost n (if t then Some bytes else behind_comment (b == star) bytes)
      go true more = omega arith
      go false more = more

  line-comment-short : (bytes : List ℕ) → length bytes ≤ n → Reads IsShortLexeme n (Ok (line_comment bytes))
  line-comment-short bytes h = (tt, drop-at-most n most (prefix_len (λ b. not (is_line_end b)) bytes) bytes h)

  block-comment-short : (bytes : List ℕ) → length bytes ≤ n → Reads IsShortLexeme n (block_comment bytes)
  unfolding block_comment
  block-comment-short bytes h = go (behind_comment false bytes) (behind-comment-at-most false bytes h)
    where
      go : (o : Option (List ℕ)) → IsAtMost n o → Reads IsShortLexeme n (elim o as (λ o. Result (Lexeme × List ℕ) Flaw) [ None ↦ Err flaw.OpenComment | Some rest ↦ Ok (lexeme.Blank, rest) ])
      go None few = tt
      go (Some rest) few = (tt, few)

  comment-or-sign-short : (bytes : List ℕ) → length bytes ≤ n → Reads IsShortLexeme n (comment_or_sign bytes)
  unfolding comment_or_sign
  comment-or-sign-short bytes h = slashes (behind slash bytes) (behind-at-most slash n bytes h)
    where
      stars : (o : Option (List ℕ)) → IsAtMost n o → Reads IsShortLexeme n (elim o as (λ o. Result (Lexeme × List ℕ) Flaw) [ Some rest ↦ block_comment rest | None ↦ sign_at slash bytes >>= λ w. Ok (as_lexeme w) ])
      stars None few = as-lexeme-short (sign_at slash bytes) (sign-at-short slash n bytes h)
      stars (Some rest) few = block-comment-short rest few

      slashes : (o : Option (List ℕ)) → IsAtMost n o → Reads IsShortLexeme n (elim o as (λ o. Result (Lexeme × List ℕ) Flaw) [
        | Some rest ↦ Ok (line_comment rest)
        | None ↦ elim (behind star bytes) as (λ o. Result (Lexeme × List ℕ) Flaw) [ Some rest ↦ block_comment rest | None ↦ sign_at slash bytes >>= λ w. Ok (as_lexeme w) ]
      ])
      slashes None few = stars (behind star bytes) (behind-at-most star n bytes h)
      slashes (Some rest) few = line-comment-short rest few

  lexeme-at-short : (b : ℕ) (bytes : List ℕ) → length (b ∷ bytes) ≤ n → Reads IsShortLexeme n (lexeme_at b bytes)
  unfolding lexeme_at
  lexeme-at-short b bytes h = blanks (is_blank b || is_line_end b)
    where
      less : length bytes ≤ n
      less = omega arith

      slashes : (t : Bool) → Reads IsShortLexeme n (if t then comment_or_sign bytes else (token_at b bytes >>= λ w. Ok (as_lexeme w)))
      slashes true = comment-or-sign-short bytes less
      slashes false = as-lexeme-short (token_at b bytes) (token-at-short b bytes h)

      hashes : (t : Bool) → Reads IsShortLexeme n (if t then Ok (line_comment bytes) else (if b == slash then comment_or_sign bytes else (token_at b bytes >>= λ w. Ok (as_lexeme w))))
      hashes true = line-comment-short bytes less
      hashes false = slashes (b == slash)

      blanks : (t : Bool) → Reads IsShortLexeme n (if t then Ok (lexeme.Blank, bytes) else (if b == hash then Ok (line_comment bytes) else (if b == slash then comment_or_sign bytes else (token_at b bytes >>= λ w. Ok (as_lexeme w)))))
      blanks true = (tt, less)
      blanks false = hashes (b == hash)

-- Raw tokens

abbrev AreShortRaws : List RawToken → Type 0
AreShortRaws rs = AllByRecursion (λ r. IsShortWord r.word) rs

abbrev ReadsRaws : Result (List RawToken) LexFault → Type 0
ReadsRaws (Ok rs) = AreShortRaws rs
ReadsRaws (Err e) = ⊤

raw-tokens-in-short : (steps : ℕ) (new_line : Bool) (line : ℕ) (bytes : List ℕ) → length bytes ≤ MAX_TEXT → ReadsRaws (raw_tokens_in steps new_line line bytes)
unfolding raw_tokens_in
raw-tokens-in-short steps new_line line [] h = tt
raw-tokens-in-short zero new_line line (b ∷ bytes) h = tt
raw-tokens-in-short (suc steps) new_line line (b ∷ bytes) h = go (lexeme_at b bytes) (lexeme-at-short MAX_TEXT (omega arith) b bytes h) (λ l k left short. raw-tokens-in-short steps l k left short)
  where
    put : (x : Lexeme) (others : List RawToken) → IsShortLexeme x → AreShortRaws others → AreShortRaws (raw_token_if_any new_line line x ++ others)
    put lexeme.Blank others short k = k
    put (lexeme.Token w) others short k = (short, k)

    joined : (x : Lexeme) → IsShortLexeme x → (r : Result (List RawToken) LexFault) → ReadsRaws r → ReadsRaws (r >>= λ others. Ok (raw_token_if_any new_line line x ++ others))
    joined x short (Ok others) k = put x others short k
    joined x short (Err e) k = tt

    go : (r : Result (Lexeme × List ℕ) Flaw) → Reads IsShortLexeme MAX_TEXT r → ((new_line : Bool) (line : ℕ) (left : List ℕ) → length left ≤ MAX_TEXT → ReadsRaws (raw_tokens_in steps new_line line left)) → ReadsRaws (elim r as (λ r. Result (List RawToken) LexFault) [
      | Err e ↦ Err (at_line line e)
      | Ok x ↦ raw_tokens_in steps (new_line_behind new_line (lines_before (b ∷ bytes) x.1) x.0) (line + lines_before (b ∷ bytes) x.1) x.1 >>= λ others. Ok (raw_token_if_any new_line line x.0 ++ others)
    ])
    go (Err e) k more = tt
    go (Ok x) k more = joined x.0 k.0 (raw_tokens_in steps (new_line_behind new_line (lines_before (b ∷ bytes) x.1) x.0) (line + lines_before (b ∷ bytes) x.1) x.1) (more (new_line_behind new_line (lines_before (b ∷ bytes) x.1) x.0) (line + lines_before (b ∷ bytes) x.1) x.1 k.1)

-- Tokens

abbrev AreShortTokens : List Token → Type 0
AreShortTokens ts = AllByRecursion (λ t. IsShortWord t.word) ts

tokens-joined : (ts us : List Token) → AreShortTokens ts → AreShortTokens us → AreShortTokens (ts ++ us)
tokens-joined [] us h k = k
tokens-joined (t ∷ ts) us h k = (h.0, tokens-joined ts us h.1 k)

either-word : (b : Bool) (x y : Word) → IsShortWord x → IsShortWord y → IsShortWord (if b then x else y)
either-word true x y h k = h
either-word false x y h k = k

kind-short : (before : List Word) (w : Word) → IsShortWord w → IsShortWord (with_kind before w)
kind-short before word.OpenValue h = either-word (is_before_block before) word.OpenBlock word.OpenValue tt tt
kind-short before word.CloseValue h = either-word (is_in_value (open_brackets before)) word.CloseValue word.CloseBlock tt tt
kind-short before word.Colon h = either-word (is_before_case_colon before) word.CaseColon word.Colon tt tt
kind-short before _ h = h

semicolon-short : (put : Bool) (before : List Token) → AreShortTokens (semicolon_if put before)
semicolon-short true before = (tt, tt)
semicolon-short false before = tt

own-short : (dropped : Bool) (r : RawToken) (before : List Token) → IsShortWord r.word → AreShortTokens (token_unless dropped r before)
own-short true r before h = tt
own-short false r before h = (kind-short (words before) r.word h, tt)

tokens-behind-short : (before : List Token) (raws : List RawToken) → AreShortRaws raws → AreShortTokens (tokens_behind before raws)
tokens-behind-short before [] h = semicolon-short (may_end (words before)) before
tokens-behind-short before (r ∷ raws) h =
    let put : List Token = semicolon_if (is_put_before (words before) r) before in
    let own : List Token = token_unless (is_dropped r raws) r (put ++ before) in
    tokens-joined put (own ++ tokens_behind (own ++ (put ++ before)) raws) (semicolon-short (is_put_before (words before) r) before)
    (tokens-joined own (tokens_behind (own ++ (put ++ before)) raws) (own-short (is_dropped r raws) r (put ++ before) h.0) (tokens-behind-short (own ++ (put ++ before)) raws h.1))

abbrev ReadsTokens : Result (List Token) LexFault → Type 0
ReadsTokens (Ok ts) = AreShortTokens ts
ReadsTokens (Err e) = ⊤

crs-dropped : (text : List ℕ) → length (without_crs text) ≤ length text
crs-dropped [] = omega arith
crs-dropped (b ∷ bytes) = go ((b == carriage_return) && begins_with_line_end bytes) (crs-dropped bytes)
  where
    go : (t : Bool) → length (without_crs bytes) ≤ length bytes → length (if t then without_crs bytes else b ∷ without_crs bytes) ≤ length (b ∷ bytes)
    go true h = omega arith
    go false h = omega arith

tokens-in-short : (bytes : List ℕ) → length bytes ≤ MAX_TEXT → ReadsTokens (tokens_in bytes)
unfolding raw_tokens
tokens-in-short bytes h = go (raw_tokens_in (length bytes) false 1 bytes) (raw-tokens-in-short (length bytes) false 1 bytes h)
  where
    go : (r : Result (List RawToken) LexFault) → ReadsRaws r → ReadsTokens (r >>= λ raws. Ok (tokens_behind [] raws))
    go (Ok raws) short = tokens-behind-short [] raws short
    go (Err e) short = tt

tokens-of-short : (text : List ℕ) → length text ≤ MAX_TEXT → ReadsTokens (tokens_of text)
unfolding tokens_of
tokens-of-short text h = tokens-in-short (without_crs text) (omega (arith, crs-dropped text))

-- Scripts

marked : (m : Mark) (t : Token) → Matches m t → t.word ≡ mark_word m
marked (any w) t h = h
marked (on l m) t h = marked m t h.1

fronts-short : (ms : List Mark) (ts : List Token) → Fronts ms ts [] → AreShortTokens ts → AllByRecursion IsShortMark ms
fronts-short [] ts h k = tt
fronts-short (m ∷ ms) [] h k = absurd h
fronts-short (m ∷ ms) (t ∷ ts) h k = (subst IsShortWord (marked m t h.0) k.0, fronts-short ms ts h.1 k.1)

pub spelled-short : (text : List ℕ) (tokens : List Token) (script : ScriptTree) → Spells text tokens script → HasShortTexts script
spelled-short text tokens script s = fronts-short (spell_script script) tokens s.spelled.spelled (subst ReadsTokens s.lexed (tokens-of-short text s.within))
