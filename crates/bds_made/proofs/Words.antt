-- What a word is read of.
use Rattle.std.proofs.Common.{◌≡◌, ℕ, zero, suc, ◌+◌, ◌-◌, ◌≤◌, ◌<◌, true, false, List, [], ◌∷◌, ◌++◌, length, take}
use Rattle.std.proofs.Common.{drop, reverse, Option, Some, None, Result, Ok, Err, refl, ap, sym, ◌∙◌, subst, arith}
use Rattle.std.proofs.Common.{append_assoc, append-nil}
use Rattle.std.specs.Prelude.{◌==◌, not, codes, pos, decimal}
use Rattle.std.specs.List.{prefix_len, suffix_len}
use Rattle.std.proofs.Math.Seq.{take-append_seam, drop-append_seam}
use Rattle.std.proofs.lemmas.List.{reverse-append, take_all}
use Rattle.std.proofs.lemmas.Fmt.{decimal_digit}
use Rattle.bds_value.specs.Results.{◌>>=◌}
use Rattle.bds_tree.specs.declared.lexing.Flaw.{Flaw}
use Rattle.bds_tree.specs.declared.lexing.Flaw.TheVariants as flaw
use Rattle.bds_tree.specs.declared.lexing.Lexeme.TheVariants as lexeme
use Rattle.bds_tree.specs.declared.lexing.Style.TheVariants as style
use Rattle.bds_tree.specs.declared.lexing.TextStep.{TextStep}
use Rattle.bds_tree.specs.declared.lexing.TextStep.TheVariants as step
use Rattle.bds_tree.specs.declared.token.Piece.{Piece}
use Rattle.bds_tree.specs.declared.token.Piece.TheVariants as piece
use Rattle.bds_tree.specs.declared.token.Word.{Word}
use Rattle.bds_tree.specs.declared.token.Word.TheVariants as w
use Rattle.bds_tree.specs.lexing.Bytes.{line_end, dollar, single_quote, backslash, space, is_blank, is_line_end}
use Rattle.bds_tree.specs.lexing.Scan.{split, split_while, behind, sys_len, without_blanks}
use Rattle.bds_tree.specs.lexing.Pieces.{number, plain_piece, pieces_closed_by, plain_left_by, pieces_in, pieces_of}
use Rattle.bds_tree.specs.lexing.Pieces.{step_at, variable_at, with_suffix, with_key}
use Rattle.bds_tree.specs.lexing.Signs.{two_sign, one_sign, short_sign, sign_at}
use Rattle.bds_tree.specs.lexing.ReservedWords.{reserved, word_of}
use Rattle.bds_tree.specs.lexing.Lexemes.{single_quoted_text, double_quoted_text, sys_text, name_or_word, numeral}
use Rattle.bds_tree.specs.lexing.Lexemes.{token_at, as_lexeme, lexeme_at}
use Rattle.bds_fmt.proofs.Fronts.{AllPassing, Stops, front_is, stops_at, all_weaker}
use Rattle.bds_made.proofs.Numerals.{is_quiet, quiet_is, AreQuiet, EndsDark}

-- the word that begins with this byte
abbrev pub Begins : ℕ → List ℕ → Word → List ℕ → Type 0
Begins b bytes word rest = lexeme_at b bytes ≡ Ok (lexeme.Token word, rest)

-- Words and signs that are written out

pub string_word : (rest : List ℕ) → Begins 115 (codes "tring[" ++ rest) w.String (codes "[" ++ rest)
unfolding lexeme_at token_at name_or_word word_of reserved
string_word rest = refl

pub task_word : (rest : List ℕ) → Begins 116 (codes "ask(" ++ rest) w.Task (codes "(" ++ rest)
unfolding lexeme_at token_at name_or_word word_of reserved
task_word rest = refl

pub wait_word : (rest : List ℕ) → Begins 119 (codes "ait\n" ++ rest) w.Wait (codes "\n" ++ rest)
unfolding lexeme_at token_at name_or_word word_of reserved
wait_word rest = refl

pub println_word : (rest : List ℕ) → Begins 112 (codes "rintln " ++ rest) w.Println (codes " " ++ rest)
unfolding lexeme_at token_at name_or_word word_of reserved
println_word rest = refl

pub outs_before : (rest : List ℕ) → Begins 111 (codes "uts " ++ rest) (w.Name (codes "outs")) (codes " " ++ rest)
unfolding lexeme_at token_at name_or_word word_of reserved
outs_before rest = refl

pub outs_line : (rest : List ℕ) → Begins 111 (codes "uts\n" ++ rest) (w.Name (codes "outs")) (codes "\n" ++ rest)
unfolding lexeme_at token_at name_or_word word_of reserved
outs_line rest = refl

pub outs_closed : (rest : List ℕ) → Begins 111 (codes "uts)" ++ rest) (w.Name (codes "outs")) (codes ")" ++ rest)
unfolding lexeme_at token_at name_or_word word_of reserved
outs_closed rest = refl

pub cpus_name : (rest : List ℕ) → Begins 99 (codes "pus " ++ rest) (w.Name (codes "cpus")) (codes " " ++ rest)
unfolding lexeme_at token_at name_or_word word_of reserved
cpus_name rest = refl

pub open_square : (rest : List ℕ) → Begins 91 (codes "]" ++ rest) w.OpenSquare (codes "]" ++ rest)
unfolding lexeme_at token_at sign_at two_sign short_sign one_sign
open_square rest = refl

pub close_square : (rest : List ℕ) → Begins 93 (codes " " ++ rest) w.CloseSquare (codes " " ++ rest)
unfolding lexeme_at token_at sign_at two_sign short_sign one_sign
close_square rest = refl

pub open_round : (rest : List ℕ) → Begins 40 (codes "'" ++ rest) w.OpenRound (codes "'" ++ rest)
unfolding lexeme_at token_at sign_at two_sign short_sign one_sign
open_round rest = refl

pub close_round : (rest : List ℕ) → Begins 41 (codes " " ++ rest) w.CloseRound (codes " " ++ rest)
unfolding lexeme_at token_at sign_at two_sign short_sign one_sign
close_round rest = refl

pub comma_sign : (rest : List ℕ) → Begins 44 (codes " " ++ rest) w.Comma (codes " " ++ rest)
unfolding lexeme_at token_at sign_at two_sign short_sign one_sign
comma_sign rest = refl

pub from_sign : (rest : List ℕ) → Begins 60 (codes "-" ++ rest) w.From rest
unfolding lexeme_at token_at sign_at two_sign
from_sign rest = refl

pub declare_sign : (rest : List ℕ) → Begins 58 (codes "=" ++ rest) w.Declare rest
unfolding lexeme_at token_at sign_at two_sign
declare_sign rest = refl

pub add_sign : (rest : List ℕ) → Begins 43 (codes "=" ++ rest) w.AddAssign rest
unfolding lexeme_at token_at sign_at two_sign
add_sign rest = refl

-- a digit before a parenthesis
pub record OneDigit (k : ℕ) : Type 0 where
  pub byte : ℕ
  pub written : decimal (1 + k) ≡ byte ∷ []
  pub reads : (rest : List ℕ) → Begins byte (codes ")" ++ rest) (w.Number (pos (1 + k))) (codes ")" ++ rest)
  pub no_line : is_line_end byte ≡ false

pub one_digit : (k : ℕ) → k < 3 → OneDigit k
unfolding lexeme_at token_at numeral number
one_digit zero h = record { byte = 49; written = decimal_digit 1 (omega arith); reads = λ rest. refl; no_line = refl }
one_digit (suc zero) h =
    record { byte = 50; written = decimal_digit 2 (omega arith); reads = λ rest. refl; no_line = refl }
one_digit (suc (suc zero)) h =
    record { byte = 51; written = decimal_digit 3 (omega arith); reads = λ rest. refl; no_line = refl }
one_digit (suc (suc (suc k))) h = absurd (omega arith)

-- Texts

from_quote : List ℕ → Option (List ℕ) → Result (Word × List ℕ) Flaw
from_quote text None = Err flaw.OpenText
from_quote text (Some rest) = Ok (w.Text (plain_piece text), rest)

single_is : (text rest : List ℕ) → AllPassing (λ b. not (b == single_quote)) text
    → single_quoted_text (text ++ single_quote ∷ rest) ≡ Ok (w.Text (plain_piece text), rest)
unfolding single_quoted_text
single_is text rest h =
    go (split_while (λ b. not (b == single_quote)) (text ++ single_quote ∷ rest))
    (front_is (λ b. not (b == single_quote)) text (single_quote ∷ rest) h refl)
  where
    read : List ℕ × List ℕ → Result (Word × List ℕ) Flaw
    read x =
        elim (behind single_quote x.1) as (λ o. Result (Word × List ℕ) Flaw) [
          | None ↦ Err flaw.OpenText
          | Some r ↦ Ok (w.Text (plain_piece x.0), r)
        ]

    go : (x : List ℕ × List ℕ) → x ≡ (text, single_quote ∷ rest) → read x ≡ Ok (w.Text (plain_piece text), rest)
    go x e = subst (λ (x : List ℕ × List ℕ). read x ≡ Ok (w.Text (plain_piece text), rest)) (sym e) refl

quote_lexeme : (bytes : List ℕ) (x : Word × List ℕ) → single_quoted_text bytes ≡ Ok x
    → lexeme_at single_quote bytes ≡ Ok (as_lexeme x)
unfolding lexeme_at token_at
quote_lexeme bytes x e = ap (λ (r : Result (Word × List ℕ) Flaw). r >>= λ x. Ok (as_lexeme x)) e

quiet_quote : (b : ℕ) → is_quiet b ≡ true → not (b == single_quote) ≡ true
quiet_quote b e = ap not (quiet_is b e).quote

pub text_word : (text rest : List ℕ) → AreQuiet text
    → Begins single_quote (text ++ single_quote ∷ rest) (w.Text (plain_piece text)) rest
text_word text rest h =
    quote_lexeme (text ++ single_quote ∷ rest) (w.Text (plain_piece text), rest)
    (single_is text rest (all_weaker is_quiet (λ b. not (b == single_quote)) text quiet_quote h))

pub outs_text : (rest : List ℕ) → Begins 34 (codes "$outs\"" ++ rest) (w.Text (piece.Name (codes "outs") ∷ [])) rest
unfolding lexeme_at token_at double_quoted_text pieces_of pieces_in step_at variable_at with_suffix with_key
outs_text rest = refl

-- Lines behind `sys`

line_len : (text rest : List ℕ) → AreQuiet text → sys_len false (text ++ line_end ∷ rest) ≡ length text
line_len [] rest h = refl
line_len (b ∷ text) rest h =
    let q = quiet_is b h.0 in
    rw (q.line, q.slash) (let e = line_len text rest h.1 in omega (arith, e))

plain_step : (b : ℕ) (bytes : List ℕ) → b == backslash ≡ false → b == dollar ≡ false
    → step_at style.Sys b bytes ≡ Ok (step.Byte b, bytes)
unfolding step_at
plain_step b bytes s d = rw (s, d) refl

behind_step : ℕ → List ℕ → Result (TextStep × List ℕ) Flaw → Result (List Piece) Flaw
behind_step n plain (Ok s) =
    pieces_in n style.Sys (plain_left_by s.0 plain) s.1 >>= λ others. Ok (pieces_closed_by s.0 plain ++ others)
behind_step n plain (Err e) = Err e

unfold_piece : (n : ℕ) (plain : List ℕ) (b : ℕ) (bytes : List ℕ)
    → pieces_in (suc n) style.Sys plain (b ∷ bytes) ≡ behind_step n plain (step_at style.Sys b bytes)
unfolding pieces_in behind_step
unfold_piece n plain b bytes = go (step_at style.Sys b bytes)
  where
    go : (r : Result (TextStep × List ℕ) Flaw)
        → (r >>= λ s. pieces_in n style.Sys (plain_left_by s.0 plain) s.1 >>= λ others. Ok (pieces_closed_by s.0 plain
        ++ others))
        ≡ behind_step n plain r
    go (Ok s) = refl
    go (Err e) = refl

quiet_pieces : (bytes plain : List ℕ) (steps : ℕ) → length bytes ≤ steps → AreQuiet bytes
    → pieces_in steps style.Sys plain bytes ≡ Ok (plain_piece (plain ++ bytes))
unfolding pieces_in behind_step
quiet_pieces [] plain steps l h = ap (λ t. Ok (plain_piece t)) (sym (append-nil plain))
quiet_pieces (b ∷ bytes) plain zero l h = absurd (omega arith)
quiet_pieces (b ∷ bytes) plain (suc n) l h =
    let q = quiet_is b h.0 in
    unfold_piece n plain b bytes
    ∙ ap (behind_step n plain) (plain_step b bytes q.slash q.dollar)
    ∙ ap (λ (r : Result (List Piece) Flaw). r >>= λ others. Ok ([] ++ others))
    (quiet_pieces bytes (plain ++ b ∷ []) n (omega arith) h.1)
    ∙ ap (λ t. Ok (plain_piece t)) (append_assoc plain (b ∷ []) bytes)

bright : (text : List ℕ) → Stops is_blank text → EndsDark text → without_blanks (space ∷ text) ≡ text
bright text first last =
    ap (λ n. without (drop (1 + n) (space ∷ text))) (stops_at is_blank text first)
    ∙ ap (λ n. take (length text - n) text) none
    ∙ take_all (length text - 0) text (omega arith)
  where
    without : List ℕ → List ℕ
    without bytes = take (length bytes - suffix_len is_blank bytes) bytes

    none : suffix_len is_blank text ≡ 0
    none =
        ap (λ t. prefix_len is_blank (reverse t)) last.is
        ∙ ap (prefix_len is_blank) (reverse-append last.front (last.last ∷ []))
        ∙ rw last.dark refl

sys_is : (text rest : List ℕ) → AreQuiet text → Stops is_blank text → EndsDark text
    → sys_text (space ∷ (text ++ line_end ∷ rest)) ≡ Ok (w.Sys (plain_piece text), line_end ∷ rest)
unfolding sys_text pieces_of
sys_is text rest h first last =
    ap (λ n. whole (split n (space ∷ (text ++ line_end ∷ rest)))) long
    ∙ ap (λ t. whole (t, drop (length (space ∷ text)) ((space ∷ text) ++ line_end ∷ rest)))
    (take-append_seam (space ∷ text) (line_end ∷ rest))
    ∙ ap (λ t. whole (space ∷ text, t)) (drop-append_seam (space ∷ text) (line_end ∷ rest))
    ∙ ap (λ t. pieces_in (length t) style.Sys [] t >>= λ pieces. Ok (w.Sys pieces, line_end ∷ rest))
    (bright text first last)
    ∙ ap (λ (r : Result (List Piece) Flaw). r >>= λ pieces. Ok (w.Sys pieces, line_end ∷ rest))
    (quiet_pieces text [] (length text) (omega arith) h)
  where
    whole : List ℕ × List ℕ → Result (Word × List ℕ) Flaw
    whole x = pieces_in (length (without_blanks x.0)) style.Sys [] (without_blanks x.0) >>= λ pieces. Ok
        (w.Sys pieces, x.1)

    long : sys_len false (space ∷ (text ++ line_end ∷ rest)) ≡ length (space ∷ text)
    long = let e = line_len text rest h in omega (arith, e)

sys_lexeme : (bytes : List ℕ) (x : Word × List ℕ) → sys_text (space ∷ bytes) ≡ Ok x
    → lexeme_at 115 (codes "ys " ++ bytes) ≡ Ok (as_lexeme x)
unfolding lexeme_at token_at name_or_word
sys_lexeme bytes x e = ap (λ (r : Result (Word × List ℕ) Flaw). r >>= λ x. Ok (as_lexeme x)) e

pub sys_word : (text rest : List ℕ) → AreQuiet text → Stops is_blank text → EndsDark text
    → Begins 115 (codes "ys " ++ (text ++ line_end ∷ rest)) (w.Sys (plain_piece text)) (line_end ∷ rest)
sys_word text rest h first last =
    sys_lexeme (text ++ line_end ∷ rest) (w.Sys (plain_piece text), line_end ∷ rest) (sys_is text rest h first last)

-- the pieces of the last command
abbrev pub cat_pieces : List Piece
cat_pieces = piece.Plain (codes "cat ") ∷ piece.Name (codes "outs") ∷ piece.Plain (codes " > all") ∷ []

pub cat_word : (rest : List ℕ)
    → Begins 115 (codes "ys cat $outs > all\n" ++ rest) (w.Sys cat_pieces) (codes "\n" ++ rest)
unfolding lexeme_at token_at name_or_word sys_text pieces_of pieces_in step_at variable_at with_suffix with_key
cat_word rest = refl
