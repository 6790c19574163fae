-- How raw tokens are read, one after the other, with their lines.
use Rattle.std.proofs.Common.{◌≡◌, ℕ, zero, suc, ◌+◌, ◌-◌, ◌≤◌, Bool, true, false, List, [], ◌∷◌, ◌++◌, length, take}
use Rattle.std.proofs.Common.{Result, Ok, Err, refl, ap, sym, ◌∙◌, subst, arith, append_assoc, length-append}
use Rattle.std.specs.Prelude.{◌==◌, ◌||◌, not, cond, count_by, codes}
use Rattle.std.proofs.Math.Seq.{take-append_seam}
use Rattle.std.proofs.lemmas.List.Sums.{sum_by-append}
use Rattle.bds_value.specs.Results.{◌>>=◌}
use Rattle.bds_tree.specs.declared.lexing.Flaw.{Flaw}
use Rattle.bds_tree.specs.declared.lexing.LexFault.{LexFault}
use Rattle.bds_tree.specs.declared.lexing.RawToken.{RawToken}
use Rattle.bds_tree.specs.declared.lexing.Lexeme.{Lexeme}
use Rattle.bds_tree.specs.declared.token.Word.{Word}
use Rattle.bds_tree.specs.declared.token.Word.TheVariants as w
use Rattle.bds_tree.specs.lexing.Bytes.{space, line_end, single_quote, is_line_end, is_blank}
use Rattle.bds_tree.specs.lexing.Faults.{at_line}
use Rattle.bds_tree.specs.lexing.Lexemes.{lexeme_at}
use Rattle.bds_tree.specs.lexing.Pieces.{plain_piece}
use Rattle.bds_tree.specs.lexing.RawTokens.{lines_before, raw_token_if_any, new_line_behind, raw_tokens_in}
use Rattle.bds_fmt.proofs.Fronts.{Stops}
use Rattle.bds_made.proofs.Numerals.{quiet_is, AreQuiet, EndsDark}
use Rattle.bds_made.proofs.Words.{Begins, text_word, sys_word}

abbrev pub raw : Bool → ℕ → Word → RawToken
raw new_line line word = record { new_line = new_line; line = line; word = word }

-- these are the raw tokens of bytes on a line and those behind it, however many steps there are
pub record Reads (new_line : Bool) (line : ℕ) (bytes : List ℕ) (raws : List RawToken) : Type 0 where
  pub is : (steps : ℕ) → length bytes ≤ steps → raw_tokens_in steps new_line line bytes ≡ Ok raws

abbrev after_lexeme : ℕ → Bool → ℕ → List ℕ → Result (Lexeme × List ℕ) Flaw → Result (List RawToken) LexFault
after_lexeme n new_line line all (Err e) = Err (at_line line e)
after_lexeme n new_line line all (Ok x) =
    raw_tokens_in n (new_line_behind new_line (lines_before all x.1) x.0) (line + lines_before all x.1) x.1
    >>= λ others. Ok (raw_token_if_any new_line line x.0 ++ others)

one_step : (n : ℕ) (new_line : Bool) (line b : ℕ) (rest : List ℕ)
    → raw_tokens_in (suc n) new_line line (b ∷ rest) ≡ after_lexeme n new_line line (b ∷ rest) (lexeme_at b rest)
unfolding raw_tokens_in
one_step n new_line line b rest = go (lexeme_at b rest)
  where
    go : (r : Result (Lexeme × List ℕ) Flaw)
        → elim r as (λ r. Result (List RawToken) LexFault) [
          | Err e ↦ Err (at_line line e)
          | Ok x ↦ raw_tokens_in n
              (new_line_behind new_line (lines_before (b ∷ rest) x.1) x.0) (line + lines_before (b ∷ rest) x.1) x.1
              >>= λ others. Ok (raw_token_if_any new_line line x.0
              ++ others)
        ] ≡ after_lexeme n new_line line (b ∷ rest) r
    go (Ok x) = refl
    go (Err e) = refl

lines_front : (front rest : List ℕ) → lines_before (front ++ rest) rest ≡ count_by is_line_end front
lines_front front rest =
    let l : length (front ++ rest) ≡ length front + length rest = length-append front rest in
    let e : length (front ++ rest) - length rest ≡ length front = omega (arith, l) in
    ap (λ (n : ℕ). count_by is_line_end (take n (front ++ rest))) e
    ∙ ap (count_by is_line_end) (take-append_seam front rest)

pub reads_end : (new_line : Bool) (line : ℕ) → Reads new_line line [] []
unfolding raw_tokens_in
reads_end new_line line = record { is = λ steps h. refl }

-- a token of one line, and what is behind it
pub reads_word : (new_line : Bool) (line b : ℕ) (inner rest : List ℕ) (word : Word) (raws : List RawToken)
    → Begins b (inner ++ rest) word rest → count_by is_line_end (b ∷ inner) ≡ 0
    → Reads false line rest raws → Reads new_line line (b ∷ (inner ++ rest)) (raw new_line line word ∷ raws)
reads_word new_line line b inner rest word raws lexes none behind = record { is = go }
  where
    all : List ℕ
    all = b ∷ (inner ++ rest)

    here : line + lines_before (b ∷ (inner ++ rest)) rest ≡ line
    here =
        ap (λ k. line + k) (lines_front (b ∷ inner) rest ∙ none)
        ∙ (let z : line + 0 ≡ line = omega arith in z)

    go : (steps : ℕ) → length (b ∷ (inner ++ rest)) ≤ steps
        → raw_tokens_in steps new_line line (b ∷ (inner ++ rest)) ≡ Ok (raw new_line line word ∷ raws)
    go zero h = absurd (omega arith)
    go (suc n) h =
        let l : length (inner ++ rest) ≡ length inner + length rest = length-append inner rest in
        one_step n new_line line b (inner ++ rest)
        ∙ ap (after_lexeme n new_line line (b ∷ (inner ++ rest))) lexes
        ∙ ap (λ k. raw_tokens_in n false k rest >>= λ others. Ok (raw new_line line word ∷ others)) here
        ∙ ap (λ (r : Result (List RawToken) LexFault). r >>= λ others. Ok (raw new_line line word ∷ others))
        (behind.is n (omega (arith, l)))

pub reads_space : (line : ℕ) (rest : List ℕ) (raws : List RawToken) → Reads false line rest raws
    → Reads false line (space ∷ rest) raws
unfolding lexeme_at
reads_space line rest raws behind = record { is = go }
  where
    on : ℕ → ℕ → Result (List RawToken) LexFault
    on n k = raw_tokens_in n (false || not (k == 0)) (line + k) rest >>= λ others. Ok ([] ++ others)

    go : (steps : ℕ) → length (space ∷ rest) ≤ steps → raw_tokens_in steps false line (space ∷ rest) ≡ Ok raws
    go zero h = absurd (omega arith)
    go (suc n) h =
        one_step n false line space rest
        ∙ ap (on n) (lines_front (space ∷ []) rest)
        ∙ ap (λ k. raw_tokens_in n false k rest >>= λ others. Ok ([] ++ others))
        (let z : line + 0 ≡ line = omega arith in z)
        ∙ ap (λ (r : Result (List RawToken) LexFault). r >>= λ others. Ok ([] ++ others))
        (behind.is n (omega arith))

pub reads_line : (line : ℕ) (rest : List ℕ) (raws : List RawToken) → Reads true (line + 1) rest raws
    → Reads false line (line_end ∷ rest) raws
unfolding lexeme_at
reads_line line rest raws behind = record { is = go }
  where
    on : ℕ → ℕ → Result (List RawToken) LexFault
    on n k = raw_tokens_in n (false || not (k == 0)) (line + k) rest >>= λ others. Ok ([] ++ others)

    go : (steps : ℕ) → length (line_end ∷ rest) ≤ steps → raw_tokens_in steps false line (line_end ∷ rest) ≡ Ok raws
    go zero h = absurd (omega arith)
    go (suc n) h =
        one_step n false line line_end rest
        ∙ ap (on n) (lines_front (line_end ∷ []) rest)
        ∙ ap (λ (r : Result (List RawToken) LexFault). r >>= λ others. Ok ([] ++ others))
        (behind.is n (omega arith))

-- Texts and lines of any quiet bytes

quiet_lines : (bytes : List ℕ) → AreQuiet bytes → count_by is_line_end bytes ≡ 0
quiet_lines [] h = refl
quiet_lines (b ∷ bytes) h = rw (quiet_is b h.0).line (let e = quiet_lines bytes h.1 in omega (arith, e))

lines_more : (xs ys : List ℕ) → count_by is_line_end xs ≡ 0 → count_by is_line_end ys ≡ 0
    → count_by is_line_end (xs ++ ys) ≡ 0
lines_more xs ys h k = let e = sum_by-append (λ b. cond (is_line_end b) 1 0) xs ys in omega (arith, e, h, k)

pub reads_text : (line : ℕ) (text rest : List ℕ) (raws : List RawToken) → AreQuiet text → Reads false line rest raws
    → Reads false line (single_quote ∷ (text
    ++ single_quote ∷ rest)) (raw false line (w.Text (plain_piece text)) ∷ raws)
reads_text line text rest raws quiet behind =
    subst (λ t. Reads false line (single_quote ∷ t) (raw false line (w.Text (plain_piece text)) ∷ raws)) joined
    (reads_word false line single_quote (text ++ single_quote ∷ []) rest (w.Text (plain_piece text)) raws
    (subst (λ t. Begins single_quote t (w.Text (plain_piece text)) rest) (sym joined) (text_word text rest quiet))
    (let e = lines_more text (single_quote ∷ []) (quiet_lines text quiet) refl in omega (arith, e)) behind)
  where
    joined : (text ++ single_quote ∷ []) ++ rest ≡ text ++ single_quote ∷ rest
    joined = append_assoc text (single_quote ∷ []) rest

pub reads_sys : (line : ℕ) (text rest : List ℕ) (raws : List RawToken) → AreQuiet text → Stops is_blank text
    → EndsDark text → Reads false line (line_end ∷ rest) raws
    → Reads false line (codes "sys " ++ (text ++ line_end ∷ rest)) (raw false line (w.Sys (plain_piece text)) ∷ raws)
reads_sys line text rest raws quiet first last behind =
    reads_word false line 115 (codes "ys " ++ text) (line_end ∷ rest) (w.Sys (plain_piece text)) raws
    (sys_word text rest quiet first last)
    (let e = quiet_lines text quiet in omega (arith, e)) behind
