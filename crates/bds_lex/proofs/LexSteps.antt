-- The tokens of a text, read lexeme by lexeme.
use Rattle.std.proofs.Common.{◌≡◌, ℕ, zero, suc, ◌+◌, ◌-◌, ◌<◌, ◌≤◌, Bool, false, List, [], ◌∷◌, ◌++◌, length, get_or, Result, Ok, Err, refl, ap, ◌∙◌, sym, arith, subst}
use Rattle.bds_value.specs.Results.{◌>>=◌}
use Rattle.bds_tree.specs.declared.token.Token.{Token}
use Rattle.bds_tree.specs.declared.lexing.Flaw.{Flaw}
use Rattle.bds_tree.specs.declared.lexing.Flaw.TheVariants as flaw
use Rattle.bds_tree.specs.declared.lexing.LexFault.{LexFault}
use Rattle.bds_tree.specs.declared.lexing.RawToken.{RawToken}
use Rattle.bds_tree.specs.declared.lexing.Lexeme.{Lexeme}
use Rattle.bds_tree.specs.lexing.Faults.{at_line}
use Rattle.bds_lex.specs.Gives.{FailsWith}
use Rattle.bds_lex.specs.Reading.{FailsAt}
use Rattle.bds_tree.specs.lexing.Lexemes.{lexeme_at}
use Rattle.bds_tree.specs.lexing.RawTokens.{lines_before, raw_token_if_any, new_line_behind, raw_tokens_in, raw_tokens}
use Rattle.bds_lex.specs.Semicolons.{at_begin, with_semicolons}
use Rattle.bds_tree.specs.lexing.LineEnds.{tokens_behind}
use Rattle.bds_tree.specs.Tokens.{tokens_in}
use Rattle.bds_lex.proofs.LineEndLaws.{tokens_are}
use Rattle.bds_lex.proofs.Fronts.{after_first, after_first_is}

-- the tokens that are given for the raw tokens that are read
abbrev given : (List RawToken → List Token) → Result (List RawToken) LexFault → Result (List Token) LexFault
given give read = read >>= λ raws. Ok (give raws)

given-same : (f g : List RawToken → List Token) → ((raws : List RawToken) → f raws ≡ g raws) → (read : Result (List RawToken) LexFault) → given f read ≡ given g read
given-same f g same (Ok raws) = ap Ok (same raws)
given-same f g same (Err e) = refl

given-front : (give : List RawToken → List Token) (front : List RawToken) (read : Result (List RawToken) LexFault) → given give (read >>= λ others. Ok (front ++ others)) ≡ given (λ others. give (front ++ others)) read
given-front give front (Ok others) = refl
given-front give front (Err e) = refl

-- In enough steps the rest is read from a line on, and what is given for it is what the text gives.
pub record IsRead (bytes : List ℕ) (give : List RawToken → List Token) (new_line : Bool) (line : ℕ) (rest : List ℕ) : Type 0 where
  pub steps : ℕ
  pub enough : length rest ≤ steps
  pub lines : line + length rest ≤ 1 + length bytes
  pub same : given give (raw_tokens_in steps new_line line rest) ≡ tokens_in bytes

pub IsRead-none : (bytes : List ℕ) (give : List RawToken → List Token) → ((others : List RawToken) → give others ≡ with_semicolons at_begin others) → IsRead bytes give false 1 bytes
unfolding raw_tokens
IsRead-none bytes give begins = record { steps = length bytes; enough = omega arith; lines = omega arith; same = given-same give (tokens_behind []) (λ others. begins others ∙ tokens_are others) (raw_tokens_in (length bytes) false 1 bytes) }

-- what is read behind a lexeme
abbrev pub behind_lexeme : ℕ → Bool → ℕ → List ℕ → Result (Lexeme × List ℕ) Flaw → Result (List RawToken) LexFault
behind_lexeme n new_line line all (Err e) = Err (at_line line e)
behind_lexeme n new_line line all (Ok x) = raw_tokens_in n (new_line_behind new_line (lines_before all x.1) x.0) (line + lines_before all x.1) x.1 >>= λ others. Ok (raw_token_if_any new_line line x.0 ++ others)

pub unfold_step : (n : ℕ) (new_line : Bool) (line b : ℕ) (rest : List ℕ) → raw_tokens_in (suc n) new_line line (b ∷ rest) ≡ behind_lexeme n new_line line (b ∷ rest) (lexeme_at b rest)
unfolding raw_tokens_in
unfold_step n new_line line b rest = go (lexeme_at b rest)
  where
    go : (r : Result (Lexeme × List ℕ) Flaw) → elim r as (λ r. Result (List RawToken) LexFault) [ Err e ↦ Err (at_line line e) | Ok x ↦ raw_tokens_in n (new_line_behind new_line (lines_before (b ∷ rest) x.1) x.0) (line + lines_before (b ∷ rest) x.1) x.1 >>= λ others. Ok (raw_token_if_any new_line line x.0 ++ others) ] ≡ behind_lexeme n new_line line (b ∷ rest) r
    go (Ok x) = refl
    go (Err e) = refl

pub IsRead-more : (bytes : List ℕ) (give more : List RawToken → List Token) (new_line : Bool) (line : ℕ) (rest next : List ℕ) (s : Lexeme) → 1 ≤ length rest → IsRead bytes give new_line line rest
    → lexeme_at (get_or rest 0 0) (after_first rest) ≡ Ok (s, next) → length next < length rest → lines_before rest next ≤ length rest - length next
    → ((others : List RawToken) → more others ≡ give (raw_token_if_any new_line line s ++ others))
    → IsRead bytes more (new_line_behind new_line (lines_before rest next) s) (line + lines_before rest next) next
IsRead-more bytes give more new_line line [] next s some so_far e short few puts = absurd (omega arith)
IsRead-more bytes give more new_line line (b ∷ rest) next s some so_far e0 short few puts = go (rw (after_first_is b rest) at e0) so_far.steps so_far.enough so_far.same
  where
    go : lexeme_at b rest ≡ Ok (s, next) → (n : ℕ) → length (b ∷ rest) ≤ n → given give (raw_tokens_in n new_line line (b ∷ rest)) ≡ tokens_in bytes
        → IsRead bytes more (new_line_behind new_line (lines_before (b ∷ rest) next) s) (line + lines_before (b ∷ rest) next) next
    go e zero enough same = absurd (omega arith)
    go e (suc n) enough same =
        let others = raw_tokens_in n (new_line_behind new_line (lines_before (b ∷ rest) next) s) (line + lines_before (b ∷ rest) next) next in
        record {
          steps = n;
          enough = omega arith;
          lines = omega (arith, so_far.lines, few);
          same = given-same more (λ others. give (raw_token_if_any new_line line s ++ others)) puts others
              ∙ sym (given-front give (raw_token_if_any new_line line s) others)
              ∙ sym (ap (given give) (unfold_step n new_line line b rest ∙ ap (behind_lexeme n new_line line (b ∷ rest)) e))
              ∙ same;
        }

fails_on : (e : Flaw) (r : Result (Lexeme × List ℕ) Flaw) (n : ℕ) (new_line : Bool) (line : ℕ) (all : List ℕ) (give : List RawToken → List Token) → FailsWith e r → FailsAt (at_line line e) (given give (behind_lexeme n new_line line all r))
fails_on flaw.NoMemory r n new_line line all give h = tt
fails_on flaw.OpenText r n new_line line all give h = rw h refl
fails_on flaw.OpenComment r n new_line line all give h = rw h refl
fails_on (flaw.BadByte b) r n new_line line all give h = rw h refl
fails_on flaw.BigNumber r n new_line line all give h = rw h refl
fails_on (flaw.BadEscape b) r n new_line line all give h = rw h refl

pub IsRead-fails : (bytes : List ℕ) (give : List RawToken → List Token) (new_line : Bool) (line : ℕ) (rest : List ℕ) (e : Flaw) → 1 ≤ length rest → IsRead bytes give new_line line rest
    → FailsWith e (lexeme_at (get_or rest 0 0) (after_first rest)) → FailsAt (at_line line e) (tokens_in bytes)
IsRead-fails bytes give new_line line [] e some so_far h = absurd (omega arith)
IsRead-fails bytes give new_line line (b ∷ rest) e some so_far h0 = go (rw (after_first_is b rest) at h0) so_far.steps so_far.enough so_far.same
  where
    go : FailsWith e (lexeme_at b rest) → (n : ℕ) → length (b ∷ rest) ≤ n → given give (raw_tokens_in n new_line line (b ∷ rest)) ≡ tokens_in bytes → FailsAt (at_line line e) (tokens_in bytes)
    go h zero enough same = absurd (omega arith)
    go h (suc n) enough same =
        subst (FailsAt (at_line line e)) (ap (given give) (sym (unfold_step n new_line line b rest)) ∙ same)
        (fails_on e (lexeme_at b rest) n new_line line (b ∷ rest) give h)

pub IsRead-all : (bytes : List ℕ) (give : List RawToken → List Token) (new_line : Bool) (line : ℕ) (rest : List ℕ) → length rest < 1 → IsRead bytes give new_line line rest → tokens_in bytes ≡ Ok (give [])
unfolding raw_tokens_in
IsRead-all bytes give new_line line [] none so_far = sym so_far.same
IsRead-all bytes give new_line line (b ∷ rest) none so_far = absurd (omega arith)
