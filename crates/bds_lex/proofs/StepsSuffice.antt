-- The steps of the definition of tokens suffice: it never gives want of memory.
use Rattle.std.proofs.Common.{ℕ, zero, suc, ◌+◌, ◌≤◌, Bool, false, List, [], ◌∷◌, ◌++◌, length, Result, Ok, Err, sym, arith, subst}
use Rattle.bds_value.specs.Results.{◌>>=◌}
use Rattle.bds_tree.specs.declared.lexing.Flaw.{Flaw}
use Rattle.bds_tree.specs.declared.lexing.Flaw.TheVariants as flaw
use Rattle.bds_tree.specs.declared.lexing.LexFault.{LexFault}
use Rattle.bds_tree.specs.declared.lexing.LexFault.TheVariants as fault
use Rattle.bds_tree.specs.declared.token.Token.{Token}
use Rattle.bds_tree.specs.lexing.Faults.{at_line}
use Rattle.bds_lex.specs.Reading.{IsDefined}
use Rattle.bds_tree.specs.declared.lexing.Lexeme.{Lexeme}
use Rattle.bds_tree.specs.declared.lexing.RawToken.{RawToken}
use Rattle.bds_tree.specs.lexing.Lexemes.{lexeme_at}
use Rattle.bds_tree.specs.lexing.RawTokens.{lines_before, raw_token_if_any, new_line_behind, without_crs, raw_tokens_in, raw_tokens}
use Rattle.bds_tree.specs.lexing.LineEnds.{tokens_behind}
use Rattle.bds_tree.specs.Tokens.{tokens_in, tokens_of}
use Rattle.bds_lex.proofs.LexSteps.{behind_lexeme, unfold_step}
use Rattle.bds_lex.proofs.PiecesLeft.{IsNotMemory, Leaves}
use Rattle.bds_lex.proofs.LexemesLeft.{lexeme_at_leaves}

at_line_told : (A : Type 0) (line : ℕ) (e : Flaw) → IsNotMemory e → IsDefined {Y = A} (Err (at_line line e))
at_line_told A line flaw.NoMemory t = t
at_line_told A line flaw.OpenText t = t
at_line_told A line flaw.OpenComment t = t
at_line_told A line (flaw.BadByte b) t = t
at_line_told A line flaw.BigNumber t = t
at_line_told A line (flaw.BadEscape b) t = t

fault_defined : (A B : Type 0) (e : LexFault) → IsDefined {Y = A} (Err e) → IsDefined {Y = B} (Err e)
fault_defined A B fault.NoMemory t = t
fault_defined A B (fault.OpenText line) t = t
fault_defined A B (fault.OpenComment line) t = t
fault_defined A B (fault.BadByte line b) t = t
fault_defined A B (fault.BigNumber line) t = t
fault_defined A B (fault.BadEscape line b) t = t

behind_lexeme_told : (steps : ℕ) (new_line : Bool) (line : ℕ) (all : List ℕ) (r : Result (Lexeme × List ℕ) Flaw) (n : ℕ) → Leaves n r
    → ((new_line : Bool) (line : ℕ) (bytes : List ℕ) → length bytes ≤ n → IsDefined (raw_tokens_in steps new_line line bytes)) → IsDefined (behind_lexeme steps new_line line all r)
behind_lexeme_told steps new_line line all (Err e) n t more = at_line_told (List RawToken) line e t
behind_lexeme_told steps new_line line all (Ok x) n short more = go (raw_tokens_in steps (new_line_behind new_line (lines_before all x.1) x.0) (line + lines_before all x.1) x.1) (more _ _ x.1 short)
  where
    go : (r : Result (List RawToken) LexFault) → IsDefined r → IsDefined (r >>= λ others. Ok (raw_token_if_any new_line line x.0 ++ others))
    go (Ok others) t = tt
    go (Err e) t = fault_defined (List RawToken) (List RawToken) e t

raw_tokens_in_told : (steps : ℕ) (new_line : Bool) (line : ℕ) (bytes : List ℕ) → length bytes ≤ steps → IsDefined (raw_tokens_in steps new_line line bytes)
unfolding raw_tokens_in
raw_tokens_in_told steps new_line line [] h = tt
raw_tokens_in_told zero new_line line (b ∷ bytes) h = absurd (omega arith)
raw_tokens_in_told (suc steps) new_line line (b ∷ bytes) h =
    subst IsDefined (sym (unfold_step steps new_line line b bytes))
    (behind_lexeme_told steps new_line line (b ∷ bytes) (lexeme_at b bytes) (length bytes) (lexeme_at_leaves b bytes) (λ f l rest short. raw_tokens_in_told steps f l rest (omega arith)))

tokens_in_told : (bytes : List ℕ) → IsDefined (tokens_in bytes)
unfolding raw_tokens
tokens_in_told bytes = go (raw_tokens_in (length bytes) false 1 bytes) (raw_tokens_in_told (length bytes) false 1 bytes (omega arith))
  where
    go : (r : Result (List RawToken) LexFault) → IsDefined r → IsDefined (r >>= λ raws. Ok (tokens_behind [] raws))
    go (Ok raws) t = tt
    go (Err e) t = fault_defined (List RawToken) (List Token) e t

-- each text has tokens, or one of the five faults
pub tokens_of_told : (text : List ℕ) → IsDefined (tokens_of text)
unfolding tokens_of
tokens_of_told text = tokens_in_told (without_crs text)
