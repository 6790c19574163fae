-- The raw tokens of a text: its tokens as they are written, with the line of each, and without automatic semicolons.
use Rattle.std.specs.Prelude.{ℕ, zero, suc, ◌+◌, ◌-◌, Bool, false, not, ◌&&◌, ◌||◌, ◌==◌, List, [], ◌∷◌, ◌++◌, take, length, Result, Ok, Err, if◌then◌else◌, count_by}
use Rattle.bds_value.specs.Results.{◌>>=◌}
use Rattle.bds_tree.specs.declared.lexing.LexFault.{LexFault}
use Rattle.bds_tree.specs.declared.lexing.LexFault.TheVariants as fault
use Rattle.bds_tree.specs.declared.lexing.Lexeme.{Lexeme}
use Rattle.bds_tree.specs.declared.lexing.Lexeme.TheVariants as lexeme
use Rattle.bds_tree.specs.declared.lexing.RawToken.{RawToken}
use Rattle.bds_tree.specs.lexing.Bytes.{carriage_return, is_line_end}
use Rattle.bds_tree.specs.lexing.Faults.{at_line}
use Rattle.bds_tree.specs.lexing.Lexemes.{lexeme_at}

-- each CR directly before a line end is dropped
abbrev pub begins_with_line_end : List ℕ → Bool
begins_with_line_end [] = false
begins_with_line_end (b ∷ bytes) = is_line_end b

abbrev pub without_crs : List ℕ → List ℕ
without_crs [] = []
without_crs (b ∷ bytes) =
    if (b == carriage_return) && begins_with_line_end bytes then without_crs bytes else b ∷ without_crs bytes

-- the line ends of a text before the rest of it
abbrev pub lines_before : List ℕ → List ℕ → ℕ
lines_before bytes rest = count_by is_line_end (take (length bytes - length rest) bytes)

-- the raw token of a lexeme on a line, where new_line says that a line end stands between it and the one before; a blank is none
abbrev pub raw_token_if_any : Bool → ℕ → Lexeme → List RawToken
raw_token_if_any new_line line lexeme.Blank = []
raw_token_if_any new_line line (lexeme.Token w) = record { new_line = new_line; line = line; word = w } ∷ []

-- whether a line end stands before the next token, behind a lexeme with this many line ends in it
abbrev pub new_line_behind : Bool → ℕ → Lexeme → Bool
new_line_behind new_line lines lexeme.Blank = new_line || not (lines == 0)
new_line_behind new_line lines (lexeme.Token w) = false

-- The raw tokens of a text from a line on, one lexeme after the other. Each takes a byte at least, so that as many steps as the
-- text has bytes suffice; that they do is proved.
unfoldable pub raw_tokens_in : ℕ → Bool → ℕ → List ℕ → Result (List RawToken) LexFault
raw_tokens_in steps new_line line [] = Ok []
raw_tokens_in zero new_line line (b ∷ bytes) = Err fault.NoMemory
raw_tokens_in (suc steps) new_line line (b ∷ bytes) = elim (lexeme_at b bytes) [
  | Err e ↦ Err (at_line line e)
  | Ok x ↦
      let lines = lines_before (b ∷ bytes) x.1 in
      raw_tokens_in steps (new_line_behind new_line lines x.0) (line + lines) x.1
      >>= λ others. Ok (raw_token_if_any new_line line x.0 ++ others)
]

unfoldable pub raw_tokens : List ℕ → Result (List RawToken) LexFault
raw_tokens bytes = raw_tokens_in (length bytes) false 1 bytes
