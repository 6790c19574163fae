-- For private contracts alone: how many bytes the texts have in what the lexer has read so far.
use Rattle.std.specs.Prelude.{ℕ, ◌+◌, Option, Some, None}
use Rattle.std.specs.List.{sum_by}
use Rattle.bds_tree.specs.declared.lexing.TextStep.{TextStep}
use Rattle.bds_tree.specs.declared.lexing.TextStep.TheVariants as step
use Rattle.bds_tree.specs.declared.lexing.Lexeme.{Lexeme}
use Rattle.bds_tree.specs.declared.lexing.Lexeme.TheVariants as lexeme
use Rattle.bds_tree.specs.declared.lexing.RawToken.{RawToken}
use Rattle.bds_lex.specs.declared.writer.Writer.{Writer}
use Rattle.bds_lex.specs.Sizes.{piece_size, word_size, token_size}

abbrev pub step_size : TextStep → ℕ
step_size (step.Byte b) = 1
step_size (step.Bytes b c) = 2
step_size (step.Found p) = piece_size p

abbrev pub lexeme_size : Lexeme → ℕ
lexeme_size lexeme.Blank = 0
lexeme_size (lexeme.Token w) = word_size w

abbrev pub raw_token_size : RawToken → ℕ
raw_token_size r = word_size r.word

abbrev pub waiting_size : Option RawToken → ℕ
waiting_size None = 0
waiting_size (Some r) = raw_token_size r

abbrev pub writer_size : Writer → ℕ
writer_size w = sum_by token_size w.tokens + waiting_size w.waiting
