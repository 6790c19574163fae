-- For private contracts alone: the tokens that a writer will give.
use Rattle.std.specs.Prelude.{◌≡◌, List, ◌∷◌, ◌++◌, Option, Some, None}
use Rattle.bds_tree.specs.declared.token.Token.{Token}
use Rattle.bds_tree.specs.declared.lexing.RawToken.{RawToken}
use Rattle.bds_lex.specs.declared.writer.Writer.{Writer}
use Rattle.bds_lex.specs.Semicolons.{with_semicolons}

-- a raw token that waits stands before the others
abbrev pub waiting_before : Option RawToken → List RawToken → List RawToken
waiting_before None others = others
waiting_before (Some r) others = r ∷ others

-- the tokens that it gives if these raw tokens are put and it is finished then
abbrev pub tokens_with : Writer → List RawToken → List Token
tokens_with w others = w.tokens ++ with_semicolons w.state (waiting_before w.waiting others)

-- the new writer gives what the old one gives with these raw tokens before all others
abbrev pub PutsRawTokens : Writer → Writer → List RawToken → Type 0
PutsRawTokens old new raws = (others : List RawToken) → tokens_with new others ≡ tokens_with old (raws ++ others)
