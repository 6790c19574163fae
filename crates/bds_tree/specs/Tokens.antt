-- The tokens of a text: first the raw tokens, each the longest one at its place, and then these with automatic semicolons,
-- the kinds of their braces, and head parentheses told apart.
use Rattle.std.specs.Prelude.{ℕ, List, [], Result, Ok}
use Rattle.bds_value.specs.Results.{◌>>=◌}
use Rattle.bds_tree.specs.declared.lexing.LexFault.{LexFault}
use Rattle.bds_tree.specs.declared.token.Token.{Token}
use Rattle.bds_tree.specs.lexing.RawTokens.{without_crs, raw_tokens}
use Rattle.bds_tree.specs.lexing.LineEnds.{tokens_behind}

-- the tokens of a text in which no CR stands before a line end
abbrev pub tokens_in : List ℕ → Result (List Token) LexFault
tokens_in bytes = raw_tokens bytes >>= λ raws. Ok (tokens_behind [] raws)

-- the tokens of a text, or the fault behind the tokens before it
unfoldable pub tokens_of : List ℕ → Result (List Token) LexFault
tokens_of text = tokens_in (without_crs text)
