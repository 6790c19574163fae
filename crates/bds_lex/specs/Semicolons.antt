-- For private contracts alone: the line-end rule, told from one token to the next, as the lexer does.
use Rattle.std.specs.Prelude.{ℕ, Bool, true, false, not, ◌&&◌, ◌||◌, List, [], ◌∷◌, ◌++◌, drop, Option, Some, None, if◌then◌else◌}
use Rattle.bds_tree.specs.declared.token.Word.{Word}
use Rattle.bds_tree.specs.declared.token.Word.TheVariants as word
use Rattle.bds_tree.specs.declared.token.Token.{Token}
use Rattle.bds_tree.specs.declared.lexing.RawToken.{RawToken}
use Rattle.bds_tree.specs.lexing.LineEnds.{is_else, is_semicolon, is_open_brace, begins_with_else, answer, without_inner, is_first_true}
use Rattle.bds_lex.specs.declared.brackets.Bracket.{Bracket}
use Rattle.bds_lex.specs.declared.brackets.Bracket.TheVariants as bracket
use Rattle.bds_lex.specs.declared.semicolons.Last.{Last}
use Rattle.bds_lex.specs.declared.semicolons.Last.TheVariants as last
use Rattle.bds_lex.specs.declared.semicolons.State.{State}

-- the open brackets are a list with the innermost first
abbrev pub innermost : List Bracket → Option Bracket
innermost [] = None
innermost (b ∷ brackets) = Some b

-- statements stand there: no bracket is open, or the innermost is a block brace
abbrev pub in_block : Option Bracket → Bool
in_block None = true
in_block (Some bracket.Block) = true
in_block (Some _) = false

abbrev pub in_value : Option Bracket → Bool
in_value (Some bracket.Value) = true
in_value _ = false

abbrev pub in_head : Option Bracket → Bool
in_head (Some bracket.Head) = true
in_head _ = false

abbrev pub in_round : Option Bracket → Bool
in_round (Some bracket.Round) = true
in_round (Some bracket.Head) = true
in_round _ = false

abbrev pub in_square : Option Bracket → Bool
in_square (Some bracket.Square) = true
in_square _ = false

-- a statement may end behind the last token
abbrev pub is_ender : Last → Bool
is_ender last.Round = true
is_ender last.Ender = true
is_ender _ = false

-- the last token is a `)`
abbrev pub is_round : Last → Bool
is_round last.Round = true
is_round last.HeadRound = true
is_round _ = false

-- a `{` behind it is a block brace
abbrev pub begins_block : Last → Bool
begins_block last.Round = true
begins_block last.HeadRound = true
begins_block last.BeforeBlock = true
begins_block last.Task = true
begins_block _ = false

-- a `(` directly behind it is a head parenthesis
abbrev pub begins_head : Last → Bool
begins_head last.BeforeHead = true
begins_head last.Task = true
begins_head _ = false

-- what a token is as the last one, where `inner` is the innermost bracket that was open before it
abbrev pub last_of : Option Bracket → Word → Last
last_of inner word.CloseRound = if in_head inner then last.HeadRound else last.Round
last_of inner (word.Name t) = last.Ender
last_of inner (word.Number n) = last.Ender
last_of inner (word.Text t) = last.Ender
last_of inner (word.Sys t) = last.Ender
last_of inner word.CloseSquare = last.Ender
last_of inner word.CloseValue = last.Ender
last_of inner word.True = last.Ender
last_of inner word.False = last.Ender
last_of inner word.Break = last.Ender
last_of inner word.Continue = last.Ender
last_of inner word.Return = last.Ender
last_of inner word.Wait = last.Ender
last_of inner word.Checkpoint = last.Ender
last_of inner word.Println = last.Ender
last_of inner word.Increment = last.Ender
last_of inner word.Decrement = last.Ender
last_of inner word.Semicolon = last.BeforeBlock
last_of inner word.OpenBlock = last.BeforeBlock
last_of inner word.CloseBlock = last.BeforeBlock
last_of inner word.CaseColon = last.BeforeBlock
last_of inner word.Else = last.BeforeBlock
last_of inner word.Par = last.BeforeBlock
last_of inner word.If = last.BeforeHead
last_of inner word.While = last.BeforeHead
last_of inner word.For = last.BeforeHead
last_of inner word.Switch = last.BeforeHead
last_of inner word.Dep = last.BeforeHead
last_of inner word.Task = last.Task
last_of inner _ = last.Other

abbrev pub is_close_brace : Word → Bool
is_close_brace word.CloseValue = true
is_close_brace _ = false

-- The word of a raw token with the kind of its brace or colon: a `}` has the kind of the `{` that it closes, and is a
-- block brace if it closes none; `case_colon` is the answer for a `:`.
abbrev pub with_its_kind : Option Bracket → Last → Bool → Word → Word
with_its_kind inner before case_colon word.OpenValue = if begins_block before then word.OpenBlock else word.OpenValue
with_its_kind inner before case_colon word.CloseValue = if in_value inner then word.CloseValue else word.CloseBlock
with_its_kind inner before case_colon word.Colon = if case_colon then word.CaseColon else word.Colon
with_its_kind inner before case_colon w = w

-- the bracket that a word opens behind the last token
abbrev pub opened_by : Last → Word → Option Bracket
opened_by before word.OpenRound = Some (if begins_head before then bracket.Head else bracket.Round)
opened_by before word.OpenSquare = Some bracket.Square
opened_by before word.OpenBlock = Some bracket.Block
opened_by before word.OpenValue = Some bracket.Value
opened_by before _ = None

-- a closing bracket closes the innermost open one if that is of its kind, and else none
abbrev pub closes : Word → Option Bracket → Bool
closes word.CloseRound inner = in_round inner
closes word.CloseSquare inner = in_square inner
closes word.CloseBlock inner = in_block inner
closes word.CloseValue inner = in_value inner
closes _ inner = false

-- the brackets that are open behind a word
abbrev pub without_innermost_if : Bool → List Bracket → List Bracket
without_innermost_if closed brackets = if closed then drop 1 brackets else brackets

abbrev pub brackets_behind : List Bracket → Last → Word → List Bracket
brackets_behind brackets before w = elim (opened_by before w) [
  | Some b ↦ b ∷ brackets
  | None ↦ without_innermost_if (closes w (innermost brackets)) brackets
]

-- the answers for a `:`, one for each open bracket, and for the text outside all of them

abbrev pub closes_one : Option Bracket → Word → Bool
closes_one None w = false
closes_one (Some b) w = closes w (Some b)

-- what a word does to the innermost answer: a new one, or another
pub data Change : Type 0 where
  opened : Change
  answered : Bool → Change
  kept : Change

abbrev pub change_of : Word → Change
change_of word.Case = answered true
change_of word.Default = answered true
change_of word.Question = answered false
change_of word.Colon = answered false
change_of word.CaseColon = answered false
change_of word.Semicolon = answered false
change_of word.CloseBlock = answered false
change_of word.OpenRound = opened
change_of word.OpenSquare = opened
change_of word.OpenBlock = opened
change_of word.OpenValue = opened
change_of _ = kept

abbrev pub changed : Change → List Bool → List Bool
changed opened answers = false ∷ answers
changed (answered a) answers = answer a answers
changed kept answers = answers

abbrev pub answers_behind : Option Bracket → Word → List Bool → List Bool
answers_behind inner w answers = changed (change_of w) (without_inner (closes_one inner w) answers)

-- behind a `;` that is put
abbrev pub answers_put : Bool → List Bool → List Bool
answers_put put answers = if put then answer false answers else answers

-- a word that is no bracket, and that tells nothing of a `:` behind it: most are
abbrev pub is_plain : Word → Bool
is_plain word.Case = false
is_plain word.Default = false
is_plain word.OpenRound = false
is_plain word.CloseRound = false
is_plain word.OpenSquare = false
is_plain word.CloseSquare = false
is_plain word.OpenBlock = false
is_plain word.OpenValue = false
is_plain word.CloseBlock = false
is_plain word.CloseValue = false
is_plain word.Semicolon = false
is_plain word.Colon = false
is_plain word.CaseColon = false
is_plain word.Question = false
is_plain _ = true

-- what is known behind a word on a line
abbrev pub state_with : State → ℕ → Word → State
state_with s line w = record {
  brackets = brackets_behind s.brackets s.last w;
  answers = answers_behind (innermost s.brackets) w s.answers;
  last = last_of (innermost s.brackets) w;
  line = line;
}

-- the kind of a word's brace or colon
abbrev pub own_kind : State → Word → Word
own_kind s w = with_its_kind (innermost s.brackets) s.last (is_first_true s.answers) w

-- at the begin of a text no bracket is open, and a `{` is a block brace
unfoldable pub at_begin : State
at_begin = record { brackets = []; answers = false ∷ []; last = last.BeforeBlock; line = 1 }

-- a `;` may be put where the last token is an ender, in a block or in no bracket
abbrev pub may_end_statement : State → Bool
may_end_statement s = is_ender s.last && in_block (innermost s.brackets)

-- it is put at a line end and before the `}` of a block, but not before `else`, nor between `)` and `{`
abbrev pub ends_statement_before : State → RawToken → Bool
ends_statement_before s next =
    may_end_statement s
    && (next.new_line || is_close_brace next.word)
    && not (is_else next.word)
    && not (is_round s.last && is_open_brace next.word)

-- that `;`, on the line of the last token
abbrev pub semicolon_if : Bool → ℕ → List Token
semicolon_if put line = if put then record { line = line; word = word.Semicolon } ∷ [] else []

-- the last token, behind that `;`
abbrev pub last_behind : Bool → Last → Last
last_behind put before = if put then last.BeforeBlock else before

-- a written `;` directly before `else` is dropped
abbrev pub is_dropped : Word → Bool → Bool
is_dropped w before_else = is_semicolon w && before_else

-- what is known behind that `;`
abbrev pub state_put : Bool → State → State
state_put put s = record {
  brackets = s.brackets;
  answers = answers_put put s.answers;
  last = last_behind put s.last;
  line = s.line;
}

abbrev pub token_unless : Bool → Token → List Token
token_unless dropped t = if dropped then [] else t ∷ []

-- the tokens that a raw token gives: an automatic `;` before it, if one is put, and the token, unless it is dropped
unfoldable pub tokens_for : State → RawToken → Bool → List Token
tokens_for s next before_else =
    let put = ends_statement_before s next in
    let w = with_its_kind (innermost s.brackets) (last_behind put s.last) (is_first_true (answers_put put s.answers)) next.word in
    semicolon_if put s.line
    ++ token_unless (is_dropped next.word before_else) (record { line = next.line; word = w })

-- what is known behind them
unfoldable pub state_behind : State → RawToken → Bool → State
state_behind s next before_else =
    let put = ends_statement_before s next in
    let before = last_behind put s.last in
    let answers = answers_put put s.answers in
    let w = with_its_kind (innermost s.brackets) before (is_first_true answers) next.word in
    if is_dropped next.word before_else then record { brackets = s.brackets; answers = answers; last = before; line = s.line }
    else record { brackets = brackets_behind s.brackets before w; answers = answers_behind (innermost s.brackets) w answers; last = last_of (innermost s.brackets) w; line = next.line }

-- the tokens that raw tokens give behind a state; at the end of the text a `;` is put as at a line end
unfoldable pub with_semicolons : State → List RawToken → List Token
with_semicolons s [] = semicolon_if (may_end_statement s) s.line
with_semicolons s (r ∷ raws) =
    tokens_for s r (begins_with_else raws) ++ with_semicolons (state_behind s r (begins_with_else raws)) raws
