-- The line-end rule: of which kind braces and parentheses are, where a `;` is put, and which one is dropped. All is told by the tokens before, the last one first.
use Rattle.std.specs.Prelude.{ℕ, Bool, true, false, not, ◌&&◌, ◌||◌, List, [], ◌∷◌, ◌++◌, if◌then◌else◌}
use Rattle.bds_tree.specs.declared.token.Word.{Word}
use Rattle.bds_tree.specs.declared.token.Word.TheVariants as w
use Rattle.bds_tree.specs.declared.token.Token.{Token}
use Rattle.bds_tree.specs.declared.lexing.RawToken.{RawToken}
use Rattle.bds_tree.specs.Words.{words}

-- a `{` behind these words is a block brace: there is none, or the last is one of these
abbrev pub is_before_block : List Word → Bool
is_before_block [] = true
is_before_block (w.CloseRound ∷ before) = true
is_before_block (w.Semicolon ∷ before) = true
is_before_block (w.OpenBlock ∷ before) = true
is_before_block (w.CloseBlock ∷ before) = true
is_before_block (w.CaseColon ∷ before) = true
is_before_block (w.Else ∷ before) = true
is_before_block (w.Par ∷ before) = true
is_before_block (w.Task ∷ before) = true
is_before_block _ = false

-- a `(` directly behind these words, and its `)`, are head parentheses
abbrev pub is_before_head : List Word → Bool
is_before_head (w.If ∷ before) = true
is_before_head (w.While ∷ before) = true
is_before_head (w.For ∷ before) = true
is_before_head (w.Switch ∷ before) = true
is_before_head (w.Task ∷ before) = true
is_before_head (w.Dep ∷ before) = true
is_before_head _ = false

-- an open bracket; `head` is a head parenthesis, `block` and `value` are the two kinds of braces
pub data Open : Type 0 where
  round : Open
  head : Open
  square : Open
  block : Open
  value : Open

-- The brackets that are open behind a word, the innermost first, where `outer` were open behind the words before it. A closing
-- bracket closes the innermost one if that is of its kind, and else none.
abbrev pub brackets_behind : List Word → Word → List Open → List Open
brackets_behind before w.OpenRound outer = (if is_before_head before then head else round) ∷ outer
brackets_behind before w.OpenSquare outer = square ∷ outer
brackets_behind before w.OpenBlock outer = block ∷ outer
brackets_behind before w.OpenValue outer = value ∷ outer
brackets_behind before w.CloseRound (round ∷ outer) = outer
brackets_behind before w.CloseRound (head ∷ outer) = outer
brackets_behind before w.CloseSquare (square ∷ outer) = outer
brackets_behind before w.CloseBlock (block ∷ outer) = outer
brackets_behind before w.CloseValue (value ∷ outer) = outer
brackets_behind before _ outer = outer

abbrev pub open_brackets : List Word → List Open
open_brackets [] = []
open_brackets (word ∷ before) = brackets_behind before word (open_brackets before)

abbrev pub is_in_head : List Open → Bool
is_in_head (head ∷ outer) = true
is_in_head _ = false

abbrev pub is_in_value : List Open → Bool
is_in_value (value ∷ outer) = true
is_in_value _ = false

-- no bracket is open, or the innermost one is a block brace
abbrev pub is_in_block : List Open → Bool
is_in_block [] = true
is_in_block (block ∷ outer) = true
is_in_block _ = false

-- a closing bracket that closes the innermost open one
abbrev pub closes : Word → List Open → Bool
closes w.CloseRound (round ∷ outer) = true
closes w.CloseRound (head ∷ outer) = true
closes w.CloseSquare (square ∷ outer) = true
closes w.CloseBlock (block ∷ outer) = true
closes w.CloseValue (value ∷ outer) = true
closes _ _ = false

-- the innermost answer becomes this one
abbrev pub answer : Bool → List Bool → List Bool
answer a [] = []
answer a (b ∷ outer) = a ∷ outer

-- the innermost bracket is closed; outside all brackets there is an answer as well, which stays
abbrev pub without_inner : Bool → List Bool → List Bool
without_inner closing [] = []
without_inner closing (a ∷ []) = a ∷ []
without_inner closing (a ∷ b ∷ outer) = if closing then b ∷ outer else a ∷ b ∷ outer

-- Whether a `:` behind a word is a case colon: within each open bracket, the innermost first, and at last outside
-- all of them. These were the brackets and the answers behind the words before it. The last of `case`, `default`,
-- `?`, `:`, `;` and a block brace tells; what stands in a bracket that is closed doesn't count.
abbrev pub answers_behind : List Open → Word → List Bool → List Bool
answers_behind brackets w.Case known = answer true known
answers_behind brackets w.Default known = answer true known
answers_behind brackets w.Question known = answer false known
answers_behind brackets w.Colon known = answer false known
answers_behind brackets w.CaseColon known = answer false known
answers_behind brackets w.Semicolon known = answer false known
answers_behind brackets w.OpenRound known = false ∷ known
answers_behind brackets w.OpenSquare known = false ∷ known
answers_behind brackets w.OpenBlock known = false ∷ known
answers_behind brackets w.OpenValue known = false ∷ known
answers_behind brackets w.CloseBlock known = answer false (without_inner (closes w.CloseBlock brackets) known)
answers_behind brackets word known = without_inner (closes word brackets) known

abbrev pub case_answers : List Word → List Bool
case_answers [] = false ∷ []
case_answers (word ∷ before) = answers_behind (open_brackets before) word (case_answers before)

abbrev pub is_first_true : List Bool → Bool
is_first_true [] = false
is_first_true (a ∷ outer) = a

-- a `:` behind these words is a case colon
abbrev pub is_before_case_colon : List Word → Bool
is_before_case_colon before = is_first_true (case_answers before)

-- the last of these words is an ender
abbrev pub is_ender : List Word → Bool
is_ender (w.Name n ∷ before) = true
is_ender (w.Number n ∷ before) = true
is_ender (w.Text ps ∷ before) = true
is_ender (w.Sys ps ∷ before) = true
is_ender (w.CloseRound ∷ before) = not (is_in_head (open_brackets before))
is_ender (w.CloseSquare ∷ before) = true
is_ender (w.CloseValue ∷ before) = true
is_ender (w.True ∷ before) = true
is_ender (w.False ∷ before) = true
is_ender (w.Break ∷ before) = true
is_ender (w.Continue ∷ before) = true
is_ender (w.Return ∷ before) = true
is_ender (w.Wait ∷ before) = true
is_ender (w.Checkpoint ∷ before) = true
is_ender (w.Println ∷ before) = true
is_ender (w.Increment ∷ before) = true
is_ender (w.Decrement ∷ before) = true
is_ender _ = false

-- The next word with the kind of its brace or colon; in a raw token each brace is written as a value brace, and each
-- `:` as a plain one. A `}` has the kind of the `{` that it closes, and one that closes none is a block brace.
abbrev pub with_kind : List Word → Word → Word
with_kind before w.OpenValue = if is_before_block before then w.OpenBlock else w.OpenValue
with_kind before w.CloseValue = if is_in_value (open_brackets before) then w.CloseValue else w.CloseBlock
with_kind before w.Colon = if is_before_case_colon before then w.CaseColon else w.Colon
with_kind before word = word

-- the next word is a block `}`
abbrev pub is_close_block : List Word → Word → Bool
is_close_block before w.CloseValue = not (is_in_value (open_brackets before))
is_close_block before _ = false

abbrev pub is_open_brace : Word → Bool
is_open_brace w.OpenValue = true
is_open_brace _ = false

abbrev pub is_else : Word → Bool
is_else w.Else = true
is_else _ = false

abbrev pub is_semicolon : Word → Bool
is_semicolon w.Semicolon = true
is_semicolon _ = false

abbrev pub is_behind_round : List Word → Bool
is_behind_round (w.CloseRound ∷ before) = true
is_behind_round _ = false

-- a `;` may be put: the last token is an ender, and the innermost open bracket is none or a block brace
abbrev pub may_end : List Word → Bool
may_end before = is_ender before && is_in_block (open_brackets before)

-- It is put at a line end, and before a block `}`. It isn't put if the next token is `else`, nor if the last is `)` and the next
-- is `{`.
abbrev pub is_put_before : List Word → RawToken → Bool
is_put_before before next =
    may_end before
    && (next.new_line || is_close_block before next.word)
    && not (is_else next.word)
    && not (is_behind_round before && is_open_brace next.word)

abbrev pub begins_with_else : List RawToken → Bool
begins_with_else [] = false
begins_with_else (r ∷ raws) = is_else r.word

-- a written `;` directly before `else` is dropped
abbrev pub is_dropped : RawToken → List RawToken → Bool
is_dropped r raws = is_semicolon r.word && begins_with_else raws

abbrev pub last_line : List Token → ℕ
last_line [] = 1
last_line (t ∷ before) = t.line

-- a `;` that is put, on the line of the last token
abbrev pub semicolon_if : Bool → List Token → List Token
semicolon_if put before = if put then record { line = last_line before; word = w.Semicolon } ∷ [] else []

-- a raw token as a token, unless it is dropped
abbrev pub token_unless : Bool → RawToken → List Token → List Token
token_unless dropped r before = if dropped then [] else record { line = r.line; word = with_kind (words before) r.word } ∷ []

-- The tokens that raw tokens give behind others: before each the `;` that is put there, and then its own. At the end of the text
-- a `;` is put as at a line end.
abbrev pub tokens_behind : List Token → List RawToken → List Token
tokens_behind before [] = semicolon_if (may_end (words before)) before
tokens_behind before (r ∷ raws) =
    let put = semicolon_if (is_put_before (words before) r) before in
    let own = token_unless (is_dropped r raws) r (put ++ before) in
    put ++ (own ++ tokens_behind (own ++ (put ++ before)) raws)
