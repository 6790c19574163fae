-- What the lexer knows of the tokens before is what the line-end rule asks of them.
use Rattle.std.proofs.Common.{◌≡◌, Bool, true, false, List, [], ◌∷◌, ◌++◌, map, Some, refl, ap, sym, ◌∙◌, arith, append_assoc}
use Rattle.std.specs.Prelude.{not, ◌&&◌, ◌||◌, if◌then◌else◌}
use Rattle.bds_tree.specs.declared.token.Word.{Word}
use Rattle.bds_tree.specs.declared.token.Word.TheVariants as w
use Rattle.bds_tree.specs.declared.token.Token.{Token}
use Rattle.bds_tree.specs.declared.lexing.RawToken.{RawToken}
use Rattle.bds_lex.specs.declared.brackets.Bracket.{Bracket}
use Rattle.bds_lex.specs.declared.brackets.Bracket.TheVariants as bracket
use Rattle.bds_lex.specs.declared.semicolons.Last.{Last}
use Rattle.bds_lex.specs.declared.semicolons.Last.TheVariants as last
use Rattle.bds_lex.specs.declared.semicolons.State.{State}
use Rattle.bds_tree.specs.Words.{words}
use Rattle.bds_tree.specs.lexing.LineEnds.{closes, answer, without_inner, answers_behind, case_answers, is_first_true, is_before_case_colon, Open, round, head, square, block, value, open_brackets, brackets_behind, last_line, may_end, is_ender, is_in_block, is_in_head, is_in_value, is_before_block, is_before_head, is_behind_round, is_put_before, with_kind, is_else, is_close_block, is_open_brace, begins_with_else, semicolon_if, token_unless, tokens_behind, is_dropped}
use Rattle.bds_lex.specs.Semicolons as old
use Rattle.bds_lex.specs.Semicolons.{tokens_for, state_behind, with_semicolons, at_begin}

abbrev pub bracket_of : Open → Bracket
bracket_of round = bracket.Round
bracket_of head = bracket.Head
bracket_of square = bracket.Square
bracket_of block = bracket.Block
bracket_of value = bracket.Value

abbrev pub brackets_of : List Open → List Bracket
brackets_of os = map bracket_of os

abbrev pub last_at : List Word → Last
last_at [] = last.BeforeBlock
last_at (word ∷ before) = old.last_of (old.innermost (brackets_of (open_brackets before))) word

pub state_at : List Token → State
state_at before = record { brackets = brackets_of (open_brackets (words before)); answers = case_answers (words before); last = last_at (words before); line = last_line before }

in_block_is : (os : List Open) → old.in_block (old.innermost (brackets_of os)) ≡ is_in_block os
in_block_is [] = refl
in_block_is (round ∷ os) = refl
in_block_is (head ∷ os) = refl
in_block_is (square ∷ os) = refl
in_block_is (block ∷ os) = refl
in_block_is (value ∷ os) = refl

in_value_is : (os : List Open) → old.in_value (old.innermost (brackets_of os)) ≡ is_in_value os
in_value_is [] = refl
in_value_is (round ∷ os) = refl
in_value_is (head ∷ os) = refl
in_value_is (square ∷ os) = refl
in_value_is (block ∷ os) = refl
in_value_is (value ∷ os) = refl

in_head_is : (os : List Open) → old.in_head (old.innermost (brackets_of os)) ≡ is_in_head os
in_head_is [] = refl
in_head_is (round ∷ os) = refl
in_head_is (head ∷ os) = refl
in_head_is (square ∷ os) = refl
in_head_is (block ∷ os) = refl
in_head_is (value ∷ os) = refl

begins_block_is : (ws : List Word) → old.begins_block (last_at ws) ≡ is_before_block ws
begins_block_is [] = refl
begins_block_is (w.CloseRound ∷ ws) = go (old.in_head (old.innermost (brackets_of (open_brackets ws))))
  where
    go : (t : Bool) → old.begins_block (if t then last.HeadRound else last.Round) ≡ true
    go true = refl
    go false = refl
begins_block_is (_ ∷ ws) = refl

begins_head_is : (ws : List Word) → old.begins_head (last_at ws) ≡ is_before_head ws
begins_head_is [] = refl
begins_head_is (w.CloseRound ∷ ws) = go (old.in_head (old.innermost (brackets_of (open_brackets ws))))
  where
    go : (t : Bool) → old.begins_head (if t then last.HeadRound else last.Round) ≡ false
    go true = refl
    go false = refl
begins_head_is (_ ∷ ws) = refl

is_round_is : (ws : List Word) → old.is_round (last_at ws) ≡ is_behind_round ws
is_round_is [] = refl
is_round_is (w.CloseRound ∷ ws) = go (old.in_head (old.innermost (brackets_of (open_brackets ws))))
  where
    go : (t : Bool) → old.is_round (if t then last.HeadRound else last.Round) ≡ true
    go true = refl
    go false = refl
is_round_is (_ ∷ ws) = refl

is_ender_is : (ws : List Word) → old.is_ender (last_at ws) ≡ is_ender ws
is_ender_is [] = refl
is_ender_is (w.CloseRound ∷ ws) = rw (in_head_is (open_brackets ws)) (go (is_in_head (open_brackets ws)))
  where
    go : (t : Bool) → old.is_ender (if t then last.HeadRound else last.Round) ≡ not t
    go true = refl
    go false = refl
is_ender_is (_ ∷ ws) = refl

may_end_is : (before : List Token) → old.may_end_statement (state_at before) ≡ may_end (words before)
unfolding state_at
may_end_is before = rw (is_ender_is (words before), in_block_is (open_brackets (words before))) refl

with_kind_is : (ws : List Word) (word : Word) → old.with_its_kind (old.innermost (brackets_of (open_brackets ws))) (last_at ws) (is_before_case_colon ws) word ≡ with_kind ws word
with_kind_is ws w.OpenValue = rw (begins_block_is ws) refl
with_kind_is ws w.CloseValue = rw (in_value_is (open_brackets ws)) refl
with_kind_is ws w.Colon = refl
with_kind_is ws _ = refl

closes_is : (os : List Open) (word : Word) → old.closes_one (old.innermost (brackets_of os)) word ≡ closes word os
closes_is [] w.CloseRound = refl
closes_is [] w.CloseSquare = refl
closes_is [] w.CloseBlock = refl
closes_is [] w.CloseValue = refl
closes_is [] _ = refl
closes_is (o ∷ os) w.CloseRound = go o
  where
    go : (o : Open) → old.in_round (Some (bracket_of o)) ≡ closes w.CloseRound (o ∷ os)
    go round = refl
    go head = refl
    go square = refl
    go block = refl
    go value = refl
closes_is (o ∷ os) w.CloseSquare = go o
  where
    go : (o : Open) → old.in_square (Some (bracket_of o)) ≡ closes w.CloseSquare (o ∷ os)
    go round = refl
    go head = refl
    go square = refl
    go block = refl
    go value = refl
closes_is (o ∷ os) w.CloseBlock = go o
  where
    go : (o : Open) → old.in_block (Some (bracket_of o)) ≡ closes w.CloseBlock (o ∷ os)
    go round = refl
    go head = refl
    go square = refl
    go block = refl
    go value = refl
closes_is (o ∷ os) w.CloseValue = go o
  where
    go : (o : Open) → old.in_value (Some (bracket_of o)) ≡ closes w.CloseValue (o ∷ os)
    go round = refl
    go head = refl
    go square = refl
    go block = refl
    go value = refl
closes_is (o ∷ os) _ = refl

-- a word that closes no bracket leaves the answers
left : (answers : List Bool) → without_inner false answers ≡ answers
left [] = refl
left (a ∷ []) = refl
left (a ∷ b ∷ outer) = refl

answers_are : (os : List Open) (word : Word) (answers : List Bool) → old.answers_behind (old.innermost (brackets_of os)) word answers ≡ answers_behind os word answers
answers_are os word answers = rw (closes_is os word) (go word)
  where
    go : (word : Word) → old.changed (old.change_of word) (without_inner (closes word os) answers) ≡ answers_behind os word answers
    go w.Case = ap (λ l. answer true l) (left answers)
    go w.Default = ap (λ l. answer true l) (left answers)
    go w.Question = ap (λ l. answer false l) (left answers)
    go w.Colon = ap (λ l. answer false l) (left answers)
    go w.CaseColon = ap (λ l. answer false l) (left answers)
    go w.Semicolon = ap (λ l. answer false l) (left answers)
    go w.OpenRound = ap (λ l. false ∷ l) (left answers)
    go w.OpenSquare = ap (λ l. false ∷ l) (left answers)
    go w.OpenBlock = ap (λ l. false ∷ l) (left answers)
    go w.OpenValue = ap (λ l. false ∷ l) (left answers)
    go w.CloseBlock = refl
    go _ = refl

brackets_behind_is : (ws : List Word) (os : List Open) (word : Word) → old.brackets_behind (brackets_of os) (last_at ws) word ≡ brackets_of (brackets_behind ws word os)
brackets_behind_is ws os w.OpenRound = rw (begins_head_is ws) (go (is_before_head ws))
  where
    go : (t : Bool) → (if t then bracket.Head else bracket.Round) ∷ brackets_of os ≡ bracket_of (if t then head else round) ∷ brackets_of os
    go true = refl
    go false = refl
brackets_behind_is ws os w.CloseRound = go os
  where
    go : (os : List Open) → old.without_innermost_if (old.in_round (old.innermost (brackets_of os))) (brackets_of os) ≡ brackets_of (brackets_behind ws w.CloseRound os)
    go [] = refl
    go (round ∷ os) = refl
    go (head ∷ os) = refl
    go (square ∷ os) = refl
    go (block ∷ os) = refl
    go (value ∷ os) = refl
brackets_behind_is ws os w.CloseSquare = go os
  where
    go : (os : List Open) → old.without_innermost_if (old.in_square (old.innermost (brackets_of os))) (brackets_of os) ≡ brackets_of (brackets_behind ws w.CloseSquare os)
    go [] = refl
    go (round ∷ os) = refl
    go (head ∷ os) = refl
    go (square ∷ os) = refl
    go (block ∷ os) = refl
    go (value ∷ os) = refl
brackets_behind_is ws os w.CloseBlock = go os
  where
    go : (os : List Open) → old.without_innermost_if (old.in_block (old.innermost (brackets_of os))) (brackets_of os) ≡ brackets_of (brackets_behind ws w.CloseBlock os)
    go [] = refl
    go (round ∷ os) = refl
    go (head ∷ os) = refl
    go (square ∷ os) = refl
    go (block ∷ os) = refl
    go (value ∷ os) = refl
brackets_behind_is ws os w.CloseValue = go os
  where
    go : (os : List Open) → old.without_innermost_if (old.in_value (old.innermost (brackets_of os))) (brackets_of os) ≡ brackets_of (brackets_behind ws w.CloseValue os)
    go [] = refl
    go (round ∷ os) = refl
    go (head ∷ os) = refl
    go (square ∷ os) = refl
    go (block ∷ os) = refl
    go (value ∷ os) = refl
brackets_behind_is ws os w.OpenSquare = refl
brackets_behind_is ws os w.OpenBlock = refl
brackets_behind_is ws os w.OpenValue = refl
brackets_behind_is ws [] _ = refl
brackets_behind_is ws (o ∷ os) _ = refl

and_right : (a b : Bool) → a && b ≡ true → b ≡ true
and_right true b e = e
and_right false b e = grind arith

close_is : (ws : List Word) (word : Word) → is_in_block (open_brackets ws) ≡ true → old.is_close_brace word ≡ is_close_block ws word
close_is ws w.CloseValue h = go (open_brackets ws) h
  where
    go : (os : List Open) → is_in_block os ≡ true → true ≡ not (is_in_value os)
    go (value ∷ os) h = sym h
    go [] h = refl
    go (round ∷ os) h = refl
    go (head ∷ os) h = refl
    go (square ∷ os) h = refl
    go (block ∷ os) h = refl
close_is ws _ h = refl

ends_is : (before : List Token) (r : RawToken) → old.ends_statement_before (state_at before) r ≡ is_put_before (words before) r
unfolding state_at
ends_is before r =
    rw (is_ender_is (words before), in_block_is (open_brackets (words before)), is_round_is (words before))
    (go (is_ender (words before) && is_in_block (open_brackets (words before))) (old.is_close_brace r.word) (is_close_block (words before) r.word)
    (λ h. close_is (words before) r.word (and_right (is_ender (words before)) (is_in_block (open_brackets (words before))) h)))
  where
    go : (m a b : Bool) → (m ≡ true → a ≡ b) → m && (r.new_line || a) && not (is_else r.word) && not (is_behind_round (words before) && is_open_brace r.word) ≡ m && (r.new_line || b) && not (is_else r.word) && not (is_behind_round (words before) && is_open_brace r.word)
    go true a b h = rw (h refl) refl
    go false a b h = refl

abbrev brackets_at : List Token → List Bracket
brackets_at before = brackets_of (open_brackets (words before))

-- the state behind the `;` that is put or not, and the one behind a token then
abbrev state_put : List Token → Bool → State
state_put before p = record { brackets = brackets_at before; answers = old.answers_put p (case_answers (words before)); last = old.last_behind p (last_at (words before)); line = last_line before }

abbrev state_own : List Token → RawToken → Last → List Bool → Word → State
state_own before r l answers word = record { brackets = old.brackets_behind (brackets_at before) l word; answers = old.answers_behind (old.innermost (brackets_at before)) word answers; last = old.last_of (old.innermost (brackets_at before)) word; line = r.line }

abbrev state_with : List Token → RawToken → List Bracket → List Bool → State
state_with before r bs answers = record { brackets = bs; answers = answers; last = old.last_of (old.innermost (brackets_at before)) (with_kind (words before) r.word); line = r.line }

put_state : (before : List Token) (p : Bool) → state_at (semicolon_if p before ++ before) ≡ state_put before p
unfolding state_at
put_state before true = refl
put_state before false = refl

own_state : (before : List Token) (r : RawToken) → state_at (record { line = r.line; word = with_kind (words before) r.word } ∷ before) ≡ state_own before r (last_at (words before)) (case_answers (words before)) (with_kind (words before) r.word)
unfolding state_at
own_state before r =
    let word = with_kind (words before) r.word in
    ap (λ (bs : List Bracket). state_with before r bs (answers_behind (open_brackets (words before)) word (case_answers (words before)))) (sym (brackets_behind_is (words before) (open_brackets (words before)) word))
    ∙ ap (λ (l : List Bool). state_with before r (old.brackets_behind (brackets_at before) (last_at (words before)) word) l) (sym (answers_are (open_brackets (words before)) word (case_answers (words before))))

abbrev put_for : List Token → RawToken → List Token
put_for before r = semicolon_if (is_put_before (words before) r) before

abbrev own_for : List Token → RawToken → List RawToken → List Token
own_for before r raws = token_unless (is_dropped r raws) r (put_for before r ++ before)

-- a raw token as a token, with the kind of its brace as the lexer finds it
abbrev token_old : List Token → RawToken → List RawToken → Bool → List Token
token_old before r raws p = old.token_unless (is_dropped r raws) (record { line = r.line; word = old.with_its_kind (old.innermost (brackets_at before)) (old.last_behind p (last_at (words before))) (is_first_true (old.answers_put p (case_answers (words before)))) r.word })

abbrev token_of : RawToken → List RawToken → Word → List Token
token_of r raws word = old.token_unless (is_dropped r raws) (record { line = r.line; word = word })

tokens_for_is : (before : List Token) (r : RawToken) (raws : List RawToken) → tokens_for (state_at before) r (begins_with_else raws) ≡ put_for before r ++ own_for before r raws
unfolding tokens_for state_at
tokens_for_is before r raws = rw (ends_is before r) (go (is_put_before (words before) r))
  where
    go : (p : Bool) → old.semicolon_if p (last_line before) ++ token_old before r raws p ≡ semicolon_if p before ++ token_unless (is_dropped r raws) r (semicolon_if p before ++ before)
    go true = ap (λ (word : Word). semicolon_if true before ++ token_of r raws word) (with_kind_is (w.Semicolon ∷ words before) r.word)
    go false = ap (λ (word : Word). token_of r raws word) (with_kind_is (words before) r.word)

state_behind_is : (before : List Token) (r : RawToken) (raws : List RawToken) → state_behind (state_at before) r (begins_with_else raws) ≡ state_at (own_for before r raws ++ (put_for before r ++ before))
unfolding state_behind state_at
state_behind_is before r raws = rw (ends_is before r) (go (is_put_before (words before) r) (is_dropped r raws))
  where
    go : (p d : Bool) → (if d then state_put before p else state_own before r (old.last_behind p (last_at (words before))) (old.answers_put p (case_answers (words before))) (old.with_its_kind (old.innermost (brackets_at before)) (old.last_behind p (last_at (words before))) (is_first_true (old.answers_put p (case_answers (words before)))) r.word))
        ≡ state_at (token_unless d r (semicolon_if p before ++ before) ++ (semicolon_if p before ++ before))
    go p true = sym (put_state before p)
    go true false = ap (λ (word : Word). state_own before r last.BeforeBlock (answer false (case_answers (words before))) word) (with_kind_is (w.Semicolon ∷ words before) r.word) ∙ sym (own_state (record { line = last_line before; word = w.Semicolon } ∷ before) r)
    go false false = ap (λ (word : Word). state_own before r (last_at (words before)) (case_answers (words before)) word) (with_kind_is (words before) r.word) ∙ sym (own_state before r)

pub with_semicolons_is : (before : List Token) (raws : List RawToken) → with_semicolons (state_at before) raws ≡ tokens_behind before raws
unfolding with_semicolons state_at
with_semicolons_is before [] = ap (λ (t : Bool). semicolon_if t before) (may_end_is before)
with_semicolons_is before (r ∷ raws) =
    let put = put_for before r in
    let own = own_for before r raws in
    ap (λ (ts : List Token). ts ++ with_semicolons (state_behind (state_at before) r (begins_with_else raws)) raws) (tokens_for_is before r raws)
    ∙ ap (λ (s : State). (put ++ own) ++ with_semicolons s raws) (state_behind_is before r raws)
    ∙ ap (λ (ts : List Token). (put ++ own) ++ ts) (with_semicolons_is (own ++ (put ++ before)) raws)
    ∙ append_assoc put own (tokens_behind (own ++ (put ++ before)) raws)

-- the tokens of a whole text
pub tokens_are : (raws : List RawToken) → with_semicolons at_begin raws ≡ tokens_behind [] raws
unfolding at_begin state_at
tokens_are raws = with_semicolons_is [] raws
