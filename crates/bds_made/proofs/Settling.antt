-- The tokens of the raw tokens: a `;` behind each line.
use Rattle.std.proofs.Common.{◌≡◌, ℕ, zero, suc, ◌+◌, ◌%◌, Bool, true, false, List, [], ◌∷◌, ◌++◌, refl, ap, ◌∙◌}
use Rattle.std.specs.Prelude.{codes, decimal, pos, ℤ, not, ◌&&◌, ◌||◌}
use Rattle.bds_tree.specs.declared.lexing.RawToken.{RawToken}
use Rattle.bds_tree.specs.declared.token.Piece.TheVariants as piece
use Rattle.bds_tree.specs.declared.token.Token.{Token}
use Rattle.bds_tree.specs.declared.token.Word.{Word}
use Rattle.bds_tree.specs.declared.token.Word.TheVariants as w
use Rattle.bds_tree.specs.Words.{words}
use Rattle.bds_tree.specs.lexing.Pieces.{plain_piece}
use Rattle.bds_tree.specs.lexing.LineEnds.{open_brackets, is_ender, is_behind_round, may_end, is_put_before, is_dropped}
use Rattle.bds_tree.specs.lexing.LineEnds.{is_close_block, is_open_brace, is_else, last_line, semicolon_if}
use Rattle.bds_tree.specs.lexing.LineEnds.{token_unless, tokens_behind, with_kind}
use Rattle.bds_made.proofs.Words.{cat_pieces}
use Rattle.bds_made.proofs.Texts.{sort_text, out_text, in_text, add_raws, task_raws, tail_raws, tasks_raws, made_raws}
use Rattle.bds_made.proofs.Texts.{behind_task_word, behind_outs, behind_all_word, wait_raws, print_raws}
use Rattle.bds_made.proofs.Readings.{raw}

abbrev pub tok : ℕ → Word → Token
tok line word = record { line = line; word = word }

-- a `;` is put behind these at a line end
record Ready (before : List Token) : Type 0 where
  ender : is_ender (words before) ≡ true
  bare : open_brackets (words before) ≡ []
  square : is_behind_round (words before) ≡ false

may_be : (before : List Token) → Ready before → may_end (words before) ≡ true
may_be before r = rw (r.ender, r.bare) refl

-- the first token of a line, which is no sign
put_before : (before : List Token) (r : RawToken) → Ready before → r.new_line ≡ true → is_else r.word ≡ false
    → is_put_before (words before) r ≡ true
put_before before r ready new_line no_else =
    rw (ready.ender, ready.bare, ready.square, new_line, no_else) refl

behind_line : (before : List Token) (line : ℕ) (word : Word) (raws : List RawToken) → Ready before
    → is_else word ≡ false → is_dropped (raw true line word) raws ≡ false
    → tokens_behind before (raw true line word ∷ raws)
    ≡ tok (last_line before) w.Semicolon ∷ tok line (with_kind (words (tok (last_line before) w.Semicolon ∷ before))
    word)
    ∷ tokens_behind (tok line (with_kind (words (tok (last_line before) w.Semicolon ∷ before)) word) ∷ tok
    (last_line before) w.Semicolon ∷ before) raws
behind_line before line word raws ready no_else stays =
    ap (λ b. go b (is_dropped (raw true line word) raws)) (put_before before (raw true line word) ready refl no_else)
    ∙ ap (go true) stays
  where
    go : Bool → Bool → List Token
    go b d =
        let put = semicolon_if b before in
        let own = token_unless d (raw true line word) (put ++ before) in
        put ++ (own ++ tokens_behind (own ++ (put ++ before)) raws)

-- within a line no `;` is put
and_no : (a e f : Bool) → (a && (false || false) && e && f) ≡ false
and_no true e f = refl
and_no false e f = refl

same_line : (before : List Token) (line : ℕ) (word : Word) (raws : List RawToken)
    → is_close_block (words before) word ≡ false → is_dropped (raw false line word) raws ≡ false
    → tokens_behind before (raw false line word ∷ raws)
    ≡ tok line (with_kind (words before) word) ∷ tokens_behind (tok line (with_kind (words before) word) ∷ before) raws
same_line before line word raws no_close stays =
    ap (λ b. go b (is_dropped (raw false line word) raws)) none ∙ ap (go false) stays
  where
    go : Bool → Bool → List Token
    go b d =
        let put = semicolon_if b before in
        let own = token_unless d (raw false line word) (put ++ before) in
        put ++ (own ++ tokens_behind (own ++ (put ++ before)) raws)

    none : is_put_before (words before) (raw false line word) ≡ false
    none =
        ap (λ c. may_end (words before) && (false || c) && not (is_else word) && not
        (is_behind_round (words before) && is_open_brace word)) no_close
        ∙ and_no (may_end (words before)) (not (is_else word))
        (not (is_behind_round (words before) && is_open_brace word))

-- Statements

abbrev pub task_tokens : ℕ → List ℕ → ℤ → List Token → List Token
task_tokens l d z rest =
    tok l w.Task ∷ tok l w.OpenRound ∷ tok l (w.Text (plain_piece (out_text d))) ∷ tok l w.From
    ∷ tok l (w.Text (plain_piece (in_text d))) ∷ tok l w.Comma ∷ tok l (w.Name (codes "cpus")) ∷ tok l w.Declare
    ∷ tok l (w.Number z) ∷ tok l w.CloseRound ∷ tok l (w.Sys (plain_piece (sort_text d))) ∷ tok l w.Semicolon ∷ rest

abbrev pub add_tokens : ℕ → List ℕ → List Token → List Token
add_tokens l d rest =
    tok l (w.Name (codes "outs")) ∷ tok l w.AddAssign ∷ tok l (w.Text (plain_piece (out_text d))) ∷ tok l w.Semicolon
    ∷ rest

abbrev pub tail_tokens : ℕ → List Token
tail_tokens l =
    tok l w.Task ∷ tok l w.OpenRound ∷ tok l (w.Text (plain_piece (codes "all"))) ∷ tok l w.From
    ∷ tok l (w.Name (codes "outs")) ∷ tok l w.CloseRound ∷ tok l (w.Sys cat_pieces) ∷ tok l w.Semicolon
    ∷ tok (l + 1) w.Wait ∷ tok (l + 1) w.Semicolon ∷ tok ((l + 1) + 1) w.Println
    ∷ tok ((l + 1) + 1) (w.Text (piece.Name (codes "outs") ∷ [])) ∷ tok ((l + 1) + 1) w.Semicolon ∷ []

abbrev pub tasks_tokens : ℕ → ℕ → ℕ → List Token
tasks_tokens zero i l = tail_tokens l
tasks_tokens (suc k) i l =
    task_tokens l (decimal i) (pos (1 + i % 3)) (add_tokens (l + 1) (decimal i) (tasks_tokens k (i + 1) ((l + 1) + 1)))

abbrev pub made_tokens : ℕ → List Token
made_tokens n =
    tok 1 w.String ∷ tok 1 w.OpenSquare ∷ tok 1 w.CloseSquare ∷ tok 1 (w.Name (codes "outs")) ∷ tok 1 w.Semicolon
    ∷ tasks_tokens n 0 2

-- what stands before the line behind a task, the last one first
abbrev behind_task : ℕ → ℕ → List ℕ → ℤ → List Token → List Token
behind_task k l d z before =
    tok l (w.Sys (plain_piece (sort_text d))) ∷ tok l w.CloseRound ∷ tok l (w.Number z) ∷ tok l w.Declare
    ∷ tok l (w.Name (codes "cpus")) ∷ tok l w.Comma ∷ tok l (w.Text (plain_piece (in_text d))) ∷ tok l w.From
    ∷ tok l (w.Text (plain_piece (out_text d))) ∷ tok l w.OpenRound ∷ tok l w.Task ∷ tok k w.Semicolon ∷ before

abbrev behind_add : ℕ → ℕ → List ℕ → List Token → List Token
behind_add k l d before =
    tok l (w.Text (plain_piece (out_text d))) ∷ tok l w.AddAssign ∷ tok l (w.Name (codes "outs")) ∷ tok k w.Semicolon
    ∷ before

abbrev behind_all : ℕ → ℕ → List Token → List Token
behind_all k l before =
    tok l (w.Sys cat_pieces) ∷ tok l w.CloseRound ∷ tok l (w.Name (codes "outs")) ∷ tok l w.From
    ∷ tok l (w.Text (plain_piece (codes "all"))) ∷ tok l w.OpenRound ∷ tok l w.Task ∷ tok k w.Semicolon ∷ before

task_settles : (k l : ℕ) (d : List ℕ) (z : ℤ) (before : List Token) (raws : List RawToken) → Ready before
    → last_line before ≡ k
    → tokens_behind before (task_raws l d z raws)
    ≡ tok k w.Semicolon ∷ tok l w.Task ∷ tok l w.OpenRound ∷ tok l (w.Text (plain_piece (out_text d)))
    ∷ tok l w.From ∷ tok l (w.Text (plain_piece (in_text d))) ∷ tok l w.Comma ∷ tok l (w.Name (codes "cpus"))
    ∷ tok l w.Declare ∷ tok l (w.Number z) ∷ tok l w.CloseRound ∷ tok l (w.Sys (plain_piece (sort_text d)))
    ∷ tokens_behind (behind_task k l d z before) raws
task_settles k l d z before raws ready is =
    let e :
    tokens_behind before (task_raws l d z raws)
    ≡ tok (last_line before) w.Semicolon ∷ tok l w.Task
    ∷ tokens_behind (tok l w.Task ∷ tok (last_line before) w.Semicolon ∷ before) (behind_task_word l d z raws) =
    behind_line before l w.Task (behind_task_word l d z raws) ready refl refl in
    e ∙ ap (λ k. tok k w.Semicolon ∷ tok l w.Task ∷ tokens_behind (tok l w.Task ∷ tok k w.Semicolon ∷ before)
    (behind_task_word l d z raws)) is

add_settles : (k l : ℕ) (d : List ℕ) (before : List Token) (raws : List RawToken) → Ready before → last_line before ≡ k
    → tokens_behind before (add_raws l d raws)
    ≡ tok k w.Semicolon ∷ tok l (w.Name (codes "outs")) ∷ tok l w.AddAssign ∷ tok l (w.Text (plain_piece (out_text d)))
    ∷ tokens_behind (behind_add k l d before) raws
add_settles k l d before raws ready is =
    let e :
    tokens_behind before (add_raws l d raws)
    ≡ tok (last_line before) w.Semicolon ∷ tok l (w.Name (codes "outs"))
    ∷ tokens_behind (tok l (w.Name (codes "outs")) ∷ tok (last_line before) w.Semicolon ∷ before)
    (behind_outs l d raws) =
    behind_line before l (w.Name (codes "outs")) (behind_outs l d raws) ready refl refl in
    let f :
    tokens_behind (tok l (w.Name (codes "outs")) ∷ tok k w.Semicolon ∷ before) (behind_outs l d raws)
    ≡ tok l w.AddAssign ∷ tok l (w.Text (plain_piece (out_text d))) ∷ tokens_behind (behind_add k l d before) raws =
    same_line (tok l (w.Name (codes "outs")) ∷ tok k w.Semicolon ∷ before) l w.AddAssign
    (raw false l (w.Text (plain_piece (out_text d))) ∷ raws) refl refl in
    e
    ∙ ap (λ k. tok k w.Semicolon ∷ tok l (w.Name (codes "outs")) ∷ tokens_behind
    (tok l (w.Name (codes "outs")) ∷ tok k w.Semicolon ∷ before) (behind_outs l d raws)) is
    ∙ ap (λ ts. tok k w.Semicolon ∷ tok l (w.Name (codes "outs")) ∷ ts) f

all_settles : (k l : ℕ) (before : List Token) (raws : List RawToken) → Ready before → last_line before ≡ k
    → tokens_behind before (raw true l w.Task ∷ behind_all_word l raws)
    ≡ tok k w.Semicolon ∷ tok l w.Task ∷ tok l w.OpenRound ∷ tok l (w.Text (plain_piece (codes "all"))) ∷ tok l w.From
    ∷ tok l (w.Name (codes "outs")) ∷ tok l w.CloseRound ∷ tok l (w.Sys cat_pieces)
    ∷ tokens_behind (behind_all k l before) raws
all_settles k l before raws ready is =
    let e :
    tokens_behind before (raw true l w.Task ∷ behind_all_word l raws)
    ≡ tok (last_line before) w.Semicolon ∷ tok l w.Task
    ∷ tokens_behind (tok l w.Task ∷ tok (last_line before) w.Semicolon ∷ before) (behind_all_word l raws) =
    behind_line before l w.Task (behind_all_word l raws) ready refl refl in
    e ∙ ap (λ k. tok k w.Semicolon ∷ tok l w.Task ∷ tokens_behind (tok l w.Task ∷ tok k w.Semicolon ∷ before)
    (behind_all_word l raws)) is

wait_settles : (k l : ℕ) (before : List Token) (raws : List RawToken) → Ready before → last_line before ≡ k
    → tokens_behind before (raw true l w.Wait ∷ raws)
    ≡ tok k w.Semicolon ∷ tok l w.Wait ∷ tokens_behind (tok l w.Wait ∷ tok k w.Semicolon ∷ before) raws
wait_settles k l before raws ready is =
    let e :
    tokens_behind before (raw true l w.Wait ∷ raws)
    ≡ tok (last_line before) w.Semicolon ∷ tok l w.Wait
    ∷ tokens_behind (tok l w.Wait ∷ tok (last_line before) w.Semicolon ∷ before) raws =
    behind_line before l w.Wait raws ready refl refl in
    e ∙ ap (λ k. tok k w.Semicolon ∷ tok l w.Wait ∷ tokens_behind (tok l w.Wait ∷ tok k w.Semicolon ∷ before) raws) is

last_settles : (l : ℕ) (before : List Token) → Ready before → last_line before ≡ l
    → tokens_behind before [] ≡ tok l w.Semicolon ∷ []
last_settles l before ready is =
    ap (λ b. semicolon_if b before) (may_be before ready) ∙ ap (λ k. tok k w.Semicolon ∷ []) is

print_settles : (k l : ℕ) (before : List Token) → Ready before → last_line before ≡ k
    → tokens_behind before (print_raws l)
    ≡ tok k w.Semicolon ∷ tok l w.Println ∷ tok l (w.Text (piece.Name (codes "outs") ∷ [])) ∷ tok l w.Semicolon ∷ []
print_settles k l before ready is =
    let e :
    tokens_behind before (print_raws l)
    ≡ tok (last_line before) w.Semicolon ∷ tok l w.Println
    ∷ tokens_behind (tok l w.Println ∷ tok (last_line before) w.Semicolon ∷ before)
    (raw false l (w.Text (piece.Name (codes "outs") ∷ [])) ∷ []) =
    behind_line before l w.Println (raw false l (w.Text (piece.Name (codes "outs") ∷ [])) ∷ []) ready refl refl in
    let f :
    tokens_behind (tok l w.Println ∷ tok k w.Semicolon ∷ before)
    (raw false l (w.Text (piece.Name (codes "outs") ∷ [])) ∷ [])
    ≡ tok l (w.Text (piece.Name (codes "outs") ∷ []))
    ∷ tokens_behind (tok l (w.Text (piece.Name (codes "outs") ∷ [])) ∷ tok l w.Println ∷ tok k w.Semicolon ∷ before)
    [] =
    same_line (tok l w.Println ∷ tok k w.Semicolon ∷ before) l (w.Text (piece.Name (codes "outs") ∷ [])) [] refl
    refl in
    let g = last_settles l (tok l (w.Text (piece.Name (codes "outs") ∷ [])) ∷ tok l w.Println ∷ tok k w.Semicolon ∷
    before)
    (record { ender = refl; bare = ready.bare; square = refl }) refl in
    e
    ∙ ap (λ k. tok k w.Semicolon ∷ tok l w.Println ∷ tokens_behind (tok l w.Println ∷ tok k w.Semicolon ∷ before)
    (raw false l (w.Text (piece.Name (codes "outs") ∷ [])) ∷ [])) is
    ∙ ap (λ ts. tok k w.Semicolon ∷ tok l w.Println ∷ ts) f
    ∙ ap (λ ts. tok k w.Semicolon ∷ tok l w.Println ∷ tok l (w.Text (piece.Name (codes "outs") ∷ [])) ∷ ts) g

tail_settles : (k l : ℕ) (before : List Token) → Ready before → last_line before ≡ k
    → tokens_behind before (tail_raws l) ≡ tok k w.Semicolon ∷ tail_tokens l
tail_settles k l before ready is =
    let e = all_settles k l before (wait_raws (l + 1)) ready is in
    let f = wait_settles l (l + 1) (behind_all k l before) (print_raws ((l + 1) + 1))
    (record { ender = refl; bare = ready.bare; square = refl }) refl in
    let g = print_settles (l + 1) ((l + 1) + 1) (tok (l + 1) w.Wait ∷ tok l w.Semicolon ∷ behind_all k l before)
    (record { ender = refl; bare = ready.bare; square = refl }) refl in
    e
    ∙ ap (λ ts. tok k w.Semicolon ∷ tok l w.Task ∷ tok l w.OpenRound ∷ tok l (w.Text (plain_piece (codes "all"))) ∷ tok
    l w.From ∷ tok l (w.Name (codes "outs")) ∷ tok l w.CloseRound ∷ tok l (w.Sys cat_pieces) ∷ ts) f
    ∙ ap (λ ts. tok k w.Semicolon ∷ tok l w.Task ∷ tok l w.OpenRound ∷ tok l (w.Text (plain_piece (codes "all"))) ∷ tok
    l w.From ∷ tok l (w.Name (codes "outs")) ∷ tok l w.CloseRound ∷ tok l (w.Sys cat_pieces) ∷ tok l w.Semicolon ∷ tok
    (l + 1) w.Wait ∷ ts) g

tasks_settle : (n i k l : ℕ) (before : List Token) → Ready before → last_line before ≡ k
    → tokens_behind before (tasks_raws n i l) ≡ tok k w.Semicolon ∷ tasks_tokens n i l
tasks_settle zero i k l before ready is = tail_settles k l before ready is
tasks_settle (suc n) i k l before ready is =
    let e = task_settles k l (decimal i) (pos (1 + i % 3)) before
    (add_raws (l + 1) (decimal i) (tasks_raws n (i + 1) ((l + 1) + 1))) ready is in
    let f = add_settles l (l + 1) (decimal i) (behind_task k l (decimal i) (pos (1 + i % 3)) before)
    (tasks_raws n (i + 1) ((l + 1) + 1))
    (record { ender = refl; bare = ready.bare; square = refl }) refl in
    let g = tasks_settle n (i + 1) (l + 1) ((l + 1) + 1) (behind_add l (l + 1) (decimal i)
    (behind_task k l (decimal i) (pos (1 + i % 3)) before))
    (record { ender = refl; bare = ready.bare; square = refl }) refl in
    e
    ∙ ap (λ ts. tok k w.Semicolon ∷ tok l w.Task ∷ tok l w.OpenRound ∷ tok l
    (w.Text (plain_piece (out_text (decimal i)))) ∷ tok l w.From ∷ tok l (w.Text (plain_piece (in_text (decimal i)))) ∷
    tok l w.Comma ∷ tok l (w.Name (codes "cpus")) ∷ tok l w.Declare ∷ tok l (w.Number (pos (1 + i % 3))) ∷ tok l
    w.CloseRound ∷ tok l (w.Sys (plain_piece (sort_text (decimal i)))) ∷ ts) f
    ∙ ap (λ ts. tok k w.Semicolon ∷ tok l w.Task ∷ tok l w.OpenRound ∷ tok l
    (w.Text (plain_piece (out_text (decimal i)))) ∷ tok l w.From ∷ tok l (w.Text (plain_piece (in_text (decimal i)))) ∷
    tok l w.Comma ∷ tok l (w.Name (codes "cpus")) ∷ tok l w.Declare ∷ tok l (w.Number (pos (1 + i % 3))) ∷ tok l
    w.CloseRound ∷ tok l (w.Sys (plain_piece (sort_text (decimal i)))) ∷ tok l w.Semicolon ∷ tok (l + 1)
    (w.Name (codes "outs")) ∷ tok (l + 1) w.AddAssign ∷ tok (l + 1)
    (w.Text (plain_piece (out_text (decimal i)))) ∷ ts) g

pub made_settles : (n : ℕ) → tokens_behind [] (made_raws n) ≡ made_tokens n
made_settles n =
    let e = tasks_settle n 0 1 2 (tok 1 (w.Name (codes "outs")) ∷ tok 1 w.CloseSquare ∷ tok 1 w.OpenSquare ∷ tok 1
    w.String ∷ [])
    (record { ender = refl; bare = refl; square = refl }) refl in
    ap (λ ts. tok 1 w.String ∷ tok 1 w.OpenSquare ∷ tok 1 w.CloseSquare ∷ tok 1 (w.Name (codes "outs")) ∷ ts) e
