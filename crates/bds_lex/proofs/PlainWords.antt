-- Words that are no bracket, and that tell nothing of a `:`, leave brackets and answers.
use Rattle.std.proofs.Common.{◌≡◌, ℕ, Bool, true, false, List, [], ◌∷◌, Option, Some, None, refl, ap, ◌∙◌, arith}
use Rattle.bds_tree.specs.declared.token.Word.{Word}
use Rattle.bds_tree.specs.declared.token.Word.TheVariants as w
use Rattle.bds_tree.specs.lexing.LineEnds.{without_inner}
use Rattle.bds_lex.specs.declared.brackets.Bracket.{Bracket}
use Rattle.bds_lex.specs.declared.semicolons.Last.{Last}
use Rattle.bds_lex.specs.declared.semicolons.State.{State}
use Rattle.bds_lex.specs.Semicolons.{innermost, closes, closes_one, without_innermost_if, last_of}
use Rattle.bds_lex.specs.Semicolons.{brackets_behind, answers_behind, is_plain, state_with}

-- where no bracket is open, none is closed
pub closed_one : (brackets : List Bracket) (word : Word) →
    without_innermost_if (closes_one (innermost brackets) word) brackets
    ≡ without_innermost_if (closes word (innermost brackets)) brackets
closed_one [] word = go (closes word None)
  where
    go : (closed : Bool) → [] ≡ without_innermost_if closed []
    go true = refl
    go false = refl
closed_one (b ∷ brackets) word = refl

left : (answers : List Bool) → answers ≡ without_inner false answers
left [] = refl
left (a ∷ []) = refl
left (a ∷ b ∷ outer) = refl

plain_answers : (inner : Option Bracket) (word : Word) (answers : List Bool) → is_plain word ≡ true
    → answers ≡ answers_behind inner word answers
plain_answers inner w.Case answers h = grind arith
plain_answers inner w.Default answers h = grind arith
plain_answers inner w.OpenRound answers h = grind arith
plain_answers inner w.CloseRound answers h = grind arith
plain_answers inner w.OpenSquare answers h = grind arith
plain_answers inner w.CloseSquare answers h = grind arith
plain_answers inner w.OpenBlock answers h = grind arith
plain_answers inner w.OpenValue answers h = grind arith
plain_answers inner w.CloseBlock answers h = grind arith
plain_answers inner w.CloseValue answers h = grind arith
plain_answers inner w.Semicolon answers h = grind arith
plain_answers inner w.Colon answers h = grind arith
plain_answers inner w.CaseColon answers h = grind arith
plain_answers inner w.Question answers h = grind arith
plain_answers None _ answers h = left answers
plain_answers (Some b) _ answers h = left answers

plain_brackets : (brackets : List Bracket) (before : Last) (word : Word) → is_plain word ≡ true
    → brackets ≡ brackets_behind brackets before word
plain_brackets brackets before w.OpenRound h = grind arith
plain_brackets brackets before w.CloseRound h = grind arith
plain_brackets brackets before w.OpenSquare h = grind arith
plain_brackets brackets before w.CloseSquare h = grind arith
plain_brackets brackets before w.OpenBlock h = grind arith
plain_brackets brackets before w.OpenValue h = grind arith
plain_brackets brackets before w.CloseBlock h = grind arith
plain_brackets brackets before w.CloseValue h = grind arith
plain_brackets brackets before _ h = refl

plain_last : (inner : Option Bracket) (word : Word) → is_plain word ≡ true → last_of None word ≡ last_of inner word
plain_last inner w.CloseRound h = grind arith
plain_last inner _ h = refl

abbrev pub state_of : List Bracket → List Bool → Last → ℕ → State
state_of brackets answers last line = record { brackets = brackets; answers = answers; last = last; line = line }

pub plain_state : (s : State) (line : ℕ) (word : Word) → is_plain word ≡ true
    → state_of s.brackets s.answers (last_of None word) line ≡ state_with s line word
plain_state s line word h =
    let brackets = brackets_behind s.brackets s.last word in
    let inner = innermost s.brackets in
    let answers = answers_behind inner word s.answers in
    ap (λ (bs : List Bracket). state_of bs s.answers (last_of None word) line) (plain_brackets s.brackets s.last word h)
    ∙ ap (λ (l : List Bool). state_of brackets l (last_of None word) line) (plain_answers inner word s.answers h)
    ∙ ap (λ (l : Last). state_of brackets answers l line) (plain_last inner word h)
