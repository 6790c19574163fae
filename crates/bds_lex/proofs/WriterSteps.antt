-- What a writer gives, token by token.
use Rattle.std.proofs.Common.{◌≡◌, List, ◌∷◌, ◌++◌, Option, Some, Result, Ok, Err, OnOk, append_assoc}
use Rattle.bds_value.specs.declared.listed.NoMemory.{NoMemory}
use Rattle.bds_tree.specs.declared.token.Token.{Token}
use Rattle.bds_tree.specs.declared.lexing.RawToken.{RawToken}
use Rattle.bds_lex.specs.declared.semicolons.State.{State}
use Rattle.bds_lex.specs.declared.writer.Writer.{Writer}
use Rattle.bds_tree.specs.lexing.LineEnds.{is_else}
use Rattle.bds_lex.specs.Semicolons.{tokens_for, state_behind, with_semicolons}
use Rattle.bds_lex.specs.Writing.{tokens_with}

-- a raw token that waited is written when the next one is known
pub put_waiting : (r : Result (Unit {0}) NoMemory) (w : Writer) (raw next : RawToken) (out : List Token) (state : State) (waiting : Option RawToken) → w.waiting ≡ Some raw → waiting ≡ Some next
    → OnOk r (out ≡ w.tokens ++ tokens_for w.state raw (is_else next.word)) → OnOk r (state ≡ state_behind w.state raw (is_else next.word))
    → OnOk r ((others : List RawToken) → tokens_with (record { tokens = out; state = state; waiting = waiting }) others ≡ tokens_with w (next ∷ others))
unfolding with_semicolons
put_waiting (Ok u) w raw next out state waiting was now wrote left = λ others. rw (was, now, wrote, left) (append_assoc w.tokens (tokens_for w.state raw (is_else next.word)) (with_semicolons (state_behind w.state raw (is_else next.word)) (next ∷ others)))
put_waiting (Err e) w raw next out state waiting was now wrote left = tt
