use Rattle.std.proofs.Common.{◌≡◌, ◌≤◌, ℕ, zero, suc, List, [], ◌∷◌, length, take, ap, refl, subst, arith}
use Rattle.std.specs.List.{All}
use Rattle.std.proofs.lemmas.List.Elements.{All-more}
use Rattle.bds_host.specs.declared.asks.Reply.{Reply}
use Rattle.bds_replay.specs.Log.{ReplyFits}
use Rattle.bds_replay.proofs.fitting.all_fit.Goals as goal

take-whole : (i : ℕ) (xs : List Reply) → length xs ≤ i → take i xs ≡ xs
take-whole zero [] le = refl
take-whole (suc i) [] le = refl
take-whole zero (x ∷ xs) le = absurd (omega arith)
take-whole (suc i) (x ∷ xs) le = ap (λ l. x ∷ l) (take-whole i xs (omega arith))

pub loop-reply-preserved : goal.loop-reply-preserved
loop-reply-preserved c =
    All-more ReplyFits c.args.replies.now c.loop-reply.reply-index c.reply-item.result c.loop-reply-test.true
    c.loop-reply.invariant
    (subst ReplyFits c.reply-item.is c.reply_fits.ensures)

pub returns : goal.returns
returns c =
    let all : length c.args.replies.now ≤ c.loop-reply.reply-index = omega arith in
    subst (λ l. All ReplyFits l) (take-whole c.loop-reply.reply-index c.args.replies.now all) c.loop-reply.invariant
