use Rattle.std.proofs.Common.{◌∙◌, inr}
use Rattle.bds_host.specs.declared.asks.Reply.TheVariants.{NoRoom}
use Rattle.bds_around.proofs.Growing.{never_falls}
use Rattle.bds_farm.proofs.Farming.{reply_lost}
use Rattle.bds_farm.proofs.farm.ask_and_store.Goals as goal

pub returns-in-Ok-clause-never_falls : goal.returns-in-Ok-clause-never_falls
returns-in-Ok-clause-never_falls g c =
    never_falls _ _ _ (c.in-Ok.ensures.ok c.args.trace.now c.args.ask NoRoom c.in_ok-take_room.ensures.ok)

pub returns-clause-turns : goal.returns-clause-turns
returns-clause-turns g c =
    inr (reply_lost c.args.submit.now c.args.poll.now c.args.ask _ _ _ _ c.args.trace.now _ c.in_ok-reply.reply
    c.in_ok-reply.ensures (c.in-Err.ensures.err ∙ c.in_ok-take_room.ensures.ok))
