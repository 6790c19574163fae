use Rattle.std.proofs.Common.{inr, ◌∙◌}
use Rattle.bds_host.specs.declared.asks.Reply.TheVariants.{NoRoom}
use Rattle.bds_around.proofs.Growing.{never_falls}
use Rattle.bds_replay.proofs.Recording.{lost_behind, lost_inside}
use Rattle.bds_replay.proofs.recorder.ask_and_store.Goals as goal

pub returns-in-Ok-store-clause-never_falls : goal.returns-in-Ok-store-clause-never_falls
returns-in-Ok-store-clause-never_falls g c =
    never_falls _ _ _ (c.in-Ok-store.ensures.ok c.args.trace.now c.args.ask NoRoom c.in_ok-take_room.ensures.ok)

pub returns-in-Err-store-clause-stored : goal.returns-in-Err-store-clause-stored
returns-in-Err-store-clause-stored g c =
    let log = c.in-Err-store.ensures.err ∙ c.in_ok-take_room.ensures.ok in
    inr (lost_behind _ _ c.args.ask c.in-Ok.reply c.in-Ok.ensures.answered log)

pub returns-in-Err-clause-stored : goal.returns-in-Err-clause-stored
returns-in-Err-clause-stored g c =
    inr (lost_inside _ _ c.args.ask c.in-Err.ensures.refused c.in_ok-take_room.ensures.ok)
