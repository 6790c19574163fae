use Rattle.bds_farm.specs.Inside.{queue_of}
use Rattle.bds_farm.proofs.Asking.{passing, unpassed}
use Rattle.bds_farm.proofs.replying.pass.Goals as goal

pub returns-in-Ok : goal.returns-in-Ok
returns-in-Ok g c = λ submit poll.
    rw c.in-Ok.ensures at
    (passing submit poll c.in-Ok.copied (queue_of c.args.known.now) _ _ c.ask.result
    (rw (← c.in-Ok.ensures) at c.requires) c.ask.ensures.answered c.ask.ensures.refused)

pub returns-in-Err : goal.returns-in-Err
returns-in-Err g c = λ submit poll. unpassed submit poll c.args.ask.now (queue_of c.args.known.now) _ c.requires
