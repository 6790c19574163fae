use Rattle.bds_dry.proofs.Drying.{nothing_lost, passing}
use Rattle.bds_dry.proofs.told.pass.Goals as goal

pub returns-in-Ok : goal.returns-in-Ok
returns-in-Ok g c =
    rw c.in-Ok.ensures at
    (passing c.in-Ok.copied _ _ c.ask.result
    (rw (← c.in-Ok.ensures) at c.requires) c.ask.ensures.answered c.ask.ensures.refused)

pub returns-in-Err : goal.returns-in-Err
returns-in-Err g c = nothing_lost _
