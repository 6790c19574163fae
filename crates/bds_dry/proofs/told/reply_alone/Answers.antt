use Rattle.bds_dry.proofs.Drying.{nothing_lost, alone}
use Rattle.bds_dry.proofs.told.reply_alone.Goals as goal

pub returns-in-Ok : goal.returns-in-Ok
returns-in-Ok c =
    λ log. rw c.in-Ok.ensures at
    (alone c.in-Ok.copied log _ _ c.ask.result
    (rw (← c.in-Ok.ensures) at c.requires) c.ask.ensures.reply c.ask.ensures.answered)

pub returns-in-Err : goal.returns-in-Err
returns-in-Err c = λ log. nothing_lost log
