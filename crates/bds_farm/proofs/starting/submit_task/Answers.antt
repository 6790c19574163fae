use Rattle.bds_farm.proofs.Submissions.{start_faulted, start_lost, start_ran}
use Rattle.bds_farm.proofs.starting.submit_task.Goals as goal

pub returns-in-Ok-Some : goal.returns-in-Ok-Some
returns-in-Ok-Some g c =
    λ poll cmd before written. start_ran c.args.submit.now poll cmd c.args.task c.args.attempt before _ _
    c.in-Ok-Some.code _ _ c.entered.result written
    (rw c.in-Ok-Some.field-0-is at c.in-Ok-Some.ensures) c.entered.ensures

pub returns-in-Ok-None : goal.returns-in-Ok-None
returns-in-Ok-None g c =
    λ poll cmd before written. start_faulted c.args.submit.now poll cmd c.args.task c.args.attempt before _ _ _ written
    (rw c.in-Ok-None.field-0-is at c.in-Ok-None.ensures)

pub returns-in-Err : goal.returns-in-Err
returns-in-Err g c =
    λ poll cmd before written. start_lost c.args.submit.now poll cmd c.args.task c.args.attempt before _ _ _ written
    c.in-Err.ensures
