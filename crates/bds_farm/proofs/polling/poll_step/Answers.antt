use Rattle.bds_farm.proofs.Asking.{failed_step, given_step, lost_step}
use Rattle.bds_farm.proofs.polling.poll_step.Goals as goal

pub returns-in-Some : goal.returns-in-Some
returns-in-Some g c =
    given_step c.args.poll.now c.args.running.now _ _ _ _ c.in-Some.task c.in-Some.code _ c.in-Some.ensures

pub returns-in-Ok-false : goal.returns-in-Ok-false
returns-in-Ok-false g c =
    failed_step c.args.poll.now c.args.running.now _ _ _ _ _ _ _ c.in-None.ensures
    (rw c.in-Ok-false.field-0-test at c.in-Ok-false.ensures)

pub returns-in-Err : goal.returns-in-Err
returns-in-Err g c = lost_step c.args.poll.now c.args.running.now _ _ _ _ _ _ c.in-None.ensures c.in-Err.ensures
