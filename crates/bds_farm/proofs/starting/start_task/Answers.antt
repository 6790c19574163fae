use Rattle.bds_farm.proofs.Submissions.{start_unwritten, unwritten_lost}
use Rattle.bds_farm.proofs.starting.start_task.Goals as goal

pub returns-in-Ok-true : goal.returns-in-Ok-true
returns-in-Ok-true g c =
    λ poll. c.submit_task.ensures poll c.args.cmd.now _ (rw c.in-Ok-true.field-0-test at c.in-Ok-true.ensures)

pub returns-in-Ok-false : goal.returns-in-Ok-false
returns-in-Ok-false g c =
    λ poll. start_unwritten c.args.submit.now poll c.args.cmd.now c.args.task c.args.attempt _ _ _
    (rw c.in-Ok-false.field-0-test at c.in-Ok-false.ensures)

pub returns-in-Err : goal.returns-in-Err
returns-in-Err g c =
    λ poll. unwritten_lost c.args.submit.now poll c.args.cmd.now c.args.task c.args.attempt _ _ _ c.in-Err.ensures
