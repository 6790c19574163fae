use Rattle.std.proofs.Common.{subst}
use Rattle.std.specs.List.{All}
use Rattle.std.proofs.lemmas.List.{take_all}
use Rattle.std.proofs.lemmas.List.Elements.{All-more}
use Rattle.bds_tasks.specs.declared.task.Task.{Task}
use Rattle.bds_tasks.specs.TaskFields.{IsFieldState}
use Rattle.bds_state.proofs.laws.tasks_fit.Goals as goal

pub loop-task-preserved : goal.loop-task-preserved
loop-task-preserved c =
    All-more (λ (t : Task). IsFieldState t.state) c.args.tasks.now c.loop-task.task-index c.task-item.result
    c.loop-task-test.true c.loop-task.invariant
    (subst (λ (t : Task). IsFieldState t.state) c.task-item.is c.task_fits.ensures)

pub returns : goal.returns
returns c = subst (All (λ (t : Task). IsFieldState t.state)) (take_all c.loop-task.task-index c.args.tasks.now
    c.loop-task-test.false) c.loop-task.invariant
