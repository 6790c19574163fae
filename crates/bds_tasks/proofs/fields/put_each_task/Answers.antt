use Rattle.bds_tasks.specs.TaskFields.{task_field}
use Rattle.bds_value.proofs.Growing.{put_more}
use Rattle.bds_tasks.proofs.fields.put_each_task.Goals as goal

pub loop-task-preserved : goal.loop-task-preserved
loop-task-preserved c = put_more task_field c.args.tasks.now c.loop-task.task-index c.task-item.result c.args.out.now.items c.loop-task.out.items c.put_task.new.out.items c.loop-task-test.true c.task-item.is c.loop-task.invariant c.in_ok-put_task.ensures
