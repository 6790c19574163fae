use Rattle.std.proofs.Common.{◌∙◌}
use Rattle.bds_engine.proofs.Plans.{ids_step, plan_room, plan_step}
use Rattle.bds_engine.proofs.tables.add_tasks.Goals as goal

pub add_task-requires-clause-room : goal.add_task-requires-clause-room
add_task-requires-clause-room c = plan_room c.args.state.now c.loop-i.state c.args.k c.loop-i.i c.args.planned.now c.loop-i.invariant.state c.loop-i-test.true c.requires.room

pub loop-i-preserved : goal.loop-i-preserved
loop-i-preserved c = record {
  state = plan_step c.args.state.now c.loop-i.state c.args.k c.loop-i.i c.args.planned.now c.loop-i.invariant.state c.loop-i-test.true c.add_task.new.state c.in_ok-add_task.ensures.0;
  ids = c.in_ok-push.ensures.ok ∙ ids_step c.args.state.now c.loop-i.state c.args.k c.loop-i.i c.args.planned.now c.loop-i.invariant.state c.loop-i-test.true c.loop-i.ids c.in_ok-add_task.field-0 c.loop-i.invariant.ids c.in_ok-add_task.ensures.1;
}
