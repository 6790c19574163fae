use Rattle.std.proofs.Common.{◌≡◌, ◌+◌, length, take}
use Rattle.bds_schedule.specs.Turns.{ids_from}
use Rattle.bds_state.specs.Parts.{with_tasks}
use Rattle.bds_engine.specs.Given.{with_planned}
use Rattle.bds_engine.proofs.tables.add_tasks.Given as goal

abbrev pub invariant-loop-i : goal.invariant-loop-i
invariant-loop-i l = record {
  state : l.state ≡ with_tasks (with_planned l.k l.initial.state.rules l.initial.state.tasks (take l.i l.planned)) l.initial.state;
  ids : l.ids ≡ ids_from (length l.initial.state.tasks + 1) (take l.i l.planned);
}
