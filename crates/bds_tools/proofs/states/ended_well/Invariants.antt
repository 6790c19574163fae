use Rattle.std.proofs.Common.{◌≡◌, take}
use Rattle.std.specs.List.{count_by}
use Rattle.bds_tasks.specs.Tasks.{is_good}
use Rattle.bds_tools.proofs.states.ended_well.Given as goal

-- the good ends so far
abbrev pub invariant-loop-task : goal.invariant-loop-task
invariant-loop-task l = l.count ≡ count_by is_good (take l.task-index l.tasks)
