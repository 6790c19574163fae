use Rattle.std.proofs.Common.{take}
use Rattle.bds_tasks.specs.Makers.{AreMakersOf}
use Rattle.bds_tasks.proofs.makers.put_tasks.Given as goal

abbrev pub invariant-loop-i : goal.invariant-loop-i
invariant-loop-i l = AreMakersOf l.tasks (take l.i l.tasks) l.makers.entries
