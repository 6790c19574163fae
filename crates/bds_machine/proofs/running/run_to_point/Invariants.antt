use Rattle.std.specs.Prelude.{slice_get, Some, ◌≡◌}
use Rattle.bds_code_frames.specs.Stack.{stack}
use Rattle.bds_machine.specs.Weight.{weight}
use Rattle.bds_machine.proofs.Threads.{IsOnWay}
use Rattle.bds_machine.proofs.running.run_to_point.Given as goal

abbrev pub invariant-loop-point : goal.invariant-loop-point
invariant-loop-point l =
    IsOnWay l.unit l.fn.thread l.fn.ticks l.thread l.ticks × (slice_get l.unit.functions l.number ≡ Some l.function)

abbrev pub decreases-loop-point : goal.decreases-loop-point
decreases-loop-point l = weight l.unit (stack l.thread.frames) l.ticks
