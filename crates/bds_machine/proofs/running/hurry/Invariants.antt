use Rattle.std.specs.Prelude.{Some, ◌≡◌}
use Rattle.bds_code_frames.specs.Stack.{stack, place_of}
use Rattle.bds_machine.specs.Stretches.{Came}
use Rattle.bds_machine.specs.Weight.{weight}
use Rattle.bds_machine.proofs.running.hurry.Given as goal

abbrev pub invariant-loop-next : goal.invariant-loop-next
invariant-loop-next l = Came l.unit l.fn.globals (stack l.fn.frames) l.fn.ticks l.globals (stack l.frames) l.ticks
    × (place_of (stack l.frames) ≡ Some (l.number, l.at))

abbrev pub decreases-loop-next : goal.decreases-loop-next
decreases-loop-next l = weight l.unit (stack l.frames) l.ticks
