use Rattle.bds_state.specs.Held.{AreHeld}
use Rattle.bds_state.proofs.held.look_at_each.Given as goal

abbrev pub invariant-loop-i : goal.invariant-loop-i
invariant-loop-i l = AreHeld l.threads l.tasks l.held
