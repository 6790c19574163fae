use Rattle.bds_state.specs.Held.{AreHeld}
use Rattle.bds_state.proofs.held.look_at_all.Given as goal

abbrev pub invariant-loop-k : goal.invariant-loop-k
invariant-loop-k l = AreHeld l.threads l.tasks l.held
