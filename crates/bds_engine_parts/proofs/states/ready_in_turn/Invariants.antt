use Rattle.std.proofs.Common.{◌-◌, length}
use Rattle.bds_state.specs.Ready.{ready}
use Rattle.bds_engine_parts.proofs.Finding.{IsFinding}
use Rattle.bds_engine_parts.proofs.states.ready_in_turn.Given as goal

abbrev pub invariant-loop-k : goal.invariant-loop-k
invariant-loop-k l = IsFinding l.state l.numbers l.after

abbrev pub decreases-loop-k : goal.decreases-loop-k
decreases-loop-k l = length (ready l.state.threads l.state.tasks) - length l.numbers
