use Rattle.bds_code_frames.specs.Stack.{stack}
use Rattle.bds_machine_values.proofs.Pairing.{Filled}
use Rattle.bds_machine_values.proofs.literals.take_pairs.Given as goal

abbrev pub invariant-loop : goal.invariant-loop
invariant-loop l = Filled (stack l.fn.frames) l.counter (stack l.frames) l.made
