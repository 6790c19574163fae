use Rattle.std.proofs.Common.{take}
use Rattle.bds_verify.specs.Threads.{Typed}
use Rattle.bds_state_threads.proofs.types.are_of.Given as goal

abbrev pub invariant-loop-i : goal.invariant-loop-i
invariant-loop-i l = Typed (take l.i l.values) (take l.i l.types)
