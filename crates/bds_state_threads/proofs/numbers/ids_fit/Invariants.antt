use Rattle.std.proofs.Common.{take}
use Rattle.std.specs.List.{All}
use Rattle.bds_state_threads.specs.Numbers.{IdFits}
use Rattle.bds_state_threads.proofs.numbers.ids_fit.Given as goal

abbrev pub invariant-loop-i : goal.invariant-loop-i
invariant-loop-i l = All IdFits (take l.i l.ids)
