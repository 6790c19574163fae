use Rattle.std.proofs.Common.{take}
use Rattle.std.specs.List.{All}
use Rattle.bds_code.specs.UnitFields.{LineFits}
use Rattle.bds_state_threads.proofs.units.lines_fit.Given as goal

abbrev pub invariant-loop-i : goal.invariant-loop-i
invariant-loop-i l = All LineFits (take l.i l.lines)
