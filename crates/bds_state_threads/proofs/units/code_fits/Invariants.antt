use Rattle.std.proofs.Common.{take}
use Rattle.std.specs.List.{All}
use Rattle.bds_code.specs.UnitFields.{NumbersFit}
use Rattle.bds_state_threads.proofs.units.code_fits.Given as goal

abbrev pub invariant-loop-instr : goal.invariant-loop-instr
invariant-loop-instr l = All NumbersFit (take l.instr-index l.code)
