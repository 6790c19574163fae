use Rattle.std.proofs.Common.{take}
use Rattle.std.specs.List.{All}
use Rattle.bds_code.specs.UnitFields.{FunctionFits}
use Rattle.bds_state_threads.proofs.units.functions_fit.Given as goal

abbrev pub invariant-loop-function : goal.invariant-loop-function
invariant-loop-function l = All FunctionFits (take l.function-index l.functions)
