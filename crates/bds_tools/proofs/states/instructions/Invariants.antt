use Rattle.std.proofs.Common.{◌≡◌, take}
use Rattle.bds_tools.specs.Info.{instructions}
use Rattle.bds_tools.proofs.states.instructions.Given as goal

-- the instructions of the functions so far
abbrev pub invariant-loop-function : goal.invariant-loop-function
invariant-loop-function l = l.total ≡ instructions (take l.function-index l.unit.functions)
