use Rattle.std.proofs.Common.{take}
use Rattle.std.specs.List.{All}
use Rattle.bds_value.specs.Fields.{NumbersFit}
use Rattle.bds_state_threads.proofs.numbers.all_numbers_fit.Given as goal

abbrev pub invariant-loop-value : goal.invariant-loop-value
invariant-loop-value l = All NumbersFit (take l.value-index l.values)
