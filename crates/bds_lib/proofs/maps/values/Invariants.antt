use Rattle.std.proofs.Common.{◌≡◌, ◌++◌}
use Rattle.bds_lib.specs.Maps.{values}
use Rattle.bds_lib.proofs.maps.values.Given as goal

abbrev pub invariant-loop-value : goal.invariant-loop-value
invariant-loop-value l = l.found ++ values l.value-iterator ≡ values l.pairs
