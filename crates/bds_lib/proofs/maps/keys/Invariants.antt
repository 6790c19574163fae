use Rattle.std.proofs.Common.{◌≡◌, ◌++◌, ℕ, List}
use Rattle.bds_value.specs.declared.value.Value.{Value}
use Rattle.bds_lib.specs.Maps.{keys}
use Rattle.bds_lib.proofs.maps.keys.Given as goal

abbrev pub invariant-loop-key : goal.invariant-loop-key
invariant-loop-key l = l.found ++ keys l.key-iterator ≡ keys l.pairs
