use Rattle.std.proofs.Common.{◌≡◌, map, take}
use Rattle.bds_value.specs.Value.{default_of}
use Rattle.bds_state_threads.proofs.made.defaults.Given as goal

abbrev pub invariant-loop-ty : goal.invariant-loop-ty
invariant-loop-ty l = l.values ≡ map default_of (take l.ty-index l.types)
