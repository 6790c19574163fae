use Rattle.std.proofs.Common.{◌≡◌, drop}
use Rattle.bds_gen_size.specs.Behind.{with_parameters}
use Rattle.bds_gen_size.proofs.script.declare_parameters.Given as goal

abbrev pub invariant-loop-parameter : goal.invariant-loop-parameter
invariant-loop-parameter l = with_parameters l.scope (drop l.parameter-index l.parameters) ≡ with_parameters l.fn.scope l.parameters
