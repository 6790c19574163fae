use Rattle.std.proofs.Common.{◌≡◌, ◌++◌, drop, map}
use Rattle.bds_check.proofs.globals.parameter_types.Given as goal

abbrev pub invariant-loop-parameter : goal.invariant-loop-parameter
invariant-loop-parameter l = l.types ++ map (λ p. p.ty) (drop l.parameter-index l.parameters) ≡ map (λ p. p.ty) l.parameters
