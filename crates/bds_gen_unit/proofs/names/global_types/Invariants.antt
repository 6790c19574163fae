use Rattle.std.proofs.Common.{◌≡◌, ◌++◌, drop, map}
use Rattle.bds_gen_unit.proofs.names.global_types.Given as goal

abbrev pub invariant-loop-global : goal.invariant-loop-global
invariant-loop-global l = l.types ++ map (λ g. g.variable.ty) (drop l.global-index l.globals) ≡ map (λ g. g.variable.ty) l.globals
