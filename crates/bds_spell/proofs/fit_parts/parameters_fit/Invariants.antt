use Rattle.std.proofs.Common.{◌≡◌, drop}
use Rattle.bds_spell.specs.StmtFits.{parameters_fit}
use Rattle.bds_spell.proofs.fit_parts.parameters_fit.Given as goal

abbrev pub invariant-loop-parameter : goal.invariant-loop-parameter
invariant-loop-parameter l = parameters_fit l.parameters l.most ≡ parameters_fit (drop l.parameter-index l.parameters) l.most
