use Rattle.std.proofs.Common.{◌≡◌, ◌++◌, length, drop}
use Rattle.bds_gen_stmt.specs.FunctionCode.{types_of}
use Rattle.bds_gen_stmt.specs.UnitCode.{parameter_locals}
use Rattle.bds_gen_unit.proofs.functions.parameters_of.Given as goal

abbrev pub invariant-loop-parameter : goal.invariant-loop-parameter
invariant-loop-parameter l = record {
  locals : l.parameters.locals ++ parameter_locals (drop l.parameter-index l.declared) (length l.parameters.types) ≡ parameter_locals l.declared 0;
  types : l.parameters.types ≡ types_of l.parameters.locals;
}
