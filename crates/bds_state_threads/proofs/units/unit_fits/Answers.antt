use Rattle.std.proofs.Common.{subst}
use Rattle.std.specs.List.{All}
use Rattle.bds_code.specs.UnitFields.{FunctionFits}
use Rattle.bds_state_threads.proofs.units.unit_fits.Goals as goal

pub returns : goal.returns
returns c = subst (All FunctionFits) c.as_slice.ensures c.functions_fit.ensures
