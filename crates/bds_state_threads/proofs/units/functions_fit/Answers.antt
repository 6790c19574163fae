use Rattle.std.proofs.Common.{subst}
use Rattle.std.specs.List.{All}
use Rattle.std.proofs.lemmas.List.{take_all}
use Rattle.std.proofs.lemmas.List.Elements.{All-more}
use Rattle.bds_code.specs.UnitFields.{FunctionFits}
use Rattle.bds_state_threads.proofs.units.functions_fit.Goals as goal

pub loop-function-preserved : goal.loop-function-preserved
loop-function-preserved c =
    All-more FunctionFits c.args.functions.now c.loop-function.function-index c.function-item.result c.loop-function-test.true c.loop-function.invariant (subst FunctionFits c.function-item.is c.function_fits.ensures)

pub returns : goal.returns
returns c = subst (All FunctionFits) (take_all c.loop-function.function-index c.args.functions.now c.loop-function-test.false) c.loop-function.invariant
