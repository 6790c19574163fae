use Rattle.std.proofs.Common.{sym, ◌∙◌}
use Rattle.bds_verify.specs.Pass.{OfUnit}
use Rattle.bds_verify.proofs.Accepts.{few_functions, verifies_unit}
use Rattle.bds_verify.proofs.units.check_unit.Goals as goal

pub check_functions-requires-clause-few : goal.check_functions-requires-clause-few
check_functions-requires-clause-few c = few_functions c.args.unit.now (sym c.is_whole_unit.ensures ∙ c.if-is_whole_unit.true)

pub returns-then-is_whole_unit-clause-fault : goal.returns-then-is_whole_unit-clause-fault
returns-then-is_whole_unit-clause-fault c = verifies_unit c.args.unit.now c.check_functions.result (sym c.is_whole_unit.ensures ∙ c.if-is_whole_unit.true) c.check_functions.ensures.fault

pub returns-else-is_whole_unit-clause-fault : goal.returns-else-is_whole_unit-clause-fault
returns-else-is_whole_unit-clause-fault c = OfUnit (sym c.is_whole_unit.ensures ∙ c.if-is_whole_unit.false)
