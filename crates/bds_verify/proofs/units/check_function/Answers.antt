use Rattle.std.proofs.Common.{sym, ◌∙◌}
use Rattle.bds_verify.specs.Pass.{Unwhole}
use Rattle.bds_verify.proofs.Accepts.{verifies, whole-size, whole-rises}
use Rattle.bds_verify.proofs.units.check_function.Goals as goal

pub check_code-requires-clause-rising : goal.check_code-requires-clause-rising
check_code-requires-clause-rising c = whole-rises c.args.unit.now c.args.function.now (sym c.is_whole.ensures ∙ c.if-is_whole.true)

pub check_code-requires-clause-few : goal.check_code-requires-clause-few
check_code-requires-clause-few c = whole-size c.args.unit.now c.args.function.now (sym c.is_whole.ensures ∙ c.if-is_whole.true)

pub returns-then-is_whole-clause-fault : goal.returns-then-is_whole-clause-fault
returns-then-is_whole-clause-fault c = verifies c.args.unit.now c.args.function.now c.check_code.result (sym c.is_whole.ensures ∙ c.if-is_whole.true) c.check_code.ensures.fault

pub returns-else-is_whole-clause-fault : goal.returns-else-is_whole-clause-fault
returns-else-is_whole-clause-fault c = Unwhole (sym c.is_whole.ensures ∙ c.if-is_whole.false)
