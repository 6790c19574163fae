use Rattle.bds_value.proofs.CallLaws.{binary_has}
use Rattle.bds_value.proofs.operators.binary.Goals as goal

pub returns-clause-formed : goal.returns-clause-formed
returns-clause-formed c = binary_has c.args.op c.args.left.now c.args.right.now c.binary_value.result c.binary_value.ensures
