use Rattle.bds_value.proofs.CallLaws.{default_has}
use Rattle.bds_value.proofs.defaults.default_of.Goals as goal

pub returns-clause-formed : goal.returns-clause-formed
returns-clause-formed c = default_has c.args.ty.now c.default_value.result c.requires c.default_value.ensures.value
