use Rattle.bds_value.proofs.CallLaws.{item_has, item_never_long}
use Rattle.bds_value.proofs.path.item.Goals as goal

pub returns-clause-short : goal.returns-clause-short
returns-clause-short c = item_never_long c.args.path.now c.args.value.now c.part_at.result c.part_at.ensures

pub returns-clause-formed : goal.returns-clause-formed
returns-clause-formed c = item_has c.args.path.now c.args.value.now c.part_at.result c.part_at.ensures
