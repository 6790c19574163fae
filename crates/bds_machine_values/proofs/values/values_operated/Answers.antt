use Rattle.bds_machine_values.specs.Results.{applied}
use Rattle.bds_machine_values.proofs.Updating.{some_first}
use Rattle.bds_machine_values.proofs.values.values_operated.Goals as goal

pub operate-requires : goal.operate-requires
operate-requires c = some_first (applied c.args.op c.args.left c.args.right) _ c.requires
