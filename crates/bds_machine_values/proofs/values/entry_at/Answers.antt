use Rattle.bds_machine_values.proofs.Walks.{map_there}
use Rattle.bds_machine_values.proofs.values.entry_at.Goals as goal

pub unreachable-requires : goal.unreachable-requires
unreachable-requires c = let map = map_there c.args.key.now c.args.value.now c.requires in c.in_default.not-Map map.0 map.1 map.2
