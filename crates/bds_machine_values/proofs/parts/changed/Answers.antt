use Rattle.bds_machine_values.proofs.Applied.{mutated_stops}
use Rattle.bds_machine_values.proofs.parts.changed.Goals as goal

pub returns-in-Err : goal.returns-in-Err
returns-in-Err c = mutated_stops c.args.what c.args.part c.change.new.place c.args.args c.in-Err.fault c.of_method.result c.requires c.in-Err.ensures.value c.of_method.ensures
