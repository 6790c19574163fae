use Rattle.bds_machine_values.proofs.Applied.{called_stops}
use Rattle.bds_machine_values.proofs.methods.result_of.Goals as goal

pub returns-in-Err : goal.returns-in-Err
returns-in-Err c = called_stops c.args.method c.args.receiver.now c.args.args.now c.in-Err.fault c.of_method.result c.requires c.in-Err.ensures.value c.of_method.ensures
