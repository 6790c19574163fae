use Rattle.bds_machine_values.proofs.Applied.{put_stops}
use Rattle.bds_machine_values.proofs.updates.replace_part.Goals as goal

pub returns-in-Err : goal.returns-in-Err
returns-in-Err c = put_stops c.args.path.now c.args.value.now c.args.new c.put_path.new.value c.in-Err.fault c.of_place.result c.requires c.in-Err.ensures.put c.of_place.ensures
