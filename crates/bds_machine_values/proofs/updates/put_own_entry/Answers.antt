use Rattle.std.proofs.Common.{[], Ok}
use Rattle.bds_value.specs.Path.{put_key}
use Rattle.bds_machine_values.proofs.Applied.{unput}
use Rattle.bds_machine_values.proofs.updates.put_own_entry.Goals as goal

pub returns-in-Err : goal.returns-in-Err
returns-in-Err c = unput (put_key c.args.key c.args.pairs.now [] c.args.new (λ w. Ok c.args.new)) c.args.pairs.now c.put_entry.new.pairs c.in-Err.fault c.of_place.result c.in-Err.ensures c.of_place.ensures
