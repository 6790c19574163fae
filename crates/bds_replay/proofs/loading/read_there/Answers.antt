use Rattle.std.proofs.Common.{subst}
use Rattle.bds_value.specs.Fields.{AreBytes}
use Rattle.bds_replay.proofs.Loads.{read_stretch}
use Rattle.bds_replay.proofs.loading.read_there.Goals as goal

pub returns-clause-stretch : goal.returns-clause-stretch
returns-clause-stretch c =
    read_stretch c.args.input.now c.read_fields.new.input c.read_fields.result
    (subst AreBytes c.as_slice.ensures c.are_bytes.ensures) c.read_fields.ensures.read
