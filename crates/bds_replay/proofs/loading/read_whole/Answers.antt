use Rattle.bds_replay.specs.Loading.{unread}
use Rattle.bds_replay.proofs.NeverRising.{log_never_rises}
use Rattle.bds_replay.proofs.loading.read_whole.Goals as goal

pub field_fault-requires : goal.field_fault-requires
field_fault-requires c =
    log_never_rises (unread c.args.bytes) c.read_there.new.input c.in-Err.fault c.in-Err.ensures.read
