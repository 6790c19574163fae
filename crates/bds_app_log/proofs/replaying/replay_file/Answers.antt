use Rattle.bds_app_log.specs.Replays.{HoldsNoLog, ReplaysLog}
use Rattle.bds_app_log.proofs.replaying.replay_file.Goals as goal

pub returns-in-Ok-Some : goal.returns-in-Ok-Some
returns-in-Ok-Some g c = c.replay_bytes.ensures _ (rw c.in-Ok-Some.field-0-is at c.in-Ok-Some.ensures)

pub returns-in-Ok-None : goal.returns-in-Ok-None
returns-in-Ok-None g c = ReplaysLog.bad_file _ _ c.tell.result
    (HoldsNoLog.missing (rw c.in-Ok-None.field-0-is at c.in-Ok-None.ensures)) c.tell.ensures

pub returns-in-Err : goal.returns-in-Err
returns-in-Err g c = c.not_read.ensures _ c.in-Err.ensures
