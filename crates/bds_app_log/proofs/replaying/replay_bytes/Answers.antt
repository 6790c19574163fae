use Rattle.bds_app_log.specs.Replays.{ReplaysLog}
use Rattle.bds_app_log.proofs.replaying.replay_bytes.Goals as goal

pub returns-in-Ok : goal.returns-in-Ok
returns-in-Ok g c = λ before read. ReplaysLog.held _ _ c.replay.result
    (record { bytes = c.args.bytes.now; read = read; is = c.in-Ok.ensures.loads }) c.replay.ensures

pub returns-in-Err : goal.returns-in-Err
returns-in-Err g c = λ before read. c.refuse_log.ensures before c.args.bytes.now read c.in-Err.ensures.exact
