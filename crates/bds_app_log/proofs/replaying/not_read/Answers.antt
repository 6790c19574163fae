use Rattle.bds_app_run.specs.Asks.{IsRead}
use Rattle.bds_app_log.specs.Replays.{ReplaysLog}
use Rattle.std.proofs.Common.{Err, subst}
use Rattle.bds_app_log.proofs.replaying.not_read.Goals as goal

pub returns-in-Fault : goal.returns-in-Fault
returns-in-Fault g c = λ before read. ReplaysLog.unread _ c.tell_device.result
    (subst (λ s. IsRead c.args.path before (g.H.Host.log c.args.host.now) (Err s)) c.in-Fault.is read)
    c.tell_device.ensures

pub returns : goal.returns
returns g c = λ before read. ReplaysLog.no_room
    (subst (λ s. IsRead c.args.path before (g.H.Host.log c.args.host.now) (Err s)) c.in-NoMemory.is read)
