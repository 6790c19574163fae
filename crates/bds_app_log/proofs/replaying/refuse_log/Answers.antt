use Rattle.std.proofs.Common.{◌∙◌, sym}
use Rattle.bds_app_log.specs.Replays.{HoldsNoLog, ReplaysLog}
use Rattle.bds_app_log.proofs.Replayed.{are_no_log}
use Rattle.bds_app_log.proofs.replaying.refuse_log.Goals as goal

pub returns-then-is_want : goal.returns-then-is_want
returns-then-is_want g c = λ before bytes read exact. ReplaysLog.unloaded bytes read

pub returns-else-is_want : goal.returns-else-is_want
returns-else-is_want g c = λ before bytes read exact.
    ReplaysLog.bad_file _ _ c.tell.result (HoldsNoLog.not_loadable bytes read
    (are_no_log c.args.fault bytes (sym c.is_want.ensures ∙ c.if-is_want.false) exact)) c.tell.ensures
