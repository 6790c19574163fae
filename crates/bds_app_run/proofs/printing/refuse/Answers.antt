use Rattle.std.proofs.Common.{Ok, Err}
use Rattle.bds_app_run.specs.Ways.{at_end}
use Rattle.bds_app_run.proofs.Leading.{refusal_told, refusal_untold}
use Rattle.bds_app_run.proofs.Quiet.{quiet_refused}
use Rattle.bds_app_run.proofs.printing.refuse.Goals as goal

pub returns-in-Ok-clause-reaches : goal.returns-in-Ok-clause-reaches
returns-in-Ok-clause-reaches g c = λ call. refusal_told call c.args.fault _ _ (Ok tt) c.in-Ok.ensures

pub returns-in-Err-clause-reaches : goal.returns-in-Err-clause-reaches
returns-in-Err-clause-reaches g c = λ call. refusal_untold call c.args.fault _ _ at_end c.in-Err.stop c.in-Err.ensures

pub returns-in-Ok-clause-quiet : goal.returns-in-Ok-clause-quiet
returns-in-Ok-clause-quiet g c = quiet_refused c.args.fault _ _ (Ok tt) c.in-Ok.ensures

pub returns-in-Err-clause-quiet : goal.returns-in-Err-clause-quiet
returns-in-Err-clause-quiet g c = quiet_refused c.args.fault _ _ (Err c.in-Err.stop) c.in-Err.ensures
