use Rattle.bds_app_run.proofs.Beginning.{unloaded_reaches, untold_reaches}
use Rattle.bds_app_run.proofs.Quiet.{nothing_added}
use Rattle.bds_app_run.proofs.scripts.refuse_script.Goals as goal

pub returns-in-Ok-clause-reaches : goal.returns-in-Ok-clause-reaches
returns-in-Ok-clause-reaches g c = λ call before begun. unloaded_reaches call before _ _ c.args.fault _ c.refuse.result c.in-Ok.ensures begun (c.refuse.ensures.reaches call)

pub returns-in-Err-clause-reaches : goal.returns-in-Err-clause-reaches
returns-in-Err-clause-reaches g c = λ call before begun. untold_reaches call before _ c.args.fault c.in-Err.stop c.in-Err.ensures begun

pub returns-in-Ok-clause-quiet : goal.returns-in-Ok-clause-quiet
returns-in-Ok-clause-quiet g c = c.refuse.ensures.quiet

pub returns-in-Err-clause-quiet : goal.returns-in-Err-clause-quiet
returns-in-Err-clause-quiet g c = nothing_added _
