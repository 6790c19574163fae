use Rattle.bds_app_run.specs.Commands.{ChecksScript}
use Rattle.bds_app_run.proofs.checking.check_script.Goals as goal

pub returns-in-Ok : goal.returns-in-Ok
returns-in-Ok g c = ChecksScript.accepted _ _ c.accept.result c.in-Ok.ensures.loads c.accept.ensures
