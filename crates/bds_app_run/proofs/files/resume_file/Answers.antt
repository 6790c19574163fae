use Rattle.bds_app_run.specs.Commands.{GoesOnTo, OpensFile}
use Rattle.bds_app_run.proofs.Commands.{opens_refused}
use Rattle.bds_app_run.proofs.files.resume_file.Goals as goal

pub returns-in-Ok : goal.returns-in-Ok
returns-in-Ok g c = OpensFile.held c.in-Ok.state _ c.go_on.result c.in-Ok.ensures c.go_on.ensures

pub returns-in-Err : goal.returns-in-Err
returns-in-Err g c = opens_refused c.args.path (GoesOnTo c.args.cpus c.args.ticks) _ _ c.refuse_file.result (c.refuse_file.ensures c.args.path _ c.in-Err.ensures)
