use Rattle.bds_app_run.specs.Commands.{OpensFile}
use Rattle.bds_app_run.specs.Telling.{Prints}
use Rattle.bds_tools.specs.Info.{info_text}
use Rattle.bds_app_run.proofs.Commands.{opens_refused}
use Rattle.bds_app_run.proofs.files.describe_file.Goals as goal

pub returns-in-Ok : goal.returns-in-Ok
returns-in-Ok g c = OpensFile.held c.in-Ok.state _ c.describe.result c.in-Ok.ensures c.describe.ensures

pub returns-in-Err : goal.returns-in-Err
returns-in-Err g c = opens_refused c.args.path (λ s. Prints (info_text s)) _ _ c.refuse_file.result (c.refuse_file.ensures c.args.path _ c.in-Err.ensures)
