use Rattle.std.proofs.Common.{refl}
use Rattle.bds_app.specs.Answers.{MakesRun}
use Rattle.bds_app.proofs.making.make_and_run.Goals as goal

pub returns-in-Err : goal.returns-in-Err
returns-in-Err g c = MakesRun.no_memory refl
