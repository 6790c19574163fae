use Rattle.std.proofs.Common.{refl}
use Rattle.bds_app.specs.Answers.{MakesRun}
use Rattle.bds_app.proofs.making.tell_if_made.Goals as goal

pub returns-else-number : goal.returns-else-number
returns-else-number g c = MakesRun.no_memory refl
