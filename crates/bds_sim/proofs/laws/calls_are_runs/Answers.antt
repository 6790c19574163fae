use Rattle.bds_sim.proofs.Called.{calls_are_runs}
use Rattle.bds_sim.proofs.laws.calls_are_runs.Goals as goal

pub returns : goal.returns
returns c = λ u files image. calls_are_runs u files image
