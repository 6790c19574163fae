use Rattle.std.proofs.Common.{refl}
use Rattle.bds_app_trials.specs.Testing.{TestsLoaded}
use Rattle.bds_app_trials.proofs.testing.run_named.Goals as goal

pub returns-in-Err : goal.returns-in-Err
returns-in-Err g c = λ t h own. TestsLoaded.no_memory refl
