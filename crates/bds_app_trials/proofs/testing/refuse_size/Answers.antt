use Rattle.std.proofs.Common.{inl, refl}
use Rattle.bds_app_run.specs.Telling.{Says}
use Rattle.bds_app_trials.proofs.testing.refuse_size.Goals as goal

pub returns-in-Err : goal.returns-in-Err
returns-in-Err g c = Says.no_memory (inl refl)
