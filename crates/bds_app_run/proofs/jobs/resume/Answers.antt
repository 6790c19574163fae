use Rattle.std.proofs.Common.{inl, refl}
use Rattle.bds_app_run.specs.Commands.{OpensFile}
use Rattle.bds_app_run.proofs.jobs.resume.Goals as goal

pub returns-in-Err : goal.returns-in-Err
returns-in-Err g c = OpensFile.unloaded (inl (inl refl))
