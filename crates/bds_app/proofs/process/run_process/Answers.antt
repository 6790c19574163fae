use Rattle.std.proofs.Common.{map, string_bytes}
use Rattle.bds_app.specs.Ending.EndsProcess.{answered}
use Rattle.bds_app.proofs.process.run_process.Goals as goal

pub returns-in-Ok : goal.returns-in-Ok
returns-in-Ok g c = answered (map string_bytes c.as_slice.result.now) c.run.ensures
