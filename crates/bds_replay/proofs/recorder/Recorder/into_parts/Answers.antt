use Rattle.std.proofs.Common.{subst}
use Rattle.bds_replay.specs.Recorded.{IsRecorded}
use Rattle.bds_replay.proofs.recorder.Recorder.into_parts.Goals as goal

pub returns-clause-recorded : goal.returns-clause-recorded
returns-clause-recorded g c = subst (λ r. IsRecorded g.K.Since.start r) c.self.view_is c.self.invariant
